mod Escapes
mod Growing
