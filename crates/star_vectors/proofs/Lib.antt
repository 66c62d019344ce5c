mod Filling
mod Spelling
mod Decoding
mod Differing
