mod Ordered
mod Sums
mod RuleKept
