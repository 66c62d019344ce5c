mod NumberLemmas
mod OptionReading
mod ParseLemmas
mod VerbRules
mod VerbWalk
mod OptionPairs
mod ThresholdLemmas
mod CommandLemmas
