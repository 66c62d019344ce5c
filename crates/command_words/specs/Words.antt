-- What the words of the command line ask for: a verb, and the options of that verb.
use Rattle.std.specs.Prelude.{⊤, List, [], ◌∷◌, Option, None, option_and_then}
use Rattle.report_frame.specs.Thresholds.{AreThresholds}
use Rattle.report_frame.specs.declared.version.Version.TheVariants.{One}
use Rattle.command_words.specs.Generate.{IsTrial}
use Rattle.command_words.specs.Options.{Text, options_of}
use Rattle.command_words.specs.Verb.{verb_of, names_of, command_by}
use Rattle.command_words.specs.Workers.{AreWorkers}
use Rattle.command_words.specs.declared.command.Command.{Command}
use Rattle.command_words.specs.declared.command.Command.TheVariants.{Check, Reveal, Make, Gen, SelfTest, Expect, Book, Merge, OpenBook, Certify, Audit, Epochs}
use Rattle.command_words.specs.declared.verb.Verb.{Verb}

-- the command of a verb by the words after it, or none
abbrev pub command_with : Verb → List Text → Option Command
command_with verb words = option_and_then (λ options. command_by verb options) (options_of (names_of verb) words)

-- the command of the words, or none: the first word is the verb
unfoldable pub command_of : List Text → Option Command
command_of [] = None
command_of (word ∷ words) = option_and_then (λ verb. command_with verb words) (verb_of word)

-- what a command has of thresholds, workers, reports and liars is good
abbrev pub HasGoodOptions : Command → Type 0
HasGoodOptions Check = ⊤
HasGoodOptions (Reveal epoch workers) = AreWorkers workers
HasGoodOptions (Make epoch version thresholds seed) = AreThresholds version thresholds
HasGoodOptions (Gen number reports liars workers) = IsTrial reports liars × AreWorkers workers
HasGoodOptions SelfTest = ⊤
HasGoodOptions (Expect epoch thresholds seed) = AreThresholds One thresholds
HasGoodOptions (Book epoch) = ⊤
HasGoodOptions (Merge epoch) = ⊤
HasGoodOptions (OpenBook epoch workers) = AreWorkers workers
HasGoodOptions (Certify epoch) = ⊤
HasGoodOptions Audit = ⊤
HasGoodOptions (Epochs workers) = AreWorkers workers
