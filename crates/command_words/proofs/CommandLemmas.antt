-- The command of words, by their verb.
use Rattle.std.proofs.Common.{◌≡◌, ◌∙◌, List, [], ◌∷◌, Option, Some, None, option_and_then, Result, Ok, Err, IfOk, refl, sym, ap}
use Rattle.std.specs.Option.{ok_or}
use Rattle.command_words.specs.Options.{Text}
use Rattle.command_words.specs.Verb.{verb_of}
use Rattle.command_words.specs.Words.{command_of, command_with}
use Rattle.command_words.specs.declared.command.Command.{Command}
use Rattle.command_words.specs.declared.verb.Verb.{Verb}
use Rattle.command_words.specs.declared.command.WordsError.{WordsError}
use Rattle.command_words.specs.declared.command.WordsError.TheVariants.{Usage}

-- ---- each verb

-- the command of a word that is a verb
pub command_of-verb : (word : Text) (words : List Text) (verb : Verb) → verb_of word ≡ Some verb → command_of (word ∷ words) ≡ command_with verb words
unfolding command_of
command_of-verb word words verb is = ap (option_and_then (λ v. command_with v words)) is

-- and of one that is none
pub command_of-other : (word : Text) (words : List Text) → verb_of word ≡ None → command_of (word ∷ words) ≡ None
unfolding command_of
command_of-other word words is = ap (option_and_then (λ v. command_with v words)) is

-- no words are no command
pub command_of-none : command_of [] ≡ None
unfolding command_of
command_of-none = refl

-- ---- an answer by an option

-- an answer `Ok` has that command
pub answer-ok : (wanted given : Option Command) (answer : Result Command WordsError) → wanted ≡ given → answer ≡ ok_or given Usage
    → IfOk answer (λ command. wanted ≡ Some command)
answer-ok wanted None answer same is = rw is tt
answer-ok wanted (Some command) answer same is = rw is same

-- and an answer `Usage` comes where there is none
pub answer-usage : (wanted given : Option Command) (answer : Result Command WordsError) → wanted ≡ given → answer ≡ ok_or given Usage
    → answer ≡ Err Usage → wanted ≡ None
answer-usage wanted None answer same is usage = same
answer-usage wanted (Some command) answer same is usage = let bad : Ok command ≡ Err Usage = sym is ∙ usage in cc bad
