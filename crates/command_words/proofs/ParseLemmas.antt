-- What `clap` says of the parse of a verb whose options each take one text.
use Rattle.std.proofs.Common.{◌≡◌, ◌≢◌, ◌∙◌, ℕ, Bool, true, false, List, [], ◌∷◌, map, Option, Some, None, MatchOption, inl, inr, refl, sym, ap, subst}
use Rattle.std.specs.Borrow.{Bor}
use Rattle.std.specs.List.{list_all, list_any}
use Rattle.std.specs.Str.{bytes_eq}
use Rattle.std.proofs.lemmas.Bool.{cases_Bool}
use Rattle.std.proofs.lemmas.List.Folds.{list_all-map}
use Rattle.clap.specs.Kinds.{HasKind, Kinds}
use Rattle.clap.specs.Simple.{App, is_simple, matches_of}
use Rattle.clap.specs.Faults.{fault_of, is_simple_and_free}
use Rattle.clap.specs.Walk.{Row, first_of, is_early_multiple, rows_of}
use Rattle.clap.specs.Matches.{first_value}
use Rattle.clap.specs.Values.{kind_of}
use Rattle.clap.specs.declared.error.Error.{Error}
use Rattle.clap.specs.declared.error.kind.ErrorKind.TheVariants as kind
use Rattle.clap.specs.declared.parser.matches.Found.{Found}
use Rattle.clap.proofs.WalkLemmas.{first_value-rows}
use Rattle.command_words.specs.Parse.{first_text, is_option_word, option_rule, pairs_in, verb_app}
use Rattle.command_words.specs.Options.{Text, Pair, options_of, texts_of, value_of}
use Rattle.command_words.proofs.OptionPairs.{options-read}
use Rattle.command_words.proofs.VerbRules.{built_rule, filled-options, option_row}
use Rattle.command_words.proofs.VerbWalk.{options-agree}

-- ---- the command is one whose matches and faults `clap` states

-- each rule is simple
all-simple : (names : List Text) → list_all (λ a. a.is_simple) (map option_rule names) ≡ true
all-simple [] = refl
all-simple (n ∷ ns) = all-simple ns

-- also once it is built
all-built_simple : (names : List Text) → list_all (λ a. a.is_simple) (map built_rule names) ≡ true
all-built_simple [] = refl
all-built_simple (n ∷ ns) = all-built_simple ns

-- no rule rests on another
all-free : (names : List Text) → list_all (λ a. a.is_free) (map built_rule names) ≡ true
all-free [] = refl
all-free (n ∷ ns) = all-free ns

-- no option has a place
all-in_order : (count : ℕ) (names : List Text) → list_any (is_early_multiple count) (map built_rule names) ≡ false
all-in_order count [] = refl
all-in_order count (n ∷ ns) = all-in_order count ns

-- `clap` states the matches of the command
pub verb-simple : (verb : Text) (names : List Text) → is_simple (verb_app verb names) ≡ true
verb-simple verb names = rw (all-simple, filled-options, all-built_simple, all-in_order) refl

-- and its faults
pub verb-simple_and_free : (verb : Text) (names : List Text) → is_simple_and_free (verb_app verb names) ≡ true
verb-simple_and_free verb names = rw (verb-simple verb names, filled-options, all-free) refl

-- ---- what was found

-- the first text of a name is its value
first_of-rows : (given : List Pair) (name : Text) → first_of name (map option_row given) ≡ value_of given name
first_of-rows [] name = refl
first_of-rows (p ∷ ps) name = elim (cases_Bool (bytes_eq p.0 name)) [ inl e ↦ rw e refl | inr e ↦ rw e (first_of-rows ps name) ]

-- the rows of options show them
pairs-rows : (given : List Pair) → map (λ row. (row.id, first_text row.values)) (map option_row given) ≡ given
pairs-rows [] = refl
pairs-rows (p ∷ ps) = ap (λ (rest : List Pair). p ∷ rest) (pairs-rows ps)

-- the rows of options that were given show those options
pub found-pairs : (found : Found) (given : List Pair) → rows_of found ≡ map option_row given → pairs_in found ≡ given
found-pairs found given rows = ap (map (λ row. (row.id, first_text row.values))) rows ∙ pairs-rows given

-- and what `get_str` gives is their value
pub found-value : (found : Found) (given : List Pair) (name : Text) → rows_of found ≡ map option_row given → first_value found name ≡ value_of (pairs_in found) name
found-value found given name rows =
    first_value-rows found name ∙ ap (first_of name) rows ∙ first_of-rows given name ∙ ap (λ (pairs : List Pair). value_of pairs name) (sym (found-pairs found given rows))

-- ---- the outcome

module _ (verb : Text) (names words : List Text) (plain : list_all is_option_word words ≡ true) where
  -- the command
  abbrev app : App
  app = verb_app verb names

  -- it has the options of the words, or a fault
  agreed : MatchOption (options_of names words) (fault_of app words ≢ []) (λ given. (fault_of app words ≡ []) × (matches_of app words ≡ map option_row given))
  agreed = subst (λ (o : Option (List Pair)). MatchOption o (fault_of app words ≢ []) (λ given. (fault_of app words ≡ []) × (matches_of app words ≡ map option_row given)))
      (options-read names words plain) (options-agree verb names words plain)

  -- where there is no fault, the rows are those of the verb's options
  pub options-parsed : (own : App) (rows : List Row) → own ≡ app → (is_simple own ≡ true → rows ≡ matches_of own words)
      → (is_simple_and_free own ≡ true → fault_of own words ≡ []) → (given : List Pair) × (rows ≡ map option_row given) × (options_of names words ≡ Some given)
  options-parsed own rows is simple free =
      let rows_are = simple (ap is_simple is ∙ verb-simple verb names) ∙ ap (λ (a : App). matches_of a words) is in
      let none = sym (ap (λ (a : App). fault_of a words) is) ∙ free (ap is_simple_and_free is ∙ verb-simple_and_free verb names) in
      go rows rows_are none (options_of names words) refl agreed
    where
      go : (rows : List Row) → rows ≡ matches_of app words → fault_of app words ≡ [] → (o : Option (List Pair)) → options_of names words ≡ o
          → MatchOption o (fault_of app words ≢ []) (λ given. (fault_of app words ≡ []) × (matches_of app words ≡ map option_row given))
          → (given : List Pair) × (rows ≡ map option_row given) × (options_of names words ≡ Some given)
      go rows rows_are none None e h = absurd (h none)
      go rows rows_are none (Some given) e h = (given, rows_are ∙ h.1, e)

  -- and where there is one beside memory, the words have no options
  pub options-refused : (own : App) (error : Error) → own ≡ app → (is_simple_and_free own ≡ true → HasKind (fault_of own words) error)
      → kind_of error ≢ kind.OutOfMemory → options_of names words ≡ None
  options-refused own error is free other =
      let kinds = subst (λ (faults : Kinds). HasKind faults error) (ap (λ (a : App). fault_of a words) is) (free (ap is_simple_and_free is ∙ verb-simple_and_free verb names)) in
      go (fault_of app words) kinds other (options_of names words) refl agreed
    where
      go : (faults : Kinds) → HasKind faults error → kind_of error ≢ kind.OutOfMemory → (o : Option (List Pair)) → options_of names words ≡ o
          → MatchOption o (faults ≢ []) (λ given. (faults ≡ []) × (matches_of app words ≡ map option_row given)) → options_of names words ≡ None
      go faults kinds other None e h = e
      go [] kinds other (Some given) e h = elim kinds [ inl memory ↦ absurd (other memory) | inr among ↦ absurd among ]
      go (k ∷ ks) kinds other (Some given) e h = absurd (kind-some h.0)
        where
          kind-some : k ∷ ks ≡ [] → ⊥
          kind-some e = cc e

-- the test of the words behind references is that of their bytes
pub texts-tested : (words : List (Bor Text)) (answer : Bool) → answer ≡ list_all (λ word. is_option_word word.now) words → list_all is_option_word (texts_of words) ≡ answer
texts-tested words answer is = list_all-map is_option_word (λ word. word.now) words ∙ sym is
