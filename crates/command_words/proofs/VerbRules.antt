-- The command of a verb whose options each take one text, as `clap` builds it: its options, and the rows of those given.
use Rattle.std.proofs.Common.{◌≡◌, ◌≢◌, ◌∙◌, ◌||◌, ◌++◌, ◌+◌, ◌<◌, ℕ, get_or, length, take, Bool, true, false, List, [], ◌∷◌, map, Some, None, refl, sym, ap, inl, inr}
use Rattle.std.specs.Borrow.{Bor}
use Rattle.std.specs.Str.{bytes_eq}
use Rattle.std.proofs.lemmas.Bool.{cases_Bool}
use Rattle.std.proofs.lemmas.List.{append-nil, map-append, take_more}
use Rattle.std.proofs.lemmas.Slice.Eq.{bytes_eq-Decides}
use Rattle.clap.specs.Simple.{App, Shape, built, filled_from, new_shape, with_rule}
use Rattle.clap.specs.Walk.{Row, Rule, arg_by_id, arg_by_index, arg_by_long, at_row, has_row, more_values, reading_by, used, with_values, without}
use Rattle.clap.specs.Faults.{use_fault}
use Rattle.clap.specs.declared.builder.action.ArgAction.TheVariants.{Set}
use Rattle.clap.specs.declared.builder.value_parser.ValueParser.TheVariants as vp
use Rattle.clap.specs.declared.parser.matches.ValueSource.TheVariants.{CommandLine}
use Rattle.command_words.specs.Parse.{option_rule, verb_app}
use Rattle.command_words.specs.Options.{Text, Pair, is_among}
use Rattle.command_words.proofs.OptionReading.{is_given}

-- what building makes of an option's rule
abbrev pub built_rule : Text → Rule
built_rule name = record (option_rule name) {
  action = Some Set;
  parser = Some vp.String;
  range = Some (record { start_inclusive = 1; end_inclusive = 1 });
}

-- the row of an option that was given
abbrev pub option_row : Pair → Row
option_row pair = record {
  id = pair.0;
  values = pair.1 ∷ [];
  count = None;
  source = Some CommandLine;
  reading = reading_by (built_rule pair.0);
}

-- ---- the built command

-- the built command
abbrev pub built_shape : Text → List Text → Shape
built_shape verb names = record (new_shape verb) {
  rules = map built_rule names;
  no_binary_name = true;
  disable_help_flag = true;
  disable_help_subcommand = true;
  is_built = true;
}

-- building fills each option's rule in
pub filled-options : (i : ℕ) (names : List Text) → filled_from i (map option_rule names) ≡ map built_rule names
filled-options i [] = refl
filled-options i (n ∷ ns) = ap (λ (rest : List Rule). built_rule n ∷ rest) (filled-options i ns)

-- and has no subcommand
abbrev pub built_app : Text → List Text → App
built_app verb names = record { top = built_shape verb names; subs = [] }

-- what building makes of the command
pub built-verb : (verb : Text) (names : List Text) → built (verb_app verb names) ≡ built_app verb names
built-verb verb names = ap (λ (rules : List Rule). record (built_app verb names) { top = record (built_shape verb names) { rules = rules } }) (filled-options 1 names)

-- ---- its options

-- a name that the verb has finds its rule
pub find-long : (names : List Text) (name : Text) → is_among names name ≡ true → arg_by_long (map built_rule names) name ≡ Some (built_rule name)
find-long [] name known = cc known
find-long (n ∷ ns) name known =
    elim (cases_Bool (bytes_eq n name)) [
      | inl e ↦ rw e (ap (λ (x : Text). Some (built_rule x)) ((bytes_eq-Decides n name).0 e))
      | inr e ↦ rw e (find-long ns name (rw e at known))
    ]

-- and another name finds none
pub unknown-long : (names : List Text) (name : Text) → is_among names name ≡ false → arg_by_long (map built_rule names) name ≡ None
unknown-long [] name unknown = refl
unknown-long (n ∷ ns) name unknown =
    elim (cases_Bool (bytes_eq n name)) [
      | inl e ↦ let bad : true ≡ false = rw e at unknown in cc bad
      | inr e ↦ rw e (unknown-long ns name (rw e at unknown))
    ]

-- an option finds its rule by its id
pub find-id : (names : List Text) (name : Text) → is_among names name ≡ true → arg_by_id (map built_rule names) name ≡ Some (built_rule name)
find-id [] name known = cc known
find-id (n ∷ ns) name known =
    elim (cases_Bool (bytes_eq n name)) [
      | inl e ↦ rw e (ap (λ (x : Text). Some (built_rule x)) ((bytes_eq-Decides n name).0 e))
      | inr e ↦ rw e (find-id ns name (rw e at known))
    ]

-- no option is found by its place
pub no-index : (names : List Text) (i : ℕ) → arg_by_index (map built_rule names) i ≡ None
no-index [] i = refl
no-index (n ∷ ns) i = no-index ns i

-- ---- the rows of options that were given

-- the rows have the options that were given
pub has-given : (given : List Pair) (name : Text) → has_row name (map option_row given) ≡ is_given given name
has-given [] name = refl
has-given (p ∷ ps) name = ap (λ (b : Bool). bytes_eq p.0 name || b) (has-given ps name)

-- where no row has the id, one is put last
pub at-missing : (id : Text) (change : Row → List Row) (missing rows : List Row) → has_row id rows ≡ false → at_row id change missing rows ≡ rows ++ missing
at-missing id change missing [] none = refl
at-missing id change missing (r ∷ rs) none =
    elim (cases_Bool (bytes_eq r.id id)) [
      | inl e ↦ let bad : true ≡ false = rw e at none in cc bad
      | inr e ↦ rw e (ap (λ (rest : List Row). r ∷ rest) (at-missing id change missing rs (rw e at none)))
    ]

-- using an option that was not given puts its row last
pub used-new : (given : List Pair) (name value : Text) → is_given given name ≡ false
    → used (built_rule name) (value ∷ []) (map option_row given) ≡ map option_row (given ++ (name, value) ∷ [])
used-new given name value fresh =
    let rows : List Row = map option_row given in
    let none : has_row name rows ≡ false = has-given given name ∙ fresh in
    let kept : without name rows ≡ rows = at-missing name (λ _. []) [] rows none ∙ append-nil rows in
    let added = at-missing name (more_values CommandLine (value ∷ [])) (option_row (name, value) ∷ []) rows none in
    ap (λ (rows : List Row). with_values name (reading_by (built_rule name)) CommandLine (value ∷ []) rows) kept ∙ added ∙ sym (map-append option_row given ((name, value) ∷ []))

-- which is no fault
pub use-new : (given : List Pair) (name value : Text) → is_given given name ≡ false → use_fault false (built_rule name) (value ∷ []) (map option_row given) ≡ []
use-new given name value fresh = rw (has-given given name ∙ fresh) refl

-- and using one that was given is a fault
pub use-again : (given : List Pair) (name value : Text) → is_given given name ≡ true → use_fault false (built_rule name) (value ∷ []) (map option_row given) ≢ []
use-again given name value again = rw (has-given given name ∙ again) (λ e. cc e)

-- ---- the command, an option at a time

-- an option put last
pub verb_app-more : (verb : Text) (names : List (Bor Text)) (i : ℕ) (default : Bor Text) → i < length names
    → with_rule (verb_app verb (map (λ s. s.now) (take i names))) (option_rule (get_or names i default).now) ≡ verb_app verb (map (λ s. s.now) (take (i + 1) names))
verb_app-more verb names i default within =
    let before : List Text = map (λ s. s.now) (take i names) in
    let name : Text = (get_or names i default).now in
    let texts : map (λ s. s.now) (take (i + 1) names) ≡ before ++ name ∷ [] =
    ap (map (λ s. s.now)) (take_more names i default within) ∙ map-append (λ s. s.now) (take i names) (get_or names i default ∷ []) in
    ap (λ (rules : List Rule). record (verb_app verb []) { top = record (verb_app verb []).top { rules = rules } })
    (sym (map-append option_rule before (name ∷ [])) ∙ ap (map option_rule) (sym texts))
