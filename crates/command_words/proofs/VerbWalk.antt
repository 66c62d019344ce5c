-- The parse of the words of a verb whose options each take one text gives what reading them a word at a time gives.
use Rattle.std.proofs.Common.{◌==◌, ◌≡◌, ◌≢◌, ◌∙◌, ◌⊎◌, ◌&&◌, ◌++◌, Bool, true, false, not, cond, if◌then◌else◌, List, [], ◌∷◌, map, Option, Some, None, MatchOption, refl, sym, ap, subst, inl, inr}
use Rattle.std.specs.List.{list_all, list_any}
use Rattle.std.specs.Option.{is_some, option_map_or}
use Rattle.std.specs.Prelude.{fold}
use Rattle.std.specs.Str.{bytes_eq}
use Rattle.std.proofs.lemmas.Bool.{and_parts, cases_Bool}
use Rattle.std.proofs.lemmas.Slice.Eq.{bytes_eq-Decides}
use Rattle.clap.specs.Lexer.{long_of, short_of}
use Rattle.clap.specs.Kinds.{Kinds, or_else}
use Rattle.clap.specs.Walk.{Held, Row, Rule, Waiting, Walk, finished, has_row, idle, nothing_held, option, reacted, rows_after, settled, subcommand_met, used, used_by_id, walk, walked, with_default}
use Rattle.clap.specs.Simple.{App, Shape, entered, matches_of, names_of}
use Rattle.clap.specs.Takes.{is_given as row_given}
use Rattle.clap.specs.Faults.{built_fault, check_fault, defaults_fault, entered_fault, fault_of, level_fault, react_fault, settle_fault, turn_fault, use_fault, walk_fault}
use Rattle.command_words.specs.Parse.{is_option_word, verb_app}
use Rattle.command_words.specs.Options.{Text, Pair, is_among}
use Rattle.command_words.proofs.OptionReading.{is_given, named_option, option_word, options_from, with_option}
use Rattle.command_words.proofs.VerbRules.{built-verb, built_app, built_rule, built_shape, find-id, find-long, no-index, option_row, unknown-long, use-again, use-new, used-new}

-- ---- words that may stand among options

-- the word is `--`
abbrev is_dashes : Text → Bool
is_dashes word = bytes_eq word (45 ∷ 45 ∷ [])

-- a word that may stand there is not `--`
not-dashes : (word : Text) → is_option_word word ≡ true → is_dashes word ≡ false
not-dashes [] plain = refl
not-dashes (a ∷ []) plain = elim (cases_Bool (a == 45)) [ inl e ↦ rw e refl | inr e ↦ rw e refl ]
not-dashes (a ∷ b ∷ []) plain =
    elim (cases_Bool (a == 45)) [
      | inl e ↦ elim (cases_Bool (b == 45)) [
        | inl f ↦ let bad : false ≡ true = rw (e, f) at plain in cc bad
        | inr f ↦ rw (e, f) refl
      ]
      | inr e ↦ rw e refl
    ]
not-dashes (a ∷ b ∷ c ∷ rest) plain =
    elim (cases_Bool (a == 45)) [
      | inl e ↦ elim (cases_Bool (b == 45)) [ inl f ↦ rw (e, f) refl | inr f ↦ rw (e, f) refl ]
      | inr e ↦ rw e refl
    ]

-- and has no hyphen with a letter
not-short : (word : Text) → is_option_word word ≡ true → short_of word ≡ None
not-short [] plain = refl
not-short (a ∷ []) plain = elim (cases_Bool (a == 45)) [ inl e ↦ rw e refl | inr e ↦ rw e refl ]
not-short (a ∷ b ∷ rest) plain =
    elim (cases_Bool (a == 45)) [
      | inl e ↦ elim (cases_Bool (b == 45)) [
        | inl f ↦ rw (e, f) refl
        | inr f ↦ let bad : false ≡ true = rw (e, f) at plain in cc bad
      ]
      | inr e ↦ rw e refl
    ]

-- ---- kinds

-- kinds, and then none
or-nil : (a : Kinds) → or_else a [] ≡ a
or-nil [] = refl
or-nil (k ∷ ks) = refl

-- a first fault stays
or-left : (a b : Kinds) → a ≢ [] → or_else a b ≢ []
or-left [] b some = λ e. some refl
or-left (k ∷ ks) b some = λ e. cc e

-- what equals a fault is one
along : (a b : Kinds) → a ≡ b → b ≢ [] → a ≢ []
along a b same some = λ none. some (sym same ∙ none)

-- ---- one word

-- the walk stands before a word
abbrev standing : Held → Waiting → Walk
standing held waiting = record { held = held; waiting = waiting; position = 1; is_trailing = false; stopped = None }

-- a verb has no subcommand
no-subcommand : (waiting : Waiting) (word : Text) → subcommand_met [] waiting word ≡ None
no-subcommand idle word = refl
no-subcommand (option id) word = refl
no-subcommand _ word = refl

module _ (verb : Text) (names : List Text) where
  -- the rules of the options
  abbrev rules : List Rule
  rules = map built_rule names

  -- the command
  abbrev shape : Shape
  shape = built_shape verb names

  -- a name that the verb does not have is a fault
  turn-unknown : (held : Held) (waiting : Waiting) (word name : Text) (value : Option Text) → is_dashes word ≡ false → long_of word ≡ Some (name, value) → is_among names name ≡ false
      → turn_fault shape [] (standing held waiting) word ≢ []
  turn-unknown held waiting word name value plain long unknown =
      rw (no-subcommand waiting word, plain, long, unknown-long names name unknown) (λ e. cc e)

  -- an option with its value in one word is used
  turn-value : (held : Held) (waiting : Waiting) (word name value : Text) → is_dashes word ≡ false → long_of word ≡ Some (name, Some value) → is_among names name ≡ true
      → (turn_fault shape [] (standing held waiting) word ≡ react_fault rules false (built_rule name) (value ∷ []) held)
      × (walked rules [] (standing held waiting) word ≡ standing (reacted rules (built_rule name) (value ∷ []) held) idle)
  unfolding walked
  turn-value held waiting word name value plain long known = (
    rw (no-subcommand waiting word, plain, long, find-long names name known) (or-nil _),
    rw (no-subcommand waiting word, plain, long, find-long names name known) refl,
  )

  -- an option with no value waits for one
  turn-name : (held : Held) (waiting : Waiting) (word name : Text) → is_dashes word ≡ false → long_of word ≡ Some (name, None) → is_among names name ≡ true
      → (turn_fault shape [] (standing held waiting) word ≡ settle_fault rules false held)
      × (walked rules [] (standing held waiting) word ≡ standing (record (settled rules held) { pending = Some (name, []) }) (option name))
  unfolding walked
  turn-name held waiting word name plain long known = (
    rw (no-subcommand waiting word, plain, long, find-long names name known) (or-nil _),
    rw (no-subcommand waiting word, plain, long, find-long names name known) refl,
  )

  -- a value where an option is due is a fault
  turn-stray : (held : Held) (word : Text) → is_dashes word ≡ false → long_of word ≡ None → short_of word ≡ None
      → turn_fault shape [] (standing held idle) word ≢ []
  turn-stray held word plain long short = rw (plain, long, short, no-index names 1) (λ e. cc e)

  -- ---- what waits to be used

  -- the last option with its value, which is used only at the next word
  abbrev pend : Option Pair → Option (Text × List Text)
  pend None = None
  pend (Some p) = Some (p.0, p.1 ∷ [])

  -- what is held after options
  abbrev holding : List Pair → Option (Text × List Text) → Held
  holding given pending = record { rows = map option_row given; pending = pending; skip = 0 }

  -- the reading goes on with the last option used
  abbrev start : List Pair → Option Pair → (List Pair → Option (List Pair)) → Option (List Pair)
  start given None k = k given
  start given (Some p) k = with_option given p.0 p.1 k

  -- the verb has the last option
  abbrev IsKnownPair : Option Pair → Type 0
  IsKnownPair None = Unit {0}
  IsKnownPair (Some p) = is_among names p.0 ≡ true

  -- the last option is used
  record Settles (given : List Pair) (last : Option Pair) (now : List Pair) : Type 0 where
    fault : settle_fault rules false (holding given (pend last)) ≡ []
    held : settled rules (holding given (pend last)) ≡ holding now None
    spec : (k : List Pair → Option (List Pair)) → start given last k ≡ k now

  -- the last option was given before
  record Clashes (given : List Pair) (last : Option Pair) : Type 0 where
    fault : settle_fault rules false (holding given (pend last)) ≢ []
    spec : (k : List Pair → Option (List Pair)) → start given last k ≡ None

  -- one of the two
  settle-cases : (given : List Pair) (last : Option Pair) → IsKnownPair last → Clashes given last ⊎ ((now : List Pair) × Settles given last now)
  settle-cases given None known = inr (given, record { fault = refl; held = refl; spec = λ k. refl })
  settle-cases given (Some p) known =
      let rows : List Row = map option_row given in
      let uses = ap (λ (o : Option Rule). option_map_or (λ a. use_fault false a (p.1 ∷ []) rows) o []) (find-id names p.0 known) in
      elim (cases_Bool (is_given given p.0)) [
        | inl again ↦ inl (record {
          fault = along _ _ uses (use-again given p.0 p.1 again);
          spec = λ k. rw again refl;
        })
        | inr fresh ↦ inr (
          given ++ (p.0, p.1) ∷ [],
          record {
            fault = uses ∙ use-new given p.0 p.1 fresh;
            held = ap (λ (o : Option Rule). record (holding given None) { rows = used_by_id o (p.1 ∷ []) rows }) (find-id names p.0 known)
                ∙ ap (λ (rs : List Row). record (holding given None) { rows = rs }) (used-new given p.0 p.1 fresh);
            spec = λ k. rw fresh refl;
          },
        )
      ]

  -- an option that got no value is a fault
  due-fault : (given : List Pair) (name : Text) → is_among names name ≡ true → settle_fault rules false (holding given (Some (name, []))) ≢ []
  due-fault given name known =
      along _ _ (ap (λ (o : Option Rule). option_map_or (λ a. use_fault false a [] (map option_row given)) o []) (find-id names name known)) (λ e. cc e)

  -- a value after a name is held
  turn-due : (given : List Pair) (word name : Text) → is_dashes word ≡ false → long_of word ≡ None → short_of word ≡ None → is_among names name ≡ true
      → (turn_fault shape [] (standing (holding given (Some (name, []))) (option name)) word ≡ [])
      × (walked rules [] (standing (holding given (Some (name, []))) (option name)) word ≡ standing (holding given (Some (name, word ∷ []))) idle)
  unfolding walked
  turn-due given word name plain long short known =
      let same : bytes_eq name name ≡ true = (bytes_eq-Decides name name).1 refl in (
        rw (plain, long, short) refl,
        rw (plain, long, short, find-id names name known, same) refl,
      )

  -- ---- all the words

  -- what is held at the end
  abbrev ended : Walk → List Text → Held
  ended state words = (fold (walked rules []) state words).held

  -- the faults of the words, and of what is held at the end
  abbrev total : Walk → List Text → Kinds
  total state words = or_else (walk_fault shape [] state words) (settle_fault rules false (ended state words))

  -- the walk from a state finds the options that were read, or a fault
  abbrev Agrees : Option (List Pair) → Walk → List Text → Type 0
  Agrees o state words = MatchOption o (total state words ≢ []) (λ given. (total state words ≡ []) × ((settled rules (ended state words)).rows ≡ map option_row given))

  -- a fault at a word stays
  total-bad : (state : Walk) (word : Text) (words : List Text) → turn_fault shape [] state word ≢ [] → total state (word ∷ words) ≢ []
  unfolding walk_fault
  total-bad state word words bad = or-left _ _ (or-left _ _ bad)

  -- a fault at a word agrees with no options
  agrees-bad : (o : Option (List Pair)) (state : Walk) (word : Text) (words : List Text) → o ≡ None → turn_fault shape [] state word ≢ [] → Agrees o state (word ∷ words)
  agrees-bad o state word words none bad = subst (λ (value : Option (List Pair)). Agrees value state (word ∷ words)) (sym none) (total-bad state word words bad)

  -- a word with no fault hands on
  agrees-more : (o : Option (List Pair)) (state next : Walk) (word : Text) (words : List Text) → turn_fault shape [] state word ≡ [] → walked rules [] state word ≡ next
      → Agrees o next words → Agrees o state (word ∷ words)
  unfolding walk_fault
  agrees-more o state next word words fine goes rest =
      let after : Walk = walked rules [] state word in
      let there : Agrees o after words = subst (λ (n : Walk). Agrees o n words) (sym goes) rest in
      let faults : Kinds → Kinds = λ t. or_else (or_else t (walk_fault shape [] after words)) (settle_fault rules false (ended after words)) in
      subst (λ (t : Kinds). MatchOption o (faults t ≢ []) (λ given. (faults t ≡ []) × ((settled rules (ended after words)).rows ≡ map option_row given))) (sym fine) there

  -- no options stay none
  start-none : (given : List Pair) (last : Option Pair) → start given last (λ _. None) ≡ None
  start-none given None = refl
  start-none given (Some p) = elim (cases_Bool (is_given given p.0)) [ inl e ↦ rw e refl | inr e ↦ rw e refl ]

  -- the walk agrees where an option is due
  abbrev IdleAgrees : List Text → Type 0
  IdleAgrees words = (given : List Pair) (last : Option Pair) → IsKnownPair last
      → Agrees (start given last (λ now. options_from names now None words)) (standing (holding given (pend last)) idle) words

  -- and where a value is due
  abbrev DueAgrees : List Text → Type 0
  DueAgrees words = (given : List Pair) (name : Text) → is_among names name ≡ true
      → Agrees (options_from names given (Some name) words) (standing (holding given (Some (name, []))) (option name)) words

  -- an option of a known name, where an option may stand
  idle-named : (word : Text) (words : List Text) (name : Text) (value : Option Text) → is_dashes word ≡ false → long_of word ≡ Some (name, value) → is_among names name ≡ true
      → IdleAgrees words → DueAgrees words → (given : List Pair) (last : Option Pair) → IsKnownPair last
      → Agrees (start given last (λ now. named_option now name value (λ more. options_from names more None words) (options_from names now (Some name) words)))
      (standing (holding given (pend last)) idle) (word ∷ words)
  idle-named word words name (Some value) plain long known idles dues given last pair =
      let held : Held = holding given (pend last) in
      let turn = turn-value held idle word name value plain long known in
      let next : List Pair → Option (List Pair) = λ now. with_option now name value (λ more. options_from names more None words) in
      elim (settle-cases given last pair) [
        | inl clash ↦ agrees-bad _ _ word words (clash.spec next) (along _ _ turn.0 (or-left _ _ clash.fault))
        | inr done ↦
            let now : List Pair = done.0 in
            let uses : turn_fault shape [] (standing held idle) word ≡ use_fault false (built_rule name) (value ∷ []) (map option_row now) =
            turn.0 ∙ ap (λ (t : Kinds). or_else t (use_fault false (built_rule name) (value ∷ []) (settled rules held).rows)) done.1.fault
            ∙ ap (λ (s : Held). use_fault false (built_rule name) (value ∷ []) s.rows) done.1.held in
            elim (cases_Bool (is_given now name)) [
              | inl again ↦ agrees-bad _ _ word words (done.1.spec next ∙ rw again refl) (along _ _ uses (use-again now name value again))
              | inr fresh ↦
                  let more : List Pair = now ++ (name, value) ∷ [] in
                  let is : start given last next ≡ options_from names more None words = done.1.spec next ∙ rw fresh refl in
                  let rows : used (built_rule name) (value ∷ []) (settled rules held).rows ≡ map option_row more =
                  ap (λ (s : Held). used (built_rule name) (value ∷ []) s.rows) done.1.held ∙ used-new now name value fresh in
                  let goes = turn.1 ∙ ap (λ (rs : List Row). standing (record (holding more None) { rows = rs }) idle) rows in
                  subst (λ (o : Option (List Pair)). Agrees o (standing held idle) (word ∷ words)) (sym is)
                  (agrees-more _ _ _ word words (uses ∙ use-new now name value fresh) goes (idles more None tt))
            ]
      ]
  idle-named word words name None plain long known idles dues given last pair =
      let held : Held = holding given (pend last) in
      let turn = turn-name held idle word name plain long known in
      let next : List Pair → Option (List Pair) = λ now. options_from names now (Some name) words in
      elim (settle-cases given last pair) [
        | inl clash ↦ agrees-bad _ _ word words (clash.spec next) (along _ _ turn.0 clash.fault)
        | inr done ↦
            let goes = turn.1 ∙ ap (λ (s : Held). standing (record s { pending = Some (name, []) }) (option name)) done.1.held in
            subst (λ (o : Option (List Pair)). Agrees o (standing held idle) (word ∷ words)) (sym (done.1.spec next))
            (agrees-more _ _ _ word words (turn.0 ∙ done.1.fault) goes (dues done.0 name known))
      ]

  -- any word where an option is due
  idle-word : (word : Text) (words : List Text) → is_dashes word ≡ false → short_of word ≡ None → IdleAgrees words → DueAgrees words
      → (named : Option (Text × Option Text)) → long_of word ≡ named → (given : List Pair) (last : Option Pair) → IsKnownPair last
      → Agrees (start given last (λ now. option_word names now named (λ more. options_from names more None words) (λ name. options_from names now (Some name) words)))
      (standing (holding given (pend last)) idle) (word ∷ words)
  idle-word word words plain short idles dues None long given last pair =
      agrees-bad _ _ word words (start-none given last) (turn-stray (holding given (pend last)) word plain long short)
  idle-word word words plain short idles dues (Some p) long given last pair =
      elim (cases_Bool (is_among names p.0)) [
        | inl known ↦ rw known (idle-named word words p.0 p.1 plain long known idles dues given last pair)
        | inr unknown ↦ rw unknown (agrees-bad _ _ word words (start-none given last) (turn-unknown (holding given (pend last)) idle word p.0 p.1 plain long unknown))
      ]

  -- an option where a value is due is a fault
  due-bad : (word : Text) (name : Text) (value : Option Text) → is_dashes word ≡ false → long_of word ≡ Some (name, value) → (given : List Pair) (due : Text) → is_among names due ≡ true
      → turn_fault shape [] (standing (holding given (Some (due, []))) (option due)) word ≢ []
  due-bad word name value plain long given due known =
      let held : Held = holding given (Some (due, [])) in
      let bad = due-fault given due known in
      elim (cases_Bool (is_among names name)) [
        | inl found ↦ go value long found
        | inr unknown ↦ turn-unknown held (option due) word name value plain long unknown
      ]
    where
      go : (value : Option Text) → long_of word ≡ Some (name, value) → is_among names name ≡ true → turn_fault shape [] (standing (holding given (Some (due, []))) (option due)) word ≢ []
      go (Some value) long found = along _ _ (turn-value (holding given (Some (due, []))) (option due) word name value plain long found).0 (or-left _ _ (due-fault given due known))
      go None long found = along _ _ (turn-name (holding given (Some (due, []))) (option due) word name plain long found).0 (due-fault given due known)

  -- any word where a value is due
  due-word : (word : Text) (words : List Text) → is_dashes word ≡ false → short_of word ≡ None → IdleAgrees words
      → (named : Option (Text × Option Text)) → long_of word ≡ named → (given : List Pair) (name : Text) → is_among names name ≡ true
      → Agrees (if not (is_some named) then with_option given name word (λ more. options_from names more None words) else None)
      (standing (holding given (Some (name, []))) (option name)) (word ∷ words)
  due-word word words plain short idles None long given name known =
      let turn = turn-due given word name plain long short known in
      agrees-more _ _ _ word words turn.0 turn.1 (idles given (Some (name, word)) known)
  due-word word words plain short idles (Some p) long given name known =
      agrees-bad None _ word words refl (due-bad word p.0 p.1 plain long given name known)

  -- the walk agrees at each place
  agrees : (words : List Text) → list_all is_option_word words ≡ true → IdleAgrees words × DueAgrees words
  unfolding options_from walk_fault
  agrees [] plain = (
    λ given last pair. elim (settle-cases given last pair) [
      | inl clash ↦ rw (clash.spec (λ now. Some now)) clash.fault
      | inr done ↦ rw (done.1.spec (λ now. Some now)) (done.1.fault, ap (λ (held : Held). held.rows) done.1.held)
    ],
    λ given name known. due-fault given name known,
  )
  agrees (word ∷ words) plain =
      let parts = and_parts (is_option_word word) (list_all is_option_word words) plain in
      let dashes = not-dashes word parts.0 in
      let short = not-short word parts.0 in
      let rest = agrees words parts.1 in (
        λ given last pair. idle-word word words dashes short rest.0 rest.1 (long_of word) refl given last pair,
        λ given name known. due-word word words dashes short rest.0 (long_of word) refl given name known,
      )

  -- ---- the whole parse

  -- a choice of one
  same-choice : {X : Type 0} (b : Bool) (value : X) → cond b value value ≡ value
  same-choice true value = refl
  same-choice false value = refl

  -- no option has a default
  without-defaults : (rows : List Row) (ns : List Text) → fold with_default rows (map built_rule ns) ≡ rows
  without-defaults rows [] = refl
  without-defaults rows (n ∷ ns) =
      ap (λ (r : List Row). fold with_default r (map built_rule ns)) (same-choice (has_row n rows) rows) ∙ without-defaults rows ns

  -- and none has a fault
  no-defaults-fault : (rows : List Row) (ns : List Text) → defaults_fault rows (map built_rule ns) ≡ []
  unfolding defaults_fault
  no-defaults-fault rows [] = refl
  no-defaults-fault rows (n ∷ ns) =
      elim (cases_Bool (has_row n rows)) [ inl e ↦ rw e (no-defaults-fault rows ns) | inr e ↦ rw e (no-defaults-fault rows ns) ]

  -- no option is required
  none-required : (rows : List Row) (ns : List Text) → list_any (λ a. a.required && not (row_given a.id rows)) (map built_rule ns) ≡ false
  none-required rows [] = refl
  none-required rows (n ∷ ns) = none-required rows ns

  -- before the first word
  abbrev first : Walk
  first = standing (holding [] None) idle

  -- the last checks find nothing
  level-rest : (words : List Text) → level_fault shape [] nothing_held words false [] ≡ total first words
  level-rest words =
      let end : Held = ended first words in
      let walked_fault : Kinds = walk_fault shape [] first words in
      let settle : Kinds = settle_fault rules false end in
      let nothing : or_else (defaults_fault (settled rules end).rows rules) (check_fault shape (finished rules end) false) ≡ [] =
      rw (no-defaults-fault (settled rules end).rows names, none-required (finished rules end) names) refl in
      ap (λ (t : Kinds). or_else walked_fault (or_else settle t)) nothing ∙ ap (λ (t : Kinds). or_else walked_fault t) (or-nil settle)

  -- so the faults are those of the walk
  level : (words : List Text) (stop : Option (Text × List Text))
      → level_fault shape [] nothing_held words (is_some (entered (built_app verb names) stop)) (entered_fault (built_app verb names) stop) ≡ total first words
  level words None = level-rest words
  level words (Some p) = level-rest words

  -- the words have the options that are read, or a fault
  pub options-agree : (words : List Text) → list_all is_option_word words ≡ true
      → MatchOption (options_from names [] None words) (fault_of (verb_app verb names) words ≢ [])
      (λ given. (fault_of (verb_app verb names) words ≡ []) × (matches_of (verb_app verb names) words ≡ map option_row given))
  options-agree words plain =
      let fault : fault_of (verb_app verb names) words ≡ total first words =
      ap (λ (a : App). built_fault a nothing_held words) (built-verb verb names) ∙ level words (walk rules [] nothing_held words).stopped in
      let rows : matches_of (verb_app verb names) words ≡ (settled rules (ended first words)).rows =
      ap (λ (a : App). rows_after a.top.rules (names_of a) words) (built-verb verb names) ∙ without-defaults (settled rules (ended first words)).rows names in
      go words fault rows (options_from names [] None words) ((agrees words plain).0 [] None tt)
    where
      go : (words : List Text) → fault_of (verb_app verb names) words ≡ total first words → matches_of (verb_app verb names) words ≡ (settled rules (ended first words)).rows
          → (o : Option (List Pair)) → Agrees o first words
          → MatchOption o (fault_of (verb_app verb names) words ≢ []) (λ given. (fault_of (verb_app verb names) words ≡ []) × (matches_of (verb_app verb names) words ≡ map option_row given))
      go words fault rows None agreed = along _ _ fault agreed
      go words fault rows (Some given) agreed = (fault ∙ agreed.0, rows ∙ agreed.1)
