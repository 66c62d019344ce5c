-- Reading options a word at a time gives the options that the words spell.
use Rattle.std.proofs.Common.{◌==◌, ◌≡◌, ◌∙◌, ◌&&◌, ◌||◌, ◌++◌, Bool, true, false, not, if◌then◌else◌, List, [], ◌∷◌, map, Option, Some, None, option_and_then, is_none, is_some, refl, sym, ap, inl, inr}
use Rattle.std.specs.List.{list_all}
use Rattle.std.specs.Option.{option_or}
use Rattle.std.specs.Str.{bytes_eq}
use Rattle.std.proofs.lemmas.Bool.{and_parts, cases_Bool, or_parts}
use Rattle.std.proofs.lemmas.List.{append-nil, append_assoc}
use Rattle.std.proofs.lemmas.List.Folds.{list_any-append}
use Rattle.std.proofs.lemmas.Slice.Eq.{bytes_eq-Decides}
use Rattle.clap.specs.Lexer.{long_of}
use Rattle.command_words.specs.Parse.{is_option_word}
use Rattle.command_words.specs.Options.{Text, Pair, ahead_of, are_distinct, are_options, is_among, is_value, joined_option, options_of, pairs_of, parted_option}
use Rattle.command_words.proofs.OptionReading.{is_given, is_other, options_from, with_option}

-- ---- words that may stand among options

-- such a word is a value where it is no `--name`
other-value : (word : Text) → is_option_word word ≡ true → is_other word ≡ is_value word
other-value [] plain = refl
other-value (a ∷ []) plain = elim (cases_Bool (a == 45)) [ inl e ↦ let bad : false ≡ true = rw e at plain in cc bad | inr e ↦ rw e refl ]
other-value (a ∷ b ∷ []) plain =
    elim (cases_Bool (a == 45)) [
      | inl e ↦ elim (cases_Bool (b == 45)) [ inl f ↦ let bad : false ≡ true = rw (e, f) at plain in cc bad | inr f ↦ let bad : false ≡ true = rw (e, f) at plain in cc bad ]
      | inr e ↦ rw e refl
    ]
other-value (a ∷ b ∷ c ∷ rest) plain =
    elim (cases_Bool (a == 45)) [
      | inl e ↦ elim (cases_Bool (b == 45)) [ inl f ↦ rw (e, f) refl | inr f ↦ let bad : false ≡ true = rw (e, f) at plain in cc bad ]
      | inr e ↦ rw e refl
    ]

-- another word has no name
bad-long : (word : Text) → is_option_word word ≡ false → long_of word ≡ None
bad-long word bad = go (is_value word) (long_of word) bad
  where
    go : (b : Bool) (o : Option (Text × Option Text)) → (b || is_some o) ≡ false → o ≡ None
    go b None e = refl
    go true (Some p) e = cc e
    go false (Some p) e = cc e

-- and is no value
bad-value : (word : Text) → is_option_word word ≡ false → is_value word ≡ false
bad-value word bad = (or_parts (is_value word) (is_some (long_of word)) bad).0

-- such a word does not follow a name as its value
not-parted : (next : Text) (named : Option (Text × Option Text)) → is_value next ≡ false
    → option_and_then {U = Pair} (λ (name, value). if is_none value && is_value next then Some (name, next) else None) named ≡ None
not-parted next None bad = refl
not-parted next (Some (name, None)) bad = rw bad refl
not-parted next (Some (name, Some value)) bad = refl

-- nothing stands before no options
none-ahead : (pair : Option Pair) → ahead_of None pair ≡ None
none-ahead None = refl
none-ahead (Some p) = refl

-- a conjunct that fails
and-false : (a b : Bool) → (a && b) ≡ false → a ≡ true → b ≡ false
and-false true b e t = e
and-false false b e t = cc t

-- where a word may not stand among options, the words spell none
pairs_of-bad : (words : List Text) → list_all is_option_word words ≡ false → pairs_of words ≡ None
unfolding pairs_of
pairs_of-bad [] bad = cc bad
pairs_of-bad (word ∷ []) bad =
    elim (cases_Bool (is_option_word word)) [
      | inl e ↦ let no : true ≡ false = rw e at bad in cc no
      | inr e ↦ rw (bad-long word e) refl
    ]
pairs_of-bad (word ∷ next ∷ words) bad =
    elim (cases_Bool (is_option_word word)) [
      | inr e ↦ rw (bad-long word e) refl
      | inl e ↦
          let rest = and-false (is_option_word word) (list_all is_option_word (next ∷ words)) bad e in
          let first : ahead_of (pairs_of (next ∷ words)) (joined_option word) ≡ None = ap (λ (o : Option (List Pair)). ahead_of o (joined_option word)) (pairs_of-bad (next ∷ words) rest) ∙ none-ahead (joined_option word) in
          let second : ahead_of (pairs_of words) (parted_option word next) ≡ None = elim (cases_Bool (is_option_word next)) [
            | inl f ↦ ap (λ (o : Option (List Pair)). ahead_of o (parted_option word next)) (pairs_of-bad words (and-false (is_option_word next) (list_all is_option_word words) rest f)) ∙ none-ahead (parted_option word next)
            | inr f ↦ ap (ahead_of (pairs_of words)) (not-parted next (long_of word) (bad-value next f))
          ] in
          rw (first, second) refl
    ]

-- ---- names that stand once

-- the test of texts is symmetric
same-text : (a b : Text) → bytes_eq a b ≡ bytes_eq b a
same-text a b =
    elim (cases_Bool (bytes_eq b a)) [
      | inl e ↦ (bytes_eq-Decides a b).1 (sym ((bytes_eq-Decides b a).0 e)) ∙ sym e
      | inr e ↦ elim (cases_Bool (bytes_eq a b)) [
        | inl f ↦ let bad : bytes_eq b a ≡ true = (bytes_eq-Decides b a).1 (sym ((bytes_eq-Decides a b).0 f)) in cc bad
        | inr f ↦ f ∙ sym e
      ]
    ]

-- what is given with one option more
is_given-more : (given : List Pair) (pair : Pair) (name : Text) → is_given (given ++ pair ∷ []) name ≡ (is_given given name || bytes_eq pair.0 name)
is_given-more given pair name = list_any-append (λ p. bytes_eq p.0 name) given (pair ∷ []) ∙ ap (λ (b : Bool). is_given given name || b) (or-false (bytes_eq pair.0 name))
  where
    or-false : (b : Bool) → (b || false) ≡ b
    or-false true = refl
    or-false false = refl

-- the names of options
abbrev names_of : List Pair → List Text
names_of = map (λ pair. pair.0)

-- no name among these pairs was given
abbrev are_fresh : List Pair → List Pair → Bool
are_fresh given = list_all (λ pair. not (is_given given pair.0))

-- what is fresh with one option more
are_fresh-more : (given : List Pair) (pair : Pair) (pairs : List Pair)
    → are_fresh (given ++ pair ∷ []) pairs ≡ (are_fresh given pairs && not (is_among (names_of pairs) pair.0))
are_fresh-more given pair [] = refl
are_fresh-more given pair (p ∷ ps) =
    rw (is_given-more given pair p.0, are_fresh-more given pair ps, same-text p.0 pair.0)
    (apart (is_given given p.0) (bytes_eq pair.0 p.0) (are_fresh given ps) (is_among (names_of ps) pair.0))
  where
    apart : (given same fresh among : Bool) → (not (given || same) && (fresh && not among)) ≡ ((not given && fresh) && not (same || among))
    apart true same fresh among = refl
    apart false true true among = refl
    apart false true false among = refl
    apart false false fresh among = refl

-- ---- the options that words spell, after others

module _ (names : List Text) where
  -- the options that follow those given have names, and none was given twice
  abbrev fits : List Pair → List Pair → Bool
  fits given [] = true
  fits given (p ∷ ps) = is_among names p.0 && (not (is_given given p.0) && fits (given ++ p ∷ []) ps)

  -- the options given, and those that follow
  abbrev after : List Pair → Option (List Pair) → Option (List Pair)
  after given = option_and_then (λ pairs. if fits given pairs then Some (given ++ pairs) else None)

  -- an option that the verb has, and what follows it
  abbrev known_option : List Pair → Text → Text → (List Pair → Option (List Pair)) → Option (List Pair)
  known_option given name value next = if is_among names name then with_option given name value next else None

  -- what follows may be put in other words
  same-next : (given : List Pair) (name value : Text) (next other : List Pair → Option (List Pair)) → ((now : List Pair) → next now ≡ other now)
      → known_option given name value next ≡ known_option given name value other
  same-next given name value next other same =
      elim (cases_Bool (is_among names name)) [
        | inl known ↦ elim (cases_Bool (is_given given name)) [ inl again ↦ rw (known, again) refl | inr fresh ↦ rw (known, fresh) (same (given ++ (name, value) ∷ [])) ]
        | inr unknown ↦ rw unknown refl
      ]

  -- an option before others, after those given
  after-ahead : (given : List Pair) (name value : Text) (others : Option (List Pair))
      → known_option given name value (λ now. after now others) ≡ after given (ahead_of others (Some (name, value)))
  after-ahead given name value None =
      elim (cases_Bool (is_among names name)) [
        | inl known ↦ elim (cases_Bool (is_given given name)) [ inl again ↦ rw (known, again) refl | inr fresh ↦ rw (known, fresh) refl ]
        | inr unknown ↦ rw unknown refl
      ]
  after-ahead given name value (Some pairs) =
      elim (cases_Bool (is_among names name)) [
        | inl known ↦ elim (cases_Bool (is_given given name)) [
          | inl again ↦ rw (known, again) refl
          | inr fresh ↦ rw (known, fresh, append_assoc given ((name, value) ∷ []) pairs) refl
        ]
        | inr unknown ↦ rw unknown refl
      ]

  -- no options after those given
  after-none : (given : List Pair) → after given (Some []) ≡ Some given
  after-none given = ap (λ (pairs : List Pair). Some pairs) (append-nil given)

  -- a first choice alone
  or-none : (o : Option (List Pair)) → option_or o None ≡ o
  or-none None = refl
  or-none (Some x) = refl

  -- a choice of one
  either-way : (b : Bool) (o : Option (List Pair)) → (if b then o else o) ≡ o
  either-way true o = refl
  either-way false o = refl

  -- a last word
  last-word : (given : List Pair) (word : Text) (named : Option (Text × Option Text)) → long_of word ≡ named
      → options_from names given None (word ∷ []) ≡ after given (pairs_of (word ∷ []))
  unfolding options_from pairs_of
  last-word given word None long = rw long refl
  last-word given word (Some (name, None)) long = rw long (either-way (is_among names name) None)
  last-word given word (Some (name, Some value)) long =
      rw long (same-next given name value _ _ (λ now. sym (after-none now)) ∙ after-ahead given name value (Some []))

  -- the reading of the words gives the options that they spell
  abbrev Reads : List Text → Type 0
  Reads words = (given : List Pair) → options_from names given None words ≡ after given (pairs_of words)

  -- a word before others
  more-words : (given : List Pair) (word next : Text) (words : List Text) (named : Option (Text × Option Text)) → long_of word ≡ named
      → is_option_word next ≡ true → Reads (next ∷ words) → Reads words
      → options_from names given None (word ∷ next ∷ words) ≡ after given (pairs_of (word ∷ next ∷ words))
  unfolding options_from pairs_of
  more-words given word next words None long plain here there = rw long refl
  more-words given word next words (Some (name, Some value)) long plain here there =
      rw long (same-next given name value _ _ here ∙ after-ahead given name value (pairs_of (next ∷ words)) ∙ ap (after given) (sym (or-none _)))
  more-words given word next words (Some (name, None)) long plain here there =
      elim (cases_Bool (is_value next)) [
        | inl value ↦ rw (long, other-value next plain, value) (same-next given name next _ _ there ∙ after-ahead given name next (pairs_of words))
        | inr bad ↦ rw (long, other-value next plain, bad) (either-way (is_among names name) None)
      ]

  -- all words
  reads : (words : List Text) → list_all is_option_word words ≡ true → Reads words
  unfolding options_from pairs_of
  reads [] plain given = sym (after-none given)
  reads (word ∷ []) plain given = last-word given word (long_of word) refl
  reads (word ∷ next ∷ words) plain given =
      let parts = and_parts (is_option_word word) (list_all is_option_word (next ∷ words)) plain in
      let rest = and_parts (is_option_word next) (list_all is_option_word words) parts.1 in
      more-words given word next words (long_of word) refl rest.0 (reads (next ∷ words) parts.1) (reads words rest.1)

  -- options that follow have names, once each, and are fresh
  fits-once : (given pairs : List Pair) → fits given pairs ≡ (list_all (λ pair. is_among names pair.0) pairs && (are_distinct (names_of pairs) && are_fresh given pairs))
  fits-once given [] = refl
  fits-once given (p ∷ ps) =
      rw (fits-once (given ++ p ∷ []) ps, are_fresh-more given p ps)
      (join (is_among names p.0) (is_given given p.0) (list_all (λ pair. is_among names pair.0) ps) (are_distinct (names_of ps)) (are_fresh given ps) (is_among (names_of ps) p.0))
    where
      join : (known given all once fresh among : Bool)
          → (known && (not given && (all && (once && (fresh && not among))))) ≡ ((known && all) && ((not among && once) && (not given && fresh)))
      join false given all once fresh among = refl
      join true true false once fresh among = refl
      join true true true once fresh true = refl
      join true true true true fresh false = refl
      join true true true false fresh false = refl
      join true false false once fresh among = refl
      join true false true false fresh true = refl
      join true false true false fresh false = refl
      join true false true true true true = refl
      join true false true true true false = refl
      join true false true true false true = refl
      join true false true true false false = refl

  -- all options are fresh at first
  none-given : (pairs : List Pair) → are_fresh [] pairs ≡ true
  none-given [] = refl
  none-given (p ∷ ps) = none-given ps

  -- reading the words after a verb a word at a time gives its options
  pub options-read : (words : List Text) → list_all is_option_word words ≡ true → options_from names [] None words ≡ options_of names words
  unfolding options_of
  options-read words plain = reads words plain [] ∙ same (pairs_of words)
    where
      and-true : (b : Bool) → (b && true) ≡ b
      and-true true = refl
      and-true false = refl

      same : (o : Option (List Pair)) → after [] o ≡ option_and_then (λ pairs. if are_options names pairs then Some pairs else None) o
      same None = refl
      same (Some pairs) = rw (fits-once [] pairs, none-given pairs, and-true (are_distinct (names_of pairs))) refl

  -- and words of which one may not stand there have none
  pub options_of-bad : (words : List Text) → list_all is_option_word words ≡ false → options_of names words ≡ None
  unfolding options_of
  options_of-bad words bad = ap (option_and_then (λ pairs. if are_options names pairs then Some pairs else None)) (pairs_of-bad words bad)
