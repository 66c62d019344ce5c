-- What the parts of a text say of its thresholds.
use Rattle.std.proofs.Common.{◌==◌, ◌≡◌, ◌∙◌, ◌<◌, ◌≤◌, ◌&&◌, ℕ, true, false, Bool, if◌then◌else◌, List, [], length, map, get_or, slice_index, Some, None, refl, sym, ap, inl, inr, subst, arith}
use Rattle.std.specs.Prelude.{nat_le}
use Rattle.std.specs.List.{list_all}
use Rattle.std.specs.Str.Parse.{digits_value}
use Rattle.std.proofs.lemmas.Bool.{and_parts, cases_Bool, le-leb, leb-true}
use Rattle.std.proofs.lemmas.List.{get_or-map, length-map}
use Rattle.std.proofs.lemmas.List.Folds.{list_all_at}
use Rattle.std.proofs.lemmas.List.Splits.{length-slice_split}
use Rattle.report_frame.specs.Thresholds.{AreThresholds}
use Rattle.report_frame.specs.Versions.{max_layers, max_threshold}
use Rattle.report_frame.specs.declared.limits.TheConstants.{MIN_THRESHOLD}
use Rattle.report_frame.specs.declared.version.Version.{Version}
use Rattle.command_words.specs.Numbers.{is_number_in, number_in}
use Rattle.command_words.specs.Thresholds.{is_threshold, parts_of, thresholds_of}
use Rattle.command_words.proofs.NumberLemmas.{number_in-bounds}

-- where all parts were read, these are the thresholds
pub thresholds-read : (version : Version) (text : List ℕ) (parts : List (List ℕ)) (values : List ℕ) → parts ≡ parts_of text → length parts ≤ (max_layers version)
    → list_all (is_threshold version) parts ≡ true → values ≡ map (digits_value 10) parts → Some values ≡ thresholds_of version text
thresholds-read version text parts values are few all is =
    let fits : nat_le (length (parts_of text)) (max_layers version) ≡ true = le-leb (length (parts_of text)) (max_layers version) (subst (λ (p : List (List ℕ)). length p ≤ (max_layers version)) are few) in
    let good : list_all (is_threshold version) (parts_of text) ≡ true = sym (ap (list_all (is_threshold version)) are) ∙ all in
    rw (fits, good) (ap (λ (v : List ℕ). Some v) (is ∙ ap (map (digits_value 10)) are))

-- more parts than layers are too many
pub thresholds-many : (version : Version) (text : List ℕ) → (max_layers version) < length (parts_of text) → None ≡ thresholds_of version text
thresholds-many version text many =
    elim (cases_Bool (nat_le (length (parts_of text)) (max_layers version))) [
      | inl fits ↦ let few = leb-true (length (parts_of text)) (max_layers version) fits in absurd (omega arith)
      | inr e ↦ rw e refl
    ]

-- one part that is no threshold spoils the rest
pub thresholds-bad : (version : Version) (text : List ℕ) (i : ℕ) (part : List ℕ) → i < length (parts_of text) → part ≡ get_or (parts_of text) i part
    → (is_threshold version) part ≡ false → None ≡ thresholds_of version text
thresholds-bad version text i part within is bad =
    let spoilt : list_all (is_threshold version) (parts_of text) ≡ false = list_all_at (is_threshold version) (parts_of text) i part within (sym (ap (is_threshold version) is) ∙ bad) in
    rw spoilt (none (nat_le (length (parts_of text)) (max_layers version)) (map (digits_value 10) (parts_of text)))
  where
    none : (b : Bool) (values : List ℕ) → None ≡ (if b && false then Some values else None)
    none true values = refl
    none false values = refl

-- a text with no number in a range is none of the range
pub number_in-none : (low high : ℕ) (text : List ℕ) → number_in low high text ≡ None → is_number_in low high text ≡ false
number_in-none low high text none =
    elim (cases_Bool (is_number_in low high text)) [
      | inl e ↦ let bad : Some (digits_value 10 text) ≡ None = rw e at none in cc bad
      | inr e ↦ e
    ]

-- the thresholds of a text are good
pub thresholds_of-good : (version : Version) (text values : List ℕ) → thresholds_of version text ≡ Some values → AreThresholds version values
thresholds_of-good version text values is =
    elim (cases_Bool (nat_le (length (parts_of text)) (max_layers version) && list_all (is_threshold version) (parts_of text))) [
      | inr e ↦ let bad : None ≡ Some values = rw e at is in cc bad
      | inl e ↦
          let parts = and_parts (nat_le (length (parts_of text)) (max_layers version)) (list_all (is_threshold version) (parts_of text)) e in
          let read : Some (map (digits_value 10) (parts_of text)) ≡ Some values = rw e at is in
          let values_are : map (digits_value 10) (parts_of text) ≡ values = cc read in
          subst (AreThresholds version) values_are (good parts.0 parts.1)
    ]
  where
    at : (all : list_all (is_threshold version) (parts_of text) ≡ true) (i : ℕ) → i < length (parts_of text) → (is_threshold version) (get_or (parts_of text) i []) ≡ true
    at all i within =
        elim (cases_Bool ((is_threshold version) (get_or (parts_of text) i []))) [
          | inl e ↦ e
          | inr e ↦ let bad : true ≡ false = sym all ∙ list_all_at (is_threshold version) (parts_of text) i [] within e in cc bad
        ]

    bounds : (all : list_all (is_threshold version) (parts_of text) ≡ true) (i : ℕ) → i < length (map (digits_value 10) (parts_of text))
        → (MIN_THRESHOLD ≤ slice_index (map (digits_value 10) (parts_of text)) i) × (slice_index (map (digits_value 10) (parts_of text)) i ≤ (max_threshold version))
    bounds all i within =
        let inside : i < length (parts_of text) = omega (arith, length-map (parts_of text) (digits_value 10)) in
        let value = get_or-map (digits_value 10) (parts_of text) i [] 0 inside in
        let (low, high) = number_in-bounds MIN_THRESHOLD (max_threshold version) (get_or (parts_of text) i []) (at all i inside) in
        (omega (arith, value), omega (arith, value))

    good : nat_le (length (parts_of text)) (max_layers version) ≡ true → list_all (is_threshold version) (parts_of text) ≡ true → AreThresholds version (map (digits_value 10) (parts_of text))
    good few all =
        let size = length-map (parts_of text) (digits_value 10) in
        let some = length-slice_split (λ byte. byte == 44) text in
        let most : length (parts_of text) ≤ (max_layers version) = leb-true (length (parts_of text)) (max_layers version) few in
        record {
          some = omega (arith, size, some);
          few = omega (arith, size, most);
          low = λ i within. (bounds all i within).0;
          high = λ i within. (bounds all i within).1;
        }
