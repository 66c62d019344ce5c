-- What std's `parse` makes of a number of the command line.
use Rattle.std.proofs.Common.{rules, ◌≡◌, ◌≤◌, ◌&&◌, ℕ, true, List, length, Result, Ok, None, Some, ap, subst, inl, inr, arith}
use Rattle.std.specs.Prelude.{nat_le}
use Rattle.std.specs.List.{list_all}
use Rattle.std.specs.Char.{is_ascii_digit}
use Rattle.std.specs.Str.Parse.{ParsesUnsigned, digits_value}
use Rattle.std.proofs.lemmas.Str.Parse.{IsNumeralModel, digits_value_short, numerals_by_value, parse_gives}
use Rattle.std.proofs.lemmas.Bool.{and_parts, cases_Bool, le-leb, leb-true}
use Rattle.command_words.specs.Numbers.{is_number, is_number_in, number_in}

-- digits are a numeral
digits : IsNumeralModel (λ text. list_all is_ascii_digit text ≡ true) (digits_value 10)
digits = numerals_by_value _ (search rules)

-- a number has 1 to 10 bytes, each of them a digit
number-parts : (text : List ℕ) → is_number text ≡ true → (1 ≤ length text) × (length text ≤ 10) × (list_all is_ascii_digit text ≡ true)
number-parts text number =
    let parts = and_parts (nat_le 1 (length text) && nat_le (length text) 10) (list_all is_ascii_digit text) number in
    let lengths = and_parts (nat_le 1 (length text)) (nat_le (length text) 10) parts.0 in
    (leb-true 1 (length text) lengths.0, leb-true (length text) 10 lengths.1, parts.1)

-- a number parses, to its value
pub number-parsed : {E : Type 0} (text : List ℕ) (r : Result ℕ E) → ParsesUnsigned 64 10 text r → is_number text ≡ true → r ≡ Ok (digits_value 10 text)
number-parsed text r parses number =
    let (least, most, all) = number-parts text number in
    let short = digits_value_short digits text 10 all most in
    parse_gives digits 64 text r parses all (omega arith) (omega (arith, short))

-- a value that is in the range is the number
pub number_in-value : (low high n : ℕ) (text : List ℕ) → is_number text ≡ true → n ≡ digits_value 10 text → low ≤ n → n ≤ high → Some n ≡ number_in low high text
number_in-value low high n text number is least most =
    let above : nat_le low (digits_value 10 text) ≡ true = le-leb low (digits_value 10 text) (rw is at least) in
    let below : nat_le (digits_value 10 text) high ≡ true = le-leb (digits_value 10 text) high (rw is at most) in
    rw (number, above, below) (ap (λ (x : ℕ). Some x) is)

-- a text of the range has a value in the range
pub number_in-bounds : (low high : ℕ) (text : List ℕ) → is_number_in low high text ≡ true → (low ≤ digits_value 10 text) × (digits_value 10 text ≤ high)
number_in-bounds low high text good =
    let parts = and_parts (is_number text && nat_le low (digits_value 10 text)) (nat_le (digits_value 10 text) high) good in
    let least = and_parts (is_number text) (nat_le low (digits_value 10 text)) parts.0 in
    (leb-true low (digits_value 10 text) least.1, leb-true (digits_value 10 text) high parts.1)

-- a number of a range is in it
pub number_in-range : (low high n : ℕ) (text : List ℕ) → number_in low high text ≡ Some n → (low ≤ n) × (n ≤ high)
number_in-range low high n text is =
    elim (cases_Bool (is_number_in low high text)) [
      | inl e ↦
          let value : digits_value 10 text ≡ n = let chosen : Some (digits_value 10 text) ≡ Some n = rw e at is in cc chosen in
          subst (λ (m : ℕ). (low ≤ m) × (m ≤ high)) value (number_in-bounds low high text e)
      | inr e ↦ let bad : None ≡ Some n = rw e at is in cc bad
    ]
