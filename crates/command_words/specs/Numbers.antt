-- A number of the command line: 1 to 10 ASCII digits. Leading zeros are allowed, and a sign is not.
use Rattle.std.specs.Prelude.{◌&&◌, ℕ, Bool, nat_le, List, length, Option, Some, None, if◌then◌else◌}
use Rattle.std.specs.Char.{is_ascii_digit}
use Rattle.std.specs.List.{list_all}
use Rattle.std.specs.Str.Parse.{digits_value}
use Rattle.command_words.specs.declared.numbers.TheConstants.{MAX_DIGITS}

-- the text is 1 to 10 digits
abbrev pub is_number : List ℕ → Bool
is_number text = nat_le 1 (length text) && nat_le (length text) MAX_DIGITS && list_all is_ascii_digit text

-- and its number is one from low to high
abbrev pub is_number_in : ℕ → ℕ → List ℕ → Bool
is_number_in low high text = is_number text && nat_le low (digits_value 10 text) && nat_le (digits_value 10 text) high

-- the number of a text, where it is one from low to high
abbrev pub number_in : ℕ → ℕ → List ℕ → Option ℕ
number_in low high text = if is_number_in low high text then Some (digits_value 10 text) else None
