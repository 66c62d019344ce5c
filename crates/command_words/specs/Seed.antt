-- The seed of the command line: 64 hexadecimal digits, in either case.
use Rattle.std.specs.Prelude.{ℕ, List, Option}
use Rattle.std.specs.Result.{result_ok}
use Rattle.hex.specs.Hex.{decode_sized}
use Rattle.command_words.specs.declared.seed.TheConstants.{SEED_BYTES}

-- the 32 bytes of a text of 64 digits
abbrev pub seed_of : List ℕ → Option (List ℕ)
seed_of text = result_ok (decode_sized text SEED_BYTES)
