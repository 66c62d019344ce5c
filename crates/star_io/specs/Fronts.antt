-- The records of the front of a stream, from those of the whole.
use Rattle.std.specs.Prelude.{◌+◌, ◌-◌, ℕ, List, [], ◌∷◌, length, take, nat_lt, sum_by, if◌then◌else◌}
use Rattle.std.specs.Int.{w32, from_be_bytes}
use Rattle.star_io.specs.declared.record.Record.{Record}
use Rattle.star_io.specs.declared.record.Record.TheVariants.{Whole, TooLong, CutLength, CutRecord}

-- how many bytes spell the record: its length, where that is whole, and what there is of its body
abbrev pub spelling_length : Record → ℕ
spelling_length (Whole body) = 4 + length body
spelling_length (TooLong said) = 4 + said
spelling_length (CutLength have) = have
spelling_length (CutRecord said have) = 4 + have

-- how many bytes spell the records, joined
abbrev pub spelled : List Record → ℕ
spelled records = sum_by spelling_length records

-- those of the records whose spellings, joined, end within so many bytes
unfoldable pub ended_within : ℕ → List Record → List Record
ended_within count [] = []
ended_within count (first ∷ others) =
    if nat_lt count (spelling_length first) then []
    else first ∷ ended_within (count - spelling_length first) others

-- the records of bytes at a stream's end that are no whole record: none of no bytes, one cut record of some
unfoldable pub cut_record : List ℕ → List Record
cut_record [] = []
cut_record (byte ∷ bytes) =
    (if nat_lt (length (byte ∷ bytes)) 4 then CutLength (length (byte ∷ bytes))
    else CutRecord (from_be_bytes w32 (take 4 (byte ∷ bytes))) (length (byte ∷ bytes) - 4)) ∷ []
