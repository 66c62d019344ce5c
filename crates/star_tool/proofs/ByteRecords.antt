-- The records of bytes have bytes.
use Rattle.std.proofs.Common.{ℕ, List, [], ◌∷◌, ◌++◌, length, sym, subst}
use Rattle.std.specs.Int.{w32, to_be_bytes}
use Rattle.std.proofs.lemmas.List.Elements.{All-cons, All-nil}
use Rattle.star_io.specs.Bytes.{AreBytes}
use Rattle.star_io.specs.Records.{Begins, AreRecords}
use Rattle.star_io.specs.RecordLists.{stream_records}
use Rattle.star_io.specs.declared.record.Record.{Record}
use Rattle.star_io.specs.declared.record.Record.TheVariants.{Whole, TooLong, CutLength, CutRecord}
use Rattle.star_io.proofs.ByteLists.{AreBytes-nil, AreBytes-append_left, AreBytes-append_right}
use Rattle.star_io.proofs.RecordListLaws.{are_stream_records}
use Rattle.layer_walk.specs.Laws.{IsByteRecord, AreByteRecords}

-- the first record, and the bytes behind it
first_bytes : (r : Record) (bytes rest : List ℕ) → AreBytes bytes → Begins r bytes rest → IsByteRecord r × AreBytes rest
first_bytes (Whole body) bytes rest are b =
    let said = to_be_bytes w32 (length body) in
    let all : AreBytes ((said ++ body) ++ rest) = subst AreBytes b.1 are in
    (AreBytes-append_right said body (AreBytes-append_left (said ++ body) rest all), AreBytes-append_right (said ++ body) rest all)
first_bytes (TooLong said) bytes rest are b = (tt, AreBytes-append_right (to_be_bytes w32 said ++ b.2.0) rest (subst AreBytes b.2.2 are))
first_bytes (CutLength have) bytes rest are b = (tt, subst AreBytes (sym b.3) AreBytes-nil)
first_bytes (CutRecord said have) bytes rest are b = (tt, subst AreBytes (sym b.3) AreBytes-nil)

byte_records : (rs : List Record) (bytes : List ℕ) → AreBytes bytes → AreRecords rs bytes → AreByteRecords rs
byte_records [] bytes are records = All-nil IsByteRecord
byte_records (r ∷ rs) bytes are records =
    let first = first_bytes r bytes records.0 are records.1 in
    All-cons IsByteRecord r rs first.0 (byte_records rs records.0 first.1 records.2)

-- the records of a stream of bytes
pub stream_byte_records : (bytes : List ℕ) → AreBytes bytes → AreByteRecords (stream_records bytes)
stream_byte_records bytes are = byte_records (stream_records bytes) bytes are (are_stream_records bytes are)
