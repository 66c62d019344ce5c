-- The records of a list of bytes as a function: it gives the one list of which the bytes are the spelling.
use Rattle.std.proofs.Common.{◌≡◌, ℕ, zero, suc, ◌<◌, ◌≤◌, List, [], ◌∷◌, ◌++◌, length, drop, refl, sym, ap, subst, ◌∙◌, arith}
use Rattle.std.proofs.lemmas.List.Elements.{All-tail}
use Rattle.star_io.specs.declared.record.TheConstants.{MAX_RECORD_BYTES}
use Rattle.star_io.specs.declared.record.Record.{Record}
use Rattle.star_io.specs.Bytes.{AreBytes}
use Rattle.star_io.specs.Records.{Begins, BeginAll, AreRecords}
use Rattle.star_io.specs.RecordLists.{first_record, first_records, stream_records, rest_after, record_bytes, stream_of, whole, AreShort, HasMoreThan}
use Rattle.star_io.proofs.ByteLists.{AreBytes-drop}
use Rattle.star_io.proofs.RecordLaws.{begins_first, begins_some, shorter, one_list_of}

-- ---- the records

-- with steps enough these are all the records
all_records : (n : ℕ) (rs : List Record) (bytes : List ℕ) → length bytes ≤ n → AreRecords rs bytes → first_records n bytes ≡ rs
unfolding first_records
all_records n [] bytes enough are = rw are refl
all_records n (r ∷ rs) [] enough are = absurd (omega (arith, shorter r [] are.0 are.1))
all_records zero (r ∷ rs) (b ∷ bytes) enough are = absurd (omega arith)
all_records (suc n) (r ∷ rs) (b ∷ bytes) enough are =
    ap (λ (first : Record × List ℕ). first.0 ∷ first_records n first.1) (begins_first r (b ∷ bytes) are.0 are.1)
    ∙ ap (λ (l : List Record). r ∷ l) (all_records n rs are.0 (omega (arith, shorter r (b ∷ bytes) are.0 are.1)) are.2)

-- records of the bytes are those that the function gives
pub only_records : (rs : List Record) (bytes : List ℕ) → AreRecords rs bytes → rs ≡ stream_records bytes
unfolding stream_records
only_records rs bytes are = sym (all_records (length bytes) rs bytes (omega arith) are)

-- and those are records of the bytes
pub are_stream_records : (bytes : List ℕ) → AreBytes bytes → AreRecords (stream_records bytes) bytes
are_stream_records bytes are_bytes =
    let one = one_list_of bytes are_bytes in
    subst (λ (rs : List Record). AreRecords rs bytes) (only_records one.0 bytes one.1) one.1

-- ---- what follows the first records

-- what follows records is what follows as many of the first ones
pub rest_is : (rs : List Record) (bytes rest : List ℕ) → BeginAll rs bytes rest → rest_after (length rs) bytes ≡ rest
unfolding rest_after
rest_is [] [] rest b = b
rest_is [] (x ∷ bytes) rest b = b
rest_is (r ∷ rs) [] rest b = absurd (omega (arith, shorter r [] b.0 b.1))
rest_is (r ∷ rs) (x ∷ bytes) rest b =
    ap (λ (first : Record × List ℕ). rest_after (length rs) first.1) (begins_first r (x ∷ bytes) b.0 b.1) ∙ rest_is rs b.0 rest b.2

-- none follows all of them
pub rest_none : (n : ℕ) (rs : List Record) (bytes : List ℕ) → AreRecords rs bytes → length rs ≤ n → rest_after n bytes ≡ []
unfolding rest_after
rest_none n [] bytes are enough = rw are refl
rest_none n (r ∷ rs) [] are enough = refl
rest_none zero (r ∷ rs) (x ∷ bytes) are enough = absurd (omega arith)
rest_none (suc n) (r ∷ rs) (x ∷ bytes) are enough =
    ap (λ (first : Record × List ℕ). rest_after n first.1) (begins_first r (x ∷ bytes) are.0 are.1) ∙ rest_none n rs are.0 are.2 (omega arith)

-- the first record of bytes is one with which they begin, and bytes follow it
first_begins : (bytes : List ℕ) → AreBytes bytes → 0 < length bytes → Begins (first_record bytes).0 bytes (first_record bytes).1 × AreBytes (first_record bytes).1
first_begins bytes are_bytes some =
    let found = begins_some bytes are_bytes some in
    let is : first_record bytes ≡ (found.0, drop found.1 bytes) = begins_first found.0 bytes (drop found.1 bytes) found.2 in
    subst (λ (first : Record × List ℕ). Begins first.0 bytes first.1 × AreBytes first.1) (sym is) (found.2, AreBytes-drop found.1 bytes are_bytes)

-- the first records of bytes are records with which they begin
firsts_begin : (n : ℕ) (bytes : List ℕ) → AreBytes bytes → BeginAll (first_records n bytes) bytes (rest_after n bytes)
unfolding first_records rest_after
firsts_begin n [] are_bytes = refl
firsts_begin zero (x ∷ bytes) are_bytes = refl
firsts_begin (suc n) (x ∷ bytes) are_bytes =
    let first = first_begins (x ∷ bytes) are_bytes (omega arith) in
    ((first_record (x ∷ bytes)).1, first.0, firsts_begin n (first_record (x ∷ bytes)).1 first.1)

-- where something follows them, they are as many as were asked for
firsts_enough : (n : ℕ) (bytes : List ℕ) → 0 < length (rest_after n bytes) → length (first_records n bytes) ≡ n
unfolding first_records rest_after
firsts_enough n [] more = absurd (omega arith)
firsts_enough zero (x ∷ bytes) more = refl
firsts_enough (suc n) (x ∷ bytes) more = omega (arith, firsts_enough n (first_record (x ∷ bytes)).1 more)

-- bytes have more records than this exactly where something follows as many first ones
pub more_follows : (n : ℕ) (bytes : List ℕ) → HasMoreThan n bytes → 0 < length (rest_after n bytes)
more_follows n bytes more =
    let is : rest_after n bytes ≡ more.1 = ap (λ (m : ℕ). rest_after m bytes) (sym more.3) ∙ rest_is more.0 bytes more.1 more.2 in
    omega (arith, more.4, ap length is)

pub follows_more : (n : ℕ) (bytes : List ℕ) → AreBytes bytes → 0 < length (rest_after n bytes) → HasMoreThan n bytes
follows_more n bytes are_bytes follows =
    (first_records n bytes, rest_after n bytes, firsts_begin n bytes are_bytes, firsts_enough n bytes follows, follows)

-- ---- streams of whole records

-- bytes that are whole records are their stream
pub only_stream : (bodies : List (List ℕ)) (bytes : List ℕ) → AreRecords (whole bodies) bytes → bytes ≡ stream_of bodies
only_stream [] bytes are = are
only_stream (body ∷ bodies) bytes are =
    are.1.1 ∙ ap (λ (l : List ℕ). record_bytes body ++ l) (only_stream bodies are.0 are.2)

-- and back: a stream is those records
pub are_stream : (bodies : List (List ℕ)) → AreShort bodies → AreRecords (whole bodies) (stream_of bodies)
are_stream [] short = refl
are_stream (body ∷ bodies) short =
    (stream_of bodies, (short 0 [] (omega arith), refl), are_stream bodies (All-tail (λ (b : List ℕ). length b ≤ MAX_RECORD_BYTES) body bodies short))
