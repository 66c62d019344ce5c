-- The records of the front of a stream are those of the whole that end within it, and one cut record where these don't make it up.
use Rattle.std.proofs.Common.{◌≡◌, ℕ, ◌+◌, ◌-◌, ◌^◌, ◌<◌, ◌≤◌, List, [], ◌∷◌, ◌++◌, inl, inr, length, take, drop, refl, sym, ap, subst, ◌∙◌, append_assoc, arith, length-append}
use Rattle.std.specs.Int.{w32, to_be_bytes, from_be_bytes}
use Rattle.std.proofs.lemmas.Bool.{cases_lt, le-ltb, lt-ltb}
use Rattle.std.proofs.lemmas.List.{take_at, drop_at, take-append-drop, take-append-le, drop-append-le, length-drop, nil_from_length, append-nil, drop-drop}
use Rattle.std.proofs.lemmas.List.Sums.{sum_by-cons}
use Rattle.std.proofs.lemmas.Nat.{from_be_bytes-to_be_bytes_4}
use Rattle.star_io.specs.declared.record.Record.{Record}
use Rattle.star_io.specs.declared.record.Record.TheVariants.{Whole, TooLong, CutLength, CutRecord}
use Rattle.star_io.specs.Bytes.{AreBytes}
use Rattle.star_io.specs.Records.{Begins, AreRecords}
use Rattle.star_io.specs.RecordLists.{stream_records}
use Rattle.star_io.specs.Fronts.{spelling_length, spelled, ended_within, cut_record}
use Rattle.star_io.proofs.RecordListLaws.{only_records, are_stream_records}

-- ---- where a record ends

-- what follows a record is all but its spelling
rest_of : (r : Record) (bytes rest : List ℕ) → Begins r bytes rest → rest ≡ drop (spelling_length r) bytes
rest_of (Whole body) bytes rest b =
    let s = to_be_bytes w32 (length body) ++ body in
    sym (ap (drop (4 + length body)) b.1 ∙ drop_at s rest (4 + length body) (length-append (to_be_bytes w32 (length body)) body))
rest_of (TooLong said) bytes rest b =
    let s = to_be_bytes w32 said ++ b.2.0 in
    sym (ap (drop (4 + said)) b.2.2 ∙ drop_at s rest (4 + said) (omega (arith, length-append (to_be_bytes w32 said) b.2.0, b.2.1)))
rest_of (CutLength have) bytes rest b = b.3 ∙ sym (nil_from_length _ (omega (arith, length-drop have bytes, b.2)))
rest_of (CutRecord said have) bytes rest b =
    b.3 ∙ sym (nil_from_length _ (omega (arith, length-drop (4 + have) bytes, ap length b.2.2, length-append (to_be_bytes w32 said) b.2.0, b.2.1)))

-- a record's spelling is as long as it says
spelling_of : (r : Record) (bytes rest : List ℕ) → Begins r bytes rest → spelling_length r + length rest ≡ length bytes
spelling_of (Whole body) bytes rest b =
    omega (arith, ap length b.1, length-append (to_be_bytes w32 (length body) ++ body) rest, length-append (to_be_bytes w32 (length body)) body)
spelling_of (TooLong said) bytes rest b =
    omega (arith, b.2.1, ap length b.2.2, length-append (to_be_bytes w32 said ++ b.2.0) rest, length-append (to_be_bytes w32 said) b.2.0)
spelling_of (CutLength have) bytes rest b = omega (arith, b.2, ap length b.3)
spelling_of (CutRecord said have) bytes rest b =
    omega (arith, b.2.1, ap length b.2.2, length-append (to_be_bytes w32 said) b.2.0, ap length b.3)

-- ---- a record that ends within the front

-- where one end of a list holds the other, the rest of the front lies between
between : (s c more m : List ℕ) → c ++ more ≡ s ++ m → length more ≤ length m → (t : List ℕ) × (m ≡ t ++ more) × (c ≡ s ++ t)
between s c more m e le =
    let n = length s in
    let fits : n ≤ length c = omega (arith, ap length e, length-append c more, length-append s m) in
    let front : take n c ≡ s = sym (take-append-le n c more fits) ∙ ap (take n) e ∙ take_at s m n refl in
    let back : m ≡ drop n c ++ more = sym (drop_at s m n refl) ∙ ap (drop n) (sym e) ∙ drop-append-le n c more fits in
    (drop n c, back, sym (take-append-drop n c) ∙ ap (λ l. l ++ drop n c) front)

-- the front begins with such a record too
within_front : (r : Record) (c more middle : List ℕ) → Begins r (c ++ more) middle → length more ≤ length middle → (t : List ℕ) × (middle ≡ t ++ more) × Begins r c t
within_front (Whole body) c more middle b le =
    let p = between (to_be_bytes w32 (length body) ++ body) c more middle b.1 le in
    (p.0, p.1, (b.0, p.2))
within_front (TooLong said) c more middle b le =
    let p = between (to_be_bytes w32 said ++ b.2.0) c more middle b.2.2 le in
    (p.0, p.1, (b.0, b.1, (b.2.0, b.2.1, p.2)))
within_front (CutLength have) c more middle b le =
    let none : more ≡ [] = nil_from_length more (omega (arith, ap length b.3)) in
    let all : c ++ more ≡ c = ap (λ l. c ++ l) none ∙ append-nil c in
    ([], b.3 ∙ sym none, (b.0, b.1, sym (ap length all) ∙ b.2, refl))
within_front (CutRecord said have) c more middle b le =
    let none : more ≡ [] = nil_from_length more (omega (arith, ap length b.3)) in
    let all : c ++ more ≡ c = ap (λ l. c ++ l) none ∙ append-nil c in
    ([], b.3 ∙ sym none, (b.0, b.1, (b.2.0, b.2.1, sym all ∙ b.2.2), refl))

-- ---- a record that ends beyond it

-- three or fewer bytes of a length
cut_length : (byte : ℕ) (bytes : List ℕ) → length (byte ∷ bytes) < 4 → AreRecords (cut_record (byte ∷ bytes)) (byte ∷ bytes)
unfolding cut_record
cut_length byte bytes short =
    rw (lt-ltb (length (byte ∷ bytes)) 4 short) ([], (omega arith, short, refl, refl), refl)

-- a whole length, and fewer bytes than it says
cut_body : (said byte : ℕ) (bytes more tail : List ℕ) → (byte ∷ bytes) ++ more ≡ to_be_bytes w32 said ++ tail → said < 2 ^ 32 → 4 ≤ length (byte ∷ bytes) → length (byte ∷ bytes) < 4 + said → AreRecords (cut_record (byte ∷ bytes)) (byte ∷ bytes)
unfolding cut_record
cut_body said byte bytes more tail e fits long short =
    let c = byte ∷ bytes in
    let front : take 4 c ≡ to_be_bytes w32 said = sym (take-append-le 4 c more long) ∙ ap (take 4) e ∙ take_at (to_be_bytes w32 said) tail 4 refl in
    let spelt : c ≡ to_be_bytes w32 said ++ drop 4 c = sym (take-append-drop 4 c) ∙ ap (λ l. l ++ drop 4 c) front in
    let says : from_be_bytes w32 (take 4 c) ≡ said = ap (from_be_bytes w32) front ∙ from_be_bytes-to_be_bytes_4 said fits in
    let cut : AreRecords (CutRecord said (length c - 4) ∷ []) c = ([], (omega arith, fits, (drop 4 c, length-drop 4 c, spelt), refl), refl) in
    rw (le-ltb (length c) 4 long, says) cut

-- such a record leaves a cut one of the front
cut_of : (r : Record) (c more middle : List ℕ) → Begins r (c ++ more) middle → length c < spelling_length r → AreRecords (cut_record c) c
unfolding cut_record
cut_of r [] more middle b beyond = refl
cut_of r (byte ∷ bytes) more middle b beyond =
    elim (cases_lt (length (byte ∷ bytes)) 4) [
      | inl short ↦ cut_length byte bytes short
      | inr long ↦ deep r b beyond long
    ]
  where
    deep : (r : Record) → Begins r ((byte ∷ bytes) ++ more) middle → length (byte ∷ bytes) < spelling_length r → 4 ≤ length (byte ∷ bytes) → AreRecords (cut_record (byte ∷ bytes)) (byte ∷ bytes)
    deep (Whole body) b beyond long =
        cut_body (length body) byte bytes more (body ++ middle) (b.1 ∙ append_assoc (to_be_bytes w32 (length body)) body middle) (omega (arith, b.0)) long beyond
    deep (TooLong said) b beyond long =
        cut_body said byte bytes more (b.2.0 ++ middle) (b.2.2 ∙ append_assoc (to_be_bytes w32 said) b.2.0 middle) b.1 long beyond
    deep (CutLength have) b beyond long = absurd (omega (arith, b.1))
    deep (CutRecord said have) b beyond long =
        cut_body said byte bytes more b.2.0 b.2.2 b.1 long (omega (arith, b.0))

-- ---- the law

-- records of the front, from those of the whole
abbrev front_of : List Record → List ℕ → List Record
front_of records front = let kept = ended_within (length front) records in kept ++ cut_record (drop (spelled kept) front)

-- they are the front's
are_front : (records : List Record) (front more : List ℕ) → AreRecords records (front ++ more) → AreRecords (front_of records front) front
unfolding ended_within cut_record
are_front [] front more are =
    let none : front ≡ [] = nil_from_length front (omega (arith, ap length are, length-append front more)) in
    subst (λ (c : List ℕ). AreRecords (cut_record c) c) (sym none) refl
are_front (r ∷ records) front more are =
    elim (cases_lt (length front) (spelling_length r)) [
      | inl beyond ↦ rw (lt-ltb (length front) (spelling_length r) beyond) (cut_of r front more are.0 are.1 beyond)
      | inr within ↦
          let w = within_front r front more are.0 are.1 (omega (arith, within, spelling_of r (front ++ more) are.0 are.1, length-append front more)) in
          let n : length front - spelling_length r ≡ length w.0 = omega (arith, within, spelling_of r front w.0 w.2) in
          let deeper = are_front records w.0 more (subst (λ (l : List ℕ). AreRecords records l) w.1 are.2) in
          let kept = ended_within (length w.0) records in
          let rest : drop (spelled kept) w.0 ≡ drop (spelled (r ∷ kept)) front =
          ap (drop (spelled kept)) (rest_of r front w.0 w.2) ∙ drop-drop (spelled kept) (spelling_length r) front
          ∙ ap (λ (n : ℕ). drop n front) (sym (sum_by-cons spelling_length r kept)) in
          rw (le-ltb (length front) (spelling_length r) within, n) (w.0, w.2, subst (λ (l : List ℕ). AreRecords (kept ++ cut_record l) w.0) rest deeper)
    ]

-- the records of the front are those
pub records_of_front : (front more : List ℕ) → AreBytes (front ++ more) → stream_records front ≡ front_of (stream_records (front ++ more)) front
records_of_front front more are_bytes =
    sym (only_records _ front (are_front (stream_records (front ++ more)) front more (are_stream_records (front ++ more) are_bytes)))
