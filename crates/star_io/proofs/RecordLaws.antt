-- The laws of records: a list of bytes begins with one record at most, and is the spelling of one list of records.
use Rattle.std.proofs.Common.{◌≡◌, ℕ, zero, suc, ◌+◌, ◌^◌, ◌<◌, ◌≤◌, Bool, false, cond, List, [], ◌∷◌, ◌++◌, length, get_or, take, drop, refl, sym, ap, subst, ◌∙◌, append_assoc, arith, inl, inr, length-append}
use Rattle.std.specs.Prelude.{nat_lt}
use Rattle.std.specs.Int.{w32, to_be_bytes, from_be_bytes}
use Rattle.std.proofs.lemmas.Bool.{cases_lt, le-ltb, lt-ltb}
use Rattle.std.proofs.lemmas.List.{take_at, drop_at, take-append-drop, length-take, length-drop, nil_from_length, drop-drop}
use Rattle.std.proofs.lemmas.Nat.{be_bytes_4, from_be_bytes-to_be_bytes_4}
use Rattle.star_io.specs.declared.record.TheConstants.{MAX_RECORD_BYTES}
use Rattle.star_io.specs.declared.record.Record.{Record}
use Rattle.star_io.specs.declared.record.Record.TheVariants.{Whole, TooLong, CutLength, CutRecord}
use Rattle.star_io.specs.Records.{Begins, BeginAll, AreRecords, HasOneList}
use Rattle.star_io.specs.RecordLists.{record_of_length, first_record}
use Rattle.star_io.specs.Bytes.{AreBytes}
use Rattle.star_io.proofs.ByteLists.{AreBytes-drop, AreBytes-get_or, AreBytes-take}

-- after a whole length
at_length : (said : ℕ) (tail : List ℕ) → said < 2 ^ 32 → first_record (to_be_bytes w32 said ++ tail) ≡ record_of_length said tail
unfolding first_record
at_length said tail lt =
    let front : take 4 (to_be_bytes w32 said ++ tail) ≡ to_be_bytes w32 said = take_at (to_be_bytes w32 said) tail 4 refl in
    let back : drop 4 (to_be_bytes w32 said ++ tail) ≡ tail = drop_at (to_be_bytes w32 said) tail 4 refl in
    let long : nat_lt (length (to_be_bytes w32 said ++ tail)) 4 ≡ false = le-ltb _ _ (omega (arith, length-append (to_be_bytes w32 said) tail)) in
    let whole : List ℕ = to_be_bytes w32 said ++ tail in
    let first : first_record whole ≡ record_of_length (from_be_bytes w32 (take 4 whole)) (drop 4 whole) =
    ap (λ (b : Bool). cond b (CutLength (length whole), []) (record_of_length (from_be_bytes w32 (take 4 whole)) (drop 4 whole))) long in
    first ∙ ap (λ (n : ℕ). record_of_length n (drop 4 whole)) (ap (from_be_bytes w32) front ∙ from_be_bytes-to_be_bytes_4 said lt) ∙ ap (record_of_length said) back

-- the body of a record that is kept
after_whole : (body rest : List ℕ) → length body ≤ MAX_RECORD_BYTES → record_of_length (length body) (body ++ rest) ≡ (Whole body, rest)
unfolding record_of_length
after_whole body rest le =
    let enough : nat_lt (length (body ++ rest)) (length body) ≡ false = le-ltb _ _ (omega (arith, length-append body rest)) in
    let short : nat_lt MAX_RECORD_BYTES (length body) ≡ false = le-ltb _ _ le in
    rw (enough, short, take_at body rest (length body) refl, drop_at body rest (length body) refl) refl

-- that of one that is too long
after_long : (said : ℕ) (body rest : List ℕ) → MAX_RECORD_BYTES < said → length body ≡ said → record_of_length said (body ++ rest) ≡ (TooLong said, rest)
unfolding record_of_length
after_long said body rest lt e =
    let enough : nat_lt (length (body ++ rest)) said ≡ false = le-ltb _ _ (omega (arith, length-append body rest)) in
    rw (enough, lt-ltb MAX_RECORD_BYTES said lt, drop_at body rest said e) refl

-- that of one that is cut
after_cut : (said : ℕ) (body : List ℕ) → length body < said → record_of_length said body ≡ (CutRecord said (length body), [])
unfolding record_of_length
after_cut said body lt = rw (lt-ltb (length body) said lt) refl

-- a length that is cut
at_cut : (bytes : List ℕ) → length bytes < 4 → first_record bytes ≡ (CutLength (length bytes), [])
unfolding first_record
at_cut bytes lt = rw (lt-ltb (length bytes) 4 lt) refl

-- the record with which the bytes begin is the first one
pub begins_first : (r : Record) (bytes rest : List ℕ) → Begins r bytes rest → first_record bytes ≡ (r, rest)
begins_first (Whole body) bytes rest b =
    ap first_record (b.1 ∙ append_assoc (to_be_bytes w32 (length body)) body rest) ∙ at_length (length body) (body ++ rest) (omega (arith, b.0)) ∙ after_whole body rest b.0
begins_first (TooLong said) bytes rest b =
    ap first_record (b.2.2 ∙ append_assoc (to_be_bytes w32 said) b.2.0 rest) ∙ at_length said (b.2.0 ++ rest) b.1 ∙ after_long said b.2.0 rest b.0 b.2.1
begins_first (CutLength have) bytes rest b =
    at_cut bytes (omega (arith, b.1, b.2)) ∙ ap (λ (n : ℕ). (CutLength n, [])) b.2 ∙ ap (λ (l : List ℕ). (CutLength have, l)) (sym b.3)
begins_first (CutRecord said have) bytes rest b =
    ap first_record b.2.2 ∙ at_length said b.2.0 b.1 ∙ after_cut said b.2.0 (omega (arith, b.2.1, b.0)) ∙ ap (λ (n : ℕ). (CutRecord said n, [])) b.2.1 ∙ ap (λ (l : List ℕ). (CutRecord said have, l)) (sym b.3)

-- the first record is determined, and so is what follows it
pub same_first : (r q : Record) (bytes rest left : List ℕ) → Begins r bytes rest → Begins q bytes left → (r ≡ q) × (rest ≡ left)
same_first r q bytes rest left b d =
    let e : (r, rest) ≡ (q, left) = sym (begins_first r bytes rest b) ∙ begins_first q bytes left d in
    (ap (λ (x : Record × List ℕ). x.0) e, ap (λ (x : Record × List ℕ). x.1) e)

-- a record takes at least one byte
pub shorter : (r : Record) (bytes rest : List ℕ) → Begins r bytes rest → length rest < length bytes
shorter (Whole body) bytes rest b = omega (arith, ap length b.1, length-append (to_be_bytes w32 (length body) ++ body) rest, length-append (to_be_bytes w32 (length body)) body)
shorter (TooLong said) bytes rest b = omega (arith, ap length b.2.2, length-append (to_be_bytes w32 said ++ b.2.0) rest, length-append (to_be_bytes w32 said) b.2.0)
shorter (CutLength have) bytes rest b = omega (arith, b.0, b.2, ap length b.3)
shorter (CutRecord said have) bytes rest b = omega (arith, ap length b.2.2, length-append (to_be_bytes w32 said) b.2.0, ap length b.3)

-- two lists of records of the same bytes are one
pub same_records : (rs qs : List Record) (bytes : List ℕ) → AreRecords rs bytes → AreRecords qs bytes → rs ≡ qs
same_records [] [] bytes a b = refl
same_records [] (q ∷ qs) bytes a b = absurd (omega (arith, shorter q bytes b.0 b.1, ap length a))
same_records (r ∷ rs) [] bytes a b = absurd (omega (arith, shorter r bytes a.0 a.1, ap length b))
same_records (r ∷ rs) (q ∷ qs) bytes a b =
    let e = same_first r q bytes a.0 b.0 a.1 b.1 in
    let tail : rs ≡ qs = same_records rs qs b.0 (subst (λ (l : List ℕ). AreRecords rs l) e.1 a.2) b.2 in
    ap (λ (x : Record). x ∷ rs) e.0 ∙ ap (λ (l : List Record). q ∷ l) tail

-- where all are records, no byte follows as many of them or more
pub none_follow : (rs qs : List Record) (bytes rest : List ℕ) → AreRecords rs bytes → BeginAll qs bytes rest → length rs ≤ length qs → rest ≡ []
none_follow [] [] bytes rest a b le = sym b ∙ a
none_follow [] (q ∷ qs) bytes rest a b le = absurd (omega (arith, shorter q bytes b.0 b.1, ap length a))
none_follow (r ∷ rs) [] bytes rest a b le = absurd (omega arith)
none_follow (r ∷ rs) (q ∷ qs) bytes rest a b le =
    let e = same_first r q bytes a.0 b.0 a.1 b.1 in
    none_follow rs qs b.0 rest (subst (λ (l : List ℕ). AreRecords rs l) e.1 a.2) b.2 (omega arith)

-- a record that follows others is the last of them
pub begin_more : (rs : List Record) (r : Record) (bytes middle rest : List ℕ) → BeginAll rs bytes middle → Begins r middle rest → BeginAll (rs ++ r ∷ []) bytes rest
begin_more [] r bytes middle rest a b = (rest, subst (λ (l : List ℕ). Begins r l rest) (sym a) b, refl)
begin_more (q ∷ qs) r bytes middle rest a b = (a.0, a.1, begin_more qs r a.0 middle rest a.2 b)

-- after a whole length some record stands
begins_body : (said : ℕ) (bytes tail : List ℕ) → said < 2 ^ 32 → bytes ≡ to_be_bytes w32 said ++ tail → (r : Record) × (n : ℕ) × Begins r bytes (drop n tail)
begins_body said bytes tail fits spelt =
    let cut_in_two : bytes ≡ (to_be_bytes w32 said ++ take said tail) ++ drop said tail =
    spelt ∙ ap (λ (l : List ℕ). to_be_bytes w32 said ++ l) (sym (take-append-drop said tail)) ∙ sym (append_assoc (to_be_bytes w32 said) (take said tail) (drop said tail)) in
    elim (cases_lt (length tail) said) [
      | inl cut ↦ (CutRecord said (length tail), length tail, (cut, fits, (tail, refl, spelt), nil_from_length _ (omega (arith, length-drop (length tail) tail))))
      | inr whole ↦
          let body_length : length (take said tail) ≡ said = omega (arith, length-take said tail) in
          elim (cases_lt MAX_RECORD_BYTES said) [
            | inl long ↦ (TooLong said, said, (long, fits, (take said tail, body_length, cut_in_two)))
            | inr short ↦ (Whole (take said tail), said, (omega arith, cut_in_two ∙ ap (λ (n : ℕ). (to_be_bytes w32 n ++ take said tail) ++ drop said tail) (sym body_length)))
          ]
    ]

-- where at least one byte is left, some record stands
pub begins_some : (bytes : List ℕ) → AreBytes bytes → 0 < length bytes → (r : Record) × (n : ℕ) × Begins r bytes (drop n bytes)
begins_some bytes are_bytes some =
    elim (cases_lt (length bytes) 4) [
      | inl cut ↦ (CutLength (length bytes), length bytes, (some, cut, refl, nil_from_length _ (omega (arith, length-drop (length bytes) bytes))))
      | inr whole ↦
          let said = from_be_bytes w32 (take 4 bytes) in
          let byte : (i : ℕ) → get_or (take 4 bytes) i 0 < 256 = λ i. AreBytes-get_or (take 4 bytes) i (AreBytes-take 4 bytes are_bytes) in
          let length_spelt : to_be_bytes w32 said ≡ take 4 bytes = be_bytes_4 (take 4 bytes) said (omega (arith, length-take 4 bytes)) byte refl in
          let fits : said < 2 ^ 32 = omega (arith, byte 0, byte 1, byte 2, byte 3) in
          let spelt : bytes ≡ to_be_bytes w32 said ++ drop 4 bytes = sym (take-append-drop 4 bytes) ∙ ap (λ (l : List ℕ). l ++ drop 4 bytes) (sym length_spelt) in
          let found = begins_body said bytes (drop 4 bytes) fits spelt in
          (found.0, 4 + found.1, subst (λ (l : List ℕ). Begins found.0 bytes l) (drop-drop found.1 4 bytes) found.2)
    ]

-- at most n bytes are some records
some_records : (n : ℕ) (bytes : List ℕ) → length bytes ≤ n → AreBytes bytes → (rs : List Record) × AreRecords rs bytes
some_records n [] within are_bytes = ([], refl)
some_records zero (x ∷ xs) within are_bytes = absurd (omega arith)
some_records (suc n) (x ∷ xs) within are_bytes =
    let first = begins_some (x ∷ xs) are_bytes (omega arith) in
    let rest = drop first.1 (x ∷ xs) in
    let less = shorter first.0 (x ∷ xs) rest first.2 in
    let others = some_records n rest (omega arith) (AreBytes-drop first.1 (x ∷ xs) are_bytes) in
    (first.0 ∷ others.0, (rest, first.2, others.1))

-- bytes are the spelling of one list of records, and of no other
pub one_list_of : (bytes : List ℕ) → AreBytes bytes → HasOneList bytes
one_list_of bytes are_bytes =
    let some = some_records (length bytes) bytes (omega arith) are_bytes in
    (some.0, some.1, λ others are_records. same_records others some.0 bytes are_records some.1)
