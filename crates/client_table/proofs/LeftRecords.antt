-- What a read of a record leaves.
use Rattle.std.proofs.Common.{Bor, ◌≡◌, ◌∙◌, ◌+◌, ◌<◌, ℕ, zero, suc, Bool, true, false, List, [], ◌∷◌, length, Option, Some, None, IsSome, refl, ap, sym, subst, rules, arith, inl, add-one}
use Rattle.std.specs.Bool.{MatchBool}
use Rattle.csv.specs.Machine.{Read, ends_at_end, next_record}
use Rattle.csv.specs.Reading.{ReadRecord, Reached, default_config, records_from}
use Rattle.csv.specs.declared.parser.Config.{Config}
use Rattle.csv.specs.declared.parser.State.{State}
use Rattle.csv.specs.declared.reader.Reader.{Reader}
use Rattle.csv.proofs.ReadFacts.{rows-end, rows-more}
use Rattle.client_table.specs.Left.{IsBetweenRecords, left, records_after, unread}
use Rattle.client_table.proofs.Between.{shorter}

-- the records are the same for each count of turns that is above the count of bytes
enough : (cfg : Config) (n m : ℕ) (s : State) (xs : List ℕ) → ends_at_end s ≡ false → length xs < n → length xs < m
    → (o : Option Read) → next_record cfg s [] [] xs ≡ o → records_from cfg n s xs ≡ records_from cfg m s xs
unfolding records_from
enough cfg zero m s xs between above_n above_m o next = absurd (omega arith)
enough cfg (suc n) zero s xs between above_n above_m o next = absurd (omega arith)
enough cfg (suc n) (suc m) s xs between above_n above_m None next = rw next refl
enough cfg (suc n) (suc m) s xs between above_n above_m (Some p) next =
    let less = shorter cfg s xs p between next in
    rw next (ap (λ (rest : List (List (List ℕ))). p.0 ∷ rest) (enough cfg n m p.1 p.2 less.1 (omega (arith, less.0)) (omega (arith, less.0)) (next_record cfg p.1 [] [] p.2) refl))

-- a record that is read is the first
first-record : (cfg : Config) (s : State) (xs : List ℕ) (p : Read) → ends_at_end s ≡ false → next_record cfg s [] [] xs ≡ Some p
    → records_from cfg (length xs + 1) s xs ≡ p.0 ∷ records_from cfg (length p.2 + 1) p.1 p.2
unfolding records_from
first-record cfg s xs p between next =
    let less = shorter cfg s xs p between next in
    rw (add-one, next) (ap (λ (rest : List (List (List ℕ))). p.0 ∷ rest) (enough cfg (length xs) (length p.2 + 1) p.1 p.2 less.1 less.0 (omega arith) (next_record cfg p.1 [] [] p.2) refl))

-- there are no records if none is read
no-record : (cfg : Config) (s : State) (xs : List ℕ) → next_record cfg s [] [] xs ≡ None → records_from cfg (length xs + 1) s xs ≡ []
unfolding records_from
no-record cfg s xs next = rw (add-one, next) refl

-- the value of an option that has one
value-of : (o : Option (List ℕ)) → IsSome o → (x : List ℕ) × (o ≡ Some x)
value-of None h = absurd (cc h)
value-of (Some x) h = (x, refl)

-- the same, by the state and the bytes after the record
first-after : (s s2 : State) (xs ys : List ℕ) (fields : List (List ℕ)) (p : Read) → ends_at_end s ≡ false → next_record default_config s [] [] xs ≡ Some p
    → fields ≡ p.0 → p.1 ≡ s2 → p.2 ≡ ys → (records_after s (Some xs) ≡ fields ∷ records_after s2 (Some ys)) × (ends_at_end s2 ≡ false)
first-after s s2 xs ys fields p between next is state bytes =
    rw (is, ← state, ← bytes) (first-record default_config s xs p between next, (shorter default_config s xs p between next).1)

-- a read that took a record leaves those after it
left-more : (a b : Reader (Bor (List ℕ))) (fields : List (List ℕ)) → IsBetweenRecords a → b.first ≡ true
    → ReadRecord (λ bytes. Some bytes.now) a b true fields → (left a ≡ fields ∷ left b) × IsBetweenRecords b
unfolding Reached
left-more a b fields is first read =
    let y = value-of (unread a) is.known in
    let more = rows-more (λ (bytes : Bor (List ℕ)). Some bytes.now) a b fields default_config a.state y.0 y.0 [] is.settings y.1 (refl, refl) read in
    let after = first-after a.state b.state y.0 more.0 fields more.2.0 is.between more.2.1 more.2.2 more.2.3.0 more.2.3.1 in (
      ap (records_after a.state) y.1 ∙ after.0 ∙ ap (λ (rest : List (List (List ℕ))). fields ∷ rest) (ap (records_after b.state) (sym more.1)),
      record {
        untrimmed = read.3 ∙ is.untrimmed;
        headless = inl first;
        settings = read.2 ∙ is.settings;
        known = subst IsSome (sym more.1) (search rules);
        between = after.1;
      },
    )

-- and one that found none leaves none
left-none : (a b : Reader (Bor (List ℕ))) (fields : List (List ℕ)) → IsBetweenRecords a
    → ReadRecord (λ bytes. Some bytes.now) a b false fields → left a ≡ []
left-none a b fields is read =
    let y = value-of (unread a) is.known in
    rw y.1 (no-record default_config a.state y.0 (rows-end (λ (bytes : Bor (List ℕ)). Some bytes.now) a b fields default_config y.0 is.settings y.1 read))

-- what a read that may have found a record leaves
pub left-found : (a b : Reader (Bor (List ℕ))) (fields : List (List ℕ)) (found : Bool) → IsBetweenRecords a → b.first ≡ true
    → ReadRecord (λ bytes. Some bytes.now) a b found fields → MatchBool found (left a ≡ fields ∷ left b) (left a ≡ [])
left-found a b fields true is first read = (left-more a b fields is first read).0
left-found a b fields false is first read = left-none a b fields is read

-- and where the reader then is
pub between-found : (a b : Reader (Bor (List ℕ))) (fields : List (List ℕ)) (found : Bool) → IsBetweenRecords a → b.first ≡ true
    → ReadRecord (λ bytes. Some bytes.now) a b found fields → found ≡ true → IsBetweenRecords b
between-found a b fields true is first read there = (left-more a b fields is first read).1
between-found a b fields false is first read there = cc there
