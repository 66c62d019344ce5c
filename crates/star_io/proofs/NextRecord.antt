-- The next record of a source that tells its bytes.
use Rattle.std.proofs.Common.{◌≡◌, ℕ, List, ◌++◌, length, Option, Some, None, sym, ap, subst, ◌∙◌, arith}
use Rattle.std.specs.Io.KnownBytes.{Consumes}
use Rattle.std.specs.Int.{w32, to_be_bytes}
use Rattle.star_io.specs.declared.record.Record.{Record}
use Rattle.star_io.specs.Records.{Begins}
use Rattle.star_io.specs.Reading.{TakesRecord, Continues}
use Rattle.star_io.proofs.RecordLaws.{same_first, shorter}

-- a record is its length, and what follows it
pub continues : (old middle new : Option (List ℕ)) (front : List ℕ) (said : ℕ) (r : Record) → to_be_bytes w32 said ≡ front → Consumes old middle front → Continues said middle new r → TakesRecord old new (Some r)
continues None middle new front said r e p q = tt
continues (Some bytes) None new front said r e p q = absurd p
continues (Some bytes) (Some tail) None front said r e p q = absurd q
continues (Some bytes) (Some tail) (Some rest) front said r e p q =
    subst (λ (l : List ℕ). Begins r l rest) (ap (λ (l : List ℕ). l ++ tail) e ∙ sym p) q

-- where the bytes left begin with a record, it is the one that was taken
pub only_record : (old new : Option (List ℕ)) (found : Option Record) (r : Record) (bytes rest : List ℕ) → TakesRecord old new found → old ≡ Some bytes → Begins r bytes rest → found ≡ Some r
only_record None new found r bytes rest taken told begins = absurd cc
only_record (Some left) None found r bytes rest taken told begins = absurd taken
only_record (Some left) (Some after) None r bytes rest taken told begins =
    let same : left ≡ bytes = cc in
    absurd (omega (arith, shorter r bytes rest begins, ap length same, ap length taken.0))
only_record (Some left) (Some after) (Some found) r bytes rest taken told begins =
    let same : left ≡ bytes = cc in
    ap (λ (q : Record). Some q) (same_first found r bytes after rest (subst (λ (l : List ℕ). Begins found l after) same taken) begins).0
