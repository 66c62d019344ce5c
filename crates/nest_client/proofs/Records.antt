-- Streams of whole records.
use Rattle.std.proofs.Common.{◌≡◌, ◌∙◌, ◌≤◌, ℕ, ◌+◌, List, [], ◌∷◌, ◌++◌, length, ap, subst, sym, append_assoc, arith}
use Rattle.std.specs.Int.{w32, to_be_bytes}
use Rattle.std.proofs.lemmas.List.{map-append, append-nil}
use Rattle.std.proofs.lemmas.List.FromFn.{map-range_with_len_more}
use Rattle.star_io.specs.Records.{Begins, BeginAll, AreRecords}
use Rattle.star_io.specs.declared.record.TheConstants.{MAX_RECORD_BYTES}
use Rattle.star_io.specs.declared.record.Record.{Record}
use Rattle.star_io.specs.declared.record.Record.TheVariants.{Whole}
use Rattle.star_io.specs.RecordLists.{record_bytes, whole}
use Rattle.star_io.proofs.RecordLaws.{begin_more}
use Rattle.nest_client.specs.Stream.{first_of}

-- what follows bytes follows the records with which they begin
more_behind : (bodies : List (List ℕ)) (bytes rest more : List ℕ) → BeginAll (whole bodies) bytes rest → BeginAll (whole bodies) (bytes ++ more) (rest ++ more)
more_behind [] bytes rest more all = ap (λ (l : List ℕ). l ++ more) all
more_behind (body ∷ bodies) bytes rest more all = (
  all.0 ++ more,
  (
    all.1.0,
    ap (λ (l : List ℕ). l ++ more) all.1.1 ∙ append_assoc (to_be_bytes w32 (length body) ++ body) all.0 more,
  ),
  more_behind bodies all.0 rest more all.2,
)

-- a record after those of f 0, f 1 and so on
pub one_more : (f : ℕ → List ℕ) (n : ℕ) (text next body : List ℕ) → AreRecords (whole (first_of f n)) text → length body ≤ MAX_RECORD_BYTES → body ≡ f n
    → next ≡ text ++ record_bytes body → AreRecords (whole (first_of f (n + 1))) next
one_more f n text next body so_far short body_is next_is =
    let spelt : List ℕ = record_bytes body in
    let follows : Begins (Whole body) spelt [] = (short, sym (append-nil spelt)) in
    let all : AreRecords (whole (first_of f n) ++ Whole body ∷ []) (text ++ spelt) =
    begin_more (whole (first_of f n)) (Whole body) (text ++ spelt) spelt [] (more_behind (first_of f n) text [] spelt so_far) follows in
    let records : whole (first_of f n) ++ Whole body ∷ [] ≡ whole (first_of f (n + 1)) =
    ap (λ (b : List ℕ). whole (first_of f n) ++ Whole b ∷ []) body_is
    ∙ sym (map-append (λ (b : List ℕ). Whole b) (first_of f n) (f n ∷ []))
    ∙ sym (ap whole (map-range_with_len_more f 0 n n (omega arith))) in
    subst (λ (l : List ℕ). AreRecords (whole (first_of f (n + 1))) l) (sym next_is)
    (subst (λ (rs : List Record). AreRecords rs (text ++ spelt)) records all)
