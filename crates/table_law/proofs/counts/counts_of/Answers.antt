use Rattle.std.proofs.Common.{◌≡◌, ℕ, ◌+◌, ◌<◌, ◌≤◌, ◌≢◌, true, false, sym, ap, ◌∙◌, refl, length, take, get_or, slice_index, slice_set, arith, eqb, eqb-true, eq-eqb}
use Rattle.std.specs.Prelude.{◌==◌, count_by}
use Rattle.std.proofs.lemmas.List.{length-take-le, get_or_default, get_or-set_same, get_or-set_other, length-set}
use Rattle.std.proofs.lemmas.List.Sums.{count_by-le-length, count_by_more_yes, count_by_more_no}
use Rattle.table_law.proofs.counts.counts_of.Goals as goal

pub overflow_add-index_mut : goal.overflow_add-index_mut
overflow_add-index_mut c =
    let numbers = c.args.numbers.now in
    let i : ℕ = c.numbers.n-index in
    let n : ℕ = get_or numbers i 0 in
    let below : n < length numbers = c.requires.below i c.numbers-test.true in
    let counted : slice_index c.numbers.counts.items n ≡ count_by (λ m. m == n) (take i numbers) = c.numbers.invariant.1 n below in
    let few : count_by (λ m. m == n) (take i numbers) ≤ length (take i numbers) = count_by-le-length (λ m. m == n) (take i numbers) in
    let at : c.index_mut.result.now ≡ slice_index c.numbers.counts.items n = c.index_mut.ensures.value ∙ get_or_default c.numbers.counts.items n c.index_mut.result.now 0 (omega (arith, c.numbers.invariant.0)) in
    omega (arith, length-take-le i numbers (omega arith))

pub numbers-preserved : goal.numbers-preserved
numbers-preserved c =
    let numbers = c.args.numbers.now in
    let counts = c.numbers.counts.items in
    let i : ℕ = c.numbers.n-index in
    let n : ℕ = get_or numbers i 0 in
    let within : i < length numbers = c.numbers-test.true in
    let below : n < length numbers = c.requires.below i within in
    let at : c.index_mut.result.now ≡ slice_index counts n = c.index_mut.ensures.value ∙ get_or_default counts n c.index_mut.result.now 0 (omega (arith, c.numbers.invariant.0)) in (
      length-set counts n (c.index_mut.result.now + 1) ∙ c.numbers.invariant.0,
      λ j lt.
          elim (eqb n j) as (λ b. eqb n j ≡ b → slice_index (slice_set counts n (c.index_mut.result.now + 1)) j ≡ count_by (λ m. m == j) (take (i + 1) numbers)) [
            | true ↦ λ e.
                let is : n ≡ j = eqb-true n j e in
                let more : count_by (λ m. m == j) (take (i + 1) numbers) ≡ count_by (λ m. m == j) (take i numbers) + 1 = count_by_more_yes (λ m. m == j) numbers i 0 within e in
                let set_there : slice_index (slice_set counts n (c.index_mut.result.now + 1)) j ≡ c.index_mut.result.now + 1 = ap (slice_index (slice_set counts n (c.index_mut.result.now + 1))) (sym is) ∙ get_or-set_same counts n (c.index_mut.result.now + 1) 0 (omega (arith, c.numbers.invariant.0)) in
                let was : slice_index counts j ≡ count_by (λ m. m == j) (take i numbers) = c.numbers.invariant.1 j lt in
                let here : slice_index counts n ≡ slice_index counts j = ap (slice_index counts) is in
                omega arith
            | false ↦ λ e.
                let apart : j ≢ n = λ s. let no : true ≡ false = sym (eq-eqb n j (sym s)) ∙ e in cc in
                get_or-set_other counts n j (c.index_mut.result.now + 1) 0 apart ∙ c.numbers.invariant.1 j lt
                ∙ sym (count_by_more_no (λ m. m == j) numbers i 0 within e)
          ] refl,
    )
