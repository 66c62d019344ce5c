use Rattle.std.proofs.Common.{◌≡◌, ◌∙◌, ℕ, List, slice_index, ap, arith}
use Rattle.std.specs.Int.{w64, to_be_bytes}
use Rattle.std.proofs.lemmas.List.{get_or_default}
use Rattle.shamir_limbs.proofs.LimbLaws.{limbs-low_bytes}
use Rattle.shamir_limbs.proofs.key.key_of.Goals as goal

pub returns-clause-limbs : goal.returns-clause-limbs
returns-clause-limbs c =
    let numbers : List ℕ = c.args.numbers.now in
    let first : c.value-2.result ≡ slice_index numbers 0 = c.value-2.ensures.same ∙ get_or_default numbers 0 _ 0 (omega arith) in
    let second : c.value-3.result ≡ slice_index numbers 1 = c.value-3.ensures.same ∙ get_or_default numbers 1 _ 0 (omega arith) in
    let third : c.value-4.result ≡ slice_index numbers 2 = c.value-4.ensures.same ∙ get_or_default numbers 2 _ 0 (omega arith) in
    limbs-low_bytes numbers c.to_be_bytes-a.result c.to_be_bytes-b.result c.to_be_bytes-c.result (omega arith) (omega arith, omega arith, omega arith)
    (c.to_be_bytes-a.ensures ∙ ap (to_be_bytes w64) first) (c.to_be_bytes-b.ensures ∙ ap (to_be_bytes w64) second) (c.to_be_bytes-c.ensures ∙ ap (to_be_bytes w64) third)
