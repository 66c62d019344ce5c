use Rattle.std.proofs.Common.{◌∙◌, List, ℕ, ◌++◌, sym, ap, take, append_assoc}
use Rattle.std.specs.Int.{w64, to_be_bytes}
use Rattle.cert_audit.specs.Certificate.{number_bytes}
use Rattle.cert_audit.proofs.Steps.{number_bytes-more}
use Rattle.cert_audit.proofs.spell.spell_numbers.Goals as goal

pub loop-number-preserved : goal.loop-number-preserved
loop-number-preserved c =
    let start : List ℕ = c.args.bytes.now.items in
    let n : ℕ = c.number-item.result in
    c.in_ok-spell_number.ensures
    ∙ ap (λ (l : List ℕ). l ++ to_be_bytes w64 n) c.loop-number.invariant
    ∙ append_assoc start (number_bytes (take c.loop-number.number-index c.args.numbers.now)) (to_be_bytes w64 n)
    ∙ ap (λ (l : List ℕ). start ++ l)
    (sym (number_bytes-more c.args.numbers.now c.loop-number.number-index n c.loop-number-test.true c.number-item.is))
