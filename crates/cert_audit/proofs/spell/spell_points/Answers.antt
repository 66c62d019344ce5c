use Rattle.std.proofs.Common.{◌∙◌, List, ℕ, ◌++◌, sym, ap, take, append_assoc}
use Rattle.cert_audit.specs.Certificate.{bytes_of_point, point_bytes}
use Rattle.cert_audit.proofs.Steps.{point_bytes-more}
use Rattle.cert_audit.proofs.spell.spell_points.Goals as goal

pub loop-point-preserved : goal.loop-point-preserved
loop-point-preserved c =
    let start : List ℕ = c.args.bytes.now.items in
    c.in_ok-spell_point.ensures
    ∙ ap (λ (l : List ℕ). l ++ bytes_of_point c.point-item.result) c.loop-point.invariant
    ∙ append_assoc start (point_bytes (take c.loop-point.point-index c.args.points.now)) (bytes_of_point c.point-item.result)
    ∙ ap (λ (l : List ℕ). start ++ l)
    (sym (point_bytes-more c.args.points.now c.loop-point.point-index c.point-item.result c.loop-point-test.true c.point-item.is))
