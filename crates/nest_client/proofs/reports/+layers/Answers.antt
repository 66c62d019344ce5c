use Rattle.std.proofs.Common.{◌≡◌, ◌∙◌, ◌≤◌, ◌-◌, ℕ, List, ◌∷◌, length, ap, sym, rules, arith}
use Rattle.report_frame.specs.declared.limits.TheConstants.{MIN_THRESHOLD}
use Rattle.report_frame.specs.Versions.{max_threshold}
use Rattle.nest_client.proofs.Layers.{frame_is, plain_is, last_is}
use Rattle.nest_client.proofs.Around.{begun_with, first_layer, each_behind, length-part}
use Rattle.nest_client.proofs.reports.+layers.Goals as goal

pub write_frame-write_plain_body-requires : goal.write_frame-write_plain_body-requires
write_frame-write_plain_body-requires t c =
    let values : List (List ℕ) = c.args.values.now in
    let frame : List ℕ = c.args.frame.now in
    let start : ℕ = c.body_start-start.result in
    let first = first_layer values c.index-values-0.result c.requires.some in
    let value = ap (λ (v : List ℕ). length v) (c.copy.ensures ∙ c.index-values-0.is) in
    let long = length-part frame start (length frame - 32) (omega (arith, first, value)) (omega arith) in
    let low = each_behind (λ (k : ℕ). MIN_THRESHOLD ≤ k) c.args.thresholds.now c.requires.low in
    let high = each_behind (λ (k : ℕ). k ≤ max_threshold c.args.reporter.now.client.version) c.args.thresholds.now c.requires.high in
    (search rules, (search rules, (search rules, (low, (high, (omega (arith, first, value, long), omega (arith, long)))))))

pub write_plain_body-returns-then-is_empty : goal.write_plain_body-returns-then-is_empty
write_plain_body-returns-then-is_empty t c =
    let none : length c.args.values.now ≡ 0 = grind arith in
    let last = last_is c.args.reporter.now.client c.args.reporter.now.extra c.args.level c.args.parent.now c.args.values.now c.args.thresholds.now none in
    begun_with c.args.body.now c.copy_from_slice.new.self 0 (omega arith) (omega arith)
    ∙ ap (λ (bytes : List ℕ). 0 ∷ bytes) (c.copy_from_slice.ensures.after ∙ c.as_slice.ensures.bytes) ∙ sym last

pub write_plain_body-returns : goal.write_plain_body-returns
write_plain_body-returns t c =
    let some : 1 ≤ length c.args.values.now = grind arith in
    let next =
    plain_is c.args.reporter.now.client c.args.reporter.now.extra c.args.level c.args.parent.now c.args.values.now c.args.thresholds.now some c.requires.width in
    begun_with c.args.body.now c.write_frame.new.frame 1 (omega arith) (omega arith)
    ∙ ap (λ (bytes : List ℕ). 1 ∷ bytes) (frame_is _ _ c.write_frame.ensures) ∙ sym next
