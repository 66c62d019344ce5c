use Rattle.std.proofs.Common.{◌≡◌, ◌∙◌, ℕ, suc, ◌+◌, [], ◌∷◌, ◌++◌, refl, ap, length, slice_index, arith}
use Rattle.report_frame.specs.declared.version.Version.TheVariants.{One}
use Rattle.table_law.specs.Prefixes.{value_at, path_to}
use Rattle.table_law.proofs.FrontLaws.{length-path_to}
use Rattle.table_law.proofs.FrontMarks.{value_there}
use Rattle.table_law.proofs.prefixes.path_to.Goals as goal

pub layers-init : goal.layers-init
unfolding path_to
layers-init c = c.new-path.ensures

pub push-requires : goal.push-requires
push-requires c = omega (arith, ap length c.layers.invariant, length-path_to c.args.thresholds.now c.layers.layer c.args.row.now)

pub layers-preserved : goal.layers-preserved
unfolding path_to
layers-preserved c =
    let row = c.args.row.now in
    let ks = c.args.thresholds.now in
    let n : ℕ = c.layers.layer in
    let value : c.copy.result ≡ value_at row n = c.copy.ensures ∙ value_there row row c.index-row-layer.result n refl c.index-row-layer.is (omega arith) in
    c.push.ensures
    ∙ (λ i. c.layers.invariant i ++ record { value = value i; k = slice_index ks n; version = One } ∷ [])
    ∙ ap (λ m. path_to ks m row) {x = suc n} {y = n + 1} (omega arith)
