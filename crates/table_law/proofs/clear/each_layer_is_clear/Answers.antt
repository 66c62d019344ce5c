use Rattle.std.proofs.Common.{◌≡◌, ◌∙◌, ℕ, ◌+◌, ◌<◌, Bool, false, rules, inl, inr, List, sym, ap, subst, length, replicate, arith}
use Rattle.std.specs.Prelude.{IsTrue, ◌↔◌}
use Rattle.std.proofs.lemmas.Bool.{cases_lt, false≢true}
use Rattle.report_frame.specs.declared.limits.TheConstants.{CHECK_BYTES}
use Rattle.table_law.specs.Clear.{IsClearAt, Clear}
use Rattle.table_law.specs.Marks.{ArePoints}
use Rattle.table_law.proofs.Growing.{firsts_long, firsts_none}
use Rattle.table_law.proofs.Contexts.{next_checks, no_checks}
use Rattle.table_law.proofs.ClearLaws.{points_clear, clear_points, heads_clear, clear_heads}
use Rattle.table_law.proofs.clear.each_layer_is_clear.Goals as goal

-- a test that doesn't pass, of what a fact gives
refuted : {P C : Type 0} (b : Bool) → b ≡ false → IsTrue b ↔ P → (C → P) → IsTrue false ↔ C
refuted b is iff give = ((λ t. absurd (false≢true t)), (λ c. absurd (false≢true (sym is ∙ iff.1 (give c)))))

-- the points behind a reference
points_there : (seed : List ℕ) (rows other layers : ℕ) (points view : List (List ℕ)) → ArePoints seed rows layers points → rows ≡ other → view ≡ points → ArePoints seed other layers view
points_there seed rows other layers points view are same seen =
    subst (λ ps. ArePoints seed other layers ps) (sym seen) (subst (λ n. ArePoints seed n layers points) same are)

pub layers-init : goal.layers-init
layers-init c = record {
  firsts = c.in_ok-firsts.ensures.items_if_clones_equal (λ y h. search rules) ∙ ap (λ n. replicate n 0) c.len-2.ensures ∙ firsts_none c.args.table.now;
  checks = c.in_ok-checks.ensures ∙ ap (λ n. replicate n (replicate CHECK_BYTES 0)) c.len-3.ensures ∙ no_checks c.args.epoch c.args.thresholds.now c.args.table.now;
  clear = λ n lt. absurd (omega arith);
}

pub points_differ-requires-clause-long : goal.points_differ-requires-clause-long
points_differ-requires-clause-long c =
    omega (
      arith,
      firsts_long c.args.table.now (c.layers.layer + 1) c.deref-in-layers-2.result.now (c.deref-in-layers-2.ensures.value ∙ c.in_ok-longer.ensures.firsts),
      ap length c.deref-in-layers.ensures.value,
      c.in_ok-points.ensures.0,
      c.len.ensures,
    )

pub points_differ-requires-clause-few : goal.points_differ-requires-clause-few
points_differ-requires-clause-few c =
    omega (arith, firsts_long c.args.table.now (c.layers.layer + 1) c.deref-in-layers-2.result.now (c.deref-in-layers-2.ensures.value ∙ c.in_ok-longer.ensures.firsts))

pub points_differ-requires-clause-some : goal.points_differ-requires-clause-some
points_differ-requires-clause-some c = λ i lt.
    let table = c.args.table.now in
    let ks = c.args.thresholds.now in
    let are = points_there c.args.seed.now c.len.result (length table) (length ks) c.in_ok-points.points.items c.deref-in-layers.result.now c.in_ok-points.ensures c.len.ensures c.deref-in-layers.ensures.value in
    let inside : i < length table = omega (arith, lt, firsts_long table (c.layers.layer + 1) c.deref-in-layers-2.result.now (c.deref-in-layers-2.ensures.value ∙ c.in_ok-longer.ensures.firsts)) in
    let within : c.layers.layer < length ks = omega arith in
    omega (arith, are.1 c.args.epoch i c.layers.layer inside within)

pub returns-then-not-branch : goal.returns-then-not-branch
returns-then-not-branch c =
    let table = c.args.table.now in
    let ks = c.args.thresholds.now in
    let layer : ℕ = c.layers.layer in
    let within : layer < length ks = omega arith in
    let are = points_there c.args.seed.now c.len.result (length table) (length ks) c.in_ok-points.points.items c.deref-in-layers.result.now c.in_ok-points.ensures c.len.ensures c.deref-in-layers.ensures.value in
    refuted c.in_ok-points_differ.field-0 c.if-not-branch.true c.in_ok-points_differ.ensures
    (λ (clear : Clear table ks c.args.epoch c.args.seed.now).
    clear_points table ks c.args.epoch c.args.seed.now layer c.layers.firsts.items c.deref-in-layers-2.result.now c.layers.invariant.firsts (c.deref-in-layers-2.ensures.value ∙ c.in_ok-longer.ensures.firsts)
    (length ks) c.deref-in-layers.result.now are within (clear.at layer within))

pub heads_differ-requires-clause-firsts : goal.heads_differ-requires-clause-firsts
heads_differ-requires-clause-firsts c = firsts_long c.args.table.now c.layers.layer c.deref-in-layers-5.result.now (c.deref-in-layers-5.ensures.value ∙ c.layers.invariant.firsts)

pub heads_differ-requires-clause-longer : goal.heads_differ-requires-clause-longer
heads_differ-requires-clause-longer c = firsts_long c.args.table.now (c.layers.layer + 1) c.deref-in-layers-6.result.now (c.deref-in-layers-6.ensures.value ∙ c.in_ok-longer.ensures.firsts)

pub returns-then-not-branch-2 : goal.returns-then-not-branch-2
returns-then-not-branch-2 c =
    let table = c.args.table.now in
    let ks = c.args.thresholds.now in
    let layer : ℕ = c.layers.layer in
    let within : layer < length ks = omega arith in
    refuted c.in_ok-heads_differ.field-0 c.if-not-branch-2.true c.in_ok-heads_differ.ensures
    (λ (clear : Clear table ks c.args.epoch c.args.seed.now).
    clear_heads table ks c.args.epoch c.args.seed.now layer c.deref-in-layers-5.result.now c.deref-in-layers-6.result.now (c.deref-in-layers-5.ensures.value ∙ c.layers.invariant.firsts) (c.deref-in-layers-6.ensures.value ∙ c.in_ok-longer.ensures.firsts)
    (clear.at layer within))

pub layers-preserved : goal.layers-preserved
layers-preserved c =
    let table = c.args.table.now in
    let ks = c.args.thresholds.now in
    let e : ℕ = c.args.epoch in
    let seed = c.args.seed.now in
    let layer : ℕ = c.layers.layer in
    let within : layer < length ks = omega arith in
    let are = points_there seed c.len.result (length table) (length ks) c.in_ok-points.points.items c.deref-in-layers.result.now c.in_ok-points.ensures c.len.ensures c.deref-in-layers.ensures.value in
    let here : IsClearAt table ks e seed layer = record {
      points = points_clear table ks e seed layer c.layers.firsts.items c.deref-in-layers-2.result.now c.layers.invariant.firsts (c.deref-in-layers-2.ensures.value ∙ c.in_ok-longer.ensures.firsts)
          (length ks) c.deref-in-layers.result.now are within (c.in_ok-points_differ.ensures.0 c.if-not-branch.false);
      heads = heads_clear table ks e seed layer c.deref-in-layers-5.result.now c.deref-in-layers-6.result.now (c.deref-in-layers-5.ensures.value ∙ c.layers.invariant.firsts) (c.deref-in-layers-6.ensures.value ∙ c.in_ok-longer.ensures.firsts)
          (c.in_ok-heads_differ.ensures.0 c.if-not-branch-2.false);
    } in
    record {
      firsts = c.in_ok-longer.ensures.firsts;
      checks = c.in_ok-checks-2.ensures ∙ next_checks e ks layer table c.deref-in-layers-8.result.now (c.deref-in-layers-8.ensures.value ∙ c.in_ok-derived.ensures);
      clear = λ n lt. elim (cases_lt n layer) [
        | inl less ↦ c.layers.invariant.clear n less
        | inr ge ↦ (let is : layer ≡ n = omega arith in subst (IsClearAt table ks e seed) is here)
      ];
    }
