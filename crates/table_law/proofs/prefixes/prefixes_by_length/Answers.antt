use Rattle.std.proofs.Common.{◌≡◌, ◌∙◌, ◌+◌, true, rules, ap, length, replicate, arith}
use Rattle.table_law.specs.Fronts.{firsts_of}
use Rattle.table_law.proofs.Growing.{firsts_long, firsts_below, firsts_none, opens_none, is_table}
use Rattle.table_law.proofs.prefixes.prefixes_by_length.Goals as goal

pub layers-init : goal.layers-init
layers-init c = record {
  groups = c.new-groups.ensures.items;
  firsts = c.in_ok-firsts.ensures.items_if_clones_equal (λ y h. search rules) ∙ ap (λ n. replicate n 0) c.len.ensures ∙ firsts_none c.args.table.now;
  opens = c.in_ok-opens.ensures.items_if_clones_equal (λ y h. search rules) ∙ ap (λ n. replicate n true) c.len-2.ensures ∙ opens_none c.args.table.now c.args.thresholds.now;
  values = λ n lt. absurd (omega arith);
}

pub counts_of-requires-clause-below : goal.counts_of-requires-clause-below
counts_of-requires-clause-below c =
    let table = c.args.table.now in
    let known : c.deref-in-layers.result.now ≡ firsts_of table (c.layers.layer + 1) = c.deref-in-layers.ensures.value ∙ c.in_ok-firsts-2.ensures.firsts in
    let long : length c.deref-in-layers.result.now ≡ length table = firsts_long table (c.layers.layer + 1) c.deref-in-layers.result.now known in
    λ i lt. omega (arith, firsts_below table (c.layers.layer + 1) c.deref-in-layers.result.now known i (omega arith))

pub counts_of-requires-clause-few : goal.counts_of-requires-clause-few
counts_of-requires-clause-few c =
    omega (arith, firsts_long c.args.table.now (c.layers.layer + 1) c.deref-in-layers.result.now (c.deref-in-layers.ensures.value ∙ c.in_ok-firsts-2.ensures.firsts))

pub returns-clause-values : goal.returns-clause-values
returns-clause-values c = is_table c.args.table.now c.args.thresholds.now c.requires.width (λ l lt i within. c.layers.invariant.values l (omega (arith, lt)) i within)
