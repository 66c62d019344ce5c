use Rattle.std.proofs.Common.{◌≡◌, ◌∙◌, ℕ, ◌+◌, ◌<◌, ◌&&◌, [], ◌∷◌, ◌++◌, sym, ap, ap₂, length, map, get_or, slice_index, arith}
use Rattle.std.specs.Prelude.{Bool, nat_le}
use Rattle.std.proofs.lemmas.List.{map_more, take_all}
use Rattle.table_law.specs.Prefixes.{Values, is_open, how_many}
use Rattle.table_law.specs.Fronts.{opens_of}
use Rattle.table_law.proofs.Growing.{firsts_long, firsts_below, count_at, open_at, opens_long, open_more}
use Rattle.table_law.proofs.prefixes.opens_after.Goals as goal

pub bounds-firsts-i : goal.bounds-firsts-i
bounds-firsts-i c = omega (arith, c.len-i-end.ensures, firsts_long c.args.table.now (c.args.layer + 1) c.args.firsts.now c.requires.firsts)

pub bounds-counts-firsts : goal.bounds-counts-firsts
bounds-counts-firsts c =
    let table = c.args.table.now in
    let within : c.rows.i < length table = omega (arith, c.len-i-end.ensures) in
    omega (arith, firsts_below table (c.args.layer + 1) c.args.firsts.now c.requires.firsts c.rows.i within, firsts_long table (c.args.layer + 1) c.args.firsts.now c.requires.firsts, c.requires.counts.long)

pub bounds-opens-i : goal.bounds-opens-i
bounds-opens-i c = omega (arith, c.len-i-end.ensures, opens_long c.args.table.now c.args.thresholds.now c.args.layer c.args.opens.now c.requires.opens)

pub rows-preserved : goal.rows-preserved
rows-preserved c =
    let table = c.args.table.now in
    let ks = c.args.thresholds.now in
    let layer : ℕ = c.args.layer in
    let i : ℕ = c.rows.i in
    let row : Values = get_or table i [] in
    let within : i < length table = omega (arith, c.len-i-end.ensures) in
    let enough : nat_le c.from-threshold.result (slice_index c.args.counts.now (slice_index c.args.firsts.now i)) ≡ nat_le (slice_index ks layer) (how_many table (layer + 1) row) =
    ap₂ (λ (a b : ℕ). nat_le a b) c.from-threshold.ensures (count_at table (layer + 1) c.args.firsts.now c.args.counts.now c.requires.firsts c.requires.counts i within) in
    let opened : c.is_open.result ≡ (is_open table ks layer row && nat_le (slice_index ks layer) (how_many table (layer + 1) row)) =
    c.is_open.ensures ∙ ap₂ (λ (before more : Bool). before && more) (open_at table ks layer c.args.opens.now c.requires.opens i _ within) enough in
    let value : c.is_open.result ≡ is_open table ks (layer + 1) row = opened ∙ sym (open_more table ks layer row) in
    c.in_ok-push.ensures.items ∙ (λ n. c.rows.invariant n ++ value n ∷ []) ∙ sym (map_more (is_open table ks (layer + 1)) table i [] within)

pub returns : goal.returns
unfolding opens_of
returns c = c.rows.invariant ∙ ap (map (is_open c.args.table.now c.args.thresholds.now (c.args.layer + 1))) (take_all c.rows.i c.args.table.now (omega (arith, c.len-i-end.ensures)))
