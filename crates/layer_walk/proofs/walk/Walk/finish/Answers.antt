use Rattle.std.proofs.Common.{◌≡◌, ◌<◌, ◌++◌, ◌∷◌, [], length, arith, sym, ap, ◌∙◌, subst}
use Rattle.std.specs.Prelude.{◌^◌}
use Rattle.std.proofs.lemmas.List.{length-map}
use Rattle.std.proofs.lemmas.Result.{IfOk-weaker}
use Rattle.report_frame.specs.declared.limits.TheConstants.{MAX_LAYERS}
use Rattle.star_lists.specs.Ascending.{in_order}
use Rattle.layer_walk.specs.declared.level.Level.{Level}
use Rattle.layer_walk.specs.Made.{named, IsLevel}
use Rattle.layer_walk.specs.Reveal.{by_path, by_index, by_aux_index, no_parent, outer_rows, outer_refusals, groups_told, levels_told, refusals_told, aux_told, reveal_of}
use Rattle.layer_walk.specs.Seen.{WalkView}
use Rattle.layer_walk.specs.Standing.{outermost, level_zero_of}
use Rattle.layer_walk.specs.Told.{revealed_of}
use Rattle.layer_walk.proofs.Firsts.{few_views, zero_good, zero_named}
use Rattle.layer_walk.proofs.walk.Walk.finish.Goals as goal

pub overflow_cast-count : goal.overflow_cast-count
overflow_cast-count g c =
    omega (arith, c.len-count.ensures, ap (λ (l : Level). length l.rows) c.with_groups-first.ensures.level, few_views _ c.self.invariant.records c.self.invariant.stands, c.self.invariant.few)

pub told_from-requires-clause-first : goal.told_from-requires-clause-first
told_from-requires-clause-first g c κs within =
    let walk = c.self.invariant in
    let few : length walk.records < 2 ^ 32 = omega (arith, walk.stands.taken, walk.few) in
    let level : c.with_groups-first.result.level ≡ level_zero_of c.self.inside.epoch walk.records =
    c.with_groups-first.ensures.level ∙ (λ i. record { number = 0; epoch = c.self.inside.epoch; parents = c.in_ok-first_parents.ensures i; rows = walk.stands.rows i }) in
    subst IsLevel (sym level) (zero_good c.self.inside.epoch walk.records few)

pub returns : goal.returns
unfolding reveal_of
returns g c records stands =
    let s = c.self.inside in
    let e = c.args.self.epoch in
    let rows = outer_rows e records in
    let told = c.in_ok-told.told in
    let old : WalkView = record { epoch = s.epoch; taken = s.taken; rows = s.rows; refusals = s.refusals } in
    let seen : old ≡ c.args.self = c.self.view_is in
    let taken : s.taken ≡ length records = ap (λ (v : WalkView). v.taken) seen ∙ stands.taken in
    let outer : s.refusals ≡ outer_refusals e records = ap (λ (v : WalkView). v.refusals) seen ∙ stands.refusals in
    let level : c.with_groups-first.result.level ≡ level_zero_of e records =
    c.with_groups-first.ensures.level
    ∙ (λ i. record { number = 0; epoch = (seen i).epoch; parents = c.in_ok-first_parents.ensures i; rows = (seen i).rows })
    ∙ (λ i. record { number = 0; epoch = e; parents = no_parent ∷ []; rows = stands.rows i }) in
    let epoch : c.with_groups-first.result.level.epoch ≡ e = ap (λ (l : Level). l.epoch) level in
    let first : named c.with_groups-first.result.level ≡ rows = ap named level ∙ zero_named e records in
    let count : c.len-count.result ≡ length rows = c.len-count.ensures ∙ ap (λ (l : Level). length l.rows) level ∙ length-map rows outermost in
    let groups : told.groups.items ≡ groups_told e rows MAX_LAYERS = c.in_ok-told.ensures.groups ∙ (λ i. groups_told (epoch i) (first i) MAX_LAYERS) in
    let levels : told.levels ≡ levels_told e rows MAX_LAYERS = c.in_ok-told.ensures.levels ∙ (λ i. levels_told (epoch i) (first i) MAX_LAYERS) in
    let refusals : told.refusals.items ≡ outer_refusals e records ++ refusals_told e rows MAX_LAYERS = c.in_ok-told.ensures.refusals ∙ (λ i. outer i ++ refusals_told (epoch i) (first i) MAX_LAYERS) in
    let aux : told.aux.items ≡ aux_told e rows MAX_LAYERS = c.in_ok-told.ensures.aux ∙ (λ i. aux_told (epoch i) (first i) MAX_LAYERS) in
    let whole : revealed_of s.taken c.len-count.result told ≡ reveal_of e records =
    (λ i. record { records = taken i; rows = count i; groups = in_order by_path (groups i); levels = levels i; refusals = in_order by_index (refusals i); aux = in_order by_aux_index (aux i) }) in
    IfOk-weaker c.in_order.result _ _ (λ revealed is. is ∙ whole) c.in_order.ensures
