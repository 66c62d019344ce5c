use Rattle.std.proofs.Common.{◌≡◌, ◌∙◌, sym, ap, subst, List}
use Rattle.layer_walk.specs.declared.revealed.OpenedGroup.{OpenedGroup}
use Rattle.layer_walk.specs.Reveal.{by_path, reveal_of}
use Rattle.star_lists.specs.Ascending.{in_order}
use Rattle.nest_client.specs.Stream.{table_records}
use Rattle.table_law.specs.Prefixes.{prefixes}
use Rattle.table_law.specs.Reveals.{RevealsOnly}
use Rattle.table_law.proofs.WholeTable.{table_reveals}
use Rattle.table_law.proofs.expecting.expected.Goals as goal

pub returns-clause-prefixes : goal.returns-clause-prefixes
unfolding prefixes
returns-clause-prefixes c = c.from_vec.ensures ∙ c.in_ok-sorted_by_path.ensures ∙ ap (in_order by_path) c.in_ok-groups.ensures.groups

pub returns-clause-reveals : goal.returns-clause-reveals
unfolding prefixes
returns-clause-reveals c = λ clear.
    let table = c.args.table.now in
    let ks = c.args.thresholds.now in
    let e = c.args.epoch in
    let seed = c.args.seed.now in
    let groups : c.from_vec.result ≡ prefixes table ks = c.from_vec.ensures ∙ c.in_ok-sorted_by_path.ensures ∙ ap (in_order by_path) c.in_ok-groups.ensures.groups in
    subst (λ (gs : List OpenedGroup). RevealsOnly gs (reveal_of e (table_records table ks e seed))) (sym groups)
    (table_reveals e seed ks table c.ranges.epoch.fits c.requires.thresholds c.in_ok-groups.ensures.values clear)
