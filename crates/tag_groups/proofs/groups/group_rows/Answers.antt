use Rattle.std.specs.List.{list_any}
use Rattle.tag_groups.specs.declared.key.Key.{Key}
use Rattle.tag_groups.specs.Keys.{is_row_of, same_key}
use Rattle.tag_groups.specs.Index.{has_key}
use Rattle.std.proofs.Common.{◌≡◌, ap, sym, ◌∙◌, ◌++◌, ◌∷◌, [], true, false, append-nil, take, length, map, arith}
use Rattle.std.proofs.Math.Seq.{take-length}
use Rattle.tag_groups.proofs.Keys.{groups_step}
use Rattle.tag_groups.specs.Grouped.{group_of, groups_of}
use Rattle.tag_groups.proofs.groups.group_rows.Goals as goal
use Rattle.tag_groups.proofs.groups.group_rows.Goals.{then-not-has_group+in_ok-members+in_ok-push, else-not-has_group}
use Rattle.star_lists.specs.FirstOnes.{first_ones}
use Rattle.star_lists.specs.Places.{places}

pub loop-row-preserved : goal.loop-row-preserved
loop-row-preserved c =
    let known = c.has_group.ensures ∙ ap (λ k. list_any (has_key k) c.loop-row.groups.items) c.key_of-key.ensures.key in
    elim c.if-not-has_group.branch [
      | then-not-has_group+in_ok-members+in_ok-push w ↦
          let step = groups_step c.args.rows.now c.loop-row.row-index c.row-item.result false c.loop-row.groups.items c.loop-row-test.true c.row-item.is c.loop-row.invariant (sym w.if-not-has_group.true ∙ known) in
          ap (λ v. v.items) w.groups-is ∙ w.in_ok-push.ensures.items
          ∙ (λ i. c.loop-row.groups.items ++ record { parent = c.key_of-key.result.parent; head = c.key_of-key.result.head; members = w.in_ok-members.ensures i } ∷ [])
          ∙ ap (λ (k : Key). c.loop-row.groups.items ++ record { parent = k.parent; head = k.head; members = places (is_row_of k) c.args.rows.now } ∷ []) c.key_of-key.ensures.key
          ∙ sym step
      | else-not-has_group w ↦
          let step = groups_step c.args.rows.now c.loop-row.row-index c.row-item.result true c.loop-row.groups.items c.loop-row-test.true c.row-item.is c.loop-row.invariant (sym w.if-not-has_group.false ∙ known) in
          ap (λ v. v.items) w.groups-is ∙ sym (append-nil c.loop-row.groups.items) ∙ sym step
    ]

pub returns : goal.returns
unfolding groups_of
returns c =
    let all : c.loop-row.row-index ≡ length c.args.rows.now = omega arith in
    c.from_vec.ensures ∙ c.loop-row.invariant ∙ ap (λ n. map (group_of c.args.rows.now) (first_ones same_key (take n c.args.rows.now))) all
    ∙ ap (λ l. map (group_of c.args.rows.now) (first_ones same_key l)) (take-length c.args.rows.now)
