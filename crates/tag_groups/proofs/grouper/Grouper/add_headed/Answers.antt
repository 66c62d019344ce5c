use Rattle.std.proofs.Common.{◌≡◌, ◌∙◌, sym, ap, subst, not, true, ◌++◌, ◌∷◌, [], length, arith, is_ok}
use Rattle.std.specs.Prelude.{if◌then◌else◌}
use Rattle.std.specs.List.{AllPairs}
use Rattle.report_frame.specs.View.{head_of}
use Rattle.tag_groups.specs.RowView.{RowView}
use Rattle.tag_groups.specs.Index.{joined}
use Rattle.tag_groups.specs.Laws.{AreApart}
use Rattle.tag_groups.proofs.GroupLaws.{are_apart}
use Rattle.tag_groups.proofs.Grown.{groups_grown, few_groups}
use Rattle.tag_groups.proofs.grouper.Grouper.add_headed.Goals as goal

pub join-joined-requires-clause-few : goal.join-joined-requires-clause-few
join-joined-requires-clause-few c =
    omega (arith, ap length c.self.invariant.groups_are, few_groups c.self.inside.rows.items, ap length c.self.view_is, c.requires)

pub join-joined-requires-clause-apart : goal.join-joined-requires-clause-apart
join-joined-requires-clause-apart c = subst (AllPairs AreApart) (sym c.self.invariant.groups_are) (are_apart c.self.inside.rows.items)

pub invariant_of-self-else-is_err : goal.invariant_of-self-else-is_err
invariant_of-self-else-is_err c =
    let rows = c.self.inside.rows.items in
    let good : is_ok c.join-joined.result ≡ true = c.is_err.ensures.negation ∙ ap not c.if-is_err.false in
    let place : c.len-member.result ≡ length rows = c.len-member.ensures ∙ c.self.inside.rows.ok.0 in
    record {
      groups_are = c.join-joined.ensures.groups
          ∙ ap (λ b. if b then joined (record { parent = c.parent.result; head = c.row.inside.head }) c.len-member.result c.self.inside.groups.items else c.self.inside.groups.items) good
          ∙ (λ i. joined (record { parent = (c.parent.ensures ∙ ap (λ (r : RowView). r.parent) c.row.view_is) i; head = (c.row.invariant.0 ∙ ap (λ (r : RowView). head_of r.report) c.row.view_is) i }) (place i) (c.self.invariant.groups_are i))
          ∙ sym (groups_grown rows c.push.new.self.items c.args.row (c.in_ok-push.ensures.items ∙ ap (λ r. rows ++ r ∷ []) c.row.view_is));
      finds = c.join-joined.ensures.finds;
    }
