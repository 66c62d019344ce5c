use Rattle.std.proofs.Common.{◌≡◌, ◌∙◌, sym, ap, subst, Some, None, ◌++◌, ◌∷◌, [], length, is_ok, arith}
use Rattle.tag_groups.proofs.IndexLemmas.{some_groups, some_finds, none_groups, none_finds}
use Rattle.std.specs.BTreeMap.{Updates}
use Rattle.std.specs.Prelude.{OnOk, if◌then◌else◌}
use Rattle.tag_groups.specs.declared.key.Rank.{Rank}
use Rattle.tag_groups.specs.Index.{has_key, new_group, rank_cmp}
use Rattle.tag_groups.proofs.grouper.join.Goals as goal
use Rattle.star_lists.specs.Places.{place_of}
use Rattle.star_lists.proofs.Places.{place_below}

pub index_mut-requires : goal.index_mut-requires
index_mut-requires c =
    let found : place_of (has_key c.args.key) c.args.groups.now.items ≡ Some c.in-Some.place =
    sym (c.find.ensures ∙ ap (λ (r : Rank). place_of (has_key r.key) c.args.groups.now.items) c.rank_of-rank.ensures) ∙ c.in-Some.is in
    omega (arith, place_below (has_key c.args.key) c.args.groups.now.items c.in-Some.place found, c.args.groups.now.ok.0)

pub returns-in-Some-clause-groups : goal.returns-in-Some-clause-groups
returns-in-Some-clause-groups c =
    let found : place_of (has_key c.args.key) c.args.groups.now.items ≡ Some c.in-Some.place =
    sym (c.find.ensures ∙ ap (λ (r : Rank). place_of (has_key r.key) c.args.groups.now.items) c.rank_of-rank.ensures) ∙ c.in-Some.is in
    some_groups c.args.key c.args.member c.args.groups.now.items c.in-Some.place c.index_mut.result.now c.add_member.new.self (is_ok c.add_member.result) found c.index_mut.ensures.value c.add_member.ensures

pub returns-in-Some-clause-finds : goal.returns-in-Some-clause-finds
returns-in-Some-clause-finds c = λ key.
    let found : place_of (has_key c.args.key) c.args.groups.now.items ≡ Some c.in-Some.place =
    sym (c.find.ensures ∙ ap (λ (r : Rank). place_of (has_key r.key) c.args.groups.now.items) c.rank_of-rank.ensures) ∙ c.in-Some.is in
    c.requires.finds key
    ∙ some_finds c.args.key c.args.member c.args.groups.now.items c.in-Some.place c.index_mut.result.now c.add_member.new.self (is_ok c.add_member.result) found c.index_mut.ensures.value c.add_member.ensures key

pub returns-in-None-clause-groups : goal.returns-in-None-clause-groups
returns-in-None-clause-groups c =
    let none : place_of (has_key c.args.key) c.args.groups.now.items ≡ None =
    sym (c.find.ensures ∙ ap (λ (r : Rank). place_of (has_key r.key) c.args.groups.now.items) c.rank_of-rank.ensures) ∙ c.in-None.is in
    none_groups c.args.key c.args.member c.args.groups.now.items c.begin.new.groups.items (is_ok c.begin.result) none
    (c.begin.ensures.groups ∙ ap (λ (r : Rank). if is_ok c.begin.result then c.args.groups.now.items ++ new_group r.key c.args.member ∷ [] else c.args.groups.now.items) c.rank_of-rank.ensures)

pub returns-in-None-clause-finds : goal.returns-in-None-clause-finds
returns-in-None-clause-finds c =
    let none : place_of (has_key c.args.key) c.args.groups.now.items ≡ None =
    sym (c.find.ensures ∙ ap (λ (r : Rank). place_of (has_key r.key) c.args.groups.now.items) c.rank_of-rank.ensures) ∙ c.in-None.is in
    none_finds c.begin.result c.args.key c.args.member c.args.groups.now.items c.begin.new.groups.items c.args.places.now c.begin.new.places c.requires.finds none
    (subst (λ r. OnOk c.begin.result (Updates rank_cmp c.args.places.now c.begin.new.places r (Some (length c.args.groups.now.items)))) c.rank_of-rank.ensures c.begin.ensures.places) c.begin.ensures.kept
    (c.begin.ensures.groups ∙ ap (λ (r : Rank). if is_ok c.begin.result then c.args.groups.now.items ++ new_group r.key c.args.member ∷ [] else c.args.groups.now.items) c.rank_of-rank.ensures)
