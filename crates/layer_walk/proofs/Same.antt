-- When two rows stand in one group.
use Rattle.std.proofs.Common.{◌≡◌, true, cond, ◌&&◌, List, [], ◌∷◌, refl, sym, ap, ◌∙◌, subst, eqb, eqb-true, eq-eqb}
use Rattle.std.proofs.lemmas.Bool.{and_from}
use Rattle.std.specs.Str.{bytes_eq}
use Rattle.std.specs.Cmp.{both_ways, first_so, second_so}
use Rattle.std.specs.Cmp.Lexicographic.{pointwise, pointwise_decides, bytes_decides}
use Rattle.report_frame.specs.declared.version.Version.{Version}
use Rattle.report_frame.specs.View.{head_of}
use Rattle.tag_groups.specs.Keys.{same_version, same_head}
use Rattle.tag_groups.proofs.Keys.{same_version_is, same_version_self, same_head_is, same_head_self}
use Rattle.layer_walk.specs.declared.path.Step.{Step}
use Rattle.layer_walk.specs.declared.level.Parent.{Parent}
use Rattle.layer_walk.specs.Rows.{Row, same_step, same_parent, same_group, members}

version_decides : (a b : Version) → (same_version a b ≡ true → a ≡ b) × (a ≡ b → same_version a b ≡ true)
version_decides a b = (same_version_is a b, λ e. subst (λ v. same_version a v ≡ true) e (same_version_self a))

step_decides : (a b : Step) → (same_step a b ≡ true → a ≡ b) × (a ≡ b → same_step a b ≡ true)
step_decides a b = (
  (λ h.
      let rest : (eqb a.k b.k && same_version a.version b.version) ≡ true = second_so (bytes_eq a.value b.value) _ h in
      let value : a.value ≡ b.value = (bytes_decides a.value b.value).0 (first_so (bytes_eq a.value b.value) _ h) in
      let k : a.k ≡ b.k = eqb-true a.k b.k (first_so (eqb a.k b.k) _ rest) in
      let version : a.version ≡ b.version = (version_decides a.version b.version).0 (second_so (eqb a.k b.k) _ rest) in
      λ i. record { value = value i; k = k i; version = version i }),
  (λ e.
      and_from _ _ ((bytes_decides a.value b.value).1 (ap (λ (s : Step). s.value) e))
      (and_from _ _ (eq-eqb a.k b.k (ap (λ (s : Step). s.k) e)) ((version_decides a.version b.version).1 (ap (λ (s : Step). s.version) e)))),
)

-- the test on paths tells them apart
pub paths_decide : (p q : List Step) → (pointwise same_step p q ≡ true → p ≡ q) × (p ≡ q → pointwise same_step p q ≡ true)
paths_decide = pointwise_decides step_decides

-- the test on parents tells them apart
pub parent_decides : (a b : Parent) → (same_parent a b ≡ true → a ≡ b) × (a ≡ b → same_parent a b ≡ true)
parent_decides a b = (
  (λ h.
      let path : a.path ≡ b.path = (paths_decide a.path b.path).0 (first_so (pointwise same_step a.path b.path) _ h) in
      let check : a.check ≡ b.check = (bytes_decides a.check b.check).0 (second_so (pointwise same_step a.path b.path) _ h) in
      λ i. record { path = path i; check = check i }),
  (λ e. and_from _ _ ((paths_decide a.path b.path).1 (ap (λ (p : Parent). p.path) e)) ((bytes_decides a.check b.check).1 (ap (λ (p : Parent). p.check) e))),
)

-- what rows of one group share
pub record OneGroup (a b : Row) : Type 0 where
  pub parent : a.parent ≡ b.parent
  pub head : head_of a.frame ≡ head_of b.frame

-- the test on rows tells groups apart
pub one_group : (a b : Row) → same_group a b ≡ true → OneGroup a b
one_group a b h = record {
  parent = (parent_decides a.parent b.parent).0 (first_so (same_parent a.parent b.parent) _ h);
  head = same_head_is (head_of a.frame) (head_of b.frame) (second_so (same_parent a.parent b.parent) _ h);
}

pub in_one_group : (a b : Row) → OneGroup a b → same_group a b ≡ true
in_one_group a b g =
    and_from _ _ ((parent_decides a.parent b.parent).1 g.parent) (subst (λ h. same_head (head_of a.frame) h ≡ true) g.head (same_head_self (head_of a.frame)))

-- to be of one group is an equivalence
pub itself : (a : Row) → same_group a a ≡ true
itself a = in_one_group a a (record { parent = refl; head = refl })

pub turned : (a b : Row) → same_group a b ≡ true → same_group b a ≡ true
turned a b h = let g = one_group a b h in in_one_group b a (record { parent = sym g.parent; head = sym g.head })

pub joins : (a b d : Row) → same_group a b ≡ true → same_group b d ≡ true → same_group a d ≡ true
joins a b d h k = let g = one_group a b h in let i = one_group b d k in in_one_group a d (record { parent = g.parent ∙ i.parent; head = g.head ∙ i.head })

-- rows of one group are of the same group as a third
pub alike : (a b d : Row) → same_group a b ≡ true → same_group a d ≡ same_group b d
alike a b d h = both_ways (same_group a d) (same_group b d) (λ k. joins b a d (turned a b h) k) (λ k. joins a b d h k)

-- rows of one group have the same members
pub same_members : (a b : Row) → same_group a b ≡ true → (rows : List Row) → members rows a ≡ members rows b
same_members a b h [] = refl
same_members a b h (r ∷ rs) = λ i. cond (alike a b r h i) (r ∷ same_members a b h rs i) (same_members a b h rs i)
