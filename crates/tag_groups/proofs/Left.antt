-- The points whose neighbours have another x are those that are left, in a list that is sorted by x and has no two equal
-- points side by side.
use Rattle.std.proofs.Common.{◌≡◌, ℕ, ◌<◌, ◌≤◌, Bool, true, false, not, eqb, eqb-true, eq-eqb, ◌&&◌, ◌||◌, List, [], ◌∷◌, inl, inr, Option, Some, None, refl, sym, ap, ◌∙◌, subst, arith}
use Rattle.std.proofs.lemmas.Bool.{false≢true, or_right}
use Rattle.std.proofs.lemmas.Cmp.{nat_cmp_total, on_total}
use Rattle.std.proofs.lemmas.List.Kept.{IsStrictlySortedBy-filter}
use Rattle.std.specs.Prelude.{if◌then◌else◌}
use Rattle.std.specs.Cmp.{IsTotalOrder, first_so, second_so}
use Rattle.std.specs.Cmp.Lexicographic.{bytes_decides}
use Rattle.std.specs.List.Sorted.{IsStrictlySortedBy}
use Rattle.std.specs.Str.{bytes_eq}
use Rattle.std.specs.declared.cmp.Ordering.TheVariants.{Less, Equal}
use Rattle.shamir_limbs.specs.declared.share.Point.{Point}
use Rattle.tag_groups.specs.Left.{x_cmp, is_lone, points_left_of}
use Rattle.tag_groups.specs.Apart.{is_other, first_x, apart_from}
use Rattle.star_lists.proofs.Ascending.{rising_ascending, tied_ascending, from_tied, from_ascending}
use Rattle.star_lists.proofs.Rising.{same_rising}
use Rattle.star_lists.proofs.Elements.{In, all_true, true_all, same_all, in_filter, from_filter, all_of}
use Rattle.star_lists.specs.Ascending.{ascending}

pub x_total : IsTotalOrder x_cmp
x_total = on_total (λ (p : Point). p.x) nat_cmp_total

x_less : (a b : Point) → a.x < b.x → x_cmp a b ≡ Less
x_less a b h = grind arith

pub x_equal : (a b : Point) → x_cmp a b ≡ Equal → a.x ≡ b.x
x_equal a b h = grind arith

-- two numbers that differ, by the test
other_so : (a b : ℕ) → (a ≡ b → ⊥) → not (eqb a b) ≡ true
other_so a b apart = elim (eqb a b) as (λ v. eqb a b ≡ v → not v ≡ true) [ true ↦ λ e. absurd (apart (eqb-true a b e)) | false ↦ λ e. refl ] refl

so_other : (a b : ℕ) → not (eqb a b) ≡ true → a ≡ b → ⊥
so_other a b h e = false≢true (ap not (sym (eq-eqb a b e)) ∙ h)

-- whether the point q leaves z alone
abbrev pub spares : Point → Point → Bool
spares z q = not (eqb q.x z.x) || bytes_eq q.y z.y

spares_apart : (z q : Point) → (q.x ≡ z.x → ⊥) → spares z q ≡ true
spares_apart z q apart = ap (λ b. b || bytes_eq q.y z.y) (other_so q.x z.x apart)

spares_itself : (z : Point) → spares z z ≡ true
spares_itself z = or_right (not (eqb z.x z.x)) (bytes_eq z.y z.y) ((bytes_decides z.y z.y).1 refl)

-- one that is spared at the same x is the point itself
pub spared_is : (z q : Point) → spares z q ≡ true → q.x ≡ z.x → q ≡ z
spared_is z q h e =
    let same : bytes_eq q.y z.y ≡ true = ap (λ b. not b || bytes_eq q.y z.y) (sym (eq-eqb q.x z.x e)) ∙ h in
    let y : q.y ≡ z.y = (bytes_decides q.y z.y).0 same in
    λ i. record { x = e i; y = y i }

-- each x is at least the one before, and the first is at least b
abbrev pub Up : ℕ → List Point → Type 0
Up b [] = Unit {0}
Up b (p ∷ ps) = (b ≤ p.x) × Up p.x ps

pub lower : (a b : ℕ) (ps : List Point) → a ≤ b → Up b ps → Up a ps
lower a b [] h u = tt
lower a b (p ∷ ps) h u = (omega (arith, h, u.0), u.1)

up_in : (b : ℕ) (ps : List Point) (z : Point) → Up b ps → In z ps → b ≤ z.x
up_in b [] z u i = absurd i
up_in b (p ∷ ps) z u (inl e) = subst (λ w. b ≤ w.x) (sym e) u.0
up_in b (p ∷ ps) z u (inr i) = omega (arith, u.0, up_in p.x ps z u.1 i)

-- the first point is not p
abbrev pub NotFirst : Point → List Point → Type 0
NotFirst p [] = Unit {0}
NotFirst p (q ∷ qs) = p ≡ q → ⊥

-- no two points side by side are equal
abbrev pub Differ : List Point → Type 0
Differ [] = Unit {0}
Differ (p ∷ ps) = NotFirst p ps × Differ ps

abbrev pub floor : Option ℕ → ℕ
floor None = 0
floor (Some b) = b

-- the points after p have another x if the first of them has
other_all : (p : Point) (ps : List Point) → Up p.x ps → is_other (first_x ps) p.x ≡ true → (z : Point) → In z ps → z.x ≡ p.x → ⊥
other_all p [] u t z i e = absurd i
other_all p (q ∷ qs) u t z i e =
    let less : p.x < q.x = above p.x q.x u.0 (so_other q.x p.x t) in
    let under : q.x ≤ z.x = up_in q.x (q ∷ qs) z (omega arith, u.1) i in
    absurd (omega (arith, less, under, e))
  where
    above : (a b : ℕ) → a ≤ b → (b ≡ a → ⊥) → a < b
    above a b h n = grind arith

pub apart_in : (before : Option ℕ) (ds : List Point) → Up (floor before) ds → (z : Point) → In z (apart_from before ds) → In z ds × (is_lone ds z ≡ true) × (is_other before z.x ≡ true)
apart_in before [] u z i = absurd i
apart_in before (p ∷ ps) u z i =
    let later : In z (apart_from (Some p.x) ps) → In z (p ∷ ps) × (is_lone (p ∷ ps) z ≡ true) × (is_other before z.x ≡ true) = λ j.
    let h = apart_in (Some p.x) ps u.1 z j in
    let apart : p.x ≡ z.x → ⊥ = so_other p.x z.x h.2 in
    let lone : (spares z p && is_lone ps z) ≡ true = λ k. spares_apart z p apart k && h.1 k in
    (inr h.0, lone, beyond before p.x z.x u.0 (up_in p.x ps z u.1 h.0) apart) in
    elim (is_other before p.x && is_other (first_x ps) p.x) as (λ b. (is_other before p.x && is_other (first_x ps) p.x) ≡ b → In z (if b then p ∷ apart_from (Some p.x) ps else apart_from (Some p.x) ps) → In z (p ∷ ps) × (is_lone (p ∷ ps) z ≡ true) × (is_other before z.x ≡ true)) [
      | true ↦ λ t i. elim i [
        | inl e ↦
            let all : is_lone ps p ≡ true = true_all (spares p) ps (λ q j. spares_apart p q (other_all p ps u.1 (second_so (is_other before p.x) (is_other (first_x ps) p.x) t) q j)) in
            let lone : (spares p p && is_lone ps p) ≡ true = λ k. spares_itself p k && all k in
            (inl e, subst (λ w. is_lone (p ∷ ps) w ≡ true) (sym e) lone, subst (λ w. is_other before w.x ≡ true) (sym e) (first_so (is_other before p.x) (is_other (first_x ps) p.x) t))
        | inr j ↦ later j
      ]
      | false ↦ λ t i. later i
    ] refl i
  where
    beyond : (before : Option ℕ) (a b : ℕ) → floor before ≤ a → a ≤ b → (a ≡ b → ⊥) → is_other before b ≡ true
    beyond None a b f h n = refl
    beyond (Some c) a b f h n = other_so c b (λ e. n (grind (arith, f, h, e)))

pub in_apart : (before : Option ℕ) (ds : List Point) → Up (floor before) ds → Differ ds → (z : Point) → In z ds → is_lone ds z ≡ true → is_other before z.x ≡ true → In z (apart_from before ds)
in_apart before [] u d z i lone other = absurd i
in_apart before (p ∷ ps) u d z (inl e) lone other =
    let alone : is_lone ps p ≡ true = subst (λ w. is_lone ps w ≡ true) e (second_so (spares z p) (is_lone ps z) lone) in
    let test : (is_other before p.x && is_other (first_x ps) p.x) ≡ true = λ k. subst (λ w. is_other before w.x ≡ true) e other k && next p ps d.0 alone k in
    subst (λ b. In z (if b then p ∷ apart_from (Some p.x) ps else apart_from (Some p.x) ps)) (sym test) (inl e)
  where
    next : (p : Point) (ps : List Point) → NotFirst p ps → is_lone ps p ≡ true → is_other (first_x ps) p.x ≡ true
    next p [] n h = refl
    next p (q ∷ qs) n h = other_so q.x p.x (λ e. n (sym (spared_is p q (first_so (spares p q) (is_lone qs p) h) e)))
in_apart before (p ∷ ps) u d z (inr i) lone other =
    let alone : is_lone ps z ≡ true = second_so (spares z p) (is_lone ps z) lone in
    let apart : p.x ≡ z.x → ⊥ = λ e. between p ps z u.1 d.0 (spared_is z p (first_so (spares z p) (is_lone ps z) lone) e) i alone in
    let j : In z (apart_from (Some p.x) ps) = in_apart (Some p.x) ps u.1 d.1 z i alone (other_so p.x z.x apart) in
    elim (is_other before p.x && is_other (first_x ps) p.x) as (λ b. In z (if b then p ∷ apart_from (Some p.x) ps else apart_from (Some p.x) ps)) [ true ↦ inr j | false ↦ j ]
  where
    -- p occurs after itself, so the point right after it is p too
    between : (p : Point) (ps : List Point) (z : Point) → Up p.x ps → NotFirst p ps → p ≡ z → In z ps → is_lone ps z ≡ true → ⊥
    between p [] z u n e i h = absurd i
    between p (q ∷ qs) z u n e i h =
        let under : q.x ≤ z.x = up_in q.x (q ∷ qs) z (omega arith, u.1) i in
        let same : q.x ≡ z.x = squeezed p.x q.x z.x u.0 under (ap (λ w. w.x) e) in
        n (e ∙ sym (spared_is z q (first_so (spares z q) (is_lone qs z) h) same))
      where
        squeezed : (a b c : ℕ) → a ≤ b → b ≤ c → a ≡ c → b ≡ c
        squeezed a b c h k e = grind arith

pub rising_apart : (before : Option ℕ) (ds : List Point) → Up (floor before) ds → IsStrictlySortedBy x_cmp (apart_from before ds)
unfolding IsStrictlySortedBy
rising_apart before [] u = tt
rising_apart before (p ∷ ps) u =
    let rest = rising_apart (Some p.x) ps u.1 in
    elim (is_other before p.x && is_other (first_x ps) p.x) as (λ b. IsStrictlySortedBy x_cmp (if b then p ∷ apart_from (Some p.x) ps else apart_from (Some p.x) ps)) [
      | true ↦ (
        all_of (λ z. x_cmp p z ≡ Less) (apart_from (Some p.x) ps) (λ z i.
            let h = apart_in (Some p.x) ps u.1 z i in
            x_less p z (above p.x z.x (up_in p.x ps z u.1 h.0) (so_other p.x z.x h.2))),
        rest,
      )
      | false ↦ rest
    ]
  where
    above : (a b : ℕ) → a ≤ b → (a ≡ b → ⊥) → a < b
    above a b h n = grind arith

-- the points left: those that no other point has the same x as
pub in_left : (xs : List Point) (z : Point) → In z xs → is_lone xs z ≡ true → In z (points_left_of xs)
unfolding points_left_of
in_left xs z i lone =
    let tied = from_tied x_cmp x_total z (ascending x_cmp xs) (tied_ascending x_cmp x_total z xs i) in
    let w : Point = tied.0 in
    let there : In w xs = from_ascending x_cmp x_total w xs tied.1 in
    let same : w ≡ z = spared_is z w (all_true (spares z) xs lone w there) (sym (x_equal z w tied.2)) in
    in_filter (is_lone xs) (ascending x_cmp xs) z (subst (λ v. In v (ascending x_cmp xs)) same tied.1) lone

pub from_left : (xs : List Point) (z : Point) → In z (points_left_of xs) → In z xs × (is_lone xs z ≡ true)
unfolding points_left_of
from_left xs z i = let h = from_filter (is_lone xs) (ascending x_cmp xs) z i in (from_ascending x_cmp x_total z xs h.0, h.1)

pub rising_left : (xs : List Point) → IsStrictlySortedBy x_cmp (points_left_of xs)
unfolding points_left_of
rising_left xs = IsStrictlySortedBy-filter x_cmp (is_lone xs) (ascending x_cmp xs) (rising_ascending x_cmp x_total xs)

pub apart_is_left : (xs ds : List Point) → Up 0 ds → Differ ds → ((z : Point) → In z xs → In z ds) → ((z : Point) → In z ds → In z xs) → apart_from None ds ≡ points_left_of xs
apart_is_left xs ds u d to back =
    let alike : (z : Point) → is_lone xs z ≡ is_lone ds z = λ z. same_all (spares z) xs ds to back in
    same_rising x_cmp x_total (apart_from None ds) (points_left_of xs) (rising_apart None ds u) (rising_left xs)
    (λ z i. let h = apart_in None ds u z i in in_left xs z (back z h.0) (alike z ∙ h.1))
    (λ z i. let h = from_left xs z i in in_apart None ds u d z (to z h.0) (sym (alike z) ∙ h.1) refl)
