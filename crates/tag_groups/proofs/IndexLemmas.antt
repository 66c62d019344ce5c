-- One more member in the group of a key, and the place that a map finds.
use Rattle.std.proofs.Common.{◌≡◌, ℕ, zero, suc, ◌<◌, Bool, true, false, cond, ◌&&◌, List, [], ◌∷◌, ◌++◌, Option, Some, None, length, refl, sym, ap, ◌∙◌, subst, get_or, eqb, eqb-true, eq-eqb, arith}
use Rattle.std.proofs.Math.ListN.{set}
use Rattle.std.proofs.lemmas.Option.{same_Some, none-some}
use Rattle.std.proofs.lemmas.Bool.{and_right}
use Rattle.std.specs.Option.{option_map}
use Rattle.std.specs.Prelude.{if◌then◌else◌, Result, Ok, Err, OnOk, OnErr, is_ok}
use Rattle.std.specs.List.{AllPairs}
use Rattle.std.specs.Map.{lookup}
use Rattle.std.proofs.lemmas.List.{set-get_or}
use Rattle.std.specs.Ordering.{is_eq}
use Rattle.std.specs.BTreeMap.{BTreeMap, get, is_at, Updates, IsUnchanged}
use Rattle.std.specs.Str.{bytes_eq}
use Rattle.report_frame.specs.declared.version.Version.{Version}
use Rattle.report_frame.specs.declared.version.Version.TheVariants.{One, Two}
use Rattle.report_frame.specs.contracts.version.VersionPartialEq.TheImpl as version_eq
use Rattle.tag_groups.specs.Keys.{same_version}
use Rattle.tag_groups.specs.declared.key.Key.{Key}
use Rattle.tag_groups.specs.declared.key.Rank.{Rank}
use Rattle.tag_groups.specs.contracts.key.RankOrd.TheImpl.Laws.{matches_eq-law}
use Rattle.tag_groups.specs.GroupView.{GroupView}
use Rattle.tag_groups.specs.Index.{front_of, rank_of, rank_cmp, has_key, Finds, with_member, new_group, joined}
use Rattle.tag_groups.specs.Laws.{AreApart}
use Rattle.tag_groups.proofs.Keys.{same_head_is}
use Rattle.std.specs.Cmp.{first_so, second_so}
use Rattle.star_lists.specs.Places.{place_of}
use Rattle.star_lists.proofs.Places.{place_last, place_or, or_none}

-- what an element adds to the place of a later one
abbrev later : Option ℕ → Option ℕ
later o = option_map suc o

-- the group at the place that is found gets the member
pub joined_at : (key : Key) (n : ℕ) (gs : List GroupView) (p : ℕ) (g : GroupView) → place_of (has_key key) gs ≡ Some p → g ≡ get_or gs p g → set gs p (with_member n g) ≡ joined key n gs
joined_at key n [] p g e at = absurd (none-some p e)
joined_at key n (f ∷ fs) p g e at =
    elim (has_key key f) as (λ b. (if b then Some 0 else later (place_of (has_key key) fs)) ≡ Some p → set (f ∷ fs) p (with_member n g) ≡ (if b then with_member n f ∷ fs else f ∷ joined key n fs)) [
      | true ↦ λ h.
          let is : p ≡ 0 = sym (same_Some 0 p h) in
          ap (λ i. set (f ∷ fs) i (with_member n g)) is ∙ ap (λ x. with_member n x ∷ fs) (at ∙ ap (λ i. get_or (f ∷ fs) i g) is)
      | false ↦ λ h. elim (place_of (has_key key) fs) as (λ o. place_of (has_key key) fs ≡ o → later o ≡ Some p → set (f ∷ fs) p (with_member n g) ≡ f ∷ joined key n fs) [
        | None ↦ λ found h. absurd (none-some p h)
        | Some q ↦ λ found h.
            let is : p ≡ suc q = sym (same_Some (suc q) p h) in
            ap (λ i. set (f ∷ fs) i (with_member n g)) is ∙ ap (λ l. f ∷ l) (joined_at key n fs q g found (at ∙ ap (λ i. get_or (f ∷ fs) i g) is))
      ] refl h
    ] e

-- no group is found: a new one is last
pub joined_last : (key : Key) (n : ℕ) (gs : List GroupView) → place_of (has_key key) gs ≡ None → gs ++ new_group key n ∷ [] ≡ joined key n gs
joined_last key n [] e = refl
joined_last key n (f ∷ fs) e =
    elim (has_key key f) as (λ b. (if b then Some 0 else later (place_of (has_key key) fs)) ≡ None → f ∷ (fs ++ new_group key n ∷ []) ≡ (if b then with_member n f ∷ fs else f ∷ joined key n fs)) [
      | true ↦ λ h. absurd (none-some 0 (sym h))
      | false ↦ λ h. elim (place_of (has_key key) fs) as (λ o. place_of (has_key key) fs ≡ o → later o ≡ None → f ∷ (fs ++ new_group key n ∷ []) ≡ f ∷ joined key n fs) [
        | None ↦ λ found h. ap (λ l. f ∷ l) (joined_last key n fs found)
        | Some q ↦ λ found h. absurd (none-some (suc q) (sym h))
      ] refl h
    ] e

-- a member more in a group that was there moves no group
pub place_kept : (key q : Key) (n p : ℕ) (gs : List GroupView) → place_of (has_key key) gs ≡ Some p → place_of (has_key q) (joined key n gs) ≡ place_of (has_key q) gs
place_kept key q n p [] e = absurd (none-some p e)
place_kept key q n p (f ∷ fs) e =
    elim (has_key key f) as (λ b. (if b then Some 0 else later (place_of (has_key key) fs)) ≡ Some p → place_of (has_key q) (if b then with_member n f ∷ fs else f ∷ joined key n fs) ≡ place_of (has_key q) (f ∷ fs)) [
      | true ↦ λ h. refl
      | false ↦ λ h. elim (place_of (has_key key) fs) as (λ o. place_of (has_key key) fs ≡ o → later o ≡ Some p → place_of (has_key q) (f ∷ joined key n fs) ≡ place_of (has_key q) (f ∷ fs)) [
        | None ↦ λ found h. absurd (none-some p h)
        | Some i ↦ λ found h. ap (λ o. if has_key q f then Some 0 else later o) (place_kept key q n i fs found)
      ] refl h
    ] e

-- versions are distinguished as heads are
pub version_tie : (a b : Version) → (version_eq.ghosts).eq a b ≡ same_version a b
version_tie One One = refl
version_tie One Two = refl
version_tie Two One = refl
version_tie Two Two = refl

-- equal keys are one
pub key_is : (key q : Key) (n : ℕ) → has_key q (new_group key n) ≡ true → key ≡ q
key_is key q n h =
    let parent : key.parent ≡ q.parent = eqb-true key.parent q.parent (first_so _ _ h) in
    let head : key.head ≡ q.head = same_head_is key.head q.head (second_so (eqb key.parent q.parent) _ h) in
    λ i. record { parent = parent i; head = head i }

-- groups of one key have one parent and one head
one_key : (key : Key) (f g : GroupView) → has_key key f ≡ true → has_key key g ≡ true → (f.parent ≡ g.parent) × (f.head ≡ g.head)
one_key key f g h k = (
  eqb-true f.parent key.parent (first_so _ _ h) ∙ sym (eqb-true g.parent key.parent (first_so _ _ k)),
  same_head_is f.head key.head (second_so (eqb f.parent key.parent) _ h) ∙ sym (same_head_is g.head key.head (second_so (eqb g.parent key.parent) _ k)),
)

-- the map's order distinguishes keys as groups do: if the keys are equal, so are the fronts of their tags
pub rank_tie : (key q : Key) (n : ℕ) → is_eq (rank_cmp (rank_of key) (rank_of q)) ≡ has_key q (new_group key n)
rank_tie key q n =
    let fronts : Bool = eqb (front_of key.head.tag) (front_of q.head.tag) in
    let same : Bool → Bool = λ v. eqb key.parent q.parent && (v && (eqb key.head.k q.head.k && (bytes_eq key.head.tag q.head.tag && (bytes_eq key.head.check q.head.check && bytes_eq key.head.boxed q.head.boxed)))) in
    sym (matches_eq-law (rank_of key) (rank_of q)) ∙ ap (λ v. fronts && same v) (version_tie key.head.version q.head.version)
    ∙ elim (has_key q (new_group key n)) as (λ b. has_key q (new_group key n) ≡ b → (fronts && b) ≡ b) [
      | true ↦ λ h. ap (λ b. b && true) (eq-eqb _ _ (ap (λ (k : Key). front_of k.head.tag) (key_is key q n h)))
      | false ↦ λ h. and_right fronts false refl
    ] refl

-- a group that was not found begins, and the map has its place
pub finds_new : (key : Key) (n : ℕ) (gs : List GroupView) (old new : BTreeMap Rank ℕ) → Finds old gs → place_of (has_key key) gs ≡ None → Updates rank_cmp old new (rank_of key) (Some (length gs)) → Finds new (gs ++ new_group key n ∷ [])
finds_new key n gs old new was none is q =
    is.0 (rank_of q) ∙ elim (has_key q (new_group key n)) as (λ b. has_key q (new_group key n) ≡ b → cond (is_eq (rank_cmp (rank_of key) (rank_of q))) (Some (length gs)) (get rank_cmp old (rank_of q)) ≡ place_of (has_key q) (gs ++ new_group key n ∷ [])) [
      | true ↦ λ h.
          let none_here : place_of (has_key q) gs ≡ None = subst (λ k. place_of (has_key k) gs ≡ None) (key_is key q n h) none in
          ap (λ b. cond b (Some (length gs)) (get rank_cmp old (rank_of q))) (rank_tie key q n ∙ h)
          ∙ sym (place_last (has_key q) gs (new_group key n) ∙ (λ i. place_or (none_here i) (if h i then Some (length gs) else None)))
      | false ↦ λ h.
          ap (λ b. cond b (Some (length gs)) (get rank_cmp old (rank_of q))) (rank_tie key q n ∙ h) ∙ was q
          ∙ sym (place_last (has_key q) gs (new_group key n) ∙ ap (λ b. place_or (place_of (has_key q) gs) (if b then Some (length gs) else None)) h ∙ or_none (place_of (has_key q) gs))
    ] refl

-- what a call of `add_member` at that place leaves
pub some_groups : (key : Key) (n : ℕ) (gs : List GroupView) (p : ℕ) (g new : GroupView) (b : Bool) → place_of (has_key key) gs ≡ Some p → g ≡ get_or gs p g → new ≡ (if b then with_member n g else g) → set gs p new ≡ (if b then joined key n gs else gs)
some_groups key n gs p g new true found at is = ap (set gs p) is ∙ joined_at key n gs p g found at
some_groups key n gs p g new false found at is = ap (set gs p) (is ∙ at) ∙ set-get_or gs p g

pub some_finds : (key : Key) (n : ℕ) (gs : List GroupView) (p : ℕ) (g new : GroupView) (b : Bool) → place_of (has_key key) gs ≡ Some p → g ≡ get_or gs p g → new ≡ (if b then with_member n g else g) → (q : Key) → place_of (has_key q) gs ≡ place_of (has_key q) (set gs p new)
some_finds key n gs p g new true found at is q =
    sym (ap (place_of (has_key q)) (some_groups key n gs p g new true found at is) ∙ place_kept key q n p gs found)
some_finds key n gs p g new false found at is q = sym (ap (place_of (has_key q)) (some_groups key n gs p g new false found at is))

-- what a call of `begin` leaves
pub none_groups : (key : Key) (n : ℕ) (gs news : List GroupView) (b : Bool) → place_of (has_key key) gs ≡ None → news ≡ (if b then gs ++ new_group key n ∷ [] else gs) → news ≡ (if b then joined key n gs else gs)
none_groups key n gs news true none is = is ∙ joined_last key n gs none
none_groups key n gs news false none is = is

pub none_finds : {A B : Type 0} (r : Result A B) (key : Key) (n : ℕ) (gs news : List GroupView) (old new : BTreeMap Rank ℕ) → Finds old gs → place_of (has_key key) gs ≡ None → OnOk r (Updates rank_cmp old new (rank_of key) (Some (length gs))) → OnErr r (IsUnchanged old new) → news ≡ (if is_ok r then gs ++ new_group key n ∷ [] else gs) → Finds new news
none_finds (Ok x) key n gs news old new was none updates kept is q = finds_new key n gs old new was none updates q ∙ ap (place_of (has_key q)) (sym is)
none_finds (Err e) key n gs news old new was none updates kept is q = ap (lookup (is_at (rank_cmp (rank_of q)))) kept ∙ was q ∙ ap (place_of (has_key q)) (sym is)

-- a group with the key, if groups differ, is at the place of the key
pub place_here : (key : Key) (gs : List GroupView) (p : ℕ) (g : GroupView) → AllPairs AreApart gs → p < length gs → g ≡ get_or gs p g → has_key key g ≡ true → place_of (has_key key) gs ≡ Some p
place_here key [] p g apart lt at is = absurd (omega (arith, lt))
place_here key (f ∷ fs) zero g apart lt at is = ap (λ b. if b then Some 0 else later (place_of (has_key key) fs)) (subst (λ x. has_key key x ≡ true) at is)
place_here key (f ∷ fs) (suc p) g apart lt at is =
    elim (has_key key f) as (λ b. has_key key f ≡ b → (if b then Some 0 else later (place_of (has_key key) fs)) ≡ Some (suc p)) [
      | true ↦ λ h. absurd (apart 0 (suc p) g (omega arith) lt (subst (λ x. (f.parent ≡ x.parent) × (f.head ≡ x.head)) at (one_key key f g h is)))
      | false ↦ λ h. ap later (place_here key fs p g (λ i j d above below. apart (suc i) (suc j) d (omega (arith, above)) (omega (arith, below))) (omega (arith, lt)) at is)
    ] refl
