-- Points and heads of rows, as the keys of a map.
use Rattle.std.proofs.Common.{◌≡◌, ℕ, Bool, true, ◌&&◌, List, [], sym, ap, ◌∙◌, subst, get_or, slice_index, eqb, eqb-true, eq-eqb}
use Rattle.std.specs.Str.{bytes_eq}
use Rattle.std.specs.Ordering.{is_eq}
use Rattle.std.specs.Cmp.{first_so, second_so}
use Rattle.std.specs.declared.cmp.Ordering.{Ordering}
use Rattle.std.proofs.lemmas.Bool.{and_from}
use Rattle.tag_groups.specs.Keys.{same_head}
use Rattle.tag_groups.proofs.IndexLemmas.{version_tie}
use Rattle.tag_groups.proofs.Keys.{same_head_is, same_head_self}
use Rattle.table_law.specs.declared.points.PointMark.{PointMark}
use Rattle.table_law.specs.contracts.points.PointMarkOrd.TheImpl as point_ord
use Rattle.table_law.specs.contracts.points.PointMarkOrd.TheImpl.Laws.{matches_eq-law as point_law}
use Rattle.table_law.specs.declared.heads.HeadMark.{HeadMark}
use Rattle.table_law.specs.contracts.heads.HeadMarkOrd.TheImpl as head_ord
use Rattle.table_law.specs.contracts.heads.HeadMarkOrd.TheImpl.Laws.{matches_eq-law as head_law}
use Rattle.table_law.specs.Prefixes.{Values}
use Rattle.table_law.specs.Marks.{row_head}

-- ---- points

abbrev pub point_cmp : PointMark → PointMark → Ordering
point_cmp = (point_ord.ghosts).cmp

-- the mark of row j in layer l
abbrev pub point_mark : List (List ℕ) → ℕ → List ℕ → ℕ → PointMark
point_mark points l firsts j = record { first = slice_index firsts j; x = slice_index (get_or points j []) l }

-- marks tie exactly if they are the same
pub points_tie : (a b : PointMark) → is_eq (point_cmp a b) ≡ true → (a.first ≡ b.first) × (a.x ≡ b.x)
points_tie a b h =
    let same : (eqb a.first b.first && eqb a.x b.x) ≡ true = point_law a b ∙ h in
    (eqb-true a.first b.first (first_so _ _ same), eqb-true a.x b.x (second_so (eqb a.first b.first) _ same))

pub tied_points : (a b : PointMark) → a.first ≡ b.first → a.x ≡ b.x → is_eq (point_cmp a b) ≡ true
tied_points a b first x = sym (point_law a b) ∙ and_from _ _ (eq-eqb a.first b.first first) (eq-eqb a.x b.x x)

-- ---- heads

abbrev pub head_cmp : HeadMark → HeadMark → Ordering
head_cmp = (head_ord.ghosts).cmp

-- the mark of row j in layer l
abbrev pub head_mark : ℕ → List ℕ → ℕ → List Values → List ℕ → ℕ → HeadMark
head_mark e ks l table firsts j = record { before = slice_index firsts j; head = row_head e ks l table j }

-- marks tie exactly if they are the same
head_tie : (a b : HeadMark) → is_eq (head_cmp a b) ≡ (eqb a.before b.before && same_head a.head b.head)
head_tie a b =
    let same : Bool → Bool = λ v. eqb a.before b.before && (v && (eqb a.head.k b.head.k && (bytes_eq a.head.tag b.head.tag && (bytes_eq a.head.check b.head.check && bytes_eq a.head.boxed b.head.boxed)))) in
    sym (head_law a b) ∙ ap same (version_tie a.head.version b.head.version)

pub heads_tie : (a b : HeadMark) → is_eq (head_cmp a b) ≡ true → (a.before ≡ b.before) × (a.head ≡ b.head)
heads_tie a b h =
    let same : (eqb a.before b.before && same_head a.head b.head) ≡ true = sym (head_tie a b) ∙ h in
    (eqb-true a.before b.before (first_so _ _ same), same_head_is a.head b.head (second_so (eqb a.before b.before) _ same))

pub tied_heads : (a b : HeadMark) → a.before ≡ b.before → a.head ≡ b.head → is_eq (head_cmp a b) ≡ true
tied_heads a b before head =
    head_tie a b ∙ and_from _ _ (eq-eqb a.before b.before before) (subst (λ h. same_head a.head h ≡ true) head (same_head_self a.head))
