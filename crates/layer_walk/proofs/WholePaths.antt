-- Two opened groups never have the same path: the path, the parent's check and the value give the head.
use Rattle.std.proofs.Common.{◌≡◌, ◌≢◌, ℕ, zero, suc, ◌+◌, ◌≤◌, true, false, nat_lt, List, [], ◌∷◌, Option, Some, None, inl, inr, refl, sym, ap, ◌∙◌, subst, length, arith, length-append}
use Rattle.std.specs.Prelude.{if◌then◌else◌}
use Rattle.std.specs.List.{filter_map, cons_option}
use Rattle.std.proofs.lemmas.List.{same_from_push}
use Rattle.report_frame.specs.declared.head.Head.{Head}
use Rattle.report_frame.specs.View.{head_of}
use Rattle.shamir_limbs.specs.declared.recovery.Recovered.{Recovered}
use Rattle.shamir_limbs.specs.declared.key.Key.{Key}
use Rattle.shamir_limbs.specs.declared.share.Point.{Point}
use Rattle.shamir_limbs.specs.Search.{key_line_of}
use Rattle.adss_commit.specs.Derivation.{opened_value}
use Rattle.adss_commit.proofs.Honest.{one_head}
use Rattle.star_lists.proofs.Elements.{In, Pairwise, all_of, of_all}
use Rattle.star_lists.proofs.FirstOnes.{in_firsts}
use Rattle.star_lists.proofs.Inside.{from_filter_map, in_either, pairwise_append, firsts_differ}
use Rattle.layer_walk.specs.declared.outcome.Outcome.{Outcome}
use Rattle.layer_walk.specs.declared.outcome.Outcome.TheVariants.{Opened, Few, NoLine, BadValue}
use Rattle.layer_walk.specs.declared.path.Step.{Step}
use Rattle.layer_walk.specs.declared.level.Parent.{Parent}
use Rattle.layer_walk.specs.declared.revealed.OpenedGroup.{OpenedGroup}
use Rattle.layer_walk.specs.Rows.{Row, same_group, first_members}
use Rattle.layer_walk.specs.Outcomes.{outcome_with, outcome_under, outcome_of, outcome_at}
use Rattle.layer_walk.specs.Levels.{path_with, next_row, next_rows, rows_from, child_row, parents_at, opened_row, opened_at}
use Rattle.layer_walk.specs.Reveal.{groups_told}
use Rattle.layer_walk.proofs.HeldRows.{OpenedOn, next_from, told_from, child_from}
use Rattle.layer_walk.proofs.Same.{OneGroup, in_one_group}

-- ---- an opened group's value is one to which its head opens

IsGiven : ℕ → ℕ → List ℕ → Head → Outcome → Type 0
IsGiven e l check head (Opened value agree) = (key : Key) × (opened_value key head check e l ≡ Some value)
IsGiven e l check head Few = Unit {0}
IsGiven e l check head NoLine = Unit {0}
IsGiven e l check head BadValue = Unit {0}

given_with : (e l : ℕ) (check : List ℕ) (head : Head) (key : Key) (agree : ℕ) (o : Option (List ℕ)) → opened_value key head check e l ≡ o → IsGiven e l check head (outcome_with agree o)
unfolding IsGiven
given_with e l check head key agree None is = tt
given_with e l check head key agree (Some value) is = (key, is)

given_under : (e l : ℕ) (check : List ℕ) (head : Head) (o : Option Recovered) → IsGiven e l check head (outcome_under e l check head o)
unfolding IsGiven
given_under e l check head None = tt
given_under e l check head (Some found) = given_with e l check head found.key found.agree (opened_value found.key head check e l) refl

given_of : (e l : ℕ) (check : List ℕ) (head : Head) (points : List Point) → IsGiven e l check head (outcome_of e l check head points)
unfolding IsGiven outcome_of
given_of e l check head points =
    elim (nat_lt (length points) head.k) as (λ b. IsGiven e l check head (if b then Few else outcome_under e l check head (key_line_of points head.k))) [
      | true ↦ tt
      | false ↦ given_under e l check head (key_line_of points head.k)
    ]

given_at : (e l : ℕ) (rows : List Row) (row : Row) → IsGiven e l row.parent.check (head_of row.frame) (outcome_at e l rows row)
unfolding outcome_at
given_at e l rows row = given_of e l row.parent.check (head_of row.frame) _

pub head_opens : (e l : ℕ) (rows : List Row) (row : Row) (value : List ℕ) (agree : ℕ) → outcome_at e l rows row ≡ Opened value agree →
    (key : Key) × (opened_value key (head_of row.frame) row.parent.check e l ≡ Some value)
unfolding IsGiven
head_opens e l rows row value agree is = subst (IsGiven e l row.parent.check (head_of row.frame)) is (given_at e l rows row)

-- ---- opened groups of one path

-- rows of one path have one check
unfoldable pub PathsFix : List Row → Type 0
PathsFix rows = (a b : Row) → In a rows → In b rows → a.parent.path ≡ b.parent.path → a.parent.check ≡ b.parent.check

-- opened groups of one path are one group
pub one_path : (e l : ℕ) (rows : List Row) (a b : Row) (v w : List ℕ) (m n : ℕ) → PathsFix rows → In a rows → In b rows → outcome_at e l rows a ≡ Opened v m → outcome_at e l rows b ≡ Opened w n → path_with a v ≡ path_with b w → OneGroup a b
unfolding PathsFix
one_path e l rows a b v w m n fix ia ib oa ob same =
    let last = same_from_push a.parent.path b.parent.path (record { value = v; k = a.frame.k; version = a.frame.version }) (record { value = w; k = b.frame.k; version = b.frame.version }) same in
    let check : a.parent.check ≡ b.parent.check = fix a b ia ib last.0 in
    let first = head_opens e l rows a v m oa in
    let second = head_opens e l rows b w n ob in
    let moved : opened_value second.0 (head_of b.frame) a.parent.check e l ≡ Some v =
    ap (λ c. opened_value second.0 (head_of b.frame) c e l) check ∙ second.1 ∙ ap (λ (s : Step). Some s.value) (sym last.1) in
    record {
      parent = λ i. record { path = last.0 i; check = check i };
      head = one_head first.0 second.0 (head_of a.frame) (head_of b.frame) a.parent.check e l v first.1 moved (ap (λ (s : Step). s.version) last.1) (ap (λ (s : Step). s.k) last.1);
    }

-- ---- from level to level

-- the rows of the next level again
fix_next : (e l : ℕ) (rows : List Row) → PathsFix rows → PathsFix (next_rows e l rows)
unfolding PathsFix next_rows
fix_next e l rows fix a b ia ib same =
    let ra = from_filter_map (next_row e l rows) rows a ia in
    let rb = from_filter_map (next_row e l rows) rows b ib in
    let na = next_from e l rows ra.0 a ra.2 in
    let nb = next_from e l rows rb.0 b rb.2 in
    let one = one_path e l rows ra.0 rb.0 na.held.value nb.held.value na.held.agree nb.held.agree fix ra.1 rb.1 na.held.opened nb.held.opened (ap (λ (p : Parent). p.path) (sym na.parent) ∙ same ∙ ap (λ (p : Parent). p.path) nb.parent) in
    ap (λ (p : Parent). p.check) na.parent ∙ ap (λ (h : Head). h.check) one.head ∙ ap (λ (p : Parent). p.check) (sym nb.parent)

-- the rows of each level
pub fix_from : (e : ℕ) (rows : List Row) → PathsFix rows → (l : ℕ) → PathsFix (rows_from e rows l)
unfolding rows_from
fix_from e rows fix zero = fix
fix_from e rows fix (suc l) = fix_next e l (rows_from e rows l) (fix_from e rows fix l)

-- the rows' paths have this length
unfoldable pub Depth : ℕ → List Row → Type 0
Depth n rows = (r : Row) → In r rows → length r.parent.path ≡ n

depth_next : (e l : ℕ) (rows : List Row) → Depth l rows → Depth (suc l) (next_rows e l rows)
unfolding Depth next_rows
depth_next e l rows h r i =
    let f = from_filter_map (next_row e l rows) rows r i in
    let n = next_from e l rows f.0 r f.2 in
    let long : length r.parent.path ≡ length (path_with f.0 n.held.value) = ap (λ (p : Parent). length p.path) n.parent in
    let more : length (path_with f.0 n.held.value) ≡ length f.0.parent.path + 1 = length-append f.0.parent.path _ in
    let was : length f.0.parent.path ≡ l = h f.0 f.1 in
    omega arith

pub depth_from : (e : ℕ) (rows : List Row) → Depth 0 rows → (l : ℕ) → Depth l (rows_from e rows l)
unfolding rows_from
depth_from e rows h zero = h
depth_from e rows h (suc l) = depth_next e l (rows_from e rows l) (depth_from e rows h l)

-- ---- opened groups

abbrev pub PathsApart : List OpenedGroup → Type 0
PathsApart groups = Pairwise (λ (g h : OpenedGroup). g.path ≢ h.path) groups

-- what rows give whose groups are opened, each on the path of its row's group
module _ {X : Type 0} (e l : ℕ) (rows : List Row) (f : Row → Option X) (path : X → List Step)
    (given : (row : Row) (x : X) → f row ≡ Some x → OpenedOn e l rows row (path x)) where
  given_apart : (firsts : List Row) → PathsFix rows → ((r : Row) → In r firsts → In r rows)
      → Pairwise (λ a b. same_group a b ≡ false) firsts
      → Pairwise (λ (x y : X). path x ≢ path y) (filter_map f firsts)
  given_apart [] fix inside apart = tt
  given_apart (a ∷ firsts) fix inside apart =
      let later = given_apart firsts fix (λ r i. inside r (inr i)) apart.1 in
      elim (f a) as (λ o. f a ≡ o → Pairwise (λ (x y : X). path x ≢ path y) (cons_option o (filter_map f firsts))) [
        | None ↦ λ _. later
        | Some x ↦ λ is. (
          all_of (λ (y : X). path x ≢ path y) (filter_map f firsts) (λ y i same.
              let from = from_filter_map f firsts y i in
              let at = given a x is in
              let behind = given from.0 y from.2 in
              let one = one_path e l rows a from.0 at.value behind.value at.agree behind.agree fix (inside a (inl refl))
              (inside from.0 (inr from.1))
              at.opened behind.opened (sym at.path_is ∙ same ∙ behind.path_is) in
              let no : true ≡ false = sym (in_one_group a from.0 one) ∙ of_all (λ b. same_group a b ≡ false) firsts apart.0 from.0 from.1 in
              cc),
          later,
        )
      ] refl

  -- no two groups are on one path
  pub firsts_apart : PathsFix rows → Pairwise (λ (x y : X). path x ≢ path y) (filter_map f (first_members rows))
  firsts_apart fix = given_apart (first_members rows) fix (in_firsts same_group rows) (firsts_differ same_group rows)

  -- and each path is one step longer
  pub firsts_deep : (x : X) → Depth l rows → In x (filter_map f (first_members rows)) → length (path x) ≡ l + 1
  unfolding Depth
  firsts_deep x deep i =
      let from = from_filter_map f (first_members rows) x i in
      let at = given from.0 x from.2 in
      let long : length (path x) ≡ length (path_with from.0 at.value) = ap length at.path_is in
      let more : length (path_with from.0 at.value) ≡ length from.0.parent.path + 1 = length-append from.0.parent.path _ in
      let was : length from.0.parent.path ≡ l = deep from.0 (in_firsts same_group rows from.0 from.1) in
      omega arith

opened_apart : (e l : ℕ) (rows : List Row) → PathsFix rows → PathsApart (opened_at e l rows)
unfolding opened_at
opened_apart e l rows fix = firsts_apart e l rows (opened_row e l rows) (λ (g : OpenedGroup). g.path) (told_from e l rows) fix

opened_deep : (e l : ℕ) (rows : List Row) (group : OpenedGroup) → Depth l rows → In group (opened_at e l rows) → length group.path ≡ l + 1
unfolding opened_at
opened_deep e l rows = firsts_deep e l rows (opened_row e l rows) (λ (g : OpenedGroup). g.path) (told_from e l rows)

-- the same of the parents of the next level
pub parents_apart : (e l : ℕ) (rows : List Row) → PathsFix rows → Pairwise (λ (p q : Parent). p.path ≢ q.path) (parents_at e l rows)
unfolding parents_at
parents_apart e l rows fix = firsts_apart e l rows (child_row e l rows) (λ (p : Parent). p.path) (child_from e l rows) fix

pub parents_deep : (e l : ℕ) (rows : List Row) (parent : Parent) → Depth l rows → In parent (parents_at e l rows)
    → length parent.path ≡ l + 1
unfolding parents_at
parents_deep e l rows = firsts_deep e l rows (child_row e l rows) (λ (p : Parent). p.path) (child_from e l rows)

-- the groups of the levels below n have paths of at most n steps
told_short : (e : ℕ) (rows : List Row) → Depth 0 rows → (n : ℕ) (group : OpenedGroup) → In group (groups_told e rows n) → length group.path ≤ n
unfolding groups_told
told_short e rows deep zero group i = absurd i
told_short e rows deep (suc n) group i = elim (in_either group (groups_told e rows n) (opened_at e n (rows_from e rows n)) i) [
  | inl j ↦ omega (arith, told_short e rows deep n group j)
  | inr j ↦ omega (arith, opened_deep e n (rows_from e rows n) group (depth_from e rows deep n) j)
]

-- no two opened groups of the levels below n have the same path
pub groups_apart : (e : ℕ) (rows : List Row) → PathsFix rows → Depth 0 rows → (n : ℕ) → PathsApart (groups_told e rows n)
unfolding groups_told
groups_apart e rows fix deep zero = tt
groups_apart e rows fix deep (suc n) =
    pairwise_append (λ (g h : OpenedGroup). g.path ≢ h.path) (groups_told e rows n) (opened_at e n (rows_from e rows n)) (groups_apart e rows fix deep n) (opened_apart e n (rows_from e rows n) (fix_from e rows fix n))
    (λ g h i j same.
    let short : length g.path ≤ n = told_short e rows deep n g i in
    let long : length h.path ≡ n + 1 = opened_deep e n (rows_from e rows n) h (depth_from e rows deep n) j in
    let level : length g.path ≡ length h.path = ap length same in
    omega arith)
