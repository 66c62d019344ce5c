-- Rows of one key, and the groups of one more row.
use Rattle.std.proofs.Common.{◌≡◌, ℕ, ◌+◌, ◌<◌, Bool, true, false, ◌&&◌, List, [], ◌∷◌, ◌++◌, length, refl, sym, ap, ◌∙◌, subst, map, eqb-true, eq-eqb, eqb, take, get_or}
use Rattle.std.proofs.lemmas.List.{take_more, map-append}
use Rattle.std.proofs.lemmas.Bool.{false≢true, and_from}
use Rattle.std.specs.List.{list_any}
use Rattle.std.specs.Prelude.{if◌then◌else◌}
use Rattle.std.specs.Cmp.Lexicographic.{bytes_decides}
use Rattle.std.specs.Str.{bytes_eq}
use Rattle.report_frame.specs.declared.head.Head.{Head}
use Rattle.report_frame.specs.declared.version.Version.{Version}
use Rattle.report_frame.specs.declared.version.Version.TheVariants.{One, Two}
use Rattle.report_frame.specs.View.{head_of}
use Rattle.tag_groups.specs.RowView.{RowView}
use Rattle.tag_groups.specs.GroupView.{GroupView}
use Rattle.tag_groups.specs.Keys.{same_version, same_key, same_head}
use Rattle.tag_groups.specs.Grouped.{in_group, any_group, group_of}
use Rattle.star_lists.proofs.FirstOnes.{first_ones_push}
use Rattle.star_lists.specs.FirstOnes.{first_ones}
use Rattle.star_lists.proofs.Elements.{list_any-map}
use Rattle.std.specs.Cmp.{first_so, second_so}

pub same_version_is : (a b : Version) → same_version a b ≡ true → a ≡ b
same_version_is One One h = refl
same_version_is One Two h = absurd (false≢true h)
same_version_is Two One h = absurd (false≢true h)
same_version_is Two Two h = refl

pub same_version_self : (a : Version) → same_version a a ≡ true
same_version_self One = refl
same_version_self Two = refl

-- the test on heads distinguishes them
pub same_head_is : (a b : Head) → same_head a b ≡ true → a ≡ b
same_head_is a b h =
    let more : ((eqb a.k b.k) && (bytes_eq a.tag b.tag && (bytes_eq a.check b.check && bytes_eq a.boxed b.boxed))) ≡ true = second_so (same_version a.version b.version) _ h in
    let rest : (bytes_eq a.tag b.tag && (bytes_eq a.check b.check && bytes_eq a.boxed b.boxed)) ≡ true = second_so (eqb a.k b.k) _ more in
    let last : (bytes_eq a.check b.check && bytes_eq a.boxed b.boxed) ≡ true = second_so (bytes_eq a.tag b.tag) _ rest in
    let version : a.version ≡ b.version = same_version_is a.version b.version (first_so (same_version a.version b.version) _ h) in
    let k : a.k ≡ b.k = eqb-true a.k b.k (first_so _ _ more) in
    let tag : a.tag ≡ b.tag = (bytes_decides a.tag b.tag).0 (first_so _ _ rest) in
    let check : a.check ≡ b.check = (bytes_decides a.check b.check).0 (first_so _ _ last) in
    let boxed : a.boxed ≡ b.boxed = (bytes_decides a.boxed b.boxed).0 (second_so (bytes_eq a.check b.check) _ last) in
    λ i. record { version = version i; k = k i; tag = tag i; check = check i; boxed = boxed i }

pub same_head_self : (a : Head) → same_head a a ≡ true
same_head_self a =
    and_from _ _ (same_version_self a.version) (and_from _ _ (eq-eqb a.k a.k refl) (and_from _ _ ((bytes_decides a.tag a.tag).1 refl) (and_from _ _ ((bytes_decides a.check a.check).1 refl) ((bytes_decides a.boxed a.boxed).1 refl))))

-- rows of one group have one parent and one head
pub same_key_is : (a b : RowView) → same_key a b ≡ true → (a.parent ≡ b.parent) × (head_of a.report ≡ head_of b.report)
same_key_is a b h = (eqb-true a.parent b.parent (first_so _ _ h), same_head_is (head_of a.report) (head_of b.report) (second_so (eqb a.parent b.parent) _ h))

pub same_key_of : (a b : RowView) → a.parent ≡ b.parent → head_of a.report ≡ head_of b.report → same_key a b ≡ true
same_key_of a b p q =
    and_from _ _ (eq-eqb a.parent b.parent p) (subst (λ h. same_head (head_of a.report) h ≡ true) q (same_head_self (head_of a.report)))

-- what is like a third is alike
pub through : (x y z : RowView) → same_key y z ≡ true → same_key z x ≡ true → same_key y x ≡ true
through x y z yz zx =
    let a = same_key_is y z yz in
    let b = same_key_is z x zx in
    same_key_of y x (a.0 ∙ b.0) (a.1 ∙ b.1)

-- one more row begins a group if no group is its own
pub groups_more : (rows xs ys : List RowView) (x : RowView) (b : Bool) (groups : List GroupView) → groups ≡ map (group_of rows) (first_ones same_key xs) → b ≡ any_group groups x → ys ≡ xs ++ x ∷ [] → map (group_of rows) (first_ones same_key ys) ≡ groups ++ (if b then [] else group_of rows x ∷ [])
groups_more rows xs ys x b groups is known e =
    let firsts = first_ones same_key xs in
    let asked : b ≡ list_any (λ z. same_key z x) firsts =
    known ∙ ap (λ gs. any_group gs x) is ∙ list_any-map (in_group x) (λ z. same_key z x) (group_of rows) (λ a. refl) firsts in
    let grown : first_ones same_key ys ≡ firsts ++ (if b then [] else x ∷ []) =
    ap (first_ones same_key) e ∙ first_ones_push same_key through xs x ∙ ap (λ t. firsts ++ (if t then [] else x ∷ [])) (sym asked) in
    let last : (t : Bool) → map (group_of rows) (if t then [] else x ∷ []) ≡ (if t then [] else group_of rows x ∷ []) = λ t. elim t as (λ t. map (group_of rows) (if t then [] else x ∷ []) ≡ (if t then [] else group_of rows x ∷ [])) [ true ↦ refl | false ↦ refl ] in
    ap (map (group_of rows)) grown ∙ map-append (group_of rows) firsts (if b then [] else x ∷ []) ∙ (λ i. sym is i ++ last b i)

-- a loop's step: the row at i is x
pub groups_step : (rows : List RowView) (i : ℕ) (x : RowView) (b : Bool) (groups : List GroupView) → i < length rows → x ≡ get_or rows i x → groups ≡ map (group_of rows) (first_ones same_key (take i rows)) → b ≡ any_group groups x → map (group_of rows) (first_ones same_key (take (i + 1) rows)) ≡ groups ++ (if b then [] else group_of rows x ∷ [])
groups_step rows i x b groups lt at is known =
    groups_more rows (take i rows) (take (i + 1) rows) x b groups is known (take_more rows i x lt ∙ ap (λ y. take i rows ++ y ∷ []) (sym at))
