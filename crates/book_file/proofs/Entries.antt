-- Entries in ascending order: what is found at a frame decides them.
use Rattle.std.proofs.Common.{◌≡◌, ℕ, Bool, true, false, cond, ◌||◌, List, [], ◌∷◌, ◌++◌, Option, Some, None, refl, sym, ap, ◌∙◌, subst, map}
use Rattle.std.proofs.lemmas.Option.{same_Some, none-some}
use Rattle.std.proofs.lemmas.Cmp.{nat_list_cmp_total, tied_itself, eq_by_cmp_equiv}
use Rattle.std.proofs.lemmas.Map.{lookup-none}
use Rattle.std.proofs.lemmas.Map.Entries.{lookup_head, lookup_tail, none_past_head, none_below_head}
use Rattle.std.proofs.lemmas.Map.Keys.{IsDistinct-from_sorted, sorted_tail}
use Rattle.std.proofs.lemmas.Map.Lookups.{exact_bytes}
use Rattle.std.proofs.lemmas.Map.Views.{tells_apart}
use Rattle.std.specs.List.{list_any}
use Rattle.std.specs.List.Sorted.{IsStrictlySortedBy}
use Rattle.std.specs.Map.{keys_of, lookup}
use Rattle.std.specs.BTreeMap.{is_at}
use Rattle.std.specs.Ordering.{is_eq, ordering_reverse}
use Rattle.std.specs.declared.cmp.Ordering.TheVariants.{Less, Equal, Greater}
use Rattle.star_lists.specs.Ascending.{by_order, put, ascending}
use Rattle.star_lists.proofs.Ascending.{rising_ascending}
use Rattle.book_file.specs.Book.{Entry, by_bytes}

-- the frames of the entries ascend
abbrev pub Rises : List Entry → Type 0
Rises es = IsStrictlySortedBy by_bytes (keys_of es)

-- how many records were the frame, where there is such an entry
abbrev pub found : List ℕ → List Entry → Option ℕ
found q es = lookup (is_at (by_bytes q)) es

-- one of the frames is this one
abbrev pub has : List ℕ → List (List ℕ) → Bool
has q fs = list_any (is_at (by_bytes q)) fs

pub at_same : (q f : List ℕ) → is_at (by_bytes q) f ≡ true → q ≡ f
at_same q f h = tells_apart exact_bytes q f h

pub at_itself : (q : List ℕ) → is_at (by_bytes q) q ≡ true
at_itself q = ap is_eq (tied_itself nat_list_cmp_total q)

none_here : (q : List ℕ) (e : Entry) (es : List Entry) → Rises (e ∷ es) → by_bytes q e.0 ≡ Less → found q (e ∷ es) ≡ None
none_here q e es s h = lookup-none (is_at (by_bytes q)) (e ∷ es) (none_below_head nat_list_cmp_total q e es s h)

-- no later entry has the frame
pub none_later : (q : List ℕ) (e : Entry) (es : List Entry) → Rises (e ∷ es) → is_at (by_bytes q) e.0 ≡ true → found q es ≡ None
none_later q e es s h = lookup-none (is_at (by_bytes q)) es (none_past_head (eq_by_cmp_equiv nat_list_cmp_total) q e es (IsDistinct-from_sorted by_bytes (keys_of (e ∷ es)) s) h)

-- two with the same at each frame
pub same_entries : (xs ys : List Entry) → Rises xs → Rises ys → ((q : List ℕ) → found q xs ≡ found q ys) → xs ≡ ys
same_entries [] [] s t h = refl
same_entries [] (y ∷ ys) s t h = absurd (none-some y.1 (h y.0 ∙ lookup_head (is_at (by_bytes y.0)) y ys (at_itself y.0)))
same_entries (x ∷ xs) [] s t h = absurd (none-some x.1 (sym (h x.0) ∙ lookup_head (is_at (by_bytes x.0)) x xs (at_itself x.0)))
same_entries (x ∷ xs) (y ∷ ys) s t h =
    let here_x : found x.0 (x ∷ xs) ≡ Some x.1 = lookup_head (is_at (by_bytes x.0)) x xs (at_itself x.0) in
    let here_y : found y.0 (y ∷ ys) ≡ Some y.1 = lookup_head (is_at (by_bytes y.0)) y ys (at_itself y.0) in
    elim (by_bytes x.0 y.0) as (λ r. by_bytes x.0 y.0 ≡ r → x ∷ xs ≡ y ∷ ys) [
      | Less ↦ λ e. absurd (none-some x.1 (sym (none_here x.0 y ys t e) ∙ sym (h x.0) ∙ here_x))
      | Equal ↦ λ e.
          let same : x.0 ≡ y.0 = exact_bytes x.0 y.0 e in
          let value : x.1 ≡ y.1 = same_Some x.1 y.1 (sym here_x ∙ h x.0 ∙ lookup_head (is_at (by_bytes x.0)) y ys (ap is_eq e)) in
          let rest : (q : List ℕ) → found q xs ≡ found q ys = λ q.
          elim (is_at (by_bytes q) x.0) as (λ b. is_at (by_bytes q) x.0 ≡ b → found q xs ≡ found q ys) [
            | true ↦ λ i. none_later q x xs s i ∙ sym (none_later q y ys t (subst (λ f. is_at (by_bytes q) f ≡ true) same i))
            | false ↦ λ i. sym (lookup_tail (is_at (by_bytes q)) x xs i) ∙ h q ∙ lookup_tail (is_at (by_bytes q)) y ys (subst (λ f. is_at (by_bytes q) f ≡ false) same i)
          ] refl in
          λ i. (same i, value i) ∷ same_entries xs ys (sorted_tail by_bytes x.0 (keys_of xs) s) (sorted_tail by_bytes y.0 (keys_of ys) t) rest i
      | Greater ↦ λ e.
          let under : by_bytes y.0 x.0 ≡ Less = nat_list_cmp_total.antisymm y.0 x.0 ∙ ap ordering_reverse e in
          absurd (none-some y.1 (sym (none_here y.0 x xs s under) ∙ h y.0 ∙ here_y))
    ] refl

-- entries that are made of frames
pub found_made : (g : List ℕ → ℕ) (fs : List (List ℕ)) (q : List ℕ) → found q (map (λ f. (f, g f)) fs) ≡ cond (has q fs) (Some (g q)) None
found_made g [] q = refl
found_made g (f ∷ fs) q =
    elim (is_at (by_bytes q) f) as (λ b. is_at (by_bytes q) f ≡ b → cond b (Some (g f)) (found q (map (λ f. (f, g f)) fs)) ≡ cond (b || has q fs) (Some (g q)) None) [
      | true ↦ λ i. ap (λ x. Some (g x)) (sym (at_same q f i))
      | false ↦ λ i. found_made g fs q
    ] refl

pub keys_made : (g : List ℕ → ℕ) (fs : List (List ℕ)) → keys_of (map (λ f. (f, g f)) fs) ≡ fs
keys_made g [] = refl
keys_made g (f ∷ fs) = ap (λ l. f ∷ l) (keys_made g fs)

swapped : (a b c : Bool) → (a || (b || c)) ≡ (b || (a || c))
swapped true true c = refl
swapped true false c = refl
swapped false true c = refl
swapped false false c = refl

twice : (a b : Bool) → (a || b) ≡ (a || (a || b))
twice true b = refl
twice false b = refl

has_put : (q x : List ℕ) (ys : List (List ℕ)) → has q (put by_bytes x ys) ≡ (is_at (by_bytes q) x || has q ys)
has_put q x [] = refl
has_put q x (y ∷ ys) =
    elim (by_bytes x y) as (λ r. by_bytes x y ≡ r → has q (by_order r (x ∷ y ∷ ys) (y ∷ ys) (y ∷ put by_bytes x ys)) ≡ (is_at (by_bytes q) x || (is_at (by_bytes q) y || has q ys))) [
      | Less ↦ λ e. refl
      | Equal ↦ λ e. twice (is_at (by_bytes q) y) (has q ys) ∙ ap (λ z. is_at (by_bytes q) z || (is_at (by_bytes q) y || has q ys)) (sym (exact_bytes x y e))
      | Greater ↦ λ e. ap (λ b. is_at (by_bytes q) y || b) (has_put q x ys) ∙ swapped (is_at (by_bytes q) y) (is_at (by_bytes q) x) (has q ys)
    ] refl

-- ascending leaves the frames
pub has_ascending : (q : List ℕ) (fs : List (List ℕ)) → has q (ascending by_bytes fs) ≡ has q fs
has_ascending q [] = refl
has_ascending q (f ∷ fs) = has_put q f (ascending by_bytes fs) ∙ ap (λ b. is_at (by_bytes q) f || b) (has_ascending q fs)

pub has-append : (q : List ℕ) (xs ys : List (List ℕ)) → has q (xs ++ ys) ≡ (has q xs || has q ys)
has-append q [] ys = refl
has-append q (x ∷ xs) ys =
    elim (is_at (by_bytes q) x) as (λ b. (b || has q (xs ++ ys)) ≡ ((b || has q xs) || has q ys)) [ true ↦ refl | false ↦ has-append q xs ys ]

-- entries that are made of ascending frames rise
pub rises_made : (g : List ℕ → ℕ) (fs : List (List ℕ)) → Rises (map (λ f. (f, g f)) (ascending by_bytes fs))
rises_made g fs = subst (λ l. IsStrictlySortedBy by_bytes l) (sym (keys_made g (ascending by_bytes fs))) (rising_ascending by_bytes nat_list_cmp_total fs)
