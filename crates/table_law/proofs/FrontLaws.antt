-- Rows that share their first values.
use Rattle.std.proofs.Common.{◌≡◌, ℕ, zero, suc, ◌+◌, Bool, true, ◌&&◌, List, [], ◌∷◌, ◌++◌, refl, sym, ap, ap₂, ◌∙◌, length, slice_index, arith, length-append}
use Rattle.std.specs.Prelude.{nat_le}
use Rattle.std.specs.Cmp.{both_ways, first_so, second_so}
use Rattle.std.specs.Cmp.Lexicographic.{bytes_decides}
use Rattle.std.proofs.lemmas.Bool.{and_from}
use Rattle.std.proofs.lemmas.List.{same_from_push}
use Rattle.std.proofs.lemmas.List.Elements.{filter_agree}
use Rattle.adss_commit.specs.Derivation.{context_check}
use Rattle.layer_walk.specs.declared.path.Step.{Step}
use Rattle.report_frame.specs.declared.version.Version.TheVariants.{One}
use Rattle.table_law.specs.Prefixes.{Values, value_at, same_front, how_many, is_open, step_at, path_to, entry}
use Rattle.table_law.specs.Layers.{check_before, layer_context}

pub front_itself : (n : ℕ) (a : Values) → same_front n a a ≡ true
unfolding same_front
front_itself zero a = refl
front_itself (suc n) a = and_from _ _ (front_itself n a) ((bytes_decides (value_at a n) (value_at a n)).1 refl)

pub front_turned : (n : ℕ) (a b : Values) → same_front n a b ≡ true → same_front n b a ≡ true
unfolding same_front
front_turned zero a b h = refl
front_turned (suc n) a b h =
    and_from _ _ (front_turned n a b (first_so (same_front n a b) _ h))
    ((bytes_decides (value_at b n) (value_at a n)).1 (sym ((bytes_decides (value_at a n) (value_at b n)).0 (second_so (same_front n a b) _ h))))

pub front_joins : (n : ℕ) (a b c : Values) → same_front n a b ≡ true → same_front n b c ≡ true → same_front n a c ≡ true
unfolding same_front
front_joins zero a b c h k = refl
front_joins (suc n) a b c h k =
    and_from _ _ (front_joins n a b c (first_so (same_front n a b) _ h) (first_so (same_front n b c) _ k))
    ((bytes_decides (value_at a n) (value_at c n)).1 ((bytes_decides (value_at a n) (value_at b n)).0 (second_so (same_front n a b) _ h) ∙ (bytes_decides (value_at b n) (value_at c n)).0 (second_so (same_front n b c) _ k)))

pub front_before : (n : ℕ) (a b : Values) → same_front (suc n) a b ≡ true → same_front n a b ≡ true
unfolding same_front
front_before n a b h = first_so (same_front n a b) _ h

pub front_last : (n : ℕ) (a b : Values) → same_front (suc n) a b ≡ true → value_at a n ≡ value_at b n
unfolding same_front
front_last n a b h = (bytes_decides (value_at a n) (value_at b n)).0 (second_so (same_front n a b) _ h)

pub front_more : (n : ℕ) (a b : Values) → same_front n a b ≡ true → value_at a n ≡ value_at b n → same_front (suc n) a b ≡ true
unfolding same_front
front_more n a b h e = and_from _ _ h ((bytes_decides (value_at a n) (value_at b n)).1 e)

-- rows that share their first values, and any row
pub front_alike : (n : ℕ) (a b c : Values) → same_front n a b ≡ true → same_front n a c ≡ same_front n b c
front_alike n a b c h = both_ways (same_front n a c) (same_front n b c) (λ k. front_joins n b a c (front_turned n a b h) k) (λ k. front_joins n a b c h k)

-- what depends on the first values alone
pub count_same : (table : List Values) (n : ℕ) (a b : Values) → same_front n a b ≡ true → how_many table n a ≡ how_many table n b
count_same table n a b h = ap length (filter_agree (same_front n a) (same_front n b) (λ c. front_alike n a b c h) table)

pub open_same : (table : List Values) (ks : List ℕ) (n : ℕ) (a b : Values) → same_front n a b ≡ true → is_open table ks n a ≡ is_open table ks n b
unfolding is_open
open_same table ks zero a b h = refl
open_same table ks (suc n) a b h = ap₂ (λ (x : Bool) (m : ℕ). x && nat_le (slice_index ks n) m) (open_same table ks n a b (front_before n a b h)) (count_same table (suc n) a b h)

pub path_same : (ks : List ℕ) (n : ℕ) (a b : Values) → same_front n a b ≡ true → path_to ks n a ≡ path_to ks n b
unfolding path_to
path_same ks zero a b h = refl
path_same ks (suc n) a b h =
    let p = path_same ks n a b (front_before n a b h) in
    let v = front_last n a b h in
    λ i. p i ++ record { value = v i; k = slice_index ks n; version = One } ∷ []

pub path_apart : (ks : List ℕ) (n : ℕ) (a b : Values) → path_to ks n a ≡ path_to ks n b → same_front n a b ≡ true
unfolding path_to same_front
path_apart ks zero a b e = refl
path_apart ks (suc n) a b e =
    let l = same_from_push (path_to ks n a) (path_to ks n b) (step_at ks n a) (step_at ks n b) e in
    front_more n a b (path_apart ks n a b l.0) (ap (λ (s : Step). s.value) l.1)

pub length-path_to : (ks : List ℕ) (n : ℕ) (a : Values) → length (path_to ks n a) ≡ n
unfolding path_to
length-path_to ks zero a = refl
length-path_to ks (suc n) a =
    let step : Step = step_at ks n a in
    let more : length (path_to ks n a ++ step ∷ []) ≡ length (path_to ks n a) + 1 = length-append (path_to ks n a) (step ∷ []) in
    let rest : length (path_to ks n a) ≡ n = length-path_to ks n a in
    omega arith

pub entry_same : (table : List Values) (ks : List ℕ) (n : ℕ) (a b : Values) → same_front n a b ≡ true → entry table ks n a ≡ entry table ks n b
entry_same table ks n a b h =
    let p = path_same ks n a b h in
    let m = count_same table n a b h in
    λ i. record { path = p i; points = m i; agree = m i; members = m i }

pub check_same : (e : ℕ) (ks : List ℕ) (l : ℕ) (a b : Values) → same_front l a b ≡ true → check_before e ks l a ≡ check_before e ks l b
unfolding check_before
check_same e ks zero a b h = refl
check_same e ks (suc l) a b h =
    let p = check_same e ks l a b (front_before l a b h) in
    let v = front_last l a b h in
    λ i. context_check (record { version = One; parent = p i; epoch = e; level = l; k = slice_index ks l; value = v i })

pub context_same : (e : ℕ) (ks : List ℕ) (l : ℕ) (a b : Values) → same_front (suc l) a b ≡ true → layer_context e ks l a ≡ layer_context e ks l b
context_same e ks l a b h =
    let p = check_same e ks l a b (front_before l a b h) in
    let v = front_last l a b h in
    λ i. record { version = One; parent = p i; epoch = e; level = l; k = slice_index ks l; value = v i }
