-- Each kind of step keeps the rule of the ticket word.
use Rattle.std.proofs.Common.{◌≡◌, ◌==◌, ltb, ℕ, zero, suc, ◌+◌, ◌%◌, ◌^◌, ◌<◌, ◌≤◌, ◌≢◌, ◌⊎◌, Bool, true, false, true≢false, if◌then◌else◌, List, [], ◌∷◌, ◌++◌, length, set, sym, refl, ap, ◌∙◌, subst, ⊎_elim, inl, inr, arith}
use Rattle.std.specs.Prelude.{◌&&◌, ◌||◌, min, slice_index}
use Rattle.std.proofs.lemmas.Bool.Decides.{nat_tests}
use Rattle.std.proofs.lemmas.Bool.{cases_lt}
use mathlib.Core.Option.{some, none, some-injective, some-ne-none}
use lib.ListN.{get_elem?}
use Rattle.std.proofs.Math.ListN.{length-set}
use Rattle.atomic_table.specs.Table.{Me, step, Allows, Splits, Joins, Final, Seen, keeps}
use Rattle.atomic_table.proofs.Lists.{at_set, at_snoc, set_again}
use Rattle.recovery_pool.specs.declared.limits.TheConstants.{MAX_JOBS, MAX_WORKERS}
use Rattle.recovery_pool.specs.declared.pass_view.PassView.{PassView}
use Rattle.recovery_pool.specs.Standing.{one_if, times, total, HasEachOnce, Fits, TicketsStand}
use Rattle.recovery_pool.specs.Steps.{nobody, fresh, Stands, with_number, with_none, after_draw, Drew, Looked, keeps_rest, begins_with, joined}
use Rattle.recovery_pool.proofs.Sums.{total_set, total_more, total_le, total_one, total_alone, times-append, drawn_at_most}

-- the lists have at most `jobs` numbers, so the word is at most the jobs and the workers
module _ (word jobs workers : ℕ) (views : List PassView) (h : TicketsStand word views jobs workers) where
  few_drawn : total (λ v. length v.drawn) views ≤ min word jobs
  few_drawn = drawn_at_most (min word jobs) views (λ t. h.once t ∙ both t)
    where
      both : (t : ℕ) → one_if (ltb t word && ltb t jobs) ≡ one_if (ltb t (min word jobs))
      both t = grind (arith, nat_tests)

  pub low_word : word ≤ jobs + workers
  low_word =
      let a = few_drawn in
      let b = h.counted in
      let c : total (λ v. v.nones) views ≤ total (λ v. v.share) views = total_le (λ v. v.nones) (λ v. v.share) views (λ k v e. (h.each k v e).few_nones) in
      let d = h.shares in
      omega arith

  pub low_list : (id : ℕ) (v : PassView) → get_elem? views id ≡ some v → length v.drawn ≤ jobs
  low_list id v at =
      let a = few_drawn in
      let b = total_one (λ v. length v.drawn) views id v at in
      omega arith

-- a view that changes alone
each_set : (word jobs : ℕ) (views : List PassView) (id : ℕ) (w : PassView) → ((k : ℕ) (v : PassView) → get_elem? views k ≡ some v → Fits word jobs v) → Fits word jobs w → (k : ℕ) (u : PassView) → get_elem? (set views id w) k ≡ some u → Fits word jobs u
each_set word jobs views id w each fits k u e =
    ⊎_elim (λ (t : (k ≡ id) × (w ≡ u)). subst (Fits word jobs) t.1 fits) (λ (t : (k ≢ id) × (get_elem? views k ≡ some u)). each k u t.1) (at_set views id k w u e)

each_more : (word jobs : ℕ) (views : List PassView) (w : PassView) → ((k : ℕ) (v : PassView) → get_elem? views k ≡ some v → Fits word jobs v) → Fits word jobs w → (k : ℕ) (u : PassView) → get_elem? (views ++ w ∷ []) k ≡ some u → Fits word jobs u
each_more word jobs views w each fits k u e =
    ⊎_elim (λ (t : get_elem? views k ≡ some u). each k u t) (λ (t : w ≡ u). subst (Fits word jobs) t fits) (at_snoc views w u k e)

-- the word never falls
later : (word more jobs : ℕ) (v : PassView) → word ≤ more → Fits word jobs v → Fits more jobs v
later word more jobs v up h = record { few_nones = h.few_nones; no_nones = h.no_nones; all_drawn = λ s p. let a = h.all_drawn s p in omega arith; left_behind = h.left_behind; told = h.told }

drawn_last : (t n : ℕ) (xs : List ℕ) → times t (xs ++ n ∷ []) ≡ times t xs + one_if (n == t)
drawn_last t n xs = omega (arith, times-append t xs (n ∷ []))

length_last : (n : ℕ) (xs : List ℕ) → length (xs ++ n ∷ []) ≡ length xs + 1
length_last n [] = refl
length_last n (x ∷ xs) = omega (arith, length_last n xs)

-- a worker takes the number that the word holds
takes : (word jobs workers id : ℕ) (views : List PassView) (v : PassView) → TicketsStand word views jobs workers → get_elem? views id ≡ some v → 1 ≤ v.share → v.spent ≡ false → word < jobs
    → TicketsStand (word + 1) (set views id (with_number v word)) jobs workers
takes word jobs workers id views v h at some_share live low =
    let w : PassView = with_number v word in
    let mine = h.each id v at in
    record {
      once = λ t. let one : one_if (ltb t (word + 1) && ltb t jobs) ≡ one_if (ltb t word && ltb t jobs) + one_if (word == t) = grind (arith, nat_tests) in
          omega (arith, one, h.once t, total_set (λ u. times t u.drawn) views id v w at, drawn_last t word v.drawn);
      counted = omega (arith, h.counted, total_set (λ u. length u.drawn) views id v w at, total_set (λ u. u.nones) views id v w at, length_last word v.drawn);
      shares = omega (arith, h.shares, total_set (λ u. u.share) views id v w at);
      each = each_set (word + 1) jobs views id w (λ k u e. later word (word + 1) jobs u (omega arith) (h.each k u e))
          record { few_nones = mine.few_nones; no_nones = mine.no_nones; all_drawn = λ s p. absurd (true≢false (sym p ∙ live)); left_behind = λ e. absurd (omega arith); told = mine.told };
    }

-- a worker finds none left
finds_none : (word jobs workers id : ℕ) (views : List PassView) (v : PassView) → TicketsStand word views jobs workers → get_elem? views id ≡ some v → 1 ≤ v.share → v.spent ≡ false → jobs ≤ word
    → TicketsStand (word + 1) (set views id (with_none v word)) jobs workers
finds_none word jobs workers id views v h at some_share live high =
    let w : PassView = with_none v word in
    let mine = h.each id v at in
    record {
      once = λ t. let one : one_if (ltb t (word + 1) && ltb t jobs) ≡ one_if (ltb t word && ltb t jobs) = grind (arith, nat_tests) in
          omega (arith, one, h.once t, total_set (λ u. times t u.drawn) views id v w at);
      counted = omega (arith, h.counted, total_set (λ u. length u.drawn) views id v w at, total_set (λ u. u.nones) views id v w at);
      shares = omega (arith, h.shares, total_set (λ u. u.share) views id v w at);
      each = each_set (word + 1) jobs views id w (λ k u e. later word (word + 1) jobs u (omega arith) (h.each k u e))
          record { few_nones = omega (arith, mine.no_nones live); no_nones = λ p. absurd (true≢false p); all_drawn = λ s p. omega arith; left_behind = λ e. absurd (omega arith); told = mine.told };
    }

-- either way, by the test of the word
pub drawn_so : (word jobs workers id : ℕ) (views : List PassView) (v : PassView) → TicketsStand word views jobs workers → get_elem? views id ≡ some v → 1 ≤ v.share → v.spent ≡ false → TicketsStand (word + 1) (set views id (after_draw v word)) jobs workers
drawn_so word jobs workers id views v h at some_share live =
    let same : v.jobs ≡ jobs = (h.each id v at).told some_share in
    ⊎_elim
    (λ (low : word < jobs).
    let is : ltb word v.jobs ≡ true = grind (arith, nat_tests) in
    subst (λ (b : Bool). TicketsStand (word + 1) (set views id (if b then with_number v word else with_none v word)) jobs workers) (sym is) (takes word jobs workers id views v h at some_share live low))
    (λ (high : jobs ≤ word).
    let is : ltb word v.jobs ≡ false = grind (arith, nat_tests) in
    subst (λ (b : Bool). TicketsStand (word + 1) (set views id (if b then with_number v word else with_none v word)) jobs workers) (sym is) (finds_none word jobs workers id views v h at some_share live high))
    (cases_lt word jobs)

set_there : (views : List PassView) (id : ℕ) (v w : PassView) → get_elem? views id ≡ some v → get_elem? (set views id w) id ≡ some w
set_there [] id v w e = absurd (some-ne-none v (sym e))
set_there (x ∷ xs) zero v w e = refl
set_there (x ∷ xs) (suc id) v w e = set_there xs id v w e

one_word : (ws : List ℕ) (n : ℕ) → length ws ≡ 1 → slice_index (set ws 0 n) 0 ≡ n
one_word [] n e = absurd (omega arith)
one_word (x ∷ xs) n e = refl

either_spent : (a b : Bool) → a || b ≡ true → (a ≡ true) ⊎ (b ≡ true)
either_spent true b e = inl refl
either_spent false b e = inr e

neither_spent : (a b : Bool) → a || b ≡ false → (a ≡ false) × (b ≡ false)
neither_spent true b e = absurd (true≢false e)
neither_spent false b e = (refl, e)

-- a pass gives part of its share to a new one
pub split_so : (word jobs workers id part : ℕ) (views : List PassView) (v : PassView) → TicketsStand word views jobs workers → get_elem? views id ≡ some v → 1 ≤ part → part < v.share → v.spent ≡ false → TicketsStand word (set views id (keeps_rest part v) ++ begins_with part v ∷ []) jobs workers
split_so word jobs workers id part views v t at some_part less live =
    let l : PassView = keeps_rest part v in
    let r : PassView = begins_with part v in
    let mine = t.each id v at in
    record {
      once = λ k. omega (arith, t.once k, total_set (λ u. times k u.drawn) views id v l at, total_more (λ u. times k u.drawn) (set views id l) r);
      counted = omega (arith, t.counted, total_set (λ u. length u.drawn) views id v l at, total_more (λ u. length u.drawn) (set views id l) r, total_set (λ u. u.nones) views id v l at, total_more (λ u. u.nones) (set views id l) r);
      shares = omega (arith, t.shares, total_set (λ u. u.share) views id v l at, total_more (λ u. u.share) (set views id l) r);
      each = each_more word jobs (set views id l) r
          (each_set word jobs views id l t.each
          record { few_nones = omega (arith, mine.no_nones live); no_nones = mine.no_nones; all_drawn = λ e p. absurd (true≢false (sym p ∙ live)); left_behind = λ e. absurd (omega arith); told = λ e. mine.told (omega arith) })
          record { few_nones = omega arith; no_nones = λ e. refl; all_drawn = λ e p. absurd (true≢false (sym p)); left_behind = λ e. (refl, refl); told = λ e. mine.told (omega arith) };
    }

length_both : (xs ys : List ℕ) → length (xs ++ ys) ≡ length xs + length ys
length_both [] ys = omega arith
length_both (x ∷ xs) ys = omega (arith, length_both xs ys)

-- a pass takes in another, which leaves a view with no share behind
pub join_so : (word jobs workers id : ℕ) (views : List PassView) (v : PassView) (other : ℕ) (w : PassView) → TicketsStand word views jobs workers → get_elem? views id ≡ some v → 1 ≤ v.share → 1 ≤ w.share → (other ≡ id → ⊥) → get_elem? (set views id (joined v w)) other ≡ some w
    → TicketsStand word (set (set views id (joined v w)) other nobody) jobs workers
join_so word jobs workers id views v other w t at my_share their_share apart there =
    let both : PassView = joined v w in
    let mid : List PassView = set views id both in
    let mine = t.each id v at in
    let was : get_elem? views other ≡ some w = ⊎_elim (λ (e : (other ≡ id) × (both ≡ w)). absurd (apart e.0)) (λ (e : (other ≢ id) × (get_elem? views other ≡ some w)). e.1) (at_set views id other both w there) in
    let theirs = t.each other w was in
    record {
      once = λ k. omega (arith, t.once k, total_set (λ u. times k u.drawn) views id v both at, total_set (λ u. times k u.drawn) mid other w nobody there, times-append k v.drawn w.drawn);
      counted = omega (arith, t.counted, total_set (λ u. length u.drawn) views id v both at, total_set (λ u. length u.drawn) mid other w nobody there, length_both v.drawn w.drawn, total_set (λ u. u.nones) views id v both at, total_set (λ u. u.nones) mid other w nobody there);
      shares = omega (arith, t.shares, total_set (λ u. u.share) views id v both at, total_set (λ u. u.share) mid other w nobody there);
      each = each_set word jobs mid other nobody
          (each_set word jobs views id both t.each
          record {
            few_nones = omega (arith, mine.few_nones, theirs.few_nones);
            no_nones = λ e. let n = neither_spent v.spent w.spent e in omega (arith, mine.no_nones n.0, theirs.no_nones n.1);
            all_drawn = λ e p. ⊎_elim (λ (q : v.spent ≡ true). mine.all_drawn my_share q) (λ (q : w.spent ≡ true). theirs.all_drawn their_share q) (either_spent v.spent w.spent p);
            left_behind = λ e. absurd (omega arith);
            told = λ e. mine.told my_share;
          })
          record { few_nones = omega arith; no_nones = λ e. refl; all_drawn = λ e p. absurd (omega arith); left_behind = λ e. (refl, refl); told = λ e. absurd (omega arith) };
    }

-- the word is 0, and the one pass has all shares
pub first_so : (jobs workers : ℕ) → 1 ≤ workers → TicketsStand 0 (fresh workers jobs ∷ []) jobs workers
first_so jobs workers some_share =
    record {
      once = λ t. let none : one_if (ltb t 0 && ltb t jobs) ≡ 0 = grind (arith, nat_tests) in omega (arith, none);
      counted = refl;
      shares = omega arith;
      each = λ k v e. only k v e;
    }
  where
    only : (k : ℕ) (v : PassView) → get_elem? (fresh workers jobs ∷ []) k ≡ some v → Fits 0 jobs v
    only zero v e = subst (Fits 0 jobs) (some-injective (fresh workers jobs) v e) record { few_nones = omega arith; no_nones = λ e. refl; all_drawn = λ s p. absurd (true≢false (sym p)); left_behind = λ e. (refl, refl); told = λ s. refl }
    only (suc k) v e = absurd (some-ne-none v (sym e))

-- the pass that has all shares and is spent has drawn each number below `jobs` once, and no other
pub all_drawn_so : (word jobs workers id : ℕ) (views : List PassView) (v : PassView) → TicketsStand word views jobs workers → get_elem? views id ≡ some v → 1 ≤ workers → v.share ≡ workers → v.spent ≡ true → HasEachOnce jobs v.drawn
all_drawn_so word jobs workers id views v h at some_share all spent t =
    let high : jobs ≤ word = (h.each id v at).all_drawn (omega arith) spent in
    let alone : total (λ u. times t u.drawn) views ≡ times t v.drawn = total_alone (λ u. times t u.drawn) (λ u. u.share) views id v at (h.shares ∙ sym all) (λ k u e z. ap (times t) ((h.each k u e).left_behind z).0) in
    let one : one_if (ltb t word && ltb t jobs) ≡ one_if (ltb t jobs) = grind (arith, nat_tests) in
    sym alone ∙ h.once t ∙ one

module _ {S : Type 0} where
  pub draws : (jobs workers slots id : ℕ) (me : Me S PassView) → jobs ≤ MAX_JOBS → workers ≤ MAX_WORKERS → 1 ≤ me.0.share → me.0.spent ≡ false
      → Allows (Stands {S = S} jobs workers) slots id me 0 (λ n. (n + 1) % 2 ^ 64) (Drew (step slots 0 1 0 none) me)
  draws jobs workers slots id me few_jobs few_workers some_share live s h homes at fits =
      let v : PassView = me.0 in
      let word : ℕ = slice_index s.words 0 in
      let low : word ≤ jobs + workers = low_word word jobs workers s.views h.1 in
      let next : (word + 1) % 2 ^ 64 ≡ word + 1 = omega arith in
      let w : PassView = after_draw v word in
      let after : TicketsStand (word + 1) (set s.views id w) jobs workers = drawn_so word jobs workers id s.views v h.1 at some_share live in
      let few : length w.drawn ≤ jobs = low_list (word + 1) jobs workers (set s.views id w) after id w (set_there s.views id v w at) in
      let same : v.jobs ≡ jobs = (h.1.each id v at).told some_share in (
        w,
        keeps,
        tt,
        (
          length-set s.words 0 ((word + 1) % 2 ^ 64) ∙ h.0,
          subst (λ (n : ℕ). TicketsStand n (set s.views id w) jobs workers) (sym (one_word s.words ((word + 1) % 2 ^ 64) h.0 ∙ next)) after,
        ),
        (refl, refl, subst (λ (n : ℕ). length w.drawn ≤ n) (sym same) few),
      )

  pub splits : (jobs workers id part : ℕ) (v : PassView) → 1 ≤ part → part < v.share → v.spent ≡ false → Splits (Stands {S = S} jobs workers) id v (keeps_rest part v) (begins_with part v)
  splits jobs workers id part v some_part less live s h at = (h.0, split_so (slice_index s.words 0) jobs workers id part s.views v h.1 at some_part less live)

  pub joins : (jobs workers id : ℕ) (v : PassView) (other : ℕ) (w : PassView) → 1 ≤ v.share → 1 ≤ w.share → Joins (Stands {S = S} jobs workers) id v other w (joined v w) nobody
  joins jobs workers id v other w my_share their_share s h at apart there = (h.0, join_so (slice_index s.words 0) jobs workers id s.views v other w h.1 at my_share their_share apart there)

  -- the pass that has all shares and is spent has drawn each number below `jobs` once, and no other
  pub closes : (jobs workers id : ℕ) (v : PassView) (ws : List ℕ) (xs : List S) → v.share ≡ workers → 1 ≤ workers → v.spent ≡ true → Final (Seen (Stands {S = S} jobs workers) id v) ws xs → HasEachOnce jobs v.drawn
  closes jobs workers id v ws xs all some_share spent (s, so, same_words, as_many, at_home) = all_drawn_so (slice_index s.words 0) jobs workers id s.views v so.0.1 so.1 some_share all spent

  pub looks : (jobs workers slots id : ℕ) (me : Me S PassView) → workers ≤ MAX_WORKERS → Allows (Stands {S = S} jobs workers) slots id me 0 (λ n. n) (Looked (step slots 0 0 0 none) me)
  looks jobs workers slots id me few_workers s h homes at fits =
      let word : ℕ = slice_index s.words 0 in
      let t : TicketsStand word s.views jobs workers = h.1 in
      let one = total_one (λ u. u.share) s.views id me.0 at in
      let shares = t.shares in (
        me.0,
        keeps,
        tt,
        subst (λ (ws : List ℕ). (length ws ≡ 1) × TicketsStand (slice_index ws 0) (set s.views id me.0) jobs workers) (sym (same_word s.words h.0))
            (subst (λ (vs : List PassView). (length s.words ≡ 1) × TicketsStand word vs jobs workers) (sym (set_again s.views id me.0 at)) h),
        (refl, refl, omega arith),
      )
    where
      same_word : (ws : List ℕ) → length ws ≡ 1 → set ws 0 (slice_index ws 0) ≡ ws
      same_word [] e = refl
      same_word (x ∷ xs) e = refl
