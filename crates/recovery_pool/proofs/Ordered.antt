-- Entries of two workers, one behind the other, and the places that entries fill.
use Rattle.std.proofs.Common.{◌≡◌, ◌==◌, ltb, ℕ, zero, suc, ◌+◌, ◌<◌, ◌≤◌, ◌≢◌, true, false, List, [], ◌∷◌, ◌++◌, length, get_or, set, Option, Some, None, sym, refl, ap, ◌∙◌, subst, ⊎_elim, arith, replicate, eq-eqb}
use Rattle.std.specs.Prelude.{All}
use Rattle.std.proofs.lemmas.Bool.Decides.{nat_tests}
use Rattle.std.proofs.lemmas.Bool.{cases_lt}
use Rattle.std.proofs.lemmas.List.{ext_get_or, map-append, get_or_append_left, get_or_push, get_or-set_same, get_or-set_other, length-replicate, length_push}
use Rattle.std.proofs.lemmas.List.Elements.{All-append}
use Rattle.std.proofs.Math.ListN.{length-set}
use mathlib.Core.Logic.{dite}
use native.Mathlib.Decide.{ℕ_discrete}
use Rattle.recovery_pool.specs.declared.entry.Entry.{Entry}
use Rattle.recovery_pool.specs.Standing.{one_if, times}
use Rattle.recovery_pool.specs.Answers.{AnswersEach, AnswersDrawn, HaveOneAnswer, numbers}
use Rattle.recovery_pool.proofs.Sums.{times-append}

module _ {X : Type 0} where
  abbrev pub entry : ℕ → X → Entry X
  entry n x = record { number = n; out = x }

  abbrev empty : Option X
  empty = None

  All_one : (P : Entry X → Type 0) (e : Entry X) → P e → All P (e ∷ [])
  All_one P e p zero d h = p
  All_one P e p (suc k) d h = absurd (omega arith)

  All_front : (P : Entry X → Type 0) (es : List (Entry X)) (e : Entry X) → All P (es ++ e ∷ []) → All P es
  All_front P es e h k d l = subst P (get_or_append_left es (e ∷ []) d k l) (h k d (omega (arith, length_push es e)))

  All_last : (P : Entry X → Type 0) (es : List (Entry X)) (e : Entry X) → All P (es ++ e ∷ []) → P e
  All_last P es e h = subst P (get_or_push es e e (length es) refl) (h (length es) e (omega (arith, length_push es e)))

  module _ (answers : ℕ → X → Type 0) where
    pub none_yet : AnswersDrawn answers [] []
    none_yet = record { same = refl; each = λ k d h. absurd (omega arith) }

    pub both_lists : (a b : List ℕ) (xs ys zs : List (Entry X)) → zs ≡ xs ++ ys → AnswersDrawn answers a xs → AnswersDrawn answers b ys → AnswersDrawn answers (a ++ b) zs
    both_lists a b xs ys zs is p q =
        subst (AnswersDrawn answers (a ++ b)) (sym is)
        record {
          same = map-append (λ (e : Entry X). e.number) xs ys ∙ (ap (λ l. l ++ numbers ys) p.same ∙ ap (λ l. a ++ l) q.same);
          each = All-append (λ e. answers e.number e.out) xs ys p.each q.each;
        }

    pub one_entry : (a : List ℕ) (xs ys : List (Entry X)) (n : ℕ) (x : X) → ys ≡ xs ++ entry n x ∷ [] → AnswersDrawn answers a xs → answers n x → AnswersDrawn answers (a ++ n ∷ []) ys
    one_entry a xs ys n x is p h = both_lists a (n ∷ []) xs (entry n x ∷ []) ys is p record { same = refl; each = All_one (λ e. answers e.number e.out) (entry n x) h }

    pub no_jobs : AnswersEach answers 0 []
    no_jobs = record { len = refl; each = λ i d h. absurd (omega arith) }

    pub one_more : (count : ℕ) (xs ys : List X) (x : X) → ys ≡ xs ++ x ∷ [] → AnswersEach answers count xs → answers count x → AnswersEach answers (count + 1) ys
    one_more count xs ys x is a h =
        record {
          len = omega (arith, ap length is, length_push xs x, a.len);
          each = λ i d l. subst (λ (zs : List X). answers i (get_or zs i d)) (sym is) (⊎_elim
              (λ (p : i < count). subst (answers i) (sym (get_or_append_left xs (x ∷ []) d i (omega (arith, a.len)))) (a.each i d p))
              (λ (p : count ≤ i). let last : i ≡ count = omega arith in subst (answers i) (sym (get_or_push xs x d i (omega (arith, a.len)))) (subst (λ j. answers j x) (sym last) h))
              (cases_lt i count));
        }

    -- two lists that answer the same jobs are equal where each job has one answer
    pub same_answers : (count : ℕ) (xs ys : List X) → HaveOneAnswer answers count → AnswersEach answers count xs → AnswersEach answers count ys → xs ≡ ys
    same_answers count [] [] one a b = refl
    same_answers count [] (y ∷ ys) one a b = absurd (omega (arith, a.len, b.len))
    same_answers count (x ∷ xs) ys one a b =
        ext_get_or x (x ∷ xs) ys (a.len ∙ sym b.len) (λ i l. let low : i < count = omega (arith, a.len) in one i (get_or (x ∷ xs) i x) (get_or ys i x) low (a.each i x low) (b.each i x low))

    -- some entries are in their places, and the rest has those that are missing
    pub record Placing (count : ℕ) (places : List (Option X)) (rest : List (Entry X)) : Type 0 where
      pub len : length places ≡ count
      pub filled : (i : ℕ) (x : X) → get_or places i None ≡ Some x → answers i x
      pub missing : (i : ℕ) → i < count → get_or places i None ≡ None → 1 ≤ times i (numbers rest)
      pub within : (i : ℕ) → 1 ≤ times i (numbers rest) → i < count
      pub answered : All (λ e. answers e.number e.out) rest

    all_empty : (n i : ℕ) → get_or (replicate n None) i None ≡ empty
    all_empty zero i = refl
    all_empty (suc n) zero = refl
    all_empty (suc n) (suc i) = all_empty n i

    pub begins : (count : ℕ) (places : List (Option X)) (es : List (Entry X)) → places ≡ replicate count None → ((t : ℕ) → times t (numbers es) ≡ one_if (ltb t count)) → All (λ e. answers e.number e.out) es → Placing count places es
    begins count places es is once each =
        subst (λ (l : List (Option X)). Placing count l es) (sym is)
        record {
          len = length-replicate count None;
          filled = λ i x e. let none : get_or (replicate count None) i None ≡ empty = all_empty count i in let no : None ≡ Some x = sym none ∙ e in cc;
          missing = λ i h e. let o = once i in let t : one_if (ltb i count) ≡ one_if true = grind (arith, nat_tests) in omega (arith, o, t);
          within = λ i h. ⊎_elim (λ (p : i < count). p) (λ (p : count ≤ i). let o = once i in let t : one_if (ltb i count) ≡ one_if false = grind (arith, nat_tests) in absurd (omega (arith, o, t))) (cases_lt i count);
          answered = each;
        }

    times_last : (i n : ℕ) (x : X) (rest : List (Entry X)) → times i (numbers (rest ++ entry n x ∷ [])) ≡ times i (numbers rest) + one_if (n == i)
    times_last i n x rest = ap (times i) (map-append (λ (e : Entry X). e.number) rest (entry n x ∷ [])) ∙ (times-append i (numbers rest) (n ∷ []) ∙ (omega arith))

    one_here : (n : ℕ) → one_if (n == n) ≡ one_if true
    one_here n = ap one_if (eq-eqb n n refl)

    pub in_place : (count : ℕ) (places : List (Option X)) (all rest : List (Entry X)) (n : ℕ) (x : X) → all ≡ rest ++ entry n x ∷ [] → Placing count places all → n < length places
    in_place count places all rest n x is p =
        let q : Placing count places (rest ++ entry n x ∷ []) = subst (Placing count places) is p in
        let low : n < count = q.within n (omega (arith, times_last n n x rest, one_here n)) in
        omega (arith, q.len)

    pub places_one : (count : ℕ) (places : List (Option X)) (all rest : List (Entry X)) (n : ℕ) (x : X) → all ≡ rest ++ entry n x ∷ [] → Placing count places all → Placing count (set places n (Some x)) rest
    places_one count places all rest n x is p =
        let q : Placing count places (rest ++ entry n x ∷ []) = subst (Placing count places) is p in
        let low : n < length places = in_place count places all rest n x is p in
        let now : List (Option X) = set places n (Some x) in
        record {
          len = length-set places n (Some x) ∙ q.len;
          filled = λ i y e. dite (ℕ_discrete i n)
              (λ (same : i ≡ n). let f : get_or now i None ≡ Some x = ap (λ j. get_or now j None) same ∙ get_or-set_same places n (Some x) None low in
              let g : Some x ≡ Some y = sym f ∙ e in let h : x ≡ y = cc in subst (answers i) h (subst (λ j. answers j x) (sym same) (All_last (λ e. answers e.number e.out) rest (entry n x) q.answered)))
              (λ (other : i ≢ n). q.filled i y (sym (get_or-set_other places n i (Some x) None other) ∙ e));
          missing = λ i h e. dite (ℕ_discrete i n)
              (λ (same : i ≡ n). let f : get_or now i None ≡ Some x = ap (λ j. get_or now j None) same ∙ get_or-set_same places n (Some x) None low in let g : Some x ≡ None = sym f ∙ e in cc)
              (λ (other : i ≢ n). let m = q.missing i h (sym (get_or-set_other places n i (Some x) None other) ∙ e) in let z : one_if (n == i) ≡ one_if false = grind (arith, nat_tests) in omega (arith, m, times_last i n x rest, z));
          within = λ i h. q.within i (omega (arith, times_last i n x rest));
          answered = All_front (λ e. answers e.number e.out) rest (entry n x) q.answered;
        }

    -- the places from k on are full
    pub record Taking (count k : ℕ) (places : List (Option X)) : Type 0 where
      pub len : length places ≡ count
      pub full : (i : ℕ) → k ≤ i → i < count → get_or places i None ≢ None
      pub filled : (i : ℕ) (x : X) → get_or places i None ≡ Some x → answers i x

    pub all_placed : (count : ℕ) (places : List (Option X)) (rest : List (Entry X)) → rest ≡ [] → Placing count places rest → Taking count 0 places
    all_placed count places rest is p =
        record { len = p.len; full = λ i a h e. let m = p.missing i h e in let z : times i (numbers rest) ≡ 0 = ap (λ l. times i (numbers l)) is in absurd (omega arith); filled = p.filled }

    pub takes_one : (count k : ℕ) (places : List (Option X)) → Taking count k places → Taking count (k + 1) (set places k None)
    takes_one count k places p =
        let now : List (Option X) = set places k None in
        record {
          len = length-set places k None ∙ p.len;
          full = λ i a h e. let other : i ≢ k = omega arith in p.full i (omega arith) h (sym (get_or-set_other places k i None None other) ∙ e);
          filled = λ i x e. dite (ℕ_discrete i k)
              (λ (same : i ≡ k). ⊎_elim
              (λ (l : k < length places). let f : get_or now i None ≡ None = ap (λ j. get_or now j None) same ∙ get_or-set_same places k None None l in let g : None ≡ Some x = sym f ∙ e in cc)
              (λ (l : length places ≤ k). p.filled i x (sym (unset places k l i) ∙ e))
              (cases_lt k (length places)))
              (λ (other : i ≢ k). p.filled i x (sym (get_or-set_other places k i None None other) ∙ e));
        }
      where
        unset : (l : List (Option X)) (k : ℕ) → length l ≤ k → (i : ℕ) → get_or (set l k None) i None ≡ get_or l i None
        unset [] k h i = refl
        unset (y ∷ ys) zero h i = absurd (omega arith)
        unset (y ∷ ys) (suc k) h zero = refl
        unset (y ∷ ys) (suc k) h (suc i) = unset ys k (omega arith) i

    same_default : (l : List (Option X)) (k : ℕ) (d : Option X) → k < length l → get_or l k d ≡ get_or l k None
    same_default [] k d h = absurd (omega arith)
    same_default (y ∷ ys) zero d h = refl
    same_default (y ∷ ys) (suc k) d h = same_default ys k d (omega arith)

    pub taken_here : (count k : ℕ) (places : List (Option X)) (found : Option X) (x : X) → Taking count k places → k < count → found ≡ get_or places k found → found ≡ Some x → answers k x
    taken_here count k places found x p h at is =
        let low : k < length places = omega (arith, p.len) in
        p.filled k x (sym (same_default places k found low) ∙ (sym at ∙ is))

    pub takes_as : (count k : ℕ) (places : List (Option X)) (after : Option X) → after ≡ None → Taking count k places → Taking count (k + 1) (set places k after)
    takes_as count k places after is p = subst (λ (o : Option X). Taking count (k + 1) (set places k o)) (sym is) (takes_one count k places p)
