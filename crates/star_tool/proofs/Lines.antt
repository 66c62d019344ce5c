-- Writing the lines of records one after the other.
use Rattle.std.proofs.Common.{◌≡◌, ℕ, ◌+◌, Bool, true, false, cond, List, [], ◌∷◌, ◌++◌, length, map, refl, sym, ap, ◌∙◌, append_assoc, arith, zero-add}
use Rattle.std.specs.Prelude.{count_by, not}
use Rattle.std.proofs.lemmas.List.{append-nil}
use Rattle.std.proofs.lemmas.List.Sums.{sum_by-append}
use mir.Val.{bool_byte}
use Rattle.star_io.specs.declared.record.Record.{Record}
use Rattle.star_tool.specs.CheckText.{Finding, HasLines, finding_of, line, lines_from, count_line, is_good, WritesLine, check_text_of}

lines_from-append : (i : ℕ) (fs : List Finding) (f : Finding) → lines_from i (fs ++ f ∷ []) ≡ lines_from i fs ++ line (i + length fs) f
lines_from-append i [] f = append-nil (line i f) ∙ ap (λ (n : ℕ). line n f) (omega arith)
lines_from-append i (g ∷ fs) f =
    ap (λ (l : List ℕ). line i g ++ l) (lines_from-append (i + 1) fs f ∙ ap (λ (n : ℕ). lines_from (i + 1) fs ++ line n f) (omega arith))
    ∙ sym (append_assoc (line i g) (lines_from (i + 1) fs) (line (i + length (g ∷ fs)) f))

count_by-append : (p : Finding → Bool) (fs : List Finding) (f : Finding) → count_by p (fs ++ f ∷ []) ≡ count_by p fs + cond (p f) 1 0
count_by-append p fs f = sum_by-append (λ g. cond (p g) 1 0) fs (f ∷ []) ∙ ap (λ (n : ℕ). count_by p fs + n) (zero-add (cond (p f) 1 0))

count_by-cons : (p : Finding → Bool) (f : Finding) (fs : List Finding) → count_by p (f ∷ fs) ≡ cond (p f) 1 0 + count_by p fs
count_by-cons p f fs = sum_by-append (λ g. cond (p g) 1 0) (f ∷ []) fs ∙ ap (λ (n : ℕ). n + count_by p fs) (zero-add (cond (p f) 1 0))

one_of_both : (b : Bool) → cond (not b) 1 0 + cond b 1 0 ≡ 1
one_of_both true = refl
one_of_both false = refl

-- what is good is not refused
pub one_counted : (b : Bool) → bool_byte b + bool_byte (not b) ≡ 1
one_counted true = refl
one_counted false = refl

pub bool_byte-cond : (b : Bool) → bool_byte b ≡ cond b 1 0
bool_byte-cond true = refl
bool_byte-cond false = refl

-- a finding is good or it is not
both_counts : (fs : List Finding) → count_by (λ f. not (is_good f)) fs + count_by is_good fs ≡ length fs
both_counts [] = refl
both_counts (f ∷ fs) =
    omega (arith, both_counts fs, count_by-cons (λ g. not (is_good g)) f fs, count_by-cons is_good f fs, one_of_both (is_good f))

-- there is a line for each finding
all_counted : (fs : List Finding) (good refused : ℕ) (text : List ℕ) → HasLines fs good refused text → good + refused ≡ length fs
all_counted fs good refused text has = omega (arith, has.good_are, has.refused_are, both_counts fs)

-- one line more
pub one_written : (fs : List Finding) (f : Finding) (n good refused : ℕ) (b : Bool) (text new : List ℕ)
    → HasLines fs good refused text → n ≡ good + refused → WritesLine n f b text new
    → HasLines (fs ++ f ∷ []) (good + bool_byte b) (refused + bool_byte (not b)) new
one_written fs f n good refused b text new has number wrote =
    let place : n ≡ 0 + length fs = omega (arith, number, all_counted fs good refused text has) in
    record {
      lines = wrote.1 ∙ ap (λ (t : List ℕ). t ++ line n f) has.lines ∙ ap (λ (k : ℕ). lines_from 0 fs ++ line k f) place
          ∙ sym (lines_from-append 0 fs f);
      good_are = ap (λ (k : ℕ). k + bool_byte b) has.good_are
          ∙ ap (λ (k : ℕ). count_by is_good fs + k) (bool_byte-cond b ∙ ap (λ (c : Bool). cond c 1 0) wrote.0)
          ∙ sym (count_by-append is_good fs f);
      refused_are = ap (λ (k : ℕ). k + bool_byte (not b)) has.refused_are
          ∙ ap (λ (k : ℕ). count_by (λ g. not (is_good g)) fs + k)
          (bool_byte-cond (not b) ∙ ap (λ (c : Bool). cond (not c) 1 0) wrote.0)
          ∙ sym (count_by-append (λ g. not (is_good g)) fs f);
    }

-- the lines of all records, and the one that counts them
pub all_written : (rs : List Record) (good refused : ℕ) (text new : List ℕ) → HasLines (map finding_of rs) good refused text
    → new ≡ text ++ count_line (good + refused) good refused → new ≡ check_text_of rs
all_written rs good refused text new has is =
    let fs = map finding_of rs in
    is ∙ ap (λ (t : List ℕ). t ++ count_line (good + refused) good refused) has.lines
    ∙ ap (λ (n : ℕ). lines_from 0 fs ++ count_line n good refused) (all_counted fs good refused text has)
    ∙ ap (λ (n : ℕ). lines_from 0 fs ++ count_line (length fs) n refused) has.good_are
    ∙ ap (λ (n : ℕ). lines_from 0 fs ++ count_line (length fs) (count_by is_good fs) n) has.refused_are
