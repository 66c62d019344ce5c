-- What an audit says yes to is opened so, and what is opened so has a certificate that it says yes to.
use Rattle.std.proofs.Common.{◌≡◌, ℕ, [], ◌∷◌, ◌+◌, ◌-◌, ◌*◌, ◌<◌, ◌≤◌, Bool, true, false, ltb, List, Option, Some, None, drop, refl, sym, ap, ◌∙◌, length, arith}
use Rattle.std.specs.Prelude.{if◌then◌else◌, not, slice_range, ◌↔◌, IsSome, is_some}
use Rattle.std.proofs.lemmas.Bool.{false≢true, lt-ltb, le-ltb, ltb-false}
use Rattle.std.proofs.lemmas.List.{get_or_past, length-take}
use Rattle.std.proofs.lemmas.List.Elements.{All-take, All-drop, All-map, All-weaker}
use Rattle.field61.specs.Field.{AreElements}
use Rattle.field61.specs.declared.TheConstants.{MODULUS}
use Rattle.shamir_limbs.specs.declared.key.Key.{Key}
use Rattle.shamir_limbs.specs.declared.share.Point.{Point}
use Rattle.shamir_limbs.specs.declared.recovery.Recovered.{Recovered}
use Rattle.shamir_limbs.specs.Coefficients.{values}
use Rattle.shamir_limbs.specs.KeyLine.{xs_of, AreDistinct, HasDegreeBelow, agreement_of_all, IsKeyLine}
use Rattle.shamir_limbs.specs.Limbs.{AreLimbs}
use Rattle.shamir_limbs.specs.Search.{are_limbs}
use Rattle.shamir_limbs.proofs.LineSearch.{are_limbs-true, AreLimbs-are_limbs, line_of_polynomials}
use Rattle.cert_audit.specs.declared.cert.Cert.{Cert}
use Rattle.cert_audit.specs.declared.verdict.Verdict.{Verdict}
use Rattle.cert_audit.specs.declared.verdict.Verdict.TheVariants.{Yes, Few, Key as WrongKey, Short}
use Rattle.cert_audit.specs.Audit.{polynomial_of, claimed_limbs, claimed_key, agree_of, claimed_value, verdict_with, verdict_of}
use Rattle.cert_audit.specs.Certificate.{IsPoint, InRange}
use Rattle.cert_audit.specs.Laws.{Opens}
use Rattle.cert_audit.proofs.Ascending.{increasing-AscendFrom, ascend_apart}

-- ---- the verdict by its four tests

abbrev tested : Bool → Bool → Bool → ℕ → Option (List ℕ) → Verdict
tested few limbs short agree value =
    if few then Few else if not limbs then WrongKey else if short then Short agree else verdict_with agree value

record SaysYes (few limbs short : Bool) (agree : ℕ) (value : Option (List ℕ)) (v : List ℕ) (m : ℕ) : Type 0 where
  many : few ≡ false
  key : limbs ≡ true
  enough : short ≡ false
  agrees : agree ≡ m
  opens : value ≡ Some v

says_yes : (few limbs short : Bool) (agree : ℕ) (value : Option (List ℕ)) (v : List ℕ) (m : ℕ) → tested few limbs short agree value
    ≡ Yes v m → SaysYes few limbs short agree value v m
says_yes true limbs short agree value v m is = absurd cc
says_yes false false short agree value v m is = absurd cc
says_yes false true true agree value v m is = absurd cc
says_yes false true false agree None v m is = absurd cc
says_yes false true false agree (Some w) v m is =
    let same : w ≡ v = cc in
    let count : agree ≡ m = cc in
    record { many = refl; key = refl; enough = refl; agrees = count; opens = ap Some same }

-- ---- what the ranges of a certificate say

pub polynomial-elements : (c : Cert) (j : ℕ) → InRange c → AreElements (polynomial_of c j)
polynomial-elements c j range =
    All-take (λ x. x < MODULUS) ((j + 1) * c.head.k - j * c.head.k) (drop (j * c.head.k) c.numbers)
    (All-drop (λ x. x < MODULUS) (j * c.head.k) c.numbers range.elements)

pub polynomial-below : (c : Cert) (j : ℕ) → HasDegreeBelow (polynomial_of c j) c.head.k
polynomial-below c j i past =
    let n : ℕ = (j + 1) * c.head.k - j * c.head.k in
    get_or_past (polynomial_of c j) i 0 (omega (arith, length-take n (drop (j * c.head.k) c.numbers)))

pub points-elements : (c : Cert) → InRange c → AreElements (xs_of c.points)
points-elements c range = All-map (λ x. x < MODULUS) (λ (p : Point). p.x) c.points
    (All-weaker IsPoint (λ p. p.x < MODULUS) (λ p is. is.x) c.points range.points)

pub points-distinct : (c : Cert) → InRange c → AreDistinct (xs_of c.points)
points-distinct c range i j less within same =
    let apart = ascend_apart 0 (xs_of c.points) i j (increasing-AscendFrom 0 (xs_of c.points) range.is_cert.ascending) less within in
    omega (arith, apart, same)

-- ---- each verdict

pub verdict-few : (c : Cert) → length c.points < c.head.k → verdict_of c ≡ Few
unfolding verdict_of
verdict-few c few = ap (λ (b : Bool). tested b (are_limbs (claimed_limbs c)) (ltb (2 * agree_of c) (length c.points + c.head.k))
    (agree_of c) (claimed_value c)) (lt-ltb (length c.points) c.head.k few)

pub verdict-key : (c : Cert) → c.head.k ≤ length c.points → are_limbs (claimed_limbs c) ≡ false → verdict_of c ≡ WrongKey
unfolding verdict_of
verdict-key c many wrong =
    let short : Bool = ltb (2 * agree_of c) (length c.points + c.head.k) in
    ap (λ (b : Bool). tested b (are_limbs (claimed_limbs c)) short (agree_of c) (claimed_value c)) (le-ltb (length c.points) c.head.k many)
    ∙ ap (λ (b : Bool). tested false b short (agree_of c) (claimed_value c)) wrong

limbs_tested : (c : Cert) → c.head.k ≤ length c.points → AreLimbs (claimed_limbs c)
    → verdict_of c ≡ tested false true (ltb (2 * agree_of c) (length c.points + c.head.k)) (agree_of c) (claimed_value c)
unfolding verdict_of
limbs_tested c many limbs =
    let short : Bool = ltb (2 * agree_of c) (length c.points + c.head.k) in
    ap (λ (b : Bool). tested b (are_limbs (claimed_limbs c)) short (agree_of c) (claimed_value c)) (le-ltb (length c.points) c.head.k many)
    ∙ ap (λ (b : Bool). tested false b short (agree_of c) (claimed_value c)) (AreLimbs-are_limbs (claimed_limbs c) limbs)

pub verdict-short : (c : Cert) → c.head.k ≤ length c.points → AreLimbs (claimed_limbs c) → 2 * agree_of c < length c.points + c.head.k
    → verdict_of c ≡ Short (agree_of c)
verdict-short c many limbs short =
    limbs_tested c many limbs
    ∙ ap (λ (b : Bool). tested false true b (agree_of c) (claimed_value c)) (lt-ltb (2 * agree_of c) (length c.points + c.head.k) short)

pub verdict-value : (c : Cert) → c.head.k ≤ length c.points → AreLimbs (claimed_limbs c) → length c.points + c.head.k ≤ 2 * agree_of c
    → verdict_of c ≡ verdict_with (agree_of c) (claimed_value c)
verdict-value c many limbs enough =
    limbs_tested c many limbs
    ∙ ap (λ (b : Bool). tested false true b (agree_of c) (claimed_value c)) (le-ltb (2 * agree_of c) (length c.points + c.head.k) enough)

-- where no key is found the limbs are no key's
pub limbs_wrong : (o : Option Key) (numbers : List ℕ) → (IsSome o ↔ AreLimbs numbers) → o ≡ None → are_limbs numbers ≡ false
limbs_wrong o numbers found none =
    elim (are_limbs numbers) as (λ b. are_limbs numbers ≡ b → b ≡ false) [
      | true ↦ λ is. absurd (let some : IsSome o = found.1 (are_limbs-true numbers is) in false≢true (sym (ap is_some none) ∙ some))
      | false ↦ λ is. refl
    ] refl

-- ---- the polynomials, cut out of the numbers

polynomial_cut : (c : Cert) (numbers : List ℕ) (j from to : ℕ) → numbers ≡ c.numbers → from ≡ j * c.head.k → to ≡ (j + 1) * c.head.k
    → slice_range numbers from to ≡ polynomial_of c j
polynomial_cut c numbers j from to same start end = λ i. slice_range (same i) (start i) (end i)

pub limbs_cut : (c : Cert) (numbers : List ℕ) → numbers ≡ c.numbers
    → values (slice_range numbers 0 c.head.k ∷ slice_range numbers c.head.k (2 * c.head.k) ∷ slice_range numbers (2 * c.head.k)
    (3 * c.head.k) ∷ []) 0 ≡ claimed_limbs c
limbs_cut c numbers same =
    let first = polynomial_cut c numbers 0 0 c.head.k same (omega arith) (omega arith) in
    let second = polynomial_cut c numbers 1 c.head.k (2 * c.head.k) same (omega arith) (omega arith) in
    let third = polynomial_cut c numbers 2 (2 * c.head.k) (3 * c.head.k) same (omega arith) (omega arith) in
    λ i. values (first i ∷ second i ∷ third i ∷ []) 0

pub agree_cut : (c : Cert) (numbers : List ℕ) (points : List Point) → numbers ≡ c.numbers → points ≡ c.points
    → agreement_of_all (slice_range numbers 0 c.head.k) (slice_range numbers c.head.k (2 * c.head.k))
    (slice_range numbers (2 * c.head.k) (3 * c.head.k)) points ≡ agree_of c
agree_cut c numbers points same same_points =
    let first = polynomial_cut c numbers 0 0 c.head.k same (omega arith) (omega arith) in
    let second = polynomial_cut c numbers 1 c.head.k (2 * c.head.k) same (omega arith) (omega arith) in
    let third = polynomial_cut c numbers 2 (2 * c.head.k) (3 * c.head.k) same (omega arith) (omega arith) in
    λ i. agreement_of_all (first i) (second i) (third i) (same_points i)

-- ---- soundness

-- a certificate with the verdict Yes shows what its group opens to
pub audit_sound : (c : Cert) (value : List ℕ) (agree : ℕ) → InRange c → verdict_of c ≡ Yes value agree → Opens c value agree
unfolding verdict_of
audit_sound c value agree range said =
    let k : ℕ = c.head.k in
    let n : ℕ = length c.points in
    let yes = says_yes (ltb n k) (are_limbs (claimed_limbs c)) (ltb (2 * agree_of c) (n + k)) (agree_of c)
    (claimed_value c) value agree said in
    let many : k ≤ n = ltb-false n k yes.many in
    let line : IsKeyLine (polynomial_of c 0) (polynomial_of c 1) (polynomial_of c 2) c.points k = record {
      elements = (polynomial-elements c 0 range, polynomial-elements c 1 range, polynomial-elements c 2 range);
      below = (polynomial-below c 0, polynomial-below c 1, polynomial-below c 2);
      limbs = are_limbs-true (claimed_limbs c) yes.key;
      agrees = ltb-false (2 * agree_of c) (n + k) yes.enough;
    } in
    record {
      many = many;
      key = claimed_key c;
      line = line_of_polynomials (polynomial_of c 0) (polynomial_of c 1) (polynomial_of c 2) c.points k (points-elements c range)
          (points-distinct c range) many line
          ∙ ap (λ (m : ℕ). let r : Recovered = record { key = claimed_key c; agree = m } in Some r) yes.agrees;
      opened = yes.opens;
    }

-- ---- completeness

-- polynomials on which enough of the points lie, and whose key opens the head, have the verdict Yes
pub audit_complete : (c : Cert) (value : List ℕ) → c.head.k ≤ length c.points
    → IsKeyLine (polynomial_of c 0) (polynomial_of c 1) (polynomial_of c 2) c.points c.head.k
    → claimed_value c ≡ Some value → verdict_of c ≡ Yes value (agree_of c)
audit_complete c value many line opens = verdict-value c many line.limbs line.agrees ∙ ap (verdict_with (agree_of c)) opens
