-- The verdict of a certificate and the outcome of its group.
use Rattle.std.proofs.Common.{◌≡◌, ℕ, ◌*◌, ◌≤◌, List, Option, Some, None, inl, inr, length, refl, sym, ap, ◌∙◌}
use Rattle.std.proofs.lemmas.Bool.{cases_lt}
use Rattle.field61.specs.Field.{AreElements}
use Rattle.report_frame.specs.declared.head.Head.{Head}
use Rattle.shamir_limbs.specs.declared.share.Point.{Point}
use Rattle.shamir_limbs.specs.declared.recovery.Recovered.{Recovered}
use Rattle.shamir_limbs.specs.KeyLine.{AreDistinct, xs_of, IsKeyLine}
use Rattle.shamir_limbs.specs.Search.{key_line_of, recovered_from}
use Rattle.shamir_limbs.specs.Numbers.{line_numbers}
use Rattle.shamir_limbs.proofs.LineNumbers.{found_numbers}
use Rattle.shamir_limbs.proofs.LineSearch.{line_of_polynomials}
use Rattle.layer_walk.specs.declared.outcome.Outcome.TheVariants.{Opened, Few, NoLine}
use Rattle.layer_walk.specs.Rows.{Row}
use Rattle.layer_walk.specs.Outcomes.{outcome_of, outcome_at, outcome_with}
use Rattle.layer_walk.proofs.Opening.{outcome_few, outcome_line, outcome_no_line}
use Rattle.cert_audit.specs.declared.cert.Cert.{Cert}
use Rattle.cert_audit.specs.declared.verdict.Verdict.TheVariants.{Yes}
use Rattle.cert_audit.specs.Audit.{polynomial_of, claimed_value, verdict_of}
use Rattle.cert_audit.specs.Certificate.{InRange}
use Rattle.cert_audit.proofs.Sound.{audit_sound, audit_complete}
use Rattle.open_cert.specs.Laws.{SpeaksOf}
use Rattle.open_cert.proofs.Polynomials.{joined_line, joined_length}

-- ---- from the verdict to the outcome

pub audited_groups : (cert : Cert) (value : List ℕ) (agree : ℕ) (rows : List Row) (row : Row) → InRange cert → verdict_of cert ≡ Yes value agree → SpeaksOf cert rows row
    → outcome_at cert.epoch cert.level rows row ≡ Opened value agree
unfolding outcome_at
audited_groups cert value agree rows row range said speaks =
    let opens = audit_sound cert value agree range said in
    (λ i. outcome_of cert.epoch cert.level (speaks.parent i) (speaks.head i) (speaks.points i))
    ∙ outcome_line cert.epoch cert.level cert.parent cert.head cert.points (record { key = opens.key; agree = agree }) (Some value) opens.many opens.line opens.opened

-- ---- from the outcome to the verdict

-- an opened group has enough points
pub many_left : (e l : ℕ) (check : List ℕ) (head : Head) (points : List Point) (value : List ℕ) (agree : ℕ) → outcome_of e l check head points ≡ Opened value agree → head.k ≤ length points
many_left e l check head points value agree is = elim (cases_lt (length points) head.k) [
  | inl few ↦ absurd (let no : Few ≡ Opened value agree = sym (outcome_few e l check head points few) ∙ is in cc)
  | inr many ↦ many
]

-- and a key line
some_line : (e l : ℕ) (check : List ℕ) (head : Head) (points : List Point) (value : List ℕ) (agree : ℕ) → outcome_of e l check head points ≡ Opened value agree
    → (found : Recovered) × (key_line_of points head.k ≡ Some found)
some_line e l check head points value agree is =
    elim (key_line_of points head.k) as (λ o. key_line_of points head.k ≡ o → (found : Recovered) × (key_line_of points head.k ≡ Some found)) [
      | None ↦ λ none. absurd (let no : NoLine ≡ Opened value agree = sym (outcome_no_line e l check head points (many_left e l check head points value agree is) none) ∙ is in cc)
      | Some found ↦ λ there. (found, there)
    ] refl

-- what an opened outcome comes from
given : (m : ℕ) (o : Option (List ℕ)) (value : List ℕ) (agree : ℕ) → outcome_with m o ≡ Opened value agree → (o ≡ Some value) × (m ≡ agree)
given m None value agree is = absurd (cc)
given m (Some v) value agree is =
    let same : v ≡ value = cc in
    let count : m ≡ agree = cc in
    (ap Some same, count)

-- a certificate whose numbers are those of its points' key line, where its group is opened
pub record IsOpenCert (cert : Cert) : Type 0 where
  pub value : List ℕ
  pub agree : ℕ
  pub numbers : cert.numbers ≡ line_numbers cert.points cert.head.k
  pub outcome : outcome_of cert.epoch cert.level cert.parent cert.head cert.points ≡ Opened value agree

-- its polynomials are the key line
open_line : (cert : Cert) → IsOpenCert cert → IsKeyLine (polynomial_of cert 0) (polynomial_of cert 1) (polynomial_of cert 2) cert.points cert.head.k
open_line cert is =
    let some = some_line cert.epoch cert.level cert.parent cert.head cert.points is.value is.agree is.outcome in
    let has = found_numbers cert.points cert.head.k some.0 some.1 in
    joined_line cert.numbers has.q.first has.q.second has.q.third cert.head.k (is.numbers ∙ has.numbers) has.is.first has.is.second has.is.third cert.points has.is.line

-- it has 3k numbers
pub open_length : (cert : Cert) → IsOpenCert cert → length cert.numbers ≡ 3 * cert.head.k
open_length cert is =
    let some = some_line cert.epoch cert.level cert.parent cert.head cert.points is.value is.agree is.outcome in
    let has = found_numbers cert.points cert.head.k some.0 some.1 in
    joined_length cert.numbers has.q.first has.q.second has.q.third cert.head.k (is.numbers ∙ has.numbers) has.is.first has.is.second has.is.third

-- and the verdict on it is Yes
pub open_yes : (cert : Cert) (is : IsOpenCert cert) → AreElements (xs_of cert.points) → AreDistinct (xs_of cert.points) → verdict_of cert ≡ Yes is.value is.agree
open_yes cert is elements distinct =
    let line = open_line cert is in
    let many = many_left cert.epoch cert.level cert.parent cert.head cert.points is.value is.agree is.outcome in
    let found : Recovered = recovered_from (polynomial_of cert 0) (polynomial_of cert 1) (polynomial_of cert 2) cert.points in
    let there : key_line_of cert.points cert.head.k ≡ Some found =
    line_of_polynomials (polynomial_of cert 0) (polynomial_of cert 1) (polynomial_of cert 2) cert.points cert.head.k elements distinct many line in
    let under : outcome_of cert.epoch cert.level cert.parent cert.head cert.points ≡ outcome_with found.agree (claimed_value cert) =
    outcome_line cert.epoch cert.level cert.parent cert.head cert.points found (claimed_value cert) many there refl in
    let from = given found.agree (claimed_value cert) is.value is.agree (sym under ∙ is.outcome) in
    audit_complete cert is.value many line from.0 ∙ ap (Yes is.value) from.1
