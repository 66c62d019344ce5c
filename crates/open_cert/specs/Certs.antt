-- The certificates of a list of records for an epoch: one for each group that the reveal opens.
use Rattle.std.specs.Prelude.{◌≡◌, ℕ, List, map, Option, Some}
use Rattle.std.specs.List.{Contains, filter_map}
use Rattle.std.specs.Option.{option_map}
use Rattle.std.specs.declared.cmp.Ordering.{Ordering}
use Rattle.star_io.specs.declared.record.Record.{Record}
use Rattle.report_frame.specs.View.{head_of}
use Rattle.shamir_limbs.specs.Numbers.{line_numbers}
use Rattle.star_lists.specs.Ascending.{in_order}
use Rattle.star_lists.specs.Numbered.{joined_below}
use Rattle.layer_walk.specs.declared.outcome.Outcome.{Outcome}
use Rattle.layer_walk.specs.declared.outcome.Outcome.TheVariants.{Opened, Few, NoLine, BadValue}
use Rattle.layer_walk.specs.declared.revealed.OpenedGroup.{OpenedGroup}
use Rattle.layer_walk.specs.Rows.{Row, first_members, points_left}
use Rattle.layer_walk.specs.Outcomes.{outcome_at}
use Rattle.layer_walk.specs.Levels.{opened_row, rows_from}
use Rattle.layer_walk.specs.Reveal.{by_path, level_count, outer_rows}
use Rattle.cert_audit.specs.declared.cert.Cert.{Cert}
use Rattle.cert_audit.specs.declared.verdict.Verdict.{Verdict}
use Rattle.cert_audit.specs.declared.verdict.Verdict.TheVariants.{Yes}
use Rattle.cert_audit.specs.Audit.{verdict_of}
use Rattle.open_cert.specs.declared.certified.Certified.{Certified}

-- the certificate of the row's group, where it is opened: its place, head and points left, and the polynomials of its key
abbrev pub row_cert : ℕ → ℕ → List Row → Row → Cert
row_cert e l rows row =
    record {
      level = l;
      epoch = e;
      parent = row.parent.check;
      head = head_of row.frame;
      points = points_left rows row;
      numbers = line_numbers (points_left rows row) row.frame.k;
    }

abbrev pub with_cert : Cert → OpenedGroup → Certified
with_cert cert told = record { told = told; cert = cert }

-- the row's group as it is told, with its certificate, where it is opened
abbrev pub certified_row : ℕ → ℕ → List Row → Row → Option Certified
certified_row e l rows row = option_map (with_cert (row_cert e l rows row)) (opened_row e l rows row)

-- the opened groups of a level, in the order of their first members
unfoldable pub certified_at : ℕ → ℕ → List Row → List Certified
certified_at e l rows = filter_map (certified_row e l rows) (first_members rows)

-- the opened groups of the levels below n
unfoldable pub certified_told : ℕ → List Row → ℕ → List Certified
certified_told e rows n = joined_below (λ l. certified_at e l (rows_from e rows l)) n

-- by the path of the group
abbrev pub by_told_path : Certified → Certified → Ordering
by_told_path a b = by_path a.told b.told

-- the opened groups of the records for the epoch, with their certificates, in the order of the reveal
unfoldable pub certified_of : ℕ → List Record → List Certified
certified_of e records = in_order by_told_path (certified_told e (outer_rows e records) level_count)

-- the certificates alone
abbrev pub certs_list : ℕ → List Record → List Cert
certs_list e records = map (λ (c : Certified). c.cert) (certified_of e records)

-- ---- what they show

-- the group is opened, and the verdict is Yes with its value and with as many points that agree
abbrev pub SaysYes : Outcome → Verdict → Type 0
SaysYes (Opened value agree) verdict = verdict ≡ Yes value agree
SaysYes Few verdict = ⊥
SaysYes NoLine verdict = ⊥
SaysYes BadValue verdict = ⊥

-- The certificate is that of an opened group that is told so, where these are the rows of level 0: the certificate's level has a
-- row whose group is told so, with the certificate's epoch, parent check, head and points left, and the verdict is Yes with that
-- group's value and agreement.
pub record IsCertOf (e : ℕ) (rows : List Row) (group : OpenedGroup) (cert : Cert) : Type 0 where
  pub row : Row
  pub first : Contains (first_members (rows_from e rows cert.level)) row
  pub told : opened_row e cert.level (rows_from e rows cert.level) row ≡ Some group
  pub epoch : cert.epoch ≡ e
  pub parent : cert.parent ≡ row.parent.check
  pub head : cert.head ≡ head_of row.frame
  pub points : cert.points ≡ points_left (rows_from e rows cert.level) row
  pub verdict : SaysYes (outcome_at e cert.level (rows_from e rows cert.level) row) (verdict_of cert)
