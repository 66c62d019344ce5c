-- What the law of audits says.
use Rattle.std.specs.Prelude.{◌≡◌, List}
use Rattle.report_frame.specs.View.{head_of}
use Rattle.layer_walk.specs.Rows.{Row, points_left}
use Rattle.cert_audit.specs.declared.cert.Cert.{Cert}

-- the certificate speaks of the row's group: it has the group's parent check, head and points left
pub record SpeaksOf (cert : Cert) (rows : List Row) (row : Row) : Type 0 where
  pub parent : row.parent.check ≡ cert.parent
  pub head : head_of row.frame ≡ cert.head
  pub points : points_left rows row ≡ cert.points
