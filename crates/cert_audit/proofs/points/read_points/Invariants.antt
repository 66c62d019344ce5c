use Rattle.std.proofs.Common.{◌≡◌, ◌+◌, ◌-◌, ◌*◌, ◌≤◌, List, ◌++◌, length, drop, vec_len, vec_capacity}
use Rattle.std.specs.Prelude.{All}
use Rattle.byte_format.specs.Format.{Format, Entry}
use Rattle.cert_audit.specs.declared.kind.CertKind.{CertKind}
use Rattle.cert_audit.specs.Certificate.{points_layout, point_entries}
use Rattle.byte_format.specs.Reading.{read}
use Rattle.cert_audit.specs.Reading.{certs}
use Rattle.cert_audit.proofs.points.read_points.Given as goal

abbrev pub invariant-loop-i : goal.invariant-loop-i
invariant-loop-i l = record {
  walk : (next : Format CertKind) (before : List Entry) → read certs (points_layout l.n 0 next) l.at before l.bytes
      ≡ read certs (points_layout (l.n - l.i) l.above next) (l.at + 32 * l.i) (before ++ point_entries l.points.items) l.rest;
  many : vec_len l.points ≡ l.i;
  capacity : vec_capacity l.points ≡ vec_capacity l.initial.points;
  three : All (λ p. length p.y ≡ 3) l.points.items;
  rest : l.rest ≡ drop (32 * l.i) l.bytes;
  long : 32 * l.i ≤ length l.bytes;
}
