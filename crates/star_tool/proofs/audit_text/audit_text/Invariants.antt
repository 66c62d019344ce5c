use Rattle.std.proofs.Common.{◌-◌, length, string_bytes}
use Rattle.star_tool.proofs.Certificates.{IsAt}
use Rattle.star_tool.proofs.audit_text.audit_text.Given as goal

abbrev pub invariant-loop-at : goal.invariant-loop-at
invariant-loop-at l = IsAt l.bytes l.at l.certs l.yes (string_bytes l.text)

abbrev pub decreases-loop-at : goal.decreases-loop-at
decreases-loop-at l = length l.bytes - l.at
