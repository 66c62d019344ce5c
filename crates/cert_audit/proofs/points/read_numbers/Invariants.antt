use Rattle.std.proofs.Common.{◌≡◌, ◌+◌, ◌-◌, ◌*◌, List, ◌++◌, vec_len, vec_capacity}
use Rattle.byte_format.specs.Format.{Entry}
use Rattle.cert_audit.specs.Certificate.{numbers_layout, number_entries}
use Rattle.byte_format.specs.Reading.{read}
use Rattle.cert_audit.specs.Reading.{certs}
use Rattle.cert_audit.proofs.points.read_numbers.Given as goal

abbrev pub invariant-loop-i : goal.invariant-loop-i
invariant-loop-i l = record {
  walk : (before : List Entry) → read certs (numbers_layout l.n) l.at before l.bytes
      ≡ read certs (numbers_layout (l.n - l.i)) (l.at + 8 * l.i) (before ++ number_entries l.numbers.items) l.rest;
  many : vec_len l.numbers ≡ l.i;
  capacity : vec_capacity l.numbers ≡ vec_capacity l.initial.numbers;
}
