-- The command `certify`.
use Rattle.std.specs.Prelude.{ℕ, List}
use Rattle.std.specs.List.{flat_map}
use Rattle.star_io.specs.RecordLists.{stream_records}
use Rattle.cert_audit.specs.Certificate.{cert_spelling}
use Rattle.open_cert.specs.Certs.{certs_list}

-- the certificates of what the records open for the epoch, one after the other
abbrev pub certify_output : (epoch : ℕ) → (bytes : List ℕ) → List ℕ
certify_output epoch bytes = flat_map cert_spelling (certs_list epoch (stream_records bytes))
