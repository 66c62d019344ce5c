-- The command `certify`.
use Rattle.std.proofs.Common.{◌≡◌, ◌∙◌, ℕ, List, [], Some, ap}
use Rattle.std.specs.List.{flat_map}
use Rattle.star_io.specs.declared.record.Record.{Record}
use Rattle.star_io.specs.declared.record.TheConstants.{MAX_RECORDS}
use Rattle.star_io.specs.RecordLists.{stream_records, rest_after}
use Rattle.cert_audit.specs.declared.cert.Cert.{Cert}
use Rattle.cert_audit.specs.Certificate.{cert_spelling}
use Rattle.open_cert.specs.Certs.{certs_list}
use Rattle.command_words.specs.declared.command.Command.TheVariants.{Certify}
use Rattle.star_tool.specs.Run.{IsOutput}
use Rattle.star_tool.specs.Seen.{Seen}
use Rattle.star_tool.proofs.StreamLemmas.{stream_good}

-- the bytes of the certificates of all records are the output
pub certify_made : (epoch : ℕ) (input coins : Seen) (records view : List Record) (certs seen : List Cert) (bytes : List ℕ) → ((bytes : List ℕ) → input.left ≡ Some bytes
    → (records ≡ stream_records bytes) × (rest_after MAX_RECORDS bytes ≡ []) × (input.left_after ≡ Some [])) → view ≡ records → certs ≡ certs_list epoch view → seen ≡ certs
    → bytes ≡ flat_map cert_spelling seen → IsOutput (Certify epoch) input coins bytes
certify_made epoch input coins records view certs seen bytes all same are shown is = λ told here.
    let read = all told here in
    (stream_good told read.1, read.2, ([], tt, is ∙ ap (flat_map cert_spelling) (shown ∙ are ∙ ap (certs_list epoch) (same ∙ read.0))))
