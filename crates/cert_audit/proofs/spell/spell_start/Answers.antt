use Rattle.std.proofs.Common.{◌≡◌, ◌∙◌, List, ℕ, ◌++◌, ap}
use Rattle.std.specs.Int.{w8, w16, w32, w64, to_be_bytes}
use Rattle.report_frame.specs.Versions.{version_number}
use Rattle.cert_audit.specs.declared.limits.TheConstants.{CERT_MAGIC, CERT_FORMAT}
use Rattle.cert_audit.proofs.Steps.{then_appended}
use Rattle.cert_audit.proofs.spell.spell_start.Goals as goal

pub returns : goal.returns
returns c =
    let cert = c.args.cert.now in
    let start : List ℕ = c.args.bytes.now.items in
    let b1 : List ℕ = c.extend_from_slice.new.self.items in
    let b2 : List ℕ = c.spell_byte.new.bytes.items in
    let b3 : List ℕ = c.spell_byte-2.new.bytes.items in
    let b4 : List ℕ = c.spell_byte-3.new.bytes.items in
    let b5 : List ℕ = c.extend_from_slice-2.new.self.items in
    let b6 : List ℕ = c.extend_from_slice-3.new.self.items in
    let p1 : List ℕ = to_be_bytes w64 CERT_MAGIC in
    let p2 : List ℕ = p1 ++ to_be_bytes w8 CERT_FORMAT in
    let p3 : List ℕ = p2 ++ to_be_bytes w8 (version_number cert.head.version) in
    let p4 : List ℕ = p3 ++ to_be_bytes w8 cert.level in
    let p5 : List ℕ = p4 ++ to_be_bytes w32 cert.epoch in
    let s1 : b1 ≡ start ++ p1 = c.in_ok-extend_from_slice.ensures.items ∙ ap (λ (l : List ℕ). start ++ l) c.to_be_bytes.ensures in
    let s2 : b2 ≡ start ++ p2 = then_appended start p1 (to_be_bytes w8 CERT_FORMAT) b1 b2 s1 c.in_ok-spell_byte.ensures in
    let s3 : b3 ≡ start ++ p3 =
    then_appended start p2 (to_be_bytes w8 (version_number cert.head.version)) b2 b3 s2
    (c.in_ok-spell_byte-2.ensures ∙ ap (λ (n : ℕ). b2 ++ to_be_bytes w8 n) c.number.ensures) in
    let s4 : b4 ≡ start ++ p4 = then_appended start p3 (to_be_bytes w8 cert.level) b3 b4 s3 c.in_ok-spell_byte-3.ensures in
    let s5 : b5 ≡ start ++ p5 =
    then_appended start p4 (to_be_bytes w32 cert.epoch) b4 b5 s4
    (c.in_ok-extend_from_slice-2.ensures.items ∙ ap (λ (l : List ℕ). b4 ++ l) c.to_be_bytes-2.ensures) in
    then_appended start p5 (to_be_bytes w16 cert.head.k) b5 b6 s5
    (c.in_ok-extend_from_slice-3.ensures.items ∙ ap (λ (l : List ℕ). b5 ++ l) c.to_be_bytes-3.ensures)
