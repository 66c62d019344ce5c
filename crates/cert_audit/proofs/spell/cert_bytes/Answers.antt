use Rattle.std.proofs.Common.{◌∙◌, List, ℕ, ◌++◌, sym, ap}
use Rattle.shamir_limbs.specs.declared.share.Point.{Point}
use Rattle.cert_audit.specs.Certificate.{point_bytes, number_bytes}
use Rattle.cert_audit.proofs.Spelt.{cert_spelling-parts, reading-cert_spelling}
use Rattle.cert_audit.proofs.spell.cert_bytes.Goals as goal

pub returns-clause-spelt : goal.returns-clause-spelt
returns-clause-spelt c =
    let cert = c.args.cert.now in
    c.in_ok-spell_numbers.ensures
    ∙ ap (λ (ns : List ℕ). c.spell_points.new.bytes.items ++ number_bytes ns) c.as_slice-2.ensures
    ∙ ap (λ (l : List ℕ). l ++ number_bytes cert.numbers) (c.in_ok-spell_points.ensures
    ∙ ap (λ (ps : List Point). c.in_ok-bytes.bytes.items ++ point_bytes ps) c.as_slice.ensures
    ∙ ap (λ (l : List ℕ). l ++ point_bytes cert.points) c.in_ok-bytes.ensures)
    ∙ sym (cert_spelling-parts cert c.know_cert.ensures)

pub returns-clause-read : goal.returns-clause-read
returns-clause-read c = reading-cert_spelling c.args.cert.now c.spell_numbers.new.bytes.items c.know_cert.ensures (returns-clause-spelt c)
