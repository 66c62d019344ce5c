-- The spelling of a certificate by its parts.
use Rattle.std.proofs.Common.{◌≡◌, ◌∙◌, ℕ, ◌*◌, List, [], ◌++◌, length, Ok, refl, sym, ap, append_assoc}
use Rattle.std.proofs.lemmas.List.{append-nil}
use Rattle.cert_audit.specs.declared.cert.Cert.{Cert}
use Rattle.byte_format.specs.Format.{spelling}
use Rattle.cert_audit.specs.Certificate.{InRange, certificate, numbers_layout, points_layout, front_entries, point_entries, number_entries, point_bytes, number_bytes, cert_spelling}
use Rattle.cert_audit.specs.Reading.{reading}
use Rattle.byte_format.proofs.Spelt.{spelling-append}
use Rattle.cert_audit.proofs.Entries.{after-front}
use Rattle.cert_audit.proofs.Steps.{spelling-points, spelling-numbers}
use Rattle.cert_audit.proofs.CertLaws.{reading-cert}

pub cert_spelling-parts : (c : Cert) → InRange c → cert_spelling c
    ≡ spelling certificate (front_entries c) ++ point_bytes c.points ++ number_bytes c.numbers
unfolding cert_spelling
cert_spelling-parts c range =
    let numbers : spelling (numbers_layout (3 * c.head.k)) (number_entries c.numbers) ≡ number_bytes c.numbers =
    ap (λ (m : ℕ). spelling (numbers_layout m) (number_entries c.numbers)) (sym range.is_cert.numbers) ∙ spelling-numbers c.numbers in
    spelling-append certificate (points_layout (length c.points) 0 (numbers_layout (3 * c.head.k))) (front_entries c)
    (point_entries c.points ++ number_entries c.numbers)
    (after-front c (λ f. f ≡ points_layout (length c.points) 0 (numbers_layout (3 * c.head.k))) range refl)
    ∙ ap (λ (l : List ℕ). spelling certificate (front_entries c) ++ l)
    (spelling-points c.points 0 (numbers_layout (3 * c.head.k)) (number_entries c.numbers)
    ∙ ap (λ (l : List ℕ). point_bytes c.points ++ l) numbers)
    ∙ sym (append_assoc (spelling certificate (front_entries c)) (point_bytes c.points) (number_bytes c.numbers))

-- it reads back
pub reading-cert_spelling : (c : Cert) (bytes : List ℕ) → InRange c → bytes ≡ cert_spelling c → reading bytes
    ≡ Ok (record { cert = c; used = length bytes })
reading-cert_spelling c bytes range is =
    reading-cert (record { cert = c; used = length bytes }) bytes
    (record { in_range = range; rest = []; spelt = is ∙ sym (append-nil (cert_spelling c)); long = ap length is })
