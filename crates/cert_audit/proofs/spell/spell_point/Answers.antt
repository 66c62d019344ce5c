use Rattle.std.proofs.Common.{◌≡◌, ◌∙◌, ℕ, List, ◌++◌, slice_index, refl, sym, ap, arith}
use Rattle.std.specs.Int.{w64, to_be_bytes}
use Rattle.std.proofs.lemmas.List.Elements.{at_read}
use Rattle.cert_audit.proofs.Steps.{then_appended}
use Rattle.cert_audit.proofs.spell.spell_point.Goals as goal

pub returns : goal.returns
returns c =
    let point = c.args.point.now in
    let y : List ℕ = point.y in
    let three = c.know_point.ensures.three in
    let y0 : c.index-point-0.result ≡ slice_index y 0 =
    at_read y (λ (v : ℕ). c.index-point-0.result ≡ v) 0 c.index-point-0.result (omega arith) c.index-point-0.is refl 0 in
    let y1 : c.index-point-1.result ≡ slice_index y 1 =
    at_read y (λ (v : ℕ). c.index-point-1.result ≡ v) 1 c.index-point-1.result (omega arith) c.index-point-1.is refl 0 in
    let y2 : c.index-point-2.result ≡ slice_index y 2 =
    at_read y (λ (v : ℕ). c.index-point-2.result ≡ v) 2 c.index-point-2.result (omega arith) c.index-point-2.is refl 0 in
    let start : List ℕ = c.args.bytes.now.items in
    let b1 : List ℕ = c.spell_number.new.bytes.items in
    let b2 : List ℕ = c.spell_number-2.new.bytes.items in
    let b3 : List ℕ = c.spell_number-3.new.bytes.items in
    let b4 : List ℕ = c.spell_number-4.new.bytes.items in
    let p1 : List ℕ = to_be_bytes w64 point.x in
    let p2 : List ℕ = p1 ++ to_be_bytes w64 (slice_index y 0) in
    let p3 : List ℕ = p2 ++ to_be_bytes w64 (slice_index y 1) in
    let h2 = c.in_ok-spell_number-2.ensures in
    let h3 = c.in_ok-spell_number-3.ensures in
    let h4 = c.in_ok-spell_number-4.ensures in
    let e2 : b2 ≡ b1 ++ to_be_bytes w64 (slice_index y 0) = h2 ∙ ap (λ (n : ℕ). b1 ++ to_be_bytes w64 n) (sym c.index-point-0.is ∙ y0) in
    let e3 : b3 ≡ b2 ++ to_be_bytes w64 (slice_index y 1) = h3 ∙ ap (λ (n : ℕ). b2 ++ to_be_bytes w64 n) (sym c.index-point-1.is ∙ y1) in
    let e4 : b4 ≡ b3 ++ to_be_bytes w64 (slice_index y 2) = h4 ∙ ap (λ (n : ℕ). b3 ++ to_be_bytes w64 n) (sym c.index-point-2.is ∙ y2) in
    let s2 : b2 ≡ start ++ p2 = then_appended start p1 (to_be_bytes w64 (slice_index y 0)) b1 b2 c.in_ok-spell_number.ensures e2 in
    let s3 : b3 ≡ start ++ p3 = then_appended start p2 (to_be_bytes w64 (slice_index y 1)) b2 b3 s2 e3 in
    then_appended start p3 (to_be_bytes w64 (slice_index y 2)) b3 b4 s3 e4
