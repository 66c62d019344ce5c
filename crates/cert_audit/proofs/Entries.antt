-- The certificate as a format: what its entries are, and which certificate entries are those of.
use Rattle.std.proofs.Common.{◌≡◌, ℕ, zero, suc, ◌+◌, ◌*◌, ◌<◌, ◌≤◌, List, [], ◌∷◌, ◌++◌, length, map, drop, Option, None, refl, sym, ap, ap₂, subst, ◌∙◌, append_assoc, rules, arith, length-append}
use Rattle.std.specs.Prelude.{All}
use Rattle.std.proofs.lemmas.List.{drop_at}
use Rattle.std.proofs.lemmas.List.Elements.{All-nil, All-cons, All-head, All-tail, All-weaker}
use Rattle.std.proofs.Math.Nat.{le_antisymm}
use Rattle.field61.specs.declared.TheConstants.{MODULUS}
use Rattle.field61.specs.Field.{AreElements}
use Rattle.report_frame.specs.declared.head.Head.{Head}
use Rattle.report_frame.specs.declared.version.Version.{Version}
use Rattle.report_frame.specs.Versions.{version_number, version_of, max_level, max_threshold}
use Rattle.byte_format.specs.Format.{Format, Entry, After, IsEnd}
use Rattle.byte_format.proofs.FirstEntry.{number_first, bytes_first}
use Rattle.byte_format.proofs.Spelt.{IsSound}
use Rattle.byte_format.specs.Format.Entry.{Number, Bytes}
use Rattle.byte_format.specs.Reading.{number_in}
use Rattle.report_frame.proofs.VersionFacts.{version_of_number, number_of_version, number_low, number_high, level_fits, threshold_fits}
use Rattle.shamir_limbs.specs.declared.share.Point.{Point}
use Rattle.shamir_limbs.specs.KeyLine.{xs_of}
use Rattle.shamir_limbs.proofs.LimbLaws.{three_items}
use Rattle.cert_audit.specs.declared.kind.CertKind.{CertKind}
use Rattle.cert_audit.specs.declared.limits.TheConstants.{CERT_MAGIC, CERT_FORMAT}
use Rattle.cert_audit.specs.declared.cert.Cert.{Cert}
use Rattle.cert_audit.specs.Certificate.{IsPoint, InRange, numbers_layout, points_layout, certificate, front_entries, point_entries, number_entries, entries}
use Rattle.cert_audit.specs.Reading.{points_in, cert_from}
use Rattle.cert_audit.proofs.Ascending.{AscendFrom, AscendFrom-increasing, increasing-AscendFrom}

-- ---- each number has a spelling in the size of its field

numbers_are_sound : (m : ℕ) → IsSound (numbers_layout m)
numbers_are_sound zero = tt
numbers_are_sound (suc m) = (omega arith, λ _. numbers_are_sound m)

points_are_sound : (n previous : ℕ) (rest : Format CertKind) → IsSound rest → IsSound (points_layout n previous rest)
points_are_sound zero previous rest sound = sound
points_are_sound (suc n) previous rest sound =
    (omega arith, λ x. (omega arith, λ _. (omega arith, λ _. (omega arith, λ _. points_are_sound n x rest sound))))

pub certificate_is_sound : IsSound certificate
certificate_is_sound = search (rules, arith, level_fits, threshold_fits, points_are_sound, numbers_are_sound)

-- ---- the entries of a certificate in range

after-numbers : (numbers : List ℕ) → AreElements numbers → After (numbers_layout (length numbers)) (number_entries numbers) (IsEnd None)
after-numbers [] elements = refl
after-numbers (n ∷ ns) elements =
    let first : n < MODULUS = All-head (λ x. x < MODULUS) n ns elements in
    (omega arith, omega (arith, first), after-numbers ns (All-tail (λ x. x < MODULUS) n ns elements))

after-points : (points : List Point) (previous : ℕ) (rest : Format CertKind) (es : List Entry) → All IsPoint points
    → AscendFrom previous (xs_of points) → After rest es (IsEnd None)
    → After (points_layout (length points) previous rest) (point_entries points ++ es) (IsEnd None)
after-points [] previous rest es are ascend after = after
after-points (p ∷ ps) previous rest es are ascend after =
    let first = All-head IsPoint p ps are in (
      omega (arith, ascend.0),
      omega (arith, first.x),
      (
        omega arith,
        omega (arith, first.y0),
        (
          omega arith,
          omega (arith, first.y1),
          (
            omega arith,
            omega (arith, first.y2),
            after-points ps p.x rest es (All-tail IsPoint p ps are) ascend.1 after,
          ),
        ),
      ),
    )

-- what stands before the points is in its range, and then the points are due
pub after-front : (c : Cert) (Q : Format CertKind → Type 0) → InRange c
    → Q (points_layout (length c.points) 0 (numbers_layout (3 * c.head.k)))
    → After certificate (front_entries c) Q
after-front c Q range behind =
    let version = sym (version_of_number c.head.version) in
    let is = range.is_cert in
    let number_is_low = number_low c.head.version in
    let number_is_high = number_high c.head.version in
    let level : c.level ≤ max_level (version_of (version_number c.head.version)) =
    subst (λ (v : Version). c.level ≤ max_level v) version is.level in
    let k : c.head.k ≤ max_threshold (version_of (version_number c.head.version)) =
    subst (λ (v : Version). c.head.k ≤ max_threshold v) version is.k_high in (
      omega arith,
      omega arith,
      (
        omega arith,
        omega arith,
        (
          number_is_low,
          number_is_high,
          (
            omega arith,
            level,
            (
              omega arith,
              omega (arith, range.epoch),
              (
                is.k_low,
                k,
                (range.parent, (range.tag, (range.check, (range.box_low, range.box_high, (refl, (omega arith, is.few, behind)))))),
              ),
            ),
          ),
        ),
      ),
    )

-- the entries stand in all fields, each in its range
pub after-entries : (c : Cert) → InRange c → After certificate (entries c) (IsEnd None)
after-entries c range =
    let numbers : After (numbers_layout (3 * c.head.k)) (number_entries c.numbers) (IsEnd None) =
    subst (λ (m : ℕ). After (numbers_layout m) (number_entries c.numbers) (IsEnd None)) range.is_cert.numbers
    (after-numbers c.numbers range.elements) in
    after-front c (λ f. After f (point_entries c.points ++ number_entries c.numbers) (IsEnd None)) range
    (after-points c.points 0 (numbers_layout (3 * c.head.k)) (number_entries c.numbers) range.points
    (increasing-AscendFrom 0 (xs_of c.points) range.is_cert.ascending) numbers)

-- ---- the certificate of entries

-- numbers stand where so many are due
record HasNumbers (m : ℕ) (es : List Entry) : Type 0 where
  numbers : List ℕ
  is : es ≡ number_entries numbers
  many : length numbers ≡ m
  elements : AreElements numbers

numbers_first : (end : Option CertKind) (m : ℕ) (es : List Entry) → After (numbers_layout m) es (IsEnd end) → HasNumbers m es
numbers_first end zero [] after = record { numbers = []; is = refl; many = refl; elements = All-nil (λ x. x < MODULUS) }
numbers_first end zero (e ∷ es) after = absurd after
numbers_first end (suc m) es after =
    number_first end (HasNumbers (suc m) es) _ _ _ _ _ es after (λ n others is _ high after1.
    let more = numbers_first end m others after1 in
    record {
      numbers = n ∷ more.numbers;
      is = is ∙ ap (λ (l : List Entry). Number n ∷ l) more.is;
      many = omega (arith, more.many);
      elements = All-cons (λ x. x < MODULUS) n more.numbers (omega (arith, high)) more.elements;
    })

-- points stand where so many are due, and then the rest
record HasPoints (end : Option CertKind) (n previous : ℕ) (rest : Format CertKind) (es : List Entry) : Type 0 where
  points : List Point
  others : List Entry
  is : es ≡ point_entries points ++ others
  many : length points ≡ n
  are : All IsPoint points
  ascend : AscendFrom previous (xs_of points)
  after : After rest others (IsEnd end)

points_first : (end : Option CertKind) (n previous : ℕ) (rest : Format CertKind) (es : List Entry)
    → After (points_layout n previous rest) es (IsEnd end) → HasPoints end n previous rest es
points_first end zero previous rest es after = record { points = []; others = es; is = refl; many = refl; are = All-nil IsPoint; ascend = tt; after = after }
points_first end (suc n) previous rest es after =
    number_first end (HasPoints end (suc n) previous rest es) _ _ _ _ _ es after (λ x es1 x_is x_low x_high after1.
    number_first end (HasPoints end (suc n) previous rest es) _ _ _ _ _ es1 after1 (λ y0 es2 y0_is _ y0_high after2.
    number_first end (HasPoints end (suc n) previous rest es) _ _ _ _ _ es2 after2 (λ y1 es3 y1_is _ y1_high after3.
    number_first end (HasPoints end (suc n) previous rest es) _ _ _ _ _ es3 after3 (λ y2 es4 y2_is _ y2_high after4.
    let more = points_first end n x rest es4 after4 in
    let p : Point = record { x = x; y = y0 ∷ y1 ∷ y2 ∷ [] } in
    record {
      points = p ∷ more.points;
      others = more.others;
      is = x_is ∙ ap (λ (l : List Entry). Number x ∷ l)
          (y0_is ∙ ap (λ (l : List Entry). Number y0 ∷ l)
          (y1_is ∙ ap (λ (l : List Entry). Number y1 ∷ l) (y2_is ∙ ap (λ (l : List Entry). Number y2 ∷ l) more.is)));
      many = omega (arith, more.many);
      are = All-cons IsPoint p more.points
          (record { x = omega (arith, x_high); three = refl; y0 = omega (arith, y0_high); y1 = omega (arith, y1_high); y2 = omega (arith, y2_high) }) more.are;
      ascend = (omega (arith, x_low), more.ascend);
      after = more.after;
    }))))

-- a certificate in range has these entries
pub record HasCert (es : List Entry) : Type 0 where
  pub cert : Cert
  pub in_range : InRange cert
  pub is : es ≡ entries cert

-- entries in all fields are those of a certificate in range
pub whole_entries : (end : Option CertKind) (es : List Entry) → After certificate es (IsEnd end) → HasCert es
whole_entries end es whole =
    number_first end (HasCert es) _ _ _ _ _ es whole (λ magic es1 magic_is magic_low magic_high whole1.
    number_first end (HasCert es) _ _ _ _ _ es1 whole1 (λ format es2 format_is format_low format_high whole2.
    number_first end (HasCert es) _ _ _ _ _ es2 whole2 (λ number es3 number_is number_low number_high whole3.
    number_first end (HasCert es) _ _ _ _ _ es3 whole3 (λ level es4 level_is _ level_high whole4.
    number_first end (HasCert es) _ _ _ _ _ es4 whole4 (λ epoch es5 epoch_is _ epoch_high whole5.
    number_first end (HasCert es) _ _ _ _ _ es5 whole5 (λ k es6 k_is k_low k_high whole6.
    bytes_first end (HasCert es) _ _ es6 whole6 (λ parent es7 parent_is parent_len whole7.
    bytes_first end (HasCert es) _ _ es7 whole7 (λ tag es8 tag_is tag_len whole8.
    bytes_first end (HasCert es) _ _ es8 whole8 (λ check es9 check_is check_len whole9.
    number_first end (HasCert es) _ _ _ _ _ es9 whole9 (λ b es10 b_is b_low b_high whole10.
    bytes_first end (HasCert es) _ _ es10 whole10 (λ boxed es11 boxed_is boxed_len whole11.
    number_first end (HasCert es) _ _ _ _ _ es11 whole11 (λ n es12 n_is _ n_high whole12.
    let points = points_first end n 0 (numbers_layout (3 * k)) es12 whole12 in
    let numbers = numbers_first end (3 * k) points.others points.after in
    let is_magic = le_antisymm magic_high magic_low in
    let is_format = le_antisymm format_high format_low in
    let is_number = number_of_version number number_low number_high in
    let head : Head = record { version = version_of number; k = k; tag = tag; check = check; boxed = boxed } in
    let cert : Cert =
    record { level = level; epoch = epoch; parent = parent; head = head; points = points.points; numbers = numbers.numbers } in
    let front : List Entry → List Entry =
    λ l. Number CERT_MAGIC ∷ Number CERT_FORMAT ∷ Number (version_number (version_of number)) ∷ Number level ∷ Number epoch ∷ Number k
    ∷ Bytes parent ∷ Bytes tag ∷ Bytes check ∷ Number (length boxed) ∷ Bytes boxed ∷ Number (length points.points) ∷ l in
    let points_many = points.many in
    let before : es ≡ front es12 = cc in
    record {
      cert = cert;
      in_range = record {
        is_cert = record {
          level = level_high;
          k_low = k_low;
          k_high = k_high;
          few = omega (arith, points.many, n_high);
          ascending = AscendFrom-increasing 0 (xs_of points.points) points.ascend;
          numbers = numbers.many;
        };
        epoch = omega (arith, epoch_high);
        parent = parent_len;
        tag = tag_len;
        check = check_len;
        box_low = omega (arith, boxed_len, b_low);
        box_high = omega (arith, boxed_len, b_high);
        points = points.are;
        elements = numbers.elements;
      };
      is = before ∙ ap front (points.is ∙ ap (λ (l : List Entry). point_entries points.points ++ l) numbers.is);
    }))))))))))))

-- ---- and back

points_in-point_entries : (points : List Point) (es : List Entry) → All (λ p. length p.y ≡ 3) points
    → points_in (length points) (point_entries points ++ es) ≡ points
points_in-point_entries [] es are = refl
points_in-point_entries (p ∷ ps) es are =
    ap₂ (λ (y : List ℕ) (qs : List Point). let q : Point = record { x = p.x; y = y } in q ∷ qs)
    (three_items p.y (All-head (λ (q : Point). length q.y ≡ 3) p ps are))
    (points_in-point_entries ps es (All-tail (λ (q : Point). length q.y ≡ 3) p ps are))

length-point_entries : (points : List Point) → length (point_entries points) ≡ 4 * length points
length-point_entries [] = refl
length-point_entries (p ∷ ps) = omega (arith, length-point_entries ps)

numbers_in-number_entries : (numbers : List ℕ) → map (λ e. number_in 0 (e ∷ [])) (number_entries numbers) ≡ numbers
numbers_in-number_entries [] = refl
numbers_in-number_entries (n ∷ ns) = ap (λ (l : List ℕ). n ∷ l) (numbers_in-number_entries ns)

behind_points : (c : Cert) → drop (12 + 4 * length c.points) (entries c) ≡ number_entries c.numbers
behind_points c =
    ap (drop (12 + 4 * length c.points)) (sym (append_assoc (front_entries c) (point_entries c.points) (number_entries c.numbers)))
    ∙ drop_at (front_entries c ++ point_entries c.points) (number_entries c.numbers) (12 + 4 * length c.points)
    (omega (arith, length-append (front_entries c) (point_entries c.points), length-point_entries c.points))

-- a certificate is the one of its entries
pub cert_from-entries : (c : Cert) → All (λ p. length p.y ≡ 3) c.points → cert_from (entries c) ≡ c
cert_from-entries c are =
    let cert : Version → List Point → List ℕ → Cert = λ v ps ns.
    record { level = c.level; epoch = c.epoch; parent = c.parent; head = record { version = v; k = c.head.k; tag = c.head.tag; check = c.head.check; boxed = c.head.boxed }; points = ps; numbers = ns } in
    let numbers : List ℕ = map (λ e. number_in 0 (e ∷ [])) (drop (12 + 4 * length c.points) (entries c)) in
    ap (λ (v : Version). cert v (points_in (length c.points) (point_entries c.points ++ number_entries c.numbers)) numbers)
    (version_of_number c.head.version)
    ∙ ap (λ (ps : List Point). cert c.head.version ps numbers) (points_in-point_entries c.points (number_entries c.numbers) are)
    ∙ ap (cert c.head.version c.points) (ap (map (λ e. number_in 0 (e ∷ []))) (behind_points c) ∙ numbers_in-number_entries c.numbers)

pub are_three : (c : Cert) → InRange c → All (λ p. length p.y ≡ 3) c.points
are_three c range = All-weaker IsPoint (λ p. length p.y ≡ 3) (λ p is. is.three) c.points range.points
