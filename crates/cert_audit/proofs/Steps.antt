-- One point or number more, read and spelt.
use Rattle.std.proofs.Common.{◌≡◌, ℕ, zero, suc, ◌+◌, ◌-◌, ◌*◌, ◌<◌, List, [], ◌∷◌, ◌++◌, length, get_or, take, drop, None, Ok, Err, refl, sym, ap, ◌∙◌, append_assoc, arith}
use Rattle.std.specs.Int.{w64, to_be_bytes}
use Rattle.std.proofs.lemmas.List.{take_more, drop-drop}
use Rattle.field61.specs.declared.TheConstants.{MODULUS}
use Rattle.byte_format.specs.Format.{Format, Entry, spelling}
use Rattle.byte_format.specs.Format.Size.{EightBytes}
use Rattle.byte_format.specs.Format.Entry.{Number}
use Rattle.shamir_limbs.specs.declared.share.Point.{Point}
use Rattle.cert_audit.specs.declared.kind.CertKind.{CertKind}
use Rattle.cert_audit.specs.declared.kind.CertKind.TheVariants.{Range}
use Rattle.cert_audit.specs.declared.fault.CertFault.{CertFault}
use Rattle.byte_format.specs.Format.Format.{End, NumberField}
use Rattle.cert_audit.specs.Certificate.{numbers_layout, points_layout, entries_of_point, point_entries, number_entries, bytes_of_point, point_bytes, number_bytes}
use Rattle.byte_format.specs.Reading.{number_at, read}
use Rattle.byte_format.proofs.OneField.{read-number, read-number_behind, read-number_fault}
use Rattle.byte_format.proofs.Spelt.{read_end}
use Rattle.cert_audit.specs.Reading.{certs, Answer}

-- ---- reading

point_entries-push : (points : List Point) (p : Point) → point_entries (points ++ p ∷ []) ≡ point_entries points ++ entries_of_point p
point_entries-push [] p = refl
point_entries-push (q ∷ qs) p = ap (λ (l : List Entry). entries_of_point q ++ l) (point_entries-push qs p)

number_entries-push : (numbers : List ℕ) (n : ℕ) → number_entries (numbers ++ n ∷ []) ≡ number_entries numbers ++ Number n ∷ []
number_entries-push [] n = refl
number_entries-push (m ∷ ms) n = ap (λ (l : List Entry). Number m ∷ l) (number_entries-push ms n)

-- so many field numbers, and then the rest
abbrev pub elements : ℕ → Format CertKind → Format CertKind
elements zero rest = rest
elements (suc m) rest = NumberField EightBytes Range 0 (MODULUS - 1) (λ _. elements m rest)

-- the x of a point is read, then its first share, its second and its third
pub x_read : (above at n x : ℕ) (next : Format CertKind) (before : List Entry) (b0 b1 : List ℕ)
    → number_at certs EightBytes Range (above + 1) (MODULUS - 1) at b0 ≡ Ok (x, b1)
    → read certs (points_layout (suc n) above next) at before b0
    ≡ read certs (elements 3 (points_layout n x next)) (at + 8) (before ++ Number x ∷ []) b1
x_read above at n x next before b0 b1 x_is =
    read-number certs EightBytes Range (above + 1) (MODULUS - 1) (λ x. elements 3 (points_layout n x next)) at at before b0 x b1 refl x_is

pub y0_read : (above at n x y0 : ℕ) (next : Format CertKind) (before : List Entry) (b0 b1 b2 : List ℕ)
    → number_at certs EightBytes Range (above + 1) (MODULUS - 1) at b0 ≡ Ok (x, b1)
    → number_at certs EightBytes Range 0 (MODULUS - 1) (at + 8) b1 ≡ Ok (y0, b2)
    → read certs (points_layout (suc n) above next) at before b0
    ≡ read certs (elements 2 (points_layout n x next)) (at + 16) (before ++ Number x ∷ Number y0 ∷ []) b2
y0_read above at n x y0 next before b0 b1 b2 x_is y0_is =
    x_read above at n x next before b0 b1 x_is
    ∙ read-number_behind certs EightBytes Range 0 (MODULUS - 1) (λ _. elements 2 (points_layout n x next)) (at + 8) (at + 16) before
    (Number x ∷ [])
    b1 y0 b2 y0_is (omega arith)

pub y1_read : (above at n x y0 y1 : ℕ) (next : Format CertKind) (before : List Entry) (b0 b1 b2 b3 : List ℕ)
    → number_at certs EightBytes Range (above + 1) (MODULUS - 1) at b0 ≡ Ok (x, b1)
    → number_at certs EightBytes Range 0 (MODULUS - 1) (at + 8) b1 ≡ Ok (y0, b2)
    → number_at certs EightBytes Range 0 (MODULUS - 1) (at + 16) b2 ≡ Ok (y1, b3)
    → read certs (points_layout (suc n) above next) at before b0
    ≡ read certs (elements 1 (points_layout n x next)) (at + 24) (before ++ Number x ∷ Number y0 ∷ Number y1 ∷ []) b3
y1_read above at n x y0 y1 next before b0 b1 b2 b3 x_is y0_is y1_is =
    y0_read above at n x y0 next before b0 b1 b2 x_is y0_is
    ∙ read-number_behind certs EightBytes Range 0 (MODULUS - 1) (λ _. elements 1 (points_layout n x next)) (at + 16) (at + 24) before
    (Number x ∷ Number y0 ∷ []) b2 y1 b3 y1_is (omega arith)

pub y2_read : (above at n x y0 y1 y2 : ℕ) (next : Format CertKind) (before : List Entry) (b0 b1 b2 b3 b4 : List ℕ)
    → number_at certs EightBytes Range (above + 1) (MODULUS - 1) at b0 ≡ Ok (x, b1)
    → number_at certs EightBytes Range 0 (MODULUS - 1) (at + 8) b1 ≡ Ok (y0, b2)
    → number_at certs EightBytes Range 0 (MODULUS - 1) (at + 16) b2 ≡ Ok (y1, b3)
    → number_at certs EightBytes Range 0 (MODULUS - 1) (at + 24) b3 ≡ Ok (y2, b4)
    → read certs (points_layout (suc n) above next) at before b0
    ≡ read certs (points_layout n x next) (at + 32) (before ++ Number x ∷ Number y0 ∷ Number y1 ∷ Number y2 ∷ []) b4
y2_read above at n x y0 y1 y2 next before b0 b1 b2 b3 b4 x_is y0_is y1_is y2_is =
    y1_read above at n x y0 y1 next before b0 b1 b2 b3 x_is y0_is y1_is
    ∙ read-number_behind certs EightBytes Range 0 (MODULUS - 1) (λ _. points_layout n x next) (at + 24) (at + 32) before
    (Number x ∷ Number y0 ∷ Number y1 ∷ []) b3 y2 b4 y2_is (omega arith)

-- a fault of the next number is the fault
pub element_fault : (low at : ℕ) (next : ℕ → Format CertKind) (before : List Entry) (bytes : List ℕ) (f : CertFault)
    → number_at certs EightBytes Range low (MODULUS - 1) at bytes ≡ Err f
    → read certs (NumberField EightBytes Range low (MODULUS - 1) next) at before bytes ≡ Err f
element_fault low at next before bytes f is = read-number_fault certs EightBytes Range low (MODULUS - 1) next at at before bytes f refl is

-- what is left behind some bytes and more of them
pub drop-behind : (m n : ℕ) (bytes tail other : List ℕ) → tail ≡ drop m bytes → other ≡ drop n tail → other ≡ drop (m + n) bytes
drop-behind m n bytes tail other first second = second ∙ ap (drop n) first ∙ drop-drop n m bytes

-- so many are left, and one at least
one_left : (n i : ℕ) → i < n → n - i ≡ suc (n - (i + 1))
one_left n i less = omega arith

-- reading so many points is reading the rest of them, where this many are left and this point comes next
pub points_next : (n i above at : ℕ) (next : Format CertKind) (before : List Entry) (points : List Point) (bytes : List ℕ) (start : Answer)
    → i < n
    → start ≡ read certs (points_layout (n - i) above next) (at + 32 * i) (before ++ point_entries points) bytes
    → start ≡ read certs (points_layout (suc (n - (i + 1))) above next) (at + 32 * i) (before ++ point_entries points) bytes
points_next n i above at next before points bytes start less is =
    is ∙ ap (λ (m : ℕ). read certs (points_layout m above next) (at + 32 * i) (before ++ point_entries points) bytes) (one_left n i less)

pub points_more : (n i at : ℕ) (next : Format CertKind) (before : List Entry) (points : List Point) (p : Point) (bytes : List ℕ)
    (start : Answer)
    → start ≡ read certs (points_layout (n - (i + 1)) p.x next) (at + 32 * i + 32)
    (before ++ point_entries points ++ entries_of_point p) bytes
    → start ≡ read certs (points_layout (n - (i + 1)) p.x next) (at + 32 * (i + 1)) (before ++ point_entries (points ++ p ∷ [])) bytes
points_more n i at next before points p bytes start is =
    is ∙ ap (λ (a : ℕ). read certs (points_layout (n - (i + 1)) p.x next) a (before ++ point_entries points ++ entries_of_point p) bytes)
    (omega arith)
    ∙ ap (λ (es : List Entry). read certs (points_layout (n - (i + 1)) p.x next) (at + 32 * (i + 1)) es bytes)
    (append_assoc before (point_entries points) (entries_of_point p)
    ∙ ap (λ (l : List Entry). before ++ l) (sym (point_entries-push points p)))

-- and none is left at the end
pub points_all : (n i above at : ℕ) (next : Format CertKind) (before : List Entry) (points : List Point) (bytes : List ℕ) (start : Answer)
    → i ≡ n
    → start ≡ read certs (points_layout (n - i) above next) (at + 32 * i) (before ++ point_entries points) bytes
    → start ≡ read certs next (at + 32 * n) (before ++ point_entries points) bytes
points_all n i above at next before points bytes start all is =
    let none : n - i ≡ 0 = omega arith in
    is ∙ ap (λ (m : ℕ). read certs (points_layout m above next) (at + 32 * i) (before ++ point_entries points) bytes) none
    ∙ ap (λ (m : ℕ). read certs next (at + 32 * m) (before ++ point_entries points) bytes) all

-- the same of numbers
pub numbers_next : (n i at : ℕ) (before : List Entry) (numbers : List ℕ) (bytes : List ℕ) (start : Answer) → i < n
    → start ≡ read certs (numbers_layout (n - i)) (at + 8 * i) (before ++ number_entries numbers) bytes
    → start ≡ read certs (numbers_layout (suc (n - (i + 1)))) (at + 8 * i) (before ++ number_entries numbers) bytes
numbers_next n i at before numbers bytes start less is =
    is ∙ ap (λ (m : ℕ). read certs (numbers_layout m) (at + 8 * i) (before ++ number_entries numbers) bytes) (one_left n i less)

pub numbers_more : (n i at : ℕ) (before : List Entry) (numbers : List ℕ) (x : ℕ) (bytes : List ℕ) (start : Answer)
    → start ≡ read certs (numbers_layout (n - (i + 1))) (at + 8 * i + 8) (before ++ number_entries numbers ++ Number x ∷ []) bytes
    → start ≡ read certs (numbers_layout (n - (i + 1))) (at + 8 * (i + 1)) (before ++ number_entries (numbers ++ x ∷ [])) bytes
numbers_more n i at before numbers x bytes start is =
    is ∙ ap (λ (a : ℕ). read certs (numbers_layout (n - (i + 1))) a (before ++ number_entries numbers ++ Number x ∷ []) bytes) (omega arith)
    ∙ ap (λ (es : List Entry). read certs (numbers_layout (n - (i + 1))) (at + 8 * (i + 1)) es bytes)
    (append_assoc before (number_entries numbers) (Number x ∷ [])
    ∙ ap (λ (l : List Entry). before ++ l) (sym (number_entries-push numbers x)))

pub numbers_all : (n i at : ℕ) (before : List Entry) (numbers : List ℕ) (bytes : List ℕ) (start : Answer) → i ≡ n
    → start ≡ read certs (numbers_layout (n - i)) (at + 8 * i) (before ++ number_entries numbers) bytes
    → start ≡ Ok (before ++ number_entries numbers, at + 8 * n)
numbers_all n i at before numbers bytes start all is =
    let none : n - i ≡ 0 = omega arith in
    is ∙ ap (λ (m : ℕ). read certs (numbers_layout m) (at + 8 * i) (before ++ number_entries numbers) bytes) none
    ∙ ap (λ (m : ℕ). read certs (End None) (at + 8 * m) (before ++ number_entries numbers) bytes) all
    ∙ read_end certs (End None) (at + 8 * n) (before ++ number_entries numbers) None bytes refl tt

-- ---- spelling

-- bytes put behind others that were put behind the first ones
pub then_appended : (start p q b c : List ℕ) → b ≡ start ++ p → c ≡ b ++ q → c ≡ start ++ (p ++ q)
then_appended start p q b c first second = second ∙ ap (λ (l : List ℕ). l ++ q) first ∙ append_assoc start p q

pub point_bytes-push : (points : List Point) (p : Point) → point_bytes (points ++ p ∷ []) ≡ point_bytes points ++ bytes_of_point p
point_bytes-push [] p = refl
point_bytes-push (q ∷ qs) p = ap (λ (l : List ℕ). bytes_of_point q ++ l) (point_bytes-push qs p)

pub number_bytes-push : (numbers : List ℕ) (n : ℕ) → number_bytes (numbers ++ n ∷ []) ≡ number_bytes numbers ++ to_be_bytes w64 n
number_bytes-push [] n = refl
number_bytes-push (m ∷ ms) n = ap (λ (l : List ℕ). to_be_bytes w64 m ++ l) (number_bytes-push ms n)

pub point_bytes-more : (points : List Point) (i : ℕ) (p : Point) → i < length points → p ≡ get_or points i p
    → point_bytes (take (i + 1) points) ≡ point_bytes (take i points) ++ bytes_of_point p
point_bytes-more points i p within is =
    ap point_bytes (take_more points i p within) ∙ point_bytes-push (take i points) (get_or points i p)
    ∙ ap (λ (q : Point). point_bytes (take i points) ++ bytes_of_point q) (sym is)

pub number_bytes-more : (numbers : List ℕ) (i n : ℕ) → i < length numbers → n ≡ get_or numbers i n → number_bytes (take (i + 1) numbers)
    ≡ number_bytes (take i numbers) ++ to_be_bytes w64 n
number_bytes-more numbers i n within is =
    ap number_bytes (take_more numbers i n within) ∙ number_bytes-push (take i numbers) (get_or numbers i n)
    ∙ ap (λ (m : ℕ). number_bytes (take i numbers) ++ to_be_bytes w64 m) (sym is)

-- points and numbers are spelt as their bytes
pub spelling-points : (points : List Point) (previous : ℕ) (rest : Format CertKind) (tail : List Entry)
    → spelling (points_layout (length points) previous rest) (point_entries points ++ tail) ≡ point_bytes points ++ spelling rest tail
spelling-points [] previous rest tail = refl
spelling-points (p ∷ ps) previous rest tail =
    ap (λ (l : List ℕ). bytes_of_point p ++ l) (spelling-points ps p.x rest tail)

pub spelling-numbers : (numbers : List ℕ) → spelling (numbers_layout (length numbers)) (number_entries numbers) ≡ number_bytes numbers
spelling-numbers [] = refl
spelling-numbers (n ∷ ns) = ap (λ (l : List ℕ). to_be_bytes w64 n ++ l) (spelling-numbers ns)
