-- Lists of bytes: where they come from, and their parts.
use Rattle.std.proofs.Common.{ℕ, ◌^◌, ◌<◌, List, [], ◌++◌, length, get_or, take, drop, refl, subst, arith, inl, inr, Fits, w8}
use Rattle.std.proofs.lemmas.Bool.{cases_lt}
use Rattle.std.proofs.lemmas.List.{take_at, drop_at, get_or_past}
use Rattle.std.proofs.lemmas.List.Elements.{All-append, All-drop, All-from_get_or, All-nil, All-take}
use Rattle.star_io.specs.Bytes.{AreBytes}

-- no byte at all
pub AreBytes-nil : AreBytes []
AreBytes-nil = All-nil (λ b. b < 2 ^ 8)

-- what the type of a slice says: an answer gives `c.type_inv.bytes` for `fits`
pub AreBytes-from_fits : (bytes : List ℕ) → ((i : ℕ) → Fits w8 (get_or bytes i 0)) → AreBytes bytes
AreBytes-from_fits bytes fits = All-from_get_or (λ b. b < 2 ^ 8) bytes 0 (λ i within. omega (arith, fits i))

-- each place has a byte, where those past the end have 0
pub AreBytes-get_or : (bytes : List ℕ) (i : ℕ) → AreBytes bytes → get_or bytes i 0 < 256
AreBytes-get_or bytes i bytes_only =
    elim (cases_lt i (length bytes)) [
      | inl within ↦ bytes_only i 0 within
      | inr past ↦ rw (get_or_past bytes i 0 past) (omega arith)
    ]

pub AreBytes-take : (n : ℕ) (bytes : List ℕ) → AreBytes bytes → AreBytes (take n bytes)
AreBytes-take n bytes h = All-take (λ b. b < 2 ^ 8) n bytes h

pub AreBytes-drop : (n : ℕ) (bytes : List ℕ) → AreBytes bytes → AreBytes (drop n bytes)
AreBytes-drop n bytes h = All-drop (λ b. b < 2 ^ 8) n bytes h

pub AreBytes-append : (front back : List ℕ) → AreBytes front → AreBytes back → AreBytes (front ++ back)
AreBytes-append front back h k = All-append (λ b. b < 2 ^ 8) front back h k

-- and back: the parts of bytes are bytes
pub AreBytes-append_left : (front back : List ℕ) → AreBytes (front ++ back) → AreBytes front
AreBytes-append_left front back h = subst AreBytes (take_at front back (length front) refl) (AreBytes-take (length front) (front ++ back) h)

pub AreBytes-append_right : (front back : List ℕ) → AreBytes (front ++ back) → AreBytes back
AreBytes-append_right front back h = subst AreBytes (drop_at front back (length front) refl) (AreBytes-drop (length front) (front ++ back) h)
