-- Known bytes that are taken or put bit by bit.
use Rattle.std.proofs.Common.{◌≡◌, ℕ, ◌+◌, ◌≤◌, List, ◌++◌, length, take, drop, Option, Some, None, sym, ap, subst, ◌∙◌, append_assoc, arith, length-append, replicate}
use Rattle.std.specs.Io.KnownBytes.{Appends, Consumes}
use Rattle.std.proofs.lemmas.List.{length-take-le, take-append-le, take-take, take_all, take_at}
use Rattle.std.proofs.Math.Seq.{take-add, take-append-add}
use borrow.Rule.Slice.PartMut.{put_mid, post_of}

-- some bytes were taken, and then more
pub consumes_more : (old mid new : Option (List ℕ)) (front more : List ℕ) → Consumes old mid front → Consumes mid new more → Consumes old new (front ++ more)
consumes_more None mid new front more p q = tt
consumes_more (Some xs) None new front more p q = absurd p
consumes_more (Some xs) (Some ys) None front more p q = absurd q
consumes_more (Some xs) (Some ys) (Some zs) front more p q = p ∙ ap (λ (l : List ℕ). front ++ l) q ∙ sym (append_assoc front more zs)

-- the front of a slice after a part of it was written
pub take_written : (a k n : ℕ) (xs ys : List ℕ) → n ≤ length ys → a ≤ length xs → take a xs ++ take n ys ≡ take (a + n) (put_mid a k xs ys)
take_written a k n xs ys short within =
    let len : length (take a xs) ≡ a = length-take-le a xs within in
    let one : take (length (take a xs) + n) (take a xs ++ (ys ++ post_of a k xs)) ≡ take a xs ++ take n (ys ++ post_of a k xs) = take-append-add (take a xs) (ys ++ post_of a k xs) n in
    let two : take n (ys ++ post_of a k xs) ≡ take n ys = take-append-le n ys (post_of a k xs) short in
    sym (ap (λ (m : ℕ). take (m + n) (put_mid a k xs ys)) (sym len) ∙ one ∙ ap (λ (l : List ℕ). take a xs ++ l) two)

-- the same of a front, where the slice is the front of a longer one
pub take_put : (a k n len : ℕ) (xs ys behind : List ℕ) → n ≤ length ys → a ≤ length xs → a + n ≤ len → take (a + n) (take len (put_mid a k xs ys ++ behind)) ≡ take a xs ++ take n ys
take_put a k n len xs ys behind short within fits =
    let length_is : length (put_mid a k xs ys) ≡ a + (length ys + length (post_of a k xs)) =
    omega (arith, length-append (take a xs) (ys ++ post_of a k xs), length-append ys (post_of a k xs), length-take-le a xs within) in
    take-take (a + n) len (put_mid a k xs ys ++ behind) fits ∙ take-append-le (a + n) (put_mid a k xs ys) behind (omega (arith, length_is)) ∙ sym (take_written a k n xs ys short within)

-- a list that was filled up begins with what it was
pub kept_front : (n room missing : ℕ) (old new : List ℕ) → n ≡ length old → new ≡ take (n + room) old ++ replicate missing 0 → take n new ≡ old
kept_front n room missing old new whole is =
    ap (λ (l : List ℕ). take n l) (is ∙ ap (λ (l : List ℕ). l ++ replicate missing 0) (take_all (n + room) old (omega arith))) ∙ take_at old (replicate missing 0) n (sym whole)

-- some bytes were put, and then more
appends_then : (old mid new : Option (List ℕ)) (front more : List ℕ) → Appends old mid front → Appends mid new more → Appends old new (front ++ more)
appends_then None mid new front more p q = tt
appends_then (Some xs) None new front more p q = absurd p
appends_then (Some xs) (Some ys) None front more p q = absurd q
appends_then (Some xs) (Some ys) (Some zs) front more p q = q ∙ ap (λ (l : List ℕ). l ++ more) p ∙ append_assoc xs front more

-- the same of a piece, of which the first n and then the next k bytes were put
pub appends_more : (old mid new : Option (List ℕ)) (piece rest : List ℕ) (n k : ℕ) → rest ≡ drop n piece → Appends old mid (take n piece) → Appends mid new (take k rest) → Appends old new (take (n + k) piece)
appends_more old mid new piece rest n k e p q =
    subst (λ (l : List ℕ). Appends old new l) (ap (λ (l : List ℕ). take n piece ++ take k l) e ∙ sym (take-add n k piece)) (appends_then old mid new (take n piece) (take k rest) p q)
