-- Reading bytes by a format from left to right, to all entries or to the first fault.
use Rattle.std.specs.Prelude.{◌≡◌, ℕ, zero, suc, ◌+◌, List, [], ◌∷◌, ◌++◌, length, take, drop, Option, Some, None, Result, Ok, Err, nat_lt, ◌||◌, if◌then◌else◌}
use Rattle.byte_format.specs.Format.{Size, Format, Entry, bytes_of, number_of}
use Rattle.byte_format.specs.Format.Format.{End, NumberField, BytesField}
use Rattle.byte_format.specs.Format.Entry.{Number, Bytes}

-- how a reader answers
pub record Reader (K E A : Type 0) : Type 0 where
  -- the error of a fault of this kind at this place
  pub fail : K → ℕ → E
  -- the kind of a field that is cut short
  pub short : K
  -- what it makes of the entries, and of the place behind them
  pub done : List Entry → ℕ → A

infixl 10 ◌>>=◌
abbrev pub ◌>>=◌ : {A B E : Type 0} → Result A E → (A → Result B E) → Result B E
(Ok x) >>= f = f x
(Err e) >>= f = Err e

-- What a call answered, seen by view, is what reading gives.
abbrev pub Gives : {X Y E : Type 0} → (X → Y) → Result X E → Result Y E → Type 0
Gives view (Ok x) read = read ≡ Ok (view x)
Gives view (Err e) read = read ≡ Err e

-- the number at this place, and the bytes after it
abbrev pub number_at : {K E A : Type 0} → Reader K E A → Size → K → ℕ → ℕ → ℕ → List ℕ → Result (ℕ × List ℕ) E
number_at reader size fault low high at bytes =
    if nat_lt (length bytes) (bytes_of size) then Err (reader.fail reader.short at)
    else let n = number_of size (take (bytes_of size) bytes) in
    if nat_lt n low || nat_lt high n then Err (reader.fail fault at)
    else Ok (n, drop (bytes_of size) bytes)

-- so many bytes at this place, and those after them
abbrev pub bytes_at : {K E A : Type 0} → Reader K E A → ℕ → ℕ → List ℕ → Result (List ℕ × List ℕ) E
bytes_at reader len at bytes =
    if nat_lt (length bytes) len then Err (reader.fail reader.short at)
    else Ok (take len bytes, drop len bytes)

-- the bytes that are left at this place, where no field follows and these may
abbrev pub end_at : {K E A : Type 0} → Reader K E A → Option K → ℕ → List ℕ → Result (List ℕ) E
end_at reader None at bytes = Ok bytes
end_at reader (Some trailing) at [] = Ok []
end_at reader (Some trailing) at (b ∷ bytes) = Err (reader.fail trailing at)

-- The entries of bytes that begin at this place, behind those that were read.
unfoldable pub read : {K E A : Type 0} → Reader K E A → Format K → ℕ → List Entry → List ℕ → Result A E
read reader (End trailing) at before bytes = end_at reader trailing at bytes >>= λ _. Ok (reader.done before at)
read reader (NumberField size fault low high next) at before bytes =
    number_at reader size fault low high at bytes >>= λ n. read reader (next n.0) (at + bytes_of size) (before ++ Number n.0 ∷ []) n.1
read reader (BytesField len next) at before bytes =
    bytes_at reader len at bytes >>= λ b. read reader next (at + len) (before ++ Bytes b.0 ∷ []) b.1

-- the number in the field of this index
abbrev pub number_in : ℕ → List Entry → ℕ
number_in i [] = 0
number_in zero (Number n ∷ es) = n
number_in zero (Bytes b ∷ es) = 0
number_in (suc i) (e ∷ es) = number_in i es

-- the bytes in the field of this index
abbrev pub bytes_in : ℕ → List Entry → List ℕ
bytes_in i [] = []
bytes_in zero (Number n ∷ es) = []
bytes_in zero (Bytes b ∷ es) = b
bytes_in (suc i) (e ∷ es) = bytes_in i es
