-- Reading one field: it is there and in its range, or not.
use Rattle.std.proofs.Common.{◌≡◌, ℕ, ◌+◌, ◌<◌, ◌≤◌, Bool, false, cond, ltb, List, [], ◌∷◌, ◌++◌, length, take, drop, Result, Ok, Err, refl, ap, ap₂, ◌∙◌, append_assoc, inl, inr}
use Rattle.std.specs.Prelude.{◌⊎◌, ◌||◌}
use Rattle.std.proofs.lemmas.Bool.{cases_lt, le-ltb, lt-ltb}
use Rattle.byte_format.specs.Format.{Size, Format, Entry, bytes_of, number_of}
use Rattle.byte_format.specs.Format.Format.{NumberField}
use Rattle.byte_format.specs.Format.Entry.{Number, Bytes}
use Rattle.byte_format.specs.Reading.{Reader, ◌>>=◌, number_at, bytes_at, read}

-- what reading a number, or bytes, is followed by
abbrev pub on_number : {K E A : Type 0} → Reader K E A → Size → (ℕ → Format K) → ℕ → List Entry → Result (ℕ × List ℕ) E → Result A E
on_number reader size next at before r = r >>= λ n. read reader (next n.0) (at + bytes_of size) (before ++ Number n.0 ∷ []) n.1

abbrev pub on_bytes : {K E A : Type 0} → Reader K E A → ℕ → Format K → ℕ → List Entry → Result (List ℕ × List ℕ) E → Result A E
on_bytes reader len next at before r = r >>= λ b. read reader next (at + len) (before ++ Bytes b.0 ∷ []) b.1

-- a field of this size and range: the bytes are too few for its number, or spell one out of its range, or one within it
pub data NumberStep {K E A : Type 0} (reader : Reader K E A) (size : Size) (fault : K) (low high at : ℕ) (bytes : List ℕ) : Type 0 where
  Short : length bytes < bytes_of size → number_at reader size fault low high at bytes ≡ Err (reader.fail reader.short at)
      → NumberStep reader size fault low high at bytes
  OutOfRange : bytes_of size ≤ length bytes
      → (number_of size (take (bytes_of size) bytes) < low) ⊎ (high < number_of size (take (bytes_of size) bytes))
      → number_at reader size fault low high at bytes ≡ Err (reader.fail fault at) → NumberStep reader size fault low high at bytes
  Within : bytes_of size ≤ length bytes → low ≤ number_of size (take (bytes_of size) bytes)
      → number_of size (take (bytes_of size) bytes) ≤ high
      → number_at reader size fault low high at bytes ≡ Ok (number_of size (take (bytes_of size) bytes), drop (bytes_of size) bytes)
      → NumberStep reader size fault low high at bytes

pub number_step : {K E A : Type 0} (reader : Reader K E A) (size : Size) (fault : K) (low high at : ℕ) (bytes : List ℕ)
    → NumberStep reader size fault low high at bytes
number_step {K} {E} {A} reader size fault low high at bytes =
    let n = number_of size (take (bytes_of size) bytes) in
    let answer : Bool → Bool → Bool → Result (ℕ × List ℕ) E = λ short below above.
    cond short (Err (reader.fail reader.short at))
    (cond (below || above) (Err (reader.fail fault at)) (Ok (n, drop (bytes_of size) bytes))) in
    elim (cases_lt (length bytes) (bytes_of size)) [
      | inl short ↦ Short short (ap (λ (b : Bool). answer b (ltb n low) (ltb high n)) (lt-ltb _ _ short))
      | inr whole ↦
          let is_whole = ap (λ (b : Bool). answer b (ltb n low) (ltb high n)) (le-ltb (length bytes) (bytes_of size) whole) in
          elim (cases_lt n low) [
            | inl below ↦ OutOfRange whole (inl below) (is_whole ∙ ap (λ (b : Bool). answer false b (ltb high n)) (lt-ltb n low below))
            | inr enough ↦
                let is_enough = is_whole ∙ ap (λ (b : Bool). answer false b (ltb high n)) (le-ltb n low enough) in
                elim (cases_lt high n) [
                  | inl above ↦ OutOfRange whole (inr above) (is_enough ∙ ap (λ (b : Bool). answer false false b) (lt-ltb high n above))
                  | inr within ↦ Within whole enough within (is_enough ∙ ap (λ (b : Bool). answer false false b) (le-ltb high n within))
                ]
          ]
    ]

-- the bytes are too few, or enough
pub data BytesStep {K E A : Type 0} (reader : Reader K E A) (len at : ℕ) (bytes : List ℕ) : Type 0 where
  Short : length bytes < len → bytes_at reader len at bytes ≡ Err (reader.fail reader.short at) → BytesStep reader len at bytes
  Enough : len ≤ length bytes → bytes_at reader len at bytes ≡ Ok (take len bytes, drop len bytes) → BytesStep reader len at bytes

pub bytes_step : {K E A : Type 0} (reader : Reader K E A) (len at : ℕ) (bytes : List ℕ) → BytesStep reader len at bytes
bytes_step {K} {E} {A} reader len at bytes =
    let answer : Bool → Result (List ℕ × List ℕ) E = λ short.
    cond short (Err (reader.fail reader.short at)) (Ok (take len bytes, drop len bytes)) in
    elim (cases_lt (length bytes) len) [
      | inl short ↦ Short short (ap answer (lt-ltb _ _ short))
      | inr enough ↦ Enough enough (ap answer (le-ltb _ _ enough))
    ]

-- reading goes on behind a number that was read
pub read-number : {K E A : Type 0} (reader : Reader K E A) (size : Size) (fault : K) (low high : ℕ) (next : ℕ → Format K) (at place : ℕ)
    (before : List Entry) (bytes : List ℕ) (n : ℕ) (tail : List ℕ) → at ≡ place
    → number_at reader size fault low high place bytes ≡ Ok (n, tail)
    → read reader (NumberField size fault low high next) at before bytes
    ≡ read reader (next n) (place + bytes_of size) (before ++ Number n ∷ []) tail
unfolding read
read-number reader size fault low high next at place before bytes n tail same is =
    ap (λ (a : ℕ). read reader (NumberField size fault low high next) a before bytes) same ∙ ap (on_number reader size next place before) is

-- and ends with the fault of a number
pub read-number_fault : {K E A : Type 0} (reader : Reader K E A) (size : Size) (fault : K) (low high : ℕ) (next : ℕ → Format K)
    (at place : ℕ) (before : List Entry) (bytes : List ℕ) (e : E) → at ≡ place
    → number_at reader size fault low high place bytes ≡ Err e → read reader (NumberField size fault low high next) at before bytes ≡ Err e
unfolding read
read-number_fault reader size fault low high next at place before bytes e same is =
    ap (λ (a : ℕ). read reader (NumberField size fault low high next) a before bytes) same ∙ ap (on_number reader size next place before) is

-- the same behind entries of which some were read before
pub read-number_behind : {K E A : Type 0} (reader : Reader K E A) (size : Size) (fault : K) (low high : ℕ) (next : ℕ → Format K)
    (at end : ℕ) (before front : List Entry) (bytes : List ℕ) (n : ℕ) (tail : List ℕ) → number_at reader size fault low high at bytes
    ≡ Ok (n, tail)
    → at + bytes_of size ≡ end
    → read reader (NumberField size fault low high next) at (before ++ front) bytes
    ≡ read reader (next n) end (before ++ (front ++ Number n ∷ [])) tail
read-number_behind reader size fault low high next at end before front bytes n tail is end_is =
    read-number reader size fault low high next at at (before ++ front) bytes n tail refl is
    ∙ ap₂ (λ (place : ℕ) (es : List Entry). read reader (next n) place es tail) end_is (append_assoc before front (Number n ∷ []))
