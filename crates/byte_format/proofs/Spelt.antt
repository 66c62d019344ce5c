-- Reading what entries spell gives them back.
use Rattle.std.proofs.Common.{◌≡◌, ℕ, ◌+◌, ◌<◌, ◌≤◌, List, [], ◌∷◌, ◌++◌, length, take, drop, Option, Some, None, Result, Ok, Err, refl, sym, ap, ◌∙◌, append_assoc, arith, inl, inr, length-append}
use Rattle.std.specs.Int.{to_be_bytes}
use Rattle.std.proofs.lemmas.List.{take_at, drop_at, append-nil}
use Rattle.byte_format.specs.Format.{Size, Format, Entry, After, IsEnd, MayFollow, IsWrong, spelling, width, bytes_of, number_of}
use Rattle.byte_format.specs.Format.Format.{End, NumberField, BytesField}
use Rattle.byte_format.specs.Format.Entry.{Number, Bytes}
use Rattle.byte_format.specs.Reading.{Reader, number_at, bytes_at, read}
use Rattle.byte_format.proofs.Sizes.{limit_of, number_of_spelling, length_of_spelling}
use Rattle.byte_format.proofs.OneField.{on_number, on_bytes, number_step, bytes_step, Short, OutOfRange, Within, Enough}

-- each number in range has a spelling in the size of its field
abbrev pub IsSound : {K : Type 0} → Format K → Type 0
IsSound (End trailing) = Unit {0}
IsSound (NumberField size fault low high next) = (high < limit_of size) × ((n : ℕ) → IsSound (next n))
IsSound (BytesField len next) = IsSound next

leads_number : {K E A : Type 0} (reader : Reader K E A) (size : Size) (fault : K) (low high : ℕ) (next : ℕ → Format K) (at n : ℕ)
    (before : List Entry) (tail : List ℕ) → high < limit_of size → low ≤ n → n ≤ high
    → read reader (NumberField size fault low high next) at before (to_be_bytes (width size) n ++ tail)
    ≡ read reader (next n) (at + bytes_of size) (before ++ Number n ∷ []) tail
unfolding read
leads_number reader size fault low high next at n before tail sound enough within =
    let spelt = to_be_bytes (width size) n in
    let bytes = spelt ++ tail in
    let spelt_len : length spelt ≡ bytes_of size = length_of_spelling size n in
    let front : take (bytes_of size) bytes ≡ spelt = take_at spelt tail (bytes_of size) spelt_len in
    let back : drop (bytes_of size) bytes ≡ tail = drop_at spelt tail (bytes_of size) spelt_len in
    let n_is : number_of size (take (bytes_of size) bytes) ≡ n = ap (number_of size) front ∙ number_of_spelling size n (omega arith) in
    let then = on_number reader size next at before in
    let Goal : Type 0 =
    then (number_at reader size fault low high at bytes) ≡ read reader (next n) (at + bytes_of size) (before ++ Number n ∷ []) tail in
    elim (number_step reader size fault low high at bytes) as (λ _. Goal) [
      | Short short read_is ↦ absurd (omega (arith, short, spelt_len, length-append spelt tail))
      | OutOfRange whole out read_is ↦ elim out as (λ _. Goal) [
        | inl below ↦ absurd (omega (arith, below, n_is, enough))
        | inr above ↦ absurd (omega (arith, above, n_is, within))
      ]
      | Within whole low_is high_is read_is ↦
          ap then (read_is ∙ ap (λ (m : ℕ). Ok (m, drop (bytes_of size) bytes)) n_is ∙ ap (λ (l : List ℕ). Ok (n, l)) back)
    ]

leads_bytes : {K E A : Type 0} (reader : Reader K E A) (len : ℕ) (next : Format K) (at : ℕ) (b : List ℕ) (before : List Entry)
    (tail : List ℕ) → length b ≡ len
    → read reader (BytesField len next) at before (b ++ tail) ≡ read reader next (at + len) (before ++ Bytes b ∷ []) tail
unfolding read
leads_bytes reader len next at b before tail b_len =
    let bytes = b ++ tail in
    let front : take len bytes ≡ b = take_at b tail len b_len in
    let back : drop len bytes ≡ tail = drop_at b tail len b_len in
    let then = on_bytes reader len next at before in
    elim (bytes_step reader len at bytes)
    as (λ _. then (bytes_at reader len at bytes) ≡ read reader next (at + len) (before ++ Bytes b ∷ []) tail) [
      | Short short read_is ↦ absurd (omega (arith, short, b_len, length-append b tail))
      | Enough enough read_is ↦
          ap then (read_is ∙ ap (λ (f : List ℕ). Ok (f, drop len bytes)) front ∙ ap (λ (l : List ℕ). Ok (b, l)) back)
    ]

-- reading goes through the entries that the bytes begin with, and then reads what follows them
leads : {K E A : Type 0} (reader : Reader K E A) (format : Format K) (at : ℕ) (before es : List Entry) (rest : List ℕ)
    (Q : Format K → Type 0) (answer : Result A E) → IsSound format → After format es Q
    → ((next : Format K) (place : ℕ) → Q next → place ≡ at + length (spelling format es) → read reader next place (before ++ es) rest
    ≡ answer)
    → read reader format at before (spelling format es ++ rest) ≡ answer
leads reader format at before [] rest Q answer sound after then =
    ap (λ (l : List Entry). read reader format at l rest) (sym (append-nil before)) ∙ then format at after (omega arith)
leads reader (End trailing) at before (e ∷ es) rest Q answer sound after then = absurd after
leads reader (NumberField size fault low high next) at before (Number n ∷ es) rest Q answer sound after then =
    let spelt = to_be_bytes (width size) n in
    let others = spelling (next n) es in
    ap (read reader (NumberField size fault low high next) at before) (append_assoc spelt others rest)
    ∙ leads_number reader size fault low high next at n before (others ++ rest) sound.0 after.0 after.1
    ∙ leads reader (next n) (at + bytes_of size) (before ++ Number n ∷ []) es rest Q answer (sound.1 n) after.2 (λ f place q e.
    ap (λ (l : List Entry). read reader f place l rest) (append_assoc before (Number n ∷ []) es)
    ∙ then f place q (omega (arith, e, length_of_spelling size n, length-append spelt others)))
leads reader (NumberField size fault low high next) at before (Bytes b ∷ es) rest Q answer sound after then = absurd after
leads reader (BytesField len next) at before (Number n ∷ es) rest Q answer sound after then = absurd after
leads reader (BytesField len next) at before (Bytes b ∷ es) rest Q answer sound after then =
    let others = spelling next es in
    ap (read reader (BytesField len next) at before) (append_assoc b others rest)
    ∙ leads_bytes reader len next at b before (others ++ rest) after.0
    ∙ leads reader next (at + len) (before ++ Bytes b ∷ []) es rest Q answer sound after.1 (λ f place q e.
    ap (λ (l : List Entry). read reader f place l rest) (append_assoc before (Bytes b ∷ []) es)
    ∙ then f place q (omega (arith, e, after.0, length-append b others)))

-- where no field follows, the entries are the answer
pub read_end : {K E A : Type 0} (reader : Reader K E A) (next : Format K) (place : ℕ) (before : List Entry) (trailing : Option K)
    (rest : List ℕ)
    → IsEnd trailing next → MayFollow trailing rest → read reader next place before rest ≡ Ok (reader.done before place)
unfolding read
read_end reader (End None) place before None rest is_end may = refl
read_end reader (End None) place before (Some kind) rest is_end may = absurd cc
read_end reader (End (Some other)) place before None rest is_end may = absurd cc
read_end reader (End (Some other)) place before (Some kind) [] is_end may = refl
read_end reader (End (Some other)) place before (Some kind) (b ∷ rest) is_end may = absurd cc
read_end reader (NumberField size fault low high next) place before trailing rest is_end may = absurd is_end
read_end reader (BytesField len next) place before trailing rest is_end may = absurd is_end

read_wrong : {K E A : Type 0} (reader : Reader K E A) (next : Format K) (place : ℕ) (before : List Entry) (rest : List ℕ) (kind : K)
    → IsWrong reader.short rest kind next → read reader next place before rest ≡ Err (reader.fail kind place)
unfolding read
read_wrong reader (End None) place before rest kind wrong = absurd wrong
read_wrong reader (End (Some trailing)) place before [] kind wrong = absurd (omega (arith, wrong.0))
read_wrong {K} {E} {A} reader (End (Some trailing)) place before (b ∷ rest) kind wrong = ap (λ (k : K). Err (reader.fail k place))
    (sym wrong.1)
read_wrong {K} {E} {A} reader (NumberField size fault low high next) place before rest kind wrong =
    let then = on_number reader size next place before in
    let same : K → Result A E = λ k. Err (reader.fail k place) in
    let Goal : Type 0 = then (number_at reader size fault low high place rest) ≡ same kind in
    elim (number_step reader size fault low high place rest) as (λ _. Goal) [
      | Short short is ↦ elim wrong as (λ _. Goal) [
        | inl cut ↦ ap then is ∙ ap same (sym cut.1)
        | inr out ↦ absurd (omega (arith, short, out.0))
      ]
      | OutOfRange whole out_of is ↦ elim wrong as (λ _. Goal) [
        | inl cut ↦ absurd (omega (arith, whole, cut.0))
        | inr out ↦ ap then is ∙ ap same (sym out.1)
      ]
      | Within whole enough within is ↦ elim wrong as (λ _. Goal) [
        | inl cut ↦ absurd (omega (arith, whole, cut.0))
        | inr out ↦ elim out.2 as (λ _. Goal) [
          | inl below ↦ absurd (omega (arith, below, enough))
          | inr above ↦ absurd (omega (arith, above, within))
        ]
      ]
    ]
read_wrong {K} {E} {A} reader (BytesField len next) place before rest kind wrong =
    let then = on_bytes reader len next place before in
    let same : K → Result A E = λ k. Err (reader.fail k place) in
    elim (bytes_step reader len place rest) as (λ _. then (bytes_at reader len place rest) ≡ same kind) [
      | Short short is ↦ ap then is ∙ ap same (sym wrong.1)
      | Enough enough is ↦ absurd (omega (arith, enough, wrong.0))
    ]

-- entries in all fields are read from their spelling, whatever may follow it
pub read-whole : {K E A : Type 0} (reader : Reader K E A) (format : Format K) (at : ℕ) (es : List Entry) (trailing : Option K)
    (rest : List ℕ) → IsSound format → After format es (IsEnd trailing) → MayFollow trailing rest
    → read reader format at [] (spelling format es ++ rest) ≡ Ok (reader.done es (at + length (spelling format es)))
read-whole reader format at es trailing rest sound after may =
    leads reader format at [] es rest (IsEnd trailing) (Ok (reader.done es (at + length (spelling format es)))) sound after
    (λ next place is_end e. read_end reader next place es trailing rest is_end may ∙ ap (λ (p : ℕ). Ok (reader.done es p)) e)

-- and the fault where something is wrong behind the first ones
pub read-wrong : {K E A : Type 0} (reader : Reader K E A) (format : Format K) (at : ℕ) (es : List Entry) (rest : List ℕ) (kind : K)
    → IsSound format → After format es (IsWrong reader.short rest kind)
    → read reader format at [] (spelling format es ++ rest) ≡ Err (reader.fail kind (at + length (spelling format es)))
read-wrong reader format at es rest kind sound after =
    leads reader format at [] es rest (IsWrong reader.short rest kind)
    (Err (reader.fail kind (at + length (spelling format es)))) sound after
    (λ next place wrong e. read_wrong reader next place es rest kind wrong ∙ ap (λ (p : ℕ). Err (reader.fail kind p)) e)

-- where bytes are at fault behind the last field, they are wrong there
wrong_behind : {K : Type 0} (short kind : K) (b : ℕ) (more : List ℕ) (next : Format K) → IsEnd (Some kind) next
    → IsWrong short (b ∷ more) kind next
wrong_behind short kind b more (End None) is_end = absurd cc
wrong_behind short kind b more (End (Some other)) is_end = (omega arith, cc)
wrong_behind short kind b more (NumberField size fault low high next) is_end = absurd is_end
wrong_behind short kind b more (BytesField len next) is_end = absurd is_end

-- and the fault where bytes follow entries in all fields, and none may
pub read-trailing : {K E A : Type 0} (reader : Reader K E A) (format : Format K) (at : ℕ) (es : List Entry) (kind : K) (b : ℕ)
    (more : List ℕ)
    → IsSound format → After format es (IsEnd (Some kind))
    → read reader format at [] (spelling format es ++ b ∷ more) ≡ Err (reader.fail kind (at + length (spelling format es)))
read-trailing reader format at es kind b more sound after =
    leads reader format at [] es (b ∷ more) (IsEnd (Some kind)) (Err (reader.fail kind (at + length (spelling format es)))) sound after
    (λ next place is_end e. read_wrong reader next place es (b ∷ more) kind (wrong_behind reader.short kind b more next is_end)
    ∙ ap (λ (p : ℕ). Err (reader.fail kind p)) e)

-- ---- what stands behind entries

-- it is spelt behind them
pub spelling-append : {K : Type 0} (format next : Format K) (es tail : List Entry) → After format es (λ f. f ≡ next)
    → spelling format (es ++ tail) ≡ spelling format es ++ spelling next tail
spelling-append {K} format next [] tail after = ap (λ (f : Format K). spelling f tail) after
spelling-append (End trailing) next (e ∷ es) tail after = absurd after
spelling-append (NumberField size fault low high others) next (Number n ∷ es) tail after =
    ap (λ (l : List ℕ). to_be_bytes (width size) n ++ l) (spelling-append (others n) next es tail after.2)
    ∙ sym (append_assoc (to_be_bytes (width size) n) (spelling (others n) es) (spelling next tail))
spelling-append (NumberField size fault low high others) next (Bytes b ∷ es) tail after = absurd after
spelling-append (BytesField len others) next (Number n ∷ es) tail after = absurd after
spelling-append (BytesField len others) next (Bytes b ∷ es) tail after =
    ap (λ (l : List ℕ). b ++ l) (spelling-append others next es tail after.1)
    ∙ sym (append_assoc b (spelling others es) (spelling next tail))

-- bytes behind entries are spelt behind them
pub spelling-last : {K : Type 0} (format : Format K) (es : List Entry) (b : List ℕ) (Q : Format K → Type 0)
    → After format (es ++ Bytes b ∷ []) Q → spelling format (es ++ Bytes b ∷ []) ≡ spelling format es ++ b
spelling-last (End trailing) [] b Q after = absurd after
spelling-last (NumberField size fault low high next) [] b Q after = absurd after
spelling-last (BytesField len next) [] b Q after = append-nil b
spelling-last (End trailing) (e ∷ es) b Q after = absurd after
spelling-last (NumberField size fault low high next) (Number n ∷ es) b Q after =
    ap (λ (l : List ℕ). to_be_bytes (width size) n ++ l) (spelling-last (next n) es b Q after.2)
    ∙ sym (append_assoc (to_be_bytes (width size) n) (spelling (next n) es) b)
spelling-last (NumberField size fault low high next) (Bytes c ∷ es) b Q after = absurd after
spelling-last (BytesField len next) (Number n ∷ es) b Q after = absurd after
spelling-last (BytesField len next) (Bytes c ∷ es) b Q after =
    ap (λ (l : List ℕ). c ++ l) (spelling-last next es b Q after.1) ∙ sym (append_assoc c (spelling next es) b)
