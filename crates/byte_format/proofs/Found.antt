-- What reading finds: the entries that the bytes begin with, or the place where they go wrong.
use Rattle.std.proofs.Common.{◌≡◌, ℕ, ◌+◌, List, [], ◌∷◌, ◌++◌, length, take, drop, Option, Some, None, Ok, Err, refl, sym, ap, ◌∙◌, append_assoc, arith, inl, inr, length-append}
use Rattle.std.specs.Int.{to_be_bytes}
use Rattle.std.proofs.lemmas.List.{take-append-drop, length-take, append-nil}
use Rattle.star_io.specs.Bytes.{AreBytes}
use Rattle.star_io.proofs.ByteLists.{AreBytes-take, AreBytes-drop}
use Rattle.byte_format.specs.Format.{Size, Format, Entry, After, IsEnd, MayFollow, IsWrong, spelling, width, bytes_of, number_of}
use Rattle.byte_format.specs.Format.Format.{End, NumberField, BytesField}
use Rattle.byte_format.specs.Format.Entry.{Number, Bytes}
use Rattle.byte_format.specs.Reading.{Reader, read}
use Rattle.byte_format.proofs.Sizes.{spelling_of_number, length_of_spelling}
use Rattle.byte_format.proofs.OneField.{on_number, on_bytes, number_step, bytes_step, Short, OutOfRange, Within, Enough}

-- entries in all fields, or in the first ones, with something wrong behind them
pub data Found {K E A : Type 0} (reader : Reader K E A) (format : Format K) (at : ℕ) (before : List Entry) (bytes : List ℕ) : Type 0 where
  Whole : (es : List Entry) (rest : List ℕ) (trailing : Option K) (place : ℕ) → After format es (IsEnd trailing) → MayFollow trailing rest
      → bytes ≡ spelling format es ++ rest → place ≡ at + length (spelling format es)
      → read reader format at before bytes ≡ Ok (reader.done (before ++ es) place) → Found reader format at before bytes
  Wrong : (es : List Entry) (rest : List ℕ) (kind : K) (place : ℕ) → After format es (IsWrong reader.short rest kind)
      → bytes ≡ spelling format es ++ rest → place ≡ at + length (spelling format es)
      → read reader format at before bytes ≡ Err (reader.fail kind place) → Found reader format at before bytes

found_end : {K E A : Type 0} (reader : Reader K E A) (trailing : Option K) (at : ℕ) (before : List Entry) (bytes : List ℕ)
    → Found reader (End trailing) at before bytes
unfolding read
found_end reader None at before bytes =
    Whole [] bytes None at refl tt refl (omega arith) (ap (λ (es : List Entry). Ok (reader.done es at)) (sym (append-nil before)))
found_end reader (Some kind) at before [] =
    Whole [] [] (Some kind) at refl refl refl (omega arith) (ap (λ (es : List Entry). Ok (reader.done es at)) (sym (append-nil before)))
found_end reader (Some kind) at before (b ∷ bytes) = Wrong [] (b ∷ bytes) kind at (omega arith, refl) refl (omega arith) refl

found_number : {K E A : Type 0} (reader : Reader K E A) (size : Size) (fault : K) (low high : ℕ) (next : ℕ → Format K) (at : ℕ)
    (before : List Entry) (bytes : List ℕ) → AreBytes bytes
    → ((n : ℕ) (front : List Entry) (after : List ℕ) → AreBytes after → Found reader (next n) (at + bytes_of size) front after)
    → Found reader (NumberField size fault low high next) at before bytes
unfolding read
found_number reader size fault low high next at before bytes are_bytes others =
    let front = take (bytes_of size) bytes in
    let back = drop (bytes_of size) bytes in
    let n = number_of size front in
    let then = on_number reader size next at before in
    elim (number_step reader size fault low high at bytes) [
      | Short short is ↦ Wrong [] bytes reader.short at (inl (short, refl)) refl (omega arith) (ap then is)
      | OutOfRange whole out is ↦ Wrong [] bytes fault at (inr (whole, refl, out)) refl (omega arith) (ap then is)
      | Within whole enough within is ↦
          let front_len : length front ≡ bytes_of size = omega (arith, length-take (bytes_of size) bytes) in
          let spelt : to_be_bytes (width size) n ≡ front =
          spelling_of_number size front front_len (AreBytes-take (bytes_of size) bytes are_bytes) in
          let parts : bytes ≡ to_be_bytes (width size) n ++ back =
          sym (ap (λ (l : List ℕ). l ++ back) spelt ∙ take-append-drop (bytes_of size) bytes) in
          let longer : (es : List Entry) → length (to_be_bytes (width size) n ++ spelling (next n) es)
          ≡ bytes_of size + length (spelling (next n) es) =
          λ es. omega (arith, length_of_spelling size n, length-append (to_be_bytes (width size) n) (spelling (next n) es)) in
          let again : (es : List Entry) (rest : List ℕ) → back ≡ spelling (next n) es ++ rest
          → bytes ≡ (to_be_bytes (width size) n ++ spelling (next n) es) ++ rest = λ es rest back_is.
          parts ∙ ap (λ (l : List ℕ). to_be_bytes (width size) n ++ l) back_is
          ∙ sym (append_assoc (to_be_bytes (width size) n) (spelling (next n) es) rest) in
          elim (others n (before ++ Number n ∷ []) back (AreBytes-drop (bytes_of size) bytes are_bytes)) [
            | Whole es rest trailing place after may back_is place_is found ↦
                Whole (Number n ∷ es) rest trailing place (enough, within, after) may (again es rest back_is)
                (omega (arith, place_is, longer es))
                (ap then is ∙ found ∙ ap (λ (l : List Entry). Ok (reader.done l place)) (append_assoc before (Number n ∷ []) es))
            | Wrong es rest kind place after back_is place_is found ↦
                Wrong (Number n ∷ es) rest kind place (enough, within, after) (again es rest back_is) (omega (arith, place_is, longer es))
                (ap then is ∙ found)
          ]
    ]

found_bytes : {K E A : Type 0} (reader : Reader K E A) (len : ℕ) (next : Format K) (at : ℕ) (before : List Entry) (bytes : List ℕ)
    → AreBytes bytes → ((front : List Entry) (after : List ℕ) → AreBytes after → Found reader next (at + len) front after)
    → Found reader (BytesField len next) at before bytes
unfolding read
found_bytes reader len next at before bytes are_bytes others =
    let front = take len bytes in
    let back = drop len bytes in
    let then = on_bytes reader len next at before in
    elim (bytes_step reader len at bytes) [
      | Short short is ↦ Wrong [] bytes reader.short at (short, refl) refl (omega arith) (ap then is)
      | Enough enough is ↦
          let front_len : length front ≡ len = omega (arith, length-take len bytes) in
          let parts : bytes ≡ front ++ back = sym (take-append-drop len bytes) in
          let longer : (es : List Entry) → length (front ++ spelling next es) ≡ len + length (spelling next es) =
          λ es. omega (arith, front_len, length-append front (spelling next es)) in
          let again : (es : List Entry) (rest : List ℕ) → back ≡ spelling next es ++ rest → bytes ≡ (front ++ spelling next es) ++ rest =
          λ es rest back_is. parts ∙ ap (λ (l : List ℕ). front ++ l) back_is ∙ sym (append_assoc front (spelling next es) rest) in
          elim (others (before ++ Bytes front ∷ []) back (AreBytes-drop len bytes are_bytes)) [
            | Whole es rest trailing place after may back_is place_is found ↦
                Whole (Bytes front ∷ es) rest trailing place (front_len, after) may (again es rest back_is)
                (omega (arith, place_is, longer es))
                (ap then is ∙ found ∙ ap (λ (l : List Entry). Ok (reader.done l place)) (append_assoc before (Bytes front ∷ []) es))
            | Wrong es rest kind place after back_is place_is found ↦
                Wrong (Bytes front ∷ es) rest kind place (front_len, after) (again es rest back_is) (omega (arith, place_is, longer es))
                (ap then is ∙ found)
          ]
    ]

pub found : {K E A : Type 0} (reader : Reader K E A) (format : Format K) (at : ℕ) (before : List Entry) (bytes : List ℕ) → AreBytes bytes
    → Found reader format at before bytes
found reader (End trailing) at before bytes are_bytes = found_end reader trailing at before bytes
found reader (NumberField size fault low high next) at before bytes are_bytes =
    found_number reader size fault low high next at before bytes are_bytes
    (λ n front after h. found reader (next n) (at + bytes_of size) front after h)
found reader (BytesField len next) at before bytes are_bytes =
    found_bytes reader len next at before bytes are_bytes (λ front after h. found reader next (at + len) front after h)
