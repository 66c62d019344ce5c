-- Reading bytes as a frame, to its report or to the first fault.
use Rattle.std.specs.Prelude.{◌≡◌, ℕ, List, [], ◌∷◌, length, take, Option, Some, None, Result, Ok, Err, Bool, nat_lt, ◌&&◌, if◌then◌else◌}
use Rattle.std.specs.Str.{bytes_eq}
use Rattle.report_frame.specs.declared.limits.TheConstants.{MAGIC, MAX_FRAME_ONE, MAX_FRAME_TWO}
use Rattle.report_frame.specs.declared.fault.FaultKind.{FaultKind}
use Rattle.report_frame.specs.declared.fault.FaultKind.TheVariants.{TooLong, Truncated}
use Rattle.report_frame.specs.declared.fault.Fault.{Fault}
use Rattle.report_frame.specs.declared.fault.Misread.{Misread}
use Rattle.report_frame.specs.Misread.{fault_of}
use Rattle.report_frame.specs.declared.version.Version.TheVariants.{One}
use Rattle.report_frame.specs.Versions.{version_number, version_of}
use Rattle.byte_format.specs.Format.{Entry, spelling}
use Rattle.byte_format.specs.Format.Entry.{Number}
use Rattle.byte_format.specs.Reading.{Reader, ◌>>=◌, read, number_in, bytes_in}
use Rattle.report_frame.specs.Frame.{Fields, frame}

-- A reader of frames: a field that is cut short is of kind `Truncated`, and the entries are kept.
abbrev pub frames : Reader FaultKind Fault (List Entry)
frames = record { fail = λ kind at. record { kind = kind; at = at }; short = Truncated; done = λ es at. es }

-- What a call answered, seen by view, is what reading gives; its fault is still a misread.
abbrev pub Reads : {X Y : Type 0} → (X → Y) → Result X Misread → Result Y Fault → Type 0
Reads view (Ok x) read = read ≡ Ok (view x)
Reads view (Err e) read = read ≡ Err (fault_of e)

-- the report whose entries these are
abbrev pub fields_from : List Entry → Fields
fields_from es = record {
  version = version_of (number_in 1 es);
  level = number_in 2 es;
  epoch = number_in 3 es;
  k = number_in 4 es;
  x = number_in 5 es;
  y0 = number_in 6 es;
  y1 = number_in 7 es;
  y2 = number_in 8 es;
  tag = bytes_in 9 es;
  check = bytes_in 10 es;
  boxed = bytes_in 12 es;
  nonce = bytes_in 13 es;
  body = bytes_in 15 es;
  seal = bytes_in 16 es;
}

-- whether the first three bytes are the magic and the number of version 1
abbrev pub begins_as_one : List ℕ → Bool
begins_as_one bytes = bytes_eq (spelling frame (Number MAGIC ∷ Number (version_number One) ∷ [])) (take 3 bytes)

-- the limit that the bytes pass, where they are too long for a frame
abbrev pub passed_limit : List ℕ → Option ℕ
passed_limit bytes =
    if nat_lt MAX_FRAME_TWO (length bytes) then Some MAX_FRAME_TWO
    else if nat_lt MAX_FRAME_ONE (length bytes) && begins_as_one bytes then Some MAX_FRAME_ONE
    else None

-- what bytes that pass this limit or none give
abbrev pub decoded_under : Option ℕ → List ℕ → Result Fields Fault
decoded_under (Some limit) bytes = Err (record { kind = TooLong; at = limit })
decoded_under None bytes = read frames frame 0 [] bytes >>= λ es. Ok (fields_from es)

-- the report whose frame the bytes are, or their one fault
unfoldable pub decoded : List ℕ → Result Fields Fault
decoded bytes = decoded_under (passed_limit bytes) bytes
