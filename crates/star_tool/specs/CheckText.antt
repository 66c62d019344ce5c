-- The lines of `check`: one for each record, and a last one that counts them (docs/FORMATS.md).
use Rattle.std.specs.Prelude.{◌≡◌, ℕ, ◌+◌, List, [], ◌∷◌, ◌++◌, length, map, count_by, Bool, true, false, not, codes, Result, Ok, Err}
use Rattle.std.specs.Fmt.{decimal}
use Rattle.star_io.specs.declared.record.Record.{Record}
use Rattle.star_io.specs.declared.record.Record.TheVariants.{Whole, TooLong, CutLength, CutRecord}
use Rattle.star_io.specs.declared.record.TheConstants.{MAX_RECORD_BYTES}
use Rattle.report_frame.specs.declared.version.Version.{Version}
use Rattle.report_frame.specs.declared.version.Version.TheVariants as version
use Rattle.report_frame.specs.declared.fault.Fault.{Fault}
use Rattle.report_frame.specs.Frame.{Fields}
use Rattle.report_frame.specs.Reading.{decoded}
use Rattle.report_frame.specs.Names.{name_of}

-- what is said of a record: it is the frame of these fields, or it is refused by a name and a number
pub data Finding : Type 0 where
  Good : Fields → Finding
  Refused : List ℕ → ℕ → Finding

-- the same of bytes that were read as a frame
abbrev pub finding_of_frame : Result Fields Fault → Finding
finding_of_frame (Ok fields) = Good fields
finding_of_frame (Err fault) = Refused (name_of fault.kind) fault.at

abbrev pub finding_of : Record → Finding
finding_of (Whole bytes) = finding_of_frame (decoded bytes)
finding_of (TooLong said) = Refused (codes "TooLong") MAX_RECORD_BYTES
finding_of (CutLength have) = Refused (codes "CutLength") have
finding_of (CutRecord said have) = Refused (codes "CutRecord") have

abbrev pub is_good : Finding → Bool
is_good (Good fields) = true
is_good (Refused name at) = false

-- the version is named where it isn't the first
abbrev pub version_text : Version → List ℕ
version_text version.One = []
version_text version.Two = codes " version=2"

abbrev pub good_head : (i : ℕ) → Version → (level epoch : ℕ) → List ℕ
good_head i version level epoch = decimal i ++ codes " good" ++ version_text version ++ codes " level=" ++ decimal level ++ codes " epoch=" ++ decimal epoch

abbrev pub good_tail : (k box body : ℕ) → List ℕ
good_tail k box body = codes " k=" ++ decimal k ++ codes " box=" ++ decimal box ++ codes " body=" ++ decimal body ++ codes "\n"

-- the line of record i
abbrev pub line : ℕ → Finding → List ℕ
line i (Good r) = good_head i r.version r.level r.epoch ++ good_tail r.k (length r.boxed) (length r.body)
line i (Refused name at) = decimal i ++ codes " refused " ++ name ++ codes " " ++ decimal at ++ codes "\n"

-- the lines of findings whose records are numbered from i
abbrev pub lines_from : ℕ → List Finding → List ℕ
lines_from i [] = []
lines_from i (f ∷ fs) = line i f ++ lines_from (i + 1) fs

abbrev pub count_line : (all good refused : ℕ) → List ℕ
count_line all good refused = codes "records=" ++ decimal all ++ codes " good=" ++ decimal good ++ codes " refused=" ++ decimal refused ++ codes "\n"

abbrev pub last_line : List Finding → List ℕ
last_line fs = count_line (length fs) (count_by is_good fs) (count_by (λ f. not (is_good f)) fs)

-- the text for these records
abbrev pub check_text_of : List Record → List ℕ
check_text_of records = let findings = map finding_of records in lines_from 0 findings ++ last_line findings

-- the line of record i was put behind a text, and the answer says whether it is good
abbrev pub WritesLine : ℕ → Finding → Bool → List ℕ → List ℕ → Type 0
WritesLine i f good old new = (good ≡ is_good f) × (new ≡ old ++ line i f)

-- the text has the lines of these findings, of which so many are good and so many refused
pub record HasLines (findings : List Finding) (good refused : ℕ) (text : List ℕ) : Type 0 where
  pub lines : text ≡ lines_from 0 findings
  pub good_are : good ≡ count_by is_good findings
  pub refused_are : refused ≡ count_by (λ f. not (is_good f)) findings
