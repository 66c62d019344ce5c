-- The fields of the parts in which a frame is read.
use Rattle.std.specs.Prelude.{◌≡◌, List, ℕ, [], ◌∷◌, Some}
use Rattle.report_frame.specs.declared.fault.FaultKind.TheVariants.{Trailing}
use Rattle.report_frame.specs.declared.limits.TheConstants.{MAGIC}
use Rattle.report_frame.specs.declared.parts.Front.{Front}
use Rattle.report_frame.specs.declared.parts.Parts.{Parts}
use Rattle.report_frame.specs.Versions.{version_number}
use Rattle.byte_format.specs.Format.{Entry, After, IsEnd}
use Rattle.byte_format.specs.Format.Entry.{Number, Bytes}
use Rattle.report_frame.specs.Frame.{Fields, entries, frame, sealed_part}

abbrev pub fields_of_parts : Parts → Fields
fields_of_parts p = record {
  version = p.front.version;
  level = p.front.level;
  epoch = p.front.epoch;
  k = p.front.k;
  x = p.front.x;
  y0 = p.front.y0;
  y1 = p.front.y1;
  y2 = p.front.y2;
  tag = p.front.tag.now;
  check = p.front.check.now;
  boxed = p.boxed.now;
  nonce = p.nonce.now;
  body = p.body.now;
  seal = p.seal.now;
}

-- what stands in the fields before the length of the box
abbrev pub entries_of_front : Front → List Entry
entries_of_front f =
    Number MAGIC ∷ Number (version_number f.version) ∷ Number f.level ∷ Number f.epoch ∷ Number f.k ∷ Number f.x
    ∷ Number f.y0 ∷ Number f.y1 ∷ Number f.y2 ∷ Bytes f.tag.now ∷ Bytes f.check.now ∷ []

-- The parts are those of a frame, and these are its bytes before the seal.
pub record ViewsFrame (p : Parts) (sealed : List ℕ) : Type 0 where
  pub range : After frame (entries (fields_of_parts p)) (IsEnd (Some Trailing))
  pub sealed_is : sealed ≡ sealed_part (fields_of_parts p)
