-- The names of refusals, and where a report is refused.
use Rattle.std.specs.Prelude.{ℕ, List, codes}
use Rattle.std.specs.Fmt.{decimal}
use Rattle.report_frame.specs.Names.{name_of}
use Rattle.layer_walk.specs.declared.refusal.Stage.{Stage}
use Rattle.layer_walk.specs.declared.refusal.Stage.TheVariants.{Outer, Layer}
use Rattle.layer_walk.specs.declared.refusal.Why.{Why}
use Rattle.layer_walk.specs.declared.refusal.Why.TheVariants.{CutLength, CutRecord, Frame, WrongEpoch, WrongLevel, WrongVersion, Seal, BodyKind, BodyTail}

-- bytes that are no frame are refused under the name of their fault
abbrev pub why_name : Why → List ℕ
why_name CutLength = codes "CutLength"
why_name CutRecord = codes "CutRecord"
why_name (Frame kind) = name_of kind
why_name WrongEpoch = codes "WrongEpoch"
why_name WrongLevel = codes "WrongLevel"
why_name WrongVersion = codes "WrongVersion"
why_name Seal = codes "Seal"
why_name BodyKind = codes "BodyKind"
why_name BodyTail = codes "BodyTail"

-- a record is refused outside all groups, and a body at the level of its group
abbrev pub stage_text : Stage → List ℕ
stage_text Outer = codes "outer"
stage_text (Layer level) = decimal level
