-- The names under which faults are printed.
use Rattle.std.specs.Prelude.{ℕ, List, codes}
use Rattle.report_frame.specs.declared.fault.FaultKind.{FaultKind}
use Rattle.report_frame.specs.declared.fault.FaultKind.TheVariants.{TooLong, Truncated, Magic, Version, Level, Threshold, Point, Share, BoxLength, BodyLength, Trailing}

abbrev pub name_of : FaultKind → List ℕ
name_of TooLong = codes "TooLong"
name_of Truncated = codes "Truncated"
name_of Magic = codes "Magic"
name_of Version = codes "Version"
name_of Level = codes "Level"
name_of Threshold = codes "Threshold"
name_of Point = codes "Point"
name_of Share = codes "Share"
name_of BoxLength = codes "BoxLength"
name_of BodyLength = codes "BodyLength"
name_of Trailing = codes "Trailing"
