-- The version of the command line: the text `1` or `2`.
use Rattle.std.specs.Prelude.{List, ℕ, codes, Option, Some, None, if◌then◌else◌}
use Rattle.std.specs.Str.{bytes_eq}
use Rattle.report_frame.specs.declared.version.Version.{Version}
use Rattle.report_frame.specs.declared.version.Version.TheVariants.{One, Two}

-- the version of a text
abbrev pub version_in : List ℕ → Option Version
version_in text =
    if bytes_eq text (codes "1") then Some One
    else if bytes_eq text (codes "2") then Some Two
    else None
