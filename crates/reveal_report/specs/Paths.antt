-- Paths as printed text.
use Rattle.std.specs.Prelude.{List, [], ◌++◌, ℕ, codes}
use Rattle.std.specs.List.{join_by}
use Rattle.std.specs.Fmt.{decimal}
use Rattle.report_frame.specs.declared.version.Version.{Version}
use Rattle.report_frame.specs.declared.version.Version.TheVariants.{One, Two}
use Rattle.layer_walk.specs.declared.path.Step.{Step}
use Rattle.reveal_report.specs.Escape.{escaped}

-- the version is named if it isn't the first
abbrev pub version_mark : Version → List ℕ
version_mark One = []
version_mark Two = codes "~2"

-- the value and the threshold
abbrev pub step_text : Step → List ℕ
step_text step = escaped step.value ++ codes "~" ++ decimal step.k ++ version_mark step.version

-- the steps, the outermost first, with a slash between each two
unfoldable pub path_text : List Step → List ℕ
path_text path = join_by step_text (codes "/") path
