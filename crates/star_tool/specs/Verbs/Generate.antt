-- The command `gen`.
use Rattle.std.specs.Prelude.{ℕ, List}
use Rattle.nest_client.specs.Generator.{drawn_records}
use Rattle.layer_walk.specs.Reveal.{reveal_of}
use Rattle.reveal_report.specs.RevealText.{summary_of}
use Rattle.star_tool.specs.declared.verbs.generate.TheConstants.{TRIAL_EPOCH}

-- the summary of what the records of a stream for trials tell
abbrev pub gen_output : (number reports liars : ℕ) → List ℕ
gen_output number reports liars = summary_of (reveal_of TRIAL_EPOCH (drawn_records number reports liars))
