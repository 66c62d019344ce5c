-- How a group comes out.
use Rattle.std.specs.Prelude.{ℕ, nat_lt, List, length, Option, Some, None, if◌then◌else◌}
use Rattle.report_frame.specs.declared.head.Head.{Head}
use Rattle.report_frame.specs.View.{head_of}
use Rattle.shamir_limbs.specs.declared.share.Point.{Point}
use Rattle.shamir_limbs.specs.declared.recovery.Recovered.{Recovered}
use Rattle.shamir_limbs.specs.Search.{key_line_of}
use Rattle.adss_commit.specs.Derivation.{opened_value}
use Rattle.layer_walk.specs.declared.outcome.Outcome.{Outcome}
use Rattle.layer_walk.specs.declared.outcome.Outcome.TheVariants.{Opened, Few, NoLine, BadValue}
use Rattle.layer_walk.specs.Rows.{Row, points_left}

-- the outcome where so many points agree on a key, and its value, if the head has one under the key
abbrev pub outcome_with : ℕ → Option (List ℕ) → Outcome
outcome_with agree None = BadValue
outcome_with agree (Some value) = Opened value agree

-- the outcome of a head under a parent with this check, where the points give this key, or none
abbrev pub outcome_under : ℕ → ℕ → List ℕ → Head → Option Recovered → Outcome
outcome_under e l check head None = NoLine
outcome_under e l check head (Some found) = outcome_with found.agree (opened_value found.key head check e l)

-- the outcome at this epoch and level of a group with this head and these points left, under a parent with this check
unfoldable pub outcome_of : ℕ → ℕ → List ℕ → Head → List Point → Outcome
outcome_of e l check head points =
    if nat_lt (length points) head.k then Few else outcome_under e l check head (key_line_of points head.k)

-- the outcome of the row's group
unfoldable pub outcome_at : ℕ → ℕ → List Row → Row → Outcome
outcome_at e l rows row = outcome_of e l row.parent.check (head_of row.frame) (points_left rows row)
