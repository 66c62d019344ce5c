-- The polynomials by which a group is opened.
use Rattle.std.specs.Prelude.{◌≡◌, ℕ, ◌≤◌, List, length, Option, IsNone, IsSomeAnd}
use Rattle.shamir_limbs.specs.KeyLine.{IsKeyLine}
use Rattle.shamir_limbs.specs.Search.{recovered_from}
use Rattle.shamir_limbs.specs.declared.recovery.KeyLine.{KeyLine}
use Rattle.shamir_limbs.specs.declared.share.Point.{Point}
use Rattle.layer_walk.specs.declared.outcome.Outcome.{Outcome}
use Rattle.layer_walk.specs.declared.outcome.Outcome.TheVariants.{Opened, Few, NoLine, BadValue}

-- a key with its three polynomials, on which enough of the points lie, each with room for k coefficients
pub record IsLine (points : List Point) (k : ℕ) (q : KeyLine) : Type 0 where
  pub line : IsKeyLine q.first q.second q.third points k
  pub from : q.found ≡ recovered_from q.first q.second q.third points
  pub room : (k ≤ length q.first) × (k ≤ length q.second) × (k ≤ length q.third)

-- an opened group has such a line, and no other group has one
abbrev pub HasLine : List Point → ℕ → Option KeyLine → Outcome → Type 0
HasLine points k line (Opened value agree) = IsSomeAnd line (IsLine points k)
HasLine points k line Few = IsNone line
HasLine points k line NoLine = IsNone line
HasLine points k line BadValue = IsNone line
