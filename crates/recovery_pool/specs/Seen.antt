-- How tickets and passes are seen.
use Rattle.std.specs.Prelude.{ℕ, List, Bool}
use Rattle.atomic_table.specs.Seated.{TableId}

-- which tickets they are: over which table, and for how many jobs
pub record TicketsId : Type 0 where
  pub table : TableId
  pub jobs : ℕ

pub record TicketsSeen : Type 0 where
  pub id : TicketsId
  pub workers : ℕ

-- the number of the job, and the tickets that it was drawn from
pub record TicketSeen : Type 0 where
  pub number : ℕ
  pub of : TicketsId

-- the numbers that it drew in the order of its draws, what the word held at its last draw, its share, whether it is spent, and the tickets that it belongs to
pub record PassSeen : Type 0 where
  pub drawn : List ℕ
  pub found : ℕ
  pub share : ℕ
  pub spent : Bool
  pub of : TicketsId
