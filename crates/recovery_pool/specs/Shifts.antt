-- How workers begin, and what they bring back.
use Rattle.std.specs.Prelude.{◌≡◌, ℕ, true, false, List, []}
use Rattle.recovery_pool.specs.declared.entry.Entry.{Entry}
use Rattle.recovery_pool.specs.Answers.{AnswersDrawn}
use Rattle.recovery_pool.specs.Seen.{PassSeen, TicketsId}

-- the pass belongs to these tickets, has drawn nothing and isn't spent
pub record IsFresh (tickets : TicketsId) (pass : PassSeen) : Type 0 where
  pub belongs : pass.of ≡ tickets
  pub drawn : pass.drawn ≡ []
  pub live : pass.spent ≡ false

-- the pass has this share and is spent, and the entries answer the numbers that it drew
pub record HasEnded {X : Type 0} (answers : ℕ → X → Type 0) (tickets : TicketsId) (share : ℕ) (pass : PassSeen) (entries : List (Entry X)) : Type 0 where
  pub belongs : pass.of ≡ tickets
  pub spent : pass.spent ≡ true
  pub whole : pass.share ≡ share
  pub answered : AnswersDrawn answers pass.drawn entries
