-- A sink over memory.
use Rattle.std.specs.Prelude.{◌≡◌, ℕ, ◌-◌, min, nat_lt, ◌==◌, ◌||◌, ◌↔◌, IsTrue, List, ◌++◌, length, take, Option, Result, IsErr, unwrap_or, is_some, find}
use Rattle.std.specs.Option.{option_map}
use Rattle.star_io.specs.Faults.{count_after, CountsFault}
use Rattle.star_io.specs.declared.memory_sink.FailAt.{FailAt}

-- what was told, the room that was reserved, the calls that fail, and the counts of calls and of faults
pub record SinkState : Type 0 where
  pub told : List ℕ
  pub room : ℕ
  pub fails : List FailAt
  pub calls : ℕ
  pub faults : ℕ

-- how many bytes a call takes at most that fails by name
abbrev pub named : List FailAt → ℕ → Option ℕ
named fails call = option_map (λ entry. entry.after) (find (λ entry. entry.call == call) fails)

-- how many bytes of a piece a call takes
abbrev pub put_count : SinkState → ℕ → ℕ
put_count state size = min size (min (state.room - length state.told) (unwrap_or (named state.fails state.calls) size))

-- one put, beside what every sink does
pub record PutsInMemory {T E : Type 0} (old new : SinkState) (piece : List ℕ) (result : Result T E) : Type 0 where
  pub told : new.told ≡ old.told ++ take (put_count old (length piece)) piece
  pub fails : IsErr result ↔ IsTrue (is_some (named old.fails old.calls) || nat_lt (old.room - length old.told) (length piece))
  pub calls : new.calls ≡ count_after old.calls
  pub faults : CountsFault old.faults new.faults result
  pub same_room : new.room ≡ old.room
  pub same_fails : new.fails ≡ old.fails
