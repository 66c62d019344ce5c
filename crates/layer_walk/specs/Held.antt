-- What the code answers for a member, and what it keeps of the members of an opened group.
use Rattle.std.specs.Prelude.{◌≡◌, ℕ, nat_le, List, [], ◌∷◌, ◌++◌, length, if◌then◌else◌}
use Rattle.std.specs.List.{filter_map, cons_option}
use Rattle.report_frame.specs.declared.version.Version.{Version}
use Rattle.tag_groups.specs.RowView.{RowView}
use Rattle.layer_walk.specs.declared.body.Body.{Body}
use Rattle.layer_walk.specs.declared.body.Body.TheVariants as body
use Rattle.layer_walk.specs.declared.keys.Keys.{Keys}
use Rattle.layer_walk.specs.declared.member.Held.{Held}
use Rattle.layer_walk.specs.declared.refusal.Why.TheVariants.{BodyTail}
use Rattle.layer_walk.specs.Members.{Next, most_after_last}
use Rattle.layer_walk.specs.Members.Next.{Refused, Last, Inner}
use Rattle.layer_walk.specs.Outs.{inner_under, refusal_under, aux_under}

-- what the bytes behind the 0 of a last layer are
abbrev pub last_or_refused : Version → List ℕ → Next
last_or_refused v extra = if nat_le (length extra) (most_after_last v) then Last extra else Refused BodyTail

-- the last layer of a report of level l, with its extra bytes, if there are some
abbrev pub last_seen : ℕ → ℕ → List ℕ → Body
last_seen l i [] = body.Last
last_seen l i (byte ∷ bytes) = body.Extra (record { index = i; level = l; bytes = byte ∷ bytes })

-- what a member with this record holds at level l, as the code has it
abbrev pub body_seen : ℕ → ℕ → Next → Body
body_seen l i (Refused why) = body.Refused why
body_seen l i (Last extra) = last_seen l i extra
body_seen l i (Inner frame) = body.Next (record { index = i; frame = frame })

-- what the rows hold in a group of these keys
pub record HeldOf (keys : Keys) (rows : List RowView) (held : Held) : Type 0 where
  pub inner : held.inner ≡ filter_map (inner_under keys) rows
  pub refusals : held.refusals ≡ filter_map (refusal_under keys) rows
  pub aux : held.aux ≡ filter_map (aux_under keys) rows

-- and with one row more
pub record HoldsMore (keys : Keys) (row : RowView) (old new : Held) : Type 0 where
  pub inner : new.inner ≡ old.inner ++ cons_option (inner_under keys row) []
  pub refusals : new.refusals ≡ old.refusals ++ cons_option (refusal_under keys row) []
  pub aux : new.aux ≡ old.aux ++ cons_option (aux_under keys row) []
