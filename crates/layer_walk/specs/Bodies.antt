-- What is told of what a member holds.
use Rattle.std.specs.Prelude.{ℕ, List, [], ◌∷◌, Option, Some, None}
use Rattle.layer_walk.specs.declared.auxiliary.Aux.{Aux}
use Rattle.layer_walk.specs.declared.refusal.Refusal.{Refusal}
use Rattle.layer_walk.specs.declared.refusal.Stage.TheVariants.{Layer}
use Rattle.layer_walk.specs.Seen.{InnerView}
use Rattle.layer_walk.specs.Members.{Next}
use Rattle.layer_walk.specs.Members.Next.{Refused, Last, Inner}

-- the report of the next level that a member with this record holds
abbrev pub inner_in : ℕ → Next → Option InnerView
inner_in i (Refused why) = None
inner_in i (Last extra) = None
inner_in i (Inner frame) = Some (record { index = i; frame = frame })

-- what is refused of a member with this record at level l
abbrev pub refusal_in : ℕ → ℕ → Next → Option Refusal
refusal_in l i (Refused why) = Some (record { index = i; stage = Layer l; why = why })
refusal_in l i (Last extra) = None
refusal_in l i (Inner frame) = None

-- the extra bytes, if there are some
abbrev pub extra_bytes : ℕ → ℕ → List ℕ → Option Aux
extra_bytes l i [] = None
extra_bytes l i (byte ∷ bytes) = Some (record { index = i; level = l; bytes = byte ∷ bytes })

-- the extra bytes that a member with this record holds at level l, if there are some
abbrev pub aux_in : ℕ → ℕ → Next → Option Aux
aux_in l i (Refused why) = None
aux_in l i (Last extra) = extra_bytes l i extra
aux_in l i (Inner frame) = None
