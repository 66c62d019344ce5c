-- What the laws of the walk say.
use Rattle.std.specs.Prelude.{◌≡◌, ℕ, Bool, ◌+◌, ◌-◌, ◌*◌, ◌≤◌, ◌==◌, not, nat_lt, List, [], ◌∷◌, length, map, filter, All, Option, Some, None, Result, Ok, Err, if◌then◌else◌}
use Rattle.std.specs.Ordering.{nat_cmp}
use Rattle.std.specs.declared.cmp.Ordering.{Ordering}
use Rattle.std.specs.List.{Contains, filter_map, list_any}
use Rattle.star_io.specs.Bytes.{AreBytes}
use Rattle.star_io.specs.declared.record.Record.{Record}
use Rattle.star_io.specs.declared.record.Record.TheVariants.{Whole, TooLong, CutLength, CutRecord}
use Rattle.report_frame.specs.Frame.{Fields, IsFrame}
use Rattle.report_frame.specs.declared.head.Head.{Head}
use Rattle.report_frame.specs.View.{head_of}
use Rattle.star_lists.specs.Elements.{EquallyOften}
use Rattle.shamir_limbs.specs.declared.share.Point.{Point}
use Rattle.shamir_limbs.specs.KeyLine.{agreement_of_all}
use Rattle.adss_commit.specs.declared.context.Context.{Context}
use Rattle.adss_commit.specs.Derivation.{polynomial, context_head}
use Rattle.layer_walk.specs.declared.auxiliary.Aux.{Aux}
use Rattle.layer_walk.specs.declared.refusal.Refusal.{Refusal}
use Rattle.layer_walk.specs.declared.refusal.Stage.{Stage}
use Rattle.layer_walk.specs.declared.refusal.Stage.TheVariants.{Outer}
use Rattle.layer_walk.specs.declared.refusal.Why.{Why}
use Rattle.layer_walk.specs.declared.level.Parent.{Parent}
use Rattle.layer_walk.specs.declared.revealed.Revealed.{Revealed}
use Rattle.layer_walk.specs.Rows.{Row, same_group, members, first_members, points_left}
use Rattle.layer_walk.specs.Outcomes.{outcome_at}
use Rattle.layer_walk.specs.Members.{Next, next_at}
use Rattle.layer_walk.specs.Levels.{where_opened, next_rows}
use Rattle.layer_walk.specs.Reveal.{first_frame}

-- a number above i lowered by 1
abbrev pub lowered : ℕ → ℕ → ℕ
lowered i n = if nat_lt i n then n - 1 else n

abbrev pub lowered_refusal : ℕ → Refusal → Refusal
lowered_refusal i r = record { index = lowered i r.index; stage = r.stage; why = r.why }

-- the refusals of other records than i, those above i lowered by 1
abbrev pub refusals_without : ℕ → List Refusal → List Refusal
refusals_without i refusals = map (lowered_refusal i) (filter (λ r. not (r.index == i)) refusals)

abbrev pub lowered_aux : ℕ → Aux → Aux
lowered_aux i a = record { index = lowered i a.index; level = a.level; bytes = a.bytes }

-- Without record i, which is refused in the outer stage: only its refusal is gone, and the numbers above i are lowered.
pub record OnlyLacks (before after : Revealed) (i : ℕ) (reason : Why) : Type 0 where
  pub records : before.records ≡ after.records + 1
  pub rows : after.rows ≡ before.rows
  pub groups : after.groups ≡ before.groups
  pub levels : after.levels ≡ before.levels
  pub refused : Contains before.refusals (record { index = i; stage = Outer; why = reason })
  pub refusals : after.refusals ≡ refusals_without i before.refusals
  pub aux : after.aux ≡ map (lowered_aux i) before.aux

-- ---- the nonce, body and seal of a row

-- the row without the nonce, the body and the seal of its frame
abbrev pub outside_of : Row → Row
outside_of row = record row { frame = record row.frame { nonce = []; body = []; seal = [] } }

-- a group's parent and head
pub record GroupKey : Type 0 where
  pub parent : Parent
  pub head : Head

abbrev pub key_of : Row → GroupKey
key_of row = record { parent = row.parent; head = head_of row.frame }

-- the parents and heads of the groups, in the order of their first members
abbrev pub group_keys : List Row → List GroupKey
group_keys rows = map key_of (first_members rows)

-- the numbers of the members of the row's group
abbrev pub member_numbers : List Row → Row → List ℕ
member_numbers rows row = map (λ (r : Row). r.index) (members rows row)

-- what the row holds, where its group is opened
abbrev pub held_by : ℕ → ℕ → List Row → Row → Option Next
held_by e l rows row = where_opened (λ value agree. Some (next_at e l row value)) (outcome_at e l rows row)

-- Both lists of rows have the same groups, with the same members, points left and outcomes, and a row holds the same in both.
pub record SameGroups (e l : ℕ) (one other : List Row) : Type 0 where
  pub groups : group_keys one ≡ group_keys other
  pub members : (row : Row) → member_numbers one row ≡ member_numbers other row
  pub points : (row : Row) → points_left one row ≡ points_left other row
  pub outcomes : (row : Row) → outcome_at e l one row ≡ outcome_at e l other row
  pub held : (row : Row) → held_by e l one row ≡ held_by e l other row

-- ---- rows that stand equally often in two lists, whatever their numbers

-- a row without its number
pub record Report : Type 0 where
  pub parent : Parent
  pub frame : Fields

abbrev pub report_of : Row → Report
report_of row = record { parent = row.parent; frame = row.frame }

-- the rows without their numbers
abbrev pub reports : List Row → List Report
reports rows = map report_of rows

-- the row's parent and head have a group
abbrev pub has_group : List Row → Row → Bool
has_group rows row = list_any (same_group row) rows

-- For each parent and head both lists have a group or neither has, and the two have the same points left, outcome and number
-- of members; and the rows of the next level stand equally often again.
pub record SameWalk (e l : ℕ) (one other : List Row) : Type 0 where
  pub groups : (row : Row) → has_group one row ≡ has_group other row
  pub points : (row : Row) → points_left one row ≡ points_left other row
  pub outcomes : (row : Row) → outcome_at e l one row ≡ outcome_at e l other row
  pub members : (row : Row) → length (members one row) ≡ length (members other row)
  pub next : EquallyOften (reports (next_rows e l one)) (reports (next_rows e l other))

-- Both reveals tell the same rows, groups and levels.
pub record TellAlike (one other : Revealed) : Type 0 where
  pub rows : one.rows ≡ other.rows
  pub groups : one.groups ≡ other.groups
  pub levels : one.levels ≡ other.levels

-- why a record is refused, without its number
pub record Reason : Type 0 where
  pub stage : Stage
  pub why : Why

abbrev pub reason_of : Refusal → Reason
reason_of r = record { stage = r.stage; why = r.why }

-- Both reveals refuse equally often for each stage and reason.
abbrev pub RefuseAlike : Revealed → Revealed → Type 0
RefuseAlike one other = EquallyOften (map reason_of one.refusals) (map reason_of other.refusals)

-- extra bytes with their level, without the number of their record
pub record Extra : Type 0 where
  pub level : ℕ
  pub bytes : List ℕ

abbrev pub extra_of : Aux → Extra
extra_of a = record { level = a.level; bytes = a.bytes }

-- Both reveals tell the same extra bytes of the same levels, each equally often.
abbrev pub ExtrasAlike : Revealed → Revealed → Type 0
ExtrasAlike one other = EquallyOften (map extra_of one.aux) (map extra_of other.aux)

abbrev pub frame_in : Result Fields Why → Option Fields
frame_in (Ok frame) = Some frame
frame_in (Err why) = None

-- the frames of the epoch and level 0 among the records
abbrev pub first_frames : ℕ → List Record → List Fields
first_frames e records = filter_map (λ r. frame_in (first_frame e r)) records

-- ---- honest points

-- how many of the points lie on the polynomials of the context
abbrev pub honest : Context → List Point → ℕ
honest c points = agreement_of_all (polynomial c 0) (polynomial c 1) (polynomial c 2) points

-- The row's group is one of this context: its head is the context's, its parent has the context's parent check, and enough of
-- its points left lie on the context's polynomials.
pub record IsHonest (c : Context) (rows : List Row) (row : Row) : Type 0 where
  pub check : row.parent.check ≡ c.parent
  pub head : head_of row.frame ≡ context_head c
  pub many : c.k ≤ length (points_left rows row)
  pub enough : length (points_left rows row) + c.k ≤ 2 * honest c (points_left rows row)

-- ---- rows as frames

-- the record's bytes are bytes
abbrev pub IsByteRecord : Record → Type 0
IsByteRecord (Whole body) = AreBytes body
IsByteRecord (TooLong said) = Unit {0}
IsByteRecord (CutLength have) = Unit {0}
IsByteRecord (CutRecord said have) = Unit {0}

abbrev pub AreByteRecords : List Record → Type 0
AreByteRecords records = All IsByteRecord records

-- the row's frame is the frame of some bytes, of this epoch and this level
pub record IsRowAt (e l : ℕ) (row : Row) : Type 0 where
  pub bytes : List ℕ
  pub are_bytes : AreBytes bytes
  pub is_frame : IsFrame row.frame bytes
  pub epoch : row.frame.epoch ≡ e
  pub level : row.frame.level ≡ l

-- rows by the numbers of their records
abbrev pub by_number : Row → Row → Ordering
by_number a b = nat_cmp a.index b.index

abbrev pub one_or_none : {X : Type 0} → Option X → List X
one_or_none None = []
one_or_none (Some x) = x ∷ []
