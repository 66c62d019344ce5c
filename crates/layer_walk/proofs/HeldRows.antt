-- The row that a row of the next level, a refusal, extra bytes and an opened group come from.
use Rattle.std.proofs.Common.{◌≡◌, ℕ, List, [], ◌∷◌, Option, Some, None, refl, sym, ap, ◌∙◌, length}
use Rattle.std.specs.Option.{option_map}
use Rattle.std.proofs.lemmas.Option.{same_Some, none-some}
use Rattle.layer_walk.specs.declared.auxiliary.Aux.{Aux}
use Rattle.layer_walk.specs.declared.outcome.Outcome.{Outcome}
use Rattle.layer_walk.specs.declared.outcome.Outcome.TheVariants.{Opened, Few, NoLine, BadValue}
use Rattle.layer_walk.specs.declared.refusal.Refusal.{Refusal}
use Rattle.layer_walk.specs.declared.refusal.Stage.TheVariants.{Layer}
use Rattle.layer_walk.specs.declared.path.Step.{Step}
use Rattle.layer_walk.specs.declared.level.Parent.{Parent}
use Rattle.layer_walk.specs.declared.revealed.OpenedGroup.{OpenedGroup}
use Rattle.layer_walk.specs.Rows.{Row, members, points_left}
use Rattle.layer_walk.specs.Outcomes.{outcome_at}
use Rattle.layer_walk.specs.Members.{Next, next_at}
use Rattle.layer_walk.specs.Members.Next.{Refused, Last, Inner}
use Rattle.layer_walk.specs.Seen.{InnerView}
use Rattle.layer_walk.specs.Bodies.{inner_in, refusal_in, extra_bytes, aux_in}
use Rattle.layer_walk.specs.Levels.{path_with, child_of, where_opened, under, next_row, refused_row, aux_row, opened_row, child_row}

-- where a group is opened, and what is there for its value
pub record OpenedTo {X : Type 0} (f : List ℕ → ℕ → Option X) (o : Outcome) (x : X) : Type 0 where
  pub value : List ℕ
  pub agree : ℕ
  pub opened : o ≡ Opened value agree
  pub gives : f value agree ≡ Some x

pub opened_to : {X : Type 0} (f : List ℕ → ℕ → Option X) (o : Outcome) (x : X) → where_opened f o ≡ Some x → OpenedTo f o x
opened_to f (Opened value agree) x h = record { value = value; agree = agree; opened = refl; gives = h }
opened_to f Few x h = absurd (none-some x h)
opened_to f NoLine x h = absurd (none-some x h)
opened_to f BadValue x h = absurd (none-some x h)

-- the row's group is opened, and this is what the row holds
pub record Holds (e l : ℕ) (rows : List Row) (row : Row) (next : Next) : Type 0 where
  pub value : List ℕ
  pub agree : ℕ
  pub opened : outcome_at e l rows row ≡ Opened value agree
  pub is : next_at e l row value ≡ next

-- it holds one thing
pub holds_one : (e l : ℕ) (rows : List Row) (row : Row) (one other : Next) → Holds e l rows row one → Holds e l rows row other → one ≡ other
holds_one e l rows row one other a b =
    let same : Opened a.value a.agree ≡ Opened b.value b.agree = sym a.opened ∙ b.opened in
    let value : a.value ≡ b.value = cc in
    sym a.is ∙ ap (next_at e l row) value ∙ b.is

-- ---- a row of the next level

inner_is : (i : ℕ) (next : Next) (inner : InnerView) → inner_in i next ≡ Some inner → (next ≡ Inner inner.frame) × (inner.index ≡ i)
inner_is i (Refused why) inner h = absurd (none-some inner h)
inner_is i (Last extra) inner h = absurd (none-some inner h)
inner_is i (Inner frame) inner h =
    let it = same_Some (let v : InnerView = record { index = i; frame = frame } in v) inner h in
    (ap (λ (v : InnerView). Inner v.frame) it, sym (ap (λ (v : InnerView). v.index) it))

pub mapped_is : {X Y : Type 0} (f : X → Y) (o : Option X) (y : Y) → option_map f o ≡ Some y → (x : X) × (o ≡ Some x) × (f x ≡ y)
mapped_is f None y h = absurd (none-some y h)
mapped_is f (Some x) y h = (x, refl, same_Some (f x) y h)

pub record NextFrom (e l : ℕ) (rows : List Row) (row next : Row) : Type 0 where
  pub held : Holds e l rows row (Inner next.frame)
  pub parent : next.parent ≡ child_of row held.value
  pub index : next.index ≡ row.index

pub next_from : (e l : ℕ) (rows : List Row) (row next : Row) → next_row e l rows row ≡ Some next → NextFrom e l rows row next
next_from e l rows row next h =
    let o = opened_to (λ value agree. option_map (under (child_of row value)) (inner_in row.index (next_at e l row value))) (outcome_at e l rows row) next h in
    let m = mapped_is (under (child_of row o.value)) (inner_in row.index (next_at e l row o.value)) next o.gives in
    let inner = inner_is row.index (next_at e l row o.value) m.0 m.1 in
    record {
      held = record { value = o.value; agree = o.agree; opened = o.opened; is = inner.0 ∙ ap (λ (r : Row). Inner r.frame) m.2 };
      parent = sym (ap (λ (r : Row). r.parent) m.2);
      index = sym (ap (λ (r : Row). r.index) m.2) ∙ inner.1;
    }

-- ---- a refusal

refusal_is : (l i : ℕ) (next : Next) (a : Refusal) → refusal_in l i next ≡ Some a → (next ≡ Refused a.why) × (a.index ≡ i) × (a.stage ≡ Layer l)
refusal_is l i (Refused why) a h =
    let it = same_Some (let r : Refusal = record { index = i; stage = Layer l; why = why } in r) a h in
    (ap (λ (r : Refusal). Refused r.why) it, sym (ap (λ (r : Refusal). r.index) it), sym (ap (λ (r : Refusal). r.stage) it))
refusal_is l i (Last extra) a h = absurd (none-some a h)
refusal_is l i (Inner frame) a h = absurd (none-some a h)

pub record RefusedFrom (e l : ℕ) (rows : List Row) (row : Row) (a : Refusal) : Type 0 where
  pub held : Holds e l rows row (Refused a.why)
  pub index : a.index ≡ row.index
  pub stage : a.stage ≡ Layer l

pub refused_from : (e l : ℕ) (rows : List Row) (row : Row) (a : Refusal) → refused_row e l rows row ≡ Some a → RefusedFrom e l rows row a
refused_from e l rows row a h =
    let o = opened_to (λ value agree. refusal_in l row.index (next_at e l row value)) (outcome_at e l rows row) a h in
    let is = refusal_is l row.index (next_at e l row o.value) a o.gives in
    record { held = record { value = o.value; agree = o.agree; opened = o.opened; is = is.0 }; index = is.1; stage = is.2 }

-- ---- extra bytes

extra_is : (l i : ℕ) (bytes : List ℕ) (a : Aux) → extra_bytes l i bytes ≡ Some a → (bytes ≡ a.bytes) × (a.index ≡ i)
extra_is l i [] a h = absurd (none-some a h)
extra_is l i (byte ∷ bytes) a h =
    let it = same_Some (let x : Aux = record { index = i; level = l; bytes = byte ∷ bytes } in x) a h in
    (ap (λ (x : Aux). x.bytes) it, sym (ap (λ (x : Aux). x.index) it))

aux_is : (l i : ℕ) (next : Next) (a : Aux) → aux_in l i next ≡ Some a → (next ≡ Last a.bytes) × (a.index ≡ i)
aux_is l i (Refused why) a h = absurd (none-some a h)
aux_is l i (Last extra) a h = let is = extra_is l i extra a h in (ap Last is.0, is.1)
aux_is l i (Inner frame) a h = absurd (none-some a h)

pub record AuxFrom (e l : ℕ) (rows : List Row) (row : Row) (a : Aux) : Type 0 where
  pub held : Holds e l rows row (Last a.bytes)
  pub index : a.index ≡ row.index

pub aux_from : (e l : ℕ) (rows : List Row) (row : Row) (a : Aux) → aux_row e l rows row ≡ Some a → AuxFrom e l rows row a
aux_from e l rows row a h =
    let o = opened_to (λ value agree. aux_in l row.index (next_at e l row value)) (outcome_at e l rows row) a h in
    let is = aux_is l row.index (next_at e l row o.value) a o.gives in
    record { held = record { value = o.value; agree = o.agree; opened = o.opened; is = is.0 }; index = is.1 }

-- ---- an opened group

-- the row's group is opened, and on this path
pub record OpenedOn (e l : ℕ) (rows : List Row) (row : Row) (path : List Step) : Type 0 where
  pub value : List ℕ
  pub agree : ℕ
  pub opened : outcome_at e l rows row ≡ Opened value agree
  pub path_is : path ≡ path_with row value

pub told_from : (e l : ℕ) (rows : List Row) (row : Row) (group : OpenedGroup) → opened_row e l rows row ≡ Some group
    → OpenedOn e l rows row group.path
told_from e l rows row group h =
    let told : List ℕ → ℕ → OpenedGroup =
    λ value agree. record {
      path = path_with row value;
      points = length (points_left rows row);
      agree = agree;
      members =
          length (members rows row);
    } in
    let o = opened_to (λ value agree. Some (told value agree)) (outcome_at e l rows row) group h in
    let same = same_Some (told o.value o.agree) group o.gives in
    record { value = o.value; agree = o.agree; opened = o.opened; path_is = sym (ap (λ (g : OpenedGroup). g.path) same) }

pub child_from : (e l : ℕ) (rows : List Row) (row : Row) (child : Parent) → child_row e l rows row ≡ Some child
    → OpenedOn e l rows row child.path
child_from e l rows row child h =
    let o = opened_to (λ value agree. Some (child_of row value)) (outcome_at e l rows row) child h in
    let same = same_Some (child_of row o.value) child o.gives in
    record { value = o.value; agree = o.agree; opened = o.opened; path_is = sym (ap (λ (p : Parent). p.path) same) }
