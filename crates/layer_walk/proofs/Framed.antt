-- Each row of each level is a frame of the epoch and that level.
use Rattle.std.proofs.Common.{◌≡◌, ℕ, zero, suc, ◌+◌, ◌≤◌, true, false, not, nat_lt, List, [], ◌∷◌, Some, Result, Ok, Err, inl, inr, refl, sym, ap, ◌∙◌, subst, length, arith, All, eqb, eqb-true}
use Rattle.std.specs.Prelude.{if◌then◌else◌, nat_le}
use Rattle.std.proofs.lemmas.List.Elements.{All-from_recursion}
use Rattle.star_io.specs.Bytes.{AreBytes}
use Rattle.star_io.specs.declared.record.Record.{Record}
use Rattle.star_io.specs.declared.record.Record.TheVariants.{Whole, TooLong, CutLength, CutRecord}
use Rattle.star_io.proofs.ByteLists.{AreBytes-drop}
use Rattle.report_frame.specs.declared.fault.Fault.{Fault}
use Rattle.report_frame.specs.declared.limits.TheConstants.{MAX_LEVEL_TWO}
use Rattle.report_frame.specs.declared.version.Version.{Version}
use Rattle.report_frame.specs.declared.version.Version.TheVariants as version
use Rattle.report_frame.specs.Versions.{max_level}
use Rattle.report_frame.specs.Frame.{Fields}
use Rattle.report_frame.specs.Reading.{decoded}
use Rattle.report_frame.specs.Laws.{InRange}
use Rattle.report_frame.proofs.FrameLaws.{decoded_frame, in_range}
use Rattle.adss_commit.specs.Derivation.{context_key}
use Rattle.tag_groups.specs.Keys.{same_version}
use Rattle.star_lists.proofs.Elements.{In, all_of}
use Rattle.star_lists.proofs.Inside.{from_filter_map}
use Rattle.layer_walk.specs.declared.keys.Keys.{Keys}
use Rattle.layer_walk.specs.declared.refusal.Why.{Why}
use Rattle.layer_walk.specs.declared.refusal.Why.TheVariants.{WrongEpoch, WrongLevel, WrongVersion, Seal, BodyKind, BodyTail}
use Rattle.layer_walk.specs.Rows.{Row}
use Rattle.layer_walk.specs.Members.{next_with, most_after_last, is_sealed, plain_body, frame_for, inner_or_refused, opened_body, keys_of, context_at}
use Rattle.layer_walk.specs.Members.Next.{Refused, Last, Inner}
use Rattle.layer_walk.specs.Levels.{next_row, next_rows, rows_from}
use Rattle.layer_walk.specs.Reveal.{first_frame, outer_rows, level_count}
use Rattle.layer_walk.specs.Laws.{IsRowAt, IsByteRecord, AreByteRecords}
use Rattle.layer_walk.proofs.BodyBytes.{AreBytes-body, AreBytes-plain}
use Rattle.layer_walk.proofs.OuterRows.{outer_row}
use Rattle.layer_walk.proofs.HeldRows.{next_from}

-- ---- what an inner frame comes from

-- a decoded frame of this epoch and level
pub record FrameFor (e l : ℕ) (o : Result Fields Fault) (r : Fields) : Type 0 where
  pub found : o ≡ Ok r
  pub epoch : r.epoch ≡ e
  pub level : r.level ≡ l

pub frame_found : (e l : ℕ) (o : Result Fields Fault) (r : Fields) → frame_for e l o ≡ Ok r → FrameFor e l o r
frame_found e l (Err fault) r h = absurd (cc)
frame_found e l (Ok q) r h =
    elim (eqb q.epoch e) as (λ b. eqb q.epoch e ≡ b → (if not b then Err WrongEpoch else if not (eqb q.level l) then Err WrongLevel else Ok q) ≡ Ok r → FrameFor e l (Ok q) r) [
      | true ↦ λ epoch. elim (eqb q.level l) as (λ b. eqb q.level l ≡ b → (if not b then Err WrongLevel else Ok q) ≡ Ok r → FrameFor e l (Ok q) r) [
        | true ↦ λ level k.
            let it : q ≡ r = cc in
            record { found = ap Ok it; epoch = ap (λ (f : Fields). f.epoch) (sym it) ∙ eqb-true q.epoch e epoch; level = ap (λ (f : Fields). f.level) (sym it) ∙ eqb-true q.level l level }
        | false ↦ λ level k. absurd (cc)
      ] refl
      | false ↦ λ epoch k. absurd (cc)
    ] refl h

-- a plain body that holds this frame
pub record InnerFrom (keys : Keys) (plain : List ℕ) (r : Fields) : Type 0 where
  pub kind : ℕ
  pub rest : List ℕ
  pub body : plain ≡ kind ∷ rest
  pub frame : FrameFor keys.epoch (keys.level + 1) (decoded rest) r

inner_of : (v : Version) (o : Result Fields Why) (r : Fields) → inner_or_refused v o ≡ Inner r → o ≡ Ok r
inner_of v (Err why) r h = absurd (cc)
inner_of v (Ok q) r h =
    ap Ok
    (elim (same_version q.version v) as (λ b. (if b then Inner q else Refused WrongVersion) ≡ Inner r → q ≡ r) [
      | true ↦ λ k. cc
      | false ↦ λ k. absurd (cc)
    ] h)

inner_from : (keys : Keys) (plain : List ℕ) (r : Fields) → opened_body keys plain ≡ Inner r → InnerFrom keys plain r
inner_from keys [] r h = absurd (cc)
inner_from keys (kind ∷ rest) r h =
    let due = frame_for keys.epoch (keys.level + 1) (decoded rest) in
    elim (eqb kind 0) as (λ b. (if b then (if nat_le (length rest) (most_after_last keys.version) then Last rest else Refused BodyTail) else if nat_lt 1 kind then Refused BodyKind else inner_or_refused keys.version due) ≡ Inner r → InnerFrom keys (kind ∷ rest) r) [
      | true ↦ elim (nat_le (length rest) (most_after_last keys.version)) as (λ b. (if b then Last rest else Refused BodyTail) ≡ Inner r → InnerFrom keys (kind ∷ rest) r) [ true ↦ λ k. absurd (cc) | false ↦ λ k. absurd (cc) ]
      | false ↦ elim (nat_lt 1 kind) as (λ b. (if b then Refused BodyKind else inner_or_refused keys.version due) ≡ Inner r → InnerFrom keys (kind ∷ rest) r) [
        | true ↦ λ k. absurd (cc)
        | false ↦ λ k. record { kind = kind; rest = rest; body = refl; frame = frame_found keys.epoch (keys.level + 1) (decoded rest) r (inner_of keys.version due r k) }
      ]
    ] h

next_inner : (keys : Keys) (held r : Fields) → next_with keys held ≡ Inner r → InnerFrom keys (plain_body keys.body held) r
unfolding next_with
next_inner keys held r h =
    elim (is_sealed keys.seal held) as (λ b. (if b then opened_body keys (plain_body keys.body held) else Refused Seal) ≡ Inner r → InnerFrom keys (plain_body keys.body held) r) [
      | true ↦ λ k. inner_from keys (plain_body keys.body held) r k
      | false ↦ λ k. absurd (cc)
    ] h

-- ---- rows

framed : (e l : ℕ) (row : Row) (bytes : List ℕ) → AreBytes bytes → FrameFor e l (decoded bytes) row.frame → IsRowAt e l row
framed e l row bytes h f = record { bytes = bytes; are_bytes = h; is_frame = (decoded_frame bytes row.frame h).0 f.found; epoch = f.epoch; level = f.level }

first_framed : (e : ℕ) (source : Record) (row : Row) → IsByteRecord source → first_frame e source ≡ Ok row.frame → IsRowAt e 0 row
first_framed e (Whole body) row h is = framed e 0 row body h (frame_found e 0 (decoded body) row.frame is)
first_framed e (TooLong said) row h is = absurd (cc)
first_framed e (CutLength have) row h is = absurd (cc)
first_framed e (CutRecord said have) row h is = absurd (cc)

one_of : (records : List Record) (source : Record) → AreByteRecords records → In source records → IsByteRecord source
one_of [] source h i = absurd i
one_of (r ∷ records) source h (inl e) = subst IsByteRecord (sym e) (h 0 r (omega arith))
one_of (r ∷ records) source h (inr i) = one_of records source (λ k d lt. h (suc k) d (omega arith)) i

next_framed : (e l : ℕ) (rows : List Row) (row next : Row) → IsRowAt e l row → next_row e l rows row ≡ Some next → IsRowAt e (l + 1) next
next_framed e l rows row next at is =
    let from = next_from e l rows row next is in
    let keys = keys_of row.frame.version e l (context_key (context_at e l row from.held.value)) in
    let inner = next_inner keys row.frame next.frame from.held.is in
    let plain : AreBytes (plain_body keys.body row.frame) = AreBytes-plain keys.body row.frame (AreBytes-body row.frame at.bytes at.are_bytes at.is_frame) in
    let rest : AreBytes inner.rest = AreBytes-drop 1 (inner.kind ∷ inner.rest) (subst AreBytes inner.body plain) in
    framed e (l + 1) next inner.rest rest inner.frame

-- each row of each level is a frame of the epoch and that level
pub each_framed : (e : ℕ) (records : List Record) → AreByteRecords records → (l : ℕ) (row : Row) → In row (rows_from e (outer_rows e records) l) → IsRowAt e l row
unfolding rows_from next_rows
each_framed e records h zero row i =
    let outer = outer_row e records row i in
    first_framed e outer.source row (one_of records outer.source h outer.inside) outer.frame
each_framed e records h (suc l) row i =
    let rows = rows_from e (outer_rows e records) l in
    let f = from_filter_map (next_row e l rows) rows row i in
    subst (λ n. IsRowAt e n row) {x = l + 1} {y = suc l} (omega arith) (next_framed e l rows f.0 row (each_framed e records h l f.0 f.1) f.2)

pub all_framed : (e : ℕ) (records : List Record) → AreByteRecords records → (l : ℕ) → All (IsRowAt e l) (rows_from e (outer_rows e records) l)
all_framed e records h l =
    let rows = rows_from e (outer_rows e records) l in
    All-from_recursion (IsRowAt e l) rows (all_of (IsRowAt e l) rows (each_framed e records h l))

-- ---- no more levels than a frame can name

no_elements : {X : Type 0} (xs : List X) → ((x : X) → In x xs → ⊥) → xs ≡ []
no_elements [] f = refl
no_elements (x ∷ xs) f = absurd (f x (inl refl))

deepest : (v : Version) (n : ℕ) → n ≤ max_level v → n ≤ MAX_LEVEL_TWO
deepest version.One n h = omega arith
deepest version.Two n h = h

pub levels_end : (e : ℕ) (records : List Record) → AreByteRecords records → rows_from e (outer_rows e records) level_count ≡ []
levels_end e records h = no_elements (rows_from e (outer_rows e records) level_count) (λ row i.
    let at = each_framed e records h level_count row i in
    let range : InRange row.frame = in_range row.frame at.bytes at.is_frame in
    let low : row.frame.level ≤ MAX_LEVEL_TWO = deepest row.frame.version row.frame.level range.level in
    let level : row.frame.level ≡ level_count = at.level in
    omega arith)
