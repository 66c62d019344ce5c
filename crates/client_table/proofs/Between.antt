-- A machine that took a record is between two records, and took a byte for it.
use Rattle.std.proofs.Common.{◌≡◌, ◌∙◌, ◌==◌, ◌<◌, ◌≤◌, ℕ, suc, Bool, true, false, cond, if◌then◌else◌, ◌&&◌, List, [], ◌∷◌, length, Option, Some, None, refl, sym, arith, inl, inr}
use Rattle.std.proofs.lemmas.Bool.{cases_Bool}
use Rattle.csv.specs.Machine.{Read, after_end, ends_at_end, ends_with, is_byte, fields_after, field_after, in_field, is_end, next_record, start_field, start_record, step}
use Rattle.csv.specs.declared.parser.Config.{Config}
use Rattle.csv.specs.declared.parser.Action.{Action}
use Rattle.csv.specs.declared.parser.Action.TheVariants as act
use Rattle.csv.specs.declared.parser.Terminator.{Terminator}
use Rattle.csv.specs.declared.parser.Terminator.TheVariants as term
use Rattle.csv.specs.declared.parser.State.{State}
use Rattle.csv.specs.declared.parser.State.TheVariants as st

-- what holds of both choices holds of the choice
either : {X : Type 0} (P : X → Type 0) (b : Bool) (x y : X) → P x → P y → P (cond b x y)
either P true x y p q = p
either P false x y p q = q

-- a byte that ends a record leaves the machine between two records
abbrev EndsBetween : State × Action → Type 0
EndsBetween r = is_end r.1 ≡ true → ends_at_end r.0 ≡ false

-- the byte that ends a record does so
between-after_end : (t : Terminator) (c : ℕ) → ends_at_end (after_end t c) ≡ false
between-after_end term.CRLF c = either (λ (s : State). ends_at_end s ≡ false) (c == 13) st.AfterCr st.StartRecord refl refl
between-after_end (term.Any t) c = refl

-- in a field
between-in_field : (cfg : Config) (c : ℕ) → EndsBetween (in_field cfg c)
between-in_field cfg c =
    either EndsBetween (c == cfg.delimiter) (st.StartField, act.EndField) (if ends_with cfg.terminator c then (after_end cfg.terminator c, act.EndRecord) else (st.InField, act.Copy)) (λ e. cc)
    (either EndsBetween (ends_with cfg.terminator c) (after_end cfg.terminator c, act.EndRecord) (st.InField, act.Copy) (λ e. between-after_end cfg.terminator c) (λ e. cc))

-- at the start of a field
between-start_field : (cfg : Config) (c : ℕ) → EndsBetween (start_field cfg c)
between-start_field cfg c =
    either EndsBetween (cfg.quoting && (c == cfg.quote)) (st.InQuoted, act.Skip) (in_field cfg c) (λ e. cc) (between-in_field cfg c)

-- at the start of a record
between-start_record : (cfg : Config) (c : ℕ) → EndsBetween (start_record cfg c)
between-start_record cfg c =
    either EndsBetween (ends_with cfg.terminator c) (st.StartRecord, act.Skip) (if is_byte cfg.comment c then (st.InComment, act.Skip) else start_field cfg c) (λ e. cc)
    (either EndsBetween (is_byte cfg.comment c) (st.InComment, act.Skip) (start_field cfg c) (λ e. cc) (between-start_field cfg c))

-- in each state
between-step : (cfg : Config) (s : State) (c : ℕ) → EndsBetween (step cfg s c)
between-step cfg st.StartRecord c = between-start_record cfg c
between-step cfg st.StartField c = between-start_field cfg c
between-step cfg st.InField c = between-in_field cfg c
between-step cfg st.InQuoted c =
    either EndsBetween (cfg.quoting && (c == cfg.quote)) (st.AfterQuote, act.Skip) (if cfg.quoting && is_byte cfg.escape c then (st.InEscape, act.Skip) else (st.InQuoted, act.Copy)) (λ e. cc)
    (either EndsBetween (cfg.quoting && is_byte cfg.escape c) (st.InEscape, act.Skip) (st.InQuoted, act.Copy) (λ e. cc) (λ e. cc))
between-step cfg st.InEscape c = λ e. cc
between-step cfg st.AfterQuote c =
    either EndsBetween (cfg.quoting && cfg.double_quote && (c == cfg.quote)) (st.InQuoted, act.Copy) (in_field cfg c) (λ e. cc) (between-in_field cfg c)
between-step cfg st.InComment c =
    either EndsBetween (c == 10) (st.StartRecord, act.Skip) (st.InComment, act.Skip) (λ e. cc) (λ e. cc)
between-step cfg st.AfterCr c =
    either EndsBetween (c == 10) (st.StartRecord, act.Skip) (start_record cfg c) (λ e. cc) (between-start_record cfg c)

-- a record leaves at most n bytes, and the machine between two records
abbrev Leaves : ℕ → Option Read → Type 0
Leaves n None = Unit {0}
Leaves n (Some p) = (length p.2 ≤ n) × (ends_at_end p.1 ≡ false)

-- and so at most one more
leaves-more : (n : ℕ) (r : Option Read) → Leaves n r → Leaves (suc n) r
leaves-more n None h = tt
leaves-more n (Some p) h = (omega (arith, h.0), h.1)

-- a record leaves no more bytes than there were
leaves-next_record : (cfg : Config) (s : State) (fields : List (List ℕ)) (field xs : List ℕ) → Leaves (length xs) (next_record cfg s fields field xs)
unfolding next_record
leaves-next_record cfg s fields field [] = either (Leaves 0) (ends_at_end s) _ _ (omega arith, refl) tt
leaves-next_record cfg s fields field (c ∷ rest) =
    elim (cases_Bool (is_end (step cfg s c).1)) [
      | inl ends ↦ rw ends (omega arith, between-step cfg s c ends)
      | inr goes ↦
          rw goes (leaves-more (length rest) _ (leaves-next_record cfg (step cfg s c).0 (fields_after (step cfg s c).1 fields field) (field_after (step cfg s c).1 c field) rest))
    ]

-- a record takes its first byte
leaves-byte : (cfg : Config) (s : State) (fields : List (List ℕ)) (field : List ℕ) (c : ℕ) (rest : List ℕ) → Leaves (length rest) (next_record cfg s fields field (c ∷ rest))
unfolding next_record
leaves-byte cfg s fields field c rest =
    elim (cases_Bool (is_end (step cfg s c).1)) [
      | inl ends ↦ rw ends (omega arith, between-step cfg s c ends)
      | inr goes ↦ rw goes (leaves-next_record cfg (step cfg s c).0 (fields_after (step cfg s c).1 fields field) (field_after (step cfg s c).1 c field) rest)
    ]

-- between two records there is none if no bytes are left
nothing-left : (cfg : Config) (s : State) → ends_at_end s ≡ false → next_record cfg s [] [] [] ≡ None
unfolding next_record
nothing-left cfg s between = rw between refl

-- between two records, the next one takes a byte at least and leaves the machine between two records
pub shorter : (cfg : Config) (s : State) (xs : List ℕ) (p : Read) → ends_at_end s ≡ false → next_record cfg s [] [] xs ≡ Some p
    → (length p.2 < length xs) × (ends_at_end p.1 ≡ false)
shorter cfg s [] p between next =
    let none = nothing-left cfg s between in
    let bad : None ≡ Some p = sym none ∙ next in cc
shorter cfg s (c ∷ rest) p between next =
    let l = rw next at (leaves-byte cfg s [] [] c rest) in
    (omega (arith, l.0), l.1)
