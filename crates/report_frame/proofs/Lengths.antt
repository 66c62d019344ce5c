-- Bytes that are too long for a frame, and those that are not.
use Rattle.std.proofs.Common.{◌≡◌, ℕ, ◌<◌, ◌≤◌, Bool, true, false, cond, ltb, List, [], ◌∷◌, ◌++◌, length, take, get_or, Option, Some, None, refl, sym, ap, subst, ◌∙◌, arith, inl, inr}
use Rattle.std.specs.Prelude.{◌&&◌}
use Rattle.std.specs.Int.{w8, w16, to_be_bytes}
use Rattle.std.proofs.lemmas.Bool.{cases_lt, le-ltb, lt-ltb}
use Rattle.std.proofs.lemmas.Slice.Eq.{bytes_eq-Decides}
use Rattle.report_frame.specs.declared.limits.TheConstants.{MAGIC, MAX_FRAME_ONE, MAX_FRAME_TWO}
use Rattle.report_frame.specs.declared.version.Version.{Version}
use Rattle.report_frame.specs.declared.version.Version.TheVariants.{One, Two}
use Rattle.report_frame.specs.Versions.{version_number, max_frame}
use Rattle.byte_format.specs.Format.{spelling}
use Rattle.byte_format.specs.Format.Entry.{Number}
use Rattle.report_frame.specs.Frame.{Fields, IsFrame, BeginsAsOne, IsTooLong, entries, frame}
use Rattle.report_frame.specs.Reading.{begins_as_one, passed_limit}
use Rattle.report_frame.proofs.VersionFacts.{frame_within}

-- ---- the limit that bytes pass

-- bytes are too long, at one limit, or they are not
pub data LimitStep (bytes : List ℕ) : Type 0 where
  Passes : (limit : ℕ) → IsTooLong bytes limit → passed_limit bytes ≡ Some limit → LimitStep bytes
  Keeps : ((limit : ℕ) → IsTooLong bytes limit → ⊥) → passed_limit bytes ≡ None → LimitStep bytes

-- which limit is passed, by these comparisons
abbrev answer : Bool → Bool → Bool → Option ℕ
answer over_two over_one one = cond over_two (Some MAX_FRAME_TWO) (cond (over_one && one) (Some MAX_FRAME_ONE) None)

-- bytes that are too long for version 1 alone pass its limit where they begin as it does
limit_above : (bytes : List ℕ) → MAX_FRAME_ONE < length bytes → length bytes ≤ MAX_FRAME_TWO → (b : Bool) → begins_as_one bytes ≡ b
    → passed_limit bytes ≡ answer false true b → LimitStep bytes
limit_above bytes above within true begins is = Passes MAX_FRAME_ONE
    (inr (
      above,
      within,
      sym ((bytes_eq-Decides (spelling frame (Number MAGIC ∷ Number (version_number One) ∷ []))
          (take 3 bytes)).0 begins),
      refl,
    )) is
limit_above bytes above within false begins is =
    let no_one : BeginsAsOne bytes → ⊥ = λ one. let yes =
    (bytes_eq-Decides (spelling frame (Number MAGIC ∷ Number (version_number One) ∷ [])) (take 3 bytes)).1 (sym one) in absurd cc in
    Keeps (λ limit long. elim long [ inl two ↦ omega (arith, two.0, within) | inr one ↦ no_one one.2 ]) is

pub limit_step : (bytes : List ℕ) → LimitStep bytes
limit_step bytes =
    let size = length bytes in
    let one = begins_as_one bytes in
    elim (cases_lt MAX_FRAME_TWO size) [
      | inl over ↦ Passes MAX_FRAME_TWO (inl (over, refl)) (ap (λ (b : Bool). answer b (ltb MAX_FRAME_ONE size) one) (lt-ltb _ _ over))
      | inr within ↦
          let is_within = ap (λ (b : Bool). answer b (ltb MAX_FRAME_ONE size) one) (le-ltb _ _ within) in
          elim (cases_lt MAX_FRAME_ONE size) [
            | inl above ↦ limit_above bytes above within one refl (is_within ∙ ap (λ (b : Bool). answer false b one) (lt-ltb _ _ above))
            | inr small ↦ Keeps (λ limit long. elim long [ inl two ↦ omega (arith, two.0, within) | inr one ↦ omega (arith, one.0, small) ])
                (is_within ∙ ap (λ (b : Bool). answer false b one) (le-ltb _ _ small))
          ]
    ]

one_limit : (bytes : List ℕ) (a b : ℕ) → IsTooLong bytes a → IsTooLong bytes b → a ≡ b
one_limit bytes a b (inl first) (inl second) = first.1 ∙ sym second.1
one_limit bytes a b (inl first) (inr second) = absurd (omega (arith, first.0, second.1))
one_limit bytes a b (inr first) (inl second) = absurd (omega (arith, second.0, first.1))
one_limit bytes a b (inr first) (inr second) = first.3 ∙ sym second.3

pub passes : (bytes : List ℕ) (limit : ℕ) → IsTooLong bytes limit → passed_limit bytes ≡ Some limit
passes bytes limit long = elim (limit_step bytes) [
  | Passes other is_long is ↦ is ∙ ap (λ (l : ℕ). Some l) (one_limit bytes other limit is_long long)
  | Keeps short is ↦ absurd (short limit long)
]

pub keeps : (bytes : List ℕ) → ((limit : ℕ) → IsTooLong bytes limit → ⊥) → passed_limit bytes ≡ None
keeps bytes short = elim (limit_step bytes) [
  | Passes other is_long is ↦ absurd (short other is_long)
  | Keeps short is ↦ is
]

-- ---- the length of a frame

-- what begins as version 1 does is of no other version
is_one : (v : Version) (bytes more : List ℕ) → bytes ≡ to_be_bytes w16 MAGIC ++ (to_be_bytes w8 (version_number v) ++ more)
    → BeginsAsOne bytes → v ≡ One
is_one One bytes more is begins = refl
is_one Two bytes more is begins = absurd (omega (arith, ap (λ (l : List ℕ). get_or l 2 0) (sym (ap (take 3) is) ∙ begins)))

-- a frame is not too long
pub frame_is_short : (r : Fields) (bytes : List ℕ) → IsFrame r bytes → (limit : ℕ) → IsTooLong bytes limit → ⊥
frame_is_short r bytes of_r limit (inl two) = omega (arith, two.0, of_r.short, frame_within r.version)
frame_is_short r bytes of_r limit (inr one) =
    let is : r.version ≡ One = is_one r.version bytes _ of_r.spelt one.2 in
    let short : length bytes ≤ MAX_FRAME_ONE = subst (λ (v : Version). length bytes ≤ max_frame v) is of_r.short in
    omega (arith, short, one.0)

-- the version decides which limit counts
short_at : (v : Version) (bytes more : List ℕ) → bytes ≡ to_be_bytes w16 MAGIC ++ (to_be_bytes w8 (version_number v) ++ more)
    → ((limit : ℕ) → IsTooLong bytes limit → ⊥) → length bytes ≤ max_frame v
short_at One bytes more is short = elim (cases_lt MAX_FRAME_ONE (length bytes)) [
  | inl above ↦ elim (cases_lt MAX_FRAME_TWO (length bytes)) [
    | inl over ↦ absurd (short MAX_FRAME_TWO (inl (over, refl)))
    | inr within ↦ absurd (short MAX_FRAME_ONE (inr (above, within, ap (take 3) is, refl)))
  ]
  | inr small ↦ small
]
short_at Two bytes more is short = elim (cases_lt MAX_FRAME_TWO (length bytes)) [
  | inl over ↦ absurd (short MAX_FRAME_TWO (inl (over, refl)))
  | inr within ↦ within
]

-- bytes that are not too long, and spell a report, are no longer than its version allows
pub short_enough : (r : Fields) (bytes : List ℕ) → bytes ≡ spelling frame (entries r) → ((limit : ℕ) → IsTooLong bytes limit → ⊥)
    → length bytes ≤ max_frame r.version
short_enough r bytes spelt short = short_at r.version bytes _ spelt short
