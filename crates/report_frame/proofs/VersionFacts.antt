-- Versions and their numbers.
use Rattle.std.proofs.Common.{◌≡◌, ℕ, ◌^◌, ◌<◌, ◌≤◌, refl, sym, ap, ◌∙◌, arith, inl, inr}
use Rattle.std.proofs.lemmas.Bool.{cases_lt}
use Rattle.report_frame.specs.declared.limits.TheConstants.{MAX_FRAME_TWO}
use Rattle.report_frame.specs.declared.version.Version.{Version}
use Rattle.report_frame.specs.declared.version.Version.TheVariants.{One, Two}
use Rattle.report_frame.specs.Versions.{version_number, version_of, max_level, max_threshold, max_frame}

-- a version is the one of its number
pub version_of_number : (v : Version) → version_of (version_number v) ≡ v
version_of_number One = refl
version_of_number Two = refl

-- numbers of versions are 1 and 2
pub number_low : (v : Version) → version_number One ≤ version_number v
number_low One = omega arith
number_low Two = omega arith

pub number_high : (v : Version) → version_number v ≤ version_number Two
number_high One = omega arith
number_high Two = omega arith

-- and each of these is the number of its version
pub number_of_version : (n : ℕ) → version_number One ≤ n → n ≤ version_number Two → version_number (version_of n) ≡ n
number_of_version n low high = elim (cases_lt n 2) [
  | inl below ↦ let is : n ≡ 1 = omega arith in ap (λ (m : ℕ). version_number (version_of m)) is ∙ sym is
  | inr above ↦ let is : n ≡ 2 = omega arith in ap (λ (m : ℕ). version_number (version_of m)) is ∙ sym is
]

-- a level has a byte
pub level_fits : (v : Version) → max_level v < 2 ^ 8
level_fits One = omega arith
level_fits Two = omega arith

-- and a threshold two
pub threshold_fits : (v : Version) → max_threshold v < 2 ^ 16
threshold_fits One = omega arith
threshold_fits Two = omega arith

-- no frame is longer than those of version 2
pub frame_within : (v : Version) → max_frame v ≤ MAX_FRAME_TWO
frame_within One = omega arith
frame_within Two = omega arith
