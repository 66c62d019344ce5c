-- The reports of all layers are frames, and no longer than a frame may be.
use Rattle.std.proofs.Common.{◌≡◌, ℕ, suc, ◌+◌, ◌*◌, ◌^◌, ◌<◌, ◌≤◌, List, [], ◌∷◌, length, arith, All}
use Rattle.report_frame.specs.declared.limits.TheConstants.{FIXED_BYTES, MAX_LEVEL_ONE, MIN_THRESHOLD, MAX_VALUE}
use Rattle.report_frame.specs.declared.version.Version.TheVariants.{One}
use Rattle.report_frame.specs.Versions.{max_threshold, max_frame}
use Rattle.report_frame.specs.Frame.{Fields, IsFrame}
use Rattle.adss_commit.specs.declared.context.Context.{Context}
use Rattle.adss_commit.specs.Derivation.{context_check}
use Rattle.nest_client.specs.Report.{client_of, layer, frame_of, context_of, plain_body}
use Rattle.nest_client.proofs.Held.{layer_is_frame, layer_length}

-- what a context has in range
pub record IsGoodContext (x : Context) : Type 0 where
  pub version : x.version ≡ One
  pub level : x.level ≤ MAX_LEVEL_ONE
  pub epoch : x.epoch < 2 ^ 32
  pub k_low : MIN_THRESHOLD ≤ x.k
  pub k_high : x.k ≤ max_threshold One
  pub value_low : 1 ≤ length x.value
  pub value_high : length x.value ≤ MAX_VALUE

-- its report is a frame, and no longer
pub record IsGoodLayer (r : Fields) (n : ℕ) : Type 0 where
  pub is_frame : IsFrame r (frame_of r)
  pub long : length (frame_of r) ≤ n

pub layer_good : (e : ℕ) (seed : List ℕ) (i : ℕ) (x : Context) (plain : List ℕ) → IsGoodContext x → 1 ≤ length plain → FIXED_BYTES + MAX_VALUE + length plain ≤ max_frame One →
    IsGoodLayer (layer (client_of One e seed i) 0 x plain) (FIXED_BYTES + MAX_VALUE + length plain)
layer_good e seed i x plain good some few =
    let is : IsFrame (layer (client_of One e seed i) 0 x plain) (frame_of (layer (client_of One e seed i) 0 x plain)) =
    layer_is_frame (client_of One e seed i) 0 x plain
    (rw good.version (omega (arith, good.level))) good.epoch good.k_low (rw good.version (omega (arith, good.k_high)))
    good.value_low good.value_high some (rw good.version (omega (arith, good.value_high))) in
    record { is_frame = is; long = omega (arith, layer_length (client_of One e seed i) 0 x plain is, good.value_high) }

-- the values and thresholds that are left fit the levels that are left
pub record FitLevels (level : ℕ) (vs : List (List ℕ)) (ks : List ℕ) : Type 0 where
  pub deep : level + length vs ≤ MAX_LEVEL_ONE + 1
  pub width : length vs ≡ length ks
  pub k_low : All (λ k. MIN_THRESHOLD ≤ k) ks
  pub k_high : All (λ k. k ≤ max_threshold One) ks
  pub value_low : All (λ (v : List ℕ). 1 ≤ length v) vs
  pub value_high : All (λ (v : List ℕ). length v ≤ MAX_VALUE) vs

fit_rest : (level : ℕ) (v : List ℕ) (vs : List (List ℕ)) (k : ℕ) (ks : List ℕ) → FitLevels level (v ∷ vs) (k ∷ ks) → FitLevels (level + 1) vs ks
fit_rest level v vs k ks f = record {
  deep = omega (arith, f.deep);
  width = omega (arith, f.width);
  k_low = λ j d lt. f.k_low (suc j) d (omega arith);
  k_high = λ j d lt. f.k_high (suc j) d (omega arith);
  value_low = λ j d lt. f.value_low (suc j) d (omega arith);
  value_high = λ j d lt. f.value_high (suc j) d (omega arith);
}

fit_first : (e level : ℕ) (seed : List ℕ) (i : ℕ) (parent v : List ℕ) (vs : List (List ℕ)) (k : ℕ) (ks : List ℕ) → e < 2 ^ 32 → FitLevels level (v ∷ vs) (k ∷ ks) →
    IsGoodContext (context_of (client_of One e seed i) level parent v k)
fit_first e level seed i parent v vs k ks low f = record {
  version = Rattle.std.proofs.Common.refl;
  level = omega (arith, f.deep);
  epoch = low;
  k_low = f.k_low 0 0 (omega arith);
  k_high = f.k_high 0 0 (omega arith);
  value_low = f.value_low 0 [] (omega arith);
  value_high = f.value_high 0 [] (omega arith);
}

-- the length of a plain body
pub plain_good : (e : ℕ) (seed : List ℕ) (i level : ℕ) (parent : List ℕ) (vs : List (List ℕ)) (ks : List ℕ) → e < 2 ^ 32 → FitLevels level vs ks →
    (1 ≤ length (plain_body (client_of One e seed i) [] level parent vs ks)) × (length (plain_body (client_of One e seed i) [] level parent vs ks) ≤ 1 + (FIXED_BYTES + MAX_VALUE + 1) * length vs)
unfolding plain_body
plain_good e seed i level parent [] ks low f = (omega arith, omega arith)
plain_good e seed i level parent (v ∷ vs) [] low f = absurd (omega (arith, f.width))
plain_good e seed i level parent (v ∷ vs) (k ∷ ks) low f =
    let x = context_of (client_of One e seed i) level parent v k in
    let rest = plain_good e seed i (level + 1) (context_check x) vs ks low (fit_rest level v vs k ks f) in
    let plain : List ℕ = plain_body (client_of One e seed i) [] (level + 1) (context_check x) vs ks in
    let good = layer_good e seed i x plain (fit_first e level seed i parent v vs k ks low f) rest.0 (omega (arith, rest.1, f.deep)) in
    (omega arith, omega (arith, good.long, rest.1))
