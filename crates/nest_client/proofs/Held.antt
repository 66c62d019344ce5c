-- What the report of a context holds, and that it has a frame.
use Rattle.std.proofs.Common.{◌≡◌, ◌∙◌, ◌<◌, ◌≤◌, ℕ, ◌+◌, ◌*◌, ◌%◌, ◌^◌, List, ◌∷◌, ◌++◌, length, take, slice_range, refl, ap, arith}
use Rattle.std.proofs.Math.Nat.{mod-lt}
use Rattle.std.proofs.lemmas.List.{length-take, length-drop}
use Rattle.byteorder.specs.Endian.{big_number}
use Rattle.sha2.proofs.Facts256.{length-sha256}
use Rattle.hmac_seal.specs.Hmac.{hmac_sha256}
use Rattle.chacha_stream.proofs.StreamLaws.{keystream_length, same_length}
use Rattle.field61.specs.declared.TheConstants.{MODULUS}
use Rattle.field61.proofs.FieldLaws.{sum_below}
use Rattle.report_frame.specs.declared.limits.TheConstants.{FIXED_BYTES, MIN_THRESHOLD, MAX_VALUE}
use Rattle.report_frame.specs.Versions.{max_level, max_threshold, max_frame}
use Rattle.report_frame.specs.Frame.{IsFrame}
use Rattle.report_frame.specs.View.{head_of}
use Rattle.report_frame.proofs.FrameLaws.{has_frame, frame_length}
use Rattle.adss_commit.specs.declared.context.Context.{Context}
use Rattle.adss_commit.specs.Derivation.{label, hashed, context_bytes, context_key, polynomial, body_key_of, body_of, box_of, context_head}
use Rattle.adss_commit.proofs.Honest.{body_twice}
use Rattle.nest_client.specs.declared.client.Client.{Client}
use Rattle.nest_client.specs.Report.{coins, point_of, nonce_of, layer, frame_of, HoldsUnder}

-- the report of a context holds its plain body under the key of the context
pub layer_holds : (c : Client) (shift : ℕ) (x : Context) (plain : List ℕ) → HoldsUnder (layer c shift x plain) (context_key x) plain
unfolding layer
layer_holds c shift x plain = record {
  seal = refl;
  body = body_twice (body_key_of x.version (context_key x)) (nonce_of (coins c x.level)) plain;
}

-- its head is that of the context
pub layer_head : (c : Client) (shift : ℕ) (x : Context) (plain : List ℕ) → head_of (layer c shift x plain) ≡ context_head x
unfolding layer
layer_head c shift x plain = refl

-- its point is the one that the coins choose
pub layer_point : (c : Client) (shift : ℕ) (x : Context) (plain : List ℕ) → (layer c shift x plain).x ≡ point_of (coins c x.level)
unfolding layer
layer_point c shift x plain = refl

length-hashed : (l : List ℕ) (kind : ℕ) (text : List ℕ) → length (hashed l kind text) ≡ 32
unfolding hashed
length-hashed l kind text = length-sha256 (l ++ kind ∷ text)

length-hmac : (key message : List ℕ) → length (hmac_sha256 key message) ≡ 32
unfolding hmac_sha256
length-hmac key message = length-sha256 _

length-coins : (c : Client) (level : ℕ) → length (coins c level) ≡ 20
unfolding coins
length-coins c level = keystream_length _ _ 0 (20 * level) 20

point-below : (bytes : List ℕ) → point_of bytes < MODULUS
point-below bytes = let low : big_number 8 bytes % 2 ^ 60 < 2 ^ 60 = mod-lt (big_number 8 bytes) (omega arith) in omega (arith, low)

length-nonce : (bytes : List ℕ) → length bytes ≡ 20 → length (nonce_of bytes) ≡ 12
length-nonce bytes long = omega (arith, length-take 12 (Rattle.std.proofs.Common.drop 8 bytes), length-drop 8 bytes)

-- a report of a context in range has a frame
pub layer_is_frame : (c : Client) (shift : ℕ) (x : Context) (plain : List ℕ) → x.level ≤ max_level x.version → x.epoch < 2 ^ 32 → MIN_THRESHOLD ≤ x.k → x.k ≤ max_threshold x.version
    → 1 ≤ length x.value → length x.value ≤ MAX_VALUE → 1 ≤ length plain → FIXED_BYTES + length x.value + length plain ≤ max_frame x.version
    → IsFrame (layer c shift x plain) (frame_of (layer c shift x plain))
unfolding layer frame_of polynomial
layer_is_frame c shift x plain level epoch k_low k_high value_low value_high body short =
    let cs : List ℕ = coins c x.level in
    let boxed : length (box_of x.version (context_key x) x.value) ≡ length x.value = same_length x.value _ in
    let hidden : length (body_of (body_key_of x.version (context_key x)) (nonce_of cs) plain) ≡ length plain = same_length plain _ in
    has_frame (layer c shift x plain) (record {
      level = level;
      epoch = epoch;
      k_low = k_low;
      k_high = k_high;
      x_low = omega arith;
      x_high = point-below cs;
      y0 = sum_below _ _;
      y1 = sum_below _ _;
      y2 = sum_below _ _;
      tag = omega (arith, length-take 16 (hashed (label x.version) 2 (context_bytes x)), length-hashed (label x.version) 2 (context_bytes x));
      check = length-hashed (label x.version) 3 (context_bytes x);
      box_low = omega (arith, boxed);
      box_high = omega (arith, boxed);
      nonce = length-nonce cs (length-coins c x.level);
      body = omega (arith, hidden);
      seal = length-hmac _ _;
    }) (omega (arith, boxed, hidden))

-- and its frame is as long as its value and its plain body make it
pub layer_length : (c : Client) (shift : ℕ) (x : Context) (plain : List ℕ) → IsFrame (layer c shift x plain) (frame_of (layer c shift x plain))
    → length (frame_of (layer c shift x plain)) ≡ FIXED_BYTES + length x.value + length plain
unfolding layer
layer_length c shift x plain of_layer =
    let boxed : length (box_of x.version (context_key x) x.value) ≡ length x.value = same_length x.value _ in
    let hidden : length (body_of (body_key_of x.version (context_key x)) (nonce_of (coins c x.level)) plain) ≡ length plain = same_length plain _ in
    omega (arith, frame_length _ _ of_layer, boxed, hidden)
