-- The report of a client: the frame of layer 0, whose body holds the frame of layer 1, and so on.
use Rattle.std.specs.Prelude.{◌≡◌, ℕ, ◌+◌, ◌*◌, ◌%◌, ◌^◌, List, [], ◌∷◌, ◌++◌, drop, get_or, replicate, slice_index, slice_range}
use Rattle.std.specs.Int.{w32, to_le_bytes}
use Rattle.byteorder.specs.Endian.{big_number}
use Rattle.chacha_stream.specs.Keystream.{keystream}
use Rattle.hmac_seal.specs.Hmac.{hmac_sha256}
use Rattle.field61.specs.Field.{field_sum}
use Rattle.report_frame.specs.declared.version.Version.{Version}
use Rattle.byte_format.specs.Format.{spelling}
use Rattle.report_frame.specs.Frame.{Fields, frame, entries, sealed_part}
use Rattle.shamir_limbs.specs.Coefficients.{values}
use Rattle.adss_commit.specs.declared.context.Context.{Context}
use Rattle.adss_commit.specs.Derivation.{context_key, context_tag, context_check, box_of, body_key_of, body_of, seal_key_of, polynomials}
use Rattle.nest_client.specs.declared.client.Client.{Client}

-- ---- coins

-- four zero bytes, the client's number, and four zero bytes
abbrev pub client_nonce : ℕ → List ℕ
client_nonce number = replicate 4 0 ++ to_le_bytes w32 number ++ replicate 4 0

-- a client's 20 bytes for a layer
unfoldable pub coins : Client → ℕ → List ℕ
coins c level = keystream c.seed (client_nonce c.number) 0 (20 * level) 20

-- the point that the coins choose
abbrev pub point_of : List ℕ → ℕ
point_of coins = 1 + big_number 8 coins % 2 ^ 60

-- and the nonce
abbrev pub nonce_of : List ℕ → List ℕ
nonce_of coins = slice_range coins 8 20

-- ---- one layer

-- the value of polynomial j of a context at the point of these coins
abbrev pub share : Context → List ℕ → ℕ → ℕ
share x coins j = slice_index (values (polynomials x) (point_of coins)) j

-- the report with the seal that this key makes
abbrev pub sealed_by : List ℕ → Fields → Fields
sealed_by key r = record r { seal = hmac_sha256 key (sealed_part r) }

-- the report of a context with these coins around a plain body, still without a seal; y0 is raised by the shift
abbrev pub unsealed : ℕ → Context → List ℕ → List ℕ → Fields
unsealed shift x coins plain = record {
  version = x.version;
  level = x.level;
  epoch = x.epoch;
  k = x.k;
  x = point_of coins;
  y0 = field_sum (share x coins 0) shift;
  y1 = share x coins 1;
  y2 = share x coins 2;
  tag = context_tag x;
  check = context_check x;
  boxed = box_of x.version (context_key x) x.value;
  nonce = nonce_of coins;
  body = body_of (body_key_of x.version (context_key x)) (nonce_of coins) plain;
  seal = [];
}

-- a client's report of a context
unfoldable pub layer : Client → ℕ → Context → List ℕ → Fields
layer c shift x plain = sealed_by (seal_key_of x.version (context_key x)) (unsealed shift x (coins c x.level) plain)

-- ---- all layers

-- the frame of a report
unfoldable pub frame_of : Fields → List ℕ
frame_of r = spelling frame (entries r)

abbrev pub context_of : Client → ℕ → List ℕ → List ℕ → ℕ → Context
context_of c level parent value k = record {
  version = c.version;
  parent = parent;
  epoch = c.epoch;
  level = level;
  k = k;
  value = value;
}

-- The plain body before the layers of these values and thresholds, the first of which has this level and this parent:
-- the byte 1 and the frame of that layer, or, if there is none, the byte 0 and the extra bytes.
unfoldable pub plain_body : Client → List ℕ → ℕ → List ℕ → List (List ℕ) → List ℕ → List ℕ
plain_body c extra level parent [] ks = 0 ∷ extra
plain_body c extra level parent (v ∷ vs) [] = 0 ∷ extra
plain_body c extra level parent (v ∷ vs) (k ∷ ks) =
    let x = context_of c level parent v k in
    1 ∷ frame_of (layer c 0 x (plain_body c extra (level + 1) (context_check x) vs ks))

-- the report of these layers, of which there is one at least; its y0 is raised by the shift
abbrev pub report_from : Client → List ℕ → ℕ → List ℕ → ℕ → List (List ℕ) → List ℕ → Fields
report_from c extra level parent shift values thresholds =
    let x = context_of c level parent (get_or values 0 []) (slice_index thresholds 0) in
    layer c shift x (plain_body c extra (level + 1) (context_check x) (drop 1 values) (drop 1 thresholds))

-- the report of version 1 whose y0 is raised by the shift in layer 0
abbrev pub report_shifted : Client → ℕ → List (List ℕ) → List ℕ → Fields
report_shifted c shift values thresholds = report_from c [] 0 (replicate 32 0) shift values thresholds

-- the report of version 1
abbrev pub report : Client → List (List ℕ) → List ℕ → Fields
report c values thresholds = report_shifted c 0 values thresholds

-- the report of a client with these extra bytes, of which there are none in version 1
abbrev pub report_with : Client → List ℕ → List (List ℕ) → List ℕ → Fields
report_with c extra values thresholds = report_from c extra 0 (replicate 32 0) 0 values thresholds

-- the report of version 2
abbrev pub report2 : Client → List ℕ → List (List ℕ) → List ℕ → Fields
report2 c extra values thresholds = report_with c extra values thresholds

-- a client by its parts
abbrev pub client_of : Version → ℕ → List ℕ → ℕ → Client
client_of version epoch seed number = record { version = version; epoch = epoch; seed = seed; number = number }

-- ---- what a report holds

-- under this key of a context, in the report's version, the seal is that of the bytes before it, and the body is this plain body
pub record HoldsUnder (r : Fields) (key plain : List ℕ) : Type 0 where
  pub seal : r.seal ≡ hmac_sha256 (seal_key_of r.version key) (sealed_part r)
  pub body : body_of (body_key_of r.version key) r.nonce r.body ≡ plain
