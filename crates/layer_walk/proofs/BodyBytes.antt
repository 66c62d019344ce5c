-- A keystream is bytes, and so are the body of a frame of bytes and its plain body.
use Rattle.std.proofs.Common.{ℕ, zero, suc, ◌/◌, ◌%◌, ◌^◌, ◌<◌, ◌-◌, List, [], ◌∷◌, ◌++◌, subst, length, arith}
use Rattle.std.specs.Int.{w8, w16, w32, byte_at, to_be_bytes, to_le_bytes, bytes_low_first}
use Rattle.std.specs.List.{range_with_len}
use Rattle.std.proofs.Math.Nat.{mod-lt}
use Rattle.std.proofs.lemmas.List.Elements.{All-cons, All-map}
use Rattle.std.proofs.lemmas.Nat.{xor_lt}
use Rattle.star_io.specs.Bytes.{AreBytes}
use Rattle.star_io.proofs.ByteLists.{AreBytes-nil, AreBytes-get_or, AreBytes-drop, AreBytes-append_left, AreBytes-append_right}
use Rattle.chacha_stream.specs.Keystream.{keystream, keystream_byte, keystream_word, xor_bytes}
use Rattle.report_frame.specs.declared.limits.TheConstants.{FRONT_BYTES, TAG_BYTES, CHECK_BYTES}
use Rattle.byte_format.specs.Format.{spelling}
use Rattle.report_frame.specs.Frame.{Fields, IsFrame, entries, frame}
use Rattle.layer_walk.specs.Members.{plain_body}

byte_at-below : (k n : ℕ) → byte_at k n < 2 ^ 8
byte_at-below zero n = mod-lt n (omega arith)
byte_at-below (suc k) n = mod-lt _ (omega arith)

AreBytes-bytes_low_first : (i k n : ℕ) → AreBytes (bytes_low_first i k n)
AreBytes-bytes_low_first i zero n = AreBytes-nil
AreBytes-bytes_low_first i (suc k) n = All-cons (λ b. b < 2 ^ 8) (byte_at i n) (bytes_low_first (suc i) k n) (byte_at-below i n) (AreBytes-bytes_low_first (suc i) k n)

keystream_byte-below : (key nonce : List ℕ) (counter j : ℕ) → keystream_byte key nonce counter j < 2 ^ 8
unfolding keystream_byte
keystream_byte-below key nonce counter j =
    let word : ℕ = keystream_word key nonce counter (j / 4) in
    AreBytes-get_or (to_le_bytes w32 word) (j % 4) (AreBytes-bytes_low_first 0 4 word)

AreBytes-keystream : (key nonce : List ℕ) (counter start n : ℕ) → AreBytes (keystream key nonce counter start n)
unfolding keystream
AreBytes-keystream key nonce counter start n = All-map (λ b. b < 2 ^ 8) (keystream_byte key nonce counter) (range_with_len start n) (λ i d lt. keystream_byte-below key nonce counter _)

AreBytes-xor : (xs ys : List ℕ) → AreBytes xs → AreBytes ys → AreBytes (xor_bytes xs ys)
unfolding xor_bytes
AreBytes-xor [] ys h k = AreBytes-nil
AreBytes-xor (x ∷ xs) [] h k = All-cons (λ b. b < 2 ^ 8) x (xor_bytes xs []) (h 0 x (omega arith)) (AreBytes-xor xs [] (λ i d lt. h (suc i) d (omega arith)) k)
AreBytes-xor (x ∷ xs) (y ∷ ys) h k = All-cons (λ b. b < 2 ^ 8) _ (xor_bytes xs ys) (xor_lt 8 x y (h 0 x (omega arith)) (k 0 y (omega arith))) (AreBytes-xor xs ys (λ i d lt. h (suc i) d (omega arith)) (λ i d lt. k (suc i) d (omega arith)))

-- the body of a frame of bytes
pub AreBytes-body : (r : Fields) (bytes : List ℕ) → AreBytes bytes → IsFrame r bytes → AreBytes r.body
AreBytes-body r bytes h is =
    let body_on : List ℕ = r.body ++ (r.seal ++ []) in
    let length_on : List ℕ = to_be_bytes w16 (length r.body) ++ body_on in
    let nonce_on : List ℕ = r.nonce ++ length_on in
    let box_on : List ℕ = to_be_bytes w8 (length r.boxed) ++ (r.boxed ++ nonce_on) in
    let whole : AreBytes (spelling frame (entries r)) = subst AreBytes is.spelt h in
    let from_tag : AreBytes (r.tag ++ (r.check ++ box_on)) = AreBytes-drop (FRONT_BYTES - TAG_BYTES - CHECK_BYTES) (spelling frame (entries r)) whole in
    let from_check : AreBytes (r.check ++ box_on) = AreBytes-append_right r.tag (r.check ++ box_on) from_tag in
    let from_box_length : AreBytes box_on = AreBytes-append_right r.check box_on from_check in
    let from_box : AreBytes (r.boxed ++ nonce_on) = AreBytes-append_right (to_be_bytes w8 (length r.boxed)) (r.boxed ++ nonce_on) from_box_length in
    let from_nonce : AreBytes nonce_on = AreBytes-append_right r.boxed nonce_on from_box in
    let from_length : AreBytes length_on = AreBytes-append_right r.nonce length_on from_nonce in
    let from_body : AreBytes body_on = AreBytes-append_right (to_be_bytes w16 (length r.body)) body_on from_length in
    AreBytes-append_left r.body (r.seal ++ []) from_body

-- the body under the keystream of its key
pub AreBytes-plain : (key : List ℕ) (r : Fields) → AreBytes r.body → AreBytes (plain_body key r)
AreBytes-plain key r h = AreBytes-xor r.body (keystream key r.nonce 0 0 (length r.body)) h (AreBytes-keystream key r.nonce 0 0 (length r.body))
