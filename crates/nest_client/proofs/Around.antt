-- A frame around a body that is in its place.
use Rattle.std.proofs.Common.{◌≡◌, ◌∙◌, ◌<◌, ◌≤◌, ℕ, ◌+◌, ◌-◌, ◌^◌, List, [], ◌∷◌, ◌++◌, length, take, drop, get_or, set, slice_index, slice_range, refl, ap, subst, sym, append_assoc, length-append, arith}
use Rattle.std.proofs.lemmas.List.{append-nil, take_at, take_all, drop_at, drop_all, take_more, get_or-drop, length-take, length-drop}
use Rattle.std.proofs.lemmas.List.Sums.{sum_by-append}
use borrow.Rule.Slice.PartMut.{put_mid}
use Rattle.hmac_seal.specs.Hmac.{hmac_sha256}
use Rattle.report_frame.specs.declared.limits.TheConstants.{FIXED_BYTES, MIN_THRESHOLD, MAX_VALUE}
use Rattle.report_frame.specs.Versions.{max_level, max_threshold, max_frame}
use Rattle.report_frame.specs.Frame.{Fields, IsFrame, sealed_part}
use Rattle.adss_commit.specs.declared.context.Context.{Context}
use Rattle.nest_client.specs.declared.client.Client.{Client}
use Rattle.nest_client.specs.Place.{before_body, body_start, body_in, layers_bytes}
use Rattle.nest_client.specs.Report.{layer, frame_of}
use Rattle.nest_client.proofs.Held.{layer_is_frame}
use Rattle.nest_client.proofs.Layers.{rest_is}

-- what is before a body, and the body, are the part that is sealed
pub before-body : (r : Fields) → before_body r ++ r.body ≡ sealed_part r
before-body r = simp (append_assoc, append-nil) refl

-- what is between two places after it was written there
pub part_written : (xs ys : List ℕ) (s e : ℕ) → s ≤ e → e ≤ length xs → length ys ≡ e - s → slice_range (take s xs ++ (ys ++ drop e xs)) s e ≡ ys
part_written xs ys s e order within long =
    let front : length (take s xs) ≡ s = omega (arith, length-take s xs) in
    ap (take (e - s)) (drop_at (take s xs) (ys ++ drop e xs) s front) ∙ take_at ys (drop e xs) (e - s) long

-- bytes that were written before a body, and a seal after it
pub sealed_around : (f0 f1 f2 f3 body before key : List ℕ) (s e : ℕ) → s ≤ e → e + 32 ≡ length f0 → length body ≡ e - s
    → f1 ≡ take s f0 ++ (body ++ drop e f0) → length before ≡ s → f2 ≡ before ++ drop (length before) f1
    → f3 ≡ take (length f2 - 32) f2 ++ hmac_sha256 key (take (length f2 - 32) f2) → f3 ≡ (before ++ body) ++ hmac_sha256 key (before ++ body)
sealed_around f0 f1 f2 f3 body before key s e order whole long hidden before_long put sealed =
    let front : length (take s f0) ≡ s = omega (arith, length-take s f0) in
    let rest : drop (length before) f1 ≡ body ++ drop e f0 =
    ap (λ (n : ℕ). drop n f1) before_long ∙ ap (drop s) hidden ∙ drop_at (take s f0) (body ++ drop e f0) s front in
    let parts : f2 ≡ (before ++ body) ++ drop e f0 = put ∙ ap (λ (l : List ℕ). before ++ l) rest ∙ sym (append_assoc before body (drop e f0)) in
    let size : length (before ++ body) ≡ length f2 - 32 =
    omega (arith, ap length parts, length-append (before ++ body) (drop e f0), length-drop e f0) in
    let part : take (length f2 - 32) f2 ≡ before ++ body = ap (take (length f2 - 32)) parts ∙ take_at (before ++ body) (drop e f0) (length f2 - 32) size in
    sealed ∙ ap (λ (p : List ℕ). p ++ hmac_sha256 key p) part

-- the part between two places is as long as they are apart
pub length-part : (xs : List ℕ) (s e : ℕ) → s ≤ e → e ≤ length xs → length (slice_range xs s e) ≡ e - s
length-part xs s e order within = omega (arith, length-take (e - s) (drop s xs), length-drop s xs)

-- the layers of the first values and of one more
pub one_layer_more : (values : List (List ℕ)) (i : ℕ) (d : List ℕ) → i < length values
    → layers_bytes (take (i + 1) values) ≡ layers_bytes (take i values) + (138 + length (get_or values i d))
one_layer_more values i d within =
    let size : List ℕ → ℕ = λ v. FIXED_BYTES + 1 + length v in
    ap layers_bytes (take_more values i d within) ∙ sum_by-append size (take i values) (get_or values i d ∷ []) ∙ omega arith

-- the layers of values are the first and those of the others
pub first_layer : (values : List (List ℕ)) (d : List ℕ) → 1 ≤ length values
    → layers_bytes values ≡ 138 + length (get_or values 0 d) + layers_bytes (take (length values - 1) (drop 1 values))
first_layer [] d some = absurd (omega arith)
first_layer (v ∷ vs) d some =
    let others : layers_bytes (take (length (v ∷ vs) - 1) (drop 1 (v ∷ vs))) ≡ layers_bytes vs = ap layers_bytes (take_all (length (v ∷ vs) - 1) vs (omega arith)) in
    let size : List ℕ → ℕ = λ w. FIXED_BYTES + 1 + length w in
    let whole : layers_bytes (v ∷ vs) ≡ layers_bytes (v ∷ []) + layers_bytes vs = sum_by-append size (v ∷ []) vs in
    let one : layers_bytes (v ∷ []) ≡ 138 + length v = omega arith in
    let value : length (get_or (v ∷ vs) 0 d) ≡ length v = refl in
    omega (arith, whole, one, value, others)

-- what holds of each number holds of each but the first
pub each_behind : (P : ℕ → Type 0) (ks : List ℕ) → ((i : ℕ) → i < length ks → P (slice_index ks i)) → (i : ℕ) → i < length (take (length ks - 1) (drop 1 ks))
    → P (slice_index (take (length ks - 1) (drop 1 ks)) i)
each_behind P ks all i within =
    let rest = rest_is ks in
    let below : 1 + i < length ks = omega (arith, ap (λ (l : List ℕ). length l) rest, length-drop 1 ks) in
    subst P (sym (ap (λ (l : List ℕ). slice_index l i) rest ∙ get_or-drop 1 ks i 0)) (all (1 + i) below)

-- a report around the body that is in the place of a frame has a frame
pub layer_around : (c : Client) (shift : ℕ) (x : Context) (frame : List ℕ) → x.level ≤ max_level x.version → x.epoch < 2 ^ 32 → MIN_THRESHOLD ≤ x.k → x.k ≤ max_threshold x.version
    → 1 ≤ length x.value → length x.value ≤ MAX_VALUE → FIXED_BYTES + length x.value < length frame → length frame ≤ max_frame x.version
    → IsFrame (layer c shift x (body_in frame (length x.value))) (frame_of (layer c shift x (body_in frame (length x.value))))
layer_around c shift x frame level epoch k_low k_high value_low value_high some short =
    let long = length-part frame (body_start (length x.value)) (length frame - 32) (omega arith) (omega arith) in
    layer_is_frame c shift x (body_in frame (length x.value)) level epoch k_low k_high value_low value_high (omega (arith, long)) (omega (arith, long))

-- bytes of which the first was written, and then all others
pub begun_with : (old rest : List ℕ) (first : ℕ) → 1 ≤ length old → length rest ≡ length (set old 0 first) - 1
    → put_mid 1 (length (set old 0 first) - 1) (set old 0 first) rest ≡ first ∷ rest
begun_with [] rest first some long = absurd (omega arith)
begun_with (x ∷ xs) rest first some long =
    let nothing : drop (length (set (x ∷ xs) 0 first) - 1) xs ≡ [] = drop_all (length (set (x ∷ xs) 0 first) - 1) xs (omega arith) in
    ap (λ (l : List ℕ). first ∷ (rest ++ l)) nothing ∙ ap (λ (l : List ℕ). first ∷ l) (append-nil rest)
