-- Points on the polynomials of a context give back its key, and a head that opens is that of its context.
use Rattle.std.proofs.Common.{◌≡◌, ◌∙◌, ◌<◌, ◌≤◌, ℕ, zero, suc, ◌+◌, ◌*◌, ◌-◌, Bool, true, false, ◌&&◌, cond, List, [], ◌∷◌, ◌++◌, length, map, slice_index, Option, Some, None, IsSome, IfSome, ◌↔◌, refl, ap, ap₂, subst, sym, arith, bytes_eq}
use Rattle.std.specs.List.{range_with_len}
use Rattle.std.specs.Int.{w32, to_be_bytes}
use Rattle.std.proofs.Math.Nat.{mod-lt}
use Rattle.std.proofs.lemmas.Bool.{false≢true, and_parts, and_from}
use Rattle.std.proofs.lemmas.Slice.Eq.{bytes_eq-Decides}
use Rattle.std.proofs.lemmas.List.{get_or_past, length-take}
use Rattle.std.proofs.lemmas.List.Elements.{All-cons, All-map}
use Rattle.sha2.specs.Sha256.{sha256, digest_bytes, final_hash, initial_hash_256}
use Rattle.sha2.proofs.Facts256.{length-sha256}
use Rattle.star_io.specs.Bytes.{AreBytes}
use Rattle.star_io.proofs.ByteLists.{AreBytes-nil, AreBytes-append, AreBytes-take}
use Rattle.chacha_stream.specs.Keystream.{keystream, xor_bytes}
use Rattle.chacha_stream.proofs.StreamLaws.{same_length, twice}
use Rattle.field61.specs.declared.TheConstants.{MODULUS}
use Rattle.field61.specs.Field.{field_sum, AreElements}
use Rattle.field61.proofs.FieldLaws.{modulus_positive, zero_product, sum_zero}
use Rattle.shamir_limbs.specs.KeyLine.{value, HasDegreeBelow, AreDistinct, xs_of, agreement_of_all, values_at_zero, IsKeyLine}
use Rattle.report_frame.specs.declared.version.Version.{Version}
use Rattle.report_frame.specs.declared.head.Head.{Head}
use Rattle.shamir_limbs.specs.Limbs.{limbs, key_bytes, IsKey, AreLimbs}
use Rattle.shamir_limbs.specs.Search.{key_line_of}
use Rattle.shamir_limbs.specs.declared.key.Key.{Key}
use Rattle.shamir_limbs.specs.declared.recovery.Recovered.{Recovered}
use Rattle.shamir_limbs.specs.declared.share.Point.{Point}
use Rattle.shamir_limbs.proofs.LimbLaws.{limbs_come_back}
use Rattle.shamir_limbs.proofs.LineSearch.{line_of_polynomials}
use Rattle.shamir_limbs.proofs.LowBytes.{AreBytes-bytes_high_first}
use Rattle.adss_commit.specs.declared.context.Context.{Context}
use Rattle.adss_commit.specs.Derivation.{label, hashed, context_bytes, context_key, context_tag, context_check, coin_key, field_number, polynomial, derived, context_head, box_of, body_of, context_named, Opens, opened_value}
use Rattle.adss_commit.proofs.Filling.{length-polynomial}
use Rattle.adss_commit.proofs.Opening.{box_twice, own_head_opens}

AreBytes-digest_bytes : (h : List ℕ) (n : ℕ) → AreBytes (digest_bytes h n)
unfolding digest_bytes
AreBytes-digest_bytes h zero = AreBytes-nil
AreBytes-digest_bytes h (suc n) = AreBytes-append (digest_bytes h n) (to_be_bytes w32 (slice_index h n)) (AreBytes-digest_bytes h n) (AreBytes-bytes_high_first 4 (slice_index h n))

pub AreBytes-sha256 : (m : List ℕ) → AreBytes (sha256 m)
unfolding sha256
AreBytes-sha256 m = AreBytes-digest_bytes (final_hash initial_hash_256 m) 8

pub IsKey-context_key : (c : Context) → IsKey (context_key c)
unfolding hashed
IsKey-context_key c =
    let m : List ℕ = label c.version ++ 1 ∷ context_bytes c in
    (omega (arith, length-take 16 (sha256 m), length-sha256 m), AreBytes-take 16 (sha256 m) (AreBytes-sha256 m))

-- ---- the polynomials are a key line

value-at_zero : (a : ℕ) (cs : List ℕ) → a < MODULUS → value (a ∷ cs) 0 ≡ a
value-at_zero a cs below = ap (field_sum a) (zero_product (value cs 0)) ∙ sum_zero a below

field_number-below : (key : List ℕ) (place : ℕ) → field_number key place < MODULUS
unfolding field_number
field_number-below key place = mod-lt _ modulus_positive

polynomial-elements : (c : Context) (j : ℕ) → slice_index (limbs (context_key c)) j < MODULUS → AreElements (polynomial c j)
unfolding polynomial
polynomial-elements c j below =
    let number : ℕ → ℕ = λ (i : ℕ). field_number (coin_key c) (8 * (3 * i + j)) in
    let range : List ℕ = range_with_len 0 (c.k - 1) in
    All-cons (λ x. x < MODULUS) (slice_index (limbs (context_key c)) j) (map number range) below
    (All-map (λ x. x < MODULUS) number range (λ i d within. field_number-below (coin_key c) _))

polynomial-below : (c : Context) (j : ℕ) → 1 ≤ c.k → HasDegreeBelow (polynomial c j) c.k
polynomial-below c j low i past = get_or_past (polynomial c j) i 0 (omega (arith, length-polynomial c j low))

polynomial-at_zero : (c : Context) (j : ℕ) → slice_index (limbs (context_key c)) j < MODULUS → value (polynomial c j) 0 ≡ slice_index (limbs (context_key c)) j
unfolding polynomial
polynomial-at_zero c j below = value-at_zero (slice_index (limbs (context_key c)) j) _ below

limbs-elements : (numbers : List ℕ) → AreLimbs numbers → (slice_index numbers 0 < MODULUS) × (slice_index numbers 1 < MODULUS) × (slice_index numbers 2 < MODULUS)
limbs-elements numbers are = (omega (arith, are.0), omega (arith, are.1), omega (arith, are.2))

pub limbs_at_zero : (c : Context) → values_at_zero (polynomial c 0) (polynomial c 1) (polynomial c 2) ≡ limbs (context_key c)
limbs_at_zero c =
    let below = limbs-elements (limbs (context_key c)) (limbs_come_back (context_key c) (IsKey-context_key c)).0 in
    ap₂ (λ (x y : ℕ). x ∷ y ∷ value (polynomial c 2) 0 ∷ []) (polynomial-at_zero c 0 below.0) (polynomial-at_zero c 1 below.1)
    ∙ ap (λ (z : ℕ). slice_index (limbs (context_key c)) 0 ∷ slice_index (limbs (context_key c)) 1 ∷ z ∷ []) (polynomial-at_zero c 2 below.2)

-- the polynomials of a context are a key line of points of which enough lie on them
pub own_line : (c : Context) (points : List Point) → 1 ≤ c.k
    → length points + c.k ≤ 2 * agreement_of_all (polynomial c 0) (polynomial c 1) (polynomial c 2) points
    → IsKeyLine (polynomial c 0) (polynomial c 1) (polynomial c 2) points c.k
own_line c points low enough =
    let are : AreLimbs (limbs (context_key c)) = (limbs_come_back (context_key c) (IsKey-context_key c)).0 in
    let below = limbs-elements (limbs (context_key c)) are in
    record {
      elements = (polynomial-elements c 0 below.0, polynomial-elements c 1 below.1, polynomial-elements c 2 below.2);
      below = (polynomial-below c 0 low, polynomial-below c 1 low, polynomial-below c 2 low);
      limbs = subst AreLimbs (sym (limbs_at_zero c)) are;
      agrees = enough;
    }

-- and the key line of these points gives the key of the context
pub own_key : (c : Context) (points : List Point) → 1 ≤ c.k → AreElements (xs_of points) → AreDistinct (xs_of points) → c.k ≤ length points
    → length points + c.k ≤ 2 * agreement_of_all (polynomial c 0) (polynomial c 1) (polynomial c 2) points
    → key_line_of points c.k ≡ Some (record { key = (derived c).key; agree = agreement_of_all (polynomial c 0) (polynomial c 1) (polynomial c 2) points })
own_key c points low elements distinct threshold enough =
    line_of_polynomials (polynomial c 0) (polynomial c 1) (polynomial c 2) points c.k elements distinct threshold (own_line c points low enough)
    ∙ ap (λ (bytes : List ℕ). let r : Recovered = record { key = record { bytes = bytes }; agree = agreement_of_all (polynomial c 0) (polynomial c 1) (polynomial c 2) points } in Some r)
    (ap key_bytes (limbs_at_zero c) ∙ (limbs_come_back (context_key c) (IsKey-context_key c)).1)

-- ---- heads that open

-- a head that opens is the head of the context that it names
pub opened_head : (key : Key) (head : Head) (parent : List ℕ) (epoch level : ℕ) → Opens key head parent epoch level
    → head ≡ context_head (context_named key head parent epoch level)
opened_head key head parent epoch level opens =
    let c : Context = context_named key head parent epoch level in
    let boxed : head.boxed ≡ box_of head.version (context_key c) c.value = sym (ap (λ (k : List ℕ). box_of head.version k c.value) opens.0 ∙ box_twice head.version key.bytes head.boxed) in
    ap₂ (λ (t s : List ℕ). let h : Head = record { version = head.version; k = head.k; tag = t; check = s; boxed = head.boxed } in h) (sym opens.1) (sym opens.2)
    ∙ ap (λ (b : List ℕ). let h : Head = record { version = head.version; k = head.k; tag = context_tag c; check = context_check c; boxed = b } in h) boxed

opens_at : (key : Key) (head : Head) (parent : List ℕ) (epoch level : ℕ) (b : Bool)
    → (b ≡ true → Opens key head parent epoch level) → (Opens key head parent epoch level → b ≡ true)
    → (IsSome (cond b (Some (box_of head.version key.bytes head.boxed)) None) ↔ Opens key head parent epoch level)
    × IfSome (cond b (Some (box_of head.version key.bytes head.boxed)) None) (λ v. v ≡ box_of head.version key.bytes head.boxed)
opens_at key head parent epoch level true sound complete = ((λ _. sound refl, λ _. refl), refl)
opens_at key head parent epoch level false sound complete = ((λ e. absurd (false≢true e), λ o. absurd (false≢true (complete o))), tt)

-- the function gives a value exactly if the head opens, and then the one in its box
pub opened_exactly : (key : Key) (head : Head) (parent : List ℕ) (epoch level : ℕ)
    → (IsSome (opened_value key head parent epoch level) ↔ Opens key head parent epoch level)
    × IfSome (opened_value key head parent epoch level) (λ v. v ≡ box_of head.version key.bytes head.boxed)
unfolding opened_value
opened_exactly key head parent epoch level =
    let c : Context = context_named key head parent epoch level in
    let x : Bool = bytes_eq (context_key c) key.bytes in
    let y : Bool = bytes_eq (context_tag c) head.tag in
    let z : Bool = bytes_eq (context_check c) head.check in
    opens_at key head parent epoch level (x && (y && z))
    (λ e. let p = and_parts x (y && z) e in let q = and_parts y z p.1 in
    ((bytes_eq-Decides (context_key c) key.bytes).0 p.0, (bytes_eq-Decides (context_tag c) head.tag).0 q.0, (bytes_eq-Decides (context_check c) head.check).0 q.1))
    (λ o. and_from x (y && z) ((bytes_eq-Decides (context_key c) key.bytes).1 o.0)
    (and_from y z ((bytes_eq-Decides (context_tag c) head.tag).1 o.1) ((bytes_eq-Decides (context_check c) head.check).1 o.2)))

same_option : (o : Option (List ℕ)) (v : List ℕ) → IsSome o → IfSome o (λ w. w ≡ v) → o ≡ Some v
same_option (Some w) v some is = ap Some is
same_option None v some is = absurd (false≢true some)

-- a result that has a value exactly if the head opens, the one in its box, is that of the function
pub answer_is_opened : (o : Option (List ℕ)) (key : Key) (head : Head) (parent : List ℕ) (epoch level : ℕ) → IfSome o (λ v. v ≡ box_of head.version key.bytes head.boxed)
    → (IsSome o ↔ Opens key head parent epoch level) → o ≡ opened_value key head parent epoch level
answer_is_opened o key head parent epoch level value found =
    let answer = opened_exactly key head parent epoch level in
    by_answers o (opened_value key head parent epoch level) value answer.1 (λ some. answer.0.1 (found.0 some)) (λ some. found.1 (answer.0.0 some))
  where
    by_answers : (o r : Option (List ℕ)) → IfSome o (λ v. v ≡ box_of head.version key.bytes head.boxed) → IfSome r (λ v. v ≡ box_of head.version key.bytes head.boxed)
        → (IsSome o → IsSome r) → (IsSome r → IsSome o) → o ≡ r
    by_answers (Some v) (Some w) a b on back = ap Some (a ∙ sym b)
    by_answers (Some v) None a b on back = absurd (false≢true (on refl))
    by_answers None (Some w) a b on back = absurd (false≢true (back refl))
    by_answers None None a b on back = refl

-- the head of a context gives its value back under its own key
pub own_value : (c : Context) → opened_value (derived c).key (context_head c) c.parent c.epoch c.level ≡ Some c.value
own_value c =
    let answer = opened_exactly (derived c).key (context_head c) c.parent c.epoch c.level in
    same_option (opened_value (derived c).key (context_head c) c.parent c.epoch c.level) (box_of c.version (context_key c) (box_of c.version (context_key c) c.value)) (answer.0.1 (own_head_opens c)) answer.1
    ∙ ap Some (box_twice c.version (context_key c) c.value)

opened_named : (o : Option (List ℕ)) (v w : List ℕ) → o ≡ Some v → IfSome o (λ u. u ≡ w) → IsSome o × (w ≡ v)
opened_named o v w some is = subst (λ (p : Option (List ℕ)). IfSome p (λ u. u ≡ w) → IsSome p × (w ≡ v)) (sym some) (λ e. (refl, sym e)) is

-- two heads of one version that open to one value under one threshold at one place are one head
pub one_head : (p q : Key) (a b : Head) (parent : List ℕ) (epoch level : ℕ) (value : List ℕ)
    → opened_value p a parent epoch level ≡ Some value → opened_value q b parent epoch level ≡ Some value → a.version ≡ b.version → a.k ≡ b.k → a ≡ b
one_head p q a b parent epoch level value of_a of_b same_version same =
    let first = opened_exactly p a parent epoch level in
    let second = opened_exactly q b parent epoch level in
    let left = opened_named (opened_value p a parent epoch level) value (box_of a.version p.bytes a.boxed) of_a first.1 in
    let right = opened_named (opened_value q b parent epoch level) value (box_of b.version q.bytes b.boxed) of_b second.1 in
    opened_head p a parent epoch level (first.0.0 left.0)
    ∙ ap (λ (w : Version). let c : Context = record { version = w; parent = parent; epoch = epoch; level = level; k = a.k; value = box_of a.version p.bytes a.boxed } in context_head c) same_version
    ∙ ap₂ (λ (v : List ℕ) (k : ℕ). let c : Context = record { version = b.version; parent = parent; epoch = epoch; level = level; k = k; value = v } in context_head c) (left.1 ∙ sym right.1) same
    ∙ sym (opened_head q b parent epoch level (second.0.0 right.0))

-- a body under its keystream twice is the body again
pub body_twice : (key nonce body : List ℕ) → body_of key nonce (body_of key nonce body) ≡ body
body_twice key nonce body =
    let stream : List ℕ = keystream key nonce 0 0 (length body) in
    ap (λ (n : ℕ). xor_bytes (xor_bytes body stream) (keystream key nonce 0 0 n)) (same_length body stream) ∙ twice body stream
