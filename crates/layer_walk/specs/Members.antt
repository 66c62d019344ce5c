-- What a member of an opened group holds.
use Rattle.std.specs.Prelude.{ℕ, ◌+◌, Bool, not, ◌==◌, nat_lt, nat_le, List, [], ◌∷◌, length, Result, Ok, Err, if◌then◌else◌}
use Rattle.std.specs.Str.{bytes_eq}
use Rattle.hmac_seal.specs.Hmac.{hmac_sha256}
use Rattle.report_frame.specs.declared.fault.Fault.{Fault}
use Rattle.report_frame.specs.declared.limits.TheConstants.{MAX_EXTRA}
use Rattle.report_frame.specs.declared.version.Version.{Version}
use Rattle.report_frame.specs.declared.version.Version.TheVariants as version
use Rattle.report_frame.specs.Frame.{Fields, sealed_part}
use Rattle.report_frame.specs.Reading.{decoded}
use Rattle.adss_commit.specs.declared.context.Context.{Context}
use Rattle.adss_commit.specs.Derivation.{context_key, body_key_of, seal_key_of, body_of}
use Rattle.tag_groups.specs.Keys.{same_version}
use Rattle.layer_walk.specs.declared.refusal.Why.{Why}
use Rattle.layer_walk.specs.declared.refusal.Why.TheVariants.{Frame, WrongEpoch, WrongLevel, WrongVersion, Seal, BodyKind, BodyTail}
use Rattle.layer_walk.specs.declared.keys.Keys.{Keys}
use Rattle.layer_walk.specs.Rows.{Row}

-- a refusal, the last layer with the bytes behind its 0, or the frame of the next level
pub data Next : Type 0 where
  Refused : Why → Next
  Last : List ℕ → Next
  Inner : Fields → Next

-- how many bytes may stand behind the 0 of a last layer
abbrev pub most_after_last : Version → ℕ
most_after_last version.One = 0
most_after_last version.Two = MAX_EXTRA

-- the seal is that of the frame under the seal key
abbrev pub is_sealed : List ℕ → Fields → Bool
is_sealed seal_key r = bytes_eq r.seal (hmac_sha256 seal_key (sealed_part r))

-- the body under the keystream of the body key and the frame's nonce
abbrev pub plain_body : List ℕ → Fields → List ℕ
plain_body body_key r = body_of body_key r.nonce r.body

-- a frame of this epoch and level, or why it is refused
abbrev pub frame_for : ℕ → ℕ → Result Fields Fault → Result Fields Why
frame_for e l (Err fault) = Err (Frame fault.kind)
frame_for e l (Ok r) =
    if not (r.epoch == e) then Err WrongEpoch
    else if not (r.level == l) then Err WrongLevel
    else Ok r

-- a frame of this version is the next one
abbrev pub inner_or_refused : Version → Result Fields Why → Next
inner_or_refused v (Err why) = Refused why
inner_or_refused v (Ok r) = if same_version r.version v then Inner r else Refused WrongVersion

-- what a plain body holds, in a group of these keys
abbrev pub opened_body : Keys → List ℕ → Next
opened_body keys [] = Refused BodyKind
opened_body keys (kind ∷ rest) =
    if kind == 0 then (if nat_le (length rest) (most_after_last keys.version) then Last rest else Refused BodyTail)
    else if nat_lt 1 kind then Refused BodyKind
    else inner_or_refused keys.version (frame_for keys.epoch (keys.level + 1) (decoded rest))

-- the keys of a group of this version at this epoch and level
abbrev pub keys_of : Version → ℕ → ℕ → List ℕ → Keys
keys_of v e l key = record { seal = seal_key_of v key; body = body_key_of v key; version = v; epoch = e; level = l }

-- what a member holds, in a group of these keys
unfoldable pub next_with : Keys → Fields → Next
next_with keys r = if is_sealed keys.seal r then opened_body keys (plain_body keys.body r) else Refused Seal

-- the context of the row's group, where it has this value
abbrev pub context_at : ℕ → ℕ → Row → List ℕ → Context
context_at e l row value =
    record { version = row.frame.version; parent = row.parent.check; epoch = e; level = l; k = row.frame.k; value = value }

-- what the row holds, where its group has this value
abbrev pub next_at : ℕ → ℕ → Row → List ℕ → Next
next_at e l row value = next_with (keys_of row.frame.version e l (context_key (context_at e l row value))) row.frame
