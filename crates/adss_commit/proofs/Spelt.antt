-- The bytes of a context, joined from those of its fields.
use Rattle.std.proofs.Common.{◌≡◌, ◌∙◌, ℕ, List, [], ◌∷◌, ◌++◌, length, refl, ap, ap₂, append_assoc}
use Rattle.std.specs.Int.{w8, w16, w32, to_be_bytes}
use Rattle.sha2.specs.Sha256.{sha256}
use Rattle.adss_commit.specs.declared.context.Context.{Context}
use Rattle.adss_commit.specs.Derivation.{hashed, context_bytes}

fields_behind : (front parent epoch level k size value : List ℕ)
    → front ++ parent ++ epoch ++ level ++ k ++ size ++ value ≡ front ++ (parent ++ epoch ++ level ++ k ++ size ++ value)
fields_behind [] parent epoch level k size value = refl
fields_behind (b ∷ front) parent epoch level k size value = ap (λ (t : List ℕ). b ∷ t) (fields_behind front parent epoch level k size value)

pub context_spelt : (label : List ℕ) (kind : ℕ) (c : Context) (epoch level k size value : List ℕ)
    → epoch ≡ to_be_bytes w32 c.epoch → level ≡ to_be_bytes w8 c.level → k ≡ to_be_bytes w16 c.k
    → size ≡ to_be_bytes w8 (length value) → value ≡ c.value
    → sha256 (label ++ kind ∷ [] ++ c.parent ++ epoch ++ level ++ k ++ size ++ value) ≡ hashed label kind (context_bytes c)
unfolding hashed context_bytes
context_spelt label kind c epoch level k size value epoch_is level_is k_is size_is value_is =
    ap sha256 (fields_behind (label ++ kind ∷ []) c.parent epoch level k size value ∙ append_assoc label (kind ∷ []) (c.parent ++ epoch ++ level ++ k ++ size ++ value))
    ∙ ap₂ (λ (e t : List ℕ). sha256 (label ++ kind ∷ (c.parent ++ e ++ level ++ t ++ size ++ value))) epoch_is k_is
    ∙ ap₂ (λ (l s : List ℕ). sha256 (label ++ kind ∷ (c.parent ++ to_be_bytes w32 c.epoch ++ l ++ to_be_bytes w16 c.k ++ s ++ value))) level_is size_is
    ∙ ap (λ (v : List ℕ). sha256 (label ++ kind ∷ (c.parent ++ to_be_bytes w32 c.epoch ++ to_be_bytes w8 c.level ++ to_be_bytes w16 c.k ++ to_be_bytes w8 (length v) ++ v))) value_is
