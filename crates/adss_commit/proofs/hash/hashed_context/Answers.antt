use Rattle.std.proofs.Common.{◌∙◌, List, ℕ, [], ap}
use Rattle.adss_commit.specs.Derivation.{hashed, context_bytes}
use Rattle.adss_commit.proofs.Spelt.{context_spelt}
use Rattle.adss_commit.proofs.hash.hashed_context.Goals as goal

pub returns : goal.returns
returns c =
    c.finalize.ensures _ (c.update-8.ensures _ (c.update-7.ensures _ (c.update-6.ensures _ (c.update-5.ensures _ (c.update-4.ensures _ (c.update-3.ensures _ (c.update-2.ensures _ (c.update.ensures [] c.new-hasher.ensures))))))))
    ∙ context_spelt c.label.result c.args.kind c.args.context.now c.to_be_bytes.result c.one_byte.result c.to_be_bytes-2.result c.one_byte-2.result c.as_slice-value.result.now
    c.to_be_bytes.ensures c.one_byte.ensures c.to_be_bytes-2.ensures c.one_byte-2.ensures c.as_slice-value.ensures.value
    ∙ ap (λ (l : List ℕ). hashed l c.args.kind (context_bytes c.args.context.now)) c.label.ensures
