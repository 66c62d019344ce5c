use Rattle.std.proofs.Common.{◌∷◌, [], ◌∙◌, List, ℕ, ap, ap₂}
use Rattle.star_vectors.specs.Vectors.{filled_up, spelled}
use Rattle.star_vectors.proofs.Decoding.{coefficients_of_line}
use Rattle.star_vectors.proofs.numbers.decoded.Goals as goal

pub returns : goal.returns
returns c =
    c.spelled.ensures ∙ ap (λ (f : List ℕ). filled_up (spelled f))
    (ap₂ (λ (a b : ℕ). a ∷ b ∷ []) c.coefficient.ensures.coefficient c.coefficient-2.ensures.coefficient
    ∙ coefficients_of_line c.decode.new.out c.args.xs.now c.args.ys.now c.if-not-decode.ensures.search)
