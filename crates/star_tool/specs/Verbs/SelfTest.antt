-- The command `selftest`.
use Rattle.std.specs.Prelude.{ℕ, List, length, Option, option_map}
use Rattle.star_vectors.specs.Vectors.{vectors}
use Rattle.star_vectors.specs.Comparison.{first_differing}
use Rattle.star_tool.specs.declared.status.Status.{Status}
use Rattle.star_tool.specs.declared.status.Status.TheVariants.{BadVector}
use Rattle.star_tool.specs.SelfTestText.{self_test_text_of}

-- the first vector that differs
abbrev pub self_test_refusal : Option Status
self_test_refusal = option_map (λ vector. BadVector vector.number vector.got vector.wanted) (first_differing vectors)

-- a line for each vector
abbrev pub self_test_output : List ℕ
self_test_output = self_test_text_of (length vectors)
