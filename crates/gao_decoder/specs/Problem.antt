-- What the decoders find, of a problem.
use Rattle.std.specs.Prelude.{ℕ, List}
use Rattle.gao_decoder.specs.Decoding.{IsDecoded}
use Rattle.gao_decoder.specs.declared.problem.Problem.{Problem}

-- the polynomial is decoded from the points of the problem
abbrev pub Solves : List ℕ → Problem → Type 0
Solves f p = IsDecoded f p.xs.now p.ys.now p.k
