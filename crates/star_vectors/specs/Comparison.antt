-- What the self test finds.
use Rattle.std.specs.Prelude.{List, [], ◌∷◌, length, Option, Some, None, Result, Ok, Err, if◌then◌else◌}
use Rattle.std.specs.Str.{bytes_eq}
use Rattle.star_vectors.specs.declared.vectors.Vector.{Vector}
use Rattle.star_vectors.specs.declared.outcome.Passed.{Passed}
use Rattle.star_vectors.specs.declared.outcome.SelfTestError.{SelfTestError}
use Rattle.star_vectors.specs.declared.outcome.SelfTestError.TheVariants as error
use Rattle.star_vectors.specs.Vectors.{vectors}

-- the first vector whose bytes are not those wanted
abbrev pub first_differing : List Vector → Option Vector
first_differing [] = None
first_differing (v ∷ vs) = if bytes_eq v.got v.wanted then first_differing vs else Some v

-- the self test is passed, or stops at a vector
abbrev pub outcome_of : Option Vector → Result Passed SelfTestError
outcome_of None = Ok (record { count = length vectors })
outcome_of (Some v) = Err (error.Vector v.number v.got v.wanted)
