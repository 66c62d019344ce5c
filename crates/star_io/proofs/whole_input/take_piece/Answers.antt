use Rattle.std.proofs.Common.{◌≡◌, ◌+◌, ℕ, List, length, take, ◌++◌, ap, ◌∙◌, arith, vec_len, ◌-◌}
use Rattle.std.proofs.lemmas.List.{length-take-le}
use Rattle.star_io.proofs.KnownBytes.{kept_front, take_put}
use Rattle.star_io.proofs.whole_input.take_piece.Goals as goal

pub returns-clause-taken : goal.returns-clause-taken
returns-clause-taken g c =
    let old = c.args.bytes.now.items in
    let room = c.as_mut_slice.result.now in
    let n = c.in_ok-count.count in
    let into = c.fill.new.into in
    let filled : c.len-filled.result ≡ length old = omega arith in
    let kept : take c.len-filled.result room ≡ old = kept_front c.len-filled.result c.args.room (c.len-filled.result + c.args.room - vec_len c.args.bytes.now) old room filled (c.as_mut_slice.ensures.value ∙ c.in_ok-resize.ensures.items) in
    record {
      piece = take n into;
      long = length-take-le n into c.in_ok-count.ensures.bound.0;
      taken = c.in_ok-count.ensures.bytes;
      behind = c.truncate.ensures.items
          ∙ take_put c.len-filled.result (length room - c.len-filled.result) n c.resize.new.self.len room into _ c.in_ok-count.ensures.bound.0 (omega (arith, c.in_ok-resize.ensures.len)) (omega (arith, c.in_ok-resize.ensures.len, c.in_ok-count.ensures.bound.0))
          ∙ ap (λ (l : List ℕ). l ++ take n into) kept;
    }
