use Rattle.std.proofs.Common.{◌<◌, ℕ, length, get_or, arith, bit_xor, length-set}
use Rattle.std.proofs.lemmas.List.{get_or_default}
use Rattle.std.proofs.lemmas.List.Edits.{map_over_more}
use Rattle.hmac_seal.proofs.key.padded_with.Goals as goal

pub pad-preserved : goal.pad-preserved
pad-preserved c =
    let before : c.pad.place < length c.args.block = omega (arith, c.well_formed) in
    let within : c.pad.place < length c.pad.block = omega (arith, c.pad.invariant.long) in
    record {
      long = simp length-set (c.pad.invariant.long);
      padded = map_over_more (λ (b : ℕ). bit_xor b c.args.pad) c.args.block c.pad.block c.pad.place (get_or c.pad.block c.pad.place 0) before c.pad.invariant.padded (get_or_default c.pad.block c.pad.place 0 _ within);
    }
