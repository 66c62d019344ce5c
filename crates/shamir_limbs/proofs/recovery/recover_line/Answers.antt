use Rattle.std.proofs.Common.{Some, None, ap, ◌∙◌}
use Rattle.std.specs.Option.{option_map}
use Rattle.shamir_limbs.specs.declared.recovery.KeyLine.{KeyLine}
use Rattle.shamir_limbs.proofs.LineSearch.{recovered_is_line, one_recovered}
use Rattle.shamir_limbs.proofs.recovery.recover_line.Goals as goal

pub returns-in_err-found-clause-found : goal.returns-in_err-found-clause-found
returns-in_err-found-clause-found c =
    ap (option_map (λ (line : KeyLine). line.found)) c.from_residual.ensures ∙ recovered_is_line c.args.points.now c.args.k None tt tt c.in_err-found.ensures.only

pub returns-clause-found : goal.returns-clause-found
returns-clause-found c =
    recovered_is_line c.args.points.now c.args.k (Some c.in_ok-found.found) c.in_ok-found.ensures.key
    (c.find_line.new.first, c.find_line.new.second, c.find_line.new.third, c.in_ok-found.ensures.line, c.in_ok-found.ensures.from)
    c.in_ok-found.ensures.only

pub returns-clause-from : goal.returns-clause-from
returns-clause-from c =
    (one_recovered c.in_ok-found.found c.find_line.new.first c.find_line.new.second c.find_line.new.third c.args.points.now c.in_ok-found.ensures.key c.in_ok-found.ensures.line.limbs).0 c.in_ok-found.ensures.from
