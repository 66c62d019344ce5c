use Rattle.std.proofs.Common.{arith, ℕ, ◌+◌, ◌-◌, ◌∙◌, sym}
use Rattle.poly61.proofs.Convolution.{column_trimmed}
use Rattle.poly61.proofs.blocks.column.Goals as goal

pub returns-clause-product : goal.returns-clause-product
returns-clause-product c =
    let low : ℕ = c.saturating_sub-low.result in
    let high : ℕ = c.min-high.result in
    c.sum_of_products.ensures.sum ∙ sym (column_trimmed c.args.f.now c.args.g.now c.args.reversed.now c.args.n c.args.m c.args.t low (high - low) (c.args.m + low - (c.args.t + 1)) c.requires.first_below c.requires.second_below c.requires.reversed
    (omega arith) (omega arith) (omega arith) (omega arith) (omega arith))
