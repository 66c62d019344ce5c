use Rattle.std.proofs.Common.{ℕ, ◌≡◌, ◌-◌, ◌/◌, ◌∙◌, refl, sym, ap, inl, inr, get_or}
use Rattle.std.proofs.lemmas.Bool.{cases_lt}
use Rattle.gao_decoder.specs.Halving.{row_at}
use Rattle.gao_decoder.proofs.Rows.{takes_after, takes_zero}
use Rattle.gao_decoder.proofs.halving.+halve.Goals as goal

pub returns-clause-done : goal.returns-clause-done
returns-clause-done t c is i low high =
    let f = c.halve.new.rows in
    let s = c.halve-2.new.rows in
    let o = c.row_product.new.out in
    let o2 = c.row_product-2.new.out in
    let x : ℕ = get_or c.args.xs.now i 0 in
    let a : ℕ = get_or c.args.firsts.now i 0 in
    let b : ℕ = get_or c.args.seconds.now i 0 in
    let middle : ℕ = c.args.to - (c.args.to - c.args.from) / 2 in
    let pa = c.if-not-row_product.ensures refl x a b in
    let pb = c.row_product-2.ensures is x a b in
    elim (cases_lt i middle) [
      | inl less ↦ takes_after o.v o.r o2.v o2.r s.a.v s.a.r s.b.v s.b.r f.a.v f.a.r f.b.v f.b.r x a b 0 0 pa pb (c.if-not-halve.ensures.done refl i low less) (takes_zero s.a.v s.a.r s.b.v s.b.r x)
      | inr past ↦
          let a1 : ℕ = get_or c.halve.new.firsts i 0 in
          let b1 : ℕ = get_or c.halve.new.seconds i 0 in
          let a_same : a1 ≡ a = c.halve.ensures.firsts_rest i past in
          let b_same : b1 ≡ b = c.halve.ensures.seconds_rest i past in
          let first : row_at f.a.v f.a.r x a b ≡ get_or c.update.new.firsts i 0 = sym (c.update.ensures.firsts i past high ∙ ap (λ u. row_at f.a.v f.a.r x u b1) a_same ∙ ap (row_at f.a.v f.a.r x a) b_same) in
          let second : row_at f.b.v f.b.r x a b ≡ get_or c.update.new.seconds i 0 = sym (c.update.ensures.seconds i past high ∙ ap (λ u. row_at f.b.v f.b.r x u b1) a_same ∙ ap (row_at f.b.v f.b.r x a) b_same) in
          takes_after o.v o.r o2.v o2.r s.a.v s.a.r s.b.v s.b.r f.a.v f.a.r f.b.v f.b.r x a b (get_or c.update.new.firsts i 0) (get_or c.update.new.seconds i 0) pa pb (record { first = first; second = second }) (c.if-not-halve-2.ensures.done refl i past high)
    ]
