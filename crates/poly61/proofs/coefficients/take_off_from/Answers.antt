use Rattle.std.proofs.Common.{arith, ◌≡◌, ◌≤◌, ◌+◌, ◌-◌, ◌∙◌, ◌⊎◌, inl, inr, sym, get_or, length}
use Rattle.std.proofs.lemmas.Bool.{cases_lt}
use Rattle.std.proofs.lemmas.List.{get_or_past}
use Rattle.poly61.proofs.Lists.{AreElements-bounded}
use Rattle.poly61.proofs.Elements.{nothing_taken}
use Rattle.poly61.proofs.coefficients.take_off_from.Goals as goal

pub returns-clause-taken : goal.returns-clause-taken
returns-clause-taken c = record {
  low = c.loop-i.invariant.low;
  rest = λ k. elim (cases_lt k c.loop-i.i) [
    | inl done ↦ c.loop-i.invariant.done k done
    | inr past ↦
        let few : (length c.args.other.now ≤ k) ⊎ (length c.args.coefficients.now - c.args.shift ≤ k) = grind arith in
        let none : (c.args.c ≡ 0) ⊎ (get_or c.args.other.now k 0 ≡ 0) =
        elim few [ inl short ↦ inr (get_or_past _ k 0 short) | inr full ↦ elim c.requires.room [ inl e ↦ inl e | inr below ↦ inr (below k full) ] ] in
        c.loop-i.invariant.rest k past ∙ sym (nothing_taken _ c.args.c (get_or c.args.other.now k 0) (AreElements-bounded c.args.coefficients.now c.requires.elements (c.args.shift + k)) none)
  ];
}
