use Rattle.std.proofs.Common.{◌≡◌, ◌∙◌, ◌+◌, ◌++◌, ◌-◌, ℕ, List, length, replicate, arith, ap, sym, get_or, drop, set}
use Rattle.std.proofs.lemmas.List.{drop-replicate}
use Rattle.std.proofs.Math.Seq.{paste}
use Rattle.std.proofs.lemmas.List.Edits.{paste_none, paste_more, paste_all}
use Rattle.hmac_seal.proofs.key.zero_filled.Goals as goal

pub copy-init : goal.copy-init
copy-init c = paste_none (replicate 64 0) 0 c.args.front.now

pub copy-preserved : goal.copy-preserved
copy-preserved c =
    let zeroth : 0 + c.copy.place ≡ c.copy.place = omega arith in
    let more = paste_more (replicate 64 0) 0 c.args.front.now c.copy.place 0 (omega arith) (omega arith) in
    rw c.copy.invariant (ap (λ (p : ℕ). set (paste (replicate 64 0) 0 c.args.front.now c.copy.place) p (get_or c.args.front.now c.copy.place 0)) (sym zeroth) ∙ more)

pub returns : goal.returns
returns c =
    let n : ℕ = length c.args.front.now in
    let at_end : c.copy.place ≡ n = omega arith in
    let rest : drop (0 + c.copy.place) (replicate 64 0) ≡ replicate (64 - n) 0 =
    drop-replicate (0 + c.copy.place) 64 0 ∙ ap (λ (k : ℕ). replicate k 0) (omega arith) in
    c.copy.invariant ∙ paste_all (replicate 64 0) 0 c.args.front.now c.copy.place at_end ∙ ap (λ (t : List ℕ). c.args.front.now ++ t) rest
