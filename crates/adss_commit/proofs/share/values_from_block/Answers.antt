use Rattle.std.proofs.Common.{◌≡◌, ◌∙◌, ◌≤◌, ◌+◌, ◌-◌, ◌*◌, ℕ, List, [], ◌∷◌, get_or, ap, ap₂, arith}
use Rattle.poly61.specs.Poly.{value}
use Rattle.adss_commit.specs.Derivation.{coefficients_from}
use Rattle.adss_commit.proofs.Horner.{coefficient_at, one_more}
use Rattle.adss_commit.proofs.share.values_from_block.Goals as goal

pub powers-preserved : goal.powers-preserved
powers-preserved c =
    let key : List ℕ = c.args.key.now in
    let x : ℕ = c.args.x in
    let count : ℕ = c.min-count.result in
    let i : ℕ = count - 1 - c.powers.done in
    let start : ℕ = 64 * c.args.block + (count - (c.powers.done + 1)) in
    let next : ℕ = 64 * c.args.block + (count - c.powers.done) in
    let n : ℕ = c.args.powers - next in
    let more : ℕ = c.args.powers - start in
    let coins : List ℕ = c.coins_of_block-coins.result in
    let drawn = c.coins_of_block-coins.ensures in
    let within : 64 * c.args.block + count ≤ c.args.powers = omega arith in
    let first : c.add.result ≡ value (coefficients_from key 0 start more) x =
    one_more key 0 start n next more x c.number_at.result (get_or c.powers.sums 0 c.index-sums-0.result) c.mul.result c.add.result (omega arith) (omega arith)
    (coefficient_at key coins c.args.block count i 0 (24 * i) start c.number_at.result drawn (omega arith) (omega arith) (omega arith) (omega arith) c.number_at.ensures)
    (ap (λ (l : List ℕ). get_or l 0 c.index-sums-0.result) c.powers.invariant) c.mul.ensures.product c.add.ensures.sum in
    let second : c.add-in-powers.result ≡ value (coefficients_from key 1 start more) x =
    one_more key 1 start n next more x c.number_at-in-powers.result (get_or c.powers.sums 1 c.index-sums-1.result) c.mul-in-powers.result c.add-in-powers.result (omega arith) (omega arith)
    (coefficient_at key coins c.args.block count i 1 (24 * i + 8) start c.number_at-in-powers.result drawn (omega arith) (omega arith) (omega arith) (omega arith) c.number_at-in-powers.ensures)
    (ap (λ (l : List ℕ). get_or l 1 c.index-sums-1.result) c.powers.invariant) c.mul-in-powers.ensures.product c.add-in-powers.ensures.sum in
    let third : c.add-in-powers-2.result ≡ value (coefficients_from key 2 start more) x =
    one_more key 2 start n next more x c.number_at-in-powers-2.result (get_or c.powers.sums 2 c.index-sums-2.result) c.mul-in-powers-2.result c.add-in-powers-2.result (omega arith) (omega arith)
    (coefficient_at key coins c.args.block count i 2 (24 * i + 16) start c.number_at-in-powers-2.result drawn (omega arith) (omega arith) (omega arith) (omega arith) c.number_at-in-powers-2.ensures)
    (ap (λ (l : List ℕ). get_or l 2 c.index-sums-2.result) c.powers.invariant) c.mul-in-powers-2.ensures.product c.add-in-powers-2.ensures.sum in
    ap₂ (λ (a b : ℕ). a ∷ b ∷ c.add-in-powers-2.result ∷ []) first second
    ∙ ap (λ (d : ℕ). value (coefficients_from key 0 start more) x ∷ value (coefficients_from key 1 start more) x ∷ d ∷ []) third
