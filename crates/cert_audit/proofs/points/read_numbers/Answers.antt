use Rattle.std.proofs.Common.{◌≡◌, ◌∙◌, ℕ, ◌+◌, ◌-◌, ◌*◌, List, [], ◌∷◌, ◌++◌, Option, Some, None, IfSome, Err, refl, sym, ap, arith}
use Rattle.byte_format.specs.Format.{Entry}
use Rattle.cert_audit.specs.declared.fault.CertFault.{CertFault}
use Rattle.cert_audit.specs.Certificate.{numbers_layout, number_entries}
use Rattle.field61.specs.declared.TheConstants.{MODULUS}
use Rattle.byte_format.specs.Format.Size.{EightBytes}
use Rattle.byte_format.proofs.OneField.{read-number}
use Rattle.cert_audit.specs.declared.kind.CertKind.TheVariants.{Range}
use Rattle.byte_format.specs.Reading.{read}
use Rattle.cert_audit.specs.Reading.{certs, Answer}
use Rattle.cert_audit.proofs.Steps.{element_fault, numbers_next, numbers_more, numbers_all}
use Rattle.cert_audit.proofs.Whole.{at_exit}
use Rattle.cert_audit.proofs.points.read_numbers.Goals as goal

-- the fault of so many numbers that are read at this place
abbrev FaultOf : ℕ → ℕ → List ℕ → CertFault → Type 0
FaultOf n at bytes e = (before : List Entry) → read certs (numbers_layout n) at before bytes ≡ Err e

-- what is taken out of an answer is what it holds
taken_out : (o : Option ℕ) (a n : ℕ) → o ≡ Some a → IfSome o (λ b. b ≡ n) → a ≡ n
taken_out (Some b) a n is holds = let same : b ≡ a = cc in sym same ∙ holds
taken_out None a n is holds = absurd cc

pub returns-in_err-number-clause-fault : goal.returns-in_err-number-clause-fault
returns-in_err-number-clause-fault c =
    let n : ℕ = c.args.n in
    let i : ℕ = c.loop-i.i in
    let at : ℕ = c.args.at in
    let numbers : List ℕ = c.loop-i.numbers.items in
    at_exit (FaultOf n at c.args.bytes.now) c.from_residual.result c.in_err-number.field-0.0 c.from_residual.ensures.1 (λ before.
    numbers_next n i at before numbers c.loop-i.rest.now (read certs (numbers_layout n) at before c.args.bytes.now) c.loop-i-test.true
    (c.loop-i.invariant.walk before)
    ∙ element_fault 0 (at + 8 * i) (λ _. numbers_layout (n - (i + 1))) (before ++ number_entries numbers) c.loop-i.rest.now
    c.in_err-number.field-0.0 c.in_err-number.ensures.found)

pub loop-i-preserved : goal.loop-i-preserved
loop-i-preserved c =
    let n : ℕ = c.args.n in
    let i : ℕ = c.loop-i.i in
    let at : ℕ = c.args.at in
    let numbers : List ℕ = c.loop-i.numbers.items in
    let x : ℕ = c.in_ok-number.number in
    let behind : List ℕ = c.in_ok-number.behind.now in
    let inv = c.loop-i.invariant in
    let items : c.push_reserved.new.self.items ≡ numbers ++ x ∷ [] =
    c.push_reserved.ensures.items
    ∙ ap (λ (m : ℕ). numbers ++ m ∷ []) (taken_out c.new.result c.unwrap.result x c.unwrap.ensures c.new.ensures.same) in
    record {
      walk = λ before.
          let start : Answer = read certs (numbers_layout n) at before c.args.bytes.now in
          numbers_more n i at before numbers x behind start
          (numbers_next n i at before numbers c.loop-i.rest.now start c.loop-i-test.true (inv.walk before)
          ∙ read-number certs EightBytes Range 0 (MODULUS - 1) (λ _. numbers_layout (n - (i + 1))) (at + 8 * i) (at + 8 * i)
          (before ++ number_entries numbers)
          c.loop-i.rest.now x behind refl c.in_ok-number.ensures.found)
          ∙ ap (λ (ns : List ℕ). read certs (numbers_layout (n - (i + 1))) (at + 8 * (i + 1)) (before ++ number_entries ns) behind)
          (sym items);
      many = omega (arith, c.push_reserved.ensures.len, inv.many);
      capacity = c.push_reserved.ensures.capacity ∙ inv.capacity;
    }

pub returns-clause-ok : goal.returns-clause-ok
returns-clause-ok c before =
    let n : ℕ = c.args.n in
    let i : ℕ = c.loop-i.i in
    let all : i ≡ n = omega arith in
    numbers_all n i c.args.at before c.loop-i.numbers.items c.loop-i.rest.now
    (read certs (numbers_layout n) c.args.at before c.args.bytes.now) all (c.loop-i.invariant.walk before)
