use Rattle.std.proofs.Common.{ℕ, List, sym, ◌∙◌, ap, arith}
use Rattle.star_io.specs.MemorySource.{SourceState, faults_of, fails_at}
use Rattle.star_io.proofs.Calls.{no_fewer, rose}
use Rattle.star_io.proofs.memory_source.MemorySourceSource.take.Goals as goal

pub returns-then-fails-clause-cause : goal.returns-then-fails-clause-cause
returns-then-fails-clause-cause c =
    let fails = c.self.inside.fails.items in
    let e = ap (λ (t : SourceState). faults_of t.fails t.calls) c.self.view_is in
    let named = ap (λ (l : List ℕ). fails_at l c.self.inside.calls) (sym c.deref.ensures.value) ∙ sym c.is_failing-fails.ensures ∙ c.if-fails.true in
    record {
      later = rw (← e) (no_fewer fails c.self.inside.calls _ (omega arith) c.saturating_add-self-inside.ensures);
      failed = rw (← e) (rose fails c.self.inside.calls _ named c.saturating_add-self-inside.ensures);
    }

pub returns-clause-cause : goal.returns-clause-cause
returns-clause-cause c =
    let e = ap (λ (t : SourceState). faults_of t.fails t.calls) c.self.view_is in
    record {
      later = rw (← e) (no_fewer c.self.inside.fails.items c.self.inside.calls _ (omega arith) c.saturating_add-self-inside.ensures);
      failed = tt;
    }
