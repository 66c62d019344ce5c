use Rattle.std.proofs.Common.{rules, sym, subst}
use Rattle.recovery_pool.specs.Answers.{AnswersEach}
use Rattle.recovery_pool.proofs.Ordered.{no_jobs, one_more, in_place, places_one, all_placed, taken_here, takes_as}
use Rattle.recovery_pool.proofs.order.in_order.Goals as goal

pub index_mut-requires : goal.index_mut-requires
index_mut-requires g c =
    let low = in_place _ _ _ _ _ c.in-Some.entry.number c.in-Some.entry.out c.in-Some.ensures.items c.loop-entry.invariant in search rules

pub loop-entry-preserved : goal.loop-entry-preserved
loop-entry-preserved g c = places_one _ _ _ _ _ c.in-Some.entry.number c.in-Some.entry.out c.in-Some.ensures.items c.loop-entry.invariant

pub loop-entry-preserved-in-Some : goal.loop-entry-preserved-in-Some
loop-entry-preserved-in-Some g c = places_one _ _ _ _ _ c.in-Some.entry.number c.in-Some.entry.out c.in-Some.ensures.items c.loop-entry.invariant

pub loop-k-init : goal.loop-k-init
loop-k-init g c =
    record {
      taking = all_placed _ _ _ _ (search rules) c.loop-entry.invariant;
      taken = subst (AnswersEach (g.J.Job.answers c.args.jobs.now) 0) (sym c.new-outs.ensures.items) (no_jobs _);
    }

pub loop-k-preserved : goal.loop-k-preserved
loop-k-preserved g c =
    record {
      taking = takes_as _ _ _ _ _ c.in-Some-take.ensures.after c.loop-k.invariant.taking;
      taken = one_more _ _ _ _ _ c.in_ok-push-in-Some-take.ensures.items c.loop-k.invariant.taken (taken_here _ _ _ _ _ _ c.loop-k.invariant.taking (search rules) c.index_mut-in-loop-k.ensures.value (search rules));
    }
