use Rattle.std.proofs.Common.{◌≡◌, ◌∙◌, sym, subst, arith, All}
use Rattle.std.specs.List.{AllZip}
use Rattle.std.proofs.lemmas.Result.{IfOk-weaker}
use Rattle.report_frame.specs.declared.limits.TheConstants.{MAX_LAYERS}
use Rattle.layer_walk.specs.Reveal.{outer_rows, reveal_of}
use Rattle.cert_audit.specs.Certificate.{IsCert}
use Rattle.open_cert.specs.Certs.{certs_list, IsCertOf}
use Rattle.open_cert.proofs.Complete.{complete, in_range}
use Rattle.open_cert.proofs.Steps.{IsHere, none_done, one_more, all_done}
use Rattle.open_cert.proofs.certs.certs_of.Goals as goal

pub loop-done-init : goal.loop-done-init
loop-done-init c =
    none_done c.args.epoch c.args.records.now c.in_ok-zero.zero c.in_ok-here.here _ c.in_ok-zero.ensures.zero c.in_ok-zero.ensures.good c.in_ok-here.ensures.level c.in_ok-here.ensures.groups c.new-made.ensures.items

pub loop-done-preserved : goal.loop-done-preserved
loop-done-preserved c =
    one_more c.args.epoch c.args.records.now c.loop-done._done c.loop-done.here c.in_ok-after.after c.in_ok-here-2.here
    c.loop-done.made.items _ c.put_all.new.made.items
    c.loop-done.invariant c.in_ok-outs.ensures.made c.in_ok-put_all.ensures c.in_ok-after.ensures.after c.in_ok-after.ensures.good c.in_ok-here-2.ensures.level c.in_ok-here-2.ensures.groups

pub returns-clause-certs : goal.returns-clause-certs
returns-clause-certs c =
    let so : IsHere c.args.epoch c.args.records.now MAX_LAYERS c.loop-done.here c.loop-done.made.items =
    subst (λ n. IsHere c.args.epoch c.args.records.now n c.loop-done.here c.loop-done.made.items) (omega (arith, c.loop-done-test.false)) c.loop-done.invariant in
    IfOk-weaker c.certs_alone.result _ (λ certs. certs ≡ certs_list c.args.epoch c.args.records.now)
    (λ certs is. is ∙ all_done c.args.epoch c.args.records.now c.loop-done.here c.loop-done.made.items c.in_ok-sorted.sorted.items so c.in_ok-sorted.ensures) c.certs_alone.ensures

pub returns-clause-complete : goal.returns-clause-complete
returns-clause-complete c =
    IfOk-weaker c.certs_alone.result (λ certs. certs ≡ certs_list c.args.epoch c.args.records.now) (λ certs. AllZip (IsCertOf c.args.epoch (outer_rows c.args.epoch c.args.records.now)) (reveal_of c.args.epoch c.args.records.now).groups certs)
    (λ certs is. subst (AllZip (IsCertOf c.args.epoch (outer_rows c.args.epoch c.args.records.now)) (reveal_of c.args.epoch c.args.records.now).groups) (sym is) (complete c.args.epoch c.args.records.now c.know_records.ensures))
    (returns-clause-certs c)

pub returns-clause-range : goal.returns-clause-range
returns-clause-range c few =
    IfOk-weaker c.certs_alone.result (λ certs. certs ≡ certs_list c.args.epoch c.args.records.now) (All IsCert)
    (λ certs is. subst (All IsCert) (sym is) (in_range c.args.epoch c.args.records.now c.know_records.ensures few))
    (returns-clause-certs c)
