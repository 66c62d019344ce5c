use Rattle.std.proofs.Common.{◌≡◌, Err, sym, ◌∙◌, arith, rules}
use Rattle.star_io.proofs.ByteLists.{AreBytes-from_fits}
use Rattle.report_frame.specs.Misread.{fault_of}
use Rattle.report_frame.specs.Reading.{decoded}
use Rattle.report_frame.proofs.Frames.{decoded-long}
use Rattle.report_frame.proofs.FrameLaws.{frame_length, one_report, no_fault_of_frame}
use Rattle.report_frame.proofs.Views.{fault_place, frame_of_parts, views_frame, only_given, fault_given, one_given}
use Rattle.report_frame.proofs.decode.decode_view.Goals as goal

pub returns-in-Some-clause-decoded : goal.returns-in-Some-clause-decoded
returns-in-Some-clause-decoded c = decoded-long _ _ (sym c.passed_limit.ensures ∙ c.in-Some.is)

pub returns-in-Some-clause-one : goal.returns-in-Some-clause-one
returns-in-Some-clause-one c = one_given _ _ (returns-in-Some-clause-decoded c)

misread_fault : (c : goal.In-Err) → decoded c.args.bytes.now ≡ Err (fault_of c.in-Err.misread)
unfolding decoded
misread_fault c = search rules

pub fault-requires : goal.fault-requires
fault-requires c = fault_place _ (fault_of c.in-Err.misread) (AreBytes-from_fits _ c.type_inv.bytes) (misread_fault c)

pub returns-in-Err-clause-decoded : goal.returns-in-Err-clause-decoded
unfolding decoded
returns-in-Err-clause-decoded c = search rules

pub returns-clause-decoded : goal.returns-clause-decoded
unfolding decoded
returns-clause-decoded c = search rules

pub returns-in-Err-clause-only : goal.returns-in-Err-clause-only
returns-in-Err-clause-only c = only_given _ (Err c.fault.result) (returns-in-Err-clause-decoded c)

pub returns-in-Err-clause-fault : goal.returns-in-Err-clause-fault
returns-in-Err-clause-fault c = fault_given _ (Err c.fault.result) (AreBytes-from_fits _ c.type_inv.bytes) (returns-in-Err-clause-decoded c)

pub returns-in-Err-clause-one : goal.returns-in-Err-clause-one
returns-in-Err-clause-one c = one_given _ (Err c.fault.result) (returns-in-Err-clause-decoded c)

pub overflow_sub-bytes : goal.overflow_sub-bytes
overflow_sub-bytes c =
    let of_parts =
    frame_of_parts c.args.bytes.now c.in-Ok.parts (AreBytes-from_fits _ c.type_inv.bytes)
    (sym c.passed_limit.ensures ∙ c.in_default.is) c.in-Ok.ensures in
    let size = frame_length _ _ of_parts in
    omega arith

pub invariant_of-result : goal.invariant_of-result
invariant_of-result c =
    let of_parts =
    frame_of_parts c.args.bytes.now c.in-Ok.parts (AreBytes-from_fits _ c.type_inv.bytes)
    (sym c.passed_limit.ensures ∙ c.in_default.is) c.in-Ok.ensures in
    record { is_frame = views_frame c.args.bytes.now c.split_at.result.0.now c.in-Ok.parts of_parts c.split_at.ensures.front }

pub returns-clause-found : goal.returns-clause-found
returns-clause-found c = frame_of_parts c.args.bytes.now c.in-Ok.parts (AreBytes-from_fits _ c.type_inv.bytes)
    (sym c.passed_limit.ensures ∙ c.in_default.is) c.in-Ok.ensures

pub returns-clause-only : goal.returns-clause-only
returns-clause-only c r of_r = one_report _ _ _ (returns-clause-found c) of_r

pub returns-clause-one : goal.returns-clause-one
returns-clause-one c kind at at_fault = absurd (no_fault_of_frame _ _ (record { kind = kind; at = at }) (returns-clause-found c) at_fault)
