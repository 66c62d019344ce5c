-- A fault while a frame is read.
use Rattle.report_frame.specs.declared.fault.Fault.{Fault}
use Rattle.report_frame.specs.declared.fault.Misread.{Misread}

-- the same as it is told
abbrev pub fault_of : Misread → Fault
fault_of m = record { kind = m.kind; at = m.at }
