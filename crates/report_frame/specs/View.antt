-- What a view of a frame shows.
use Rattle.report_frame.specs.declared.head.Head.{Head}
use Rattle.report_frame.specs.declared.view.FrameView.{FrameView}
use Rattle.report_frame.specs.Frame.{Fields}
use Rattle.report_frame.specs.Parts.{fields_of_parts}

-- the fields of the report
abbrev pub fields_of : FrameView → Fields
fields_of v = fields_of_parts v.parts

-- what the members of its group have in common
abbrev pub head_of : Fields → Head
head_of r = record { version = r.version; k = r.k; tag = r.tag; check = r.check; boxed = r.boxed }
