use Rattle.std.proofs.Common.{take}
use Rattle.field61.specs.Field.{AreElements}
use Rattle.field61.proofs.element.know_elements.Given as goal

abbrev pub invariant-loop-element : goal.invariant-loop-element
invariant-loop-element l = AreElements (take l.element-index l.elements)
