use Rattle.std.proofs.Common.{◌≡◌, ◌∙◌, ◌++◌, [], sym, ap}
use Rattle.std.specs.List.{flat_map}
use Rattle.std.specs.Map.Iter.{deref_pair}
use Rattle.std.proofs.lemmas.List.{append-nil}
use Rattle.std.proofs.lemmas.Map.Iter.{rest_all}
use Rattle.book_merge.specs.Records.{entry_records, records_of}
use Rattle.book_merge.proofs.records.records_of.Goals as goal

pub returns : goal.returns
unfolding records_of
returns c =
    let records = c.loop-frame.records in
    let none : c.loop-frame.frame-iterator ≡ [] = rest_all deref_pair _ _ _ c.in-None.is c.next.ensures.steps in
    sym (append-nil records) ∙ ap (λ l. records ++ flat_map entry_records l) (sym none) ∙ c.loop-frame.invariant
