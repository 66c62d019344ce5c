use Rattle.std.proofs.Common.{◌≡◌, ◌+◌, ◌++◌, ◌∷◌, [], List, take, map, ap, subst, ◌∙◌, sym, arith}
use Rattle.std.specs.Prelude.{string_bytes}
use Rattle.std.proofs.lemmas.List.{take_more, take_all, map-append}
use Rattle.star_io.specs.declared.record.Record.{Record}
use Rattle.star_tool.specs.CheckText.{Finding, HasLines, finding_of}
use Rattle.star_tool.proofs.check_text.check_text.Goals as goal

pub loop-entry-preserved : goal.loop-entry-preserved
loop-entry-preserved c =
    let i = c.loop-entry.entry-index in
    let records = c.args.records.now in
    let entry = c.entry-item.result in
    let next = c.put.new.self in
    let front : map finding_of (take (i + 1) records) ≡ map finding_of (take i records) ++ finding_of entry ∷ [] =
    ap (map finding_of) (take_more records i entry c.loop-entry-test.true
    ∙ ap (λ (r : Record). take i records ++ r ∷ []) (sym c.entry-item.is)) ∙ map-append finding_of (take i records) (entry ∷ []) in
    record {
      number = omega (arith, c.in_ok-put.ensures.number, c.loop-entry.invariant.number);
      lines = subst (λ (fs : List Finding). HasLines fs next.good next.refused (string_bytes next.text)) (sym front)
          (c.in_ok-put.ensures.lines (map finding_of (take i records)) c.loop-entry.invariant.lines);
    }

pub returns : goal.returns
returns c =
    let lines = c.loop-entry.lines in
    c.finish.ensures c.args.records.now
    (subst (λ (l : List Record). HasLines (map finding_of l) lines.good lines.refused (string_bytes lines.text))
    (take_all c.loop-entry.entry-index c.args.records.now (omega arith)) c.loop-entry.invariant.lines)
