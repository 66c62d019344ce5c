use Rattle.std.proofs.Common.{◌≡◌, ◌≤◌, true, map, length}
use Rattle.std.specs.List.{list_all}
use Rattle.std.specs.Str.Parse.{digits_value}
use Rattle.command_words.specs.Thresholds.{is_threshold}
use Rattle.report_frame.specs.Versions.{max_layers}
use Rattle.command_words.proofs.thresholds.thresholds_of.Given as goal

abbrev pub invariant-loop-part : goal.invariant-loop-part
invariant-loop-part l = record {
  next : (goal.iterator-loop-part).can_next l.part-iterator;
  finite : (goal.iterator-loop-part).is_finite l.part-iterator;
  few : length l.yielded ≤ max_layers l.fn.version;
  all : list_all (is_threshold l.fn.version) (map (λ part. part.now) l.yielded) ≡ true;
  read : l.thresholds ≡ map (digits_value 10) (map (λ part. part.now) l.yielded);
}
