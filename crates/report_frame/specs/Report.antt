-- A report as a value, and whether it has a frame.
use Rattle.std.specs.Prelude.{◌+◌, ◌≤◌, length, slice_index}
use Rattle.report_frame.specs.declared.limits.TheConstants.{FIXED_BYTES, MIN_THRESHOLD}
use Rattle.report_frame.specs.declared.report.Report.{Report}
use Rattle.report_frame.specs.Versions.{max_level, max_threshold, max_frame}
use Rattle.report_frame.specs.Frame.{Fields}

-- its fields
abbrev pub fields_of_report : Report → Fields
fields_of_report r = record {
  version = r.head.version;
  level = r.level;
  epoch = r.epoch;
  k = r.head.k;
  x = r.x;
  y0 = slice_index r.y 0;
  y1 = slice_index r.y 1;
  y2 = slice_index r.y 2;
  tag = r.head.tag;
  check = r.head.check;
  boxed = r.head.boxed;
  nonce = r.nonce;
  body = r.body;
  seal = r.seal;
}

-- Each field is in its range, beside what its type says, and the frame isn't too long.
pub record IsGood (r : Report) : Type 0 where
  pub level : r.level ≤ max_level r.head.version
  pub k_low : MIN_THRESHOLD ≤ r.head.k
  pub k_high : r.head.k ≤ max_threshold r.head.version
  pub x : 1 ≤ r.x
  pub body : 1 ≤ length r.body
  pub short : FIXED_BYTES + length r.head.boxed + length r.body ≤ max_frame r.head.version
