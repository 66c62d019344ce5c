-- The fields of a frame that is made in its place.
use Rattle.std.specs.Prelude.{ℕ, List, [], slice_index}
use Rattle.report_frame.specs.Frame.{Fields}
use Rattle.nest_client.specs.declared.front.Front.{Front}

-- those before the seal, around a body
abbrev pub fields_of_front : Front → List ℕ → Fields
fields_of_front f body = record {
  version = f.head.version;
  level = f.level;
  epoch = f.epoch;
  k = f.head.k;
  x = f.x;
  y0 = slice_index f.y 0;
  y1 = slice_index f.y 1;
  y2 = slice_index f.y 2;
  tag = f.head.tag;
  check = f.head.check;
  boxed = f.head.boxed;
  nonce = f.nonce;
  body = body;
  seal = [];
}
