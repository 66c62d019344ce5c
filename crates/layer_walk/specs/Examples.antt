-- Points, rows and paths for the worked examples.
use Rattle.std.specs.Prelude.{ℕ, List, [], ◌∷◌}
use Rattle.report_frame.specs.declared.head.Head.{Head}
use Rattle.report_frame.specs.declared.version.Version.{Version}
use Rattle.report_frame.specs.declared.version.Version.TheVariants.{One, Two}
use Rattle.report_frame.specs.Frame.{Fields}
use Rattle.shamir_limbs.specs.declared.share.Point.{Point}
use Rattle.layer_walk.specs.declared.keys.Keys.{Keys}
use Rattle.layer_walk.specs.declared.path.Step.{Step}
use Rattle.layer_walk.specs.declared.level.Parent.{Parent}
use Rattle.layer_walk.specs.declared.revealed.OpenedGroup.{OpenedGroup}
use Rattle.layer_walk.specs.Rows.{Row}

-- the point with these limbs of y
abbrev pub point : ℕ → ℕ → ℕ → ℕ → Point
point x first second third = record { x = x; y = first ∷ second ∷ third ∷ [] }

abbrev pub step : List ℕ → ℕ → Version → Step
step value k version = record { value = value; k = k; version = version }

-- an opened group on this path
abbrev pub told_at : List Step → OpenedGroup
told_at path = record { path = path; points = 3; agree = 3; members = 3 }

-- a head of version 1 and threshold 2
abbrev pub plain_head : Head
plain_head = record { version = One; k = 2; tag = 1 ∷ []; check = 2 ∷ []; boxed = 3 ∷ [] }

-- a parent of one step
abbrev pub plain_parent : Parent
plain_parent = record { path = step (1 ∷ []) 2 One ∷ []; check = 4 ∷ [] }

-- a frame of this head, whose other fields are made of n
abbrev pub frame_of : ℕ → Head → Fields
frame_of n head =
    record {
      version = head.version;
      level = n;
      epoch = n;
      k = head.k;
      x = n;
      y0 = n;
      y1 = n;
      y2 = n;
      tag = head.tag;
      check = head.check;
      boxed = head.boxed;
      nonce = n ∷ [];
      body = n ∷ [];
      seal = n ∷ [];
    }

-- row n, of this parent and this head
abbrev pub row_under : Parent → Head → ℕ → Row
row_under parent head n = record { index = n; parent = parent; frame = frame_of n head }

-- Rows 3, 4 and 15 have one parent and one head, and each row from 5 to 14 differs from them in one part of these. Row 16 is like row 6.
abbrev pub rows_shown : List Row
rows_shown =
    row_under plain_parent plain_head 3
    ∷ row_under plain_parent plain_head 4
    ∷ row_under plain_parent (record plain_head { version = Two }) 5
    ∷ row_under plain_parent (record plain_head { k = 3 }) 6
    ∷ row_under plain_parent (record plain_head { tag = 9 ∷ [] }) 7
    ∷ row_under plain_parent (record plain_head { check = 9 ∷ [] }) 8
    ∷ row_under plain_parent (record plain_head { boxed = 9 ∷ [] }) 9
    ∷ row_under (record plain_parent { path = step (9 ∷ []) 2 One ∷ [] }) plain_head 10
    ∷ row_under (record plain_parent { path = step (1 ∷ []) 3 One ∷ [] }) plain_head 11
    ∷ row_under (record plain_parent { path = step (1 ∷ []) 2 Two ∷ [] }) plain_head 12
    ∷ row_under (record plain_parent { path = step (1 ∷ []) 2 One ∷ step (1 ∷ []) 2 One ∷ [] }) plain_head 13
    ∷ row_under (record plain_parent { check = 9 ∷ [] }) plain_head 14
    ∷ row_under plain_parent plain_head 15
    ∷ row_under plain_parent (record plain_head { k = 3 }) 16 ∷ []

-- the keys of a group of this version at epoch 5 and level 1
abbrev pub keys_with : Version → Keys
keys_with version = record { seal = []; body = []; version = version; epoch = 5; level = 1 }

-- a frame of this version, epoch and level
abbrev pub frame_at : Version → ℕ → ℕ → Fields
frame_at version epoch level =
    record {
      version = version;
      level = level;
      epoch = epoch;
      k = 2;
      x = 1;
      y0 = 1;
      y1 = 1;
      y2 = 1;
      tag = [];
      check = [];
      boxed = [];
      nonce = [];
      body = [];
      seal = [];
    }
