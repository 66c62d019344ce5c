-- Groups, and a map that finds the place of a group by its key.
use Rattle.std.specs.Prelude.{◌≡◌, ℕ, Bool, ◌==◌, ◌&&◌, List, [], ◌∷◌, ◌++◌, if◌then◌else◌}
use Rattle.std.specs.declared.cmp.Ordering.{Ordering}
use Rattle.std.specs.BTreeMap.{BTreeMap, get}
use Rattle.std.specs.Int.{w64, from_be_bytes}
use Rattle.tag_groups.specs.declared.key.Key.{Key}
use Rattle.tag_groups.specs.declared.key.Rank.{Rank}
use Rattle.tag_groups.specs.contracts.key.RankOrd.TheImpl as rank_ord
use Rattle.tag_groups.specs.GroupView.{GroupView}
use Rattle.tag_groups.specs.Keys.{same_head}
use Rattle.star_lists.specs.Places.{place_of}

-- the first eight bytes of a tag, as a number
abbrev pub front_of : List ℕ → ℕ
front_of tag = from_be_bytes w64 tag

-- the key after the front of its tag
abbrev pub rank_of : Key → Rank
rank_of key = record { front = front_of key.head.tag; key = key }

-- the order of the map
abbrev pub rank_cmp : Rank → Rank → Ordering
rank_cmp = (rank_ord.ghosts).cmp

-- the group is that of the key
abbrev pub has_key : Key → GroupView → Bool
has_key key group = (group.parent == key.parent) && same_head group.head key.head

-- the map has the place of each group at the rank of its key, and at no other key's
abbrev pub Finds : BTreeMap Rank ℕ → List GroupView → Type 0
Finds places groups = (key : Key) → get rank_cmp places (rank_of key) ≡ place_of (has_key key) groups

-- the group with one more member
abbrev pub with_member : ℕ → GroupView → GroupView
with_member n g = record { parent = g.parent; head = g.head; members = g.members ++ n ∷ [] }

-- the group of this key and one member
abbrev pub new_group : Key → ℕ → GroupView
new_group key n = record { parent = key.parent; head = key.head; members = n ∷ [] }

-- the groups with one more member in the group of the key
abbrev pub joined : Key → ℕ → List GroupView → List GroupView
joined key n [] = new_group key n ∷ []
joined key n (g ∷ gs) = if has_key key g then with_member n g ∷ gs else g ∷ joined key n gs
