-- The outcomes of a group, one by one.
use Rattle.std.proofs.Common.{◌≡◌, ℕ, ◌<◌, ◌≤◌, Bool, true, false, ◌&&◌, nat_lt, List, [], Option, Some, None, refl, sym, ap, ◌∙◌, length, arith}
use Rattle.std.specs.Prelude.{if◌then◌else◌}
use Rattle.std.specs.List.{filter_map}
use Rattle.std.specs.Cmp.{first_so}
use Rattle.std.specs.Cmp.Lexicographic.{bytes_decides}
use Rattle.std.specs.Str.{bytes_eq}
use Rattle.std.proofs.lemmas.Bool.{ltb-true, lt-ltb}
use Rattle.report_frame.specs.declared.head.Head.{Head}
use Rattle.shamir_limbs.specs.declared.key.Key.{Key}
use Rattle.shamir_limbs.specs.declared.share.Point.{Point}
use Rattle.shamir_limbs.specs.declared.recovery.Recovered.{Recovered}
use Rattle.shamir_limbs.specs.Search.{key_line_of}
use Rattle.adss_commit.specs.Derivation.{context_key, context_tag, context_check, context_named, opened_value}
use Rattle.tag_groups.specs.RowView.{RowView}
use Rattle.tag_groups.specs.GroupView.{GroupView}
use Rattle.layer_walk.specs.declared.keys.Keys.{Keys}
use Rattle.layer_walk.specs.declared.level.Level.{Level}
use Rattle.layer_walk.specs.declared.member.Held.{Held}
use Rattle.layer_walk.specs.declared.outcome.Outcome.{Outcome}
use Rattle.layer_walk.specs.declared.outcome.Outcome.TheVariants.{Opened, Few, NoLine, BadValue}
use Rattle.layer_walk.specs.Outcomes.{outcome_of, outcome_under, outcome_with}
use Rattle.layer_walk.specs.Members.{keys_of}
use Rattle.layer_walk.specs.Levels.{is_opened}
use Rattle.layer_walk.specs.Outs.{IsOut, group_points, group_outcome, group_keys, group_members, group_check, of_opened, of_group, inner_under, refusal_under, aux_under}
use Rattle.layer_walk.specs.Held.{HeldOf}

lt_false : (a b : ℕ) → b ≤ a → nat_lt a b ≡ false
lt_false a b h = elim (nat_lt a b) as (λ t. nat_lt a b ≡ t → t ≡ false) [ true ↦ λ e. absurd (let lt : a < b = ltb-true a b e in omega arith) | false ↦ λ _. refl ] refl

module _ (e l : ℕ) (check : List ℕ) (head : Head) (points : List Point) where
  pub outcome_few : length points < head.k → outcome_of e l check head points ≡ Few
  unfolding outcome_of
  outcome_few h = ap (λ b. (if b then Few else outcome_under e l check head (key_line_of points head.k))) (lt-ltb (length points) head.k h)

  enough : head.k ≤ length points → outcome_of e l check head points ≡ outcome_under e l check head (key_line_of points head.k)
  unfolding outcome_of
  enough h = ap (λ b. (if b then Few else outcome_under e l check head (key_line_of points head.k))) (lt_false (length points) head.k h)

  pub outcome_no_line : head.k ≤ length points → key_line_of points head.k ≡ None → outcome_of e l check head points ≡ NoLine
  outcome_no_line h line = enough h ∙ ap (outcome_under e l check head) line

  -- with a line, the outcome is that of the value under its key
  pub outcome_line : (found : Recovered) (value : Option (List ℕ)) → head.k ≤ length points → key_line_of points head.k ≡ Some found
      → opened_value found.key head check e l ≡ value → outcome_of e l check head points ≡ outcome_with found.agree value
  outcome_line found value h line is = enough h ∙ ap (outcome_under e l check head) line ∙ ap (outcome_with found.agree) is

-- the key of an opened group is that of the context of its value
pub opened_key : (key : Key) (head : Head) (check : List ℕ) (e l : ℕ) (value : List ℕ) → opened_value key head check e l ≡ Some value
    → key.bytes ≡ context_key (record { version = head.version; parent = check; epoch = e; level = l; k = head.k; value = value })
unfolding opened_value
opened_key key head check e l value is =
    let c = context_named key head check e l in
    let test : Bool = bytes_eq (context_key c) key.bytes && (bytes_eq (context_tag c) head.tag && bytes_eq (context_check c) head.check) in
    elim test as (λ b. test ≡ b → (if b then Some c.value else None) ≡ Some value → key.bytes ≡ context_key (record { version = head.version; parent = check; epoch = e; level = l; k = head.k; value = value })) [
      | true ↦ λ h some.
          let same : c.value ≡ value = cc in
          sym ((bytes_decides (context_key c) key.bytes).0 (first_so (bytes_eq (context_key c) key.bytes) _ h))
          ∙ ap (λ (w : List ℕ). context_key (record { version = head.version; parent = check; epoch = e; level = l; k = head.k; value = w })) same
      | false ↦ λ h some. absurd (cc)
    ] refl is

-- what isn't opened gives nothing
of_opened-shut : {X : Type 0} (f : List ℕ → List X) (outcome : Outcome) → is_opened outcome ≡ false → of_opened f outcome ≡ []
of_opened-shut f (Opened value agree) h = absurd (cc)
of_opened-shut f Few h = refl
of_opened-shut f NoLine h = refl
of_opened-shut f BadValue h = refl

module _ (level : Level) (group : GroupView) where
  -- what f makes of the members in a group of this value
  made_by : {X : Type 0} → (Keys → RowView → Option X) → List ℕ → List X
  made_by f value = filter_map (f (group_keys level group value)) (group_members level group)

  of_group-shut : {X : Type 0} (f : Keys → RowView → Option X) (outcome : Outcome) → group_outcome level group ≡ outcome → is_opened outcome ≡ false
      → [] ≡ of_group f level group
  unfolding made_by
  of_group-shut f outcome is h = sym (ap (of_opened (made_by f)) is ∙ of_opened-shut (made_by f) outcome h)

  -- a group that isn't opened
  pub shut : (outcome : Outcome) (points : List Point) → points ≡ group_points level group → group_outcome level group ≡ outcome → is_opened outcome ≡ false
      → IsOut level group (record { outcome = outcome; points = length points; inner = []; refusals = []; aux = [] })
  shut outcome points at is h = record {
    outcome = sym is;
    points = ap length at;
    inner = of_group-shut inner_under outcome is h;
    refusals = of_group-shut refusal_under outcome is h;
    aux = of_group-shut aux_under outcome is h;
  }

  -- fewer points than the threshold
  pub few_out : (points : List Point) (head : Head) → points ≡ group_points level group → head ≡ group.head → length points < head.k
      → IsOut level group (record { outcome = Few; points = length points; inner = []; refusals = []; aux = [] })
  few_out points head at same few =
      let short : length (group_points level group) < group.head.k = omega (arith, ap length at, ap (λ (h : Head). h.k) same) in
      shut Few points at (outcome_few level.epoch level.number (group_check level group) group.head (group_points level group) short) refl

  enough_left : (points : List Point) (head : Head) → points ≡ group_points level group → head ≡ group.head → head.k ≤ length points
      → group.head.k ≤ length (group_points level group)
  enough_left points head at same many = omega (arith, ap length at, ap (λ (h : Head). h.k) same)

  -- enough points, but no key
  pub no_line_out : (points : List Point) (head : Head) → points ≡ group_points level group → head ≡ group.head → head.k ≤ length points → key_line_of points head.k ≡ None
      → IsOut level group (record { outcome = NoLine; points = length points; inner = []; refusals = []; aux = [] })
  no_line_out points head at same many line =
      let none : key_line_of (group_points level group) group.head.k ≡ None = (λ i. key_line_of (sym at i) (sym same i).k) ∙ line in
      shut NoLine points at (outcome_no_line level.epoch level.number (group_check level group) group.head (group_points level group) (enough_left points head at same many) none) refl

  -- with a key, the group comes out as the value under the key does
  pub line_outcome : (points : List Point) (head : Head) (found : Recovered) (check : List ℕ) (value : Option (List ℕ)) → points ≡ group_points level group
      → head ≡ group.head → check ≡ group_check level group → head.k ≤ length points → key_line_of points head.k ≡ Some found
      → opened_value found.key head check level.epoch level.number ≡ value → group_outcome level group ≡ outcome_with found.agree value
  line_outcome points head found check value at same of_parent many line is =
      let here : key_line_of (group_points level group) group.head.k ≡ Some found = (λ i. key_line_of (sym at i) (sym same i).k) ∙ line in
      let under : opened_value found.key group.head (group_check level group) level.epoch level.number ≡ value =
      (λ i. opened_value found.key (sym same i) (sym of_parent i) level.epoch level.number) ∙ is in
      outcome_line level.epoch level.number (group_check level group) group.head (group_points level group) found value (enough_left points head at same many) here under

  -- the keys that a key gives are those of the group
  pub keys_are : (head : Head) (key : Key) (check value : List ℕ) → head ≡ group.head → check ≡ group_check level group
      → opened_value key head check level.epoch level.number ≡ Some value → keys_of head.version level.epoch level.number key.bytes ≡ group_keys level group value
  keys_are head key check value same of_parent is =
      ap (keys_of head.version level.epoch level.number) (opened_key key head check level.epoch level.number value is)
      ∙ (λ i. keys_of (same i).version level.epoch level.number (context_key (record { version = (same i).version; parent = of_parent i; epoch = level.epoch; level = level.number; k = (same i).k; value = value })))

  of_group-opened : {X : Type 0} (f : Keys → RowView → Option X) (keys : Keys) (value : List ℕ) (agree : ℕ) (xs : List X) → group_outcome level group ≡ Opened value agree
      → keys ≡ group_keys level group value → xs ≡ filter_map (f keys) (group_members level group) → xs ≡ of_group f level group
  unfolding made_by
  of_group-opened f keys value agree xs is same held =
      held ∙ ap (λ k. filter_map (f k) (group_members level group)) same ∙ sym (ap (of_opened (made_by f)) is)

  -- a group that is opened
  pub open_out : (points : List Point) (keys : Keys) (value : List ℕ) (agree : ℕ) (held : Held) → points ≡ group_points level group
      → group_outcome level group ≡ Opened value agree → keys ≡ group_keys level group value → HeldOf keys (group_members level group) held
      → IsOut level group (record { outcome = Opened value agree; points = length points; inner = held.inner; refusals = held.refusals; aux = held.aux })
  open_out points keys value agree held at is same of_members = record {
    outcome = sym is;
    points = ap length at;
    inner = of_group-opened inner_under keys value agree held.inner is same of_members.inner;
    refusals = of_group-opened refusal_under keys value agree held.refusals is same of_members.refusals;
    aux = of_group-opened aux_under keys value agree held.aux is same of_members.aux;
  }
