-- What the code makes of the opened groups of a level.
use Rattle.std.specs.Prelude.{List, length, map}
use Rattle.std.specs.List.{flat_map}
use Rattle.shamir_limbs.specs.Numbers.{line_numbers}
use Rattle.tag_groups.specs.GroupView.{GroupView}
use Rattle.layer_walk.specs.declared.level.Level.{Level}
use Rattle.layer_walk.specs.declared.outcome.Outcome.{Outcome}
use Rattle.layer_walk.specs.Outs.{group_check, group_outcome, group_points}
use Rattle.layer_walk.specs.Told.{told_under}
use Rattle.cert_audit.specs.declared.cert.Cert.{Cert}
use Rattle.open_cert.specs.declared.certified.Certified.{Certified}
use Rattle.open_cert.specs.Certs.{with_cert}

-- the certificate of the group, where it is opened
abbrev pub group_cert : Level → GroupView → Cert
group_cert level group =
    record {
      level = level.number;
      epoch = level.epoch;
      parent = group_check level group;
      head = group.head;
      points = group_points level group;
      numbers = line_numbers (group_points level group) group.head.k;
    }

-- the group as it is told, with its certificate, where it comes out so
abbrev pub certified_under : Level → GroupView → Outcome → List Certified
certified_under level group outcome = map (with_cert (group_cert level group)) (told_under level group (length (group_points level group)) outcome)

-- the opened groups as they are told, with their certificates, in the order of the groups
abbrev pub certified_groups : Level → List GroupView → List Certified
certified_groups level groups = flat_map (λ group. certified_under level group (group_outcome level group)) groups
