-- What stands in the fields of a certificate before its points.
use Rattle.std.specs.Prelude.{List, [], ◌∷◌, length}
use Rattle.report_frame.specs.declared.head.Head.{Head}
use Rattle.report_frame.specs.Versions.{version_number}
use Rattle.byte_format.specs.Format.{Entry}
use Rattle.byte_format.specs.Format.Entry.{Number, Bytes}
use Rattle.cert_audit.specs.declared.limits.TheConstants.{CERT_MAGIC, CERT_FORMAT}
use Rattle.cert_audit.specs.declared.front.Start.{Start}
use Rattle.cert_audit.specs.declared.front.Front.{Front}

-- in those up to the threshold
abbrev pub entries_of_start : Start → List Entry
entries_of_start s =
    Number CERT_MAGIC ∷ Number CERT_FORMAT ∷ Number (version_number s.version) ∷ Number s.level ∷ Number s.epoch ∷ Number s.k ∷ []

-- and in all of them
abbrev pub entries_of_front : Front → List Entry
entries_of_front f =
    Number CERT_MAGIC ∷ Number CERT_FORMAT ∷ Number (version_number f.start.version) ∷ Number f.start.level ∷ Number f.start.epoch ∷ Number f.start.k
    ∷ Bytes f.parent.now ∷ Bytes f.tag.now ∷ Bytes f.check.now ∷ Number (length f.boxed.now) ∷ Bytes f.boxed.now ∷ Number f.points ∷ []

-- the head that they spell
abbrev pub head_of_front : Front → Head
head_of_front f = record { version = f.start.version; k = f.start.k; tag = f.tag.now; check = f.check.now; boxed = f.boxed.now }
