-- The thresholds of the command line: numbers joined by single commas, as many as the version allows.
use Rattle.std.specs.Prelude.{◌==◌, ◌&&◌, ℕ, nat_le, Bool, List, length, map, Option, Some, None, if◌then◌else◌}
use Rattle.std.specs.List.{list_all, slice_split}
use Rattle.std.specs.Str.Parse.{digits_value}
use Rattle.report_frame.specs.declared.limits.TheConstants.{MIN_THRESHOLD}
use Rattle.report_frame.specs.declared.version.Version.{Version}
use Rattle.report_frame.specs.Versions.{max_layers, max_threshold}
use Rattle.command_words.specs.Numbers.{is_number_in}

-- the parts of a text between its commas: 44 is a comma
abbrev pub parts_of : List ℕ → List (List ℕ)
parts_of text = slice_split (λ byte. byte == 44) text

-- the text is a threshold of this version
abbrev pub is_threshold : Version → List ℕ → Bool
is_threshold version text = is_number_in MIN_THRESHOLD (max_threshold version) text

-- the thresholds of a text, where its parts are thresholds, and no more than a report has layers
abbrev pub thresholds_of : Version → List ℕ → Option (List ℕ)
thresholds_of version text =
    if nat_le (length (parts_of text)) (max_layers version) && list_all (is_threshold version) (parts_of text)
    then Some (map (digits_value 10) (parts_of text))
    else None
