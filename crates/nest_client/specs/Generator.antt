-- The generator of streams for trials.
use Rattle.std.specs.Prelude.{ℕ, ◌+◌, ◌*◌, ◌/◌, ◌%◌, List, [], ◌∷◌, ◌++◌, min, codes, nat_lt, if◌then◌else◌}
use Rattle.std.specs.Int.{w32, to_be_bytes}
use Rattle.sha2.specs.Sha256.{sha256}
use Rattle.byteorder.specs.Endian.{big_number}
use Rattle.chacha_stream.specs.Keystream.{keystream}
use Rattle.star_io.specs.declared.record.Record.{Record}
use Rattle.star_io.specs.RecordLists.{whole}
use Rattle.report_frame.specs.declared.version.Version.TheVariants.{One}
use Rattle.nest_client.specs.Report.{client_nonce, client_of, frame_of, report_shifted}
use Rattle.nest_client.specs.Stream.{first_of}

-- the key of what is drawn
abbrev pub draw_key : ℕ → List ℕ
draw_key number = sha256 (codes "STARGENA" ++ to_be_bytes w32 number)

-- the seed of all clients
abbrev pub shared_seed : ℕ → List ℕ
shared_seed number = sha256 (codes "STARGENB" ++ to_be_bytes w32 number)

-- number j that is drawn for client i
unfoldable pub drawn : ℕ → ℕ → ℕ → ℕ
drawn number i j = big_number 8 (keystream (draw_key number) (client_nonce i) 0 (8 * j) 8)

-- a letter, and a number below 100 in decimal
abbrev pub lettered : ℕ → ℕ → List ℕ
lettered letter n = if nat_lt n 10 then letter ∷ (48 + n) ∷ [] else letter ∷ (48 + n / 10) ∷ (48 + n % 10) ∷ []

-- `c` with the lesser of two draws, and `t` with a third
abbrev pub drawn_values : ℕ → ℕ → List (List ℕ)
drawn_values number i = lettered 99 (min (drawn number i 0 % 20) (drawn number i 1 % 20)) ∷ lettered 116 (drawn number i 2 % 10) ∷ []

-- a liar raises y0 by 1
abbrev pub drawn_shift : ℕ → ℕ → ℕ → ℕ
drawn_shift number liars i = if nat_lt (drawn number i 3 % 100) liars then 1 else 0

-- the frame of client i
abbrev pub drawn_frame : ℕ → ℕ → ℕ → List ℕ
drawn_frame number liars i =
    frame_of (report_shifted (client_of One 1 (shared_seed number) i) (drawn_shift number liars i) (drawn_values number i) (20 ∷ 10 ∷ []))

-- the frames of clients 0, 1 and so on
abbrev pub drawn_frames : ℕ → ℕ → ℕ → List (List ℕ)
drawn_frames number reports liars = first_of (drawn_frame number liars) reports

-- their records
abbrev pub drawn_records : ℕ → ℕ → ℕ → List Record
drawn_records number reports liars = whole (drawn_frames number reports liars)
