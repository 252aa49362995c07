-- What jobs are made of, and which job the values of a command make.
use Rattle.std.specs.Prelude.{◌≡◌, ◌≢◌, ◌⊎◌, ℕ, List, Option, Some, None, Result, Ok, Err, String, codes, Bool, true, false, if◌then◌else◌}
use Rattle.std.specs.Prelude.{⊤, option_map, slice_index, string_bytes}
use Rattle.std.specs.Option.{option_map_or}
use Rattle.std.specs.Str.{bytes_eq}
use Rattle.std.specs.Str.Parse.{IsNumeral, digits_value}
use Rattle.clap.specs.Words.{Row, first_of, found_of, rows_of}
use Rattle.clap.specs.declared.parser.matches.ArgMatches.{ArgMatches}
use Rattle.tds_meter.specs.LimitFaults.{IsColumnRoom, IsMaxWire, IsPacketSize}
use Rattle.tds_meter.specs.declared.limits.Limits.{Limits}
use Rattle.tds_values.specs.declared.charset.Charset.{Charset}
use Rattle.tds_values.specs.declared.charset.Charset.TheVariants.{Utf8, Windows1252}
use Rattle.tds_arguments.specs.declared.job.Job.{Job}
use Rattle.tds_arguments.specs.declared.job.Job.TheVariants.{Export, Check, ExportAll, CheckAll, Recut}
use Rattle.tds_arguments.specs.declared.job.Work.{Work}
use Rattle.tds_arguments.specs.declared.job.Work.TheVariants as work

-- the name of a job's file, or none for standard input
abbrev pub file_of : Job → Option (List ℕ)
file_of (Export limits charset file) = option_map string_bytes file
file_of (Check limits charset file) = option_map string_bytes file
file_of (ExportAll limits charset file) = option_map string_bytes file
file_of (CheckAll limits charset file) = option_map string_bytes file
file_of (Recut packet_size max_wire file) = option_map string_bytes file

-- the path that FILE names: none if it is a hyphen, or there is none
abbrev pub path_named : Option (List ℕ) → Option (List ℕ)
path_named None = None
path_named (Some file) = if bytes_eq file (codes "-") then None else Some file

-- the path that a job opens, or none for standard input
abbrev pub path_of : Job → Option (List ℕ)
path_of job = path_named (file_of job)

-- what a job does
abbrev pub work_of : Job → Work
work_of (Export limits charset file) = work.Export limits charset
work_of (Check limits charset file) = work.Check limits charset
work_of (ExportAll limits charset file) = work.ExportAll limits charset
work_of (CheckAll limits charset file) = work.CheckAll limits charset
work_of (Recut packet_size max_wire file) = work.Recut packet_size max_wire

-- Each limit is in its range.
abbrev pub AreLimits : Limits → Type 0
AreLimits limits = IsPacketSize limits.packet_size × IsColumnRoom limits.column_room × IsMaxWire limits.max_wire

-- Each number of the work is in its range.
abbrev pub IsWorkInRange : Work → Type 0
IsWorkInRange (work.Export limits charset) = AreLimits limits
IsWorkInRange (work.Check limits charset) = AreLimits limits
IsWorkInRange (work.ExportAll limits charset) = AreLimits limits
IsWorkInRange (work.CheckAll limits charset) = AreLimits limits
IsWorkInRange (work.Recut packet_size max_wire) = IsPacketSize packet_size × IsMaxWire max_wire

-- Each number of the job is in its range.
abbrev pub IsInRange : Job → Type 0
IsInRange job = IsWorkInRange (work_of job)

-- the values that a parse of a command's arguments found, defaults included
abbrev pub values_in : ArgMatches → List Row
values_in matches = rows_of (found_of matches)

-- The value is only digits, and they write n.
abbrev pub IsDecimal : Option (List ℕ) → ℕ → Type 0
IsDecimal None n = ⊥
IsDecimal (Some text) n = IsNumeral 10 text × (n ≡ digits_value 10 text)

-- The value doesn't begin with a plus (43), and is read as this number; gives is how its type reads a text.
abbrev pub IsReadAs : {T E : Type 0} → (List ℕ → Result T E → Type 0) → Option (List ℕ) → T → Type 0
IsReadAs gives None number = ⊥
IsReadAs gives (Some text) number = (slice_index text 0 ≢ 43) × gives text (Ok number)

-- There is no value, or one that begins with a plus, or isn't read.
abbrev pub IsUnread : {T E : Type 0} → (List ℕ → Result T E → Type 0) → Option (List ℕ) → Type 0
IsUnread gives None = ⊤
IsUnread {T} {E} gives (Some text) = (slice_index text 0 ≡ 43) ⊎ ((e : E) × gives text (Err e))

-- The options of these names have these numbers.
abbrev pub HasPacketSize : List Row → ℕ → Type 0
HasPacketSize values n = IsDecimal (first_of (codes "packet-size") values) n

abbrev pub HasColumnRoom : List Row → ℕ → Type 0
HasColumnRoom values n = IsDecimal (first_of (codes "column-room") values) n

abbrev pub HasMaxWire : List Row → ℕ → Type 0
HasMaxWire values n = IsDecimal (first_of (codes "max-wire") values) n

-- The limits of a response are those of the options.
abbrev pub HasLimits : List Row → ℕ → ℕ → ℕ → Type 0
HasLimits values packet_size column_room max_wire = HasPacketSize values packet_size × HasColumnRoom values column_room × HasMaxWire values max_wire

-- The options have no limits in their ranges.
abbrev pub IsUnlimited : List Row → Type 0
IsUnlimited values = (packet_size column_room max_wire : ℕ) → HasLimits values packet_size column_room max_wire → IsPacketSize packet_size
    → IsColumnRoom column_room → IsMaxWire max_wire → ⊥

-- the character set of this name: UTF-8 of `utf-8`, and Windows-1252 of any other
abbrev pub charset_named : Option (List ℕ) → Charset
charset_named name = if option_map_or (λ text. bytes_eq text (codes "utf-8")) name false then Utf8 else Windows1252

-- the character set that the options name
abbrev pub charset_of : List Row → Charset
charset_of values = charset_named (first_of (codes "charset") values)

-- The file is FILE.
abbrev pub HasFile : {Z : Type 0} → List Row → Option (String Z) → Type 0
HasFile values file = option_map string_bytes file ≡ first_of (codes "FILE") values

-- the options ask for all responses
abbrev pub is_of_all : List Row → Bool
is_of_all values = option_map_or (λ text. bytes_eq text (codes "true")) (first_of (codes "all") values) false

-- A response is read by the command of this name, or all of them are, within the limits, by the character set and from the file of these values.
abbrev pub IsReadingOf : {Z : Type 0} → List ℕ → Bool → List ℕ → List Row → Limits → Charset → Option (String Z) → Type 0
IsReadingOf name all command values limits charset file = (command ≡ name) × (is_of_all values ≡ all)
    × HasLimits values limits.packet_size limits.column_room limits.max_wire × (charset ≡ charset_of values) × HasFile values file

-- The job is that of the command of this name with these values.
abbrev pub IsJobOf : List ℕ → List Row → Job → Type 0
IsJobOf command values (Export limits charset file) = IsReadingOf (codes "export") false command values limits charset file
IsJobOf command values (Check limits charset file) = IsReadingOf (codes "check") false command values limits charset file
IsJobOf command values (ExportAll limits charset file) = IsReadingOf (codes "export") true command values limits charset file
IsJobOf command values (CheckAll limits charset file) = IsReadingOf (codes "check") true command values limits charset file
IsJobOf command values (Recut packet_size max_wire file) = (command ≡ codes "recut") × HasPacketSize values packet_size × HasMaxWire values max_wire
    × HasFile values file
