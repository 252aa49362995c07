-- What an export has to do with at a moment, and an export as a whole: what it was given and what it left.
use Rattle.std.specs.Prelude.{◌++◌, ℕ, List, Option}
use Rattle.tds_meter.specs.declared.areas.Areas.{Areas}
use Rattle.tds_meter.specs.declared.limits.Limits.{Limits}
use Rattle.tds_meter.specs.Counts.{Rose}
use Rattle.tds_packet.specs.declared.counted.Counted.{Counted}
use Rattle.tds_packet.specs.declared.fault.Fault.{Fault}
use Rattle.tds_packet.specs.Devices.{Device, device}
use Rattle.tds_packet.specs.Elements.{Grammar}
use Rattle.tds_values.specs.declared.charset.Charset.{Charset}
use Rattle.tds_export.specs.TokenGrammar.{Part, response}

-- what an export has to do with, at a moment
pub record Moment : Type 0 where
  pub areas : Areas
  pub reader : Device
  pub writer : Device

-- areas, a reader and a writer, at a moment
abbrev pub moment : {R W : Type 0} →
    (R → Option (List ℕ)) → (W → Option (List ℕ)) → Areas → Counted R → Counted W → Moment
moment remaining contents areas from to =
    record { areas = areas; reader = device remaining from; writer = device contents to }

-- an export: its character set, and the moments before it and after it
pub record ExportInput : Type 0 where
  pub charset : Charset
  pub before : Moment
  pub after : Moment

-- what an export was given at one moment, and left at another
abbrev pub given_of : Charset → Moment → Moment → ExportInput
given_of charset before after = record { charset = charset; before = before; after = after }

-- the limits of an export
abbrev pub limits_of : ExportInput → Limits
limits_of given = given.before.areas.limits

-- how its response is read
abbrev pub grammar_of : ExportInput → Grammar Part Fault
grammar_of given = response given.charset (limits_of given).column_room

-- A read of it failed.
abbrev pub FailsToRead : ExportInput → Type 0
FailsToRead given = Rose given.before.reader.failures given.after.reader.failures

-- A write of it failed.
abbrev pub FailsToWrite : ExportInput → Type 0
FailsToWrite given = Rose given.before.writer.failures given.after.writer.failures

-- an export whose reader and writer tell their bytes: the reader's before and after, and what the writer gained
pub record Run : Type 0 where
  pub given : ExportInput
  pub input : List ℕ
  pub left : List ℕ
  pub gained : List ℕ

-- an export, if it is told that
abbrev pub run_of : ExportInput → (input left gained : List ℕ) → Run
run_of given input left gained = record { given = given; input = input; left = left; gained = gained }

-- its limits
abbrev pub limits : Run → Limits
limits run = limits_of run.given

-- the text that waits for the writer
abbrev pub waiting : Run → List ℕ
waiting run = run.given.after.areas.output.bytes

-- the text that the writer gained or that waits
abbrev pub text_put : Run → List ℕ
text_put run = run.gained ++ waiting run
