-- What a report says to a caller who knows the bytes of the response.
use Rattle.std.specs.Prelude.{◌≡◌, ◌++◌, ℕ, List, Option, Some}
use Rattle.tds_meter.specs.declared.limits.Limits.{Limits}
use Rattle.tds_packet.specs.Packets.{Packet}
use Rattle.tds_values.specs.declared.charset.Charset.TheVariants.{Windows1252}
use Rattle.tds_export.specs.declared.report.Report.{Report}
use Rattle.tds_export.specs.Outcome.{report_of}
use Rattle.tds_export.specs.Response.{Accepted}
use Rattle.tds_export.specs.Tokens.{Token, text}

-- The bytes begin with a whole response, this is its report, and all of its text comes after what the writer had.
pub record Exported (limits : Limits) (bytes had : List ℕ) (after : Option (List ℕ)) (report : Report) : Type 0 where
  pub tokens : List Token
  pub packets : List Packet
  pub accepted : Accepted Windows1252 limits.packet_size limits.column_room limits.max_wire tokens packets bytes
  pub report_is : report ≡ report_of tokens
  pub text_is : after ≡ Some (had ++ text tokens)
