-- When a call that reads a payload and puts a text succeeds: what it reads comes whole, and no device fails.
use Rattle.std.specs.Prelude.{◌≡◌, ℕ, true, List, [], ◌∷◌, ◌++◌, Option, Some, Result, is_ok}
use Rattle.tds_meter.specs.Counts.{Rose}
use Rattle.tds_packet.specs.declared.payload.Payload.{Payload}
use Rattle.tds_packet.specs.Payloads.{seen}
use Rattle.tds_packet.specs.PayloadView.{PayloadView}
use Rattle.tds_columns.specs.Description.{Column}
use Rattle.tds_csv.specs.declared.sink.Sink.{Sink}
use Rattle.tds_values.specs.declared.charset.Charset.{Charset}
use Rattle.tds_cells.specs.Cells.{Cell}
use Rattle.tds_cells.specs.Rows.{RowToken, SpellsRow, token_byte}

-- The reader tells what it has left, and with it these bytes are to come.
pub record Brings (seen : PayloadView) (bytes : List ℕ) : Type 0 where
  pub input : List ℕ
  pub left : seen.left ≡ Some input
  pub comes : (seen.future input).bytes ≡ bytes

-- If these bytes are to come and no read and no write fails, the call succeeds.
abbrev pub SucceedsOn : {R W U E : Type 0} → (R → Option (List ℕ)) → Payload R → Payload R → Sink W → Sink W → Result U E → List ℕ → Type 0
SucceedsOn remaining old new before after result bytes = Brings (seen remaining old) bytes →
    ¬ Rose old.from.now.failures new.from.now.failures → ¬ Rose before.to.now.failures after.to.now.failures → is_ok result ≡ true

-- The bytes spell these rows, one at least, each further one after its token byte.
abbrev pub SpellsRows : RowToken → Charset → List Column → List Cell → List (List Cell) → List ℕ → Type 0
SpellsRows token charset columns first [] bytes = SpellsRow token charset columns first bytes
SpellsRows token charset columns first (next ∷ later) bytes = (front : List ℕ) × (rest : List ℕ) × (bytes ≡ front ++ token_byte token ∷ rest)
    × SpellsRow token charset columns first front × SpellsRows token charset columns next later rest
