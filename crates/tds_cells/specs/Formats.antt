-- The formats that a row format knows.
use Rattle.std.specs.Prelude.{◌<◌, ℕ, List, length, get_or}
use Rattle.tds_cells.specs.declared.layout.CellFormat.{CellFormat}

-- This holds of each of these formats.
abbrev pub Each : (CellFormat → Type 0) → List CellFormat → Type 0
Each P formats = (k : ℕ) (format : CellFormat) → k < length formats → P (get_or formats k format)
