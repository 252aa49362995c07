-- The first bytes of tokens, and what they begin (MS-TDS, Packet Data Token Stream Definition). Those of a ROW and an NBCROW are with their cells.
use Rattle.std.specs.Prelude.{◌==◌, ℕ, Bool, true, false, Option, Some, None, if◌then◌else◌}
use Rattle.tds_cells.specs.Rows.{NbcRow, PlainRow, token_byte}

-- of a COLMETADATA
abbrev pub colmetadata_byte : ℕ
colmetadata_byte = 0x81

-- of an ORDER
abbrev pub order_byte : ℕ
order_byte = 0xA9

-- of an ENVCHANGE
abbrev pub env_change_byte : ℕ
env_change_byte = 0xE3

-- of an ERROR
abbrev pub error_byte : ℕ
error_byte = 0xAA

-- of an INFO
abbrev pub info_byte : ℕ
info_byte = 0xAB

-- of a RETURNVALUE
abbrev pub return_value_byte : ℕ
return_value_byte = 0xAC

-- of a RETURNSTATUS
abbrev pub return_status_byte : ℕ
return_status_byte = 0x79

-- of a DONE
abbrev pub done_byte : ℕ
done_byte = 0xFD

-- of a DONEPROC
abbrev pub done_proc_byte : ℕ
done_proc_byte = 0xFE

-- of a DONEINPROC
abbrev pub done_in_proc_byte : ℕ
done_in_proc_byte = 0xFF

-- a token whose body is passed over
pub data Passed : Type 0 where
  AnOrder : Passed
  AnEnvChange : Passed

-- a token with a Length, and a body of that many bytes
pub data Bodied : Type 0 where
  APassed : Passed → Bodied
  AnError : Bodied
  AnInfo : Bodied

-- a token with fields of a fixed length
pub data Fixed : Type 0 where
  AStatus : Fixed
  -- a DONE or DONEPROC
  ADone : Fixed
  ADoneInProc : Fixed

-- what the first byte of a token begins
pub data Lead : Type 0 where
  AMetadata : Lead
  ARow : Lead
  AnNbcRow : Lead
  WithBody : Bodied → Lead
  WithFields : Fixed → Lead
  AReturn : Lead

-- what a byte begins, if it is the first of a token
abbrev pub lead_of : ℕ → Option Lead
lead_of byte =
    if byte == colmetadata_byte then Some AMetadata
    else if byte == token_byte PlainRow then Some ARow
    else if byte == token_byte NbcRow then Some AnNbcRow
    else if byte == order_byte then Some (WithBody (APassed AnOrder))
    else if byte == env_change_byte then Some (WithBody (APassed AnEnvChange))
    else if byte == error_byte then Some (WithBody AnError)
    else if byte == info_byte then Some (WithBody AnInfo)
    else if byte == return_status_byte then Some (WithFields AStatus)
    else if byte == done_byte then Some (WithFields ADone)
    else if byte == done_proc_byte then Some (WithFields ADone)
    else if byte == done_in_proc_byte then Some (WithFields ADoneInProc)
    else if byte == return_value_byte then Some AReturn
    else None

-- whether it begins a row
abbrev pub is_row_lead : Lead → Bool
is_row_lead ARow = true
is_row_lead AnNbcRow = true
is_row_lead lead = false
