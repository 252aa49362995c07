-- Devices as contracts see them.
use Rattle.std.specs.Prelude.{ℕ, List, Option}
use Rattle.tds_packet.specs.declared.counted.Counted.{Counted}

-- a device at a moment: the bytes that its reader still gives or its writer has, if that is known, and its count of failures
pub record Device : Type 0 where
  pub bytes : Option (List ℕ)
  pub failures : ℕ

-- a device that is counted, at a moment
abbrev pub device : {D : Type 0} → (D → Option (List ℕ)) → Counted D → Device
device bytes d = record { bytes = bytes d.device; failures = d.failures }
