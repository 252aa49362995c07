-- What a run asks of memory.
use Rattle.std.specs.Prelude.{◌≡◌, ◌+◌, ◌≤◌, ℕ, IsTrue}
use Rattle.tds_meter.specs.declared.areas.Areas.{Areas}
use Rattle.tds_meter.specs.declared.limits.Limits.{Limits}
use Rattle.tds_meter.specs.Counts.{counted, one_more}
use Rattle.tds_meter.specs.Rooms.{AreEmptied, is_intact, peak_rest}
use Rattle.tds_arguments.specs.declared.job.Work.{Work}
use Rattle.tds_arguments.specs.declared.job.Work.TheVariants.{Export, Check, ExportAll, CheckAll, Recut}
use Rattle.tds_replay.specs.declared.memory.Memory.{Memory}

-- Areas of this many bytes together were asked for, whether they were granted or refused, and no others.
abbrev pub Asks : Memory → Memory → ℕ → Type 0
Asks old new n = new.asked ≡ counted old.asked n

-- how many bytes the six areas of an export have room for together
abbrev pub areas_size : Limits → ℕ
areas_size limits = limits.packet_size + limits.column_room + 65536 + 4096 + 512 + 128

-- how many bytes the two areas of a recut have room for together
abbrev pub packets_size : ℕ → ℕ
packets_size packet_size = 32767 + packet_size

-- how many bytes of memory this takes
abbrev pub memory_of : Work → ℕ
memory_of (Export limits charset) = areas_size limits
memory_of (Check limits charset) = areas_size limits
memory_of (ExportAll limits charset) = areas_size limits
memory_of (CheckAll limits charset) = areas_size limits
memory_of (Recut packet_size max_wire) = packets_size packet_size

-- The areas are those of the limits: six empty ones with their rooms, never restarted.
pub record AreMade (limits : Limits) (areas : Areas) : Type 0 where
  pub intact : IsTrue (is_intact areas)
  pub limits_are : areas.limits ≡ limits
  pub emptied : AreEmptied areas areas
  pub restarts : areas.restarts ≡ 0

-- What a run kept stood in these areas: they have their rooms, were restarted once, and the peaks of all but the description are within the bound.
pub record KeepsInAreas (old new : Areas) : Type 0 where
  pub intact : IsTrue (is_intact new)
  pub limits_are : new.limits ≡ old.limits
  pub restarts : new.restarts ≡ one_more old.restarts
  pub bound : peak_rest new ≤ old.limits.packet_size + 65536 + 4736
