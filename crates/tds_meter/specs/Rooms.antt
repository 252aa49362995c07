-- The rooms of the six areas of a run, and what they hold together.
use Rattle.std.specs.Prelude.{◌≡◌, ℕ, ◌==◌, ◌&&◌, ◌+◌, Bool, length}
use Rattle.tds_meter.specs.Space.{empty}
use Rattle.tds_meter.specs.declared.areas.Areas.{Areas}

-- the rooms are those of the limits
abbrev pub is_intact : Areas → Bool
is_intact a =
    a.packet.room == a.limits.packet_size && a.description.room == a.limits.column_room && a.token.room == 65536
    && a.output.room == 4096 && a.notice.room == 512 && a.small.room == 128

-- how many bytes are in the six
abbrev pub held : Areas → ℕ
held a =
    length a.packet.bytes + length a.description.bytes + length a.token.bytes + length a.output.bytes + length a.notice.bytes + length a.small.bytes

-- the sum of the peaks of all but the description
abbrev pub peak_rest : Areas → ℕ
peak_rest a = a.packet.peak + a.token.peak + a.output.peak + a.notice.peak + a.small.peak

-- All six are empty, in the rooms that they had, with peaks of 0.
pub record AreEmptied (old new : Areas) : Type 0 where
  pub packet : new.packet ≡ empty old.packet.room
  pub description : new.description ≡ empty old.description.room
  pub token : new.token ≡ empty old.token.room
  pub output : new.output ≡ empty old.output.room
  pub notice : new.notice ≡ empty old.notice.room
  pub small : new.small ≡ empty old.small.room
