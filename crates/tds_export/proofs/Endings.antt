-- How an export ends, from what its calls did.
use Rattle.tds_export.proofs as N
use N.{◌≡◌}

-- the end of a text leaves a sink so
pub tidies : {W U : Type 0} (contents : W → N.Option (N.List N.ℕ)) (old new : N.Sink W) (r : N.Result U N.Stop) → N.FinishesSink contents old new r
    → old.failed ≡ N.false → N.FlushedOrFailed (N.held contents old) (N.held contents new)
tidies = grind N.arith

-- ---- the rooms of areas that were intact and are emptied

pub rooms : (old new : N.Areas) → N.IsTrue (N.is_intact old) → N.AreEmptied old new → (new.packet.room ≡ old.limits.packet_size)
    × (new.description.room ≡ old.limits.column_room)
rooms = grind N.arith
