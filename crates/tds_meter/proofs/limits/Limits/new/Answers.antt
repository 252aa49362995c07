use Rattle.tds_meter.proofs as N
use N.limits.Limits.new.Goals as goal

pub invariant_of-result : goal.invariant_of-result
invariant_of-result = search N.rules

pub returns-then-column_room-lt-LEAST_COLUMN_ROOM : goal.returns-then-column_room-lt-LEAST_COLUMN_ROOM
returns-then-column_room-lt-LEAST_COLUMN_ROOM = search N.rules
