use Rattle.tds_replay.proofs.status.Status.number.Goals as goal

pub returns-in-BadDevice : goal.returns-in-BadDevice
returns-in-BadDevice c = search

pub returns-in-OutOfMemory : goal.returns-in-OutOfMemory
returns-in-OutOfMemory c = search
