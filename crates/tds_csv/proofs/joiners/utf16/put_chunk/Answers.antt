use Rattle.tds_csv.proofs as N
use N.joiners.utf16.put_chunk.Goals as goal

pub returns-in-Err-clause-puts : goal.returns-in-Err-clause-puts
returns-in-Err-clause-puts g c =
    N.LentRooms.kept_breaks c.args.sink.now c.spare.result.now c.convert-done.new.to c.waiting-waiting.result c.convert-done.auto.to c.waiting-waiting.ensures
    c.requires.writing.writing c.convert-done.ensures.text c.in-Err.ensures

pub returns-in-Ok-clause-puts : goal.returns-in-Ok-clause-puts
returns-in-Ok-clause-puts g c =
    N.LentRooms.kept_puts c.args.sink.now c.spare.result.now c.convert-done.new.to c.waiting-waiting.result c.convert-done.auto.to c.waiting-waiting.ensures
    c.requires.writing.writing c.convert-done.ensures.text c.in-Ok.ensures
