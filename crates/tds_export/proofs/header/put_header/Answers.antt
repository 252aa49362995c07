use Rattle.tds_export.proofs as N
use N.header.put_header.Goals as goal
use Rattle.tds_csv.proofs.LentRooms.{kept}

pub returns-in_default : goal.returns-in_default
returns-in_default g c =
    N.NameTexts.then_puts (kept {U = Unit {0}} c.args.sink.now c.spare.result.now c.write_header.new.to c.waiting-waiting.result c.write_header.auto.to
    c.waiting-waiting.ensures c.requires.writing N.refl (N.Ok (tt {0})) c.commit.ensures) c.put_by_names.ensures

pub returns : goal.returns
returns g c = kept c.args.sink.now c.spare.result.now c.write_header.new.to c.waiting-waiting.result c.write_header.auto.to
    c.waiting-waiting.ensures c.requires.writing c.in-Some.ensures.text c.keep.result c.keep.ensures
