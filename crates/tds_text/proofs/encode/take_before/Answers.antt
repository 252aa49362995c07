use Rattle.tds_text.proofs as N
use N.encode.take_before.Goals as goal

pub put_lanes-requires : goal.put_lanes-requires
put_lanes-requires c = (omega N.arith, (N.length-chunk _ 32 _ c.requires.wide, ((omega N.arith), (omega N.arith))))

pub put_lanes-requires-2 : goal.put_lanes-requires-2
put_lanes-requires-2 c = (omega N.arith, (N.length-chunk _ 32 _ c.requires.wide, ((omega N.arith), (omega N.arith))))
