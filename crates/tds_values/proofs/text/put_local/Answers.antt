use Rattle.tds_values.proofs as N
use N.{◌%◌, ◌++◌, ◌/◌, ◌≡◌}

pub returns : N.text.put_local.Goals.returns
returns c =
    let third : N.take c.put_offset.result c.put_offset.new.to ≡
    N.take c.put_byte-at.result c.put_byte-at.new.to ++ N.offset_text c.args.offset = grind N.arith in (
      N.WrittenLemmas.local_joined (c.args.local / 86400) c.args.scale c.args.units c.rest-part.result (N.seconds_text (c.args.local % 86400))
          (N.offset_text c.args.offset)
          c.rest-part.ensures.units c.put_moment-at.ensures.written c.put_byte-at.ensures.written third,
      omega N.arith,
    )
