use Rattle.tds_text.proofs as N

pub returns : N.lanes_hex.put_digits.Goals.returns
returns = grind (N.arith, N.length-put_chunk, N.take_more_put_chunk, N.append_assoc, N.chunk)
