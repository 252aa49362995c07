use Rattle.tds_text.proofs as N

pub returns-then-whole-to-clause-digits : N.lanes_hex.convert.Goals.returns-then-whole-to-clause-digits
returns-then-whole-to-clause-digits = grind (N.arith, N.SingleLaws.hex_padded)
