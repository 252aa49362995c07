use Rattle.tds_cells.proofs as N

pub returns-in-Binary-clause-text : N.chunks.open.Goals.returns-in-Binary-clause-text
returns-in-Binary-clause-text = grind (N.arith, N.SeveralChunks.opens_binary)

pub returns : N.chunks.open.Goals.returns
returns = grind (N.arith, N.SeveralChunks.opens_quoted)
