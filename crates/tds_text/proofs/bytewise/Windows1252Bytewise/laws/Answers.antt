use Rattle.tds_text.proofs as N

pub returns : N.bytewise.Windows1252Bytewise.laws.Goals.returns
returns c = N.SingleLaws.windows_1252_bytewise
