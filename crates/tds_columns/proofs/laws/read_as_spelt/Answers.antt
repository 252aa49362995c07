use Rattle.tds_columns.proofs as N

pub returns : N.laws.read_as_spelt.Goals.returns
returns c = λ room columns bytes are. (
  N.ColumnLaws.description_is_read room columns bytes,
  λ k. (N.GatherMeaning.described_means room (N.WholeDescription bytes columns) bytes are k).1,
)
