use Rattle.tds_csv.proofs as N

pub returns-then-is_empty : N.joiners.utf16.Utf16JoinerJoiner.end.Goals.returns-then-is_empty
returns-then-is_empty g c = grind (N.arith, N.common_steps, N.nil_from_length, N.Sinks.Puts-none, Rattle.tds_text.proofs.Utf16Steps.text_nil)
