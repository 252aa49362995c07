use Rattle.tds_text.proofs as N

pub returns-then-run-bytes-clause-text : N.utf16.convert_end.Goals.returns-then-run-bytes-clause-text
returns-then-run-bytes-clause-text = grind (N.arith, N.Utf16Steps.all_led, N.length-drop)
