abbrev pub decreases-push_digits : Rattle.tds_values.proofs.reference_text.+push_digits.Given.decreases-push_digits
decreases-push_digits l = l.k
