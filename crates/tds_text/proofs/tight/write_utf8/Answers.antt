use Rattle.tds_text.proofs as N

pub returns-then-put_all_plain : N.tight.write_utf8.Goals.returns-then-put_all_plain
returns-then-put_all_plain =
    grind (N.arith, N.common_steps, N.QuotedFields.quoted, N.Singles.plain_doubled, N.Singles.plain_utf8, N.is_utf8-from_IsUtf8)
