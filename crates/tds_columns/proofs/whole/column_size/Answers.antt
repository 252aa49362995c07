use Rattle.tds_columns.proofs as N
use N.{◌∙◌, ◌+◌, sym}

pub returns : N.whole.column_size.Goals.returns
returns c = N.WholeLaws.column_begins c.args.bytes.now c.in_ok-rest.rest c.from.result c.if-bytes-size.false (sym c.kind_of.ensures ∙ c.in_ok-kind_of.was)
    (sym c.from.ensures) (rw c.from.ensures (c.type_inv.bytes (7 + c.in_ok-rest.rest)).fits)
