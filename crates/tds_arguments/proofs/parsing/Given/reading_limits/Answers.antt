use Rattle.tds_arguments.proofs as N
use N.parsing.Given.reading_limits.Goals as goal
use N.Numbers.{if_err, unread_decimal}

pub returns-in_err-packet_size-clause-err : goal.returns-in_err-packet_size-clause-err
returns-in_err-packet_size-clause-err c =
    if_err c.from_residual.result (λ packet_size column_room max_wire has size room wire. unread_decimal (λ bs r. N.ExplainsUnsignedError 10 bs r)
    (λ bs r. N.HasUnsignedDigitsIfOk bs r) 16 _ packet_size c.in_err-packet_size.ensures.err (omega N.arith) has.0)

pub returns-in_err-column_room-clause-err : goal.returns-in_err-column_room-clause-err
returns-in_err-column_room-clause-err c =
    if_err c.from_residual-in_err-column_room.result
    (λ packet_size column_room max_wire has size room wire. unread_decimal (λ bs r. N.ExplainsUnsignedError 10 bs r)
    (λ bs r. N.HasUnsignedDigitsIfOk bs r) 32 _ column_room c.in_err-column_room.ensures.err (omega N.arith) has.1)

pub returns-in_err-number-clause-err : goal.returns-in_err-number-clause-err
returns-in_err-number-clause-err c =
    if_err c.from_residual-in_err-number.result
    (λ packet_size column_room max_wire has size room wire. unread_decimal (λ bs r. N.ExplainsUnsignedError 10 bs r)
    (λ bs r. N.HasUnsignedDigitsIfOk bs r) 64 _ max_wire c.in_err-number.ensures.err (omega N.arith) has.2)
