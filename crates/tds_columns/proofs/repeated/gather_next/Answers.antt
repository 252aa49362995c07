use Rattle.tds_columns.proofs as N
use Rattle.tds_packet.specs.Payloads.{buffered}
use N.repeated.gather_next.Goals as goal
use N.{◌≡◌, ◌+◌, rules}

pub returns-clause-gives : goal.returns-clause-gives
returns-clause-gives g c =
    let next = c.come_next.ensures in
    let at : c.consume.new.self.place ≡ c.args.payload.now.place + c.len.result = N.ap (λ p. p.place) c.consume.ensures.rest in
    N.WholeLaws.takes_again c.args.area.now c.count.result (buffered c.args.payload.now) (c.requires.described (search rules))
    (rw (c.view.ensures, c.bytes.ensures.value) at c.count.ensures.columns) c.bytes.ensures.fits (next.within (search rules))
    (next.equal (search rules)) (rw c.len.ensures.value at c.consume.ensures.gives) (rw c.len.ensures.value at at)
