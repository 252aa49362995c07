use Rattle.tds_csv.proofs as N
use N.{◌≡◌, ◌∙◌, ◌+◌, ap}

pub returns : N.sink.Sink.keep.Goals.returns
returns g c =
    let a = N.held_before g.W.Write.contents c.args.self.now c.args.waiting in
    let old = c.args.self.now.output.now.bytes in
    let full : 4096 ≡ c.args.waiting + c.args.made = omega N.arith in
    let gives = N.Sinks.block a _ _ _ _ (ap (λ l. record a { waiting = l })
    (ap (λ (s : N.Space). s.bytes) c.truncate.ensures ∙ ap (λ n. N.take n old) full ∙ N.take-add
    c.args.waiting c.args.made old)) (ap (λ (s : N.Space). N.length s.bytes) c.truncate.ensures ∙ N.length-take-le 4096 old (omega N.arith))
    c.deliver.ensures.rest c.deliver.ensures.gives in
    record { ready = c.deliver.ensures.ready; same = search N.rules; failed = c.deliver.ensures.failed; gives = gives }
