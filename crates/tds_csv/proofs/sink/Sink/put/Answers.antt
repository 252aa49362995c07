use Rattle.tds_csv.proofs as N
use N.sink.Sink.put.Goals as goal
use N.{◌+◌}

pub returns-in_err-push : goal.returns-in_err-push
returns-in_err-push g c = N.PutParts.puts_break (λ l. l) (λ x y. N.refl) _ (c.loop-taken.taken + _) _ (omega N.arith)
    c.loop-taken.invariant.puts c.in_err-push.ensures c.from_residual-in_err-push.ensures.1

pub loop-taken-preserved : goal.loop-taken-preserved
loop-taken-preserved g c = record {
  within = search N.rules;
  puts = N.PutParts.puts_more (λ l. l) (λ x y. N.refl) _ (c.loop-taken.taken + _) _ (omega N.arith) c.loop-taken.invariant.puts c.in_ok-push.ensures;
}
