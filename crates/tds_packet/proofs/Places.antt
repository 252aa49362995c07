-- Where a payload stops that hands out nothing.
use Rattle.tds_packet.proofs as N
use N.{◌≡◌}

-- where a payload stops that had not, and hands out nothing, the message ends at its place if it does
pub stops_here : {R : Type 0} (remaining : R → N.Option (N.List N.ℕ)) (p : N.PayloadOf R) (new : N.PayloadView) (stop : N.Stop) → p.stopped ≡ N.None
    → N.Ends (N.seen remaining p) new N.[] stop → stop ≡ N.began_at p.place stop
stops_here remaining p new stop going ends = let stands = N.WireFaults.ends_stand remaining p new _ _ going ends in grind N.arith
