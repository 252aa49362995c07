-- What `?` passes on.
use Rattle.tds_packet.proofs as N
use N.{◌≡◌}

-- where `?` leaves with an error, what is said of each answer holds if it holds of that error
pub passed : {T E : Type 0} (r : N.Result T E) (e : E) (P : T → Type 0) (Q : E → Type 0) → N.IsErrAnd r (λ x. x ≡ e) → Q e → N.MatchResult r P Q
passed r e P Q = grind N.arith

-- so it is of whatever is said of the answer
pub passed_on : {T E : Type 0} (r : N.Result T E) (e : E) (P : N.Result T E → Type 0) → N.IsErrAnd r (λ x. x ≡ e) → P (N.Err e) → P r
passed_on r e P = grind (N.arith, N.common_steps)
