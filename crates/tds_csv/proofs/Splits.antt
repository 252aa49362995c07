-- A text that is put in one call could have been put in two.
use Rattle.tds_csv.proofs as N
use N.{◌≡◌, ◌∙◌, ◌⊎◌, ℕ, ◌+◌, ◌-◌, ◌*◌, ◌^◌, ◌<◌, ◌≤◌, List, ◌++◌, length, take, drop, refl, sym, ap, arith, ◌/◌, SinkView, Adds, Puts}

-- what waits and a piece is what is delivered and then waits
total_of : (a b : SinkView) (p r sent : List ℕ) → Adds a b sent (p ++ r) → length (a.waiting ++ p) + length r ≡ length sent + length b.waiting
total_of a b p r sent adds = sym (N.length-append (a.waiting ++ p) r) ∙ ap length (grind (arith, N.append_assoc)) ∙ N.length-append sent b.waiting

-- the whole blocks of what waits and comes first are delivered before the rest is put
split_at : (a b : SinkView) (p r sent : List ℕ) (n : ℕ) → Adds a b sent (p ++ r) → 4096 * n ≤ length sent → 4096 * n ≤ length (a.waiting ++ p)
    → length (a.waiting ++ p) < 4096 * (n + 1) → (0 < length sent → a.failures < 2 ^ 64 - 1)
    → (m : SinkView) × (length m.waiting < 4096) × Puts a m p × Adds m b (drop (4096 * n) sent) r × (m.failures ≡ a.failures) × (m.delivered ≤ 2 ^ 64 - 1)
    × (0 < length (drop (4096 * n) sent) → m.failures < 2 ^ 64 - 1)
split_at a b p r sent n adds enough below above asked =
    let k = 4096 * n in
    let all = a.waiting ++ p in
    let first = take k all in
    let joined = N.append_assoc a.waiting p r ∙ adds.1 in
    let size = N.length-take-le k all below in
    let sizes : length sent ≡ length first + length (drop k sent) = omega (arith, N.length-drop k sent) in (
      record { had = N.append_known a.had first; waiting = drop k all; delivered = N.counted a.delivered (length first); failures = a.failures },
      omega (arith, N.length-drop k all),
      (first, n, (grind arith, sym (N.take-append-drop k all), refl), size, (refl, λ some. asked (omega arith))),
      (
        (let all_sent : N.Appends a.had b.had (first ++ drop k sent) = N.subst (N.Appends a.had b.had)
            (sym (N.take-append-drop k sent) ∙ ap (λ l. l ++ drop k sent) (rw (← N.take-append-le k sent b.waiting enough, ← joined) (N.take-append-le k
            all r below))) adds.0 in grind (arith, N.append_assoc)),
        sym (N.drop-append-le k all r below) ∙ ap (drop k) joined ∙ N.drop-append-le k sent b.waiting enough,
        adds.2 ∙ ap (N.counted a.delivered) sizes ∙ sym (N.Sinks.counted-twice a.delivered (length first) (length (drop k sent))),
      ),
      refl,
      omega arith,
      λ some. asked (omega arith),
    )

-- a piece that was put in one call could have been put in two
pub Puts_split : (a b : SinkView) (p q : List ℕ) → length b.waiting < 4096 → Puts a b (p ++ q) → (m : SinkView) × (length m.waiting < 4096) × Puts a m p
    × Puts m b q × (m.delivered ≤ 2 ^ 64 - 1)
Puts_split a b p q few x =
    let n = length (a.waiting ++ p) / 4096 in
    let total = total_of a b p q x.0 x.2 in
    let s = split_at a b p q x.0 n x.2 (omega arith) (omega arith) (omega arith) x.4.1 in
    (s.0, s.1, s.2, (drop (4096 * n) x.0, x.1 - n, s.3, omega (arith, N.length-drop (4096 * n) x.0), (x.4.0 ∙ sym s.4, s.6)), s.5)

-- a write that failed in a piece would have failed in its first part or in its second
pub WritesPrefix_split : (a b : SinkView) (p q : List ℕ) (stop : N.Stop) → N.WritesPrefix a b (p ++ q) stop → N.WritesPrefix a b p stop
    ⊎ ((m : SinkView) × (length m.waiting < 4096) × Puts a m p × N.WritesPrefix m b q stop × (m.delivered ≤ 2 ^ 64 - 1))
WritesPrefix_split a b p q stop x = elim (N.dec_le x.2 (length p)) [
  | yes le ↦ grind (arith, N.take-append-le)
  | no above ↦
      let i = x.2 - length p in
      let n = length (a.waiting ++ p) / 4096 in
      let fits : i ≤ length q = omega (arith, N.length-append p q) in
      let adds = N.subst (Adds a b x.0) (ap (λ k. take k (p ++ q)) (sym (omega arith)) ∙ N.take-append-add p q i) x.3 in
      let total = total_of a b p (take i q) x.0 adds in
      let size = N.length-take-le i q fits in
      let s = split_at a b p (take i q) x.0 n adds (omega arith) (omega arith) (omega arith) x.9.1 in
      let left = N.length-drop (4096 * n) x.0 in
      N.inr (
        s.0,
        s.1,
        s.2,
        (drop (4096 * n) x.0, x.1 - n, i, s.3, fits, omega arith, omega arith, omega arith, x.8, (x.9.0 ∙ ap N.one_more (sym s.4), s.6)),
        s.5,
      )
]
