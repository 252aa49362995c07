-- A piece that was lent is many elements: where a write of their text fails, it fails in that of one of them.
use Rattle.tds_csv.proofs as N
use N.{◌≡◌, ◌∙◌, ℕ, ◌-◌, ◌^◌, ◌<◌, ◌≤◌, List, [], ◌∷◌, ◌++◌, concat}
use Rattle.tds_packet.specs.Elements.{Leads}

module _ {S : Type 0} (g : N.Grammar S N.Fault) (text : S
    → List ℕ) (grows : N.LacksTail.Grows g text) (s : S) (a b : N.PayloadView) (h j : N.SinkView) (stop : N.Stop)
    (between : N.IsBetween b) where
  -- the elements from a state on, before which all was put
  breaks_from : (at t : S) (es : List (List ℕ)) (bytes rest : List ℕ) (m : N.SinkView) (added : List ℕ) → N.Spelt g s bytes at → Leads g at es t
      → N.Takes a b ((bytes ++ concat es) ++ rest) 1 → N.PutsText text s at h m → N.length m.waiting < 4096 → text at ++ added ≡ text t
      → N.WritesPrefix m j added stop
      → (to : S) × (x : N.WritesPrefixStreaming g text s a b h j to stop) × ((x.bytes ++ x.element) ++ x.ahead ≡ (bytes ++ concat es) ++ rest)
  breaks_from at t [] bytes rest m added spelt leads takes puts few text_is breaks = grind (N.arith, N.common_steps, N.append_cancel_left)
  breaks_from at t (e ∷ es) bytes rest m added spelt leads takes puts few text_is breaks =
      let more = grows _ _ leads.0 in
      let later = N.LacksTail.grown_leads _ text grows _ _ _ leads.1 in
      let parts = N.append_cancel_left (text at) added (more.0 ++ later.0) (rw (← N.append_assoc (text at) more.0 later.0, more.1, later.1) text_is) in
      let taken = rw (← N.append_assoc bytes e (concat es)) at takes in
      let whole = N.ap (λ l. l ++ rest) (N.append_assoc bytes e (concat es)) in
      elim (N.Splits.WritesPrefix_split _ _ more.0 later.0 _ (rw parts at breaks)) [
        | N.inl broken ↦ (
          at,
          record {
            bytes = bytes;
            element = e;
            ahead = concat es ++ rest;
            spelt = spelt;
            next = leads.0;
            takes = grind (N.arith, N.Takes-more, N.length-append, N.append_assoc, concat);
            between = between;
            middle = m;
            few = few;
            puts = puts;
            more = more.0;
            text_is = more.1;
            breaks = broken;
          },
          N.sym (N.append_assoc (bytes ++ e) (concat es) rest) ∙ whole,
        )
        | N.inr x ↦
            let y = breaks_from (g.add at e) t es _ rest _ _ (N.Spelt-append _ _ _ _ _ _ spelt (N.Spelt-one _ _ _ leads.0)) leads.1 taken
            (N.Streams.puts_both text _ _ _ _ _ _ puts (more.0, more.1, x.2)) x.1 later.1 x.3 in
            (y.0, y.1, y.2 ∙ whole)
      ]

  -- a piece was read at once, and a write of its text failed: it failed in that of one of its elements, and these are its bytes
  pub breaks_within : (t : S) (piece rest : List ℕ) (added : List ℕ) → N.Spelt g s piece t → N.Takes a b (piece ++ rest) 1 → N.length h.waiting < 4096
      → h.delivered ≤ 2 ^ 64 - 1 → text s ++ added ≡ text t → N.WritesPrefix h j added stop
      → (at : S) × (x : N.WritesPrefixStreaming g text s a b h j at stop) × ((x.bytes ++ x.element) ++ x.ahead ≡ piece ++ rest)
  breaks_within t piece rest added spelt takes few delivered text_is breaks =
      let none : N.PutsText text s s h h = ([], N.append-nil (text s), N.Sinks.Puts-none h delivered) in
      let x = breaks_from _ t _ [] rest h added (N.Spelt-none g s) spelt.leads (rw spelt.joined takes) none few text_is breaks in
      (x.0, x.1, x.2 ∙ N.ap (λ l. l ++ rest) spelt.joined)

  pub breaks_somewhere : (t : S) (piece rest : List ℕ) (added : List ℕ) → N.Spelt g s piece t → N.Takes a b (piece ++ rest) 1 → N.length h.waiting < 4096
      → h.delivered ≤ 2 ^ 64 - 1 → text s ++ added ≡ text t → N.WritesPrefix h j added stop → (at : S) × N.WritesPrefixStreaming g text s a b h j at stop
  breaks_somewhere t piece rest added spelt takes few delivered text_is breaks =
      let x = breaks_within t piece rest added spelt takes few delivered text_is breaks in
      (x.0, x.1)
