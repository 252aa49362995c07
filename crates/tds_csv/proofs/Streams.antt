-- Calls that read by a grammar and put the text of what they read: one after another, and inside a greater grammar.
use Rattle.tds_csv.proofs as N
use N.{◌≡◌, ◌∙◌, ℕ, ◌+◌, ◌<◌, List, ◌++◌, ap, Fault, Stop, Grammar, SinkView, PutsText}

-- a state where a reading stops has a next element
pub stops_size : {S : Type 0} (g : Grammar S Fault) (from : S) (a b : N.PayloadView) (place : ℕ) (at : S) (stop : Stop)
    → N.StopsReading g from a b place at stop
    → 0 < g.size at
stops_size = grind N.arith

-- the text between three states, put by two calls
pub puts_both : {S : Type 0} (text : S → List ℕ) (s t u : S) (a b c : SinkView) → PutsText text s t a b → PutsText text t u b c → PutsText text s u a c
puts_both text s t u a b c x y = (x.0 ++ y.0, N.sym (N.append_assoc (text s) x.0 y.0) ∙ ap (λ l. l ++ y.0) x.1 ∙ y.1, N.Sinks.Puts-trans _ _ _ _ _ x.2 y.2)

module _ {S : Type 0} (g : Grammar S Fault) (text : S → List ℕ) where
  -- a call that reads on, and one whose write fails
  abbrev pub breaks_after : (s t : S) (a b c : N.PayloadView) (h i j : SinkView) (at : S) (stop : Stop) → N.Words.Streams g text s a b h i t
      → N.WritesPrefixStreaming g text t b c i j at stop → N.WritesPrefixStreaming g text s a c h j at stop
  breaks_after s t a b c h i j at stop x y = record {
    bytes = x.bytes ++ y.bytes;
    element = y.element;
    ahead = y.ahead;
    spelt = N.Spelt-append _ _ _ _ _ _ x.spelt y.spelt;
    next = y.next;
    takes = rw (N.append_assoc x.bytes) (N.takes_ahead a b c _ _ _ x.takes y.takes);
    between = y.between;
    middle = y.middle;
    few = y.few;
    puts = puts_both text _ _ _ _ _ _ x.puts y.puts;
    more = y.more;
    text_is = y.text_is;
    breaks = y.breaks;
  }

module _ {S : Type 0} (g : Grammar S Fault) (text : S → List ℕ) where
  -- what stops a call that puts text stops one that began before it
  pub streaming_after : (s t : S) (a b c : N.PayloadView) (h i j : SinkView) (place : ℕ) (failed : N.Bool) (stop : Stop)
      → (x : N.Words.Streams g text s a b h i t)
      → N.StopsStreaming g text t b c (place + N.length x.bytes) i j failed stop → N.StopsStreaming g text s a c place h j failed stop
  streaming_after s t a b c h i j place failed stop x y = record {
    at = y.at;
    cause = elim y.cause [
      | N.inl z ↦ N.inl (
        N.stops_after g s t a b c place y.at stop (record { bytes = x.bytes; spelt = x.spelt; takes = x.takes }) z.0,
        puts_both text _ _ _ _ _ _ x.puts z.1,
        z.2,
      )
      | N.inr z ↦ N.inr (breaks_after _ _ _ _ _ _ _ _ _ _ _ _ x z.0, z.1)
    ];
  }

-- A small grammar inside a big one, whose text is that of the small one after a text that stands before it.
module _ {S T : Type 0} (small : Grammar S Fault) (big : Grammar T Fault) (lift : S → T) (is : N.Inside small big lift) (text : S → List ℕ) (whole : T
    → List ℕ) (front : List ℕ) (text_is : (s : S) → front ++ text s ≡ whole (lift s)) where
  -- what is added to the small text is added to the big one
  pub added_inside : (s t : S) (more : List ℕ) → text s ++ more ≡ text t → whole (lift s) ++ more ≡ whole (lift t)
  added_inside = grind (N.arith, N.append_assoc)

  -- the text between two states of the small grammar is that between those of the big one
  pub puts_inside : (s t : S) (a b : SinkView) → PutsText text s t a b → PutsText whole (lift s) (lift t) a b
  puts_inside s t a b x = (x.0, added_inside s t x.0 x.1, x.2)

  -- a write that fails in the text of the small grammar fails in that of the big one
  abbrev pub breaks_inside : (from : S) (a b : N.PayloadView) (h i : SinkView) (at : S) (stop : Stop) → N.WritesPrefixStreaming small text from a b h i at stop
      → N.WritesPrefixStreaming big whole (lift from) a b h i (lift at) stop
  breaks_inside from a b h i at stop x = record {
    bytes = x.bytes;
    element = x.element;
    ahead = x.ahead;
    spelt = N.Inside-Spelt _ _ _ is _ _ _ x.spelt;
    next = grind (N.arith, N.next_inside, N.next_some);
    takes = x.takes;
    between = x.between;
    middle = x.middle;
    few = x.few;
    puts = puts_inside from at h x.middle x.puts;
    more = x.more;
    text_is = grind (N.arith, added_inside, N.next_some);
    breaks = x.breaks;
  }
