-- Calls that put the text of an element part after part.
use Rattle.tds_csv.proofs as N
use N.{◌≡◌, ◌∙◌, ℕ, ◌-◌, ◌^◌, ◌<◌, ◌≤◌, List, [], ◌∷◌, ◌++◌, length, ap, arith, append_assoc, Fault, Grammar, PayloadView, SinkView, Puts}
use N.Streams.{puts_both}
use Rattle.tds_packet.specs.Elements.{Leads}

-- Whole elements were read, which lead from one state to another. The text of all but the last was put, and that of the last but for its tail.
pub record LacksTail {S : Type 0} (g : Grammar S Fault) (text : S → List ℕ) (from : S) (old new : PayloadView) (before after : SinkView) (to : S)
    (tail : List ℕ) : Type 0 where
  pub bytes : List ℕ
  pub element : List ℕ
  pub at : S
  pub spelt : N.Spelt g from bytes at
  pub next : N.IsNext g at element
  pub to_is : g.add at element ≡ to
  pub takes : N.Takes old new (bytes ++ element) (length (bytes ++ element))
  pub between : N.IsBetween new
  pub middle : SinkView
  pub few : length middle.waiting < 4096
  pub puts : N.PutsText text from at before middle
  pub part : List ℕ
  pub text_is : text at ++ (part ++ tail) ≡ text to
  pub half : Puts middle after part

-- The text of each element stands after that of what was read before it.
abbrev pub Grows : {S : Type 0} → Grammar S Fault → (S → List ℕ) → Type 0
Grows {S} g text = (s : S) (element : List ℕ) → N.IsNext g s element → (more : List ℕ) × (text s ++ more ≡ text (g.add s element))

module _ {S : Type 0} (g : Grammar S Fault) (text : S → List ℕ) where
  -- an element was read after what was read and put
  abbrev pub nears_from : (s at : S) (a b c : PayloadView) (h i : SinkView) (element tail : List ℕ) → N.Words.Streams g text s a b h i at
      → N.IsNext g at element → N.Takes b c element (length element) → N.IsBetween c → length i.waiting < 4096 → i.delivered ≤ 2 ^ 64 - 1
      → text at ++ tail ≡ text (g.add at element) → LacksTail g text s a c h i (g.add at element) tail
  nears_from s at a b c h i element tail x next takes between few delivered text_is = record {
    bytes = x.bytes;
    element = element;
    at = at;
    spelt = x.spelt;
    next = next;
    to_is = N.refl;
    takes = N.takes_both a b c _ _ x.takes takes;
    between = between;
    middle = i;
    few = few;
    puts = x.puts;
    part = [];
    text_is = text_is;
    half = N.Sinks.Puts-none i delivered;
  }

  -- a further part was put
  abbrev pub nears_put : (s : S) (a b : PayloadView) (h i j : SinkView) (to : S) (p q : List ℕ) → LacksTail g text s a b h i to (p ++ q) → Puts i j p
      → LacksTail g text s a b h j to q
  nears_put s a b h i j to p q x puts = record {
    bytes = x.bytes;
    element = x.element;
    at = x.at;
    spelt = x.spelt;
    next = x.next;
    to_is = x.to_is;
    takes = x.takes;
    between = x.between;
    middle = x.middle;
    few = x.few;
    puts = x.puts;
    part = x.part ++ p;
    text_is = grind (arith, append_assoc);
    half = N.Sinks.Puts-trans _ _ _ _ _ x.half puts;
  }

  -- all was put
  abbrev pub nears_done : (s : S) (a b : PayloadView) (h i j : SinkView) (to : S) (tail : List ℕ) → LacksTail g text s a b h i to tail → Puts i j tail
      → N.Words.Streams g text s a b h j to
  nears_done s a b h i j to tail x puts = record {
    bytes = x.bytes ++ x.element;
    spelt = N.Spelt-append _ _ _ _ _ _ x.spelt (rw x.to_is at (N.Spelt-one _ _ _ x.next));
    takes = x.takes;
    puts = puts_both text _ _ _ _ _ _ x.puts (_, x.text_is, N.Sinks.Puts-trans _ _ _ _ _ x.half puts);
  }

  -- a write of a further part failed
  abbrev pub nears_breaks : (s : S) (a b : PayloadView) (h i j : SinkView) (to : S) (tail p q : List ℕ) (stop : N.Stop) → LacksTail g text s a b h i to tail
      → tail ≡ p ++ q → N.WritesPrefix i j p stop → (at : S) × N.WritesPrefixStreaming g text s a b h j at stop
  nears_breaks s a b h i j to tail p q stop x parts breaks = (
    x.at,
    record {
      bytes = x.bytes;
      element = x.element;
      ahead = [];
      spelt = x.spelt;
      next = x.next;
      takes = rw N.append-nil x.takes;
      between = x.between;
      middle = x.middle;
      few = x.few;
      puts = x.puts;
      more = x.part ++ tail;
      text_is = grind arith;
      breaks = rw (parts, ← append_assoc x.part p q) (N.Sinks.WritesPrefix-longer _ _ _ q _ (N.Sinks.WritesPrefix-after _ _ _ _ _ _ x.half breaks));
    },
  )

  -- a call that reads on, of whose last element's text a part was put
  abbrev pub nears_after : (s t : S) (a b c : PayloadView) (h i j : SinkView) (to : S) (tail : List ℕ) → N.Words.Streams g text s a b h i t
      → LacksTail g text t b c i j to tail → LacksTail g text s a c h j to tail
  nears_after s t a b c h i j to tail x y = record {
    bytes = x.bytes ++ y.bytes;
    element = y.element;
    at = y.at;
    spelt = N.Spelt-append _ _ _ _ _ _ x.spelt y.spelt;
    next = y.next;
    to_is = y.to_is;
    takes = rw append_assoc (N.takes_both a b c _ _ x.takes y.takes);
    between = y.between;
    middle = y.middle;
    few = y.few;
    puts = puts_both text _ _ _ _ _ _ x.puts y.puts;
    part = y.part;
    text_is = y.text_is;
    half = y.half;
  }

  -- the text of what is read later stands after that of what is read before
  pub grown_leads : Grows g text → (s : S) (es : List (List ℕ)) (t : S) → Leads g s es t → (more : List ℕ) × (text s ++ more ≡ text t)
  grown_leads grows s [] t leads = grind (arith, N.append-nil)
  grown_leads grows s (e ∷ es) t leads = grind (arith, append_assoc, grown_leads grows (g.add s e) es t leads.1)

module _ {S : Type 0} (g : Grammar S Fault) where
  -- what reads some bytes has a next element before them
  pub first_size : (s : S) (bytes : List ℕ) (t : S) → N.Spelt g s bytes t → 0 < length bytes → 0 < g.size s
  first_size s bytes t spelt some = go spelt.elements spelt.joined spelt.leads
    where
      go : (es : List (List ℕ)) → N.concat es ≡ bytes → Leads g s es t → 0 < g.size s
      go [] joined leads = grind arith
      go (e ∷ es) joined leads = N.next_some _ _ _ leads.0

  -- a grammar is inside itself
  pub inside_itself : N.Inside g g (λ s. s)
  inside_itself = grind arith

  -- the last element of what was read
  pub last_read : (s : S) (bytes : List ℕ) (t : S) → N.Spelt g s bytes t → 0 < length bytes → N.LastInside g g (λ u. u) inside_itself s bytes t
  last_read s bytes t = N.last_inside _ _ _ inside_itself _ _ _

-- A small grammar inside a big one, whose text is that of the small one after a text that stands before it, where the small one has a next element.
module _ {S T : Type 0} (small : Grammar S Fault) (big : Grammar T Fault) (lift : S → T) (is : N.Inside small big lift) (text : S → List ℕ) (whole : T
    → List ℕ) (front : List ℕ) (text_is : (s : S) → 0 < small.size s → front ++ text s ≡ whole (lift s)) (grows : Grows small text) where
  -- what is added to the small text between two states with a next element is added to the big one
  pub added_between : (s t : S) (more : List ℕ) → 0 < small.size s → 0 < small.size t → text s ++ more ≡ text t → whole (lift s) ++ more ≡ whole (lift t)
  added_between = grind (arith, append_assoc)

  -- after the small text the big one has a tail
  pub tail_after : (s t : S) (more tail : List ℕ) → 0 < small.size s → text s ++ more ≡ text t → (front ++ text t) ++ tail ≡ whole (lift t)
      → whole (lift s) ++ (more ++ tail) ≡ whole (lift t)
  tail_after = grind (arith, append_assoc)

  -- the small grammar was read to its end, and its text put: of the big one's text only what stands after it is to be put
  abbrev pub nears_inside : (from : S) (a b : PayloadView) (h i : SinkView) (to : S) (tail : List ℕ) → (x : N.Words.Streams small text from a b h i to)
      → 0 < length x.bytes → N.IsBetween b → length i.waiting < 4096 → (front ++ text to) ++ tail ≡ whole (lift to)
      → LacksTail big whole (lift from) a b h i (lift to) tail
  nears_inside from a b h i to tail x some between few end =
      let l = last_read _ _ _ _ x.spelt some in
      let begin = first_size _ _ _ _ x.spelt some in
      let before = grown_leads _ text grows _ _ _ l.spelt.leads in
      let last = grows _ _ l.next in
      let closed = last.1 ∙ ap text l.to_is in
      let parts = N.append_cancel_left (text from) x.puts.0 (before.0 ++ last.0) (rw (
        ← append_assoc (text from) before.0 last.0,
        before.1,
        closed,
      ) x.puts.1) in
      let cut = N.Splits.Puts_split h i before.0 last.0 few (rw parts at x.puts.2) in
      record {
        bytes = l.front;
        element = l.element;
        at = lift l.at;
        spelt = N.Inside-Spelt _ _ _ is _ _ _ l.spelt;
        next = grind (arith, N.next_inside);
        to_is = grind arith;
        takes = grind arith;
        between = between;
        middle = cut.0;
        few = cut.1;
        puts = (before.0, added_between from l.at before.0 begin l.size before.1, cut.2);
        part = last.0;
        text_is = grind (arith, tail_after);
        half = cut.3;
      }
