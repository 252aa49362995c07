-- What joiners do with the pieces of some content, in the words of their conversion.
use Rattle.tds_rows.proofs as N
use N.{◌≡◌, ◌∙◌, ℕ, ◌+◌, ◌-◌, ◌<◌, ◌≤◌, Bool, List, [], ◌++◌, length, inr, sym, ap, arith, Err, Stop, Takes, IsBetween, BeginsData, Conversion}
use N.{IsFit, conversion_rest, emit, SinkView, joins_by_name}
use N.Paths.{At, over, until}
use Rattle.tds_csv.specs.declared.joiners.JoinFault.TheVariants as join_faults

module _ {fit begins : List ℕ → Type 0} {rest text : List ℕ → List ℕ} {size : ℕ} {quoted : Bool} {c : Conversion}
    (suits : N.Suits fit begins rest text size quoted c) where
  module _ (content : List ℕ) {old : List ℕ} (is : old ≡ conversion_rest c content) (begun : BeginsData c content) where
    begun_with : (piece : List ℕ) → begins (old ++ piece) → BeginsData c (content ++ piece)
    begun_with piece h = (joins_by_name c).outward content piece (grind arith)

    pub piece_taken : {new piece : List ℕ} {p q : At} → 0 < length piece → Takes p.seen q.seen piece 1 → IsBetween q.seen
        → q.place ≡ p.place + length piece → N.TakesPiece begins rest text old new p.held q.held piece
        → over (N.TakesData c content new) p q (length piece)
    piece_taken {piece = piece} some takes between at x =
        let all = begun_with piece x.begun in
        record {
          piece = piece;
          counted = N.refl;
          some = some;
          takes = takes;
          between = between;
          place_is = at;
          begun = all;
          puts = grind arith;
          kept_is = grind (arith, (joins_by_name c).keeps content piece all);
        }

    pub piece_added : {new piece to : List ℕ} {made : ℕ} → N.WritesAdded begins rest text old new piece to made
        → BeginsData c (content ++ piece) × (N.take made to ≡ N.added_text c content piece) × (new ≡ conversion_rest c (content ++ piece))
    piece_added {piece = piece} x =
        let all = begun_with piece x.begun in
        (all, grind arith, grind (arith, (joins_by_name c).keeps content piece all))

    piece_bad : {new : List ℕ} {k : ℕ} {h i : SinkView} {column most : ℕ} {a b : N.PayloadView} {place : ℕ} (piece : List ℕ) → length piece ≤ most
        → Takes a b piece 1 → IsBetween b → N.TakesUpTo begins rest text old new h i piece k
        → N.RefusesData c content column most a b place h i (record { fault = N.BadText column; place = N.Payload (place + k) })
    piece_bad {k = k} {a = a} {b = b} piece short takes between x =
        let within = x.within in
        let len = N.length-take-le k piece (omega arith) in
        let good = N.take _ piece in
        let bad = N.get_or piece _ 0 in
        let split = sym (N.take-append-drop _ piece) ∙ ap (λ l. good ++ l) (N.drop_more piece _ 0 within) in
        record {
          good = good;
          bad = bad;
          ahead = N.drop _ piece;
          within = omega arith;
          takes = rw split at takes;
          between = between;
          begun = begun_with good x.good.begun;
          no_text = λ so.
              let inward = (joins_by_name c).inward content _
              (rw N.append_assoc at so) in
              x.bad ((suits.begins_is _).1 (rw (is, N.take_more piece _ 0 within) inward));
          puts = grind arith;
          stop_is = cc;
        }

    piece_breaks : {most : ℕ} {a b : N.PayloadView} {h i : SinkView} {stop : Stop} (piece : List ℕ) → length piece ≤ most → Takes a b piece 1 → IsBetween b
        → begins old → N.WritesPrefix h i (emit rest text (old ++ piece)) stop → N.WritesPrefixOfData c content most a b h i stop
    piece_breaks piece short takes between begins_old breaks =
        let f = N.begun_front c old piece (grind arith) in
        let good = N.take f.taken piece in
        let within = f.within in
        record {
          good = good;
          ahead = N.drop f.taken piece;
          within = omega (arith, N.length-take-le f.taken piece within);
          takes = rw (N.take-append-drop f.taken piece) takes;
          between = between;
          begun = (joins_by_name c).outward content good (rw (← is) f.begun);
          breaks = grind arith;
        }

    pub push_stops : {column most : ℕ} {a b : N.PayloadView} {place : ℕ} {h i : SinkView} {before after : Bool} (new piece : List ℕ) (fault : N.JoinFault)
        → length piece ≤ most → Takes a b piece 1 → IsBetween b → begins old → before ≡ N.false → after ≡ N.is_stopped {U = Unit {0}} (Err fault)
        → N.Pushes {U = Unit {0}} begins rest text old new h i before piece (Err fault)
        → N.StopsData c content column most a b place h i after (N.join_stop column place fault)
    push_stops _ _ (N.Stopped stop) short takes between begins_old going failed x =
        grind (arith, piece_breaks)
    push_stops _ _ N.Odd _ _ _ _ _ _ x = absurd x
    push_stops _ piece (join_faults.BadText k) short takes between _ _ failed x =
        inr (N.inl (piece_bad piece short takes between x, failed))

    fit_whole : fit old → IsFit c content
    fit_whole h = (joins_by_name c).fit_whole content begun (grind arith)

    pub end_whole : {new : List ℕ} {h i : SinkView} → N.Completes fit text old new h i → IsFit c content
        × N.Puts h i (N.conversion_text c (conversion_rest c content))
    end_whole x = grind (arith, fit_whole)

    end_part : {new : List ℕ} {h i : SinkView} → N.LeavesPart fit old new h i → IsFit c content → ⊥
    end_part x whole = x.part ((suits.fit_is old).1 (rw (← is) at ((joins_by_name c).fit_rest content whole)))

    pub end_stops : {column place : ℕ} {h i : SinkView} {before after : Bool} (new : List ℕ) (unit' : ℕ) (last : Bool) (fault : N.JoinFault)
        → before ≡ N.false → after ≡ N.is_stopped {U = Unit {0}} (Err fault) → N.EndsBy {U = Unit {0}} unit' fit text old new h i before (Err fault)
        → N.Paths.StopsEnding c quoted last content column place h i after (N.join_stop column place fault)
    end_stops _ _ _ (N.Stopped stop) going failed x =
        grind (arith, N.common_steps, fit_whole)
    end_stops {column = column} {place = place} _ _ _ _ _ failed x =
        inr (end_part x.0, x.0.put, ap (λ n. record { fault = N.BadText column; place = N.Payload n }) (omega arith), failed)

-- ---- piece after piece

module _ (c : Conversion) (content : List ℕ) (begun : BeginsData c content) where
  added_none : N.added_text c content [] ≡ []
  added_none = N.append_cancel_left (emit (conversion_rest c) (N.conversion_text c) content) _ []
      (grind (arith, N.append-nil, (joins_by_name c).emits content [] (rw N.append-nil begun)))

  added_both : (more piece : List ℕ) → BeginsData c ((content ++ more) ++ piece)
      → N.added_text c content more ++ N.added_text c (content ++ more) piece ≡ N.added_text c content (more ++ piece)
  added_both more piece all =
      let laws = joins_by_name c in
      let first = laws.emits content more (laws.front _ piece all) in
      let both = laws.emits content (more ++ piece) (rw N.append_assoc at all) in
      N.append_cancel_left (emit (conversion_rest c) (N.conversion_text c) content) _ _ (grind (arith, N.append_assoc, laws.emits _ piece all))

  fills_none : {p : At} → IsBetween p.seen → N.HasRoom p.held → N.Counts p.held
      → over (N.FillsData c content) p p []
  fills_none between few delivered = record {
    takes = grind arith;
    between = between;
    place_is = omega arith;
    begun = search N.rules;
    puts = rw added_none (N.Puts-none _ delivered);
    few = few;
    delivered = delivered;
  }

  fills_more : {kept more : List ℕ} {n : ℕ} {p q r : At} → N.HasRoom r.held → N.Counts r.held
      → over (N.FillsData c content) p q more
      → (x : over (N.TakesData c (content ++ more) kept) q r n)
      → over (N.FillsData c content) p r (more ++ x.piece)
  fills_more {more = more} {p = p} {q = q} {r = r} few delivered y x =
      record {
        takes = N.takes_both p.seen q.seen r.seen more x.piece y.takes (grind arith);
        between = x.between;
        place_is = omega (arith, N.length-append more x.piece);
        begun = rw N.append_assoc at x.begun;
        puts = rw (added_both more x.piece x.begun) at (N.Puts-trans p.held q.held r.held _ _ y.puts x.puts);
        few = few;
        delivered = delivered;
      }

-- Some of the content was read, piece by piece, and so much of it is left.
pub record Filled (c : Conversion) (content kept : List ℕ) (p q : At) (n left : ℕ) : Type 0 where
  pub more : List ℕ
  pub fills : over (N.FillsData c content) p q more
  pub counted : length more + left ≡ n
  pub kept_is : kept ≡ conversion_rest c (content ++ more)

pub filled_none : {c : Conversion} {content kept : List ℕ} {n : ℕ} {p : At} → BeginsData c content → kept ≡ conversion_rest c content
    → IsBetween p.seen → N.HasRoom p.held → N.Counts p.held → Filled c content kept p p n n
filled_none begun is between few delivered =
    record { more = []; fills = search (N.rules, fills_none); counted = omega arith; kept_is = search N.rules }

module _ {c : Conversion} {content kept : List ℕ} {p q : At} {n left : ℕ} (begun : BeginsData c content) (x : Filled c content kept p q n left) where
  pub filled_more : {kept' : List ℕ} {r : At} {k : ℕ} → k ≤ left → N.HasRoom r.held → N.Counts r.held
      → over (N.TakesData c (content ++ x.more) kept') q r k → Filled c content kept' p r n (left - k)
  filled_more most few delivered y = record {
    more = x.more ++ y.piece;
    fills = search (N.rules, fills_more);
    counted = omega (arith, N.length-append x.more y.piece);
    kept_is = grind (arith, N.append_assoc);
  }

  pub filled_stops : {column : ℕ} {e : N.Paths.Halt} → 0 < left → until (N.StopsData c (content ++ x.more) column left) q e
      → until (N.StopsFilling c content column n) p e
  filled_stops some y =
      let rest : left ≡ n - length x.more = omega arith in
      record {
        front = x.more;
        middle = q.seen;
        there = q.place;
        between = q.held;
        fewer = omega arith;
        fills = x.fills;
        stops = grind arith;
      }

-- the end of content that is whole was put, or a write of it failed
pub end_puts : {W U : Type 0} {contents : N.Tells W} {b d : N.Sink W} {r : N.Result U Stop} (c : Conversion) (quoted last : Bool)
    (content : List ℕ) (column place : ℕ) (a : N.Sink W)
    → IsFit c content × N.Puts (N.held contents a) (N.held contents b) (N.conversion_text c (conversion_rest c content)) → b.failed ≡ N.false
    → N.PutsPiece contents b d (N.closing quoted ++ N.end_after last) r → N.EndPut contents c quoted last content column place a d r
end_puts {r = N.Ok u} c _ _ _ _ _ a x _ y = (x.0, N.Puts-trans _ _ _ _ _ x.1 y.gives)
end_puts {r = Err e} c _ _ _ _ _ a x going y = N.inl (x.0, N.WritesPrefix-after _ _ _ _ _ e x.1 (y.gives going), y.failed)
