-- The tokens of a response, one after another.
use Rattle.tds_export.proofs as N
use N.{SinkView, Report, Stop, [], arith, response, true, ℕ, ◌++◌, ◌+◌, ◌-◌, ◌^◌, ◌∙◌, ◌≡◌, ◌≤◌, View}

-- whole tokens were read and their text put
pub record Runs (charset : N.Charset) (u v : View) (progress : N.Progress) : Type 0 where
  pub tokens : N.List N.Token
  pub streams : N.Streams (response charset u.area.room) N.text_so_far N.response_start u.seen v.seen u.held v.held (N.after_tokens tokens)
  pub place_is : v.place ≡ u.place + N.length streams.bytes
  pub tracks : N.Tracks progress tokens
  pub holds : N.IsHolding v.area (N.after_tokens tokens)
  pub noted : N.IsNoted v.notice tokens

abbrev pub runs_none : {charset : N.Charset} {u : View} {progress : N.Progress} → u.held.delivered ≤ 2 ^ 64 - 1 → N.Tracks progress []
    → u.area ≡ N.empty u.area.room → N.IsNoted u.notice [] → Runs charset u u progress
runs_none d tracks is noted = record {
  tokens = [];
  streams = grind (arith, N.Spelt-none, N.Takes-none, N.Puts-none);
  place_is = omega arith;
  tracks = tracks;
  holds = grind arith;
  noted = noted;
}

-- at the message's end nothing but the payload has changed
pub runs_ended : {R W : Type 0} {remaining : R → N.Option (N.List ℕ)} (contents : W → N.Option (N.List ℕ)) {old new : N.Exporter R W} {charset : N.Charset}
    {u : View} → Runs charset u (N.view_of remaining contents old) old.progress → N.FindsEnd remaining old new
    → Runs charset u (record (N.view_of remaining contents new) { seen = N.seen remaining old.payload.now }) new.progress
runs_ended = grind arith

module _ {charset : N.Charset} {u v : View} {s : N.Progress} (x : Runs charset u v s) where
  module _ {charset' : N.Charset} (e : charset' ≡ charset) (f : v.area.room ≡ u.area.room) where
    -- more tokens were read
    pub runs_on : {w : View} {t : N.Progress} → N.ReadsNext charset' (N.after_tokens x.tokens) x.tokens v w t → Runs charset u w t
    runs_on y =
        let z = rw (e, f) at y in
        record {
          tokens = x.tokens ++ z.0.more;
          streams = N.TokenSteps.streams_both x.streams z.0.streams;
          place_is = grind (arith, N.length-append);
          tracks = z.0.tracks;
          holds = z.0.holds;
          noted = z.1;
        }

    -- what stops a step stops the run
    pub stops_on : {d : N.PayloadView} {k : SinkView} {area : N.Space} {failed : N.Bool} {stop : Stop}
        → N.StepStops (response charset' v.area.room) (N.after_tokens x.tokens) v.seen d v.place v.held k area failed stop
        → N.StepStops (response charset u.area.room) N.response_start u.seen d u.place u.held k area failed stop
    stops_on y = N.TokenSteps.stops_further x.streams x.place_is (rw (e, f) at y)

  -- ---- the message's end

  module _ {c : N.PayloadView} (t : N.Takes v.seen c [] 1) (o : N.IsOver c) where
    -- the message ended after the last token, which wasn't final
    pub stops_end : {failed : N.Bool} → failed ≡ N.false → v.held.delivered ≤ 2 ^ 64 - 1 → s.is_final ≡ N.false
        → N.StepStops (response charset u.area.room) N.response_start u.seen c u.place u.held v.held v.area failed
        (record { fault = N.EndWithoutDone; place = N.Payload v.place })
    stops_end going d open_end =
        let stop : Stop = record { fault = N.EndWithoutDone; place = N.Payload v.place } in
        N.TokenSteps.stops_further x.streams x.place_is (N.TokenSteps.stops_quietly N.refl x.holds d going (N.cut_at_once _ _ v.seen c _ [] o.0 stop
        (omega arith)
        (grind (arith, N.Ends-after, N.Consumes-nil, N.Stays-none)) (grind arith)))

    abbrev pub reads_whole : s.is_final ≡ true → N.ReadsWhole (response charset u.area.room) N.response_start u.seen c u.held v.held v.area
    reads_whole final = record {
      tokens = x.tokens;
      bytes = x.streams.bytes;
      spelt = x.streams.spelt;
      takes = rw N.append-nil at (N.Takes-trans u.seen v.seen c x.streams.bytes [] (N.length x.streams.bytes) 1 (omega arith) x.streams.takes t);
      puts = x.streams.puts;
      over = o;
      final = grind arith;
      holds = x.holds;
    }

    abbrev pub completes : {l : SinkView} {report : Report} → s.is_final ≡ true → N.Finishes v.held l → report ≡ record s.report { written = l.delivered }
        → N.CompletesResponse (response charset u.area.room) N.response_start u.seen c u.held l report v.area
    completes {l} final f is = record {
      middle = v.held;
      whole = reads_whole final;
      finishes = f;
      report_is = is ∙ N.ap (λ (r : Report). record r { written = l.delivered }) x.tracks.report;
    }
