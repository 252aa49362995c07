use Rattle.tds_export.proofs as N
use N.run.export.Goals as goal
use N.{ap, arith, refl, ◌≡◌}
use N.run.export.Given.{Over}

-- ---- the answer is a report

abbrev reported : (g : Over) → goal.In-Ok g → N.ExportInput
reported g c = let at = N.moment g.R.Read.remaining g.W.Write.contents in record {
  charset = c.args.charset;
  before = at c.args.areas.now c.args.from.now c.args.to.now;
  after = at (record c.restart.new.self {
    packet = c.read_response.new.payload.packet.now;
    output = c.read_response.new.sink.output.now;
    description = c.read_response.new.description;
    token = c.read_response.new.token;
    notice = c.read_response.new.notice;
    small = c.read_response.new.small;
  }) c.read_response.new.payload.from.now c.read_response.new.sink.to.now;
}

all_read : (g : Over) (c : goal.In-Ok g) → N.Reports (reported g c) c.in-Ok.report
all_read g c =
    let emptied = N.Endings.rooms _ _ c.requires c.restart.ensures.emptied in
    let limit : c.max_wire-max_wire.result ≡ c.args.areas.now.limits.max_wire = search N.rules in
    let gives = rw (c.new-payload.ensures.begun.begins, emptied.0, limit, c.new-sink.ensures.held, emptied.1) at c.in-Ok.ensures.gives in
    record {
      seen = _;
      held = _;
      reader = record { left = refl; failures = refl };
      writer = record { has = refl; waiting = refl; failures = refl };
      completes = gives.0;
      notice = gives.1;
    }

pub returns-in-Ok-clause-exports : goal.returns-in-Ok-clause-exports
returns-in-Ok-clause-exports g c =
    record { gives = grind (arith, all_read g c); tells = grind (arith, N.ToldAnswers.report_tells (all_read g c)); failed_reads = tt; failed_writes = tt }

pub returns-in-Ok-clause-no_failure : goal.returns-in-Ok-clause-no_failure
returns-in-Ok-clause-no_failure g c = let none = N.DeviceFaults.no_failure _ _ (all_read g c) in (grind (arith, none), grind (arith, none))

-- ---- the answer is a stop

abbrev stopped : (g : Over) → goal.After-to-in-Err-1 g → N.ExportInput
stopped g c = let at = N.moment g.R.Read.remaining g.W.Write.contents in record {
  charset = c.args.charset;
  before = at c.args.areas.now c.args.from.now c.args.to.now;
  after = at (record c.restart.new.self {
    packet = c.read_response.new.payload.packet.now;
    output = c.stop_at.new.sink.output.now;
    description = c.read_response.new.description;
    token = c.read_response.new.token;
    notice = c.clear.new.self;
    small = c.read_response.new.small;
  }) c.read_response.new.payload.from.now c.stop_at.new.sink.to.now;
}

read_so_far : (g : Over) (c : goal.After-to-in-Err-1 g) → N.StopsExport (stopped g c) c.stop_at.result
read_so_far g c =
    let emptied = N.Endings.rooms _ _ c.requires c.restart.ensures.emptied in
    let limit : c.max_wire-max_wire.result ≡ c.args.areas.now.limits.max_wire = search N.rules in
    let begins = c.new-payload.ensures.begun in
    record {
      seen = _;
      middle = _;
      held = _;
      failed = _;
      stop = _;
      reader = record { left = refl; failures = refl };
      writer = record { has = refl; waiting = refl; failures = refl };
      stops = rw (begins.begins, emptied.0, limit, c.new-sink.ensures.held, emptied.1, begins.place) at c.in-Err.ensures.gives;
      tidied = c.stop_at.ensures.tidied;
      same = λ failed. cc (c.stop_at.ensures.failed failed);
      stopped_is = c.stop_at.ensures.stop;
      notice = ap (λ (s : N.Space). s.bytes) c.clear.ensures.value;
    }

pub returns-in-Err-clause-exports : goal.returns-in-Err-clause-exports
returns-in-Err-clause-exports g c =
    let blame = N.DeviceFaults.blamed (read_so_far g c) in
    record {
      gives = grind (arith, read_so_far g c);
      tells = grind (arith, N.ToldAnswers.stop_tells (read_so_far g c));
      failed_reads = λ e. grind (arith, blame.0 e);
      failed_writes = λ e. grind (arith, blame.1 e);
    }
