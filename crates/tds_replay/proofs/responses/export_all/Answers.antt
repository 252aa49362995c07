use Rattle.tds_replay.proofs.Words as N

pub returns : Rattle.tds_replay.proofs.responses.export_all.Goals.returns
returns g c =
    let each = c.export_each-ran in
    record {
      reports = each.ensures.0;
      stop = each.ensures.1;
      middle = N.standing each.new.areas each.new.from each.new.to each.new.notes;
      runs = each.ensures.2;
      status_is = each.ensures.4;
      areas = N.refl;
      reader = N.refl;
      writer = N.refl;
      line = rw (← each.ensures.3) (search N.rules);
    }
