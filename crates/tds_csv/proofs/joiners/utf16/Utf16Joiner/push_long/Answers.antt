use Rattle.tds_csv.proofs as N
use Rattle.tds_text.proofs as T
use N.joiners.utf16.Utf16Joiner.push_long.Goals as goal
use N.PutParts.{puts_part, puts_whole}

pub returns-in_err-from : goal.returns-in_err-from
returns-in_err-from g c = N.Puttings.pushes_stopped c.requires.writing.writing tt N.refl
    (puts_part (T.Utf16Steps.Leads-after c.args.self.now.kept _) c.in_err-from.ensures.puts) c.from_residual.ensures.1

pub returns-in_err-at : goal.returns-in_err-at
returns-in_err-at g c =
    N.Puttings.pushes_stopped c.requires.writing.writing tt N.refl (puts_whole c.in_ok-from.ensures.leads c.in_ok-from.ensures.puts c.in_err-at.ensures.puts)
    c.from_residual-in_err-at.ensures.1

pub returns : goal.returns
returns g c =
    let put = puts_whole c.in_ok-from.ensures.leads c.in_ok-from.ensures.puts c.in_ok-at.ensures.puts in
    grind (N.arith, N.take_all, N.length-drop)
