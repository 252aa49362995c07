use Rattle.tds_text.proofs as N
use N.{[], ◌%◌, ◌*◌, ◌++◌, ◌/◌, ◌∙◌, ◌≡◌}

pub returns-clause-text : N.utf16.convert_few.Goals.returns-clause-text
returns-clause-text c =
    let bytes = c.args.bytes.now in
    let n = N.length bytes / 2 in
    let end = c.in-Some.ensures in
    let all : 2 * n ≡ N.length bytes = omega N.arith in
    let front : N.take (2 * n) c.args.lanes ++ [] ≡ bytes = rw all (N.append-nil _ ∙ c.requires.lanes.front) in
    let leads = rw front at (N.WideText.leads_front n _ [] (omega (N.arith, N.WideText.length-units c.args.lanes)) end.single) in
    end.written ∙ N.Utf16Steps.all_led leads c.requires.whole N.refl
