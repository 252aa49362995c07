use Rattle.tds_csv.proofs as N
use N.joiners.utf8.Utf8Joiner.take_text.Goals as goal
use N.{[], ◌-◌, ◌∙◌, ◌≡◌}
use Rattle.tds_text.specs.Utf8.{Begins, rest, text}

pub returns-then-scan-bytes : goal.returns-then-scan-bytes
returns-then-scan-bytes g c =
    let seen = N.held g.W.Write.contents in
    let taken : N.TakesUpTo Begins rest text [] c.set.new.self (seen c.args.sink.now) (seen c.put_whole.new.sink) c.args.bytes.now
    c.in_ok-scan.scan.good = search N.rules in
    N.Puttings.pushes_up_to c.requires.writing.writing (N.Utf8Pushing.rest_begins _ taken.good.withheld taken.good.begun) taken c.in_ok-scan.ensures.puts

pub returns : goal.returns
returns g c =
    let bytes = c.args.bytes.now in
    let scan = c.in_ok-scan.scan in
    let scanned = c.in_ok-scan.ensures.scanned in
    let all : scan.good ≡ N.length bytes = omega N.arith in
    let tail : N.take (scan.good - scan.whole) (N.drop scan.whole bytes) ≡ rest bytes =
    N.take_all _ (N.drop scan.whole bytes) (omega (N.arith, N.length-drop scan.whole bytes)) ∙ scanned.rest in
    let withheld : c.set.new.self ≡ rest bytes = search N.rules in
    N.Puttings.pushes_taken c.requires.writing.writing (scanned.begins all) (N.Utf8Pushing.rest_begins bytes withheld (scanned.begins all)) N.refl withheld
    c.in_ok-scan.ensures.puts
