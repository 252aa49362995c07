use Rattle.tds_csv.proofs as N
use N.{[]}

pub returns : N.joiners.utf8.Utf8JoinerJoiner.end.Goals.returns
returns g c =
    N.Puttings.ends_whole (N.Puttings.passes c.args.sink.now.failed _ _ _ c.in_ok-check.ensures) (search N.rules) c.clear.ensures (λ h. ([], N.IsUtf8-nil))
    (N.ap N.doubled c.bytes-2.ensures.value) c.in_ok-put_text.ensures
