use Rattle.tds_csv.proofs as N
use N.{[]}
use Rattle.tds_text.proofs as T

pub returns-then-room-lt-MUCH_ROOM-clause-puts : N.joiners.utf16.put_plain.Goals.returns-then-room-lt-MUCH_ROOM-clause-puts
returns-then-room-lt-MUCH_ROOM-clause-puts g c = ([], N.Puttings.PutsPiece-none _ _ tt c.requires, T.JoiningLemmas.Leads-none)
