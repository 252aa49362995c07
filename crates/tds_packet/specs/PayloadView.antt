-- A payload as contracts see it, and what a call takes of it. What is still to come is a function of the input: a call says what it does whatever
-- follows the bytes that it read.
use Rattle.std.specs.Prelude.{◌≡◌, ◌⊎◌, ℕ, ◌+◌, ◌<◌, List, [], ◌++◌, length, take, Option}
use Rattle.std.specs.Io.KnownBytes.{Consumes, IsAtEnd}
use Rattle.tds_packet.specs.declared.fault.Fault.{Fault}
use Rattle.tds_packet.specs.declared.fault.Fault.TheVariants.{ReadFailed, InputEnded, MessageEnded}
use Rattle.tds_packet.specs.declared.fault.Place.{Place}
use Rattle.tds_packet.specs.declared.fault.Place.TheVariants.{Wire, Payload}
use Rattle.tds_packet.specs.declared.fault.Stop.{Stop}
use Rattle.tds_packet.specs.Filling.{IsAnswered, Rises, Stays}
use Rattle.tds_packet.specs.Coming.{Coming, before, whole_message}

-- what its reader still gives, if that is known; what comes of each such input; the wire bytes of the packets read; the reader's count of failures
pub record PayloadView : Type 0 where
  pub left : Option (List ℕ)
  pub future : List ℕ → Coming
  pub wire : ℕ
  pub failures : ℕ

-- a message from its first byte on
abbrev pub begun : ℕ → ℕ → Option (List ℕ) → ℕ → PayloadView
begun size limit left failures = record { left = left; future = whole_message size limit; wire = 0; failures = failures }

-- These bytes were read and gave those of the payload, whatever follows them.
abbrev pub Follows : PayloadView → PayloadView → List ℕ → List ℕ → Type 0
Follows old new read bytes = Consumes old.left new.left read × ((zs : List ℕ) → old.future (read ++ zs) ≡ before bytes (new.future zs))

-- No fewer of these bytes give n bytes of the payload.
abbrev pub Needs : PayloadView → List ℕ → ℕ → Type 0
Needs old read n = (j : ℕ) → j < length read → length (old.future (take j read)).bytes < n

-- Whole packets were read, no more than n bytes need, and these bytes were handed out; no read failed.
abbrev pub Takes : PayloadView → PayloadView → List ℕ → ℕ → Type 0
Takes old new bytes n = (read : List ℕ) × Follows old new read bytes × (new.wire ≡ old.wire + length read) × Needs old read n
    × Stays old.failures new.failures read

-- The message stops here once these bytes are handed out, whatever follows the bytes read.
abbrev pub StopsAfter : PayloadView → PayloadView → List ℕ → Stop → Type 0
StopsAfter old new bytes stop = (read : List ℕ) × Consumes old.left new.left read
    × ((zs : List ℕ) → old.future (read ++ zs) ≡ record { bytes = bytes; stop = stop; rest = zs })
    × Stays old.failures new.failures read

-- The input is over, and with it the message, once these bytes are handed out.
abbrev pub RunsOutAfter : PayloadView → PayloadView → List ℕ → Stop → Type 0
RunsOutAfter old new bytes stop = (read : List ℕ) × Consumes old.left new.left read × IsAtEnd new.left
    × (old.future read ≡ record { bytes = bytes; stop = stop; rest = [] })
    × IsAnswered old.failures new.failures

-- A read failed, which was counted. These bytes were handed out, and the stop is, as they would be if the input had ended after what was read.
abbrev pub FailsAfter : PayloadView → PayloadView → List ℕ → Stop → Type 0
FailsAfter old new bytes stop = (read : List ℕ) × Consumes old.left new.left read × (stop.fault ≡ ReadFailed)
    × (old.future read ≡ record { bytes = bytes; stop = record { fault = InputEnded; place = stop.place }; rest = [] })
    × Rises old.failures new.failures read

-- These bytes were handed out, and then the payload stopped.
abbrev pub Ends : PayloadView → PayloadView → List ℕ → Stop → Type 0
Ends old new bytes stop = StopsAfter old new bytes stop ⊎ (RunsOutAfter old new bytes stop ⊎ FailsAfter old new bytes stop)

-- No byte is left, and the message is whole.
abbrev pub IsOver : PayloadView → Type 0
IsOver seen = (stop : Stop) × (stop.fault ≡ MessageEnded) × ((zs : List ℕ) → seen.future zs ≡ record { bytes = []; stop = stop; rest = zs })

-- A byte is ready, with no further read.
abbrev pub IsNotOver : PayloadView → Type 0
IsNotOver seen = 0 < length (seen.future []).bytes

-- No packet is cut: without a further byte the message ends here, or its input does.
abbrev pub IsBetween : PayloadView → Type 0
IsBetween seen = ((seen.future []).rest ≡ [])
    × (((seen.future []).stop.fault ≡ MessageEnded) ⊎ ((seen.future []).stop ≡ record { fault = InputEnded; place = Wire seen.wire }))

-- where a call of many bytes stops: a message that ends in it stops it where it began
abbrev pub place_at : ℕ → Fault → Place → Place
place_at start MessageEnded place = Payload start
place_at start fault place = place

-- the stop of such a call, by that of the payload
abbrev pub began_at : ℕ → Stop → Stop
began_at start stop = record { fault = stop.fault; place = place_at start stop.fault stop.place }
