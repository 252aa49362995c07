-- What a call that reads by a grammar does to a payload, on success and on each stop.
use Rattle.std.specs.Prelude.{◌≡◌, ◌⊎◌, ℕ, ◌+◌, ◌<◌, List, ◌++◌, length, Option, Some}
use Rattle.tds_packet.specs.declared.fault.Fault.{Fault}
use Rattle.tds_packet.specs.declared.fault.Fault.TheVariants.{MessageEnded}
use Rattle.tds_packet.specs.declared.fault.Place.TheVariants.{Payload}
use Rattle.tds_packet.specs.declared.fault.Stop.{Stop}
use Rattle.tds_packet.specs.Elements.{Grammar, Spelt}
use Rattle.tds_packet.specs.PayloadView.{PayloadView, Takes, Ends, IsBetween}

-- Whole elements were read, which lead from one state to another.
pub record Reads {S : Type 0} (g : Grammar S Fault) (from : S) (old new : PayloadView) (to : S) : Type 0 where
  pub bytes : List ℕ
  pub spelt : Spelt g from bytes to
  pub takes : Takes old new bytes (length bytes)

-- The next element was read whole, and this is its first fault. What comes after it in the packets read may have been handed out too; no packet was
-- read for that.
pub record RefusesNext {S : Type 0} (g : Grammar S Fault) (old new : PayloadView) (before : List ℕ) (at : S) (fault : Fault) : Type 0 where
  pub element : List ℕ
  pub ahead : List ℕ
  pub some : 0 < length element
  pub whole : length element ≡ g.size at
  pub first : g.fault at element ≡ Some fault
  pub takes : Takes old new ((before ++ element) ++ ahead) (length (before ++ element))
  pub between : IsBetween new

-- How a cut element stops a call: if the message has ended, at the element's first byte with the fault of the end; else as the payload does.
abbrev pub IsCutStop : ℕ → Option Fault → Stop → Stop → Type 0
IsCutStop place ended own stop =
    ((own.fault ≡ MessageEnded) × ((fault : Fault) × (ended ≡ Some fault) × (stop ≡ record { fault = fault; place = Payload place })))
    ⊎ ((own.fault ≡ MessageEnded → ⊥) × (stop ≡ own))

-- The payload stopped before the next element was whole.
pub record CutsNext {S : Type 0} (g : Grammar S Fault) (old new : PayloadView) (before : List ℕ) (place : ℕ) (at : S) (stop : Stop) : Type 0 where
  pub part : List ℕ
  pub cut : length part < g.size at
  pub own : Stop
  pub ends : Ends old new (before ++ part) own
  pub stop_is : IsCutStop (place + length before) (g.end_fault at) own stop

-- Whole elements were read, which lead to a state, and there the reading stopped. It began after this number of bytes of the payload.
pub record StopsReading {S : Type 0} (g : Grammar S Fault) (from : S) (old new : PayloadView) (place : ℕ) (at : S) (stop : Stop) : Type 0 where
  pub bytes : List ℕ
  pub spelt : Spelt g from bytes at
  pub cause : (RefusesNext g old new bytes at stop.fault × (stop.place ≡ Payload (place + length bytes))) ⊎ CutsNext g old new bytes place at stop
