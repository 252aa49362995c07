-- A reading byte by byte, which worked rows are computed by.
use Rattle.tds_packet.proofs as N
use N.{◌==◌, ℕ, true, false, List, [], ◌∷◌, ◌++◌, Grammar}

-- How far a reading has come, byte by byte.
pub data Progress (S F : Type 0) : Type 0 where
  -- what has been read, and the bytes after it: the beginning of the next element
  Reading : S → List ℕ → Progress S F
  -- what has been read, and the bytes after it: they begin with an element that has this fault
  Refused : S → List ℕ → F → Progress S F

-- the element is judged
abbrev pub judged : {S F : Type 0} → Grammar S F → S → List ℕ → N.Option F → Progress S F
judged g s element N.None = Reading (g.add s element) []
judged g s element (N.Some fault) = Refused s element fault

-- an element is judged as soon as it is whole
abbrev pub come : {S F : Type 0} → Grammar S F → S → List ℕ → N.Bool → Progress S F
come g s begun true = judged g s begun (g.fault s begun)
come g s begun false = Reading s begun

-- one more byte
abbrev pub feed : {S F : Type 0} → Grammar S F → Progress S F → ℕ → Progress S F
feed g (Reading s begun) byte = come g s (begun ++ byte ∷ []) (N.length (begun ++ byte ∷ []) == g.size s)
feed g (Refused s rest fault) byte = Refused s (rest ++ byte ∷ []) fault

-- all these bytes, one by one
abbrev pub feed_all : {S F : Type 0} → Grammar S F → Progress S F → List ℕ → Progress S F
feed_all g p [] = p
feed_all g p (byte ∷ bytes) = feed_all g (feed g p byte) bytes

-- how far the payload is read
abbrev pub read : {S F : Type 0} → Grammar S F → S → List ℕ → Progress S F
read g from payload = feed_all g (Reading from []) payload

-- what has been read
abbrev pub state_of : {S F : Type 0} → Progress S F → S
state_of (Reading s rest) = s
state_of (Refused s rest fault) = s

-- the bytes after it
abbrev pub rest_of : {S F : Type 0} → Progress S F → List ℕ
rest_of (Reading s rest) = rest
rest_of (Refused s rest fault) = rest

-- the fault, where the message has ended
abbrev pub fault_of : {S F : Type 0} → Grammar S F → Progress S F → N.Option F
fault_of g (Reading s rest) = g.end_fault s
fault_of g (Refused s rest fault) = N.Some fault
