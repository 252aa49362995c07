-- Worked wires: the payload that each has to give, the bytes of its whole packets, and the fault that ends it.
use Rattle.tds_packet.proofs as N
use N.{◌≡◌, ℕ, ◌-◌, ◌/◌, ◌%◌, List, [], ◌∷◌, ◌++◌, take, refl, Stop}
use N.Words.{message, front_packet}

-- the payload of the worked wires
abbrev payload : List ℕ
payload = 129 ∷ 1 ∷ 0 ∷ 0 ∷ 0 ∷ 0 ∷ 0 ∷ 0 ∷ 0 ∷ 56 ∷ 1 ∷ 97 ∷ 0 ∷ 209 ∷ 42 ∷ 0 ∷ 0 ∷ 0 ∷ 253 ∷ 16 ∷ 0 ∷ 193 ∷ 0 ∷ 1 ∷ 0 ∷ 0 ∷ 0 ∷ 0 ∷ 0 ∷ 0 ∷ 0 ∷ []

-- it in one packet, whose Type may be another than 4
abbrev one_packet : ℕ → List ℕ
one_packet type = type ∷ 1 ∷ 0 ∷ 39 ∷ 0 ∷ 0 ∷ 1 ∷ 0 ∷ payload

-- bytes in packets of one byte, with these bytes between each two
abbrev small_packets : List ℕ → List ℕ → List ℕ
small_packets between [] = []
small_packets between (x ∷ []) = 4 ∷ 1 ∷ 0 ∷ 9 ∷ 0 ∷ 0 ∷ 0 ∷ 0 ∷ x ∷ []
small_packets between (x ∷ xs) = (4 ∷ 0 ∷ 0 ∷ 9 ∷ 0 ∷ 0 ∷ 0 ∷ 0 ∷ x ∷ between) ++ small_packets between xs

abbrev ended : List ℕ × Stop
ended = (payload, record { fault = N.MessageEnded; place = N.Payload 31 })

abbrev refused : List ℕ → ℕ → N.Fault → List ℕ × Stop
refused coming taken fault = (coming, record { fault = fault; place = N.Wire taken })

abbrev read : ℕ → ℕ → List ℕ → List ℕ × Stop
read size limit wire = let c = N.whole_message size limit wire in (c.bytes, c.stop)

abbrev within : ℕ
within = 1099511627776

worked :
    (read 4096 within (one_packet 4) ≡ ended)
    -- a byte after the last packet is left
    × (read 4096 within (one_packet 4 ++ 255 ∷ []) ≡ ended)
    × (read 4096 within (small_packets [] payload) ≡ ended)
    -- with an empty packet between each two
    × (read 4096 within (small_packets (4 ∷ 0 ∷ 0 ∷ 8 ∷ 0 ∷ 0 ∷ 0 ∷ 0 ∷ []) payload) ≡ ended)
    -- the last byte is missing
    × (read 4096 within (take 38 (one_packet 4)) ≡ refused [] 0 N.InputEnded)
    -- another Type, of the first packet and of the second
    × (read 4096 within (one_packet 3) ≡ refused [] 0 (N.WrongPacketType 3))
    × (read 4096 within (4 ∷ 0 ∷ 0 ∷ 9 ∷ 0 ∷ 0 ∷ 0 ∷ 0 ∷ 129 ∷ 3 ∷ 0 ∷ 0 ∷ 9 ∷ 0 ∷ 0 ∷ 0 ∷ 0 ∷ []) ≡ refused (129 ∷ []) 9 (N.WrongPacketType 3))
    -- a Length below 8, and one above the size
    × (read 4096 within (4 ∷ 1 ∷ 0 ∷ 7 ∷ 0 ∷ 0 ∷ 1 ∷ 0 ∷ []) ≡ refused [] 0 (N.BadPacketLength 7))
    × (read 512 within (4 ∷ 1 ∷ 2 ∷ 1 ∷ 0 ∷ 0 ∷ 1 ∷ 0 ∷ []) ≡ refused [] 0 (N.BadPacketLength 513))
    -- the limit is the length, and less
    × (read 4096 39 (one_packet 4) ≡ ended)
    × (read 4096 38 (one_packet 4) ≡ refused [] 0 N.ResponseTooLong)
unfolding message front_packet
worked = (refl, refl, refl, refl, refl, refl, refl, refl, refl, refl, refl)

-- a beginning of the small packets gives the payload of its whole ones
abbrev beginnings : List ℕ
beginnings = 0 ∷ 1 ∷ 8 ∷ 9 ∷ 10 ∷ 17 ∷ 18 ∷ 100 ∷ 269 ∷ 270 ∷ 278 ∷ []

begun : N.map (λ n. read 4096 within (take n (small_packets [] payload))) beginnings ≡ N.map (λ n. refused (take (n / 9) payload) (n - n % 9) N.InputEnded)
    beginnings
unfolding message front_packet
begun = refl
