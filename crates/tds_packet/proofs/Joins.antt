-- The parts of a packet's read, joined.
use Rattle.tds_packet.proofs as N
use N.{◌≡◌, ◌∙◌, ℕ, ◌+◌, ◌-◌, ◌^◌, ◌<◌, List, [], ◌++◌, length, Ok, Err, arith, if◌then◌else◌, Device, Stays, Fault, Header}
use N.Words.{front_packet}

pub Stays-none : (f : ℕ) → Stays f f []
Stays-none f = grind arith

pub Stays-trans : (f g h : ℕ) (r s : List ℕ) → Stays f g r → Stays g h s → Stays f h (r ++ s)
Stays-trans = grind (arith, N.common_steps)

-- bytes that a device took before a call that failed, and in it
pub Stays-Rises : {f g h : ℕ} (r s : List ℕ) → Stays f g r → N.Rises g h s → N.Rises f h (r ++ s)
Stays-Rises = grind (arith, N.common_steps, N.one_more)

-- an input of fewer than eight bytes
short_input : (size limit wire : ℕ) (xs : List ℕ) → length xs < 8 → front_packet size limit wire xs ≡ N.NoPacket N.InputEnded []
unfolding front_packet
short_input size limit wire xs h = grind arith

-- the header is the first eight bytes
after_header : (size limit wire : ℕ) (hdr ys : List ℕ) {o : N.Option Fault} → length hdr ≡ 8 → N.header_fault size limit wire hdr ≡ o
    → front_packet size limit wire (hdr ++ ys) ≡ N.packet_after_header hdr ys o
unfolding front_packet
after_header size limit wire hdr ys e f =
    let long : N.nat_lt (length hdr + length ys) 8 ≡ N.false = grind arith in
    rw (N.length-append, long, ← e, N.take-append_seam, N.drop-append_seam, e, f)

-- a body that is whole, and one that is cut
whole_at : {last : N.Bool} {len : ℕ} {bs ys : List ℕ} {n : ℕ} → n ≡ length bs
    → (if N.nat_lt (length (bs ++ ys)) n then N.NoPacket N.InputEnded [] else N.WholePacket (N.take n (bs ++ ys)) last len
    (N.drop n (bs ++ ys))) ≡ N.WholePacket bs last len ys
whole_at = grind (arith, N.length-append, N.take-append_seam, N.drop-append_seam)

module _ (size limit wire : ℕ) (hdr : List ℕ) (h : Header) (eight : length hdr ≡ 8) (good : N.header_of size limit wire hdr ≡ Ok h) where
  -- a packet whose header says so
  pub whole_packet : (bs ys : List ℕ) → length bs + 8 ≡ h.length → front_packet size limit wire (hdr ++ (bs ++ ys)) ≡ N.WholePacket bs h.last h.length ys
  whole_packet = grind (arith, after_header, whole_at)

  -- an input that ends in the body
  ended_body : (bs : List ℕ) → length bs + 8 < h.length → front_packet size limit wire (hdr ++ bs) ≡ N.NoPacket N.InputEnded []
  ended_body = grind (arith, after_header)

  -- no beginning of a packet is a packet
  cut : (body : List ℕ) (j : ℕ) → length body + 8 ≡ h.length → j < length (hdr ++ body)
      → front_packet size limit wire (N.take j (hdr ++ body)) ≡ N.NoPacket N.InputEnded []
  cut body j fits lt = elim (N.dec_le 8 j) [
    | yes many ↦ (let all : length hdr + (j - 8) ≡ j = omega arith in rw (← all, N.take-append-add) (grind (arith, ended_body, N.length-append, N.length-take)))
    | no few ↦ short_input _ _ _ _ (grind (arith, N.length-take))
  ]

module _ (size limit wire : ℕ) (old new : Device) (body : List ℕ) where
  module _ (e : Fault) (r : N.Result Header Fault) (is : N.IsErrAnd r (λ x. x ≡ e)) (hdr : List ℕ) (eight : length hdr ≡ 8) where
    pub fill_err : N.Faulted old new (length hdr) e → N.ReadsPacket size limit wire old new body r
    fill_err = grind (arith, short_input)

    pub header_err : N.Consumes old.bytes new.bytes hdr → Stays old.failures new.failures hdr → N.header_of size limit wire hdr ≡ Err e
        → N.ReadsPacket size limit wire old new body r
    header_err = grind (arith, after_header)

  -- a good header was read
  module _ (mid : Device) (h : Header) (hdr : List ℕ) (eight : length hdr ≡ 8) (read : N.Consumes old.bytes mid.bytes hdr)
      (stays : Stays old.failures mid.failures hdr) (good : N.header_of size limit wire hdr ≡ Ok h) (fits : length body + 8 ≡ h.length) where
    pub body_err : (e : Fault) (r : N.Result Header Fault) → N.IsErrAnd r (λ x. x ≡ e) → N.Faulted mid new (length body) e
        → N.ReadsPacket size limit wire old new body r
    body_err = grind (arith, N.Consumes-trans, ended_body size limit wire hdr h eight good)

    pub body_ok : N.Consumes mid.bytes new.bytes body → Stays mid.failures new.failures body → N.ReadsPacket size limit wire old new body (Ok h)
    body_ok = grind (arith, N.append_assoc, whole_packet, N.Consumes-trans, cut, N.length-append)
