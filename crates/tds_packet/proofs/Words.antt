-- The words that the proofs of this crate share.
pub use Rattle.std.proofs.Math.ListN.{drop_of_length-le}
pub use Rattle.std.proofs.Math.Nat.{suc-mul}
pub use Rattle.std.proofs.Math.Seq.{take-append_seam, take-append-add, drop-append_seam}
pub use Rattle.std.proofs.lemmas.Bool.Decides.{nat_tests}
pub use Rattle.std.proofs.lemmas.Grind.{common_steps, flat_map-append}
pub use Rattle.std.proofs.lemmas.List.{take-append-drop, append_cancel_right, drop-drop, nil_from_length}
pub use Rattle.std.proofs.lemmas.List.Folds.{concat-append}
pub use Rattle.std.proofs.lemmas.Result.{err_from_is_err_and}
pub use Rattle.std.proofs.lemmas.Slice.{take-put_mid}
pub use Rattle.std.proofs.Common.{◌≡◌, length, arith, ◌+◌, ◌-◌, ◌≤◌, [], refl, take, ◌++◌, ◌∙◌, rules, ℕ, ◌<◌, List, ap, sym, false, drop, inl, inr}
pub use Rattle.std.proofs.Common.{length-append, None, append-nil, length-drop, true, ◌∷◌, append_assoc, Bool, suc, zero, Err, length-take-le, subst, ◌⊎◌, Ok}
pub use Rattle.std.proofs.Common.{add-zero, le_refl, length-take, MatchResult, Result, min, ◌%◌, ◌*◌, ◌/◌, ◌≢◌, IfSome, map, take-add, take_all, ◌^◌, drop-cons}
pub use Rattle.std.proofs.Common.{get_or}
pub use Rattle.std.proofs.KnownBytes.{Consumes-trans, Appends-trans, Appends-kept, Appends-nil, Consumes-kept}
pub use Rattle.std.specs.Io.KnownBytes.{Consumes, Appends, Keeps}
pub use Rattle.std.specs.List.{concat}
pub use Rattle.std.specs.Result.{IsErrAnd}
pub use Rattle.std.specs.Prelude.{Option, Some, ◌==◌, if◌then◌else◌, nat_lt, slice_index, IsTrue, is_some, nat_le, ⊤}
pub use Rattle.tds_meter.specs.Counts.{one_more}
pub use Rattle.tds_packet.specs.Devices.{device, Device}
pub use Rattle.tds_packet.specs.Filling.{Rises, Stays}
pub use Rattle.tds_packet.specs.Reading.{Reads, StopsReading, IsCutStop, RefusesNext}
pub use Rattle.tds_packet.specs.Reads.{ReadsPacket, Faulted, header_of}
pub use Rattle.tds_packet.specs.declared.answer.Recut.{Recut}
pub use Rattle.tds_packet.specs.declared.answer.RecutStop.{RecutStop}
pub use Rattle.tds_packet.specs.declared.counted.Counted.{Counted}
pub use Rattle.tds_packet.specs.declared.fault.Fault.{Fault}
pub use Rattle.tds_packet.specs.declared.fault.Fault.TheVariants.{MessageEnded, InputEnded, ReadFailed, BadPacketLength, ResponseTooLong, WrongPacketType}
pub use Rattle.tds_packet.specs.declared.fault.Fault.TheVariants.{WriteFailed}
pub use Rattle.tds_packet.specs.declared.fault.Place.TheVariants.{Payload, Wire}
pub use Rattle.tds_packet.specs.declared.fault.Stop.{Stop}
pub use Rattle.tds_packet.specs.declared.packet.Header.{Header}
pub use Rattle.tds_packet.specs.declared.payload.Payload.{Payload as PayloadOf}
pub use Rattle.tds_packet.specs.declared.recutting.Written.{Written}
pub use Rattle.tds_packet.specs.Coming.{Coming, WholePacket, before, NoPacket, after_packet, FrontPacket, whole_message, IsFrontMessage, packet_after_header}
pub use Rattle.tds_packet.specs.Coming.{stopped_at}
pub use Rattle.tds_packet.specs.Elements.{Spelt, AreBytes, Grammar, IsNext, Longest, IsRefused, Leads}
pub use Rattle.tds_packet.specs.Packets.{wire_add, packet_bytes, Packet, wire_of, AreBefore, AreMessage, IsPacket, WirePart, header_fault, header_length}
pub use Rattle.tds_packet.specs.Packets.{is_last, no_wire, wire, AfterLast, BeforeBody, BeforeHeader, WireFault, WirePlace, packet_length, packet_of}
pub use Rattle.tds_packet.specs.Packets.{payload_of, Front, IsNextPacket, Message, wire_end, wire_size, with_packet}
pub use Rattle.tds_packet.specs.Payloads.{seen, buffered, IsOnSame, IsSound, further, IsGoing, IsUsedUp, NeedsPacket, PassesOver}
pub use Rattle.tds_packet.specs.Recutting.{cut_packet, Cuts, Gathers, Flushes, Gains, StopsInput, StopsOutput, WritesPacket, before_last, packets_before}
pub use Rattle.tds_packet.specs.PayloadView.{Takes, Ends, PayloadView, IsBetween, IsOver, IsNotOver, began_at, begun, Needs}
pub use borrow.Rule.Slice.PartMut.{put_mid}
pub use lib.Seq.{take-append-le, drop-append-le, take-take}
pub use native.Mathlib.Decide.{dec_le}
unfoldable pub use Rattle.tds_packet.specs.{Coming.{front_packet, message, coming_of}, Recutting.first_packets}
