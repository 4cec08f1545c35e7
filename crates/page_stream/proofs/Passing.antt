-- Packets that are passed on.
use Rattle.std.proofs.Common.{◌≡◌, ◌⊎◌, inl, inr, ℕ, ◌+◌, ◌-◌, ◌≤◌, false, true, List, [], ◌∷◌, ◌++◌, length, take, drop, refl, sym, ap, ◌∙◌, append_assoc, length-append, take-append-drop, arith}
use Rattle.std.specs.List.{flat_map, AllByRecursion}
use Rattle.std.specs.Io.KnownBytes.{Appends}
use Rattle.std.proofs.lemmas.List.{append-nil, take_rest}
use Rattle.migration_types.specs.Extents.{Extent, IsExtent}
use Rattle.page_stream.specs.Bytes.{packet_bytes, Fits, IsShort}
use Rattle.page_stream.specs.Streams.{StandsFor, HasFault, Flow, Takes, Refuses}
use Rattle.page_stream.specs.Pumps.{Known}
use Rattle.page_stream.specs.inner.Passing.{StopsAt}
use Rattle.page_stream.specs.declared.Packet.{Packet}
use Rattle.page_stream.specs.declared.stream.StreamFaultKind.{StreamFaultKind}
use Rattle.page_stream.specs.declared.stream.StreamFaultKind.TheVariants as kinds
use Rattle.page_stream.specs.declared.pumping.PumpFault.TheVariants as faults
use Rattle.page_stream.proofs.Readings.{fits_short}

pub moves_front : (all done rest : List ℕ) (n : ℕ) → all ≡ done ++ rest → all ≡ (done ++ take n rest) ++ take (length rest - n) (drop n rest)
moves_front all done rest n e =
    e ∙ ap (λ l. done ++ l) (sym (take-append-drop n rest)) ∙ sym (append_assoc done (take n rest) (drop n rest)) ∙ ap (λ l. (done ++ take n rest) ++ l) (sym (take_rest rest n))

pub all_short : (e : Extent) (ps : List Packet) → IsExtent e → AllByRecursion (Fits e) ps → AllByRecursion IsShort ps
all_short e [] x h = tt
all_short e (p ∷ ps) x h = (fits_short e p x h.0, all_short e ps x h.1)

packets_few : (ps : List Packet) → length ps ≤ length (flat_map packet_bytes ps)
packets_few [] = omega arith
packets_few (p ∷ ps) = omega (arith, packets_few ps, length-append (packet_bytes p) (flat_map packet_bytes ps))

pub takes_few : (start end : Flow) (piece : List ℕ) (ps : List Packet) → Takes start end piece ps → length ps + length end.rest ≤ length start.rest + length piece
takes_few start end piece ps t =
    omega (arith, packets_few ps, ap length t.stands.whole, length-append start.rest piece, length-append (flat_map packet_bytes ps) end.rest)

-- ---- a fault of the stream

-- what a refused piece leaves
pub record Leaves (e : Extent) (bytes : List ℕ) (before : List Packet) (kind : StreamFaultKind) : Type 0 where
  pub rest : List ℕ
  pub stands : StandsFor e bytes before rest
  pub why : (kind ≡ kinds.Memory) ⊎ HasFault e rest kind

pub leaves : (start end : Flow) (piece : List ℕ) (before : List Packet) (kind : StreamFaultKind) → start.is_broken ≡ false → Refuses start end piece before kind → Leaves start.geometry (start.rest ++ piece) before kind
leaves start end piece before kinds.Length going h = record { rest = end.rest; stands = h.1.stands; why = inr h.2 }
leaves start end piece before kinds.Kind going h = record { rest = end.rest; stands = h.1.stands; why = inr h.2 }
leaves start end piece before kinds.Fields going h = record { rest = end.rest; stands = h.1.stands; why = inr h.2 }
leaves start end piece before kinds.Memory going h =
    let none : before ≡ [] = h.2 in
    record { rest = start.rest ++ piece; stands = rw none (record { whole = refl; each = tt }); why = inl refl }
leaves start end piece before kinds.Broken going h = absurd (let t : true ≡ false = sym h.0 ∙ going in cc)

-- ---- where a pump stops

pub stops_memory : (e : Extent) (writer : Known) (bytes : List ℕ) (ps : List Packet) (reason : StreamFaultKind) → Leaves e bytes ps reason → Appends writer.before writer.after (flat_map packet_bytes ps) → StopsAt e writer bytes faults.Memory
stops_memory e writer bytes ps reason l a = record { packets = ps; rest = l.rest; written = flat_map packet_bytes ps; unwritten = []; stands = l.stands; appended = a; front = sym (append-nil (flat_map packet_bytes ps)); is_fault = tt }

pub stops_stream : (e : Extent) (writer : Known) (bytes : List ℕ) (ps : List Packet) (reason : StreamFaultKind) → (reason ≡ kinds.Memory → ⊥) → Leaves e bytes ps reason → Appends writer.before writer.after (flat_map packet_bytes ps) → StopsAt e writer bytes faults.Stream
stops_stream e writer bytes ps reason not l a = record { packets = ps; rest = l.rest; written = flat_map packet_bytes ps; unwritten = []; stands = l.stands; appended = a; front = sym (append-nil (flat_map packet_bytes ps)); is_fault = ((reason, fault_of e l.rest reason not l.why), refl) }
  where
    fault_of : (e : Extent) (rest : List ℕ) (reason : StreamFaultKind) → (reason ≡ kinds.Memory → ⊥) → (reason ≡ kinds.Memory) ⊎ HasFault e rest reason → HasFault e rest reason
    fault_of e rest reason not (inl m) = absurd (not m)
    fault_of e rest reason not (inr h) = h
