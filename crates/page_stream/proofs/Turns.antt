-- A pump's turns.
use Rattle.std.proofs.Common.{◌≡◌, inl, inr, ℕ, ◌+◌, ◌≤◌, Option, List, [], ◌∷◌, ◌++◌, length, take, refl, sym, ap, ◌∙◌, append_assoc, length-append, arith}
use Rattle.std.specs.List.{flat_map, concat, AllByRecursion}
use Rattle.std.specs.Io.KnownBytes.{Appends, Consumes, Keeps}
use Rattle.std.proofs.KnownBytes.{Appends-nil, Appends-trans, Consumes-nil, Consumes-trans, Consumes-kept}
use Rattle.std.proofs.lemmas.List.{append-nil, take-append-le, take-take}
use Rattle.std.proofs.lemmas.List.Concat.{flat_map-append}
use Rattle.migration_types.specs.Extents.{Extent}
use Rattle.page_stream.specs.Bytes.{packet_bytes}
use Rattle.page_stream.specs.Streams.{StandsFor, IsPartial, Flow}
use Rattle.page_stream.specs.Pumps.{Known, AreReads, PumpsUntil, IsPumpFault}
use Rattle.page_stream.specs.inner.Passing.{PassesOn, StopsAt, IsPieceFault, IsOfReading}
use Rattle.page_stream.specs.declared.Packet.{Packet}
use Rattle.page_stream.specs.declared.pumping.PumpFault.{PumpFault}
use Rattle.page_stream.specs.declared.pumping.PumpFault.TheVariants.{Read, Write, Stream, Turns, Memory, Cut}
use Rattle.page_stream.proofs.Readings.{stands_joined}

-- what was read stands at the front of the buffer
pub read_piece : (room n : ℕ) (buffer more shown : List ℕ) → shown ≡ take room (buffer ++ more) → n ≤ length buffer → n ≤ room → take n shown ≡ take n buffer
read_piece room n buffer more shown e fits within = ap (take n) e ∙ take-take n room (buffer ++ more) within ∙ take-append-le n buffer more fits

-- what was read and written in so many turns, with no fault
pub record SoFar (e : Extent) (reader writer : Known) (rest : List ℕ) (count turn : ℕ) : Type 0 where
  pub packets : List Packet
  pub bytes : List ℕ
  pub read : Consumes reader.before reader.after bytes
  pub stands : StandsFor e bytes packets rest
  pub partial : IsPartial e rest
  pub appended : Appends writer.before writer.after (flat_map packet_bytes packets)
  pub reads : AreReads turn bytes
  pub count_is : length packets ≡ count

abbrev pub known : Option (List ℕ) → Option (List ℕ) → Known
known before after = record { before = before; after = after }

pub so_far_begins : (e : Extent) (r w : Option (List ℕ)) → SoFar e (known r r) (known w w) [] 0 0
so_far_begins e r w = record {
  packets = [];
  bytes = [];
  read = Consumes-nil r;
  stands = record { whole = refl; each = tt };
  partial = record { long = λ h. absurd (omega (arith, h)); kind = λ h. absurd (omega (arith, h)) };
  appended = Appends-nil w;
  reads = record { pieces = []; whole = refl; some = tt; count_is = refl };
  count_is = refl;
}

concat_more : (pieces : List (List ℕ)) (piece : List ℕ) → concat (pieces ++ piece ∷ []) ≡ concat pieces ++ piece
concat_more [] piece = append-nil piece
concat_more (p ∷ ps) piece = ap (λ t. p ++ t) (concat_more ps piece) ∙ sym (append_assoc p (concat ps) piece)

some_more : (pieces : List (List ℕ)) (piece : List ℕ) → AllByRecursion (λ p. 1 ≤ length p) pieces → 1 ≤ length piece → AllByRecursion (λ p. 1 ≤ length p) (pieces ++ piece ∷ [])
some_more [] piece h l = (l, tt)
some_more (p ∷ ps) piece h l = (h.0, some_more ps piece h.1 l)

reads_more : (turn : ℕ) (bytes piece : List ℕ) → AreReads turn bytes → 1 ≤ length piece → AreReads (turn + 1) (bytes ++ piece)
reads_more turn bytes piece r l = record {
  pieces = r.pieces ++ piece ∷ [];
  whole = concat_more r.pieces piece ∙ ap (λ t. t ++ piece) r.whole;
  some = some_more r.pieces piece r.some l;
  count_is = omega (arith, length-append r.pieces (piece ∷ []), r.count_is);
}

pub so_far_goes : (e : Extent) (r q s w v u : Option (List ℕ)) (start end : Flow) (piece : List ℕ) (count turn n : ℕ) → SoFar e (known r q) (known w v) start.rest count turn → Consumes q s piece → 1 ≤ length piece → start.geometry ≡ e → PassesOn (known v u) start end piece n → SoFar e (known r s) (known w u) end.rest (count + n) (turn + 1)
so_far_goes e r q s w v u start end piece count turn n h read some geometry p = record {
  packets = h.packets ++ p.packets;
  bytes = h.bytes ++ piece;
  read = Consumes-trans r q s h.bytes piece h.read read;
  stands = stands_joined e h.bytes piece h.packets p.packets start.rest end.rest h.stands (rw geometry at p.takes.stands);
  partial = rw geometry at p.partial;
  appended = rw (flat_map-append packet_bytes h.packets p.packets) (Appends-trans w v u (flat_map packet_bytes h.packets) (flat_map packet_bytes p.packets) h.appended p.appended);
  reads = reads_more turn h.bytes piece h.reads some;
  count_is = omega (arith, length-append h.packets p.packets, h.count_is, p.count_is);
}

piece_fault : (e : Extent) (turns : ℕ) (left : Option (List ℕ)) (bytes rest unwritten : List ℕ) (fault : PumpFault) → IsPieceFault e rest unwritten fault → IsPumpFault e turns left bytes rest unwritten fault
piece_fault e turns left bytes rest unwritten Read h = absurd h
piece_fault e turns left bytes rest unwritten Write h = tt
piece_fault e turns left bytes rest unwritten Stream h = h
piece_fault e turns left bytes rest unwritten Turns h = absurd h
piece_fault e turns left bytes rest unwritten Memory h = tt
piece_fault e turns left bytes rest unwritten Cut h = absurd h

-- a pump stops with a piece
pub so_far_stops : (e : Extent) (r q s w v u : Option (List ℕ)) (rest piece : List ℕ) (count turn turns : ℕ) (fault : PumpFault) → SoFar e (known r q) (known w v) rest count turn → Consumes q s piece → StopsAt e (known v u) (rest ++ piece) fault → PumpsUntil e (known r s) (known w u) turns fault
so_far_stops e r q s w v u rest piece count turn turns fault h read p = record {
  packets = h.packets ++ p.packets;
  rest = p.rest;
  written = flat_map packet_bytes h.packets ++ p.written;
  unwritten = p.unwritten;
  moves = record {
    bytes = h.bytes ++ piece;
    read = Consumes-trans r q s h.bytes piece h.read read;
    stands = stands_joined e h.bytes piece h.packets p.packets rest p.rest h.stands p.stands;
    appended = Appends-trans w v u (flat_map packet_bytes h.packets) p.written h.appended p.appended;
    front = flat_map-append packet_bytes h.packets p.packets ∙ ap (λ t. flat_map packet_bytes h.packets ++ t) p.front ∙ sym (append_assoc (flat_map packet_bytes h.packets) p.written p.unwritten);
  };
  is_fault = piece_fault e turns s (h.bytes ++ piece) p.rest p.unwritten fault p.is_fault;
}

-- a pump stops between two pieces
so_far_until : (e : Extent) (r s w v : Option (List ℕ)) (rest : List ℕ) (count turn turns : ℕ) (fault : PumpFault) (h : SoFar e (known r s) (known w v) rest count turn) → IsPumpFault e turns s h.bytes rest [] fault → PumpsUntil e (known r s) (known w v) turns fault
so_far_until e r s w v rest count turn turns fault h f = record {
  packets = h.packets;
  rest = rest;
  written = flat_map packet_bytes h.packets;
  unwritten = [];
  moves = record { bytes = h.bytes; read = h.read; stands = h.stands; appended = h.appended; front = sym (append-nil (flat_map packet_bytes h.packets)) };
  is_fault = f;
}

pub until_memory : (e : Extent) (r w : Option (List ℕ)) (turns : ℕ) → PumpsUntil e (known r r) (known w w) turns Memory
until_memory e r w turns = so_far_until e r r w w [] 0 0 turns Memory (so_far_begins e r w) tt

pub until_turns : (e : Extent) (r s w v : Option (List ℕ)) (rest : List ℕ) (count turn turns : ℕ) → SoFar e (known r s) (known w v) rest count turn → turn ≡ turns → PumpsUntil e (known r s) (known w v) turns Turns
until_turns e r s w v rest count turn turns h same = so_far_until e r s w v rest count turn turns Turns h (rw same at h.reads, refl)

pub until_read : (e : Extent) (r q s w v : Option (List ℕ)) (rest : List ℕ) (count turn turns : ℕ) (fault : PumpFault) → SoFar e (known r q) (known w v) rest count turn → Keeps q s → IsOfReading fault → PumpsUntil e (known r s) (known w v) turns fault
until_read e r q s w v rest count turn turns fault h keeps f = go f
  where
    still : SoFar e (known r s) (known w v) rest count turn
    still = record { packets = h.packets; bytes = h.bytes; read = Consumes-kept r q s h.bytes h.read keeps; stands = h.stands; partial = h.partial; appended = h.appended; reads = h.reads; count_is = h.count_is }

    go : IsOfReading fault → PumpsUntil e (known r s) (known w v) turns fault
    go (inl is) = rw is (so_far_until e r s w v rest count turn turns Read still refl)
    go (inr is) = rw is (so_far_until e r s w v rest count turn turns Memory still tt)
