-- What a stream answers to the bytes of one packet.
use Rattle.std.proofs.Common.{◌≡◌, ◌≢◌, inl, inr, eq-eqb, ℕ, Bool, true, false, List, [], ◌∷◌, ◌++◌, length, refl, sym, ap, ◌∙◌, arith}
use Rattle.std.specs.Prelude.{MatchBool}
use Rattle.std.specs.Bool.{Decides}
use Rattle.std.specs.Cmp.Lexicographic.{pointwise}
use Rattle.std.proofs.lemmas.List.{append-nil}
use Rattle.std.proofs.lemmas.Bool.{eqb-true}
use Rattle.std.proofs.lemmas.Slice.Eq.{slice_eq-Decides}
use Rattle.migration_types.specs.Extents.{Extent, IsExtent}
use Rattle.migration_types.specs.contracts.pages.PageNoPartialEq.TheImpl.{eq-value}
use Rattle.fault_queue.proofs.Same.{same_page}
use Rattle.page_stream.specs.declared.Packet.{Packet}
use Rattle.page_stream.specs.declared.Packet.TheVariants.{State as StatePacket}
use Rattle.page_stream.specs.declared.stream.StreamFaultKind.{StreamFaultKind}
use Rattle.page_stream.specs.declared.stream.StreamFaultKind.TheVariants.{Length, Kind, Fields, Memory, Broken}
use Rattle.page_stream.specs.Bytes.{packet_bytes, Fits}
use Rattle.page_stream.specs.Streams.{StandsFor, IsReading, IsPartial, HasFault, Flow, Takes, Refuses}

-- that bytes have one reading
abbrev pub OneReading : Type 0
OneReading = (e : Extent) (bytes : List ℕ) (packets others : List Packet) (rest other : List ℕ) → IsExtent e → IsReading e bytes packets rest → IsReading e bytes others other → (packets ≡ others) × (rest ≡ other)

nothing_partial : (e : Extent) → IsPartial e []
nothing_partial e = record { long = λ h. absurd (omega (arith, h)); kind = λ h. absurd (omega (arith, h)) }

-- the bytes of a packet of the machine's are read as that packet
reading : (e : Extent) (bytes : List ℕ) (p : Packet) → Fits e p → bytes ≡ packet_bytes p → IsReading e bytes (p ∷ []) []
reading e bytes p fits is = record {
  stands = record { whole = is ∙ sym (append-nil (packet_bytes p)) ∙ sym (append-nil (packet_bytes p ++ [])); each = (fits, tt) };
  end = inl (nothing_partial e);
}

pub reads_one : OneReading → (start end : Flow) (came : List ℕ) (packets : List Packet) (p : Packet) → start.rest ≡ [] → IsExtent start.geometry → Fits start.geometry p → Takes start end came packets → IsPartial start.geometry end.rest → came ≡ packet_bytes p → packets ≡ p ∷ []
reads_one law start end came packets p none extent fits takes partial is =
    let stands : StandsFor start.geometry came packets end.rest = rw none at takes.stands in
    (law start.geometry came packets (p ∷ []) end.rest [] extent (record { stands = stands; end = inl partial }) (reading start.geometry came p fits is)).0

-- no fault but want of memory comes with them
pub faults_none : OneReading → (start end : Flow) (came : List ℕ) (before : List Packet) (kind : StreamFaultKind) (p : Packet) → start.rest ≡ [] → start.is_broken ≡ false → IsExtent start.geometry → Fits start.geometry p → Refuses start end came before kind → kind ≢ Memory → came ≢ packet_bytes p
faults_none law start end came before kind p none going extent fits refuses other is = go kind refuses other
  where
    shows : (kind : StreamFaultKind) → Takes start end came before → HasFault start.geometry end.rest kind → end.rest ≡ []
    shows kind takes fault =
        let stands : StandsFor start.geometry came before end.rest = rw none at takes.stands in
        (law start.geometry came before (p ∷ []) end.rest [] extent (record { stands = stands; end = inr (kind, fault) }) (reading start.geometry came p fits is)).1

    go : (kind : StreamFaultKind) → Refuses start end came before kind → kind ≢ Memory → ⊥
    go Length r o = let e = shows Length r.1 r.2 in omega (arith, ap length e, r.2.0)
    go Kind r o = let e = shows Kind r.1 r.2 in omega (arith, ap length e, r.2.0)
    go Fields r o = let e = shows Fields r.1 r.2 in omega (arith, ap length e, r.2.0)
    go Memory r o = o refl
    go Broken r o = let t : true ≡ false = sym r.0 ∙ going in cc

-- ---- lists of pages

decides_page : (a b : ℕ) → Decides (eq-value.it a b) (a ≡ b)
decides_page a b = (λ e. eqb-true a b (sym (same_page a b) ∙ e), λ e. same_page a b ∙ eq-eqb a b e)

-- two states with the same number are the same where their pages are
pub same_states : (one other : Packet) (n m : ℕ) (xs ys : List ℕ) (t : Bool) → one ≡ StatePacket n xs → other ≡ StatePacket m ys → n ≡ m → t ≡ pointwise eq-value.it xs ys → MatchBool t (one ≡ other) (one ≢ other)
same_states one other n m xs ys t a b numbers eq = go t (slice_eq-Decides decides_page xs ys t eq)
  where
    pages_of : StatePacket n xs ≡ StatePacket m ys → xs ≡ ys
    pages_of e = cc

    go : (t : Bool) → Decides t (xs ≡ ys) → MatchBool t (one ≡ other) (one ≢ other)
    go true d = let pages : xs ≡ ys = d.0 refl in cc
    go false d = λ same. let pages : xs ≡ ys = pages_of (sym a ∙ same ∙ b) in let wrong : false ≡ true = d.1 pages in cc
