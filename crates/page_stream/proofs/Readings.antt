-- The reading of bytes is one only.
use Rattle.std.proofs.Common.{◌≡◌, inl, inr, ℕ, ◌+◌, ◌*◌, ◌^◌, ◌<◌, ◌≤◌, List, [], ◌∷◌, ◌++◌, length, take, drop, refl, sym, ap, ◌∙◌, append_assoc, length-append, arith}
use Rattle.std.specs.List.{flat_map, concat, AllByRecursion}
use Rattle.std.proofs.lemmas.List.{append-nil}
use Rattle.std.specs.Int.{w64, from_be_bytes}
use Rattle.std.proofs.Math.Seq.{take-append_seam, drop-append_seam}
use Rattle.std.proofs.lemmas.Nat.{from_be_bytes-to_be_bytes_4, from_be_bytes-to_be_bytes_8}
use Rattle.migration_types.specs.Contents.{IsContent}
use Rattle.migration_types.specs.declared.size.Size.{Size}
use Rattle.migration_types.specs.declared.size.Size.TheVariants.{Small, Large}
use Rattle.migration_types.specs.Extents.{Extent, IsExtent}
use Rattle.migration_types.specs.Limits.{limits, limits_at_most, most_cells, most_pages}
use Rattle.page_stream.specs.Packets.{number_of}
use Rattle.page_stream.specs.Bytes.{number_bytes, cell_bytes, kind_of, fields_of, body_of, packet_bytes, Rises, Fits, IsShort}
use Rattle.page_stream.specs.Streams.{StandsFor, IsReading, IsRest, IsPartial, HasFault, Flow, TakesAll, IsLength, said_length}
use Rattle.page_stream.specs.declared.Packet.{Packet}
use Rattle.page_stream.specs.declared.Packet.TheVariants.{State as StatePacket, Page as PagePacket, Want as WantPacket, All as AllPacket}
use Rattle.page_stream.specs.declared.stream.StreamFaultKind.{StreamFaultKind}
use Rattle.page_stream.specs.declared.stream.StreamFaultKind.TheVariants.{Length, Kind, Fields, Memory, Broken}
use Rattle.page_stream.proofs.Words.{same_number, rises_few, length_numbers, length_cells, kind_small}

-- ---- a packet's bytes are of one packet

same_numbers : (a b limit : ℕ) (ps qs : List ℕ) → limit ≤ most_pages → Rises a limit ps → Rises b limit qs → flat_map number_bytes ps ≡ flat_map number_bytes qs → ps ≡ qs
same_numbers a b limit [] [] few r s e = refl
same_numbers a b limit [] (q ∷ qs) few r s e = absurd cc
same_numbers a b limit (p ∷ ps) [] few r s e = absurd cc
same_numbers a b limit (p ∷ ps) (q ∷ qs) few r s e =
    let h = same_number p q (flat_map number_bytes ps) (flat_map number_bytes qs) (omega (arith, r.1)) (omega (arith, s.1)) e in
    let heads : p ≡ q = h.0 in
    let tails : ps ≡ qs = same_numbers (p + 1) (q + 1) limit ps qs few r.2 s.2 h.1 in
    cc

same_cell : (a b : ℕ) (x y : List ℕ) → a < 2 ^ 64 → b < 2 ^ 64 → cell_bytes a ++ x ≡ cell_bytes b ++ y → (a ≡ b) × (x ≡ y)
same_cell a b x y fa fb e =
    let heads : cell_bytes a ≡ cell_bytes b = ap (take 8) e in
    let tails : x ≡ y = ap (drop 8) e in
    (sym (from_be_bytes-to_be_bytes_8 a fa) ∙ ap (from_be_bytes w64) heads ∙ from_be_bytes-to_be_bytes_8 b fb, tails)

same_cells : (cs ds : List ℕ) → AllByRecursion (λ x. x < 2 ^ 64) cs → AllByRecursion (λ x. x < 2 ^ 64) ds → flat_map cell_bytes cs ≡ flat_map cell_bytes ds → cs ≡ ds
same_cells [] [] a b e = refl
same_cells [] (d ∷ ds) a b e = absurd cc
same_cells (c ∷ cs) [] a b e = absurd cc
same_cells (c ∷ cs) (d ∷ ds) a b e =
    let h = same_cell c d (flat_map cell_bytes cs) (flat_map cell_bytes ds) a.0 b.0 e in
    let heads : c ≡ d = h.0 in
    let tails : cs ≡ ds = same_cells cs ds a.1 b.1 h.1 in
    cc

same_fields : (e : Extent) (p q : Packet) → IsExtent e → Fits e p → Fits e q → kind_of p ≡ kind_of q → number_of p ≡ number_of q → fields_of p ≡ fields_of q → p ≡ q
same_fields e (StatePacket n ps) (StatePacket m qs) x f g k num fields =
    let h = same_number (length ps) (length qs) (flat_map number_bytes ps) (flat_map number_bytes qs) (omega (arith, rises_few e.pages ps f.fields, x.few_pages)) (omega (arith, rises_few e.pages qs g.fields, x.few_pages)) fields in
    let same : ps ≡ qs = same_numbers 0 0 e.pages ps qs x.few_pages f.fields g.fields h.1 in
    let numbers : n ≡ m = num in
    cc
same_fields e (PagePacket n p cs) (PagePacket m q ds) x f g k num fields =
    let ff : (p < e.pages) × IsContent e.cells cs = f.fields in
    let gg : (q < e.pages) × IsContent e.cells ds = g.fields in
    let h = same_number p q (flat_map cell_bytes cs) (flat_map cell_bytes ds) (omega (arith, ff.0, x.few_pages)) (omega (arith, gg.0, x.few_pages)) fields in
    let pages : p ≡ q = h.0 in
    let same : cs ≡ ds = same_cells cs ds ff.1.each gg.1.each h.1 in
    let numbers : n ≡ m = num in
    cc
same_fields e (WantPacket n p) (WantPacket m q) x f g k num fields =
    let ff : p < e.pages = f.fields in
    let gg : q < e.pages = g.fields in
    let h = same_number p q [] [] (omega (arith, ff, x.few_pages)) (omega (arith, gg, x.few_pages)) fields in
    let pages : p ≡ q = h.0 in
    let numbers : n ≡ m = num in
    cc
same_fields e (AllPacket n) (AllPacket m) x f g k num fields =
    let numbers : n ≡ m = num in
    cc
same_fields e (StatePacket n ps) (PagePacket m q ds) x f g k num fields = let c : 1 ≡ 2 = k in absurd (omega (arith, c))
same_fields e (StatePacket n ps) (WantPacket m q) x f g k num fields = let c : 1 ≡ 3 = k in absurd (omega (arith, c))
same_fields e (StatePacket n ps) (AllPacket m) x f g k num fields = let c : 1 ≡ 4 = k in absurd (omega (arith, c))
same_fields e (PagePacket n p cs) (StatePacket m qs) x f g k num fields = let c : 2 ≡ 1 = k in absurd (omega (arith, c))
same_fields e (PagePacket n p cs) (WantPacket m q) x f g k num fields = let c : 2 ≡ 3 = k in absurd (omega (arith, c))
same_fields e (PagePacket n p cs) (AllPacket m) x f g k num fields = let c : 2 ≡ 4 = k in absurd (omega (arith, c))
same_fields e (WantPacket n p) (StatePacket m qs) x f g k num fields = let c : 3 ≡ 1 = k in absurd (omega (arith, c))
same_fields e (WantPacket n p) (PagePacket m q ds) x f g k num fields = let c : 3 ≡ 2 = k in absurd (omega (arith, c))
same_fields e (WantPacket n p) (AllPacket m) x f g k num fields = let c : 3 ≡ 4 = k in absurd (omega (arith, c))
same_fields e (AllPacket n) (StatePacket m qs) x f g k num fields = let c : 4 ≡ 1 = k in absurd (omega (arith, c))
same_fields e (AllPacket n) (PagePacket m q ds) x f g k num fields = let c : 4 ≡ 2 = k in absurd (omega (arith, c))
same_fields e (AllPacket n) (WantPacket m q) x f g k num fields = let c : 4 ≡ 3 = k in absurd (omega (arith, c))

same_body : (e : Extent) (p q : Packet) → IsExtent e → Fits e p → Fits e q → body_of p ≡ body_of q → p ≡ q
same_body e p q x f g eq =
    let kinds : kind_of p ≡ kind_of q = cc in
    let h = same_number (number_of p) (number_of q) (fields_of p) (fields_of q) (omega (arith, f.number)) (omega (arith, g.number)) (ap (drop 1) eq) in
    same_fields e p q x f g kinds h.0 h.1

-- ---- lengths

pub fits_short : (e : Extent) (p : Packet) → IsExtent e → Fits e p → IsShort p
fits_short e (StatePacket n ps) x f = omega (arith, rises_few e.pages ps f.fields, x.few_pages)
fits_short e (PagePacket n p cs) x f = let ff : (p < e.pages) × IsContent e.cells cs = f.fields in omega (arith, ff.1.count, x.few_cells)
fits_short e (WantPacket n p) x f = tt
fits_short e (AllPacket n) x f = tt

-- all pages of a machine take no less room in a state than a page's cells in its packet
roomy : (size : Size) → 2 * most_cells ≤ (limits size).pages
roomy Small = omega arith
roomy Large = omega arith

body_length : (e : Extent) (p : Packet) → IsExtent e → Fits e p → IsLength e (length (body_of p))
body_length e (StatePacket n ps) x f = (omega arith, omega (arith, length_numbers ps, rises_few e.pages ps f.fields, x.own.pages))
body_length e (PagePacket n p cs) x f = let ff : (p < e.pages) × IsContent e.cells cs = f.fields in (omega arith, omega (arith, length_cells cs, ff.1.count, x.few_cells, roomy e.size))
body_length e (WantPacket n p) x f = (omega arith, omega arith)
body_length e (AllPacket n) x f = (omega arith, omega arith)

body_short : (e : Extent) (p : Packet) → IsExtent e → Fits e p → length (body_of p) < 2 ^ 32
body_short e p x f =
    let long = body_length e p x f in
    let most = limits_at_most e.size in
    omega (arith, long.1, most.few_pages)

-- ---- a rest does not begin with a packet

said_of : (e : Extent) (p : Packet) (more : List ℕ) → IsExtent e → Fits e p → said_length (packet_bytes p ++ more) ≡ length (body_of p)
said_of e p more x f = from_be_bytes-to_be_bytes_4 (length (body_of p)) (body_short e p x f)

longer : (p : Packet) (more : List ℕ) → 4 + length (body_of p) ≤ length (packet_bytes p ++ more)
longer p more = omega (arith, length-append (body_of p) more)

no_rest_partial : (e : Extent) (p : Packet) (more : List ℕ) → IsExtent e → Fits e p → IsPartial e (packet_bytes p ++ more) → ⊥
no_rest_partial e p more x f h =
    let said : said_length (packet_bytes p ++ more) ≡ length (body_of p) = said_of e p more x f in
    let long : 4 + length (body_of p) ≤ length (packet_bytes p ++ more) = longer p more in
    let short = h.long (omega (arith, long)) in
    absurd (omega (arith, said, long, short.1))

no_rest_fault : (e : Extent) (p : Packet) (more : List ℕ) (kind : StreamFaultKind) → IsExtent e → Fits e p → HasFault e (packet_bytes p ++ more) kind → ⊥
no_rest_fault e p more Length x f h = h.1 (rw (said_of e p more x f) (body_length e p x f))
no_rest_fault e p more Kind x f h = h.2 (kind_small p)
no_rest_fault e p more Fields x f h =
    h.3 p f (ap (λ n. take n (body_of p ++ more)) (said_of e p more x f) ∙ take-append_seam (body_of p) more)
no_rest_fault e p more Memory x f h = h
no_rest_fault e p more Broken x f h = h

no_rest : (e : Extent) (p : Packet) (rest more : List ℕ) → IsExtent e → Fits e p → IsRest e rest → rest ≡ packet_bytes p ++ more → ⊥
no_rest e p rest more x f (inl h) eq = no_rest_partial e p more x f (rw eq at h)
no_rest e p rest more x f (inr h) eq = no_rest_fault e p more h.0 x f (rw eq at h.1)

-- ---- one packet, and one reading

same_packet : (e : Extent) (p q : Packet) (x y : List ℕ) → IsExtent e → Fits e p → Fits e q → packet_bytes p ++ x ≡ packet_bytes q ++ y → (p ≡ q) × (x ≡ y)
same_packet e p q x y ext f g eq =
    let h = same_number (length (body_of p)) (length (body_of q)) (body_of p ++ x) (body_of q ++ y) (body_short e p ext f) (body_short e q ext g) eq in
    let bodies : body_of p ≡ body_of q = sym (take-append_seam (body_of p) x) ∙ ap (take (length (body_of p))) h.1 ∙ ap (λ n. take n (body_of q ++ y)) h.0 ∙ take-append_seam (body_of q) y in
    let tails : x ≡ y = sym (drop-append_seam (body_of p) x) ∙ ap (drop (length (body_of p))) h.1 ∙ ap (λ n. drop n (body_of q ++ y)) h.0 ∙ drop-append_seam (body_of q) y in
    (same_body e p q ext f g bodies, tails)

one_rest : (e : Extent) (ps qs : List Packet) (r s : List ℕ) → IsExtent e → AllByRecursion (Fits e) ps → AllByRecursion (Fits e) qs → IsRest e r → IsRest e s → flat_map packet_bytes ps ++ r ≡ flat_map packet_bytes qs ++ s → (ps ≡ qs) × (r ≡ s)
one_rest e [] [] r s x a b h k eq = (refl, eq)
one_rest e [] (q ∷ qs) r s x a b h k eq = absurd (no_rest e q r (flat_map packet_bytes qs ++ s) x b.0 h (eq ∙ append_assoc (packet_bytes q) (flat_map packet_bytes qs) s))
one_rest e (p ∷ ps) [] r s x a b h k eq = absurd (no_rest e p s (flat_map packet_bytes ps ++ r) x a.0 k (sym eq ∙ append_assoc (packet_bytes p) (flat_map packet_bytes ps) r))
one_rest e (p ∷ ps) (q ∷ qs) r s x a b h k eq =
    let first = same_packet e p q (flat_map packet_bytes ps ++ r) (flat_map packet_bytes qs ++ s) x a.0 b.0 (sym (append_assoc (packet_bytes p) (flat_map packet_bytes ps) r) ∙ eq ∙ append_assoc (packet_bytes q) (flat_map packet_bytes qs) s) in
    let later = one_rest e ps qs r s x a.1 b.1 h k first.1 in
    let heads : p ≡ q = first.0 in
    let tails : ps ≡ qs = later.0 in
    (cc, later.1)

pub one_reading_holds : (e : Extent) (bytes : List ℕ) (ps qs : List Packet) (r s : List ℕ) → IsExtent e → IsReading e bytes ps r → IsReading e bytes qs s → (ps ≡ qs) × (r ≡ s)
one_reading_holds e bytes ps qs r s x h k = one_rest e ps qs r s x h.stands.each k.stands.each h.end k.end (sym h.stands.whole ∙ k.stands.whole)

-- ---- pieces together

each_joined : (P : Packet → Type 0) (xs ys : List Packet) → AllByRecursion P xs → AllByRecursion P ys → AllByRecursion P (xs ++ ys)
each_joined P [] ys a b = b
each_joined P (x ∷ xs) ys a b = (a.0, each_joined P xs ys a.1 b)

packets_joined : (xs ys : List Packet) (rest : List ℕ) → flat_map packet_bytes xs ++ (flat_map packet_bytes ys ++ rest) ≡ flat_map packet_bytes (xs ++ ys) ++ rest
packets_joined [] ys rest = refl
packets_joined (x ∷ xs) ys rest =
    append_assoc (packet_bytes x) (flat_map packet_bytes xs) (flat_map packet_bytes ys ++ rest)
    ∙ ap (λ t. packet_bytes x ++ t) (packets_joined xs ys rest)
    ∙ sym (append_assoc (packet_bytes x) (flat_map packet_bytes (xs ++ ys)) rest)

-- what stands first, and what the rest of it and more stand for
pub stands_joined : (e : Extent) (bytes more : List ℕ) (ps qs : List Packet) (r s : List ℕ) → StandsFor e bytes ps r → StandsFor e (r ++ more) qs s → StandsFor e (bytes ++ more) (ps ++ qs) s
stands_joined e bytes more ps qs r s a b = record {
  whole = ap (λ t. t ++ more) a.whole ∙ append_assoc (flat_map packet_bytes ps) r more ∙ ap (λ t. flat_map packet_bytes ps ++ t) b.whole ∙ packets_joined ps qs s;
  each = each_joined (Fits e) ps qs a.each b.each;
}

pub pieces_together : (start end : Flow) (pieces : List (List ℕ)) (packets : List Packet) → TakesAll start pieces packets end → StandsFor start.geometry (start.rest ++ concat pieces) packets end.rest
pieces_together start end [] packets h =
    let nothing : packets ≡ [] = h.1 in
    rw (nothing, h.0) (record { whole = append-nil start.rest; each = tt })
pieces_together start end (piece ∷ pieces) packets h =
    let later = pieces_together h.0 end pieces h.2 h.4 in
    let both : StandsFor start.geometry ((start.rest ++ piece) ++ concat pieces) (h.1 ++ h.2) end.rest =
    stands_joined start.geometry (start.rest ++ piece) (concat pieces) h.1 h.2 h.0.rest end.rest h.3.stands (rw h.3.geometry at later) in
    rw h.5 (rw (← append_assoc start.rest piece (concat pieces)) both)
