-- Lists of numbers, as bytes.
use Rattle.std.proofs.Common.{◌≡◌, ℕ, ◌+◌, ◌*◌, ◌^◌, ◌<◌, ◌≤◌, List, [], ◌∷◌, ◌++◌, length, zero, suc, get_or, take, drop, refl, sym, ap, ◌∙◌, append_assoc, take-append-drop, arith}
use Rattle.std.specs.List.{flat_map}
use Rattle.std.specs.Int.{w32, w64, from_be_bytes}
use Rattle.std.proofs.lemmas.Nat.{from_be_bytes-to_be_bytes_4, be_bytes_4, be_bytes_8}
use Rattle.page_stream.specs.Bytes.{number_bytes, cell_bytes, kind_of, body_of, packet_bytes, Rises}
use Rattle.page_stream.specs.inner.Fronts.{IsNoFields}
use Rattle.migration_types.specs.Extents.{Extent}
use Rattle.migration_types.specs.Limits.{most_pages}
use Rattle.page_stream.specs.declared.Packet.{Packet}
use Rattle.page_stream.specs.declared.Packet.TheVariants.{State as StatePacket, Page as PagePacket, Want as WantPacket, All as AllPacket}

pub same_number : (a b : ℕ) (x y : List ℕ) → a < 2 ^ 32 → b < 2 ^ 32 → number_bytes a ++ x ≡ number_bytes b ++ y → (a ≡ b) × (x ≡ y)
same_number a b x y fa fb e =
    let heads : number_bytes a ≡ number_bytes b = ap (take 4) e in
    let tails : x ≡ y = ap (drop 4) e in
    (sym (from_be_bytes-to_be_bytes_4 a fa) ∙ ap (from_be_bytes w32) heads ∙ from_be_bytes-to_be_bytes_4 b fb, tails)

take_small : (k : ℕ) (bytes : List ℕ) → ((i : ℕ) → get_or bytes i 0 < 256) → (i : ℕ) → get_or (take k bytes) i 0 < 256
take_small zero bytes small i = omega arith
take_small (suc k) [] small i = omega arith
take_small (suc k) (b ∷ bytes) small zero = small 0
take_small (suc k) (b ∷ bytes) small (suc i) = take_small k bytes (λ j. small (suc j)) i

-- the number that the first bytes say, and what follows it
pub number_front : (bytes front rest : List ℕ) (n : ℕ) → front ≡ take 4 bytes → rest ≡ drop 4 bytes → length front ≡ 4 → ((i : ℕ) → get_or bytes i 0 < 256) → n ≡ from_be_bytes w32 front → bytes ≡ number_bytes n ++ rest
number_front bytes front rest n f r len small e =
    let back : number_bytes n ≡ take 4 bytes = be_bytes_4 front n len (λ i. rw f (take_small 4 bytes small i)) e ∙ f in
    sym (take-append-drop 4 bytes) ∙ rw (← r) (ap (λ (t : List ℕ). t ++ rest) (sym back))

pub cell_front : (bytes front rest : List ℕ) (n : ℕ) → front ≡ take 8 bytes → rest ≡ drop 8 bytes → length front ≡ 8 → ((i : ℕ) → get_or bytes i 0 < 256) → n ≡ from_be_bytes w64 front → bytes ≡ cell_bytes n ++ rest
cell_front bytes front rest n f r len small e =
    let back : cell_bytes n ≡ take 8 bytes = be_bytes_8 front n len (λ i. rw f (take_small 8 bytes small i)) e ∙ f in
    sym (take-append-drop 8 bytes) ∙ rw (← r) (ap (λ (t : List ℕ). t ++ rest) (sym back))

-- the number at the front of a rising list's bytes
pub next_number : (start limit n : ℕ) (after ps : List ℕ) → n < 2 ^ 32 → limit ≤ most_pages → Rises start limit ps → number_bytes n ++ after ≡ flat_map number_bytes ps → (more : List ℕ) × (start ≤ n) × (n < limit) × Rises (n + 1) limit more × (after ≡ flat_map number_bytes more)
next_number start limit n after [] fits few r e = absurd cc
next_number start limit n after (p ∷ ps) fits few r e =
    let s = same_number n p after (flat_map number_bytes ps) fits (omega (arith, r.1)) e in
    let same : n ≡ p = s.0 in
    (ps, omega (arith, r.0), omega (arith, r.1), rw same r.2, s.1)

long_numbers : (p : ℕ) (ps : List ℕ) → 4 ≤ length (flat_map number_bytes (p ∷ ps))
long_numbers p ps = omega arith

-- a rising list's bytes are none, or four and more
pub few_numbers : (start limit : ℕ) (rest ps : List ℕ) → length rest < 4 → rest ≡ flat_map number_bytes ps → rest ≡ []
few_numbers start limit rest [] lt e = e
few_numbers start limit rest (p ∷ ps) lt e = absurd (omega (arith, long_numbers p ps, ap length e))

pub nil_of : (xs : List ℕ) → length xs ≡ 0 → xs ≡ []
nil_of [] e = refl
nil_of (x ∷ xs) e = absurd (omega arith)

pub more_numbers : (front : List ℕ) (n : ℕ) (after : List ℕ) → flat_map number_bytes front ++ (number_bytes n ++ after) ≡ flat_map number_bytes (front ++ n ∷ []) ++ after
more_numbers [] n after = refl
more_numbers (p ∷ ps) n after = ap (λ (t : List ℕ). number_bytes p ++ t) (more_numbers ps n after)

pub length_cells : (cs : List ℕ) → length (flat_map cell_bytes cs) ≡ 8 * length cs
length_cells [] = refl
length_cells (c ∷ cs) = omega (arith, length_cells cs)

pub length_numbers : (ps : List ℕ) → length (flat_map number_bytes ps) ≡ 4 * length ps
length_numbers [] = refl
length_numbers (c ∷ cs) = omega (arith, length_numbers cs)

state_length : (number : ℕ) (released : List ℕ) → length (body_of (StatePacket number released)) ≡ 9 + 4 * length released
state_length number released = omega (arith, length_numbers released)

page_length : (number page : ℕ) (contents : List ℕ) → length (body_of (PagePacket number page contents)) ≡ 9 + 8 * length contents
page_length number page contents = omega (arith, length_cells contents)

joined : (old a b c : List ℕ) → ((old ++ a) ++ b) ++ c ≡ old ++ ((a ++ b) ++ c)
joined old a b c = ap (λ t. t ++ c) (append_assoc old a b) ∙ append_assoc old (a ++ b) c

-- the bytes of a packet in the order in which they are put behind others
pub state_bytes : (old : List ℕ) (number : ℕ) (released : List ℕ) → ((old ++ (number_bytes (9 + 4 * length released) ++ 1 ∷ number_bytes number)) ++ number_bytes (length released)) ++ flat_map number_bytes released ≡ old ++ packet_bytes (StatePacket number released)
state_bytes old number released =
    joined old (number_bytes (9 + 4 * length released) ++ 1 ∷ number_bytes number) (number_bytes (length released)) (flat_map number_bytes released)
    ∙ rw (state_length number released) refl

pub page_bytes : (old : List ℕ) (number page : ℕ) (contents : List ℕ) → ((old ++ (number_bytes (9 + 8 * length contents) ++ 2 ∷ number_bytes number)) ++ number_bytes page) ++ flat_map cell_bytes contents ≡ old ++ packet_bytes (PagePacket number page contents)
page_bytes old number page contents =
    joined old (number_bytes (9 + 8 * length contents) ++ 2 ∷ number_bytes number) (number_bytes page) (flat_map cell_bytes contents)
    ∙ rw (page_length number page contents) refl

-- ---- which fields

pub only_state : (e : Extent) (number : ℕ) (fields : List ℕ) → ((released : List ℕ) → Rises 0 e.pages released → fields ≡ number_bytes (length released) ++ flat_map number_bytes released → ⊥) → IsNoFields e 1 number fields
only_state e number fields h (StatePacket n released) a = h released a.fits.fields a.fields_are
only_state e number fields h (PagePacket n page contents) a = let k : 2 ≡ 1 = a.kind_is in absurd (omega (arith, k))
only_state e number fields h (WantPacket n page) a = let k : 3 ≡ 1 = a.kind_is in absurd (omega (arith, k))
only_state e number fields h (AllPacket n) a = let k : 4 ≡ 1 = a.kind_is in absurd (omega (arith, k))

pub kind_small : (p : Packet) → (1 ≤ kind_of p) × (kind_of p ≤ 4)
kind_small (StatePacket n released) = (omega arith, omega arith)
kind_small (PagePacket n page contents) = (omega arith, omega arith)
kind_small (WantPacket n page) = (omega arith, omega arith)
kind_small (AllPacket n) = (omega arith, omega arith)

-- ---- from fields to bodies

rises_from : (start limit : ℕ) (ps : List ℕ) → Rises start limit ps → start ≤ limit → length ps + start ≤ limit
rises_from start limit [] r le = omega arith
rises_from start limit (p ∷ ps) r le = omega (arith, rises_from (p + 1) limit ps r.2 (omega (arith, r.1)), r.0)

pub rises_few : (limit : ℕ) (ps : List ℕ) → Rises 0 limit ps → length ps ≤ limit
rises_few limit ps r = omega (arith, rises_from 0 limit ps r (omega arith))
