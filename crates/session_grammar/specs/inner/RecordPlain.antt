-- No line of a page or of a record has a line feed.
use Rattle.std.specs.Prelude.{◌≢◌, ℕ, ◌<◌, ◌≤◌, ◌/◌, ◌%◌, ◌^◌, List, [], ◌∷◌, ◌++◌, refl, zero, suc, slice_index, codes}
use Rattle.std.proofs.Common.{arith}
use Rattle.std.specs.Fmt.{decimal}
use Rattle.std.specs.Int.{w64, to_be_bytes}
use Rattle.hex.specs.Hex.{encode_with, lower_digits}
use Rattle.text_lines.specs.Text.{IsLine}
use Rattle.text_lines.specs.Contents.{contents_text, cell_text}
use Rattle.text_lines.proofs.Plain.{plain_append, plain_decimal, plain_codes}
use Rattle.migration_types.specs.declared.records.GuestRec.{GuestRec}
use Rattle.migration_types.specs.declared.records.GuestRec.TheVariants.{Read, Write, Release, Miss, Halt, Resume, See}
use Rattle.migration_types.specs.declared.records.SourceRec.{SourceRec}
use Rattle.migration_types.specs.declared.records.SourceRec.TheVariants.{Halted, State, Send, Again, Ask, Done, Back}
use Rattle.migration_types.specs.declared.records.LinkRec.{LinkRec}
use Rattle.migration_types.specs.declared.records.LinkRec.TheVariants.{Down, Up}
use Rattle.migration_types.specs.declared.records.LaneRec.{LaneRec}
use Rattle.migration_types.specs.declared.records.LaneRec.TheVariants.{Down as LaneDown}
use Rattle.migration_types.specs.declared.records.PagerRec.{PagerRec}
use Rattle.migration_types.specs.declared.records.PagerRec.TheVariants.{Got, Pull, Ready, Fault, Join, Want, Place, Zero, Skip, All}
use Rattle.migration_types.specs.declared.pages.InitPage.{InitPage}
use Rattle.migration_types.specs.declared.version.Version.{Version}
use Rattle.migration_types.specs.Extents.{Extent}
use Rattle.migration_types.specs.Limits.{most_pages}
use Rattle.migration_types.specs.Pages.{InitPageFits}
use Rattle.migration_types.specs.Sessions.{GuestRecIn, SourceRecIn, LinkRecIn, LaneRecIn, PagerRecIn}
use Rattle.session_grammar.specs.Grammar.{page_key, page_line}
use Rattle.session_grammar.specs.Records.{access_text, vcpu_page_text, page_text, placed_text, guest_line, source_line, link_line, lane_line, pager_line}

-- ---- fields

plain_at : (cs : List ℕ) → IsLine cs → (k : ℕ) → slice_index cs k ≢ 10
plain_at [] h k = λ e. absurd (omega arith)
plain_at (c ∷ cs) h zero = h.0
plain_at (c ∷ cs) h (suc k) = plain_at cs h.1 k

plain_hex : (xs : List ℕ) → IsLine (encode_with lower_digits xs)
unfolding encode_with
plain_hex [] = tt
plain_hex (x ∷ xs) = (plain_at lower_digits (plain_codes lower_digits refl) (x / 16), (plain_at lower_digits (plain_codes lower_digits refl) (x % 16), plain_hex xs))

pub plain_contents : (xs : List ℕ) → IsLine (contents_text xs)
plain_contents [] = tt
plain_contents (x ∷ xs) = plain_append (cell_text x) (contents_text xs) (plain_hex (to_be_bytes w64 x)) (plain_contents xs)

-- a number, a space, and what follows it
pub plain_number : (n : ℕ) (rest : List ℕ) → n < 2 ^ 64 → IsLine rest → IsLine (decimal n ++ 32 ∷ rest)
plain_number n rest lt h = plain_append (decimal n) (32 ∷ rest) (plain_decimal n lt) ((λ e. absurd (omega arith)), h)

-- a key and a number
pub plain_keyed : (key : List ℕ) (n : ℕ) → IsLine key → n < 2 ^ 64 → IsLine (key ++ decimal n)
plain_keyed key n h lt = plain_append key (decimal n) h (plain_decimal n lt)

plain_access : (v p c x : ℕ) → v < 2 ^ 64 → p < 2 ^ 64 → c < 2 ^ 64 → x < 2 ^ 64 → IsLine (access_text v p c x)
plain_access v p c x hv hp hc hx = plain_number v (decimal p ++ 32 ∷ (decimal c ++ 32 ∷ decimal x)) hv (plain_number p (decimal c ++ 32 ∷ decimal x) hp (plain_number c (decimal x) hc (plain_decimal x hx)))

plain_vcpu_page : (v p : ℕ) → v < 2 ^ 64 → p < 2 ^ 64 → IsLine (vcpu_page_text v p)
plain_vcpu_page v p hv hp = plain_number v (decimal p) hv (plain_decimal p hp)

-- ---- records, whose numbers of records are below some number of 64 bits

plain_numbered : (past : ℕ) → past ≤ 2 ^ 64 → (key : List ℕ) (n : ℕ) → IsLine key → n < past → IsLine (key ++ decimal n)
plain_numbered past le key n h few = plain_keyed key n h (omega arith)

pub plain_guest_rec : (past : ℕ) → past ≤ 2 ^ 64 → (e : Extent) → e.pages ≤ 2 ^ 64 → e.cells ≤ 2 ^ 64 → (r : GuestRec) → GuestRecIn past e r → IsLine (guest_line r)
plain_guest_rec past le e lp lc (Read v p c x) h = plain_append (codes "r ") (access_text v p c x) (plain_codes (codes "r ") refl) (plain_access v p c x (omega (arith, h.0)) (omega (arith, h.1)) (omega (arith, h.2)) h.3)
plain_guest_rec past le e lp lc (Write v p c x) h = plain_append (codes "w ") (access_text v p c x) (plain_codes (codes "w ") refl) (plain_access v p c x (omega (arith, h.0)) (omega (arith, h.1)) (omega (arith, h.2)) h.3)
plain_guest_rec past le e lp lc (Release v p) h = plain_append (codes "z ") (vcpu_page_text v p) (plain_codes (codes "z ") refl) (plain_vcpu_page v p (omega (arith, h.0)) (omega (arith, h.1)))
plain_guest_rec past le e lp lc (Miss v p) h = plain_append (codes "miss ") (vcpu_page_text v p) (plain_codes (codes "miss ") refl) (plain_vcpu_page v p (omega (arith, h.0)) (omega (arith, h.1)))
plain_guest_rec past le e lp lc Halt h = plain_codes (codes "halt") refl
plain_guest_rec past le e lp lc (Resume n) h = plain_numbered past le (codes "resume ") n (plain_codes (codes "resume ") refl) h
plain_guest_rec past le e lp lc (See n) h = plain_numbered past le (codes "see ") n (plain_codes (codes "see ") refl) h

pub plain_source_rec : (past : ℕ) → past ≤ 2 ^ 64 → (e : Extent) → e.pages ≤ 2 ^ 64 → e.cells ≤ 2 ^ 64 → (r : SourceRec) → SourceRecIn past e r → IsLine (source_line r)
plain_source_rec past le e lp lc (Halted n) h = plain_numbered past le (codes "halted ") n (plain_codes (codes "halted ") refl) h
plain_source_rec past le e lp lc State h = plain_codes (codes "state") refl
plain_source_rec past le e lp lc (Send p xs) h = plain_append (codes "send ") (page_text p xs) (plain_codes (codes "send ") refl) (plain_number p (contents_text xs) (omega (arith, h.0)) (plain_contents xs))
plain_source_rec past le e lp lc (Again n) h = plain_numbered past le (codes "again ") n (plain_codes (codes "again ") refl) h
plain_source_rec past le e lp lc (Ask n) h = plain_numbered past le (codes "ask ") n (plain_codes (codes "ask ") refl) h
plain_source_rec past le e lp lc Done h = plain_codes (codes "done") refl
plain_source_rec past le e lp lc Back h = plain_codes (codes "back") refl

pub plain_link_rec : (past : ℕ) → past ≤ 2 ^ 64 → (r : LinkRec) → LinkRecIn past r → IsLine (link_line r)
plain_link_rec past le (Down n) h = plain_numbered past le (codes "down ") n (plain_codes (codes "down ") refl) h
plain_link_rec past le (Up n) h = plain_numbered past le (codes "up ") n (plain_codes (codes "up ") refl) h

pub plain_lane_rec : (past : ℕ) → past ≤ 2 ^ 64 → (version : Version) (r : LaneRec) → LaneRecIn past version r → IsLine (lane_line r)
plain_lane_rec past le version (LaneDown n) h = plain_numbered past le (codes "down ") n (plain_codes (codes "down ") refl) h.1

pub plain_pager_rec : (past : ℕ) → past ≤ 2 ^ 64 → (version : Version) (e : Extent) → e.pages ≤ 2 ^ 64 → e.cells ≤ 2 ^ 64 → (r : PagerRec) → PagerRecIn past version e r → IsLine (pager_line r)
plain_pager_rec past le version e lp lc (Got n) h = plain_numbered past le (codes "got ") n (plain_codes (codes "got ") refl) h
plain_pager_rec past le version e lp lc (Pull n) h = plain_numbered past le (codes "pull ") n (plain_codes (codes "pull ") refl) h.1
plain_pager_rec past le version e lp lc Ready h = plain_codes (codes "ready") refl
plain_pager_rec past le version e lp lc (Fault n) h = plain_numbered past le (codes "fault ") n (plain_codes (codes "fault ") refl) h
plain_pager_rec past le version e lp lc (Join n) h = plain_numbered past le (codes "join ") n (plain_codes (codes "join ") refl) h
plain_pager_rec past le version e lp lc (Want p) h = plain_keyed (codes "want ") p (plain_codes (codes "want ") refl) (omega (arith, h))
plain_pager_rec past le version e lp lc (Place p n xs) h = plain_append (codes "place ") (placed_text p n xs) (plain_codes (codes "place ") refl) (plain_number p (decimal n ++ 32 ∷ contents_text xs) (omega (arith, h.0)) (plain_number n (contents_text xs) (omega (arith, h.1)) (plain_contents xs)))
plain_pager_rec past le version e lp lc (Zero p) h = plain_keyed (codes "zero ") p (plain_codes (codes "zero ") refl) (omega (arith, h))
plain_pager_rec past le version e lp lc (Skip n) h = plain_numbered past le (codes "skip ") n (plain_codes (codes "skip ") refl) h
plain_pager_rec past le version e lp lc All h = plain_codes (codes "all") refl

-- ---- pages

pub plain_page : (e : Extent) → e.pages ≤ most_pages → (p : InitPage) → InitPageFits e p → IsLine (page_line p)
plain_page e few p h =
    let below = h.page in
    plain_append page_key (decimal p.page ++ 32 ∷ contents_text p.cells) (plain_codes page_key refl) (plain_number p.page (contents_text p.cells) (omega arith) (plain_contents p.cells))
