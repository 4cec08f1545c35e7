-- A record's line tells the record.
use Rattle.std.proofs.Common.{◌≡◌, ℕ, ◌+◌, ◌*◌, ◌<◌, ◌≤◌, ◌^◌, List, ◌∷◌, ◌++◌, get_or, refl, sym, ap, ◌∙◌, arith}
use Rattle.std.specs.Prelude.{codes}
use Rattle.std.specs.Fmt.{decimal}
use Rattle.std.proofs.lemmas.List.{append_cancel_left}
use Rattle.std.proofs.lemmas.Fmt.{decimal_injective}
use Rattle.text_lines.specs.Contents.{contents_text}
use Rattle.migration_types.specs.Contents.{IsContent}
use Rattle.text_lines.proofs.Cells.{contents_same}
use Rattle.text_lines.proofs.Fronts.{numbers_same, no_digit-space}
use Rattle.migration_types.specs.declared.records.GuestRec.{GuestRec}
use Rattle.migration_types.specs.declared.records.GuestRec.TheVariants.{Read, Write, Release, Miss, Halt, Resume, See}
use Rattle.migration_types.specs.declared.records.SourceRec.{SourceRec}
use Rattle.migration_types.specs.declared.records.SourceRec.TheVariants.{Halted, State, Send, Again, Ask, Done, Back}
use Rattle.migration_types.specs.declared.records.LinkRec.{LinkRec}
use Rattle.migration_types.specs.declared.records.LinkRec.TheVariants.{Down, Up}
use Rattle.migration_types.specs.declared.records.LaneRec.{LaneRec}
use Rattle.migration_types.specs.declared.records.LaneRec.TheVariants.{Down as LaneDown}
use Rattle.migration_types.specs.declared.records.PagerRec.{PagerRec}
use Rattle.migration_types.specs.declared.records.PagerRec.TheVariants.{Got, Pull, Ready, Fault, Join, Want, Place, Zero, Skip, All}
use Rattle.migration_types.specs.declared.version.Version.{Version}
use Rattle.migration_types.specs.Extents.{Extent}
use Rattle.migration_types.specs.declared.pages.InitPage.{InitPage}
use Rattle.migration_types.specs.Pages.{InitPageFits}
use Rattle.migration_types.specs.Sessions.{GuestRecIn, SourceRecIn, LinkRecIn, LaneRecIn, PagerRecIn}
use Rattle.session_grammar.specs.Grammar.{page_key, page_line}
use Rattle.session_grammar.specs.Records.{access_text, vcpu_page_text, page_text, placed_text, guest_line, source_line, link_line, lane_line, pager_line}

-- ---- fields

-- a number and what stands behind the space after it
pub number_tells : (n m : ℕ) (r s : List ℕ) → n < 2 ^ 64 → m < 2 ^ 64 → decimal n ++ 32 ∷ r ≡ decimal m ++ 32 ∷ s → (n ≡ m) × (r ≡ s)
number_tells n m r s p q e =
    let same = numbers_same n m (32 ∷ r) (32 ∷ s) p q (no_digit-space r) (no_digit-space s) e in
    let rest = same.1 in
    (same.0, cc)

-- a key and a number
keyed_tells : (key : List ℕ) (n m : ℕ) → n < 2 ^ 64 → m < 2 ^ 64 → key ++ decimal n ≡ key ++ decimal m → n ≡ m
keyed_tells key n m p q e = decimal_injective n m p q (append_cancel_left key (decimal n) (decimal m) e)

-- a number below a number of 64 bits
below_tells : (past : ℕ) → past ≤ 2 ^ 64 → (key : List ℕ) (n m : ℕ) → n < past → m < past → key ++ decimal n ≡ key ++ decimal m → n ≡ m
below_tells past le key n m p q e = keyed_tells key n m (omega arith) (omega arith) e

contents_tell : (cells : ℕ) (xs ys : List ℕ) → IsContent cells xs → IsContent cells ys → contents_text xs ≡ contents_text ys → xs ≡ ys
contents_tell cells xs ys p q same = contents_same xs ys p.each q.each (p.count ∙ sym q.count) same

-- the numbers of pages and of cells have 64 bits
pub record AreNarrow (e : Extent) : Type 0 where
  pub pages : e.pages ≤ 2 ^ 64
  pub cells : e.cells ≤ 2 ^ 64

-- the numbers of a read or a write
abbrev AreNumbers : Extent → ℕ → ℕ → ℕ → ℕ → Type 0
AreNumbers e v p c x = (v < 64) × (p < e.pages) × (c < e.cells) × (x < 2 ^ 64)

access_tells : (e : Extent) → AreNarrow e → (v p c x w q d y : ℕ) → AreNumbers e v p c x → AreNumbers e w q d y → access_text v p c x ≡ access_text w q d y → (v ≡ w) × (p ≡ q) × (c ≡ d) × (x ≡ y)
access_tells e h v p c x w q d y a b same =
    let few_pages = h.pages in
    let few_cells = h.cells in
    let one = number_tells v w (decimal p ++ 32 ∷ (decimal c ++ 32 ∷ decimal x)) (decimal q ++ 32 ∷ (decimal d ++ 32 ∷ decimal y)) (omega (arith, a.0)) (omega (arith, b.0)) same in
    let two = number_tells p q (decimal c ++ 32 ∷ decimal x) (decimal d ++ 32 ∷ decimal y) (omega (arith, a.1)) (omega (arith, b.1)) one.1 in
    let three = number_tells c d (decimal x) (decimal y) (omega (arith, a.2)) (omega (arith, b.2)) two.1 in
    (one.0, two.0, three.0, decimal_injective x y a.3 b.3 three.1)

vcpu_page_tells : (e : Extent) → AreNarrow e → (v p w q : ℕ) → (v < 64) × (p < e.pages) → (w < 64) × (q < e.pages) → vcpu_page_text v p ≡ vcpu_page_text w q → (v ≡ w) × (p ≡ q)
vcpu_page_tells e h v p w q a b same =
    let few = h.pages in
    let one = number_tells v w (decimal p) (decimal q) (omega (arith, a.0)) (omega (arith, b.0)) same in
    (one.0, decimal_injective p q (omega (arith, a.1)) (omega (arith, b.1)) one.1)

page_tells : (e : Extent) → AreNarrow e → (p q : ℕ) (xs ys : List ℕ) → (p < e.pages) × IsContent e.cells xs → (q < e.pages) × IsContent e.cells ys → page_text p xs ≡ page_text q ys → (p ≡ q) × (xs ≡ ys)
page_tells e h p q xs ys a b same =
    let few = h.pages in
    let one = number_tells p q (contents_text xs) (contents_text ys) (omega (arith, a.0)) (omega (arith, b.0)) same in
    (one.0, contents_tell e.cells xs ys a.1 b.1 one.1)

placed_tells : (past : ℕ) → past ≤ 2 ^ 64 → (e : Extent) → AreNarrow e → (p n q m : ℕ) (xs ys : List ℕ) → (p < e.pages) × (n < past) × IsContent e.cells xs → (q < e.pages) × (m < past) × IsContent e.cells ys → placed_text p n xs ≡ placed_text q m ys → (p ≡ q) × (n ≡ m) × (xs ≡ ys)
placed_tells past le e h p n q m xs ys a b same =
    let few = h.pages in
    let one = number_tells p q (decimal n ++ 32 ∷ contents_text xs) (decimal m ++ 32 ∷ contents_text ys) (omega (arith, a.0)) (omega (arith, b.0)) same in
    let two = number_tells n m (contents_text xs) (contents_text ys) (omega (arith, a.1)) (omega (arith, b.1)) one.1 in
    (one.0, two.0, contents_tell e.cells xs ys a.2 b.2 two.1)

-- ---- pages

abbrev page_of : ℕ → List ℕ → InitPage
page_of page cells = record { page = page; cells = cells }

pub init_tells : (e : Extent) → AreNarrow e → (x y : InitPage) → InitPageFits e x → InitPageFits e y → page_line x ≡ page_line y → x ≡ y
init_tells e h x y p q same =
    let parts = page_tells e h x.page y.page x.cells y.cells (p.page, p.content) (q.page, q.content) (append_cancel_left page_key (page_text x.page x.cells) (page_text y.page y.cells) same) in
    ap (λ (n : ℕ). page_of n x.cells) parts.0 ∙ ap (page_of y.page) parts.1

-- ---- records, whose numbers of records are below some number of 64 bits

-- the first two letters of a line, which no two kinds of a log have in common
abbrev letters : List ℕ → ℕ
letters line = get_or line 0 0 * 256 + get_or line 1 0

pub guest_tells : (past : ℕ) → past ≤ 2 ^ 64 → (e : Extent) → AreNarrow e → (r s : GuestRec) → GuestRecIn past e r → GuestRecIn past e s → guest_line r ≡ guest_line s → r ≡ s
guest_tells past le e h (Read v p c x) (Read w q d y) a b same =
    let t = access_tells e h v p c x w q d y a b (append_cancel_left (codes "r ") (access_text v p c x) (access_text w q d y) same) in
    rw (t.0, t.1, t.2, t.3) refl
guest_tells past le e h (Write v p c x) (Write w q d y) a b same =
    let t = access_tells e h v p c x w q d y a b (append_cancel_left (codes "w ") (access_text v p c x) (access_text w q d y) same) in
    rw (t.0, t.1, t.2, t.3) refl
guest_tells past le e h (Release v p) (Release w q) a b same =
    let t = vcpu_page_tells e h v p w q a b (append_cancel_left (codes "z ") (vcpu_page_text v p) (vcpu_page_text w q) same) in
    rw (t.0, t.1) refl
guest_tells past le e h (Miss v p) (Miss w q) a b same =
    let t = vcpu_page_tells e h v p w q a b (append_cancel_left (codes "miss ") (vcpu_page_text v p) (vcpu_page_text w q) same) in
    rw (t.0, t.1) refl
guest_tells past le e h Halt Halt a b same = refl
guest_tells past le e h (Resume n) (Resume m) a b same = ap Resume (below_tells past le (codes "resume ") n m a b same)
guest_tells past le e h (See n) (See m) a b same = ap See (below_tells past le (codes "see ") n m a b same)
guest_tells past le e h r s a b same = let first : letters (guest_line r) ≡ letters (guest_line s) = ap letters same in absurd (omega (arith, first))

pub source_tells : (past : ℕ) → past ≤ 2 ^ 64 → (e : Extent) → AreNarrow e → (r s : SourceRec) → SourceRecIn past e r → SourceRecIn past e s → source_line r ≡ source_line s → r ≡ s
source_tells past le e h (Halted n) (Halted m) a b same = ap Halted (below_tells past le (codes "halted ") n m a b same)
source_tells past le e h State State a b same = refl
source_tells past le e h (Send p xs) (Send q ys) a b same =
    let t = page_tells e h p q xs ys a b (append_cancel_left (codes "send ") (page_text p xs) (page_text q ys) same) in
    rw (t.0, t.1) refl
source_tells past le e h (Again n) (Again m) a b same = ap Again (below_tells past le (codes "again ") n m a b same)
source_tells past le e h (Ask n) (Ask m) a b same = ap Ask (below_tells past le (codes "ask ") n m a b same)
source_tells past le e h Done Done a b same = refl
source_tells past le e h Back Back a b same = refl
source_tells past le e h r s a b same = let first : letters (source_line r) ≡ letters (source_line s) = ap letters same in absurd (omega (arith, first))

pub link_tells : (past : ℕ) → past ≤ 2 ^ 64 → (r s : LinkRec) → LinkRecIn past r → LinkRecIn past s → link_line r ≡ link_line s → r ≡ s
link_tells past le (Down n) (Down m) a b same = ap Down (below_tells past le (codes "down ") n m a b same)
link_tells past le (Up n) (Up m) a b same = ap Up (below_tells past le (codes "up ") n m a b same)
link_tells past le r s a b same = let first : letters (link_line r) ≡ letters (link_line s) = ap letters same in absurd (omega (arith, first))

pub lane_tells : (past : ℕ) → past ≤ 2 ^ 64 → (version : Version) (r s : LaneRec) → LaneRecIn past version r → LaneRecIn past version s → lane_line r ≡ lane_line s → r ≡ s
lane_tells past le version (LaneDown n) (LaneDown m) a b same = ap LaneDown (below_tells past le (codes "down ") n m a.1 b.1 same)

pub pager_tells : (past : ℕ) → past ≤ 2 ^ 64 → (version : Version) (e : Extent) → AreNarrow e → (r s : PagerRec) → PagerRecIn past version e r → PagerRecIn past version e s → pager_line r ≡ pager_line s → r ≡ s
pager_tells past le version e h (Got n) (Got m) a b same = ap Got (below_tells past le (codes "got ") n m a b same)
pager_tells past le version e h (Pull n) (Pull m) a b same = ap Pull (below_tells past le (codes "pull ") n m a.1 b.1 same)
pager_tells past le version e h Ready Ready a b same = refl
pager_tells past le version e h (Fault n) (Fault m) a b same = ap Fault (below_tells past le (codes "fault ") n m a b same)
pager_tells past le version e h (Join n) (Join m) a b same = ap Join (below_tells past le (codes "join ") n m a b same)
pager_tells past le version e h (Want p) (Want q) a b same = ap Want (below_tells e.pages h.pages (codes "want ") p q a b same)
pager_tells past le version e h (Place p n xs) (Place q m ys) a b same =
    let t = placed_tells past le e h p n q m xs ys a b (append_cancel_left (codes "place ") (placed_text p n xs) (placed_text q m ys) same) in
    rw (t.0, t.1, t.2) refl
pager_tells past le version e h (Zero p) (Zero q) a b same = ap Zero (below_tells e.pages h.pages (codes "zero ") p q a b same)
pager_tells past le version e h (Skip n) (Skip m) a b same = ap Skip (below_tells past le (codes "skip ") n m a b same)
pager_tells past le version e h All All a b same = refl
pager_tells past le version e h r s a b same = let first : letters (pager_line r) ≡ letters (pager_line s) = ap letters same in absurd (omega (arith, first))
