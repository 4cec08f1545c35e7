-- Equal lines have equal values.
use Rattle.std.proofs.Common.{◌≡◌, ℕ, ◌≤◌, List, ◌++◌, length, map, refl, sym, arith}
use Rattle.std.specs.List.{AllByRecursion}
use Rattle.text_lines.proofs.Sections.{section_end}
use Rattle.migration_types.specs.declared.records.GuestRec.{GuestRec}
use Rattle.migration_types.specs.declared.records.SourceRec.{SourceRec}
use Rattle.migration_types.specs.declared.records.LinkRec.{LinkRec}
use Rattle.migration_types.specs.declared.records.LaneRec.{LaneRec}
use Rattle.migration_types.specs.declared.records.PagerRec.{PagerRec}
use Rattle.migration_types.specs.declared.pages.InitPage.{InitPage}
use Rattle.migration_types.specs.declared.version.Version.{Version}
use Rattle.migration_types.specs.Extents.{Extent, IsExtent}
use Rattle.migration_types.specs.Pages.{InitPageFits}
use Rattle.migration_types.specs.Sessions.{Recorded}
use Rattle.session_grammar.specs.Grammar.{page_line}
use Rattle.session_grammar.specs.inner.Held.{SessionDraft, Part, LogFits}
use Rattle.session_grammar.proofs.Lists.{spelled_same}
use Rattle.session_grammar.proofs.Tells.{AreNarrow, init_tells}

-- a machine's numbers of pages and cells have 64 bits
pub narrow_of : (e : Extent) → IsExtent e → AreNarrow e
narrow_of e h = let pages = h.few_pages in let cells = h.few_cells in record { pages = omega arith; cells = omega arith }

-- a page's line tells the page
pub init_page_tells : (e : Extent) → IsExtent e → (x y : InitPage) → InitPageFits e x → InitPageFits e y → page_line x ≡ page_line y → x ≡ y
init_page_tells e h = init_tells e (narrow_of e h)

-- all items of a list
abbrev pub whole_part : {X : Type 0} → List X → Part X
whole_part items = record { count = length items; items = items }

abbrev pub drafted : Recorded → ℕ → SessionDraft
drafted s next = record { version = s.version; geometry = s.geometry; next_page = next; init = whole_part s.init; guest = whole_part s.guest; source = whole_part s.source; link = whole_part s.link; lane = whole_part s.lane; pager = whole_part s.pager }

pub whole_log : {X Y : Type 0} (most : ℕ) (Before : Type 0) (list : List X) (Fits : Y → Type 0) (log : List Y) → Before → length log ≤ most → AllByRecursion Fits log → LogFits most Before (whole_part list) Fits (whole_part log)
whole_log most Before list Fits log before few each = record { before = before; whole = refl; few = few; within = omega arith; each = each }

-- the list of a text is that of another, where as many lines of both are the same
pub same_list : {X : Type 0} (spell : X → List ℕ) (Fits : X → Type 0) (xs ys : List X) → ((x y : X) → Fits x → Fits y → spell x ≡ spell y → x ≡ y) → (rest more : List (List ℕ)) → AllByRecursion Fits xs → AllByRecursion Fits ys → map spell ys ++ rest ≡ map spell xs ++ more → length xs ≡ length ys → xs ≡ ys
same_list spell Fits xs ys tells rest more h k e l = spelled_same spell Fits tells xs ys h k (sym (section_end spell ys xs rest more e l).0)

pub recorded_same : (v w : Recorded) → v.version ≡ w.version → v.geometry ≡ w.geometry → v.init ≡ w.init → v.guest ≡ w.guest → v.source ≡ w.source → v.link ≡ w.link → v.lane ≡ w.lane → v.pager ≡ w.pager → v ≡ w
recorded_same v w n g i r s l k p =
    let made : Version → Extent → List InitPage → List GuestRec → List SourceRec → List LinkRec → List LaneRec → List PagerRec → Recorded = λ o a b c d e h f. record { version = o; geometry = a; init = b; guest = c; source = d; link = e; lane = h; pager = f } in
    let same : made v.version v.geometry v.init v.guest v.source v.link v.lane v.pager ≡ made w.version w.geometry w.init w.guest w.source w.link w.lane w.pager = rw (n, g, i, r, s, l, k, p) refl in
    same
