-- The text of a recorded session. Its lines, each ended by a line feed:
--     postcopy-session 1  or postcopy-session 2, or postcopy-session 3, which differs from the second in its limits and in
--                         that its source may have started the guest again
--     pages N             the machine's pages: 1 to 65,536, in the third 16,777,216
--     cells C             the cells of each page: 1 to 512, and N times C is at most 1,048,576, in the third 16,777,216
--     init K              the pages that do not begin as zeros
--     page P CONTENTS     K such lines: P rises and is below N, and CONTENTS has sixteen hexadecimal digits, in lower
--                         case, for each of the C cells, not all of them zero
--     guest G             the records of the guest's log: 0 to 1,048,576, in the third 134,217,728, and then a line for each
--     source S            the same for the source's log,
--     link L              the link's log,
--     lane E              the lane's log, except in the first version,
--     pager R             and the pager's log
--     end
-- All other numbers are in decimal, with no leading zero. The limits are those of a session, `IsSession`.
use Rattle.std.specs.Prelude.{◌≡◌, ℕ, List, [], ◌∷◌, ◌++◌, map, codes, Option, slice_get}
use Rattle.std.specs.Fmt.{decimal}
use Rattle.text_lines.specs.Contents.{contents_text}
use Rattle.migration_types.specs.declared.pages.InitPage.{InitPage}
use Rattle.migration_types.specs.declared.records.LogName.TheVariants.{Guest, Source, Link, Lane, Pager}
use Rattle.migration_types.specs.declared.version.Version.{Version}
use Rattle.migration_types.specs.declared.version.Version.TheVariants.{One, Two}
use Rattle.migration_types.specs.declared.size.Size.{Size}
use Rattle.migration_types.specs.declared.size.Size.TheVariants.{Small, Large}
use Rattle.migration_types.specs.Receipts.{Name}
use Rattle.migration_types.specs.declared.records.LaneRec.{LaneRec}
use Rattle.migration_types.specs.Sessions.{Recorded, IsSession}
pub use Rattle.text_lines.specs.Text.{closing}
pub use Rattle.text_lines.specs.Counted.{counted}
pub use Rattle.session_grammar.specs.Records.{guest_key, source_key, link_key, lane_key, pager_key}
use Rattle.session_grammar.specs.Records.{guest_line, source_line, link_line, lane_line, pager_line}

-- The fixed lines, and the words that other lines begin with. No session of the first version has the large size.
abbrev pub header : Version → Size → List ℕ
header One Small = codes "postcopy-session 1"
header One Large = []
header Two Small = codes "postcopy-session 2"
header Two Large = codes "postcopy-session 3"

abbrev pub pages_key : List ℕ
pages_key = codes "pages "

abbrev pub cells_key : List ℕ
cells_key = codes "cells "

abbrev pub init_key : List ℕ
init_key = codes "init "

abbrev pub page_key : List ℕ
page_key = codes "page "

-- a page with its contents
abbrev pub page_line : InitPage → List ℕ
page_line p = page_key ++ (decimal p.page ++ 32 ∷ contents_text p.cells)

-- the lines of the lane's log, which only the second version has, and then these lines
abbrev pub with_lane : Version → List LaneRec → List (List ℕ) → List (List ℕ)
with_lane One records lines = lines
with_lane Two records lines = counted lane_key lane_line records lines

-- the lines of a session's text
abbrev pub session_lines : Recorded → List (List ℕ)
session_lines s =
    header s.version s.geometry.size ∷ (pages_key ++ decimal s.geometry.pages) ∷ (cells_key ++ decimal s.geometry.cells) ∷
    counted init_key page_line s.init (
    counted guest_key guest_line s.guest (
    counted source_key source_line s.source (
    counted link_key link_line s.link (
    with_lane s.version s.lane (
    counted pager_key pager_line s.pager (
    closing ∷ []))))))

-- these are the lines of this session's text
abbrev pub SpellsSession : Recorded → List (List ℕ) → Type 0
SpellsSession s lines = IsSession s × (lines ≡ session_lines s)

-- the line of the record with this name, if there is one
abbrev pub record_line : Recorded → Name → Option (List ℕ)
record_line s (Guest, n) = slice_get (map guest_line s.guest) n
record_line s (Source, n) = slice_get (map source_line s.source) n
record_line s (Link, n) = slice_get (map link_line s.link) n
record_line s (Lane, n) = slice_get (map lane_line s.lane) n
record_line s (Pager, n) = slice_get (map pager_line s.pager) n
