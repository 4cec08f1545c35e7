-- The lines of the recording's text that a window's lines come from, counted from 1.
use Rattle.std.specs.Prelude.{◌≡◌, ℕ, ◌+◌, ◌-◌, Bool, List, [], ◌∷◌, ◌++◌, length, map, Option, Some, slice_get}
use Rattle.std.specs.Fmt.{decimal}
use Rattle.std.specs.List.{range_with_len}
use Rattle.migration_types.specs.declared.records.LogName.TheVariants.{Guest, Source, Link, Lane, Pager}
use Rattle.migration_types.specs.declared.version.Version.{Version}
use Rattle.migration_types.specs.declared.version.Version.TheVariants.{One, Two}
use Rattle.migration_types.specs.Sessions.{Recorded}
use Rattle.migration_types.specs.declared.records.LaneRec.{LaneRec}
use Rattle.text_lines.specs.Text.{closing}
use Rattle.session_grammar.specs.Grammar.{header, pages_key, cells_key, init_key, page_line, session_lines}
use Rattle.session_grammar.specs.Records.{guest_key, source_key, link_key, lane_key, pager_key, guest_line, source_line, link_line, lane_line, pager_line}
use Rattle.audit_model.specs.Windows.{Numbers, kept_in, keeps_init, marks, window}

-- the line with the number of items of a list, and the lines of the kept items
abbrev pub list_origins : ℕ → List Bool → List ℕ
list_origins first ms = first ∷ kept_in ms (range_with_len (first + 1) (length ms))

-- the line after a list of this many items
abbrev pub behind : ℕ → ℕ → ℕ
behind first count = first + 1 + count

-- the first line of each log, and the last of all
abbrev pub guest_at : Recorded → ℕ
guest_at s = behind 4 (length s.init)

abbrev pub source_at : Recorded → ℕ
source_at s = behind (guest_at s) (length s.guest)

abbrev pub link_at : Recorded → ℕ
link_at s = behind (source_at s) (length s.source)

abbrev pub lane_at : Recorded → ℕ
lane_at s = behind (link_at s) (length s.link)

abbrev pub behind_lane : Version → ℕ → ℕ → ℕ
behind_lane One first count = first
behind_lane Two first count = behind first count

abbrev pub pager_at : Recorded → ℕ
pager_at s = behind_lane s.version (lane_at s) (length s.lane)

abbrev pub end_at : Recorded → ℕ
end_at s = behind (pager_at s) (length s.pager)

abbrev pub lane_origins : Version → ℕ → List Bool → List ℕ
lane_origins One first ms = []
lane_origins Two first ms = list_origins first ms

-- for each line of the window's text, the line of the recording's text that it comes from
abbrev pub origins : Numbers → Recorded → List ℕ
origins number s =
    1 ∷ 2 ∷ 3 ∷ (
    list_origins 4 (map (keeps_init number) s.init) ++ (
    list_origins (guest_at s) (marks s number Guest) ++ (
    list_origins (source_at s) (marks s number Source) ++ (
    list_origins (link_at s) (marks s number Link) ++ (
    lane_origins s.version (lane_at s) (marks s number Lane) ++ (
    list_origins (pager_at s) (marks s number Pager) ++
    end_at s ∷ []))))))

-- a text's line, counted from 1
abbrev pub line_at : List (List ℕ) → ℕ → Option (List ℕ)
line_at lines n = slice_get lines (n - 1)

-- the kept lines of a list, after the line with the number of items
abbrev pub kept_lines : {X : Type 0} → List ℕ → (X → List ℕ) → List Bool → List X → List (List ℕ)
kept_lines key spell ms items = (key ++ decimal (length items)) ∷ map spell (kept_in ms items)

abbrev pub kept_lane_lines : Version → List Bool → List LaneRec → List (List ℕ)
kept_lane_lines One ms records = []
kept_lane_lines Two ms records = kept_lines lane_key lane_line ms records

-- the lines that a window keeps, as they are in the session's text
abbrev pub seen_lines : Numbers → Recorded → List (List ℕ)
seen_lines number s =
    header s.version s.geometry.size ∷ (pages_key ++ decimal s.geometry.pages) ∷ (cells_key ++ decimal s.geometry.cells) ∷ (
    kept_lines init_key page_line (map (keeps_init number) s.init) s.init ++ (
    kept_lines guest_key guest_line (marks s number Guest) s.guest ++ (
    kept_lines source_key source_line (marks s number Source) s.source ++ (
    kept_lines link_key link_line (marks s number Link) s.link ++ (
    kept_lane_lines s.version (marks s number Lane) s.lane ++ (
    kept_lines pager_key pager_line (marks s number Pager) s.pager ++
    closing ∷ []))))))

-- each line of the window's text has an origin, and the session's line there is the one that the window keeps
pub record TellsOrigins (number : Numbers) (count : ℕ) (s : Recorded) : Type 0 where
  pub for_each : length (origins number s) ≡ length (session_lines (window number count s))
  pub seen : map (line_at (session_lines s)) (origins number s) ≡ map Some (seen_lines number s)
