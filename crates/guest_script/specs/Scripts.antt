-- The text of a script. Its lines, each ended by a line feed:
--     postcopy-script 1   or: postcopy-script 2
--     pages N             the machine's pages: 1 to 65,536
--     cells C             the cells of each page: 1 to 512, and N times C is at most 1,048,576
--     init K              the pages that do not begin as zeros, and then a line for each, as in a session's text
--     pivots K            1 to 16
--     window W            1 to 65,536
--     down FATES          the delivery outcomes of the packets on their way down, in order: a dash for none, or 1 to
--     up FATES            4,096 letters, d to deliver, l to lose, r to repeat, b for back; the same on their way up
--     lanes 1             only in the second version; or lanes 2, for a lane beside the link, followed by
--     lane FATES          the delivery outcomes of the packets on the lane
--     vcpus M             1 to 64
--     vcpu B A            M times: the operations before and after a move, each 0 to 65,536, and then a line for each
--     end
-- The lines of operations; the last one is allowed after a move only in the second version:
--     r PAGE CELL     w PAGE CELL VALUE     z PAGE
-- Numbers are in decimal, with no leading zero.
use Rattle.std.specs.Prelude.{◌≡◌, ℕ, List, [], ◌∷◌, ◌++◌, map, length, codes, Option, Some, None}
use Rattle.std.specs.Fmt.{decimal}
use Rattle.text_lines.specs.Counted.{counted}
use Rattle.migration_types.specs.declared.version.Version.{Version}
use Rattle.migration_types.specs.declared.version.Version.TheVariants.{One, Two}
use Rattle.migration_events.specs.declared.events.Fate.{Fate}
use Rattle.migration_events.specs.declared.events.Fate.TheVariants.{Deliver, Lose, Repeat, Back}
use Rattle.migration_events.specs.declared.ops.Op.{Op}
use Rattle.migration_events.specs.declared.ops.Op.TheVariants.{Read, Write, Release}
use Rattle.session_grammar.specs.Grammar.{pages_key, cells_key, init_key, page_line, closing}
use Rattle.guest_script.specs.declared.vcpus.Vcpu.{Vcpu}
use Rattle.guest_script.specs.declared.script.Scenario.{Scenario}
use Rattle.guest_script.specs.Scenarios.{IsScenario}

abbrev pub pivots_key : List ℕ
pivots_key = codes "pivots "

abbrev pub window_key : List ℕ
window_key = codes "window "

abbrev pub fate_letter : Fate → ℕ
fate_letter Deliver = 100
fate_letter Lose = 108
fate_letter Repeat = 114
fate_letter Back = 98

-- the letters of delivery outcomes, or a dash for none
abbrev pub fates_text : List Fate → List ℕ
fates_text [] = codes "-"
fates_text (fate ∷ fates) = map fate_letter (fate ∷ fates)

abbrev pub down_key : List ℕ
down_key = codes "down "

abbrev pub up_key : List ℕ
up_key = codes "up "

abbrev pub place_text : ℕ → ℕ → List ℕ
place_text page cell = decimal page ++ 32 ∷ decimal cell

abbrev pub value_text : ℕ → ℕ → ℕ → List ℕ
value_text page cell value = decimal page ++ 32 ∷ (decimal cell ++ 32 ∷ decimal value)

abbrev pub op_line : Op → List ℕ
op_line (Read page cell) = codes "r " ++ place_text page cell
op_line (Write page cell value) = codes "w " ++ value_text page cell value
op_line (Release page) = codes "z " ++ decimal page

abbrev pub vcpu_key : List ℕ
vcpu_key = codes "vcpu "

-- how many operations there are before and after a move
abbrev pub counts_line : ℕ → ℕ → List ℕ
counts_line before after = vcpu_key ++ (decimal before ++ 32 ∷ decimal after)

-- the lines of a virtual processor, and then more
abbrev pub vcpu_onto : Vcpu → List (List ℕ) → List (List ℕ)
vcpu_onto vcpu more = counts_line (length vcpu.before_move) (length vcpu.after_move) ∷ (map op_line vcpu.before_move ++ (map op_line vcpu.after_move ++ more))

abbrev pub vcpus_onto : List Vcpu → List (List ℕ) → List (List ℕ)
vcpus_onto [] more = more
vcpus_onto (vcpu ∷ vcpus) more = vcpu_onto vcpu (vcpus_onto vcpus more)

abbrev pub vcpus_key : List ℕ
vcpus_key = codes "vcpus "

-- the lines of a script from one on
abbrev pub vcpus_lines : Scenario → List (List ℕ)
vcpus_lines s = (vcpus_key ++ decimal (length s.vcpus)) ∷ vcpus_onto s.vcpus (closing ∷ [])

abbrev pub lane_key : List ℕ
lane_key = codes "lane "

-- the lines with the number of links that carry packets down, which only scripts of the second version have: one, or
-- two with the lane
abbrev pub with_lanes : Version → Option (List Fate) → List (List ℕ) → List (List ℕ)
with_lanes One lane more = more
with_lanes Two None more = codes "lanes 1" ∷ more
with_lanes Two (Some fates) more = codes "lanes 2" ∷ (lane_key ++ fates_text fates) ∷ more

abbrev pub lanes_lines : Scenario → List (List ℕ)
lanes_lines s = with_lanes s.version s.lane (vcpus_lines s)

abbrev pub up_lines : Scenario → List (List ℕ)
up_lines s = (up_key ++ fates_text s.up) ∷ lanes_lines s

abbrev pub down_lines : Scenario → List (List ℕ)
down_lines s = (down_key ++ fates_text s.down) ∷ up_lines s

abbrev pub window_lines : Scenario → List (List ℕ)
window_lines s = (window_key ++ decimal s.window) ∷ down_lines s

abbrev pub pivots_lines : Scenario → List (List ℕ)
pivots_lines s = (pivots_key ++ decimal s.pivots) ∷ window_lines s

abbrev pub init_lines : Scenario → List (List ℕ)
init_lines s = counted init_key page_line s.init (pivots_lines s)

abbrev pub cells_lines : Scenario → List (List ℕ)
cells_lines s = (cells_key ++ decimal s.geometry.cells) ∷ init_lines s

abbrev pub pages_lines : Scenario → List (List ℕ)
pages_lines s = (pages_key ++ decimal s.geometry.pages) ∷ cells_lines s

abbrev pub script_header : Version → List ℕ
script_header One = codes "postcopy-script 1"
script_header Two = codes "postcopy-script 2"

abbrev pub script_lines : Scenario → List (List ℕ)
script_lines s = script_header s.version ∷ pages_lines s

-- these lines are the text of this script, which is within all limits
abbrev pub SpellsScript : Scenario → List (List ℕ) → Type 0
SpellsScript s lines = IsScenario s × (lines ≡ script_lines s)
