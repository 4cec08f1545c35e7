-- The lines that a reader of scripts holds, and those that may still come.
use Rattle.std.specs.Prelude.{◌≡◌, ℕ, ◌<◌, ◌≤◌, List, [], ◌∷◌, ◌++◌, codes, length, map, Option, None, Some}
use Rattle.std.specs.List.{AllByRecursion}
use Rattle.std.specs.Fmt.{decimal}
use Rattle.text_lines.specs.Counted.{Part}
use Rattle.migration_types.specs.declared.pages.InitPage.{InitPage}
use Rattle.migration_types.specs.declared.size.Size.TheVariants.{Small}
use Rattle.migration_types.specs.declared.version.Version.{Version}
use Rattle.migration_types.specs.declared.version.Version.TheVariants.{Two}
use Rattle.migration_types.specs.Extents.{Extent, IsExtent}
use Rattle.migration_types.specs.Limits.{limits}
use Rattle.migration_types.specs.Pages.{AreInitPages}
use Rattle.migration_events.specs.declared.events.Fate.{Fate}
use Rattle.migration_events.specs.declared.ops.Op.{Op}
use Rattle.migration_events.specs.Ops.{OpFits, LateOpFits}
use Rattle.session_grammar.specs.Grammar.{pages_key, cells_key, init_key, page_line, closing}
use Rattle.session_grammar.specs.inner.Held.{InitFits}
use Rattle.session_grammar.specs.inner.InitPages.{next_from}
use Rattle.guest_script.specs.declared.vcpus.Vcpu.{Vcpu}
use Rattle.guest_script.specs.declared.stages.ScriptStage.{ScriptStage}
use Rattle.guest_script.specs.declared.stages.ScriptStage.TheVariants.{Header, Pages, Cells, InitCount, Init, Window, Down, Up, Lanes, Lane, Count, First, Ops, Done}
use Rattle.guest_script.specs.declared.script.Scenario.{Scenario}
use Rattle.guest_script.specs.Scenarios.{LaneFits, VcpuFits, IsScenario}
use Rattle.guest_script.specs.Scripts.{script_header, pivots_key, window_key, down_key, up_key, vcpus_key, fates_text, op_line, counts_line, vcpus_onto, vcpus_lines, lane_key, with_lanes, lanes_lines, up_lines, down_lines, window_lines, pivots_lines, init_lines, cells_lines, pages_lines, SpellsScript}
use Rattle.guest_script.specs.inner.Exact.{Exact}

-- what was read so far
pub record ScriptDraft : Type 0 where
  pub version : Version
  pub pages : ℕ
  pub cells : ℕ
  pub init : Part InitPage
  pub pivots : ℕ
  pub window : ℕ
  pub down : List Fate
  pub up : List Fate
  pub lane : Option (List Fate)
  pub count : ℕ
  pub vcpus : List Vcpu
  pub before : Part Op
  pub after : Part Op

-- a script's machine is a small one
abbrev pub small_machine : ℕ → ℕ → Extent
small_machine pages cells = record { size = Small; pages = pages; cells = cells }

abbrev pub machine_of : ScriptDraft → Extent
machine_of d = small_machine d.pages d.cells

-- the script, if all of it was read
abbrev pub scenario_of : ScriptDraft → Scenario
scenario_of d = record { version = d.version; geometry = machine_of d; init = d.init.items; pivots = d.pivots; window = d.window; down = d.down; up = d.up; lane = d.lane; vcpus = d.vcpus }

-- ---- the lines so far

abbrev pub held_init : ScriptDraft → List (List ℕ)
held_init d = script_header d.version ∷ (pages_key ++ decimal d.pages) ∷ (cells_key ++ decimal d.cells) ∷ (init_key ++ decimal d.init.count) ∷ map page_line d.init.items

abbrev pub held_pivots : ScriptDraft → List (List ℕ)
held_pivots d = held_init d ++ (pivots_key ++ decimal d.pivots) ∷ []

abbrev pub held_window : ScriptDraft → List (List ℕ)
held_window d = held_pivots d ++ (window_key ++ decimal d.window) ∷ []

abbrev pub held_down : ScriptDraft → List (List ℕ)
held_down d = held_window d ++ (down_key ++ fates_text d.down) ∷ []

abbrev pub held_up : ScriptDraft → List (List ℕ)
held_up d = held_down d ++ (up_key ++ fates_text d.up) ∷ []

abbrev pub held_lanes : ScriptDraft → List (List ℕ)
held_lanes d = held_up d ++ with_lanes d.version d.lane []

abbrev pub held_vcpus : ScriptDraft → List (List ℕ)
held_vcpus d = (held_lanes d ++ (vcpus_key ++ decimal d.count) ∷ []) ++ vcpus_onto d.vcpus []

abbrev pub held_ops : ScriptDraft → List (List ℕ)
held_ops d = held_vcpus d ++ counts_line d.before.count d.after.count ∷ (map op_line d.before.items ++ map op_line d.after.items)

abbrev pub script_held : ScriptStage → ScriptDraft → List (List ℕ)
script_held Header d = []
script_held Pages d = script_header d.version ∷ []
script_held Cells d = script_header d.version ∷ (pages_key ++ decimal d.pages) ∷ []
script_held InitCount d = script_header d.version ∷ (pages_key ++ decimal d.pages) ∷ (cells_key ++ decimal d.cells) ∷ []
script_held Init d = held_init d
script_held Window d = held_pivots d
script_held Down d = held_window d
script_held Up d = held_down d
script_held Lanes d = held_up d
script_held Lane d = held_up d ++ codes "lanes 2" ∷ []
script_held Count d = held_lanes d
script_held First d = held_vcpus d
script_held Ops d = held_ops d
script_held Done d = held_vcpus d ++ closing ∷ []

-- ---- what may still come

abbrev pub AgreesInit : ScriptDraft → Scenario → Type 0
AgreesInit d v = (v.version ≡ d.version) × (v.geometry ≡ machine_of d) × (v.init ≡ d.init.items)

abbrev pub AgreesPivots : ScriptDraft → Scenario → Type 0
AgreesPivots d v = AgreesInit d v × (v.pivots ≡ d.pivots)

abbrev pub AgreesWindow : ScriptDraft → Scenario → Type 0
AgreesWindow d v = AgreesPivots d v × (v.window ≡ d.window)

abbrev pub AgreesDown : ScriptDraft → Scenario → Type 0
AgreesDown d v = AgreesWindow d v × (v.down ≡ d.down)

abbrev pub AgreesUp : ScriptDraft → Scenario → Type 0
AgreesUp d v = AgreesDown d v × (v.up ≡ d.up)

abbrev pub AgreesLane : ScriptDraft → Scenario → Type 0
AgreesLane d v = AgreesUp d v × (v.lane ≡ d.lane)

-- there is a lane, whose delivery outcomes are still to come, and these lines with them
pub record LaneLeft (d : ScriptDraft) (v : Scenario) (more : List (List ℕ)) : Type 0 where
  pub fits : IsScenario v
  pub agrees : AgreesUp d v
  pub fates : List Fate
  pub lane : v.lane ≡ Some fates
  pub lines : more ≡ (lane_key ++ fates_text fates) ∷ vcpus_lines v

-- the initial pages so far begin these pages, and these lines spell the rest
pub record InitLeft (d : ScriptDraft) (v : Scenario) (more : List (List ℕ)) : Type 0 where
  pub fits : IsScenario v
  pub version : v.version ≡ d.version
  pub geometry : v.geometry ≡ machine_of d
  pub count : length v.init ≡ d.init.count
  pub back : List InitPage
  pub whole : v.init ≡ d.init.items ++ back
  pub lines : more ≡ map page_line back ++ pivots_lines v

-- a virtual processor with these operations
abbrev pub vcpu_of : List Op → List Op → Vcpu
vcpu_of before after = record { before_move = before; after_move = after }

-- the operations so far begin these operations, and these lines spell the rest
pub record OpsLeft (d : ScriptDraft) (v : Scenario) (more : List (List ℕ)) : Type 0 where
  pub fits : IsScenario v
  pub agrees : AgreesLane d v
  pub count : length v.vcpus ≡ d.count
  pub befores : List Op
  pub afters : List Op
  pub back : List Vcpu
  pub whole : v.vcpus ≡ d.vcpus ++ vcpu_of (d.before.items ++ befores) (d.after.items ++ afters) ∷ back
  pub all_before : length (d.before.items ++ befores) ≡ d.before.count
  pub all_after : length (d.after.items ++ afters) ≡ d.after.count
  pub lines : more ≡ map op_line befores ++ (map op_line afters ++ vcpus_onto back (closing ∷ []))

abbrev pub ScriptRest : ScriptStage → ScriptDraft → Scenario → List (List ℕ) → Type 0
ScriptRest Header d v more = SpellsScript v more
ScriptRest Pages d v more = IsScenario v × (v.version ≡ d.version) × (more ≡ pages_lines v)
ScriptRest Cells d v more = IsScenario v × (v.version ≡ d.version) × (v.geometry.pages ≡ d.pages) × (more ≡ cells_lines v)
ScriptRest InitCount d v more = IsScenario v × (v.version ≡ d.version) × (v.geometry ≡ machine_of d) × (more ≡ init_lines v)
ScriptRest Init d v more = InitLeft d v more
ScriptRest Window d v more = IsScenario v × AgreesPivots d v × (more ≡ window_lines v)
ScriptRest Down d v more = IsScenario v × AgreesWindow d v × (more ≡ down_lines v)
ScriptRest Up d v more = IsScenario v × AgreesDown d v × (more ≡ up_lines v)
ScriptRest Lanes d v more = IsScenario v × AgreesUp d v × (more ≡ lanes_lines v)
ScriptRest Lane d v more = LaneLeft d v more
ScriptRest Count d v more = IsScenario v × AgreesLane d v × (more ≡ vcpus_lines v)
ScriptRest First d v more = IsScenario v × AgreesLane d v × (length v.vcpus ≡ d.count) × (more ≡ vcpus_onto v.vcpus (closing ∷ []))
ScriptRest Ops d v more = OpsLeft d v more
ScriptRest Done d v more = IsScenario v × AgreesLane d v × (v.vcpus ≡ d.vcpus) × (more ≡ [])

-- ---- what holds of what came

abbrev pub InitPart : ScriptDraft → Type 0
InitPart d = InitFits d.version (machine_of d) (next_from 0 d.init.items) d.init

pub record FitsPivots (d : ScriptDraft) : Type 0 where
  pub geometry : IsExtent (machine_of d)
  pub init : AreInitPages (machine_of d) d.init.items
  pub some : 1 ≤ d.pivots
  pub few : d.pivots ≤ 16

pub record FitsWindow (d : ScriptDraft) : Type 0 where
  pub before : FitsPivots d
  pub some : 1 ≤ d.window
  pub few : d.window ≤ 65536

pub record FitsDown (d : ScriptDraft) : Type 0 where
  pub before : FitsWindow d
  pub few : length d.down ≤ 4096

pub record FitsUp (d : ScriptDraft) : Type 0 where
  pub before : FitsDown d
  pub few : length d.up ≤ 4096

pub record FitsLane (d : ScriptDraft) : Type 0 where
  pub before : FitsUp d
  pub lane : LaneFits d.version d.lane

pub record FitsCount (d : ScriptDraft) : Type 0 where
  pub before : FitsLane d
  pub some : 1 ≤ d.count
  pub few : d.count ≤ 64
  pub vcpus : AllByRecursion (VcpuFits d.version (machine_of d)) d.vcpus

pub record FitsOps (d : ScriptDraft) : Type 0 where
  pub before : FitsCount d
  pub room : length d.vcpus < d.count
  pub few_before : d.before.count ≤ 65536
  pub few_after : d.after.count ≤ 65536
  pub within_before : length d.before.items ≤ d.before.count
  pub within_after : length d.after.items ≤ d.after.count
  pub before_move : AllByRecursion (OpFits (machine_of d)) d.before.items
  pub after_move : AllByRecursion (LateOpFits d.version (machine_of d)) d.after.items
  pub in_turn : length d.before.items < d.before.count → d.after.items ≡ []

abbrev pub ScriptFits : ScriptStage → ScriptDraft → Type 0
ScriptFits Header d = Unit {0}
ScriptFits Pages d = Unit {0}
ScriptFits Cells d = (1 ≤ d.pages) × (d.pages ≤ (limits Small).pages)
ScriptFits InitCount d = IsExtent (machine_of d)
ScriptFits Init d = InitPart d
ScriptFits Window d = FitsPivots d
ScriptFits Down d = FitsWindow d
ScriptFits Up d = FitsDown d
ScriptFits Lanes d = FitsUp d × (d.version ≡ Two) × (d.lane ≡ None)
ScriptFits Lane d = FitsUp d × (d.version ≡ Two)
ScriptFits Count d = FitsLane d
ScriptFits First d = FitsCount d × (d.vcpus ≡ [])
ScriptFits Ops d = FitsOps d
ScriptFits Done d = FitsCount d × (length d.vcpus ≡ d.count)

pub record ScriptLive (stage : ScriptStage) (d : ScriptDraft) : Type 0 where
  pub exact : Exact SpellsScript (ScriptRest stage d) (script_held stage d)
  pub fits : ScriptFits stage d
