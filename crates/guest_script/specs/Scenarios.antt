-- The limits of a script.
use Rattle.std.specs.Prelude.{◌≡◌, ◌≤◌, List, length, Option, Some, None}
use Rattle.std.specs.List.{AllByRecursion}
use Rattle.migration_types.specs.declared.size.Size.TheVariants.{Small}
use Rattle.migration_types.specs.declared.version.Version.{Version}
use Rattle.migration_types.specs.Extents.{Extent, IsExtent}
use Rattle.migration_types.specs.Pages.{AreInitPages}
use Rattle.migration_types.specs.Sessions.{HasLane}
use Rattle.migration_events.specs.declared.events.Fate.{Fate}
use Rattle.migration_events.specs.Ops.{OpFits, LateOpFits}
use Rattle.guest_script.specs.declared.script.Scenario.{Scenario}
use Rattle.guest_script.specs.declared.vcpus.Vcpu.{Vcpu}

pub record VcpuFits (version : Version) (e : Extent) (vcpu : Vcpu) : Type 0 where
  pub few_before : length vcpu.before_move ≤ 65536
  pub few_after : length vcpu.after_move ≤ 65536
  pub before_move : AllByRecursion (OpFits e) vcpu.before_move
  pub after_move : AllByRecursion (LateOpFits version e) vcpu.after_move

-- only scripts of the second version may have a lane
abbrev pub LaneFits : Version → Option (List Fate) → Type 0
LaneFits version None = Unit {0}
LaneFits version (Some fates) = HasLane version × (length fates ≤ 4096)

-- what a script says is within all limits, those of a small machine
pub record IsScenario (s : Scenario) : Type 0 where
  pub geometry : IsExtent s.geometry
  pub small : s.geometry.size ≡ Small
  pub init : AreInitPages s.geometry s.init
  pub some_pivots : 1 ≤ s.pivots
  pub few_pivots : s.pivots ≤ 16
  pub some_window : 1 ≤ s.window
  pub few_window : s.window ≤ 65536
  pub few_down : length s.down ≤ 4096
  pub few_up : length s.up ≤ 4096
  pub lane : LaneFits s.version s.lane
  pub some_vcpus : 1 ≤ length s.vcpus
  pub few_vcpus : length s.vcpus ≤ 64
  pub vcpus : AllByRecursion (VcpuFits s.version s.geometry) s.vcpus
