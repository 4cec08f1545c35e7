-- Why a scenario is no script: the first fault that applies, in the order of a script's text.
use Rattle.std.specs.Prelude.{ℕ, ◌+◌, ◌<◌, ◌≤◌, List, length, take, slice_get, IsSomeAnd}
use Rattle.std.specs.List.{AllByRecursion}
use Rattle.migration_types.specs.declared.version.Version.{Version}
use Rattle.migration_types.specs.Extents.{Extent}
use Rattle.migration_types.specs.Pages.{AreInitPages}
use Rattle.migration_events.specs.declared.events.Fate.{Fate}
use Rattle.migration_events.specs.Ops.{OpFits, LateOpFits}
use Rattle.guest_script.specs.declared.vcpus.Vcpu.{Vcpu as Processor}
use Rattle.guest_script.specs.declared.script_fault.ScriptFault.{ScriptFault}
use Rattle.guest_script.specs.declared.script_fault.ScriptFault.TheVariants.{Init, Pivots, Window, Down, Up, Lane, Vcpus, Vcpu}
use Rattle.guest_script.specs.declared.script_fault.VcpuFault.{VcpuFault}
use Rattle.guest_script.specs.declared.script_fault.VcpuFault.TheVariants.{ManyBefore, ManyAfter, Before, After}
use Rattle.guest_script.specs.declared.script.Scenario.{Scenario}
use Rattle.guest_script.specs.Scenarios.{VcpuFits, LaneFits}

-- the first n items are right, and with the next one they are not
abbrev pub IsFirstWrong : {A : Type 0} → (List A → Type 0) → List A → ℕ → Type 0
IsFirstWrong AreRight items n = AreRight (take n items) × (AreRight (take (n + 1) items) → ⊥)

abbrev pub FewOps : Processor → Type 0
FewOps vcpu = (length vcpu.before_move ≤ 65536) × (length vcpu.after_move ≤ 65536)

abbrev pub IsVcpuFault : Version → Extent → Processor → VcpuFault → Type 0
IsVcpuFault version e vcpu ManyBefore = 65536 < length vcpu.before_move
IsVcpuFault version e vcpu ManyAfter = (length vcpu.before_move ≤ 65536) × (65536 < length vcpu.after_move)
IsVcpuFault version e vcpu (Before n) = FewOps vcpu × IsFirstWrong (AllByRecursion (OpFits e)) vcpu.before_move n
IsVcpuFault version e vcpu (After n) = FewOps vcpu × AllByRecursion (OpFits e) vcpu.before_move × IsFirstWrong (AllByRecursion (LateOpFits version e)) vcpu.after_move n

-- the virtual processors before this one are within their limits, and it has this fault
abbrev pub IsFirstVcpuFault : Version → Extent → List Processor → ℕ → VcpuFault → Type 0
IsFirstVcpuFault version e vcpus n fault = AllByRecursion (VcpuFits version e) (take n vcpus) × IsSomeAnd (slice_get vcpus n) (λ vcpu. IsVcpuFault version e vcpu fault)

abbrev pub ArePivots : ℕ → Type 0
ArePivots pivots = (1 ≤ pivots) × (pivots ≤ 16)

abbrev pub IsWindow : ℕ → Type 0
IsWindow window = (1 ≤ window) × (window ≤ 65536)

abbrev pub AreFates : List Fate → Type 0
AreFates fates = length fates ≤ 4096

abbrev pub AreAsMany : List Processor → Type 0
AreAsMany vcpus = (1 ≤ length vcpus) × (length vcpus ≤ 64)

-- the parts before one are within their limits
abbrev pub ToPivots : Scenario → Type 0
ToPivots s = AreInitPages s.geometry s.init × ArePivots s.pivots

abbrev pub ToWindow : Scenario → Type 0
ToWindow s = ToPivots s × IsWindow s.window

abbrev pub ToDown : Scenario → Type 0
ToDown s = ToWindow s × AreFates s.down

abbrev pub ToUp : Scenario → Type 0
ToUp s = ToDown s × AreFates s.up

abbrev pub ToLane : Scenario → Type 0
ToLane s = ToUp s × LaneFits s.version s.lane

abbrev pub ToCount : Scenario → Type 0
ToCount s = ToLane s × AreAsMany s.vcpus

abbrev pub IsScriptFault : Scenario → ScriptFault → Type 0
IsScriptFault s (Init n) = IsFirstWrong (AreInitPages s.geometry) s.init n
IsScriptFault s Pivots = AreInitPages s.geometry s.init × (ArePivots s.pivots → ⊥)
IsScriptFault s Window = ToPivots s × (IsWindow s.window → ⊥)
IsScriptFault s Down = ToWindow s × (AreFates s.down → ⊥)
IsScriptFault s Up = ToDown s × (AreFates s.up → ⊥)
IsScriptFault s Lane = ToUp s × (LaneFits s.version s.lane → ⊥)
IsScriptFault s Vcpus = ToLane s × (AreAsMany s.vcpus → ⊥)
IsScriptFault s (Vcpu n fault) = ToCount s × IsFirstVcpuFault s.version s.geometry s.vcpus n fault
