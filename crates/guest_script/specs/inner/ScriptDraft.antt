-- How a reader of scripts changes with a line.
use Rattle.std.specs.Prelude.{◌≡◌, ◌≢◌, ℕ, List, [], ◌∷◌, ◌++◌, length, Result, Ok, Err}
use Rattle.text_lines.specs.declared.FaultKind.{FaultKind}
use Rattle.text_lines.specs.declared.FaultKind.TheVariants.{Memory}
use Rattle.guest_script.specs.declared.script_steps.ScriptParts.{ScriptParts}
use Rattle.guest_script.specs.declared.stages.ScriptStage.{ScriptStage}
use Rattle.guest_script.specs.declared.script.Scenario.{Scenario}
use Rattle.guest_script.specs.inner.ScriptHeld.{ScriptDraft, ScriptLive, ScriptRest, script_held, vcpu_of}

abbrev pub draft_of : ScriptParts → ScriptDraft
draft_of p = record { version = p.version; pages = p.sizes.pages; cells = p.sizes.cells; init = p.init; pivots = p.pivots; window = p.window; down = p.down; up = p.up; lane = p.lane; count = p.count; vcpus = p.vcpus.items; before = record { count = p.before_count; items = p.before.items }; after = record { count = p.after_count; items = p.after.items } }

-- The line is taken, and a stage follows. Or nothing changes, and, unless memory runs out, no script goes on with the
-- line.
abbrev pub ScriptStep : ScriptStage → ScriptDraft → List ℕ → ScriptDraft → Result ScriptStage FaultKind → Type 0
ScriptStep stage old line new (Ok next) = ScriptLive next new × (script_held next new ≡ script_held stage old ++ line ∷ [])
ScriptStep stage old line new (Err kind) = (new ≡ old) × (kind ≢ Memory → (v : Scenario) (more : List (List ℕ)) → ScriptRest stage old v (line ∷ more) → ⊥)

-- no operation of the current virtual processor is missing
abbrev pub HasAllOps : ScriptDraft → Type 0
HasAllOps d = (length d.before.items ≡ d.before.count) × (length d.after.items ≡ d.after.count)

-- a virtual processor is started, with these numbers of operations before its move and after it
abbrev pub begun : ℕ → ℕ → ScriptDraft → ScriptDraft
begun before after d = record d { before = record { count = before; items = [] }; after = record { count = after; items = [] } }

-- a virtual processor is completed
abbrev pub ended : ScriptDraft → ScriptDraft
ended d = record d {
  vcpus = d.vcpus ++ vcpu_of d.before.items d.after.items ∷ [];
  before = record { count = d.before.count; items = [] };
  after = record { count = d.after.count; items = [] };
}

abbrev pub held_at : ScriptStage → ScriptParts → List (List ℕ)
held_at stage p = script_held stage (draft_of p)

abbrev pub LiveAt : ScriptStage → ScriptParts → Type 0
LiveAt stage p = ScriptLive stage (draft_of p)
