-- Parts with a fault are no script.
use Rattle.std.proofs.Common.{◌≡◌, ℕ, ◌+◌, List, [], ◌∷◌, ◌++◌, take, drop, refl, sym, subst, arith}
use Rattle.std.specs.Prelude.{Option, Some, None, slice_get, IsSomeAnd}
use Rattle.std.specs.List.{AllByRecursion}
use Rattle.std.specs.List.Sorted.{IsStrictlyIncreasing}
use Rattle.std.proofs.lemmas.List.{take-append-drop, take_more}
use Rattle.std.proofs.lemmas.Option.{get_or_from_slice_get, slice_get_within}
use Rattle.migration_types.specs.declared.pages.InitPage.{InitPage}
use Rattle.migration_types.specs.declared.version.Version.{Version}
use Rattle.migration_types.specs.Extents.{Extent}
use Rattle.migration_types.specs.Pages.{AreInitPages, InitPageFits}
use Rattle.migration_events.specs.Ops.{OpFits, LateOpFits}
use Rattle.guest_script.specs.declared.vcpus.Vcpu.{Vcpu as Processor}
use Rattle.guest_script.specs.declared.script_fault.ScriptFault.{ScriptFault}
use Rattle.guest_script.specs.declared.script_fault.ScriptFault.TheVariants.{Init, Pivots, Window, Down, Up, Lane, Vcpus, Vcpu}
use Rattle.guest_script.specs.declared.script_fault.VcpuFault.{VcpuFault}
use Rattle.guest_script.specs.declared.script_fault.VcpuFault.TheVariants.{ManyBefore, ManyAfter, Before, After}
use Rattle.guest_script.specs.declared.script.Scenario.{Scenario}
use Rattle.guest_script.specs.Scenarios.{IsScenario, VcpuFits}
use Rattle.guest_script.specs.ScriptFaults.{IsScriptFault, IsVcpuFault}
use Rattle.guest_script.proofs.Lists.{all_at}
use Rattle.guest_script.proofs.Pages.{numbers, rise_front}

all_front : {X : Type 0} (P : X → Type 0) (xs ys : List X) → AllByRecursion P (xs ++ ys) → AllByRecursion P xs
all_front P [] ys h = tt
all_front P (x ∷ xs) ys h = (h.0, all_front P xs ys h.1)

all_take : {X : Type 0} (P : X → Type 0) (n : ℕ) (xs : List X) → AllByRecursion P xs → AllByRecursion P (take n xs)
all_take P n xs h = all_front P (take n xs) (drop n xs) (subst (AllByRecursion P) (sym (take-append-drop n xs)) h)

all_get : {X : Type 0} (P : X → Type 0) (n : ℕ) (xs : List X) (x : X) → AllByRecursion P xs → slice_get xs n ≡ Some x → P x
all_get P n xs x h is =
    let lt = slice_get_within xs n x is in
    let more : take (n + 1) xs ≡ take n xs ++ x ∷ [] = subst (λ (y : _). take (n + 1) xs ≡ take n xs ++ y ∷ []) (get_or_from_slice_get xs n x x is) (take_more xs n x lt) in
    all_at P (take n xs) x [] (subst (AllByRecursion P) more (all_take P (n + 1) xs h))

-- the first of a script's pages are in order too
pages_take : (e : Extent) (n : ℕ) (ps : List InitPage) → AreInitPages e ps → AreInitPages e (take n ps)
pages_take e n ps h = record {
  each = all_take (InitPageFits e) n ps h.each;
  rising = rise_front (take n ps) (drop n ps) (subst (λ (qs : List InitPage). IsStrictlyIncreasing (numbers qs)) (sym (take-append-drop n ps)) h.rising);
}

vcpu_none : (version : Version) (e : Extent) (vcpu : Processor) (fault : VcpuFault) → IsVcpuFault version e vcpu fault → VcpuFits version e vcpu → ⊥
vcpu_none version e vcpu ManyBefore h fits = absurd (omega (arith, h, fits.few_before))
vcpu_none version e vcpu ManyAfter h fits = absurd (omega (arith, h.1, fits.few_after))
vcpu_none version e vcpu (Before n) h fits = h.1.1 (all_take (OpFits e) (n + 1) vcpu.before_move fits.before_move)
vcpu_none version e vcpu (After n) h fits = h.2.1 (all_take (LateOpFits version e) (n + 1) vcpu.after_move fits.after_move)

found_none : (version : Version) (e : Extent) (fault : VcpuFault) (found : Option Processor) → ((vcpu : Processor) → found ≡ Some vcpu → VcpuFits version e vcpu) → IsSomeAnd found (λ vcpu. IsVcpuFault version e vcpu fault) → ⊥
found_none version e fault None fits h = h
found_none version e fault (Some vcpu) fits h = vcpu_none version e vcpu fault h (fits vcpu refl)

pub none_with_fault : (s : Scenario) (fault : ScriptFault) → IsScriptFault s fault → IsScenario s → ⊥
none_with_fault s (Init n) h fits = h.1 (pages_take s.geometry (n + 1) s.init fits.init)
none_with_fault s Pivots h fits = h.1 (fits.some_pivots, fits.few_pivots)
none_with_fault s Window h fits = h.1 (fits.some_window, fits.few_window)
none_with_fault s Down h fits = h.1 fits.few_down
none_with_fault s Up h fits = h.1 fits.few_up
none_with_fault s Lane h fits = h.1 fits.lane
none_with_fault s Vcpus h fits = h.1 (fits.some_vcpus, fits.few_vcpus)
none_with_fault s (Vcpu n fault) h fits = found_none s.version s.geometry fault (slice_get s.vcpus n) (λ vcpu is. all_get (VcpuFits s.version s.geometry) n s.vcpus vcpu fits.vcpus is) h.1.1
