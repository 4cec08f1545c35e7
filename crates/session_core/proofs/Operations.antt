-- What an operation after the move comes to, and what a script in its limits says to the events and to the books.
use Rattle.std.proofs.Common.{◌≡◌, ◌∙◌, ℕ, ◌<◌, List, [], ◌∷◌, Option, Some, None, is_some, refl, ap, sym, subst, length, get_or}
use Rattle.std.proofs.lemmas.Option.{slice_get-get_or}
use Rattle.std.proofs.lemmas.List.{length-map}
use Rattle.std.specs.Prelude.{slice_get, map, IsTrue}
use Rattle.std.specs.List.{AllByRecursion}
use Rattle.migration_types.specs.Extents.{Extent}
use Rattle.migration_types.specs.declared.version.Version.{Version}
use Rattle.migration_types.specs.Pages.{InitPageFits}
use Rattle.migration_types.specs.Sessions.{HasLane}
use Rattle.migration_types.specs.declared.pages.InitPage.{InitPage}
use Rattle.page_store.specs.Frames.{IsPageOf}
use Rattle.migration_events.specs.declared.events.Fate.{Fate}
use Rattle.migration_events.specs.declared.ops.Op.{Op}
use Rattle.guest_script.specs.declared.vcpus.Vcpu.{Vcpu as Scheduled}
use Rattle.guest_script.specs.declared.script.Scenario.{Scenario}
use Rattle.guest_script.specs.Scenarios.{IsScenario, LaneFits, VcpuFits as ScheduledFits}
use Rattle.target_side.specs.TargetPart.{TargetPart, Accessed, target_access}
use Rattle.target_side.specs.declared.access.Access.{Access}
use Rattle.target_side.specs.declared.access.Access.TheVariants.{Done, Missed, Waiting}
use Rattle.migration_model.specs.Books.{Vcpu, VcpuFits, BooksAfter, IsScript}
use Rattle.migration_model.specs.Events.{away_step, away_ops, accessed}
use Rattle.session_core.specs.States.{vcpu_of, scripted_of, LeftFits}
use Rattle.session_core.specs.inner.Steps.{Next, late, late_by, went_on}

-- the virtual processor at a place that was read
pub read_at : (xs ys : List Vcpu) (n v : ℕ) (x : Vcpu) → ys ≡ xs → n ≡ v → n < length ys → x ≡ get_or ys n x → slice_get xs v ≡ Some x
read_at xs ys n v x same here lt is = subst (λ (k : ℕ). slice_get xs k ≡ Some x) here (subst (λ (zs : List Vcpu). slice_get zs n ≡ Some x) same (slice_get-get_or ys n x lt ∙ ap Some (sym is)))

-- the event from the halt on: what an operation comes to
as_after : (v : ℕ) (vcpu : Vcpu) (ops : List Op) (access : Access) (t : TargetPart) (a : BooksAfter)
    → accessed v vcpu ops (record { book = t; access = access }) a ≡ went_on v (record vcpu { after_move = ops }) (record { book = t; access = access }) a
as_after v vcpu ops (Done x) t a = refl
as_after v vcpu ops Missed t a = refl
as_after v vcpu ops Waiting t a = refl

late_by_goes : (v : ℕ) (vcpu : Vcpu) (ops : List Op) (next : Next) (a : BooksAfter) → late_by vcpu ops ≡ Some next
    → away_ops v vcpu ops a ≡ went_on v next.left (target_access v next.op a.target) a
late_by_goes v vcpu [] next a is = absurd cc
late_by_goes v vcpu (op ∷ ops) next a is =
    let same : record { op = op; left = record vcpu { after_move = ops } } ≡ next = cc in
    subst (λ (n : Next). away_ops v vcpu (op ∷ ops) a ≡ went_on v n.left (target_access v n.op a.target) a) same
    (as_after v vcpu ops (target_access v op a.target).access (target_access v op a.target).book a)

pub late_goes : (v : ℕ) (vcpu : Vcpu) (next : Next) (a : BooksAfter) (r : Accessed) → slice_get a.vcpus v ≡ Some vcpu → late vcpu ≡ Some next
    → r ≡ target_access v next.op a.target
    → went_on v next.left r a ≡ away_step v (slice_get a.vcpus v) a
late_goes v vcpu next a r at is done = ap (λ (q : Accessed). went_on v next.left q a) done ∙ sym (rw at (late_by_goes v vcpu vcpu.after_move next a is))

-- a script in its limits is one of the events, and all that it has to do is left
pub each_map : {A : Type 0} (P Q : A → Type 0) → ((x : A) → P x → Q x) → (xs : List A) → AllByRecursion P xs → AllByRecursion Q xs
each_map P Q go [] all = all
each_map P Q go (x ∷ xs) all = (go x all.0, each_map P Q go xs all.1)

pub all_left_fits : (version : Version) (e : Extent) (vcpus : List Scheduled) → AllByRecursion (ScheduledFits version e) vcpus → AllByRecursion (LeftFits version e) (map vcpu_of vcpus)
all_left_fits version e [] all = all
all_left_fits version e (vcpu ∷ vcpus) all = (record { before_move = all.0.before_move; after_move = all.0.after_move }, all_left_fits version e vcpus all.1)

all_scripted_fit : (version : Version) (e : Extent) (vcpus : List Scheduled) → AllByRecursion (ScheduledFits version e) vcpus → AllByRecursion (VcpuFits version e) (map vcpu_of vcpus)
all_scripted_fit version e [] all = all
all_scripted_fit version e (vcpu ∷ vcpus) all = (record { before_move = all.0.before_move; after_move = all.0.after_move }, all_scripted_fit version e vcpus all.1)

lane_is : (version : Version) (lane : Option (List Fate)) → LaneFits version lane → IsTrue (is_some lane) → HasLane version
lane_is version None fits has = absurd cc
lane_is version (Some fates) fits has = fits.0

pub script_is : (s : Scenario) → IsScenario s → IsScript (scripted_of s)
script_is s is = record {
  geometry = is.geometry;
  small = is.small;
  init = is.init;
  lane = lane_is s.version s.lane is.lane;
  few_vcpus = rw (length-map s.vcpus vcpu_of) is.few_vcpus;
  vcpus = all_scripted_fit s.version s.geometry s.vcpus is.vcpus;
}

pub init_is : (e : Extent) (init : List InitPage) → AllByRecursion (InitPageFits e) init → AllByRecursion (IsPageOf e) init
init_is e init all = each_map (InitPageFits e) (IsPageOf e) (λ p fits. record { page = fits.page; cells = fits.content.count }) init all
