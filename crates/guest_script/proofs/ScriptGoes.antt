-- Some script's text begins with the lines so far, and where all came, it is one.
use Rattle.std.proofs.Common.{◌≡◌, ◌≢◌, ℕ, ◌+◌, ◌-◌, ◌*◌, ◌<◌, ◌≤◌, ◌^◌, List, [], ◌∷◌, ◌++◌, length, map, replicate, refl, sym, ap, subst, ◌∙◌, length-append, arith}
use Rattle.std.specs.Prelude.{Option, Some, None, IfSome, IsSomeAnd, Result, Ok, Err, IfOk, IfErr, OnErr}
use Rattle.text_lines.specs.declared.FaultKind.{FaultKind}
use Rattle.text_lines.specs.declared.FaultKind.TheVariants.{Memory}
use Rattle.guest_script.specs.inner.ScriptDraft.{ScriptStep}
use Rattle.std.specs.List.{AllByRecursion}
use Rattle.std.proofs.lemmas.List.{length-map, length-replicate}
use Rattle.text_lines.specs.Text.{Begins}
use Rattle.migration_types.specs.declared.pages.InitPage.{InitPage}
use Rattle.migration_types.specs.declared.size.Size.{Size}
use Rattle.migration_types.specs.declared.size.Size.TheVariants.{Small}
use Rattle.migration_types.specs.declared.version.Version.{Version}
use Rattle.migration_types.specs.Extents.{Extent, IsExtent}
use Rattle.migration_types.specs.Limits.{limits}
use Rattle.migration_types.specs.Pages.{AreInitPages}
use Rattle.migration_types.specs.Sessions.{HasLane}
use Rattle.migration_events.specs.declared.events.Fate.{Fate}
use Rattle.migration_events.specs.declared.ops.Op.{Op}
use Rattle.migration_events.specs.declared.ops.Op.TheVariants.{Read}
use Rattle.migration_events.specs.Ops.{OpFits, LateOpFits}
use Rattle.session_grammar.specs.Grammar.{page_line, closing}
use Rattle.session_grammar.specs.inner.InitPages.{next_from, rise_increases}
use Rattle.session_grammar.proofs.Fillings.{init_filled}
use Rattle.guest_script.specs.declared.vcpus.Vcpu.{Vcpu}
use Rattle.guest_script.specs.declared.stages.ScriptStage.{ScriptStage}
use Rattle.guest_script.specs.declared.stages.ScriptStage.TheVariants.{Header, Pages, Cells, InitCount, Init, Window, Down, Up, Lanes, Lane, Count, First, Ops, Done}
use Rattle.guest_script.specs.declared.script.Scenario.{Scenario}
use Rattle.guest_script.specs.Scenarios.{LaneFits, VcpuFits, IsScenario}
use Rattle.guest_script.specs.Scripts.{lane_key, fates_text, op_line, vcpus_onto, vcpus_lines, lanes_lines, up_lines, down_lines, window_lines, pivots_lines, init_lines, cells_lines, pages_lines, script_lines, SpellsScript}
use Rattle.guest_script.specs.inner.ScriptHeld.{ScriptDraft, small_machine, machine_of, scenario_of, script_held, vcpu_of, ScriptRest, ScriptFits, ScriptLive, FitsPivots, FitsLane}
use Rattle.guest_script.proofs.ByVersion.{lanes_long, lanes_short}
use Rattle.guest_script.proofs.Exactly.{exact_refuses, exact_begins, exact_whole, exact_left}
use Rattle.guest_script.proofs.Lists.{all_append}
use Rattle.guest_script.proofs.TextLists.{all_replicate}
use Rattle.guest_script.proofs.ScriptSteps.{few_init, lane_fits, with_lane}

-- ---- a script that the lines so far may become

no_init : (e : Extent) → AreInitPages e []
no_init e = record { each = tt; rising = λ k lt. absurd (omega (arith, lt)) }

first_scenario : (version : Version) (e : Extent) (init : List InitPage) → IsExtent e → e.size ≡ Small → AreInitPages e init → (v : Scenario) × IsScenario v × (v.version ≡ version) × (v.geometry ≡ e) × (v.init ≡ init)
first_scenario version e init h is_small pages = (
  record { version = version; geometry = e; init = init; pivots = 1; window = 1; down = []; up = []; lane = None; vcpus = vcpu_of [] [] ∷ [] },
  record {
    geometry = h;
    small = is_small;
    init = pages;
    some_pivots = omega arith;
    few_pivots = omega arith;
    some_window = omega arith;
    few_window = omega arith;
    few_down = omega arith;
    few_up = omega arith;
    lane = tt;
    some_vcpus = omega arith;
    few_vcpus = omega arith;
    vcpus = (record { few_before = omega arith; few_after = omega arith; before_move = tt; after_move = tt }, tt);
  },
  refl,
  refl,
  refl,
)

abbrev with_vcpus : ScriptDraft → List Vcpu → Scenario
with_vcpus d vcpus = record (scenario_of d) { vcpus = vcpus }

-- any pivots, window and fates, and any virtual processors
scenario_fits : (d : ScriptDraft) (vcpus : List Vcpu) → FitsLane d → 1 ≤ length vcpus → length vcpus ≤ 64 → AllByRecursion (VcpuFits d.version (machine_of d)) vcpus → IsScenario (with_vcpus d vcpus)
scenario_fits d vcpus f some few each =
    let u = f.before in
    let w = u.before.before in
    let p = w.before in
    record { geometry = p.geometry; small = refl; init = p.init; some_pivots = p.some; few_pivots = p.few; some_window = w.some; few_window = w.few; few_down = u.before.few; few_up = u.few; lane = f.lane; some_vcpus = some; few_vcpus = few; vcpus = each }

-- with fields that did not come yet, and no lane
abbrev small : ℕ → List Fate → List Fate → ScriptDraft → ScriptDraft
small window down up d = record d { window = window; down = down; up = up; lane = None }

fits_small : (d : ScriptDraft) (window : ℕ) (down up : List Fate) → FitsPivots d → 1 ≤ window → window ≤ 65536 → length down ≤ 4096 → length up ≤ 4096 → FitsLane (small window down up d)
fits_small d window down up p some few few_down few_up = record { before = record { before = record { before = record { before = record { geometry = p.geometry; init = p.init; some = p.some; few = p.few }; some = some; few = few }; few = few_down }; few = few_up }; lane = tt }

-- virtual processors that do nothing
abbrev idles : ℕ → List Vcpu
idles n = replicate n (vcpu_of [] [])

idles_fit : (version : Version) (e : Extent) (n : ℕ) → AllByRecursion (VcpuFits version e) (idles n)
idles_fit version e n = all_replicate (VcpuFits version e) n (vcpu_of [] []) (record { few_before = omega arith; few_after = omega arith; before_move = tt; after_move = tt })

-- with one of these
abbrev idle : ScriptDraft → Scenario
idle d = with_vcpus d (idles 1)

idle_fits : (d : ScriptDraft) → FitsLane d → IsScenario (idle d)
idle_fits d f = scenario_fits d (idles 1) f (omega arith) (omega arith) (idles_fit d.version (machine_of d) 1)

rest_of : (stage : ScriptStage) (d : ScriptDraft) → ScriptFits stage d → (v : Scenario) × (more : List (List ℕ)) × ScriptRest stage d v more
rest_of Header d fits = let s = first_scenario d.version (small_machine 1 1) [] (record { some_pages = omega arith; few_pages = omega arith; some_cells = omega arith; few_cells = omega arith; few_in_all = omega arith; own = record { pages = omega arith; cells = omega arith } }) refl (no_init _) in (s.0, script_lines s.0, (s.1, refl))
rest_of Pages d fits = let s = first_scenario d.version (small_machine 1 1) [] (record { some_pages = omega arith; few_pages = omega arith; some_cells = omega arith; few_cells = omega arith; few_in_all = omega arith; own = record { pages = omega arith; cells = omega arith } }) refl (no_init _) in (s.0, pages_lines s.0, (s.1, s.2, refl))
rest_of Cells d fits =
    let e : Extent = small_machine d.pages 1 in
    let s = first_scenario d.version e [] (record { some_pages = fits.0; few_pages = omega (arith, fits.1); some_cells = omega arith; few_cells = omega arith; few_in_all = omega (arith, fits.1); own = record { pages = fits.1; cells = omega (arith, fits.1) } }) refl (no_init e) in
    (s.0, cells_lines s.0, (s.1, s.2, ap (λ (x : Extent). x.pages) s.3, refl))
rest_of InitCount d fits = let s = first_scenario d.version (machine_of d) [] fits refl (no_init (machine_of d)) in (s.0, init_lines s.0, (s.1, s.2, s.3, refl))
rest_of Init d fits =
    let filled = init_filled d.version (machine_of d) (next_from 0 d.init.items) d.init fits in
    let more = filled.0 in
    let s = first_scenario d.version (machine_of d) (d.init.items ++ more) fits.geometry refl (record { each = filled.2.each; rising = rise_increases 0 filled.1 (d.init.items ++ more) filled.2.rising }) in
    (s.0, map page_line more ++ pivots_lines s.0, record { fits = s.1; version = s.2; geometry = s.3; count = ap (λ (t : List InitPage). length t) s.4 ∙ filled.3; back = more; whole = s.4; lines = refl })
rest_of Window d fits =
    let s = small 1 [] [] d in
    (idle s, window_lines (idle s), (idle_fits s (fits_small d 1 [] [] fits (omega arith) (omega arith) (omega arith) (omega arith)), ((refl, refl, refl), refl), refl))
rest_of Down d fits =
    let s = small d.window [] [] d in
    (idle s, down_lines (idle s), (idle_fits s (fits_small d d.window [] [] fits.before fits.some fits.few (omega arith) (omega arith)), (((refl, refl, refl), refl), refl), refl))
rest_of Up d fits =
    let w = fits.before in
    let s = small d.window d.down [] d in
    (idle s, up_lines (idle s), (idle_fits s (fits_small d d.window d.down [] w.before w.some w.few fits.few (omega arith)), ((((refl, refl, refl), refl), refl), refl), refl))
rest_of Lanes d fits =
    let u = fits.0 in
    let w = u.before.before in
    let s = small d.window d.down d.up d in
    (idle s, lanes_lines (idle s), (idle_fits s (fits_small d d.window d.down d.up w.before w.some w.few u.before.few u.few), (((((refl, refl, refl), refl), refl), refl), refl), refl))
rest_of Lane d fits =
    let s = with_lane [] d in
    let lane : LaneFits d.version (Some []) = (subst HasLane (sym fits.1) tt, omega arith) in
    (idle s, (lane_key ++ fates_text []) ∷ vcpus_lines (idle s), record { fits = idle_fits s (lane_fits d [] fits.0 lane); agrees = (((((refl, refl, refl), refl), refl), refl), refl); fates = []; lane = refl; lines = refl })
rest_of Count d fits = (idle d, vcpus_lines (idle d), (idle_fits d fits, ((((((refl, refl, refl), refl), refl), refl), refl), refl), refl))
rest_of First d fits =
    let f = fits.0 in
    let some = f.some in
    let few = f.few in
    let long = length-replicate d.count (vcpu_of [] []) in
    (with_vcpus d (idles d.count), vcpus_onto (idles d.count) (closing ∷ []), (scenario_fits d (idles d.count) f.before (omega arith) (omega arith) (idles_fit d.version (machine_of d) d.count), ((((((refl, refl, refl), refl), refl), refl), refl), refl), long, refl))
rest_of Ops d fits =
    let c = fits.before in
    let h = c.before.before.before.before.before.geometry in
    let some_pages = h.some_pages in
    let some_cells = h.some_cells in
    let some = c.some in
    let few = c.few in
    let room = fits.room in
    let within_before = fits.within_before in
    let within_after = fits.within_after in
    let few_before = fits.few_before in
    let few_after = fits.few_after in
    let nb = d.before.count - length d.before.items in
    let na = d.after.count - length d.after.items in
    let m = d.count - length d.vcpus - 1 in
    let befores : List Op = replicate nb (Read 0 0) in
    let afters : List Op = replicate na (Read 0 0) in
    let lb : length befores ≡ nb = length-replicate nb (Read 0 0) in
    let la : length afters ≡ na = length-replicate na (Read 0 0) in
    let lm : length (idles m) ≡ m = length-replicate m (vcpu_of [] []) in
    let all_before : length (d.before.items ++ befores) ≡ d.before.count = omega (arith, length-append d.before.items befores, lb) in
    let all_after : length (d.after.items ++ afters) ≡ d.after.count = omega (arith, length-append d.after.items afters, la) in
    let this = vcpu_of (d.before.items ++ befores) (d.after.items ++ afters) in
    let vcpus = d.vcpus ++ this ∷ idles m in
    let count : length vcpus ≡ d.count = omega (arith, length-append d.vcpus (this ∷ idles m), lm) in
    let this_fits : VcpuFits d.version (machine_of d) this = record {
      few_before = omega arith;
      few_after = omega arith;
      before_move = all_append (OpFits (machine_of d)) d.before.items befores fits.before_move (all_replicate (OpFits (machine_of d)) nb (Read 0 0) (omega arith, omega arith));
      after_move = all_append (LateOpFits d.version (machine_of d)) d.after.items afters fits.after_move (all_replicate (LateOpFits d.version (machine_of d)) na (Read 0 0) (omega arith, omega arith));
    } in
    let each = all_append (VcpuFits d.version (machine_of d)) d.vcpus (this ∷ idles m) c.vcpus (this_fits, idles_fit d.version (machine_of d) m) in (
      with_vcpus d vcpus,
      map op_line befores ++ (map op_line afters ++ vcpus_onto (idles m) (closing ∷ [])),
      record {
        fits = scenario_fits d vcpus c.before (omega arith) (omega arith) each;
        agrees = ((((((refl, refl, refl), refl), refl), refl), refl), refl);
        count = count;
        befores = befores;
        afters = afters;
        back = idles m;
        whole = refl;
        all_before = all_before;
        all_after = all_after;
        lines = refl;
      },
    )
rest_of Done d fits =
    let f = fits.0 in
    let some = f.some in
    let few = f.few in
    (with_vcpus d d.vcpus, [], (scenario_fits d d.vcpus f.before (omega (arith, fits.1)) (omega (arith, fits.1)) f.vcpus, ((((((refl, refl, refl), refl), refl), refl), refl), refl), refl, refl))

pub live_begins : (stage : ScriptStage) (d : ScriptDraft) → ScriptLive stage d → Begins SpellsScript (script_held stage d)
live_begins stage d live = let r = rest_of stage d live.fits in exact_begins SpellsScript (ScriptRest stage d) (script_held stage d) live.exact r.0 r.1 r.2

-- ---- the lines are few

vcpus_few : (version : Version) (e : Extent) (vcpus : List Vcpu) (more : List (List ℕ)) → AllByRecursion (VcpuFits version e) vcpus → length (vcpus_onto vcpus more) ≤ 131073 * length vcpus + length more
vcpus_few version e [] more fits = omega arith
vcpus_few version e (vcpu ∷ vcpus) more fits =
    let rest = vcpus_few version e vcpus more fits.1 in
    let early = fits.0.few_before in
    let late = fits.0.few_after in
    omega (arith, length-append (map op_line vcpu.before_move) (map op_line vcpu.after_move ++ vcpus_onto vcpus more), length-append (map op_line vcpu.after_move) (vcpus_onto vcpus more), length-map vcpu.before_move op_line, length-map vcpu.after_move op_line)

script_few : (v : Scenario) → IsScenario v → length (script_lines v) ≤ 16777216
script_few v fits =
    let init = few_init v fits in
    let pages = subst (λ (size : Size). v.geometry.pages ≤ (limits size).pages) fits.small fits.geometry.own.pages in
    let few = fits.few_vcpus in
    let vcpus = vcpus_few v.version v.geometry v.vcpus (closing ∷ []) fits.vcpus in
    let lanes = lanes_short v.version v.lane (vcpus_lines v) in
    omega (arith, length-append (map page_line v.init) (pivots_lines v), length-map v.init page_line)

pub live_few : (stage : ScriptStage) (d : ScriptDraft) → ScriptLive stage d → length (script_held stage d) + 1 < 2 ^ 32
live_few stage d live =
    let b = live_begins stage d live in
    let whole = ap (λ (t : List (List ℕ)). length t) b.2.1 in
    let few = script_few b.0 b.2.0 in
    omega (arith, whole, length-append (script_held stage d) b.1)

-- ---- where all came, it is a text

done_spells : (d : ScriptDraft) → ScriptLive Done d → SpellsScript (scenario_of d) (script_held Done d)
done_spells d live =
    let f = live.fits.0 in
    let some = f.some in
    let few = f.few in
    exact_whole SpellsScript (ScriptRest Done d) (script_held Done d) live.exact (scenario_of d) (scenario_fits d d.vcpus f.before (omega (arith, live.fits.1)) (omega (arith, live.fits.1)) f.vcpus, ((((((refl, refl, refl), refl), refl), refl), refl), refl), refl, refl)

live_at : (stage at : ScriptStage) (d : ScriptDraft) → stage ≡ at → ScriptLive stage d → ScriptLive at d
live_at stage at d is live = subst (λ (s : ScriptStage). ScriptLive s d) is live

pub live_found : (stage : ScriptStage) (d : ScriptDraft) (held : List (List ℕ)) (answer : Option Scenario) → script_held stage d ≡ held → stage ≡ Done → ScriptLive stage d → IsSomeAnd answer (λ v. v ≡ scenario_of d) → IfSome answer (λ v. SpellsScript v held)
live_found stage d held None is at live some = absurd some
live_found stage d held (Some v) is at live some =
    let spells = done_spells d (live_at stage Done d at live) in
    let lines = ap (λ (s : ScriptStage). script_held s d) (sym at) ∙ is in
    subst (λ (w : Scenario). SpellsScript w held) (sym some) (subst (λ (t : List (List ℕ)). SpellsScript (scenario_of d) t) lines spells)

some_lines : (vcpus : List Vcpu) → 0 < length (vcpus_onto vcpus (closing ∷ []))
some_lines [] = omega arith
some_lines (vcpu ∷ vcpus) = omega arith

rest_not_none : (stage : ScriptStage) (d : ScriptDraft) → stage ≢ Done → (v : Scenario) → ScriptRest stage d v [] → ⊥
rest_not_none Header d other v r = let e = r.1 in absurd cc
rest_not_none Pages d other v r = let e = r.2 in absurd cc
rest_not_none Cells d other v r = let e = r.3 in absurd cc
rest_not_none InitCount d other v r = let e = r.3 in absurd cc
rest_not_none Init d other v r = let n = ap (λ (t : List (List ℕ)). length t) r.lines in absurd (omega (arith, n, length-append (map page_line r.back) (pivots_lines v)))
rest_not_none Window d other v r = let e = r.2 in absurd cc
rest_not_none Down d other v r = let e = r.2 in absurd cc
rest_not_none Up d other v r = let e = r.2 in absurd cc
rest_not_none Lanes d other v r = let n = ap (λ (t : List (List ℕ)). length t) r.2 in absurd (omega (arith, n, lanes_long v.version v.lane (vcpus_lines v)))
rest_not_none Lane d other v r = let e = r.lines in absurd cc
rest_not_none Count d other v r = let e = r.2 in absurd cc
rest_not_none First d other v r = let n = ap (λ (t : List (List ℕ)). length t) r.3 in absurd (omega (arith, n, some_lines v.vcpus))
rest_not_none Ops d other v r = let n = ap (λ (t : List (List ℕ)). length t) r.lines in absurd (omega (arith, n, length-append (map op_line r.befores) (map op_line r.afters ++ vcpus_onto r.back (closing ∷ [])), length-append (map op_line r.afters) (vcpus_onto r.back (closing ∷ [])), some_lines r.back))
rest_not_none Done d other v r = absurd (other refl)

pub live_not_whole : (stage : ScriptStage) (d : ScriptDraft) (held : List (List ℕ)) → script_held stage d ≡ held → ScriptLive stage d → stage ≢ Done → (v : Scenario) → SpellsScript v held → ⊥
live_not_whole stage d held is live other v s = rest_not_none stage d other v (exact_left SpellsScript (ScriptRest stage d) (script_held stage d) live.exact v (subst (SpellsScript v) (sym is) s))

pub live_refuses : (stage : ScriptStage) (d : ScriptDraft) (held : List (List ℕ)) (line : List ℕ) → script_held stage d ≡ held → ScriptLive stage d → ((v : Scenario) (more : List (List ℕ)) → ScriptRest stage d v (line ∷ more) → ⊥) → Begins SpellsScript (held ++ line ∷ []) → ⊥
live_refuses stage d held line is live none b = exact_refuses SpellsScript (ScriptRest stage d) (script_held stage d) live.exact line none (subst (λ (t : List (List ℕ)). Begins SpellsScript (t ++ line ∷ [])) (sym is) b)

-- ---- a line that was taken, as each text's reader tells it

pub taken : (stage : ScriptStage) (old new : ScriptDraft) (line : List ℕ) (r : Result ScriptStage FaultKind) → ScriptStep stage old line new r → IfOk r (λ next. ScriptLive next new × (script_held next new ≡ script_held stage old ++ line ∷ []))
taken stage old new line (Ok next) s = s
taken stage old new line (Err kind) s = tt

pub refused : (stage : ScriptStage) (old new : ScriptDraft) (line : List ℕ) (r : Result ScriptStage FaultKind) → ScriptLive stage old → ScriptStep stage old line new r → IfErr r (λ kind. kind ≢ Memory → Begins SpellsScript (script_held stage old ++ line ∷ []) → ⊥)
refused stage old new line (Ok next) live s = tt
refused stage old new line (Err kind) live s = λ other. live_refuses stage old (script_held stage old) line refl live (s.1 other)

pub still_live : (stage : ScriptStage) (old new : ScriptDraft) (line : List ℕ) (r : Result ScriptStage FaultKind) → ScriptLive stage old → ScriptStep stage old line new r → OnErr r (ScriptLive stage new)
still_live stage old new line (Ok next) live s = tt
still_live stage old new line (Err kind) live s = subst (ScriptLive stage) (sym s.0) live

pub still_held : (stage : ScriptStage) (old new : ScriptDraft) (line : List ℕ) (r : Result ScriptStage FaultKind) → ScriptStep stage old line new r → OnErr r (script_held stage new ≡ script_held stage old)
still_held stage old new line (Ok next) s = tt
still_held stage old new line (Err kind) s = ap (script_held stage) s.0
