-- A reader of scripts takes the lines that may come before the virtual processors, and no others.
use Rattle.std.proofs.Common.{◌≡◌, ◌≢◌, ℕ, ◌-◌, ◌<◌, ◌≤◌, ◌^◌, List, [], ◌∷◌, ◌++◌, length, map, refl, sym, ap, subst, ◌∙◌, append_assoc, length-append, arith}
use Rattle.std.specs.List.{AllByRecursion}
use Rattle.std.specs.Prelude.{codes, Some, None}
use Rattle.std.specs.Fmt.{decimal}
use Rattle.std.proofs.lemmas.List.{append-nil, append_cancel_left}
use Rattle.text_lines.specs.Counted.{Part, IsWhole}
use Rattle.text_lines.proofs.Sections.{section_push}
use Rattle.migration_types.specs.declared.pages.InitPage.{InitPage}
use Rattle.migration_types.specs.declared.size.Size.TheVariants.{Small}
use Rattle.migration_types.specs.declared.version.Version.{Version}
use Rattle.migration_types.specs.declared.version.Version.TheVariants.{One, Two}
use Rattle.migration_types.specs.Extents.{Extent, IsExtent}
use Rattle.migration_types.specs.Limits.{limits}
use Rattle.migration_types.specs.Pages.{InitPageFits}
use Rattle.migration_types.specs.Sessions.{HasLane}
use Rattle.migration_events.specs.declared.events.Fate.{Fate}
use Rattle.session_grammar.specs.Grammar.{pages_key, cells_key, init_key, page_line}
use Rattle.session_grammar.specs.inner.InitPages.{IsInitContent, Rise, next_from, next_push, rise_of, rise_long, rise_increases}
use Rattle.session_grammar.proofs.Laws.{extent_same, page_push, rise_at}
use Rattle.session_grammar.proofs.Values.{init_page_tells}
use Rattle.guest_script.specs.declared.stages.ScriptStage.{ScriptStage}
use Rattle.guest_script.specs.declared.stages.ScriptStage.TheVariants.{Pages, Cells, InitCount, Init, Window, Down, Up, Lanes, Lane, Count}
use Rattle.guest_script.specs.declared.script.Scenario.{Scenario}
use Rattle.guest_script.specs.Scenarios.{LaneFits, IsScenario}
use Rattle.guest_script.specs.Scripts.{script_header, pivots_key, window_key, down_key, up_key, lane_key, fates_text, vcpus_lines, with_lanes, lanes_lines, up_lines, down_lines, window_lines, pivots_lines, init_lines, cells_lines, SpellsScript}
use Rattle.guest_script.specs.inner.ScriptHeld.{ScriptDraft, small_machine, machine_of, held_down, held_up, script_held, InitLeft, ScriptRest, InitPart, FitsDown, FitsUp, FitsLane, ScriptFits, ScriptLive}
use Rattle.guest_script.proofs.ByVersion.{no_lane, with_lanes_same}
use Rattle.guest_script.proofs.Exactly.{exact_step}
use Rattle.guest_script.proofs.Lists.{all_at}
use Rattle.guest_script.proofs.TextLists.{cons_parts, cons_same, keyed_same, none_left}
use Rattle.guest_script.proofs.ScriptTells.{fates_tell}

-- ---- lines

-- a key with its number
keyed_on : (key : List ℕ) (n m : ℕ) (line : List ℕ) (more tail : List (List ℕ)) → n < 2 ^ 64 → m < 2 ^ 64 → line ≡ key ++ decimal n → line ∷ more ≡ (key ++ decimal m) ∷ tail → (m ≡ n) × (more ≡ tail)
keyed_on key n m line more tail p q is e = let parts = cons_parts line (key ++ decimal m) more tail e in (keyed_same key m n q p (sym parts.0 ∙ is), parts.1)

keyed_back : (key : List ℕ) (n m : ℕ) (line : List ℕ) (more tail : List (List ℕ)) → line ≡ key ++ decimal n → m ≡ n → more ≡ tail → line ∷ more ≡ (key ++ decimal m) ∷ tail
keyed_back key n m line more tail is same rest = cons_same line (key ++ decimal m) more tail (is ∙ ap (λ (k : ℕ). key ++ decimal k) (sym same)) rest

abbrev pub Taken : ScriptStage → ScriptStage → ScriptDraft → ScriptDraft → List ℕ → Type 0
Taken stage next d new line = ScriptLive next new × (script_held next new ≡ script_held stage d ++ line ∷ [])

abbrev pub RefusesAt : ScriptStage → ScriptDraft → List ℕ → Type 0
RefusesAt stage d line = (v : Scenario) (more : List (List ℕ)) → ScriptRest stage d v (line ∷ more) → ⊥

pub step : (stage next : ScriptStage) (d new : ScriptDraft) (line : List ℕ) → ScriptLive stage d → ScriptFits next new → script_held next new ≡ script_held stage d ++ line ∷ [] → ((v : Scenario) (more : List (List ℕ)) → ScriptRest stage d v (line ∷ more) → ScriptRest next new v more) → ((v : Scenario) (more : List (List ℕ)) → ScriptRest next new v more → ScriptRest stage d v (line ∷ more)) → Taken stage next d new line
step stage next d new line live fits grown on back = (record { exact = exact_step SpellsScript (ScriptRest stage d) (script_held stage d) live.exact (ScriptRest next new) (script_held next new) line grown on back; fits = fits }, grown)

-- ---- the machine

abbrev pub with_version : Version → ScriptDraft → ScriptDraft
with_version version d = record d { version = version }

abbrev pub with_pages : ℕ → ScriptDraft → ScriptDraft
with_pages n d = record d { pages = n }

pub pages_taken : (d : ScriptDraft) (n : ℕ) (line : List ℕ) → ScriptLive Pages d → 1 ≤ n → n ≤ (limits Small).pages → line ≡ pages_key ++ decimal n → Taken Pages Cells d (with_pages n d) line
pages_taken d n line live some few is = step Pages Cells d (with_pages n d) line live (some, few) (ap (λ (l : List ℕ). script_header d.version ∷ l ∷ []) (sym is))
    (λ v more r. let top = r.0.geometry.few_pages in let k = keyed_on pages_key n v.geometry.pages line more (cells_lines v) (omega arith) (omega arith) is r.2 in (r.0, r.1, k.0, k.1))
    (λ v more r. (r.0, r.1, keyed_back pages_key n v.geometry.pages line more (cells_lines v) is r.2 r.3))

abbrev pub with_cells : ℕ → ScriptDraft → ScriptDraft
with_cells n d = record d { cells = n }

pub cells_taken : (d : ScriptDraft) (n : ℕ) (line : List ℕ) → ScriptLive Cells d → IsExtent (small_machine d.pages n) → line ≡ cells_key ++ decimal n → Taken Cells InitCount d (with_cells n d) line
cells_taken d n line live fits is = step Cells InitCount d (with_cells n d) line live fits (ap (λ (l : List ℕ). script_header d.version ∷ (pages_key ++ decimal d.pages) ∷ l ∷ []) (sym is))
    (λ v more r.
    let top = r.0.geometry.few_cells in
    let few = fits.few_cells in
    let k = keyed_on cells_key n v.geometry.cells line more (init_lines v) (omega arith) (omega arith) is r.3 in
    (r.0, r.1, extent_same v.geometry (small_machine d.pages n) r.0.small r.2 k.0, k.1))
    (λ v more r. (r.0, r.1, ap (λ (e : Extent). e.pages) r.2, keyed_back cells_key n v.geometry.cells line more (init_lines v) is (ap (λ (e : Extent). e.cells) r.2) r.3))

-- ---- initial pages

pub few_init : (v : Scenario) → IsScenario v → length v.init ≤ v.geometry.pages
few_init v fits =
    let r = rise_of v.geometry v.init fits.init in
    let long = rise_long 0 r.0 v.init r.2 in
    let top = r.1 in
    omega arith

abbrev pub with_init : Part InitPage → ScriptDraft → ScriptDraft
with_init part d = record d { init = part }

pub init_count_taken : (d : ScriptDraft) (part : Part InitPage) (line : List ℕ) → ScriptLive InitCount d → part.items ≡ [] → part.count ≤ d.pages → line ≡ init_key ++ decimal part.count → Taken InitCount Init d (with_init part d) line
init_count_taken d part line live none few is =
    let pages = live.fits.few_pages in
    step InitCount Init d (with_init part d) line live
    (record { size = tt; geometry = live.fits; within = rw none (omega arith); each = rw none tt; rising = rw none refl; room = rw none (omega arith) })
    (rw (none, is) refl)
    (λ v more r.
    let most = few_init v r.0 in
    let top = r.0.geometry.few_pages in
    let k = keyed_on init_key part.count (length v.init) line more (map page_line v.init ++ pivots_lines v) (omega arith) (omega arith) is r.3 in
    record { fits = r.0; version = r.1; geometry = r.2; count = k.0; back = v.init; whole = ap (λ (t : List InitPage). t ++ v.init) (sym none); lines = k.1 })
    (λ v more r.
    let same : r.back ≡ v.init = sym (r.whole ∙ ap (λ (t : List InitPage). t ++ r.back) none) in
    (r.fits, r.version, r.geometry, keyed_back init_key part.count (length v.init) line more (map page_line v.init ++ pivots_lines v) is r.count (r.lines ∙ ap (λ (t : List InitPage). map page_line t ++ pivots_lines v) same)))

pub init_count_refused : (d : ScriptDraft) (line : List ℕ) → ((n : ℕ) → n ≤ d.pages → line ≢ init_key ++ decimal n) → RefusesAt InitCount d line
init_count_refused d line none v more r =
    let most = few_init v r.0 in
    let pages = ap (λ (e : Extent). e.pages) r.2 in
    none (length v.init) (omega arith) (cons_parts line (init_key ++ decimal (length v.init)) more (map page_line v.init ++ pivots_lines v) r.3).0

-- the page that may come
pub record NextPage (d : ScriptDraft) (v : Scenario) (line : List ℕ) (more : List (List ℕ)) : Type 0 where
  pub page : InitPage
  pub back : List InitPage
  pub whole : v.init ≡ d.init.items ++ page ∷ back
  pub spelled : line ≡ page_line page
  pub lines : more ≡ map page_line back ++ pivots_lines v
  pub fits : InitPageFits (machine_of d) page

pub next_page : (d : ScriptDraft) (line : List ℕ) (v : Scenario) (more : List (List ℕ)) → InitLeft d v (line ∷ more) → length d.init.items < d.init.count → NextPage d v line more
next_page d line v more r less = go r.back r.whole r.lines
  where
    go : (back : List InitPage) → v.init ≡ d.init.items ++ back → line ∷ more ≡ map page_line back ++ pivots_lines v → NextPage d v line more
    go [] whole lines = let n = ap (λ (t : List InitPage). length t) whole in absurd (omega (arith, n, length-append d.init.items [], r.count, less))
    go (p ∷ back) whole lines =
        let parts = cons_parts line (page_line p) more (map page_line back ++ pivots_lines v) lines in
        let each = subst (λ (t : List InitPage). AllByRecursion (InitPageFits v.geometry) t) whole r.fits.init.each in
        record { page = p; back = back; whole = whole; spelled = parts.0; lines = parts.1; fits = subst (λ (e : Extent). InitPageFits e p) r.geometry (all_at (InitPageFits v.geometry) d.init.items p back each) }

pub page_taken : (d : ScriptDraft) (p : InitPage) (part : Part InitPage) (line : List ℕ) → ScriptLive Init d → length d.init.items < d.init.count → part ≡ record { count = d.init.count; items = d.init.items ++ p ∷ [] } → next_from 0 d.init.items ≤ p.page → p.page ≤ d.pages - (d.init.count - length d.init.items) → IsInitContent d.cells p.cells → line ≡ page_line p → Taken Init Init d (with_init part d) line
page_taken d p part line live less is low high content spelled =
    let new : Part InitPage = record { count = d.init.count; items = d.init.items ++ p ∷ [] } in
    let fits = page_push d.version (machine_of d) d.init (next_from 0 d.init.items) (next_from 0 (d.init.items ++ p ∷ [])) p (next_push 0 d.init.items p) live.fits less low high content in
    let own = all_at (InitPageFits (machine_of d)) d.init.items p [] fits.each in
    rw is (step Init Init d (with_init new d) line live fits
    (ap (λ (t : List (List ℕ)). script_header d.version ∷ (pages_key ++ decimal d.pages) ∷ (cells_key ++ decimal d.cells) ∷ (init_key ++ decimal d.init.count) ∷ t) (sym (append-nil (map page_line (d.init.items ++ p ∷ []))) ∙ section_push page_line d.init.items p [] ∙ ap (λ (l : List ℕ). map page_line d.init.items ++ l ∷ []) (sym spelled)))
    (λ v more r.
    let n = next_page d line v more r less in
    let same = init_page_tells (machine_of d) live.fits.geometry p n.page own n.fits (sym spelled ∙ n.spelled) in
    record { fits = r.fits; version = r.version; geometry = r.geometry; count = r.count; back = n.back; whole = n.whole ∙ ap (λ (q : InitPage). d.init.items ++ q ∷ n.back) (sym same) ∙ sym (append_assoc d.init.items (p ∷ []) n.back); lines = n.lines })
    (λ v more r. record { fits = r.fits; version = r.version; geometry = r.geometry; count = r.count; back = p ∷ r.back; whole = r.whole ∙ append_assoc d.init.items (p ∷ []) r.back; lines = cons_same line (page_line p) more (map page_line r.back ++ pivots_lines v) spelled r.lines }))

pub page_refused : (d : ScriptDraft) (line : List ℕ) (last : ℕ) → InitPart d → length d.init.items < d.init.count → last ≡ d.pages - (d.init.count - length d.init.items) → ((p : InitPage) → (p.page ≤ last) × IsInitContent d.cells p.cells → next_from 0 d.init.items ≤ p.page → line ≢ page_line p) → RefusesAt Init d line
page_refused d line last fits less is none v more r =
    let n = next_page d line v more r less in
    let rises = rise_of v.geometry v.init r.fits.init in
    let high = rises.0 in
    let top = rises.1 in
    let few = r.fits.geometry.few_pages in
    let pages = ap (λ (e : Extent). e.pages) r.geometry in
    let few_own = fits.geometry.few_pages in
    let room = fits.room in
    let at = rise_at 0 high (next_from 0 d.init.items) d.init.items d.init.items n.page n.back (omega arith) (omega arith) (subst (λ (t : List InitPage). Rise 0 t high) n.whole rises.2) fits.rising refl in
    let long = ap (λ (t : List InitPage). length t) n.whole in
    none n.page (omega (arith, at.1, long, length-append d.init.items (n.page ∷ n.back), r.count), record { content = n.fits.content; not_zeros = n.fits.not_zeros }) at.0 n.spelled

-- ---- the numbers and the fates

-- no initial page is left
no_page : (d : ScriptDraft) (v : Scenario) (lines : List (List ℕ)) → InitLeft d v lines → IsWhole d.init → (v.init ≡ d.init.items) × (lines ≡ pivots_lines v)
no_page d v lines r all =
    let none = none_left v.init d.init.items r.back r.whole (r.count ∙ sym all) in
    (r.whole ∙ ap (λ (t : List InitPage). d.init.items ++ t) none ∙ append-nil d.init.items, r.lines ∙ ap (λ (t : List InitPage). map page_line t ++ pivots_lines v) none)

abbrev pub with_pivots : ℕ → ScriptDraft → ScriptDraft
with_pivots n d = record d { pivots = n }

pub pivots_taken : (d : ScriptDraft) (n : ℕ) (line : List ℕ) → ScriptLive Init d → IsWhole d.init → 1 ≤ n → n ≤ 16 → line ≡ pivots_key ++ decimal n → Taken Init Window d (with_pivots n d) line
pivots_taken d n line live all some few is = step Init Window d (with_pivots n d) line live
    (record { geometry = live.fits.geometry; init = record { each = live.fits.each; rising = rise_increases 0 (next_from 0 d.init.items) d.init.items live.fits.rising }; some = some; few = few })
    (rw is refl)
    (λ v more r.
    let top = r.fits.few_pivots in
    let left = no_page d v (line ∷ more) r all in
    let k = keyed_on pivots_key n v.pivots line more (window_lines v) (omega arith) (omega arith) is left.1 in
    (r.fits, ((r.version, r.geometry, left.0), k.0), k.1))
    (λ v more r. record { fits = r.0; version = r.1.0.0; geometry = r.1.0.1; count = ap (λ (t : List InitPage). length t) r.1.0.2 ∙ all; back = []; whole = r.1.0.2 ∙ sym (append-nil d.init.items); lines = keyed_back pivots_key n v.pivots line more (window_lines v) is r.1.1 r.2 })

abbrev pub with_window : ℕ → ScriptDraft → ScriptDraft
with_window n d = record d { window = n }

pub window_taken : (d : ScriptDraft) (n : ℕ) (line : List ℕ) → ScriptLive Window d → 1 ≤ n → n ≤ 65536 → line ≡ window_key ++ decimal n → Taken Window Down d (with_window n d) line
window_taken d n line live some few is = step Window Down d (with_window n d) line live
    (record { before = record { geometry = live.fits.geometry; init = live.fits.init; some = live.fits.some; few = live.fits.few }; some = some; few = few })
    (rw is refl)
    (λ v more r. let top = r.0.few_window in let k = keyed_on window_key n v.window line more (down_lines v) (omega arith) (omega arith) is r.2 in (r.0, (r.1, k.0), k.1))
    (λ v more r. (r.0, r.1.0, keyed_back window_key n v.window line more (down_lines v) is r.1.1 r.2))

-- a key with fates
fates_on : (key : List ℕ) (xs ys : List Fate) (line : List ℕ) (more tail : List (List ℕ)) → line ≡ key ++ fates_text xs → line ∷ more ≡ (key ++ fates_text ys) ∷ tail → (ys ≡ xs) × (more ≡ tail)
fates_on key xs ys line more tail is e = let parts = cons_parts line (key ++ fates_text ys) more tail e in (fates_tell ys xs (append_cancel_left key (fates_text ys) (fates_text xs) (sym parts.0 ∙ is)), parts.1)

fates_back : (key : List ℕ) (xs ys : List Fate) (line : List ℕ) (more tail : List (List ℕ)) → line ≡ key ++ fates_text xs → ys ≡ xs → more ≡ tail → line ∷ more ≡ (key ++ fates_text ys) ∷ tail
fates_back key xs ys line more tail is same rest = cons_same line (key ++ fates_text ys) more tail (is ∙ ap (λ (t : List Fate). key ++ fates_text t) (sym same)) rest

abbrev pub with_down : List Fate → ScriptDraft → ScriptDraft
with_down fates d = record d { down = fates }

pub down_taken : (d : ScriptDraft) (fates : List Fate) (line : List ℕ) → ScriptLive Down d → length fates ≤ 4096 → line ≡ down_key ++ fates_text fates → Taken Down Up d (with_down fates d) line
down_taken d fates line live few is =
    let f = live.fits in
    step Down Up d (with_down fates d) line live
    (record { before = record { before = record { geometry = f.before.geometry; init = f.before.init; some = f.before.some; few = f.before.few }; some = f.some; few = f.few }; few = few })
    (rw is refl)
    (λ v more r. let k = fates_on down_key fates v.down line more (up_lines v) is r.2 in (r.0, (r.1, k.0), k.1))
    (λ v more r. (r.0, r.1.0, fates_back down_key fates v.down line more (up_lines v) is r.1.1 r.2))

-- there is no lane until its line comes
abbrev pub with_up : List Fate → ScriptDraft → ScriptDraft
with_up fates d = record d { up = fates; lane = None }

up_fits : (d : ScriptDraft) (fates : List Fate) → FitsDown d → length fates ≤ 4096 → FitsUp (with_up fates d)
up_fits d fates f few = let p = f.before.before in record { before = record { before = record { before = record { geometry = p.geometry; init = p.init; some = p.some; few = p.few }; some = f.before.some; few = f.before.few }; few = f.few }; few = few }

-- a scenario of this version has these lines from here on
lanes_at : (version : Version) (v : Scenario) → v.version ≡ version → lanes_lines v ≡ with_lanes version v.lane (vcpus_lines v)
lanes_at version v is = with_lanes_same v.version version v.lane v.lane (vcpus_lines v) is refl

pub first_up_taken : (d : ScriptDraft) (fates : List Fate) (line : List ℕ) → ScriptLive Up d → d.version ≡ One → length fates ≤ 4096 → line ≡ up_key ++ fates_text fates → Taken Up Count d (with_up fates d) line
first_up_taken d fates line live one few is = step Up Count d (with_up fates d) line live (record { before = up_fits d fates live.fits few; lane = tt })
    (ap (λ (x : Version). held_up (with_up fates d) ++ with_lanes x None []) one ∙ append-nil (held_up (with_up fates d)) ∙ ap (λ (l : List ℕ). held_down d ++ l ∷ []) (sym is))
    (λ v more r.
    let k = fates_on up_key fates v.up line more (lanes_lines v) is r.2 in
    let is_one = r.1.0.0.0.0 ∙ one in
    (r.0, ((r.1, k.0), no_lane v.lane (subst (λ (x : Version). LaneFits x v.lane) is_one r.0.lane)), k.1 ∙ lanes_at One v is_one))
    (λ v more r. (r.0, r.1.0.0, fates_back up_key fates v.up line more (lanes_lines v) is r.1.0.1 (r.2 ∙ sym (lanes_at One v (r.1.0.0.0.0.0.0 ∙ one)))))

pub second_up_taken : (d : ScriptDraft) (fates : List Fate) (line : List ℕ) → ScriptLive Up d → d.version ≡ Two → length fates ≤ 4096 → line ≡ up_key ++ fates_text fates → Taken Up Lanes d (with_up fates d) line
second_up_taken d fates line live two few is = step Up Lanes d (with_up fates d) line live (up_fits d fates live.fits few, two, refl)
    (rw is refl)
    (λ v more r. let k = fates_on up_key fates v.up line more (lanes_lines v) is r.2 in (r.0, (r.1, k.0), k.1))
    (λ v more r. (r.0, r.1.0, fates_back up_key fates v.up line more (lanes_lines v) is r.1.1 r.2))

-- ---- the number of links that carry packets down, and the lane

abbrev pub with_lane : List Fate → ScriptDraft → ScriptDraft
with_lane fates d = record d { lane = Some fates }

pub lane_fits : (d : ScriptDraft) (fates : List Fate) → FitsUp d → LaneFits d.version (Some fates) → FitsLane (with_lane fates d)
lane_fits d fates u fits =
    let w = u.before.before in
    let p = w.before in
    record { before = record { before = record { before = record { before = record { geometry = p.geometry; init = p.init; some = p.some; few = p.few }; some = w.some; few = w.few }; few = u.before.few }; few = u.few }; lane = fits }

pub lane_taken : (d : ScriptDraft) (fates : List Fate) (line : List ℕ) → ScriptLive Lane d → length fates ≤ 4096 → line ≡ lane_key ++ fates_text fates → Taken Lane Count d (with_lane fates d) line
lane_taken d fates line live few is =
    let two = live.fits.1 in
    step Lane Count d (with_lane fates d) line live (lane_fits d fates live.fits.0 (subst HasLane (sym two) tt, few))
    (ap (λ (x : Version). held_up d ++ with_lanes x (Some fates) []) two ∙ ap (λ (l : List ℕ). held_up d ++ codes "lanes 2" ∷ l ∷ []) (sym is) ∙ sym (append_assoc (held_up d) (codes "lanes 2" ∷ []) (line ∷ [])))
    (λ v more r. let k = fates_on lane_key fates r.fates line more (vcpus_lines v) is r.lines in (r.fits, (r.agrees, r.lane ∙ ap Some k.0), k.1))
    (λ v more r. record { fits = r.0; agrees = r.1.0; fates = fates; lane = r.1.1; lines = fates_back lane_key fates fates line more (vcpus_lines v) is refl r.2 })
