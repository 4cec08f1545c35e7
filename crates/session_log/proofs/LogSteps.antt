-- A line that a list takes, one that begins a log, and an item that a list lets go.
use Rattle.std.proofs.Common.{◌≡◌, ◌≢◌, ℕ, ◌-◌, ◌<◌, ◌≤◌, List, [], ◌∷◌, ◌++◌, length, refl, sym, ap, subst, ◌∙◌, arith}
use Rattle.std.specs.Prelude.{Bool, true, false, Result, Ok, Err, OnOk, OnErr, IfOk, IfErr, ⊤}
use Rattle.std.specs.List.{AllByRecursion}
use Rattle.std.specs.Fmt.{decimal}
use Rattle.text_lines.specs.Counted.{TakesItem, DropsLast}
use Rattle.text_lines.specs.declared.FaultKind.{FaultKind}
use Rattle.text_lines.specs.declared.FaultKind.TheVariants.{Memory}
use Rattle.migration_types.specs.declared.records.GuestRec.{GuestRec}
use Rattle.migration_types.specs.declared.records.SourceRec.{SourceRec}
use Rattle.migration_types.specs.declared.records.LinkRec.{LinkRec}
use Rattle.migration_types.specs.declared.records.LaneRec.{LaneRec}
use Rattle.migration_types.specs.declared.records.PagerRec.{PagerRec}
use Rattle.migration_types.specs.declared.pages.InitPage.{InitPage}
use Rattle.migration_types.specs.declared.version.Version.{Version}
use Rattle.migration_types.specs.declared.version.Version.TheVariants.{One, Two}
use Rattle.migration_types.specs.Sessions.{GuestRecFits, SourceRecFits, LinkRecFits, LaneRecFits, PagerRecFits}
use Rattle.session_grammar.specs.declared.stage.Stage.{Stage}
use Rattle.session_grammar.specs.declared.stage.Stage.TheVariants.{Header, Pages, Cells, InitCount, Init, Guest, Source, Link, Lane, Pager, Done}
use Rattle.session_grammar.specs.Records.{guest_line, source_line, link_line, lane_line, pager_line}
use Rattle.session_grammar.specs.inner.InitPages.{IsInitContent, next_from, next_push}
use Rattle.session_grammar.specs.Grammar.{init_key, guest_key, source_key, link_key, lane_key, pager_key, page_line, closing}
use Rattle.session_grammar.specs.inner.Held.{SessionDraft, Part, part_onto, geometry_onto, init_onto, guest_onto, source_onto, link_onto, lane_onto, IsWhole, LogFits, most_of, InitFits, GuestFits, SourceFits, LinkFits, LaneFits, Live, held_onto}
use Rattle.session_log.specs.inner.Steps.{left_at, stage_before, Drops, Stays, Steps, StepsBack}
use Rattle.session_grammar.proofs.Sections.{with_items, onto_push, push_fits}
use Rattle.session_grammar.proofs.ByVersion.{lane_is}
use Rattle.session_log.proofs.Laws.{live_at, page_refused, guest_refused, source_refused, link_refused, lane_refused, pager_refused, guest_count_refused, source_count_refused, link_count_refused, behind_lane_refused, closing_refused}
use Rattle.session_grammar.proofs.Laws.{page_push}
use Rattle.session_log.proofs.Back.{onto_empty, with_init, pages_back, cells_back, init_count_back, done_back, init_back, init_none_back, guest_back, guest_none_back, source_back, source_none_back, link_back, link_none_back, lane_back, lane_none_back, pager_back, first_none_back, pager_none_back}

-- ---- an item

pub stays : (stage at : Stage) (d new : SessionDraft) (line : List ℕ) (r : Result (Unit {0}) FaultKind) → stage ≡ at → Live stage d → left_at stage d ≢ 0 → (Live at d → left_at at d ≢ 0 → Stays at d line new r) → Stays stage d line new r
stays stage at d new line r is live some f = subst (λ (s : Stage). Stays s d line new r) (sym is) (f (live_at stage at d is live) (subst (λ (s : Stage). left_at s d ≢ 0) is some))

pushed : {Y : Type 0} (key : List ℕ) (spell : Y → List ℕ) (log : Part Y) (y : Y) (line : List ℕ) → line ≡ spell y → part_onto key spell (with_items log (y ∷ [])) [] ≡ part_onto key spell log (line ∷ [])
pushed key spell log y line is = onto_push key spell log y [] ∙ ap (λ (l : List ℕ). part_onto key spell log (l ∷ [])) (sym is)

less_of : {Y : Type 0} (log : Part Y) → log.count - length log.items ≢ 0 → length log.items < log.count
less_of log some = omega (arith, some)

pub init_item : (d : SessionDraft) (p : Part InitPage) (line : List ℕ) (high : ℕ) (r : Result (Unit {0}) FaultKind) → d.next_page ≡ next_from 0 d.init.items → high ≡ d.geometry.pages - (d.init.count - length d.init.items) → OnOk r (TakesItem page_line (λ q. (q.page ≤ high) × IsInitContent d.geometry.cells q.cells) (λ before q. next_from 0 before ≤ q.page) d.init p line) → IfErr r (λ kind. kind ≢ Memory → (q : InitPage) → (q.page ≤ high) × IsInitContent d.geometry.cells q.cells → next_from 0 d.init.items ≤ q.page → line ≢ page_line q) → OnErr r (p ≡ d.init) → Live Init d → left_at Init d ≢ 0 → Stays Init d line (with_init d p) r
init_item d p line high (Ok done) next top t none same live some =
    let less = less_of d.init some in
    let page = t.item in
    let fits = page_push d.version d.geometry d.init d.next_page (next_from 0 (d.init.items ++ page ∷ [])) page (next_push 0 d.init.items page) live.0 less (omega (arith, next, t.follows)) (omega (arith, top, t.fits.0)) t.fits.1 in
    subst (λ (q : Part InitPage). Live Init (with_init d q) × (held_onto Init (with_init d q) [] ≡ held_onto Init d (line ∷ []))) (sym t.grown) ((fits, live.1), ap (geometry_onto d) (pushed init_key page_line d.init page line t.spelled))
init_item d p line high (Err kind) next top t none same live some = (
  ap (with_init d) same ∙ ap (λ (n : ℕ). record d { next_page = n }) (sym next),
  λ other b. page_refused d line high live.0 (less_of d.init some) top (λ q low within content. none other q (within, content) (omega (arith, next, low))) b,
)

pub guest_item : (d : SessionDraft) (p : Part GuestRec) (line : List ℕ) (r : Result (Unit {0}) FaultKind) → OnOk r (TakesItem guest_line (GuestRecFits d.geometry) (λ _ _. ⊤) d.guest p line) → IfErr r (λ kind. kind ≢ Memory → (x : GuestRec) → GuestRecFits d.geometry x → ⊤ → line ≢ guest_line x) → OnErr r (p ≡ d.guest) → Live Guest d → left_at Guest d ≢ 0 → Stays Guest d line (record d { guest = p }) r
guest_item d p line (Ok done) t none same live some =
    let fits = push_fits (most_of d) (InitFits d.version d.geometry d.next_page d.init) d.init (GuestRecFits d.geometry) d.guest t.item live.0 (less_of d.guest some) t.fits in
    subst (λ (q : Part GuestRec). Live Guest (record d { guest = q }) × (held_onto Guest (record d { guest = q }) [] ≡ held_onto Guest d (line ∷ []))) (sym t.grown) ((fits, live.1), ap (init_onto d) (pushed guest_key guest_line d.guest t.item line t.spelled))
guest_item d p line (Err kind) t none same live some = (ap (λ (q : Part GuestRec). record d { guest = q }) same, λ other b. guest_refused d line live.0 (less_of d.guest some) (λ x fits. none other x fits tt) b)

pub source_item : (d : SessionDraft) (p : Part SourceRec) (line : List ℕ) (r : Result (Unit {0}) FaultKind) → OnOk r (TakesItem source_line (SourceRecFits d.geometry) (λ _ _. ⊤) d.source p line) → IfErr r (λ kind. kind ≢ Memory → (x : SourceRec) → SourceRecFits d.geometry x → ⊤ → line ≢ source_line x) → OnErr r (p ≡ d.source) → Live Source d → left_at Source d ≢ 0 → Stays Source d line (record d { source = p }) r
source_item d p line (Ok done) t none same live some =
    let fits = push_fits (most_of d) (GuestFits d) d.guest (SourceRecFits d.geometry) d.source t.item live.0 (less_of d.source some) t.fits in
    subst (λ (q : Part SourceRec). Live Source (record d { source = q }) × (held_onto Source (record d { source = q }) [] ≡ held_onto Source d (line ∷ []))) (sym t.grown) ((fits, live.1), ap (guest_onto d) (pushed source_key source_line d.source t.item line t.spelled))
source_item d p line (Err kind) t none same live some = (ap (λ (q : Part SourceRec). record d { source = q }) same, λ other b. source_refused d line live.0 (less_of d.source some) (λ x fits. none other x fits tt) b)

pub link_item : (d : SessionDraft) (p : Part LinkRec) (line : List ℕ) (r : Result (Unit {0}) FaultKind) → OnOk r (TakesItem link_line (LinkRecFits d.geometry) (λ _ _. ⊤) d.link p line) → IfErr r (λ kind. kind ≢ Memory → (x : LinkRec) → LinkRecFits d.geometry x → ⊤ → line ≢ link_line x) → OnErr r (p ≡ d.link) → Live Link d → left_at Link d ≢ 0 → Stays Link d line (record d { link = p }) r
link_item d p line (Ok done) t none same live some =
    let fits = push_fits (most_of d) (SourceFits d) d.source (LinkRecFits d.geometry) d.link t.item live.0 (less_of d.link some) t.fits in
    subst (λ (q : Part LinkRec). Live Link (record d { link = q }) × (held_onto Link (record d { link = q }) [] ≡ held_onto Link d (line ∷ []))) (sym t.grown) ((fits, live.1), ap (source_onto d) (pushed link_key link_line d.link t.item line t.spelled))
link_item d p line (Err kind) t none same live some = (ap (λ (q : Part LinkRec). record d { link = q }) same, λ other b. link_refused d line live.0 (less_of d.link some) (λ x fits. none other x fits tt) b)

pub lane_item : (d : SessionDraft) (p : Part LaneRec) (line : List ℕ) (r : Result (Unit {0}) FaultKind) → OnOk r (TakesItem lane_line (LaneRecFits Two d.geometry) (λ _ _. ⊤) d.lane p line) → IfErr r (λ kind. kind ≢ Memory → (x : LaneRec) → LaneRecFits Two d.geometry x → ⊤ → line ≢ lane_line x) → OnErr r (p ≡ d.lane) → Live Lane d → left_at Lane d ≢ 0 → Stays Lane d line (record d { lane = p }) r
lane_item d p line (Ok done) t none same live some =
    let has = subst (λ (v : Version). LaneRecFits v d.geometry t.item) (sym live.1) t.fits in
    let fits = push_fits (most_of d) (LinkFits d) d.link (LaneRecFits d.version d.geometry) d.lane t.item live.0 (less_of d.lane some) has in
    let log = with_items d.lane (t.item ∷ []) in
    let held = lane_is d.version log [] live.1 ∙ (pushed lane_key lane_line d.lane t.item line t.spelled ∙ sym (lane_is d.version d.lane (line ∷ []) live.1)) in
    subst (λ (q : Part LaneRec). Live Lane (record d { lane = q }) × (held_onto Lane (record d { lane = q }) [] ≡ held_onto Lane d (line ∷ []))) (sym t.grown) ((fits, live.1, live.2), ap (link_onto d) held)
lane_item d p line (Err kind) t none same live some = (ap (λ (q : Part LaneRec). record d { lane = q }) same, λ other b. lane_refused d line live.0 live.1 (less_of d.lane some) (λ x fits. none other x fits tt) b)

pub pager_item : (d : SessionDraft) (p : Part PagerRec) (line : List ℕ) (r : Result (Unit {0}) FaultKind) → OnOk r (TakesItem pager_line (PagerRecFits d.version d.geometry) (λ _ _. ⊤) d.pager p line) → IfErr r (λ kind. kind ≢ Memory → (x : PagerRec) → PagerRecFits d.version d.geometry x → ⊤ → line ≢ pager_line x) → OnErr r (p ≡ d.pager) → Live Pager d → left_at Pager d ≢ 0 → Stays Pager d line (record d { pager = p }) r
pager_item d p line (Ok done) t none same live some =
    let fits = push_fits (most_of d) (LaneFits d) d.lane (PagerRecFits d.version d.geometry) d.pager t.item live (less_of d.pager some) t.fits in
    subst (λ (q : Part PagerRec). Live Pager (record d { pager = q }) × (held_onto Pager (record d { pager = q }) [] ≡ held_onto Pager d (line ∷ []))) (sym t.grown) (fits, ap (lane_onto d) (pushed pager_key pager_line d.pager t.item line t.spelled))
pager_item d p line (Err kind) t none same live some = (ap (λ (q : Part PagerRec). record d { pager = q }) same, λ other b. pager_refused d line live (less_of d.pager some) (λ x fits. none other x fits tt) b)

-- the other stages have no list
pub no_item : (stage : Stage) (d : SessionDraft) → left_at stage d ≢ 0 → stage ≢ Init → stage ≢ Guest → stage ≢ Source → stage ≢ Link → stage ≢ Lane → stage ≢ Pager → ⊥
no_item Header d some i g s l e p = some refl
no_item Pages d some i g s l e p = some refl
no_item Cells d some i g s l e p = some refl
no_item InitCount d some i g s l e p = some refl
no_item Init d some i g s l e p = i refl
no_item Guest d some i g s l e p = g refl
no_item Source d some i g s l e p = s refl
no_item Link d some i g s l e p = l refl
no_item Lane d some i g s l e p = e refl
no_item Pager d some i g s l e p = p refl
no_item Done d some i g s l e p = some refl

-- ---- the line behind a list

pub behind : (stage at : Stage) (d new : SessionDraft) (line : List ℕ) (r : Result Stage FaultKind) → stage ≡ at → Live stage d → left_at stage d ≡ 0 → (Live at d → left_at at d ≡ 0 → Steps at d line new r) → Steps stage d line new r
behind stage at d new line r is live none f = subst (λ (s : Stage). Steps s d line new r) (sym is) (f (live_at stage at d is live) (subst (λ (s : Stage). left_at s d ≡ 0) is none))

pub whole_of : {Y : Type 0} (log : Part Y) → length log.items ≤ log.count → log.count - length log.items ≡ 0 → IsWhole log
whole_of log within none = omega (arith, within, none)

-- a log was announced, and nothing came of it
abbrev pub Begun : {Y : Type 0} → ℕ → Stage → List ℕ → Part Y → List ℕ → Stage → Type 0
Begun most stage key p line next = (next ≡ stage) × (p.items ≡ []) × (p.count ≤ most) × (line ≡ key ++ decimal p.count)

begun_fits : {X Y : Type 0} (most : ℕ) (Before : Type 0) (list : Part X) (Fits : Y → Type 0) (p : Part Y) → Before → IsWhole list → p.items ≡ [] → p.count ≤ most → LogFits most Before list Fits p
begun_fits {X} {Y} most Before list Fits p before whole empty few = record {
  before = before;
  whole = whole;
  few = few;
  within = omega (arith, ap (λ (t : List Y). length t) empty);
  each = subst (AllByRecursion Fits) (sym empty) tt;
}

begun_line : {Y : Type 0} (key : List ℕ) (spell : Y → List ℕ) (p : Part Y) (line : List ℕ) → p.items ≡ [] → line ≡ key ++ decimal p.count → part_onto key spell p [] ≡ line ∷ []
begun_line key spell p line empty is = onto_empty key spell p empty ∙ ap (λ (l : List ℕ). l ∷ []) (sym is)

begun : (at stage : Stage) (d new : SessionDraft) (line : List ℕ) (next : Stage) → next ≡ stage → Live stage new → held_onto stage new [] ≡ held_onto at d (line ∷ []) → Steps at d line new (Ok next)
begun at stage d new line next is live held = subst (λ (s : Stage). Live s new × (held_onto s new [] ≡ held_onto at d (line ∷ []))) (sym is) (live, held)

pub guest_begins : (d : SessionDraft) (p : Part GuestRec) (line : List ℕ) (r : Result Stage FaultKind) → IfOk r (Begun (most_of d) Guest guest_key p line) → OnErr r ((n : ℕ) → n ≤ most_of d → line ≢ guest_key ++ decimal n) → OnErr r (p ≡ d.guest) → Live Init d → left_at Init d ≡ 0 → Steps Init d line (record d { guest = p }) r
guest_begins d p line (Ok next) t none same live left =
    let whole = whole_of d.init live.0.within left in
    begun Init Guest d (record d { guest = p }) line next t.0 (begun_fits (most_of d) (InitFits d.version d.geometry d.next_page d.init) d.init (GuestRecFits d.geometry) p live.0 whole t.1 t.2, live.1.1) (ap (init_onto d) (begun_line guest_key guest_line p line t.1 t.3))
guest_begins d p line (Err kind) t none same live left = (ap (λ (q : Part GuestRec). record d { guest = q }) same, λ _ b. guest_count_refused d line live.0 (whole_of d.init live.0.within left) none b)

pub source_begins : (d : SessionDraft) (p : Part SourceRec) (line : List ℕ) (r : Result Stage FaultKind) → IfOk r (Begun (most_of d) Source source_key p line) → OnErr r ((n : ℕ) → n ≤ most_of d → line ≢ source_key ++ decimal n) → OnErr r (p ≡ d.source) → Live Guest d → left_at Guest d ≡ 0 → Steps Guest d line (record d { source = p }) r
source_begins d p line (Ok next) t none same live left =
    let whole = whole_of d.guest live.0.within left in
    begun Guest Source d (record d { source = p }) line next t.0 (begun_fits (most_of d) (GuestFits d) d.guest (SourceRecFits d.geometry) p live.0 whole t.1 t.2, live.1.1) (ap (guest_onto d) (begun_line source_key source_line p line t.1 t.3))
source_begins d p line (Err kind) t none same live left = (ap (λ (q : Part SourceRec). record d { source = q }) same, λ _ b. source_count_refused d line live.0 (whole_of d.guest live.0.within left) none b)

pub link_begins : (d : SessionDraft) (p : Part LinkRec) (line : List ℕ) (r : Result Stage FaultKind) → IfOk r (Begun (most_of d) Link link_key p line) → OnErr r ((n : ℕ) → n ≤ most_of d → line ≢ link_key ++ decimal n) → OnErr r (p ≡ d.link) → Live Source d → left_at Source d ≡ 0 → Steps Source d line (record d { link = p }) r
link_begins d p line (Ok next) t none same live left =
    let whole = whole_of d.source live.0.within left in
    begun Source Link d (record d { link = p }) line next t.0 (begun_fits (most_of d) (SourceFits d) d.source (LinkRecFits d.geometry) p live.0 whole t.1 t.2, live.1.1) (ap (source_onto d) (begun_line link_key link_line p line t.1 t.3))
link_begins d p line (Err kind) t none same live left = (ap (λ (q : Part LinkRec). record d { link = q }) same, λ _ b. link_count_refused d line live.0 (whole_of d.source live.0.within left) none b)

pub pager_begins : (d : SessionDraft) (p : Part PagerRec) (line : List ℕ) (r : Result Stage FaultKind) → IfOk r (Begun (most_of d) Pager pager_key p line) → OnErr r ((n : ℕ) → n ≤ most_of d → line ≢ pager_key ++ decimal n) → OnErr r (p ≡ d.pager) → Live Lane d → left_at Lane d ≡ 0 → Steps Lane d line (record d { pager = p }) r
pager_begins d p line (Ok next) t none same live left =
    let whole = whole_of d.lane live.0.within left in
    begun Lane Pager d (record d { pager = p }) line next t.0 (begun_fits (most_of d) (LaneFits d) d.lane (PagerRecFits d.version d.geometry) p live.0 whole t.1 t.2) (ap (lane_onto d) (begun_line pager_key pager_line p line t.1 t.3))
pager_begins d p line (Err kind) t none same live left = (ap (λ (q : Part PagerRec). record d { pager = q }) same, λ _ b. behind_lane_refused d line live.0 (whole_of d.lane live.0.within left) none b)

pub ends : (d : SessionDraft) (line : List ℕ) (r : Result Stage FaultKind) → IfOk r (λ next. (next ≡ Done) × (line ≡ closing)) → OnErr r (line ≢ closing) → Live Pager d → left_at Pager d ≡ 0 → Steps Pager d line d r
ends d line (Ok next) t none live left = begun Pager Done d d line next t.0 (live, whole_of d.pager live.within left) (ap (λ (l : List ℕ). lane_onto d (part_onto pager_key pager_line d.pager (l ∷ []))) (sym t.1))
ends d line (Err kind) t none live left = (refl, λ _ b. closing_refused d line live (whole_of d.pager live.within left) none b)

-- ---- an item that is let go

pub drops : (stage at : Stage) (d new : SessionDraft) (r : Bool) → stage ≡ at → Live stage d → (Live at d → Drops at d new r) → Drops stage d new r
drops stage at d new r is live f = subst (λ (s : Stage). Drops s d new r) (sym is) (f (live_at stage at d is live))

pub init_drops : (d : SessionDraft) (p : Part InitPage) (r : Bool) → DropsLast d.init p r → Live Init d → Drops Init d (with_init d p) r
init_drops d p true lost live = init_back d p lost.0 lost.1 live
init_drops d p false lost live = init_none_back d p lost live

pub guest_drops : (d : SessionDraft) (p : Part GuestRec) (r : Bool) → DropsLast d.guest p r → Live Guest d → Drops Guest d (record d { guest = p }) r
guest_drops d p true lost live = guest_back d p lost.0 lost.1 live
guest_drops d p false lost live = guest_none_back d p lost live

pub source_drops : (d : SessionDraft) (p : Part SourceRec) (r : Bool) → DropsLast d.source p r → Live Source d → Drops Source d (record d { source = p }) r
source_drops d p true lost live = source_back d p lost.0 lost.1 live
source_drops d p false lost live = source_none_back d p lost live

pub link_drops : (d : SessionDraft) (p : Part LinkRec) (r : Bool) → DropsLast d.link p r → Live Link d → Drops Link d (record d { link = p }) r
link_drops d p true lost live = link_back d p lost.0 lost.1 live
link_drops d p false lost live = link_none_back d p lost live

pub lane_drops : (d : SessionDraft) (p : Part LaneRec) (r : Bool) → DropsLast d.lane p r → Live Lane d → Drops Lane d (record d { lane = p }) r
lane_drops d p true lost live = lane_back d p lost.0 lost.1 live
lane_drops d p false lost live = lane_none_back d p lost live

pager_none : (version : Version) (d : SessionDraft) (p : Part PagerRec) → d.version ≡ version → (d.pager.items ≡ []) × (p ≡ d.pager) → Live Pager d → StepsBack Pager d (record d { pager = p }) (stage_before Pager version)
pager_none One d p is none live = first_none_back d p is none live
pager_none Two d p is none live = pager_none_back d p is none live

pub pager_drops : (d : SessionDraft) (p : Part PagerRec) (r : Bool) → DropsLast d.pager p r → Live Pager d → Drops Pager d (record d { pager = p }) r
pager_drops d p true lost live = pager_back d p lost.0 lost.1 live
pager_drops d p false lost live = pager_none d.version d p refl lost live

-- the other stages have no list
pub no_drop : (stage : Stage) (d : SessionDraft) → Live stage d → stage ≢ Header → stage ≢ Init → stage ≢ Guest → stage ≢ Source → stage ≢ Link → stage ≢ Lane → stage ≢ Pager → Drops stage d d false
no_drop Header d live h i g s l e p = absurd (h refl)
no_drop Pages d live h i g s l e p = pages_back d live
no_drop Cells d live h i g s l e p = cells_back d live
no_drop InitCount d live h i g s l e p = init_count_back d live
no_drop Init d live h i g s l e p = absurd (i refl)
no_drop Guest d live h i g s l e p = absurd (g refl)
no_drop Source d live h i g s l e p = absurd (s refl)
no_drop Link d live h i g s l e p = absurd (l refl)
no_drop Lane d live h i g s l e p = absurd (e refl)
no_drop Pager d live h i g s l e p = absurd (p refl)
no_drop Done d live h i g s l e p = done_back d live
