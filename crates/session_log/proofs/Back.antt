-- Taking the last line back.
use Rattle.std.proofs.Common.{◌≡◌, ℕ, ◌+◌, ◌<◌, ◌≤◌, ◌^◌, List, [], ◌∷◌, ◌++◌, length, map, take, refl, sym, ap, subst, ◌∙◌, length-append, arith}
use Rattle.std.specs.List.{AllByRecursion}
use Rattle.std.specs.Fmt.{decimal}
use Rattle.std.proofs.lemmas.List.{length-map}
use Rattle.std.proofs.Math.Seq.{take-append_seam}
use Rattle.migration_types.specs.declared.records.GuestRec.{GuestRec}
use Rattle.migration_types.specs.declared.records.SourceRec.{SourceRec}
use Rattle.migration_types.specs.declared.records.LinkRec.{LinkRec}
use Rattle.migration_types.specs.declared.records.LaneRec.{LaneRec}
use Rattle.migration_types.specs.declared.records.PagerRec.{PagerRec}
use Rattle.migration_types.specs.declared.pages.InitPage.{InitPage}
use Rattle.migration_types.specs.declared.version.Version.{Version}
use Rattle.migration_types.specs.declared.version.Version.TheVariants.{One, Two}
use Rattle.migration_types.specs.Extents.{Extent}
use Rattle.migration_types.specs.Pages.{InitPageFits}
use Rattle.migration_types.specs.Sessions.{GuestRecFits, SourceRecFits, LinkRecFits, LaneRecFits, PagerRecFits}
use Rattle.session_grammar.specs.declared.stage.Stage.{Stage}
use Rattle.session_grammar.specs.declared.stage.Stage.TheVariants.{Header, Pages, Cells, InitCount, Init, Guest, Source, Link, Lane, Pager, Done}
use Rattle.session_grammar.specs.Records.{guest_line, source_line, link_line, lane_line, pager_line}
use Rattle.session_grammar.specs.inner.InitPages.{Rise, next_from}
use Rattle.session_grammar.specs.Grammar.{header, pages_key, cells_key, init_key, guest_key, source_key, link_key, lane_key, pager_key, page_line, closing}
use Rattle.session_grammar.specs.inner.Held.{SessionDraft, Part, part_onto, geometry_onto, init_onto, guest_onto, source_onto, link_onto, lane_part_onto, lane_onto, held_onto, InitFits, LogFits, most_of, GuestFits, SourceFits, LinkFits, LaneFits, Live}
use Rattle.session_log.specs.inner.Steps.{count_at, StepsBack}
use Rattle.session_grammar.proofs.ByVersion.{no_records_at, lane_is, lane_long}
use Rattle.session_log.proofs.Laws.{live_at}
use Rattle.session_grammar.proofs.Laws.{guest_part, source_part, link_part, lane_part, pager_part}
use Rattle.session_grammar.proofs.Sections.{onto_push, with_items}
use Rattle.session_log.proofs.Goes.{live_few}

all_front : {X : Type 0} (P : X → Type 0) (xs : List X) (x : X) → AllByRecursion P (xs ++ x ∷ []) → AllByRecursion P xs
all_front P [] x h = tt
all_front P (y ∷ ys) x h = (h.0, all_front P ys x h.1)

-- ---- a list without its last item

log_back : {X Y : Type 0} (most : ℕ) (Before : Type 0) (list : Part X) (Fits : Y → Type 0) (old new : Part Y) (y : Y) → LogFits most Before list Fits old → old ≡ with_items new (y ∷ []) → LogFits most Before list Fits new
log_back {X} {Y} most Before list Fits old new y f e =
    let g : LogFits most Before list Fits (with_items new (y ∷ [])) = subst (λ (p : Part Y). LogFits most Before list Fits p) e f in
    let within = g.within in
    record {
      before = g.before;
      whole = g.whole;
      few = g.few;
      within = omega (arith, length-append new.items (y ∷ []));
      each = all_front Fits new.items y g.each;
    }

onto_back : {X : Type 0} (key : List ℕ) (spell : X → List ℕ) (old new : Part X) (x : X) → old ≡ with_items new (x ∷ []) → part_onto key spell old [] ≡ part_onto key spell new (spell x ∷ [])
onto_back {X} key spell old new x e = ap (λ (p : Part X). part_onto key spell p []) e ∙ onto_push key spell new x []

pub onto_empty : {X : Type 0} (key : List ℕ) (spell : X → List ℕ) (old : Part X) → old.items ≡ [] → part_onto key spell old [] ≡ (key ++ decimal old.count) ∷ []
onto_empty {X} key spell old e = ap (λ (t : List X). (key ++ decimal old.count) ∷ (map spell t ++ [])) e

still_none : {X : Type 0} (old new : Part X) → (old.items ≡ []) × (new ≡ old) → new.items ≡ []
still_none {X} old new e = ap (λ (p : Part X). p.items) e.1 ∙ e.0

-- ---- a reader's last line, by stage

pub back : (stage at : Stage) (d new : SessionDraft) (next : Stage) → stage ≡ at → Live stage d → (Live at d → StepsBack at d new next) → StepsBack stage d new next
back stage at d new next is live f = subst (λ (s : Stage). StepsBack s d new next) (sym is) (f (live_at stage at d is live))

pub pages_back : (d : SessionDraft) → Live Pages d → StepsBack Pages d d Header
pages_back d live = (live.0, header d.version d.geometry.size, refl)

pub cells_back : (d : SessionDraft) → Live Cells d → StepsBack Cells d d Pages
cells_back d live = ((live.0, live.3), pages_key ++ decimal d.geometry.pages, refl)

pub init_count_back : (d : SessionDraft) → Live InitCount d → StepsBack InitCount d d Cells
init_count_back d live = ((live.0, live.1.some_pages, live.1.own.pages, live.2), cells_key ++ decimal d.geometry.cells, refl)

pub done_back : (d : SessionDraft) → Live Done d → StepsBack Done d d Pager
done_back d live = (live.0, closing, refl)

rise_next : (low high : ℕ) (ps : List InitPage) → Rise low ps high → high ≡ next_from low ps
rise_next low high [] r = sym r
rise_next low high (p ∷ ps) r = rise_next (p.page + 1) high ps r.1

rise_front : (low high : ℕ) (ps : List InitPage) (p : InitPage) → Rise low (ps ++ p ∷ []) high → (mid : ℕ) × Rise low ps mid × (mid ≤ p.page) × (p.page + 1 ≡ high)
rise_front low high [] p r = (low, refl, r.0, r.1)
rise_front low high (q ∷ qs) p r = let t = rise_front (q.page + 1) high qs p r.1 in (t.0, (r.0, t.1), t.2, t.3)

init_fits_back : (version : Version) (e : Extent) (next : ℕ) (old new : Part InitPage) (p : InitPage) → old ≡ with_items new (p ∷ []) → InitFits version e next old → InitFits version e (next_from 0 new.items) new
init_fits_back version e next old new p is f =
    let g : InitFits version e next (with_items new (p ∷ [])) = subst (λ (t : Part InitPage). InitFits version e next t) is f in
    let r = rise_front 0 next new.items p g.rising in
    let same = rise_next 0 r.0 new.items r.1 in
    let within = g.within in
    let room = g.room in
    let low = r.2 in
    let high = r.3 in
    let long = length-append new.items (p ∷ []) in
    record {
      size = g.size;
      geometry = g.geometry;
      within = omega arith;
      each = all_front (InitPageFits e) new.items p g.each;
      rising = subst (λ (k : ℕ). Rise 0 new.items k) same r.1;
      room = omega arith;
    }

abbrev pub with_init : SessionDraft → Part InitPage → SessionDraft
with_init d new = record d { init = new; next_page = next_from 0 new.items }

pub init_back : (d : SessionDraft) (new : Part InitPage) (p : InitPage) → d.init ≡ with_items new (p ∷ []) → Live Init d → StepsBack Init d (with_init d new) Init
init_back d new p e live = ((init_fits_back d.version d.geometry d.next_page d.init new p e live.0, live.1), page_line p, ap (geometry_onto d) (onto_back init_key page_line d.init new p e))

pub init_none_back : (d : SessionDraft) (new : Part InitPage) → (d.init.items ≡ []) × (new ≡ d.init) → Live Init d → StepsBack Init d (with_init d new) InitCount
init_none_back d new e live = (((still_none d.init new e, live.1), live.0.geometry, live.0.size), init_key ++ decimal d.init.count, ap (geometry_onto d) (onto_empty init_key page_line d.init e.0))

pub guest_back : (d : SessionDraft) (new : Part GuestRec) (y : GuestRec) → d.guest ≡ with_items new (y ∷ []) → Live Guest d → StepsBack Guest d (record d { guest = new }) Guest
guest_back d new y e live = ((log_back (most_of d) (InitFits d.version d.geometry d.next_page d.init) d.init (GuestRecFits d.geometry) d.guest new y live.0 e, live.1), guest_line y, ap (init_onto d) (onto_back guest_key guest_line d.guest new y e))

pub guest_none_back : (d : SessionDraft) (new : Part GuestRec) → (d.guest.items ≡ []) × (new ≡ d.guest) → Live Guest d → StepsBack Guest d (record d { guest = new }) Init
guest_none_back d new e live = ((live.0.before, (still_none d.guest new e, live.1)), guest_key ++ decimal d.guest.count, ap (init_onto d) (onto_empty guest_key guest_line d.guest e.0))

pub source_back : (d : SessionDraft) (new : Part SourceRec) (y : SourceRec) → d.source ≡ with_items new (y ∷ []) → Live Source d → StepsBack Source d (record d { source = new }) Source
source_back d new y e live = ((log_back (most_of d) (GuestFits d) d.guest (SourceRecFits d.geometry) d.source new y live.0 e, live.1), source_line y, ap (guest_onto d) (onto_back source_key source_line d.source new y e))

pub source_none_back : (d : SessionDraft) (new : Part SourceRec) → (d.source.items ≡ []) × (new ≡ d.source) → Live Source d → StepsBack Source d (record d { source = new }) Guest
source_none_back d new e live = ((live.0.before, (still_none d.source new e, live.1)), source_key ++ decimal d.source.count, ap (guest_onto d) (onto_empty source_key source_line d.source e.0))

pub link_back : (d : SessionDraft) (new : Part LinkRec) (y : LinkRec) → d.link ≡ with_items new (y ∷ []) → Live Link d → StepsBack Link d (record d { link = new }) Link
link_back d new y e live = ((log_back (most_of d) (SourceFits d) d.source (LinkRecFits d.geometry) d.link new y live.0 e, live.1), link_line y, ap (source_onto d) (onto_back link_key link_line d.link new y e))

pub link_none_back : (d : SessionDraft) (new : Part LinkRec) → (d.link.items ≡ []) × (new ≡ d.link) → Live Link d → StepsBack Link d (record d { link = new }) Source
link_none_back d new e live = ((live.0.before, (still_none d.link new e, live.1)), link_key ++ decimal d.link.count, ap (source_onto d) (onto_empty link_key link_line d.link e.0))

pub pager_back : (d : SessionDraft) (new : Part PagerRec) (y : PagerRec) → d.pager ≡ with_items new (y ∷ []) → Live Pager d → StepsBack Pager d (record d { pager = new }) Pager
pager_back d new y e live = (log_back (most_of d) (LaneFits d) d.lane (PagerRecFits d.version d.geometry) d.pager new y live e, pager_line y, ap (lane_onto d) (onto_back pager_key pager_line d.pager new y e))

pub lane_back : (d : SessionDraft) (new : Part LaneRec) (y : LaneRec) → d.lane ≡ with_items new (y ∷ []) → Live Lane d → StepsBack Lane d (record d { lane = new }) Lane
lane_back d new y e live =
    let lines = lane_line y ∷ [] in
    let held = lane_is d.version d.lane [] live.1 ∙ (onto_back lane_key lane_line d.lane new y e ∙ sym (lane_is d.version new lines live.1)) in
    ((log_back (most_of d) (LinkFits d) d.link (LaneRecFits d.version d.geometry) d.lane new y live.0 e, live.1, live.2), lane_line y, ap (link_onto d) held)

pub lane_none_back : (d : SessionDraft) (new : Part LaneRec) → (d.lane.items ≡ []) × (new ≡ d.lane) → Live Lane d → StepsBack Lane d (record d { lane = new }) Link
lane_none_back d new e live =
    ((live.0.before, (still_none d.lane new e, live.2)), lane_key ++ decimal d.lane.count, ap (link_onto d) (lane_is d.version d.lane [] live.1 ∙ onto_empty lane_key lane_line d.lane e.0))

-- in the first version it is the link's stage that the pager's follows
pub first_none_back : (d : SessionDraft) (new : Part PagerRec) → d.version ≡ One → (d.pager.items ≡ []) × (new ≡ d.pager) → Live Pager d → StepsBack Pager d (record d { pager = new }) Link
first_none_back d new first e live =
    let line = pager_key ++ decimal d.pager.count in
    ((live.before.before, (no_records_at (most_of d) d.version d.lane.items first live.before.each, still_none d.pager new e)), line, ap (lane_onto d) (onto_empty pager_key pager_line d.pager e.0) ∙ ap (λ (version : _). link_onto d (lane_part_onto version d.lane (line ∷ []))) first)

pub pager_none_back : (d : SessionDraft) (new : Part PagerRec) → d.version ≡ Two → (d.pager.items ≡ []) × (new ≡ d.pager) → Live Pager d → StepsBack Pager d (record d { pager = new }) Lane
pager_none_back d new second e live = ((live.before, second, still_none d.pager new e), pager_key ++ decimal d.pager.count, ap (lane_onto d) (onto_empty pager_key pager_line d.pager e.0))

-- ---- how many lines came

part_long : {X : Type 0} (key : List ℕ) (spell : X → List ℕ) (part : Part X) (more : List (List ℕ)) → length (part_onto key spell part more) ≡ length part.items + length more + 1
part_long key spell part more = omega (arith, length-append (map spell part.items) more, length-map part.items spell)

counted : (stage : Stage) (d : SessionDraft) → length (held_onto stage d []) ≡ count_at stage d
counted Header d = refl
counted Pages d = refl
counted Cells d = refl
counted InitCount d = refl
counted Init d = omega (arith, part_long init_key page_line d.init [])
counted Guest d = omega (arith, part_long init_key page_line d.init (guest_part d []), part_long guest_key guest_line d.guest [])
counted Source d = omega (arith, part_long init_key page_line d.init (guest_part d (source_part d [])), part_long guest_key guest_line d.guest (source_part d []), part_long source_key source_line d.source [])
counted Link d =
    let l = link_part d [] in
    omega (arith, part_long init_key page_line d.init (guest_part d (source_part d l)), part_long guest_key guest_line d.guest (source_part d l), part_long source_key source_line d.source l, part_long link_key link_line d.link [])
counted Lane d =
    let p = lane_part d [] in
    let l = link_part d p in
    omega (arith, lane_long d.version d.lane [], part_long init_key page_line d.init (guest_part d (source_part d l)), part_long guest_key guest_line d.guest (source_part d l), part_long source_key source_line d.source l, part_long link_key link_line d.link p)
counted Pager d =
    let p = pager_part d [] in
    let q = lane_part d p in
    let l = link_part d q in
    omega (arith, lane_long d.version d.lane p, part_long init_key page_line d.init (guest_part d (source_part d l)), part_long guest_key guest_line d.guest (source_part d l), part_long source_key source_line d.source l, part_long link_key link_line d.link q, part_long pager_key pager_line d.pager [])
counted Done d =
    let p = pager_part d (closing ∷ []) in
    let q = lane_part d p in
    let l = link_part d q in
    omega (arith, lane_long d.version d.lane p, part_long init_key page_line d.init (guest_part d (source_part d l)), part_long guest_key guest_line d.guest (source_part d l), part_long source_key source_line d.source l, part_long link_key link_line d.link q, part_long pager_key pager_line d.pager (closing ∷ []))

pub count_is : (stage : Stage) (d : SessionDraft) (held : List (List ℕ)) → held_onto stage d [] ≡ held → count_at stage d ≡ length held
count_is stage d held e = sym (counted stage d) ∙ ap length e

pub count_few : (stage : Stage) (d : SessionDraft) → Live stage d → count_at stage d < 2 ^ 32
count_few stage d live = let few = live_few stage d live in let c = counted stage d in omega arith

abbrev part_of : ℕ → List InitPage → Part InitPage
part_of count items = record { count = count; items = items }

-- pages that were taken are let go again
pub pages_let_go : (old mid new : Part InitPage) (taken : List InitPage) (came : ℕ) → mid.count ≡ old.count → mid.items ≡ old.items ++ taken → came ≡ length old.items → new ≡ record { count = mid.count; items = take came mid.items } → new ≡ old
pages_let_go old mid new taken came same e k is =
    let items : take came mid.items ≡ old.items = rw (e, k) (take-append_seam old.items taken) in
    is ∙ (ap (λ (n : ℕ). part_of n (take came mid.items)) same ∙ ap (part_of old.count) items)
