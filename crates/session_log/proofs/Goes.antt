-- Each state of a reader goes on to a text.
use Rattle.std.proofs.Common.{◌≡◌, ◌≢◌, ℕ, ◌+◌, ◌*◌, ◌<◌, ◌≤◌, ◌^◌, List, [], ◌∷◌, ◌++◌, length, map, refl, sym, ap, subst, ◌∙◌, length-append, arith}
use Rattle.std.specs.Fmt.{decimal}
use Rattle.std.proofs.lemmas.List.{append-nil, length-map}
use Rattle.text_lines.specs.Text.{Begins}
use Rattle.text_lines.proofs.Cut.{Begins-front}
use Rattle.migration_types.specs.declared.records.GuestRec.TheVariants.{Halt}
use Rattle.migration_types.specs.declared.records.SourceRec.TheVariants.{State}
use Rattle.migration_types.specs.declared.records.LinkRec.TheVariants.{Down}
use Rattle.migration_types.specs.declared.records.LaneRec.TheVariants.{Down as LaneDown}
use Rattle.migration_types.specs.declared.records.PagerRec.TheVariants.{All}
use Rattle.migration_types.specs.declared.size.Size.TheVariants.{Small}
use Rattle.migration_types.specs.declared.version.Version.{Version}
use Rattle.migration_types.specs.declared.version.Version.TheVariants.{One, Two}
use Rattle.migration_types.specs.Extents.{Extent, IsExtent}
use Rattle.migration_types.specs.declared.records.LogName.{LogName}
use Rattle.migration_types.specs.declared.records.LogName.TheVariants as logs
use Rattle.migration_types.specs.Limits.{HasSize, limits, limits_at_most, most_pages, longest_log}
use Rattle.migration_types.specs.Sessions.{Recorded, IsSession, log_length, GuestRecFits, SourceRecFits, LinkRecFits, LaneRecFits, PagerRecFits}
use Rattle.session_grammar.specs.declared.stage.Stage.{Stage}
use Rattle.session_grammar.specs.declared.stage.Stage.TheVariants.{Header, Pages, Cells, InitCount, Init, Guest, Source, Link, Lane, Pager, Done}
use Rattle.session_grammar.specs.Records.{guest_line, source_line, link_line, lane_line, pager_line}
use Rattle.migration_types.specs.inner.Room.{limits_some}
use Rattle.session_grammar.specs.inner.InitPages.{rise_long, rise_increases}
use Rattle.session_grammar.specs.Grammar.{header, pages_key, cells_key, init_key, guest_key, source_key, link_key, lane_key, pager_key, page_line, closing, session_lines, SpellsSession}
use Rattle.session_grammar.specs.inner.Held.{SessionDraft, Part, part_onto, geometry_onto, init_onto, guest_onto, source_onto, link_onto, lane_onto, pager_onto, held_onto, IsWhole, LogFits, most_of, GuestFits, SourceFits, LinkFits, LaneFits, PagerFits, Live}
use Rattle.session_grammar.proofs.Sections.{with_items, onto_more, onto_whole, fresh, fresh_fits, missing, filled_whole, filled_fits}
use Rattle.session_grammar.proofs.ByVersion.{one_version, lane_is, lane_whole, lane_long, lane_short, lane_some}
use Rattle.session_grammar.proofs.Laws.{held_append, extent, StartFits, guest_part, source_part, link_part, lane_part, pager_part, pager_lines, lane_lines, link_lines, source_lines, guest_lines}
use Rattle.session_log.proofs.Laws.{init_agrees, guest_agrees, source_agrees, link_agrees, lane_agrees, pager_agrees}
use Rattle.session_grammar.proofs.Fillings.{init_filled, no_rest}

-- ---- a whole draft is a session

abbrev pub session_of : SessionDraft → Recorded
session_of d = record { version = d.version; geometry = d.geometry; init = d.init.items; guest = d.guest.items; source = d.source.items; link = d.link.items; lane = d.lane.items; pager = d.pager.items }

few_items : {X Y : Type 0} (most : ℕ) (Before : Type 0) (list : Part X) (Fits : Y → Type 0) (log : Part Y) → LogFits most Before list Fits log → length log.items ≤ most
few_items most Before list Fits log f = let few = f.few in let within = f.within in omega arith

-- no log is longer than the size allows
own_few : (d : SessionDraft) → PagerFits d → (log : LogName) → log_length (session_of d) log ≤ most_of d
own_few d f logs.Guest = few_items (most_of d) (StartFits d) d.init (GuestRecFits d.geometry) d.guest f.before.before.before.before
own_few d f logs.Source = few_items (most_of d) (GuestFits d) d.guest (SourceRecFits d.geometry) d.source f.before.before.before
own_few d f logs.Link = few_items (most_of d) (SourceFits d) d.source (LinkRecFits d.geometry) d.link f.before.before
own_few d f logs.Lane = few_items (most_of d) (LinkFits d) d.link (LaneRecFits d.version d.geometry) d.lane f.before
own_few d f logs.Pager = few_items (most_of d) (LaneFits d) d.lane (PagerRecFits d.version d.geometry) d.pager f

few_at : (d : SessionDraft) → PagerFits d → (log : LogName) → log_length (session_of d) log ≤ longest_log
few_at d f log = let own = own_few d f log in let most = (limits_at_most d.geometry.size).few_records in omega arith

pub whole_fits : (d : SessionDraft) → PagerFits d → IsSession (session_of d)
whole_fits d f =
    let lane = f.before in
    let link = lane.before in
    let source = link.before in
    let guest = source.before in
    let init = guest.before in
    record {
      size = init.size;
      geometry = init.geometry;
      init = record { each = init.each; rising = rise_increases 0 d.next_page d.init.items init.rising };
      few_guest = few_at d f logs.Guest;
      few_source = few_at d f logs.Source;
      few_link = few_at d f logs.Link;
      few_lane = few_at d f logs.Lane;
      few_pager = few_at d f logs.Pager;
      own = own_few d f;
      guest = guest.each;
      source = source.each;
      link = link.each;
      lane = lane.each;
      pager = f.each;
    }

whole_lines : (d : SessionDraft) → PagerFits d → IsWhole d.pager → held_onto Done d [] ≡ session_lines (session_of d)
whole_lines d f whole =
    let v = session_of d in
    let end_lines = closing ∷ [] in
    let pager = onto_whole pager_key pager_line d.pager end_lines end_lines whole refl in
    let lane = lane_whole d.version d.lane (pager_part d end_lines) (pager_lines v) f.whole pager in
    let held = lane_part d (pager_part d end_lines) in
    let link = onto_whole link_key link_line d.link held (lane_lines v) f.before.whole lane in
    let source = onto_whole source_key source_line d.source (link_part d held) (link_lines v) f.before.before.whole link in
    let guest = onto_whole guest_key guest_line d.guest (source_part d (link_part d held)) (source_lines v) f.before.before.before.whole source in
    let init = onto_whole init_key page_line d.init (guest_part d (source_part d (link_part d held))) (guest_lines v) f.before.before.before.before.whole guest in
    ap (geometry_onto d) init

pub done_spells : (d : SessionDraft) → PagerFits d → IsWhole d.pager → SpellsSession (session_of d) (held_onto Done d [])
done_spells d f whole = (whole_fits d f, whole_lines d f whole)

-- ---- from each state there are lines to a whole draft

step : (stage next : Stage) (d e : SessionDraft) (more : List (List ℕ)) → held_onto stage d more ≡ held_onto next e [] → Begins SpellsSession (held_onto next e []) → Begins SpellsSession (held_onto stage d [])
step stage next d e more eq b = Begins-front SpellsSession (held_onto stage d []) more (subst (Begins SpellsSession) (sym (held_append stage d [] more ∙ eq)) b)

done_begins : (d : SessionDraft) → PagerFits d → IsWhole d.pager → Begins SpellsSession (held_onto Done d [])
done_begins d f whole = (session_of d, [], (whole_fits d f, append-nil (held_onto Done d []) ∙ whole_lines d f whole))

pager_begins : (d : SessionDraft) → PagerFits d → Begins SpellsSession (held_onto Pager d [])
pager_begins d f =
    let more = missing d.pager All in
    let e : SessionDraft = record d { pager = with_items d.pager more } in
    step Pager Done d e (map pager_line more ++ closing ∷ []) (ap (lane_onto d) (onto_more pager_key pager_line d.pager more (closing ∷ [])))
    (done_begins e (filled_fits (most_of d) (LaneFits d) d.lane (PagerRecFits d.version d.geometry) d.pager All f tt) (filled_whole d.pager All f.within))

lane_begins : (d : SessionDraft) → LaneFits d → d.version ≡ Two → Begins SpellsSession (held_onto Lane d [])
lane_begins d f second =
    let more = missing d.lane (LaneDown 0) in
    let log = with_items d.lane more in
    let rest = (pager_key ++ decimal 0) ∷ [] in
    let e : SessionDraft = record d { lane = log; pager = fresh 0 } in
    let lines = map lane_line more ++ rest in
    let has : LaneRecFits d.version d.geometry (LaneDown 0) = subst (λ (v : Version). LaneRecFits v d.geometry (LaneDown 0)) (sym second) (tt, (limits_some d.geometry.size).records) in
    step Lane Pager d e lines (ap (link_onto d) (lane_is d.version d.lane lines second ∙ (onto_more lane_key lane_line d.lane more rest ∙ sym (lane_is d.version log rest second))))
    (pager_begins e (fresh_fits (most_of d) (LaneFits e) log (PagerRecFits d.version d.geometry) 0 (filled_fits (most_of d) (LinkFits d) d.link (LaneRecFits d.version d.geometry) d.lane (LaneDown 0) f has) (filled_whole d.lane (LaneDown 0) f.within) (omega arith)))

link_begins : (d : SessionDraft) → LinkFits d → Begins SpellsSession (held_onto Link d [])
link_begins d f =
    let more = missing d.link (Down 0) in
    let log = with_items d.link more in
    let e : SessionDraft = record d { link = log; lane = fresh 0; pager = fresh 0 } in
    let rest = lane_part e ((pager_key ++ decimal 0) ∷ []) in
    let link = filled_fits (most_of d) (SourceFits d) d.source (LinkRecFits d.geometry) d.link (Down 0) f (limits_some d.geometry.size).records in
    let lane = fresh_fits (most_of d) (LinkFits e) log (LaneRecFits d.version d.geometry) 0 link (filled_whole d.link (Down 0) f.within) (omega arith) in
    step Link Pager d e (map link_line more ++ rest) (ap (source_onto d) (onto_more link_key link_line d.link more rest))
    (pager_begins e (fresh_fits (most_of d) (LaneFits e) (fresh 0) (PagerRecFits d.version d.geometry) 0 lane refl (omega arith)))

source_begins : (d : SessionDraft) → SourceFits d → Begins SpellsSession (held_onto Source d [])
source_begins d f =
    let more = missing d.source State in
    let log = with_items d.source more in
    let line = link_key ++ decimal 0 in
    let e : SessionDraft = record d { source = log; link = fresh 0 } in
    step Source Link d e (map source_line more ++ line ∷ []) (ap (guest_onto d) (onto_more source_key source_line d.source more (line ∷ [])))
    (link_begins e (fresh_fits (most_of d) (SourceFits e) log (LinkRecFits d.geometry) 0 (filled_fits (most_of d) (GuestFits d) d.guest (SourceRecFits d.geometry) d.source State f tt) (filled_whole d.source State f.within) (omega arith)))

guest_begins : (d : SessionDraft) → GuestFits d → Begins SpellsSession (held_onto Guest d [])
guest_begins d f =
    let more = missing d.guest Halt in
    let log = with_items d.guest more in
    let line = source_key ++ decimal 0 in
    let e : SessionDraft = record d { guest = log; source = fresh 0 } in
    step Guest Source d e (map guest_line more ++ line ∷ []) (ap (init_onto d) (onto_more guest_key guest_line d.guest more (line ∷ [])))
    (source_begins e (fresh_fits (most_of d) (GuestFits e) log (SourceRecFits d.geometry) 0 (filled_fits (most_of d) (StartFits d) d.init (GuestRecFits d.geometry) d.guest Halt f tt) (filled_whole d.guest Halt f.within) (omega arith)))

init_begins : (d : SessionDraft) → StartFits d → Begins SpellsSession (held_onto Init d [])
init_begins d f =
    let filled = init_filled d.version d.geometry d.next_page d.init f in
    let more = filled.0 in
    let top = filled.1 in
    let list = with_items d.init more in
    let line = guest_key ++ decimal 0 in
    let e : SessionDraft = record d { init = list; next_page = top; guest = fresh 0 } in
    step Init Guest d e (map page_line more ++ line ∷ []) (ap (geometry_onto d) (onto_more init_key page_line d.init more (line ∷ [])))
    (guest_begins e (fresh_fits (most_of d) (StartFits e) list (GuestRecFits d.geometry) 0 filled.2 filled.3 (omega arith)))

abbrev empty_draft : Version → Extent → SessionDraft
empty_draft version e = record { version = version; geometry = e; next_page = 0; init = fresh 0; guest = fresh 0; source = fresh 0; link = fresh 0; lane = fresh 0; pager = fresh 0 }

count_begins : (d : SessionDraft) → IsExtent d.geometry → HasSize d.version d.geometry.size → Begins SpellsSession (held_onto InitCount d [])
count_begins d geo has =
    let e = empty_draft d.version d.geometry in
    step InitCount Init d e ((init_key ++ decimal 0) ∷ []) refl (init_begins e (record { size = has; geometry = geo; within = omega arith; each = tt; rising = refl; room = omega arith }))

cells_begins : (d : SessionDraft) → 1 ≤ d.geometry.pages → d.geometry.pages ≤ (limits d.geometry.size).pages → HasSize d.version d.geometry.size → Begins SpellsSession (held_onto Cells d [])
cells_begins d low high has =
    let e = empty_draft d.version (extent d.geometry.size d.geometry.pages 1) in
    let most = limits_at_most d.geometry.size in
    let few_pages = most.few_pages in
    let few_cells = most.few_cells in
    let some = (limits_some d.geometry.size).cells in
    step Cells InitCount d e ((cells_key ++ decimal 1) ∷ []) refl (count_begins e (record { some_pages = low; few_pages = omega arith; some_cells = omega arith; few_cells = omega arith; few_in_all = omega arith; own = record { pages = high; cells = omega arith } }) has)

pages_begins : (d : SessionDraft) → HasSize d.version d.geometry.size → Begins SpellsSession (held_onto Pages d [])
pages_begins d has =
    let e = empty_draft d.version (extent d.geometry.size 1 1) in
    step Pages Cells d e ((pages_key ++ decimal 1) ∷ []) refl (cells_begins e (omega arith) (limits_some d.geometry.size).pages has)

pub live_begins : (stage : Stage) (d : SessionDraft) → Live stage d → Begins SpellsSession (held_onto stage d [])
live_begins Header d live =
    let e = empty_draft One (extent Small 1 1) in
    step Header Pages d e (header One Small ∷ []) refl (pages_begins e tt)
live_begins Pages d live = pages_begins d live.1
live_begins Cells d live = cells_begins d live.1 live.2 live.3
live_begins InitCount d live = count_begins d live.1 live.2
live_begins Init d live = init_begins d live.0
live_begins Guest d live = guest_begins d live.0
live_begins Source d live = source_begins d live.0
live_begins Link d live = link_begins d live.0
live_begins Lane d live = lane_begins d live.0 live.1
live_begins Pager d live = pager_begins d live
live_begins Done d live = done_begins d live.0 live.1

-- ---- what is not whole is no text

not_whole_at : (stage : Stage) (d : SessionDraft) → Live stage d → stage ≢ Done → (v : Recorded) → IsSession v → held_onto stage d [] ≡ session_lines v → ⊥
not_whole_at Header d live other v fits e = absurd cc
not_whole_at Pages d live other v fits e = absurd cc
not_whole_at Cells d live other v fits e = absurd cc
not_whole_at InitCount d live other v fits e = absurd cc
not_whole_at Init d live other v fits e =
    let a = (init_agrees d [] v live.0 fits e).init in
    let within = live.0.within in
    no_rest page_line v.init d.init.items (guest_lines v) a.items (omega (arith, a.count)) (omega arith)
not_whole_at Guest d live other v fits e =
    let a = guest_agrees d [] v live.0 fits e in
    let within = live.0.within in
    no_rest guest_line v.guest d.guest.items (source_lines v) a.items (omega (arith, a.count)) (omega arith)
not_whole_at Source d live other v fits e =
    let a = source_agrees d [] v live.0 fits e in
    let within = live.0.within in
    no_rest source_line v.source d.source.items (link_lines v) a.items (omega (arith, a.count)) (omega arith)
not_whole_at Link d live other v fits e =
    let a = link_agrees d [] v live.0 fits e in
    let within = live.0.within in
    no_rest link_line v.link d.link.items (lane_lines v) a.items (omega (arith, a.count)) (lane_some v.version v.lane (pager_lines v) (omega arith))
not_whole_at Lane d live other v fits e =
    let a = lane_agrees d [] v live.0 (λ first. absurd (one_version d.version first live.1)) fits e in
    let within = live.0.within in
    no_rest lane_line v.lane d.lane.items (pager_lines v) a.items (omega (arith, a.count)) (omega arith)
not_whole_at Pager d live other v fits e =
    let a = pager_agrees d [] v live fits e in
    let within = live.within in
    no_rest pager_line v.pager d.pager.items (closing ∷ []) a.items (omega (arith, a.count)) (omega arith)
not_whole_at Done d live other v fits e = absurd (other refl)

pub not_whole : (stage : Stage) (d : SessionDraft) (held : List (List ℕ)) → held_onto stage d [] ≡ held → Live stage d → stage ≢ Done → (v : Recorded) → SpellsSession v held → ⊥
not_whole stage d held e live other v s = not_whole_at stage d live other v s.0 (e ∙ s.1)

-- ---- the lines are few

part_few : {X : Type 0} (key : List ℕ) (spell : X → List ℕ) (part : Part X) (more : List (List ℕ)) → length (part_onto key spell part more) ≡ length part.items + length more + 1
part_few key spell part more = omega (arith, length-append (map spell part.items) more, length-map part.items spell)

init_few : (d : SessionDraft) (more : List (List ℕ)) → StartFits d → length (init_onto d more) ≤ most_pages + 4 + length more
init_few d more f =
    let geo = f.geometry.few_pages in
    let room = f.room in
    let long = rise_long 0 d.next_page d.init.items f.rising in
    let part = part_few init_key page_line d.init more in
    omega arith

guest_few : (d : SessionDraft) (more : List (List ℕ)) → GuestFits d → length (guest_onto d more) ≤ most_pages + longest_log + 5 + length more
guest_few d more f =
    let before = init_few d (guest_part d more) f.before in
    let most = (limits_at_most d.geometry.size).few_records in
    let few = few_items (most_of d) (StartFits d) d.init (GuestRecFits d.geometry) d.guest f in
    let part = part_few guest_key guest_line d.guest more in
    omega arith

source_few : (d : SessionDraft) (more : List (List ℕ)) → SourceFits d → length (source_onto d more) ≤ most_pages + 2 * longest_log + 6 + length more
source_few d more f =
    let before = guest_few d (source_part d more) f.before in
    let most = (limits_at_most d.geometry.size).few_records in
    let few = few_items (most_of d) (GuestFits d) d.guest (SourceRecFits d.geometry) d.source f in
    let part = part_few source_key source_line d.source more in
    omega arith

link_few : (d : SessionDraft) (more : List (List ℕ)) → LinkFits d → length (link_onto d more) ≤ most_pages + 3 * longest_log + 7 + length more
link_few d more f =
    let before = source_few d (link_part d more) f.before in
    let most = (limits_at_most d.geometry.size).few_records in
    let few = few_items (most_of d) (SourceFits d) d.source (LinkRecFits d.geometry) d.link f in
    let part = part_few link_key link_line d.link more in
    omega arith

lane_few : (d : SessionDraft) (more : List (List ℕ)) → LaneFits d → length (lane_onto d more) ≤ most_pages + 4 * longest_log + 8 + length more
lane_few d more f =
    let before = link_few d (lane_part d more) f.before in
    let most = (limits_at_most d.geometry.size).few_records in
    let few = few_items (most_of d) (LinkFits d) d.link (LaneRecFits d.version d.geometry) d.lane f in
    omega (arith, lane_long d.version d.lane more, lane_short d.version (length d.lane.items))

pager_few : (d : SessionDraft) (more : List (List ℕ)) → PagerFits d → length (pager_onto d more) ≤ most_pages + 5 * longest_log + 9 + length more
pager_few d more f =
    let before = lane_few d (pager_part d more) f.before in
    let most = (limits_at_most d.geometry.size).few_records in
    let few = few_items (most_of d) (LaneFits d) d.lane (PagerRecFits d.version d.geometry) d.pager f in
    let part = part_few pager_key pager_line d.pager more in
    omega arith

pub live_few : (stage : Stage) (d : SessionDraft) → Live stage d → length (held_onto stage d []) + 1 < 2 ^ 32
live_few Header d live = omega arith
live_few Pages d live = omega arith
live_few Cells d live = omega arith
live_few InitCount d live = omega arith
live_few Init d live = let few = init_few d [] live.0 in omega arith
live_few Guest d live = let few = guest_few d [] live.0 in omega arith
live_few Source d live = let few = source_few d [] live.0 in omega arith
live_few Link d live = let few = link_few d [] live.0 in omega arith
live_few Lane d live = let few = lane_few d [] live.0 in omega arith
live_few Pager d live = let few = pager_few d [] live in omega arith
live_few Done d live = let few = pager_few d (closing ∷ []) live.0 in omega arith
