-- A text's lines tell the session.
use Rattle.std.proofs.Common.{◌≡◌, ℕ, ◌≤◌, ◌^◌, List, [], ◌∷◌, ◌++◌, refl, sym, ap, subst, ◌∙◌, arith}
use Rattle.std.specs.List.{AllByRecursion}
use Rattle.text_lines.specs.Text.{IsUnambiguous}
use Rattle.text_lines.proofs.Cut.{unambiguous}
use Rattle.text_lines.proofs.Sections.{section_end}
use Rattle.migration_types.specs.declared.version.Version.{Version}
use Rattle.migration_types.specs.Extents.{Extent}
use Rattle.migration_types.specs.Pages.{InitPageFits}
use Rattle.migration_types.specs.declared.records.LogName.TheVariants as logs
use Rattle.migration_types.specs.Limits.{limits}
use Rattle.migration_types.specs.Sessions.{Recorded, IsSession, GuestRecFits, SourceRecFits, LinkRecFits, LaneRecFits, PagerRecFits}
use Rattle.session_grammar.specs.declared.stage.Stage.TheVariants.{Done}
use Rattle.session_grammar.specs.Records.{guest_line, source_line, link_line, lane_line, pager_line}
use Rattle.session_grammar.specs.inner.InitPages.{Rise, rise_of}
use Rattle.session_grammar.specs.Grammar.{page_line, closing, session_lines, SpellsSession}
use Rattle.session_grammar.specs.inner.Held.{GuestFits, SourceFits, LinkFits, LaneFits, PagerFits}
use Rattle.session_log.specs.inner.Plain.{plain_session}
use Rattle.session_grammar.proofs.Laws.{held_append, StartFits, guest_part, source_part, link_part, lane_part, pager_part, guest_lines, source_lines, link_lines, lane_lines, pager_lines}
use Rattle.session_log.proofs.Laws.{init_agrees, guest_agrees, source_agrees, link_agrees, lane_agrees, pager_agrees}
use Rattle.session_log.proofs.Goes.{done_spells}
use Rattle.session_grammar.specs.inner.Limits.{records_few}
use Rattle.session_grammar.proofs.Tells.{guest_tells, source_tells, link_tells, lane_tells, pager_tells}
use Rattle.session_grammar.proofs.Values.{narrow_of, init_page_tells, drafted, whole_log, same_list, recorded_same}

-- ---- a session's lines begin no other's

drafted_fits : (s : Recorded) → IsSession s → (next : ℕ) → next ≤ s.geometry.pages → Rise 0 s.init next → PagerFits (drafted s next)
drafted_fits s fits next le rising =
    let d = drafted s next in
    let e = s.geometry in
    let most = (limits e.size).records in
    let init : StartFits d = record { size = fits.size; geometry = fits.geometry; within = omega arith; each = fits.init.each; rising = rising; room = omega arith } in
    let guest = whole_log most (StartFits d) s.init (GuestRecFits e) s.guest init (fits.own logs.Guest) fits.guest in
    let source = whole_log most (GuestFits d) s.guest (SourceRecFits e) s.source guest (fits.own logs.Source) fits.source in
    let link = whole_log most (SourceFits d) s.source (LinkRecFits e) s.link source (fits.own logs.Link) fits.link in
    let lane = whole_log most (LinkFits d) s.link (LaneRecFits s.version e) s.lane link (fits.own logs.Lane) fits.lane in
    whole_log most (LaneFits d) s.lane (PagerRecFits s.version e) s.pager lane (fits.own logs.Pager) fits.pager

lines_tell : (v w : Recorded) (more : List (List ℕ)) → IsSession v → IsSession w → session_lines v ++ more ≡ session_lines w → (v ≡ w) × (more ≡ [])
lines_tell v w more p q e =
    let rises = rise_of v.geometry v.init p.init in
    let d = drafted v rises.0 in
    let f = drafted_fits v p rises.0 rises.1 rises.2 in
    let extent = q.geometry in
    let end = closing ∷ more in
    let whole = sym (held_append Done d [] more) ∙ (ap (λ (t : List (List ℕ)). t ++ more) (done_spells d f refl).1 ∙ e) in
    let in_pager = pager_agrees d end w f q whole in
    let in_lane = lane_agrees d (pager_part d end) w f.before (λ _. refl) q whole in
    let held = lane_part d (pager_part d end) in
    let in_link = link_agrees d held w f.before.before q whole in
    let in_source = source_agrees d (link_part d held) w f.before.before.before q whole in
    let in_guest = guest_agrees d (source_part d (link_part d held)) w f.before.before.before.before q whole in
    let start = init_agrees d (guest_part d (source_part d (link_part d held))) w f.before.before.before.before.before q whole in
    let past = (limits w.geometry.size).records in
    let le : past ≤ 2 ^ 64 = let few = records_few w.geometry.size in omega arith in
    let narrow = narrow_of w.geometry extent in
    let version = start.version in
    let geo = start.geometry in
    let init = same_list page_line (InitPageFits w.geometry) v.init w.init (init_page_tells w.geometry extent) (guest_lines w) (guest_part d (source_part d (link_part d held))) (subst (λ (x : Extent). AllByRecursion (InitPageFits x) v.init) geo p.init.each) q.init.each start.init.items start.init.count in
    let guest = same_list guest_line (GuestRecFits w.geometry) v.guest w.guest (guest_tells past le w.geometry narrow) (source_lines w) (source_part d (link_part d held)) (subst (λ (x : Extent). AllByRecursion (GuestRecFits x) v.guest) geo p.guest) q.guest in_guest.items in_guest.count in
    let source = same_list source_line (SourceRecFits w.geometry) v.source w.source (source_tells past le w.geometry narrow) (link_lines w) (link_part d held) (subst (λ (x : Extent). AllByRecursion (SourceRecFits x) v.source) geo p.source) q.source in_source.items in_source.count in
    let link = same_list link_line (LinkRecFits w.geometry) v.link w.link (link_tells past le) (lane_lines w) held (subst (λ (x : Extent). AllByRecursion (LinkRecFits x) v.link) geo p.link) q.link in_link.items in_link.count in
    let of_lane = subst (λ (n : Version). AllByRecursion (LaneRecFits n w.geometry) v.lane) version (subst (λ (x : Extent). AllByRecursion (LaneRecFits v.version x) v.lane) geo p.lane) in
    let lane = same_list lane_line (LaneRecFits w.version w.geometry) v.lane w.lane (lane_tells past le w.version) (pager_lines w) (pager_part d end) of_lane q.lane in_lane.items in_lane.count in
    let of_pager = subst (λ (n : Version). AllByRecursion (PagerRecFits n w.geometry) v.pager) version (subst (λ (x : Extent). AllByRecursion (PagerRecFits v.version x) v.pager) geo p.pager) in
    let pager = same_list pager_line (PagerRecFits w.version w.geometry) v.pager w.pager (pager_tells past le w.version w.geometry narrow) (closing ∷ []) end of_pager q.pager in_pager.items in_pager.count in
    let tail = (section_end pager_line w.pager v.pager (closing ∷ []) end in_pager.items in_pager.count).1 in
    (recorded_same v w version geo init guest source link lane pager, cc)

pub sessions_unambiguous : IsUnambiguous SpellsSession
sessions_unambiguous = unambiguous SpellsSession plain_session
    (λ v w a more s t. lines_tell v w more s.0 t.0 (ap (λ (x : List (List ℕ)). x ++ more) (sym s.1) ∙ t.1))
    (λ v a b s t. s.1 ∙ sym t.1)
