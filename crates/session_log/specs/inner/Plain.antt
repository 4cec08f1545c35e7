-- No line of a session's text has a line feed.
use Rattle.std.specs.Prelude.{ℕ, ◌<◌, ◌≤◌, ◌^◌, List, [], ◌∷◌, length, refl}
use Rattle.std.proofs.Common.{arith, subst, sym}
use Rattle.std.specs.List.{AllByRecursion}
use Rattle.text_lines.specs.Text.{IsLine}
use Rattle.text_lines.proofs.Plain.{plain_section, plain_codes}
use Rattle.migration_types.specs.declared.records.LaneRec.{LaneRec}
use Rattle.migration_types.specs.declared.version.Version.{Version}
use Rattle.migration_types.specs.declared.version.Version.TheVariants.{One, Two}
use Rattle.migration_types.specs.declared.size.Size.{Size}
use Rattle.migration_types.specs.declared.size.Size.TheVariants.{Small, Large}
use Rattle.migration_types.specs.Pages.{InitPageFits}
use Rattle.migration_types.specs.Limits.{limits}
use Rattle.migration_types.specs.Sessions.{Recorded, LaneRecIn, GuestRecFits, SourceRecFits, LinkRecFits, PagerRecFits}
use Rattle.session_grammar.specs.Records.{guest_line, source_line, link_line, lane_line, pager_line}
use Rattle.session_grammar.specs.inner.RecordPlain.{plain_page, plain_keyed, plain_guest_rec, plain_source_rec, plain_link_rec, plain_lane_rec, plain_pager_rec}
use Rattle.session_grammar.specs.inner.InitPages.{few_init}
use Rattle.session_grammar.specs.inner.Limits.{records_few}
use Rattle.session_grammar.specs.Grammar.{header, pages_key, cells_key, init_key, guest_key, source_key, link_key, lane_key, pager_key, page_line, with_lane, closing, counted, SpellsSession}

plain_counted : {X : Type 0} (key : List ℕ) (spell : X → List ℕ) (P : X → Type 0) (xs : List X) (more : List (List ℕ)) → IsLine key → length xs < 2 ^ 64 → ((x : X) → P x → IsLine (spell x)) → AllByRecursion P xs → AllByRecursion IsLine more → AllByRecursion IsLine (counted key spell xs more)
plain_counted key spell P xs more k le f h rest = (plain_keyed key (length xs) k le, plain_section spell P xs more f h rest)

plain_header : (version : Version) (size : Size) → IsLine (header version size)
plain_header One Small = plain_codes (header One Small) refl
plain_header One Large = tt
plain_header Two Small = plain_codes (header Two Small) refl
plain_header Two Large = plain_codes (header Two Large) refl

plain_lane : (past : ℕ) → past ≤ 2 ^ 64 → (version : Version) (records : List LaneRec) (more : List (List ℕ)) → length records < 2 ^ 64 → AllByRecursion (LaneRecIn past version) records → AllByRecursion IsLine more → AllByRecursion IsLine (with_lane version records more)
plain_lane past le One records more few each rest = rest
plain_lane past le Two records more few each rest = plain_counted lane_key lane_line (LaneRecIn past Two) records more (plain_codes lane_key refl) few (plain_lane_rec past le Two) each rest

pub plain_session : (v : Recorded) (lines : List (List ℕ)) → SpellsSession v lines → AllByRecursion IsLine lines
plain_session v lines s =
    let e = v.geometry in
    let past = (limits e.size).records in
    let le : past ≤ 2 ^ 64 = let lt = records_few e.size in omega arith in
    let pages : e.pages ≤ 2 ^ 64 = let most = s.0.geometry.few_pages in omega arith in
    let cells : e.cells ≤ 2 ^ 64 = let most = s.0.geometry.few_cells in omega arith in
    let most_guest = s.0.few_guest in
    let most_source = s.0.few_source in
    let most_link = s.0.few_link in
    let most_lane = s.0.few_lane in
    let most_pager = s.0.few_pager in
    let few = few_init v s.0 in
    let end_lines = closing ∷ [] in
    let pager_lines = counted pager_key pager_line v.pager end_lines in
    let lane_lines = with_lane v.version v.lane pager_lines in
    let link_lines = counted link_key link_line v.link lane_lines in
    let source_lines = counted source_key source_line v.source link_lines in
    let guest_lines = counted guest_key guest_line v.guest source_lines in
    let end : AllByRecursion IsLine end_lines = (plain_codes closing refl, tt) in
    let pager = plain_counted pager_key pager_line (PagerRecFits v.version e) v.pager end_lines (plain_codes pager_key refl) (omega arith) (plain_pager_rec past le v.version e pages cells) s.0.pager end in
    let lane = plain_lane past le v.version v.lane pager_lines (omega arith) s.0.lane pager in
    let link = plain_counted link_key link_line (LinkRecFits e) v.link lane_lines (plain_codes link_key refl) (omega arith) (plain_link_rec past le) s.0.link lane in
    let source = plain_counted source_key source_line (SourceRecFits e) v.source link_lines (plain_codes source_key refl) (omega arith) (plain_source_rec past le e pages cells) s.0.source link in
    let guest = plain_counted guest_key guest_line (GuestRecFits e) v.guest source_lines (plain_codes guest_key refl) (omega arith) (plain_guest_rec past le e pages cells) s.0.guest source in
    let init = plain_counted init_key page_line (InitPageFits e) v.init guest_lines (plain_codes init_key refl) (omega arith) (plain_page e s.0.geometry.few_pages) s.0.init.each guest in
    subst (AllByRecursion IsLine) (sym s.1) (plain_header v.version e.size, (plain_keyed pages_key e.pages (plain_codes pages_key refl) (omega arith), (plain_keyed cells_key e.cells (plain_codes cells_key refl) (omega arith), init)))
