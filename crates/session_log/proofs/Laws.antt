-- What the lines that a reader holds say of each text that begins with them.
use Rattle.std.proofs.Common.{◌≡◌, ◌≢◌, ℕ, ◌+◌, ◌-◌, ◌<◌, ◌≤◌, ◌^◌, List, [], ◌∷◌, ◌++◌, length, refl, sym, ap, subst, ◌∙◌, append_assoc, length-append, arith}
use Rattle.std.specs.List.{AllByRecursion}
use Rattle.std.specs.Fmt.{decimal}
use Rattle.std.proofs.lemmas.List.{append-nil, length-map}
use Rattle.text_lines.specs.Text.{Begins}
use Rattle.text_lines.specs.Counted.{AllFollow, TakesItems}
use Rattle.text_lines.proofs.Sections.{CountedAgree, counted_agree, counted_end, counted_next}
use Rattle.migration_types.specs.declared.records.GuestRec.{GuestRec}
use Rattle.migration_types.specs.declared.records.SourceRec.{SourceRec}
use Rattle.migration_types.specs.declared.records.LinkRec.{LinkRec}
use Rattle.migration_types.specs.declared.records.LaneRec.{LaneRec}
use Rattle.migration_types.specs.declared.records.PagerRec.{PagerRec}
use Rattle.migration_types.specs.declared.pages.InitPage.{InitPage}
use Rattle.migration_types.specs.declared.version.Version.{Version}
use Rattle.migration_types.specs.declared.version.Version.TheVariants.{One, Two}
use Rattle.migration_types.specs.Extents.{Extent, IsExtent}
use Rattle.migration_types.specs.Pages.{InitPageFits}
use Rattle.migration_types.specs.declared.size.Size.{Size}
use Rattle.migration_types.specs.declared.records.LogName.{LogName}
use Rattle.migration_types.specs.declared.records.LogName.TheVariants as logs
use Rattle.migration_types.specs.Limits.{limits, limits_at_most, longest_log}
use Rattle.migration_types.specs.Sessions.{Recorded, IsSession, log_length, GuestRecFits, SourceRecFits, LinkRecFits, LaneRecFits, PagerRecFits}
use Rattle.session_grammar.specs.declared.stage.Stage.{Stage}
use Rattle.session_grammar.specs.declared.stage.Stage.TheVariants.{Cells, InitCount, Init, Guest, Source, Link, Lane, Pager, Done}
use Rattle.session_grammar.specs.Records.{guest_line, source_line, link_line, lane_line, pager_line}
use Rattle.session_grammar.specs.inner.InitPages.{IsInitContent, Rise, next_from, next_push, rise_long, rise_of, few_init}
use Rattle.session_grammar.specs.inner.Limits.{records_few}
use Rattle.session_grammar.specs.Grammar.{header, pages_key, cells_key, init_key, guest_key, source_key, link_key, lane_key, pager_key, page_line, closing, counted, session_lines, SpellsSession}
use Rattle.session_grammar.specs.inner.Held.{SessionDraft, Part, part_onto, init_onto, guest_onto, source_onto, link_onto, lane_onto, pager_onto, held_onto, IsWhole, InitFits, most_of, GuestFits, SourceFits, LinkFits, LaneFits, PagerFits, Live}
use Rattle.session_grammar.proofs.Lists.{all_at, all_append}
use Rattle.session_grammar.proofs.Sections.{agrees, item_at, count_at}
use Rattle.session_grammar.proofs.ByVersion.{header_tells, one_version, lane_agree, first_behind, second_behind}
use Rattle.session_grammar.proofs.Laws.{guest_part, source_part, link_part, lane_part, pager_part, held_append, keyed, extent, extent_same, pager_lines, lane_lines, link_lines, source_lines, guest_lines, InitAgrees, rise_at, rise_push, StartFits}

pub live_at : (stage at : Stage) (d : SessionDraft) → stage ≡ at → Live stage d → Live at d
live_at stage at d is live = subst (λ (s : Stage). Live s d) is live

-- a text that begins with a line more than is held
pub record Goes (stage : Stage) (d : SessionDraft) (line : List ℕ) : Type 0 where
  pub v : Recorded
  pub more : List (List ℕ)
  pub fits : IsSession v
  pub whole : held_onto stage d (line ∷ more) ≡ session_lines v

pub goes_from : (stage : Stage) (d : SessionDraft) (line : List ℕ) → Begins SpellsSession (held_onto stage d (line ∷ [])) → Goes stage d line
goes_from stage d line b = record { v = b.0; more = b.1; fits = b.2.0; whole = sym (held_append stage d (line ∷ []) b.1) ∙ b.2.1 }

-- ---- the lines before the lists

pub init_count_at : (d : SessionDraft) (line : List ℕ) → IsExtent d.geometry → Goes InitCount d line → (n : ℕ) × (n ≤ d.geometry.pages) × (line ≡ init_key ++ decimal n)
init_count_at d line geo g =
    let whole = g.whole in
    let lp = geo.few_pages in
    let fp = g.fits.geometry.few_pages in
    let l : line ≡ init_key ++ decimal (length g.v.init) = cc in
    let p : pages_key ++ decimal d.geometry.pages ≡ pages_key ++ decimal g.v.geometry.pages = cc in
    let pages = keyed pages_key d.geometry.pages g.v.geometry.pages (omega arith) (omega arith) p in
    let few = few_init g.v g.fits in
    (length g.v.init, omega arith, l)

-- ---- what stands behind each list

pub init_agrees : (d : SessionDraft) (more : List (List ℕ)) (v : Recorded) → StartFits d → IsSession v → init_onto d more ≡ session_lines v → InitAgrees d more v
init_agrees d more v f fits e =
    let lp = f.geometry.few_pages in
    let lc = f.geometry.few_cells in
    let room = f.room in
    let count = f.within in
    let long = rise_long 0 d.next_page d.init.items f.rising in
    let fp = fits.geometry.few_pages in
    let fc = fits.geometry.few_cells in
    let few = few_init v fits in
    let headers : header d.version d.geometry.size ≡ header v.version v.geometry.size = cc in
    let told = header_tells d.version v.version d.geometry.size v.geometry.size headers in
    let pages : pages_key ++ decimal d.geometry.pages ≡ pages_key ++ decimal v.geometry.pages = cc in
    let cells : cells_key ++ decimal d.geometry.cells ≡ cells_key ++ decimal v.geometry.cells = cc in
    let rest : part_onto init_key page_line d.init more ≡ counted init_key page_line v.init (guest_lines v) = cc in
    record {
      version = told.0;
      geometry = extent_same d.geometry v.geometry told.1 (keyed pages_key d.geometry.pages v.geometry.pages (omega arith) (omega arith) pages) (keyed cells_key d.geometry.cells v.geometry.cells (omega arith) (omega arith) cells);
      init = counted_agree init_key page_line d.init.count v.init d.init.items (guest_lines v) more (omega arith) (omega arith) rest;
    }

pub behind_init : (d : SessionDraft) (more : List (List ℕ)) (v : Recorded) → StartFits d → IsWhole d.init → IsSession v → init_onto d more ≡ session_lines v → guest_lines v ≡ more
behind_init d more v f whole fits e = counted_end page_line d.init.count v.init d.init.items (guest_lines v) more (init_agrees d more v f fits e).init whole

-- no list of a reader has more items than are told in 64 bits, nor has one of a text
count_few : (size : Size) (count : ℕ) → count ≤ (limits size).records → count < 2 ^ 64
count_few size count few = let most = records_few size in omega arith

long_few : (count : ℕ) → count ≤ longest_log → count < 2 ^ 64
long_few count few = omega arith

-- no log of a text is longer than its size allows
own_of : (e : Extent) (v : Recorded) → e ≡ v.geometry → IsSession v → (log : LogName) → log_length v log ≤ (limits e.size).records
own_of e v same fits log = subst (λ (x : Extent). log_length v log ≤ (limits x.size).records) (sym same) (fits.own log)

pub guest_agrees : (d : SessionDraft) (more : List (List ℕ)) (v : Recorded) → GuestFits d → IsSession v → guest_onto d more ≡ session_lines v → CountedAgree guest_line d.guest.count v.guest d.guest.items (source_lines v) more
guest_agrees d more v f fits e = agrees guest_key guest_line d.guest v.guest (source_lines v) more (count_few d.geometry.size d.guest.count f.few) (long_few (length v.guest) fits.few_guest) (behind_init d (guest_part d more) v f.before f.whole fits e)

pub behind_guest : (d : SessionDraft) (more : List (List ℕ)) (v : Recorded) → GuestFits d → IsWhole d.guest → IsSession v → guest_onto d more ≡ session_lines v → source_lines v ≡ more
behind_guest d more v f whole fits e = counted_end guest_line d.guest.count v.guest d.guest.items (source_lines v) more (guest_agrees d more v f fits e) whole

pub source_agrees : (d : SessionDraft) (more : List (List ℕ)) (v : Recorded) → SourceFits d → IsSession v → source_onto d more ≡ session_lines v → CountedAgree source_line d.source.count v.source d.source.items (link_lines v) more
source_agrees d more v f fits e = agrees source_key source_line d.source v.source (link_lines v) more (count_few d.geometry.size d.source.count f.few) (long_few (length v.source) fits.few_source) (behind_guest d (source_part d more) v f.before f.whole fits e)

pub behind_source : (d : SessionDraft) (more : List (List ℕ)) (v : Recorded) → SourceFits d → IsWhole d.source → IsSession v → source_onto d more ≡ session_lines v → link_lines v ≡ more
behind_source d more v f whole fits e = counted_end source_line d.source.count v.source d.source.items (link_lines v) more (source_agrees d more v f fits e) whole

pub link_agrees : (d : SessionDraft) (more : List (List ℕ)) (v : Recorded) → LinkFits d → IsSession v → link_onto d more ≡ session_lines v → CountedAgree link_line d.link.count v.link d.link.items (lane_lines v) more
link_agrees d more v f fits e = agrees link_key link_line d.link v.link (lane_lines v) more (count_few d.geometry.size d.link.count f.few) (long_few (length v.link) fits.few_link) (behind_source d (link_part d more) v f.before f.whole fits e)

pub behind_link : (d : SessionDraft) (more : List (List ℕ)) (v : Recorded) → LinkFits d → IsWhole d.link → IsSession v → link_onto d more ≡ session_lines v → lane_lines v ≡ more
behind_link d more v f whole fits e = counted_end link_line d.link.count v.link d.link.items (lane_lines v) more (link_agrees d more v f fits e) whole

version_agrees : (d : SessionDraft) (more : List (List ℕ)) (v : Recorded) → LinkFits d → IsSession v → link_onto d more ≡ session_lines v → v.version ≡ d.version
version_agrees d more v f fits e = sym (init_agrees d (guest_part d (source_part d (link_part d more))) v f.before.before.before fits e).version

geometry_agrees : (d : SessionDraft) (more : List (List ℕ)) (v : Recorded) → LinkFits d → IsSession v → link_onto d more ≡ session_lines v → d.geometry ≡ v.geometry
geometry_agrees d more v f fits e = (init_agrees d (guest_part d (source_part d (link_part d more))) v f.before.before.before fits e).geometry

pub lane_agrees : (d : SessionDraft) (more : List (List ℕ)) (v : Recorded) → LaneFits d → (d.version ≡ One → IsWhole d.lane) → IsSession v → lane_onto d more ≡ session_lines v → CountedAgree lane_line d.lane.count v.lane d.lane.items (pager_lines v) more
lane_agrees d more v f first fits e =
    let rest = lane_part d more in
    lane_agree (limits v.geometry.size).records (most_of d) v.version d.version d.lane v.lane (pager_lines v) more (version_agrees d rest v f.before fits e) first (count_few d.geometry.size d.lane.count f.few) (long_few (length v.lane) fits.few_lane) f.each fits.lane (behind_link d rest v f.before f.whole fits e)

pub behind_lane : (d : SessionDraft) (more : List (List ℕ)) (v : Recorded) → LaneFits d → IsWhole d.lane → IsSession v → lane_onto d more ≡ session_lines v → pager_lines v ≡ more
behind_lane d more v f whole fits e = counted_end lane_line d.lane.count v.lane d.lane.items (pager_lines v) more (lane_agrees d more v f (λ _. whole) fits e) whole

pub pager_agrees : (d : SessionDraft) (more : List (List ℕ)) (v : Recorded) → PagerFits d → IsSession v → pager_onto d more ≡ session_lines v → CountedAgree pager_line d.pager.count v.pager d.pager.items (closing ∷ []) more
pager_agrees d more v f fits e = agrees pager_key pager_line d.pager v.pager (closing ∷ []) more (count_few d.geometry.size d.pager.count f.few) (long_few (length v.pager) fits.few_pager) (behind_lane d (pager_part d more) v f.before f.whole fits e)

pub behind_pager : (d : SessionDraft) (more : List (List ℕ)) (v : Recorded) → PagerFits d → IsWhole d.pager → IsSession v → pager_onto d more ≡ session_lines v → closing ∷ [] ≡ more
behind_pager d more v f whole fits e = counted_end pager_line d.pager.count v.pager d.pager.items (closing ∷ []) more (pager_agrees d more v f fits e) whole

-- ---- the pages

pub record PageAt (d : SessionDraft) (line : List ℕ) : Type 0 where
  pub page : InitPage
  pub low : d.next_page ≤ page.page
  pub high : page.page ≤ d.geometry.pages - (d.init.count - length d.init.items)
  pub content : IsInitContent d.geometry.cells page.cells
  pub spelled : line ≡ page_line page

pub page_at : (d : SessionDraft) (line : List ℕ) → StartFits d → length d.init.items < d.init.count → Goes Init d line → PageAt d line
page_at d line f less g =
    let a = init_agrees d (line ∷ g.more) g.v f g.fits g.whole in
    let n = counted_next page_line d.init.count g.v.init d.init.items (guest_lines g.v) g.more line a.init less in
    let rises = rise_of g.v.geometry g.v.init g.fits.init in
    let high = rises.0 in
    let top = rises.1 in
    let few = g.fits.geometry.few_pages in
    let room = f.room in
    let geo = f.geometry.few_pages in
    let rising = subst (λ (ps : List InitPage). Rise 0 ps high) n.whole rises.2 in
    let r = rise_at 0 high d.next_page n.front d.init.items n.item n.back (omega arith) (omega arith) rising f.rising n.same in
    let len : length g.v.init ≡ length n.front + (length n.back + 1) = ap (λ (ps : List InitPage). length ps) n.whole ∙ (length-append n.front (n.item ∷ n.back) ∙ omega arith) in
    let same : length n.front ≡ length d.init.items = sym (length-map n.front page_line) ∙ (ap (λ (ls : List (List ℕ)). length ls) n.same ∙ length-map d.init.items page_line) in
    let pages : d.geometry.pages ≡ g.v.geometry.pages = ap (λ (e : Extent). e.pages) a.geometry in
    let here = all_at (InitPageFits g.v.geometry) n.front n.item n.back (subst (AllByRecursion (InitPageFits g.v.geometry)) n.whole g.fits.init.each) in
    let fits = subst (λ (e : Extent). InitPageFits e n.item) (sym a.geometry) here in
    record {
      page = n.item;
      low = r.0;
      high = omega (arith, r.1, a.init.count, pages, len, same);
      content = record { content = fits.content; not_zeros = fits.not_zeros };
      spelled = n.spelled;
    }

rise_all : (old taken : List InitPage) → Rise 0 old (next_from 0 old) → AllFollow (λ before p. next_from 0 before ≤ p.page) old taken → Rise 0 (old ++ taken) (next_from 0 (old ++ taken))
rise_all old [] r f = subst (λ (ps : List InitPage). Rise 0 ps (next_from 0 ps)) (sym (append-nil old)) r
rise_all old (p ∷ ps) r f =
    let one = subst (Rise 0 (old ++ p ∷ [])) (sym (next_push 0 old p)) (rise_push 0 (next_from 0 old) old p r f.0) in
    subst (λ (all : List InitPage). Rise 0 all (next_from 0 all)) (append_assoc old (p ∷ []) ps) (rise_all (old ++ p ∷ []) ps one f.1)

all_fit : (e : Extent) (high : ℕ) (ps : List InitPage) → high < e.pages → AllByRecursion (λ p. (p.page ≤ high) × IsInitContent e.cells p.cells) ps → AllByRecursion (InitPageFits e) ps
all_fit e high [] lt h = tt
all_fit e high (p ∷ ps) lt h = (record { page = omega (arith, h.0.0, lt); content = h.0.1.content; not_zeros = h.0.1.not_zeros }, all_fit e high ps lt h.1)

-- many pages that rise, with room for those to come
pub pages_push : (version : Version) (e : Extent) (old new : Part InitPage) (high n : ℕ) (bytes rest : List ℕ) → InitFits version e (next_from 0 old.items) old → high < e.pages → new.count ≡ old.count → length new.items ≤ new.count → TakesItems page_line (λ p. (p.page ≤ high) × IsInitContent e.cells p.cells) (λ before p. next_from 0 before ≤ p.page) old.items new.items bytes rest n → next_from 0 new.items + (new.count - length new.items) ≤ e.pages → InitFits version e (next_from 0 new.items) new
pages_push version e old new high n bytes rest f below same within t room = record {
  size = f.size;
  geometry = f.geometry;
  within = within;
  each = subst (AllByRecursion (InitPageFits e)) (sym t.items) (all_append (InitPageFits e) old.items t.taken f.each (all_fit e high t.taken below t.fits));
  rising = subst (λ (ps : List InitPage). Rise 0 ps (next_from 0 ps)) (sym t.items) (rise_all old.items t.taken f.rising t.follow);
  room = room;
}

-- ---- why a line is refused

pub cells_refused : (d : SessionDraft) (line : List ℕ) → d.geometry.pages ≤ (limits d.geometry.size).pages → ((n : ℕ) → IsExtent (extent d.geometry.size d.geometry.pages n) → line ≢ cells_key ++ decimal n) → Begins SpellsSession (held_onto Cells d (line ∷ [])) → ⊥
cells_refused d line lp none b =
    let g = goes_from Cells d line b in
    let whole = g.whole in
    let most = (limits_at_most d.geometry.size).few_pages in
    let fp = g.fits.geometry.few_pages in
    let headers : header d.version d.geometry.size ≡ header g.v.version g.v.geometry.size = cc in
    let size = (header_tells d.version g.v.version d.geometry.size g.v.geometry.size headers).1 in
    let l : line ≡ cells_key ++ decimal g.v.geometry.cells = cc in
    let p : pages_key ++ decimal d.geometry.pages ≡ pages_key ++ decimal g.v.geometry.pages = cc in
    let pages = keyed pages_key d.geometry.pages g.v.geometry.pages (omega arith) (omega arith) p in
    let same = extent_same (extent d.geometry.size d.geometry.pages g.v.geometry.cells) g.v.geometry size pages refl in
    none g.v.geometry.cells (subst IsExtent (sym same) g.fits.geometry) l

pub init_count_refused : (d : SessionDraft) (line : List ℕ) → IsExtent d.geometry → ((n : ℕ) → n ≤ d.geometry.pages → line ≢ init_key ++ decimal n) → Begins SpellsSession (held_onto InitCount d (line ∷ [])) → ⊥
init_count_refused d line geo none b = let n = init_count_at d line geo (goes_from InitCount d line b) in none n.0 n.1 n.2

pub page_refused : (d : SessionDraft) (line : List ℕ) (last : ℕ) → StartFits d → length d.init.items < d.init.count → last ≡ d.geometry.pages - (d.init.count - length d.init.items) → ((p : InitPage) → d.next_page ≤ p.page → p.page ≤ last → IsInitContent d.geometry.cells p.cells → line ≢ page_line p) → Begins SpellsSession (held_onto Init d (line ∷ [])) → ⊥
page_refused d line last f less is none b = let p = page_at d line f less (goes_from Init d line b) in none p.page p.low (omega (arith, p.high)) p.content p.spelled

pub guest_count_refused : (d : SessionDraft) (line : List ℕ) → StartFits d → IsWhole d.init → ((n : ℕ) → n ≤ most_of d → line ≢ guest_key ++ decimal n) → Begins SpellsSession (held_onto Init d (line ∷ [])) → ⊥
guest_count_refused d line f whole none b =
    let g = goes_from Init d line b in
    let more = line ∷ g.more in
    let same = (init_agrees d more g.v f g.fits g.whole).geometry in
    let n = count_at (most_of d) guest_key guest_line g.v.guest (source_lines g.v) g.more line (behind_init d more g.v f whole g.fits g.whole) (own_of d.geometry g.v same g.fits logs.Guest) in
    none n.0 n.1 n.2

pub source_count_refused : (d : SessionDraft) (line : List ℕ) → GuestFits d → IsWhole d.guest → ((n : ℕ) → n ≤ most_of d → line ≢ source_key ++ decimal n) → Begins SpellsSession (held_onto Guest d (line ∷ [])) → ⊥
source_count_refused d line f whole none b =
    let g = goes_from Guest d line b in
    let more = line ∷ g.more in
    let same = (init_agrees d (guest_part d more) g.v f.before g.fits g.whole).geometry in
    let n = count_at (most_of d) source_key source_line g.v.source (link_lines g.v) g.more line (behind_guest d more g.v f whole g.fits g.whole) (own_of d.geometry g.v same g.fits logs.Source) in
    none n.0 n.1 n.2

pub link_count_refused : (d : SessionDraft) (line : List ℕ) → SourceFits d → IsWhole d.source → ((n : ℕ) → n ≤ most_of d → line ≢ link_key ++ decimal n) → Begins SpellsSession (held_onto Source d (line ∷ [])) → ⊥
link_count_refused d line f whole none b =
    let g = goes_from Source d line b in
    let more = line ∷ g.more in
    let same = (init_agrees d (guest_part d (source_part d more)) g.v f.before.before g.fits g.whole).geometry in
    let n = count_at (most_of d) link_key link_line g.v.link (lane_lines g.v) g.more line (behind_source d more g.v f whole g.fits g.whole) (own_of d.geometry g.v same g.fits logs.Link) in
    none n.0 n.1 n.2

pub pager_count_refused : (d : SessionDraft) (line : List ℕ) → LinkFits d → IsWhole d.link → d.version ≡ One → ((n : ℕ) → n ≤ most_of d → line ≢ pager_key ++ decimal n) → Begins SpellsSession (held_onto Link d (line ∷ [])) → ⊥
pager_count_refused d line f whole first none b =
    let g = goes_from Link d line b in
    let more = line ∷ g.more in
    let rest = sym (first_behind g.v.version g.v.lane (pager_lines g.v) (version_agrees d more g.v f g.fits g.whole ∙ first)) ∙ behind_link d more g.v f whole g.fits g.whole in
    let same = geometry_agrees d more g.v f g.fits g.whole in
    let n = count_at (most_of d) pager_key pager_line g.v.pager (closing ∷ []) g.more line rest (own_of d.geometry g.v same g.fits logs.Pager) in
    none n.0 n.1 n.2

pub lane_count_refused : (d : SessionDraft) (line : List ℕ) → LinkFits d → IsWhole d.link → d.version ≡ Two → ((n : ℕ) → n ≤ most_of d → line ≢ lane_key ++ decimal n) → Begins SpellsSession (held_onto Link d (line ∷ [])) → ⊥
lane_count_refused d line f whole second none b =
    let g = goes_from Link d line b in
    let more = line ∷ g.more in
    let rest = sym (second_behind g.v.version g.v.lane (pager_lines g.v) (version_agrees d more g.v f g.fits g.whole ∙ second)) ∙ behind_link d more g.v f whole g.fits g.whole in
    let same = geometry_agrees d more g.v f g.fits g.whole in
    let n = count_at (most_of d) lane_key lane_line g.v.lane (pager_lines g.v) g.more line rest (own_of d.geometry g.v same g.fits logs.Lane) in
    none n.0 n.1 n.2

pub behind_lane_refused : (d : SessionDraft) (line : List ℕ) → LaneFits d → IsWhole d.lane → ((n : ℕ) → n ≤ most_of d → line ≢ pager_key ++ decimal n) → Begins SpellsSession (held_onto Lane d (line ∷ [])) → ⊥
behind_lane_refused d line f whole none b =
    let g = goes_from Lane d line b in
    let more = line ∷ g.more in
    let same = geometry_agrees d (lane_part d more) g.v f.before g.fits g.whole in
    let n = count_at (most_of d) pager_key pager_line g.v.pager (closing ∷ []) g.more line (behind_lane d more g.v f whole g.fits g.whole) (own_of d.geometry g.v same g.fits logs.Pager) in
    none n.0 n.1 n.2

pub closing_refused : (d : SessionDraft) (line : List ℕ) → PagerFits d → IsWhole d.pager → line ≢ closing → Begins SpellsSession (held_onto Pager d (line ∷ [])) → ⊥
closing_refused d line f whole other b =
    let g = goes_from Pager d line b in
    let tail = behind_pager d (line ∷ g.more) g.v f whole g.fits g.whole in
    let l : line ≡ closing = cc in
    other l

pub more_refused : (d : SessionDraft) (line : List ℕ) → PagerFits d → IsWhole d.pager → Begins SpellsSession (held_onto Done d (line ∷ [])) → ⊥
more_refused d line f whole b =
    let g = goes_from Done d line b in
    let tail = behind_pager d (closing ∷ line ∷ g.more) g.v f whole g.fits g.whole in
    absurd cc

pub guest_refused : (d : SessionDraft) (line : List ℕ) → GuestFits d → length d.guest.items < d.guest.count → ((r : GuestRec) → GuestRecFits d.geometry r → line ≢ guest_line r) → Begins SpellsSession (held_onto Guest d (line ∷ [])) → ⊥
guest_refused d line f less none b =
    let g = goes_from Guest d line b in
    let more = line ∷ g.more in
    let same = (init_agrees d (guest_part d more) g.v f.before g.fits g.whole).geometry in
    let r = item_at guest_line (GuestRecFits d.geometry) d.guest g.v.guest (source_lines g.v) g.more line (guest_agrees d more g.v f g.fits g.whole) less (subst (λ (e : Extent). AllByRecursion (GuestRecFits e) g.v.guest) (sym same) g.fits.guest) in
    none r.0 r.1 r.2

pub source_refused : (d : SessionDraft) (line : List ℕ) → SourceFits d → length d.source.items < d.source.count → ((r : SourceRec) → SourceRecFits d.geometry r → line ≢ source_line r) → Begins SpellsSession (held_onto Source d (line ∷ [])) → ⊥
source_refused d line f less none b =
    let g = goes_from Source d line b in
    let more = line ∷ g.more in
    let same = (init_agrees d (guest_part d (source_part d more)) g.v f.before.before g.fits g.whole).geometry in
    let r = item_at source_line (SourceRecFits d.geometry) d.source g.v.source (link_lines g.v) g.more line (source_agrees d more g.v f g.fits g.whole) less (subst (λ (e : Extent). AllByRecursion (SourceRecFits e) g.v.source) (sym same) g.fits.source) in
    none r.0 r.1 r.2

pub link_refused : (d : SessionDraft) (line : List ℕ) → LinkFits d → length d.link.items < d.link.count → ((r : LinkRec) → LinkRecFits d.geometry r → line ≢ link_line r) → Begins SpellsSession (held_onto Link d (line ∷ [])) → ⊥
link_refused d line f less none b =
    let g = goes_from Link d line b in
    let more = line ∷ g.more in
    let same = geometry_agrees d more g.v f g.fits g.whole in
    let r = item_at link_line (LinkRecFits d.geometry) d.link g.v.link (lane_lines g.v) g.more line (link_agrees d more g.v f g.fits g.whole) less (subst (λ (e : Extent). AllByRecursion (LinkRecFits e) g.v.link) (sym same) g.fits.link) in
    none r.0 r.1 r.2

pub lane_refused : (d : SessionDraft) (line : List ℕ) → LaneFits d → d.version ≡ Two → length d.lane.items < d.lane.count → ((r : LaneRec) → LaneRecFits Two d.geometry r → line ≢ lane_line r) → Begins SpellsSession (held_onto Lane d (line ∷ [])) → ⊥
lane_refused d line f second less none b =
    let g = goes_from Lane d line b in
    let more = line ∷ g.more in
    let same = version_agrees d (lane_part d more) g.v f.before g.fits g.whole ∙ second in
    let geo = geometry_agrees d (lane_part d more) g.v f.before g.fits g.whole in
    let each = subst (λ (e : Extent). AllByRecursion (LaneRecFits Two e) g.v.lane) (sym geo) (subst (λ (w : Version). AllByRecursion (LaneRecFits w g.v.geometry) g.v.lane) same g.fits.lane) in
    let r = item_at lane_line (LaneRecFits Two d.geometry) d.lane g.v.lane (pager_lines g.v) g.more line (lane_agrees d more g.v f (λ first. absurd (one_version d.version first second)) g.fits g.whole) less each in
    none r.0 r.1 r.2

pub pager_refused : (d : SessionDraft) (line : List ℕ) → PagerFits d → length d.pager.items < d.pager.count → ((r : PagerRec) → PagerRecFits d.version d.geometry r → line ≢ pager_line r) → Begins SpellsSession (held_onto Pager d (line ∷ [])) → ⊥
pager_refused d line f less none b =
    let g = goes_from Pager d line b in
    let more = line ∷ g.more in
    let same = init_agrees d (guest_part d (source_part d (link_part d (lane_part d (pager_part d more))))) g.v f.before.before.before.before.before g.fits g.whole in
    let each = subst (λ (e : Extent). AllByRecursion (PagerRecFits d.version e) g.v.pager) (sym same.geometry) (subst (λ (w : Version). AllByRecursion (PagerRecFits w g.v.geometry) g.v.pager) (sym same.version) g.fits.pager) in
    let r = item_at pager_line (PagerRecFits d.version d.geometry) d.pager g.v.pager (closing ∷ []) g.more line (pager_agrees d more g.v f g.fits g.whole) less each in
    none r.0 r.1 r.2
