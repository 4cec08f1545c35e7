-- The lines of a text, by what stands behind each list, and pages whose numbers rise.
use Rattle.std.specs.Prelude.{Some, slice_get}
use Rattle.std.proofs.Common.{◌≡◌, ℕ, zero, suc, ◌+◌, ◌-◌, ◌<◌, ◌≤◌, ◌^◌, List, [], ◌∷◌, ◌++◌, length, map, refl, sym, ap, subst, ◌∙◌, length-append, arith}
use Rattle.std.specs.Fmt.{decimal}
use Rattle.std.proofs.lemmas.List.{append_cancel_left}
use Rattle.std.proofs.lemmas.Fmt.{decimal_injective}
use Rattle.text_lines.specs.Contents.{contents_text}
use Rattle.text_lines.proofs.Sections.{CountedAgree}
use Rattle.text_lines.proofs.WordLaws.{decimal_word, same_cut}
use Rattle.migration_types.specs.declared.pages.InitPage.{InitPage}
use Rattle.migration_types.specs.declared.version.Version.{Version}
use Rattle.migration_types.specs.Extents.{Extent}
use Rattle.migration_types.specs.Pages.{InitPageFits}
use Rattle.migration_types.specs.declared.size.Size.{Size}
use Rattle.migration_types.specs.Sessions.{Recorded}
use Rattle.session_grammar.specs.declared.stage.Stage.{Stage}
use Rattle.session_grammar.specs.declared.stage.Stage.TheVariants.{Header, Pages, Cells, InitCount, Init, Guest, Source, Link, Lane, Pager, Done}
use Rattle.session_grammar.specs.Records.{guest_line, source_line, link_line, pager_line}
use Rattle.session_grammar.specs.inner.InitPages.{IsInitContent, Rise, next_from, rise_long}
use Rattle.session_grammar.specs.Grammar.{init_key, guest_key, source_key, link_key, pager_key, page_key, page_line, with_lane, closing, counted}
use Rattle.session_grammar.specs.inner.Held.{SessionDraft, Part, part_onto, geometry_onto, init_onto, guest_onto, source_onto, link_onto, lane_part_onto, lane_onto, pager_onto, held_onto, InitFits}
use Rattle.session_grammar.proofs.Lists.{all_append}
use Rattle.session_grammar.proofs.Sections.{part_append, with_items}
use Rattle.session_grammar.proofs.ByVersion.{lane_append}

-- ---- more lines behind those held

abbrev pub guest_part : SessionDraft → List (List ℕ) → List (List ℕ)
guest_part d more = part_onto guest_key guest_line d.guest more

abbrev pub source_part : SessionDraft → List (List ℕ) → List (List ℕ)
source_part d more = part_onto source_key source_line d.source more

abbrev pub link_part : SessionDraft → List (List ℕ) → List (List ℕ)
link_part d more = part_onto link_key link_line d.link more

abbrev pub lane_part : SessionDraft → List (List ℕ) → List (List ℕ)
lane_part d more = lane_part_onto d.version d.lane more

abbrev pub pager_part : SessionDraft → List (List ℕ) → List (List ℕ)
pager_part d more = part_onto pager_key pager_line d.pager more

init_append : (d : SessionDraft) (a b : List (List ℕ)) → init_onto d a ++ b ≡ init_onto d (a ++ b)
init_append d a b = ap (geometry_onto d) (part_append init_key page_line d.init a b)

guest_append : (d : SessionDraft) (a b : List (List ℕ)) → guest_onto d a ++ b ≡ guest_onto d (a ++ b)
guest_append d a b = init_append d (guest_part d a) b ∙ ap (init_onto d) (part_append guest_key guest_line d.guest a b)

source_append : (d : SessionDraft) (a b : List (List ℕ)) → source_onto d a ++ b ≡ source_onto d (a ++ b)
source_append d a b = guest_append d (source_part d a) b ∙ ap (guest_onto d) (part_append source_key source_line d.source a b)

link_append : (d : SessionDraft) (a b : List (List ℕ)) → link_onto d a ++ b ≡ link_onto d (a ++ b)
link_append d a b = source_append d (link_part d a) b ∙ ap (source_onto d) (part_append link_key link_line d.link a b)

in_lane_append : (d : SessionDraft) (a b : List (List ℕ)) → lane_onto d a ++ b ≡ lane_onto d (a ++ b)
in_lane_append d a b = link_append d (lane_part d a) b ∙ ap (link_onto d) (lane_append d.version d.lane a b)

pager_append : (d : SessionDraft) (a b : List (List ℕ)) → pager_onto d a ++ b ≡ pager_onto d (a ++ b)
pager_append d a b = in_lane_append d (pager_part d a) b ∙ ap (lane_onto d) (part_append pager_key pager_line d.pager a b)

pub held_append : (stage : Stage) (d : SessionDraft) (a b : List (List ℕ)) → held_onto stage d a ++ b ≡ held_onto stage d (a ++ b)
held_append Header d a b = refl
held_append Pages d a b = refl
held_append Cells d a b = refl
held_append InitCount d a b = refl
held_append Init d a b = init_append d a b
held_append Guest d a b = guest_append d a b
held_append Source d a b = source_append d a b
held_append Link d a b = link_append d a b
held_append Lane d a b = in_lane_append d a b
held_append Pager d a b = pager_append d a b
held_append Done d a b = pager_append d (closing ∷ a) b

pub held_line : (stage : Stage) (d : SessionDraft) (held : List (List ℕ)) (line : List ℕ) → held_onto stage d [] ≡ held → held_onto stage d (line ∷ []) ≡ held ++ line ∷ []
held_line stage d held line e = sym (held_append stage d [] (line ∷ [])) ∙ ap (λ (t : List (List ℕ)). t ++ line ∷ []) e

-- ---- the lines before the lists

pub keyed : (key : List ℕ) (m n : ℕ) → m < 2 ^ 64 → n < 2 ^ 64 → key ++ decimal m ≡ key ++ decimal n → m ≡ n
keyed key m n p q e = decimal_injective m n p q (append_cancel_left key (decimal m) (decimal n) e)

abbrev pub extent : Size → ℕ → ℕ → Extent
extent size pages cells = record { size = size; pages = pages; cells = cells }

pub extent_same : (a b : Extent) → a.size ≡ b.size → a.pages ≡ b.pages → a.cells ≡ b.cells → a ≡ b
extent_same a b s p q = ap (λ (n : Size). extent n a.pages a.cells) s ∙ (ap (λ (n : ℕ). extent b.size n a.cells) p ∙ ap (extent b.size b.pages) q)

-- ---- what stands behind each list

abbrev pub pager_lines : Recorded → List (List ℕ)
pager_lines v = counted pager_key pager_line v.pager (closing ∷ [])

abbrev pub lane_lines : Recorded → List (List ℕ)
lane_lines v = with_lane v.version v.lane (pager_lines v)

abbrev pub link_lines : Recorded → List (List ℕ)
link_lines v = counted link_key link_line v.link (lane_lines v)

abbrev pub source_lines : Recorded → List (List ℕ)
source_lines v = counted source_key source_line v.source (link_lines v)

abbrev pub guest_lines : Recorded → List (List ℕ)
guest_lines v = counted guest_key guest_line v.guest (source_lines v)

pub record InitAgrees (d : SessionDraft) (more : List (List ℕ)) (v : Recorded) : Type 0 where
  pub version : d.version ≡ v.version
  pub geometry : d.geometry ≡ v.geometry
  pub init : CountedAgree page_line d.init.count v.init d.init.items (guest_lines v) more

abbrev pub StartFits : SessionDraft → Type 0
StartFits d = InitFits d.version d.geometry d.next_page d.init

-- ---- the pages

next_at : (low : ℕ) (ps : List InitPage) (i : ℕ) (q : InitPage) → slice_get ps i ≡ Some q → i + 1 ≡ length ps → next_from low ps ≡ q.page + 1
next_at low [] i q e last = absurd (omega arith)
next_at low (p ∷ []) zero q e last = let same : p ≡ q = cc in ap (λ (x : InitPage). x.page + 1) same
next_at low (p ∷ []) (suc i) q e last = absurd (omega arith)
next_at low (p ∷ r ∷ ps) zero q e last = absurd (omega arith)
next_at low (p ∷ r ∷ ps) (suc i) q e last = next_at (p.page + 1) (r ∷ ps) i q e (omega arith)

-- behind the last page
pub next_last : (ps : List InitPage) (q : InitPage) → slice_get ps (length ps - 1) ≡ Some q → next_from 0 ps ≡ q.page + 1
next_last [] q e = absurd cc
next_last (p ∷ ps) q e = next_at 0 (p ∷ ps) (length (p ∷ ps) - 1) q e (omega arith)

pub page_same : (x y : InitPage) → x.page < 2 ^ 64 → y.page < 2 ^ 64 → page_line x ≡ page_line y → (x.page ≡ y.page) × (contents_text x.cells ≡ contents_text y.cells)
page_same x y p q e =
    let rest = append_cancel_left page_key (decimal x.page ++ 32 ∷ contents_text x.cells) (decimal y.page ++ 32 ∷ contents_text y.cells) e in
    let cut = same_cut (decimal x.page) (decimal y.page) (contents_text x.cells) (contents_text y.cells) (decimal_word x.page p) (decimal_word y.page q) rest in
    (decimal_injective x.page y.page p q cut.0, cut.1)

-- a page behind others has a number behind theirs, with room for those to come
pub rise_at : (low high next : ℕ) (xs ys : List InitPage) (item : InitPage) (back : List InitPage) → high < 2 ^ 64 → next < 2 ^ 64 → Rise low (xs ++ item ∷ back) high → Rise low ys next → map page_line xs ≡ map page_line ys → (next ≤ item.page) × (item.page + 1 + length back ≤ high)
rise_at low high next [] [] item back p q r s e = let k = rise_long (item.page + 1) high back r.1 in (omega (arith, r.0, s), omega arith)
rise_at low high next [] (y ∷ ys) item back p q r s e = absurd cc
rise_at low high next (x ∷ xs) [] item back p q r s e = absurd cc
rise_at low high next (x ∷ xs) (y ∷ ys) item back p q r s e =
    let heads : page_line x ≡ page_line y = cc in
    let tails : map page_line xs ≡ map page_line ys = cc in
    let a = rise_long (x.page + 1) high (xs ++ item ∷ back) r.1 in
    let b = rise_long (y.page + 1) next ys s.1 in
    let same = (page_same x y (omega arith) (omega arith) heads).0 in
    rise_at (x.page + 1) high next xs ys item back p q r.1 (subst (λ (n : ℕ). Rise (n + 1) ys next) (sym same) s.1) tails

pub rise_push : (low next : ℕ) (ps : List InitPage) (p : InitPage) → Rise low ps next → next ≤ p.page → Rise low (ps ++ p ∷ []) (p.page + 1)
rise_push low next [] p r le = (omega (arith, r), refl)
rise_push low next (q ∷ ps) p r le = (r.0, rise_push (q.page + 1) next ps p r.1 le)

pub page_push : (version : Version) (e : Extent) (part : Part InitPage) (next after : ℕ) (p : InitPage) → after ≡ p.page + 1 → InitFits version e next part → length part.items < part.count → next ≤ p.page → p.page ≤ e.pages - (part.count - length part.items) → IsInitContent e.cells p.cells → InitFits version e after (with_items part (p ∷ []))
page_push version e part next after p is f less low high has =
    let room = f.room in
    let len = length-append part.items (p ∷ []) in
    record {
      size = f.size;
      geometry = f.geometry;
      within = omega (arith, len);
      each = all_append (InitPageFits e) part.items (p ∷ []) f.each (record { page = omega arith; content = has.content; not_zeros = has.not_zeros }, tt);
      rising = subst (Rise 0 (part.items ++ p ∷ [])) (sym is) (rise_push 0 next part.items p f.rising low);
      room = omega (arith, len, is);
    }
