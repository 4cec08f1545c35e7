-- A list that begins, and one more line of a list.
use Rattle.std.proofs.Common.{◌≡◌, ℕ, ◌+◌, ◌≤◌, List, [], ◌∷◌, ◌++◌, length, refl, sym, ap, subst, ◌∙◌, append_assoc, length-append, arith}
use Rattle.std.specs.Fmt.{decimal}
use Rattle.migration_types.specs.declared.pages.InitPage.{InitPage}
use Rattle.migration_types.specs.declared.version.Version.{Version}
use Rattle.migration_types.specs.declared.version.Version.TheVariants.{One, Two}
use Rattle.text_lines.specs.Text.{closing}
use Rattle.session_grammar.specs.Grammar.{page_line, init_key}
use Rattle.session_grammar.specs.Records.{guest_key, source_key, link_key, lane_key, pager_key, guest_line, source_line, link_line, lane_line, pager_line}
use Rattle.session_grammar.specs.declared.stage.Stage.TheVariants as stage
use Rattle.session_grammar.specs.inner.Held.{geometry_onto, init_onto, guest_onto, source_onto, link_onto, lane_part_onto, lane_onto}
use Rattle.session_grammar.proofs.Sections.{onto_push}
use Rattle.session_grammar.proofs.ByVersion.{lane_is}
use Rattle.recordings.specs.Wide.{guest_of, source_of, link_of, lane_of, pager_of, log_of, wide_line}
use Rattle.recordings.specs.declared.wide.Wide.{Wide}
use Rattle.recordings.specs.declared.wide.Wide.TheVariants as wide
use Rattle.recordings.specs.inner.Held.{SessionDraft, Part, IsWhole, held_onto, came_at, announced_at}
use Rattle.walked_sessions.specs.declared.text.ListKind.{ListKind}
use Rattle.walked_sessions.specs.declared.text.ListKind.TheVariants as section
use Rattle.walked_sessions.specs.declared.text.Text.{Text}
use Rattle.walked_sessions.specs.inner.Made.{stage_of, rank, lane_count, AreCounts, Lives, Stands, IsSame, Begins, Takes, IsEnded, list_of, with_item, and_init, and_record}
use Rattle.walked_sessions.proofs.Lines.{text_more, fresh_onto, counts_kept, StandsAt, stands_at, stands_there}

-- ---- a list begins

-- all lines of the list came
whole : {X : Type 0} (part : Part X) (left : ℕ) → left ≡ 0 → left + length part.items ≡ part.count → IsWhole part
whole part left none came = omega arith

begun : (before : List ℕ) (old new : Text) (d : SessionDraft) (at next : ListKind) (key : List ℕ) (count : ℕ) → StandsAt before old at d → Begins old new next key count → Lives next d → count + came_at (stage_of next) d ≡ announced_at (stage_of next) d → held_onto (stage_of next) d [] ≡ held_onto (stage_of at) d ((key ++ decimal count) ∷ []) → Stands before new d
begun before old new d at next key count s begins lives came held =
    let bytes : new.bytes.items ≡ old.bytes.items ++ ((key ++ decimal count) ++ 10 ∷ []) = begins.bytes ∙ ap (λ (xs : List ℕ). old.bytes.items ++ xs) (sym (append_assoc key (decimal count) (10 ∷ []))) in
    stands_there before new next d begins.section (record {
      counts = counts_kept old new d s.counts begins.same;
      lives = lives;
      came = ap (λ (n : ℕ). n + came_at (stage_of next) d) begins.left ∙ came;
      text = text_more before old.bytes.items new.bytes.items (key ++ decimal count) (stage_of at) (stage_of next) d d s.text bytes held;
    })

-- none of a list's lines came
fresh : {X : Type 0} (part : Part X) (n : ℕ) → part.items ≡ [] → part.count ≡ n → n + length part.items ≡ part.count
fresh part n none count = let e : length part.items ≡ 0 = ap length none in omega arith

pub to_guest : (before : List ℕ) (old new : Text) (d : SessionDraft) → old.section ≡ section.Init → Begins old new section.Guest guest_key old.front.guest → Stands before old d → Stands before new d
to_guest before old new d is begins stands =
    let s = stands_at before old section.Init d is stands in
    begun before old new d section.Init section.Guest guest_key old.front.guest s begins
    (whole d.init old.left begins.none s.came, s.lives.1)
    (fresh d.guest old.front.guest s.lives.0 s.counts.guest)
    (ap (init_onto d) (fresh_onto guest_key guest_line d.guest old.front.guest s.lives.0 s.counts.guest))

pub to_source : (before : List ℕ) (old new : Text) (d : SessionDraft) → old.section ≡ section.Guest → Begins old new section.Source source_key old.front.source → Stands before old d → Stands before new d
to_source before old new d is begins stands =
    let s = stands_at before old section.Guest d is stands in
    begun before old new d section.Guest section.Source source_key old.front.source s begins
    (s.lives.0, whole d.guest old.left begins.none s.came, s.lives.1.1)
    (fresh d.source old.front.source s.lives.1.0 s.counts.source)
    (ap (guest_onto d) (fresh_onto source_key source_line d.source old.front.source s.lives.1.0 s.counts.source))

pub to_link : (before : List ℕ) (old new : Text) (d : SessionDraft) → old.section ≡ section.Source → Begins old new section.Link link_key old.front.link → Stands before old d → Stands before new d
to_link before old new d is begins stands =
    let s = stands_at before old section.Source d is stands in
    begun before old new d section.Source section.Link link_key old.front.link s begins
    (s.lives.0, s.lives.1, whole d.source old.left begins.none s.came, s.lives.2.1)
    (fresh d.link old.front.link s.lives.2.0 s.counts.link)
    (ap (source_onto d) (fresh_onto link_key link_line d.link old.front.link s.lives.2.0 s.counts.link))

-- the lane has as many lines as the front has records of it
lane_counted : (t : Text) (d : SessionDraft) → t.version ≡ Two → AreCounts t d → d.lane.count ≡ t.front.lane
lane_counted t d is counts = counts.lane ∙ ap (λ (v : Version). lane_count v t.front.lane) is

pub to_lane : (before : List ℕ) (old new : Text) (d : SessionDraft) → old.section ≡ section.Link → old.version ≡ Two → Begins old new section.Lane lane_key old.front.lane → Stands before old d → Stands before new d
to_lane before old new d is two begins stands =
    let s = stands_at before old section.Link d is stands in
    let version = s.counts.version ∙ two in
    let count = lane_counted old d two s.counts in
    begun before old new d section.Link section.Lane lane_key old.front.lane s begins
    (s.lives.0, s.lives.1, s.lives.2, whole d.link old.left begins.none s.came, version, s.lives.3.1)
    (fresh d.lane old.front.lane s.lives.3.0 count)
    (ap (link_onto d) (lane_is d.version d.lane [] version ∙ fresh_onto lane_key lane_line d.lane old.front.lane s.lives.3.0 count))

pub from_lane : (before : List ℕ) (old new : Text) (d : SessionDraft) → old.section ≡ section.Lane → Begins old new section.Pager pager_key old.front.pager → Stands before old d → Stands before new d
from_lane before old new d is begins stands =
    let s = stands_at before old section.Lane d is stands in
    begun before old new d section.Lane section.Pager pager_key old.front.pager s begins
    (s.lives.0, s.lives.1, s.lives.2, s.lives.3, whole d.lane old.left begins.none s.came)
    (fresh d.pager old.front.pager s.lives.5 s.counts.pager)
    (ap (lane_onto d) (fresh_onto pager_key pager_line d.pager old.front.pager s.lives.5 s.counts.pager))

-- in the first version nothing is announced of the lane
no_lane : (t : Text) (d : SessionDraft) → t.version ≡ One → AreCounts t d → d.lane.count ≡ 0
no_lane t d is counts = counts.lane ∙ ap (λ (v : Version). lane_count v t.front.lane) is

pub from_link : (before : List ℕ) (old new : Text) (d : SessionDraft) → old.section ≡ section.Link → old.version ≡ One → Begins old new section.Pager pager_key old.front.pager → Stands before old d → Stands before new d
from_link before old new d is one begins stands =
    let s = stands_at before old section.Link d is stands in
    let lines = (pager_key ++ decimal old.front.pager) ∷ [] in
    let count = no_lane old d one s.counts in
    let none : length d.lane.items ≡ 0 = ap length s.lives.3.0 in
    let lane : IsWhole d.lane = none ∙ sym count in
    begun before old new d section.Link section.Pager pager_key old.front.pager s begins
    (s.lives.0, s.lives.1, s.lives.2, whole d.link old.left begins.none s.came, lane)
    (fresh d.pager old.front.pager s.lives.3.1 s.counts.pager)
    (ap (lane_onto d) (fresh_onto pager_key pager_line d.pager old.front.pager s.lives.3.1 s.counts.pager) ∙ ap (link_onto d) (ap (λ (v : Version). lane_part_onto v d.lane lines) (s.counts.version ∙ one)))

pub to_pager : (before : List ℕ) (old new : Text) (d : SessionDraft) → (old.section ≡ section.Pager → ⊥) → 3 ≤ rank old.section → (old.version ≡ Two → 4 ≤ rank old.section) → Begins old new section.Pager pager_key old.front.pager → Stands before old d → Stands before new d
to_pager before old new d other reached two begins stands = go old.section old.version refl refl
  where
    go : (at : ListKind) (v : Version) → old.section ≡ at → old.version ≡ v → Stands before new d
    go section.Init v is version = let r : 3 ≤ rank section.Init = subst (λ (x : ListKind). 3 ≤ rank x) is reached in absurd (omega arith)
    go section.Guest v is version = let r : 3 ≤ rank section.Guest = subst (λ (x : ListKind). 3 ≤ rank x) is reached in absurd (omega arith)
    go section.Source v is version = let r : 3 ≤ rank section.Source = subst (λ (x : ListKind). 3 ≤ rank x) is reached in absurd (omega arith)
    go section.Link One is version = from_link before old new d is version begins stands
    go section.Link Two is version = let r : 4 ≤ rank section.Link = subst (λ (x : ListKind). 4 ≤ rank x) is (two version) in absurd (omega arith)
    go section.Lane v is version = from_lane before old new d is begins stands
    go section.Pager v is version = absurd (other is)

pub at_pager : (at : ListKind) → 5 ≤ rank at → at ≡ section.Pager
at_pager section.Init le = absurd (omega arith)
at_pager section.Guest le = absurd (omega arith)
at_pager section.Source le = absurd (omega arith)
at_pager section.Link le = absurd (omega arith)
at_pager section.Lane le = absurd (omega arith)
at_pager section.Pager le = refl

-- ---- one more line

-- a line was appended
pub record IsPushed (old new : Text) (line : List ℕ) : Type 0 where
  pub same : IsSame old new
  pub section : new.section ≡ old.section
  pub left : new.left ≡ old.left
  pub bytes : new.bytes.items ≡ old.bytes.items ++ (line ++ 10 ∷ [])

counted : {X : Type 0} (part : Part X) (x : X) (left less : ℕ) → less + 1 ≡ left → left + length part.items ≡ part.count → less + length (part.items ++ x ∷ []) ≡ part.count
counted part x left less one came = omega (arith, length-append part.items (x ∷ []))

same_then : (a b c : Text) → IsSame a b → IsSame b c → IsSame a c
same_then a b c p q = record { front = q.front ∙ p.front; init = q.init ∙ p.init; version = q.version ∙ p.version }

pushed : (before : List ℕ) (old taken new : Text) (d e : SessionDraft) (at : ListKind) (line : List ℕ) → StandsAt before old at d → Takes old taken at → IsPushed taken new line → (AreCounts old d → AreCounts old e) → Lives at e → (taken.left + came_at (stage_of at) e ≡ announced_at (stage_of at) e) → held_onto (stage_of at) e [] ≡ held_onto (stage_of at) d (line ∷ []) → Stands before new e
pushed before old taken new d e at line s takes push counts lives came held =
    let bytes : new.bytes.items ≡ old.bytes.items ++ (line ++ 10 ∷ []) = push.bytes ∙ ap (λ (v : _). v.items ++ (line ++ 10 ∷ [])) takes.bytes in
    stands_there before new at e (push.section ∙ takes.section) (record {
      counts = counts_kept old new e (counts s.counts) (same_then old taken new takes.same push.same);
      lives = lives;
      came = ap (λ (n : ℕ). n + came_at (stage_of at) e) push.left ∙ came;
      text = text_more before old.bytes.items new.bytes.items line (stage_of at) (stage_of at) d e s.text bytes held;
    })

recounted : (t : Text) (d e : SessionDraft) → e.version ≡ d.version → e.init.count ≡ d.init.count → e.guest.count ≡ d.guest.count → e.source.count ≡ d.source.count → e.link.count ≡ d.link.count → e.lane.count ≡ d.lane.count → e.pager.count ≡ d.pager.count → AreCounts t d → AreCounts t e
recounted t d e v i g s l n p c = record { version = v ∙ c.version; init = i ∙ c.init; guest = g ∙ c.guest; source = s ∙ c.source; link = l ∙ c.link; lane = n ∙ c.lane; pager = p ∙ c.pager }

pub pushed_init : (before : List ℕ) (old taken new : Text) (d : SessionDraft) (x : InitPage) → Takes old taken section.Init → IsPushed taken new (page_line x) → Stands before old d → Stands before new (and_init d x)
pushed_init before old taken new d x takes push stands =
    let s = stands_at before old section.Init d takes.was stands in
    pushed before old taken new d (and_init d x) section.Init (page_line x) s takes push (recounted old d (and_init d x) refl refl refl refl refl refl refl) s.lives
    (counted d.init x old.left taken.left takes.left s.came)
    (ap (geometry_onto d) (onto_push init_key page_line d.init x []))

pub pushed_record : (before : List ℕ) (old taken new : Text) (d : SessionDraft) (rec : Wide) → Takes old taken (list_of (log_of rec)) → IsPushed taken new (wide_line rec) → Stands before old d → Stands before new (and_record d rec)
pushed_record before old taken new d (wide.Guest r) takes push stands =
    let s = stands_at before old section.Guest d takes.was stands in
    pushed before old taken new d (and_record d (wide.Guest r)) section.Guest (guest_line (guest_of r)) s takes push (recounted old d (and_record d (wide.Guest r)) refl refl refl refl refl refl refl) s.lives
    (counted d.guest (guest_of r) old.left taken.left takes.left s.came)
    (ap (init_onto d) (onto_push guest_key guest_line d.guest (guest_of r) []))
pushed_record before old taken new d (wide.Source r) takes push stands =
    let s = stands_at before old section.Source d takes.was stands in
    pushed before old taken new d (and_record d (wide.Source r)) section.Source (source_line (source_of r)) s takes push (recounted old d (and_record d (wide.Source r)) refl refl refl refl refl refl refl) s.lives
    (counted d.source (source_of r) old.left taken.left takes.left s.came)
    (ap (guest_onto d) (onto_push source_key source_line d.source (source_of r) []))
pushed_record before old taken new d (wide.Link r) takes push stands =
    let s = stands_at before old section.Link d takes.was stands in
    pushed before old taken new d (and_record d (wide.Link r)) section.Link (link_line (link_of r)) s takes push (recounted old d (and_record d (wide.Link r)) refl refl refl refl refl refl refl) s.lives
    (counted d.link (link_of r) old.left taken.left takes.left s.came)
    (ap (source_onto d) (onto_push link_key link_line d.link (link_of r) []))
pushed_record before old taken new d (wide.Lane r) takes push stands =
    let s = stands_at before old section.Lane d takes.was stands in
    let version = s.lives.4 in
    pushed before old taken new d (and_record d (wide.Lane r)) section.Lane (lane_line (lane_of r)) s takes push (recounted old d (and_record d (wide.Lane r)) refl refl refl refl refl refl refl) s.lives
    (counted d.lane (lane_of r) old.left taken.left takes.left s.came)
    (ap (link_onto d) (lane_is d.version (with_item d.lane (lane_of r)) [] version ∙ (onto_push lane_key lane_line d.lane (lane_of r) [] ∙ sym (lane_is d.version d.lane (lane_line (lane_of r) ∷ []) version))))
pushed_record before old taken new d (wide.Pager r) takes push stands =
    let s = stands_at before old section.Pager d takes.was stands in
    pushed before old taken new d (and_record d (wide.Pager r)) section.Pager (pager_line (pager_of r)) s takes push (recounted old d (and_record d (wide.Pager r)) refl refl refl refl refl refl refl) s.lives
    (counted d.pager (pager_of r) old.left taken.left takes.left s.came)
    (ap (lane_onto d) (onto_push pager_key pager_line d.pager (pager_of r) []))

-- ---- the end

pub ended_text : (before : List ℕ) (old new : Text) (d : SessionDraft) → old.section ≡ section.Pager → old.left ≡ 0 → new.bytes.items ≡ old.bytes.items ++ (closing ++ 10 ∷ []) → Stands before old d → IsEnded before new d
ended_text before old new d is none bytes stands =
    let s = stands_at before old section.Pager d is stands in
    record {
      init = s.lives.0;
      guest = s.lives.1;
      source = s.lives.2;
      link = s.lives.3;
      lane = s.lives.4;
      pager = whole d.pager old.left none s.came;
      text = text_more before old.bytes.items new.bytes.items closing stage.Pager stage.Done d d s.text bytes refl;
    }
