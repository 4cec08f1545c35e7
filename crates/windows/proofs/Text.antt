-- The text of a session, part by part.
use Rattle.std.proofs.Common.{◌≡◌, ℕ, List, [], ◌∷◌, ◌++◌, length, map, refl, sym, ap, ◌∙◌, append_assoc}
use Rattle.std.proofs.lemmas.List.{length-map, append-nil}
use Rattle.std.specs.Fmt.{decimal}
use Rattle.migration_types.specs.declared.version.Version.{Version}
use Rattle.migration_types.specs.declared.version.Version.TheVariants.{One, Two}
use Rattle.migration_types.specs.declared.records.LaneRec.{LaneRec}
use Rattle.migration_types.specs.Sessions.{Recorded}
use Rattle.text_lines.specs.Text.{ended, closing}
use Rattle.text_lines.specs.Counted.{counted}
use Rattle.session_grammar.specs.Grammar.{header, with_lane, pages_key, cells_key, init_key, page_line, session_lines}
use Rattle.session_grammar.specs.Records.{guest_key, source_key, link_key, lane_key, pager_key, guest_line, source_line, link_line, lane_line, pager_line}
use Rattle.windows.specs.declared.sections.Section.{Section}
use Rattle.windows.specs.inner.Met.{IsSection}
use Rattle.windows.specs.inner.Parts.{lane_lines}

-- a section's text, with its first line
pub section_text : (key : List ℕ) (section : Section) (lines : List (List ℕ)) (old mid new : List ℕ) → IsSection section lines → mid ≡ old ++ (key ++ (decimal section.count ++ 10 ∷ [])) → new ≡ mid ++ section.lines.items → new ≡ old ++ ended ((key ++ decimal (length lines)) ∷ lines)
section_text key section lines old mid new is first rest =
    rest
    ∙ ap (λ xs. xs ++ section.lines.items) first
    ∙ append_assoc old (key ++ (decimal section.count ++ 10 ∷ [])) section.lines.items
    ∙ ap (λ xs. old ++ xs) (
    append_assoc key (decimal section.count ++ 10 ∷ []) section.lines.items
    ∙ ap (λ xs. key ++ xs) (append_assoc (decimal section.count) (10 ∷ []) section.lines.items)
    ∙ sym (append_assoc key (decimal section.count) (10 ∷ section.lines.items))
    ∙ ap (λ n. (key ++ decimal n) ++ 10 ∷ section.lines.items) is.counted
    ∙ ap (λ xs. (key ++ decimal (length lines)) ++ 10 ∷ xs) is.text)

pub ended_append : (a b : List (List ℕ)) → ended (a ++ b) ≡ ended a ++ ended b
ended_append [] b = refl
ended_append (x ∷ a) b = ap (λ xs. x ++ 10 ∷ xs) (ended_append a b) ∙ sym (append_assoc x (10 ∷ ended a) (ended b))

-- a counted list, and what follows it
counted_text : {X : Type 0} (key : List ℕ) (spell : X → List ℕ) (items : List X) (more : List (List ℕ)) (old : List ℕ) → old ++ ended (counted key spell items more) ≡ (old ++ ended ((key ++ decimal (length (map spell items))) ∷ map spell items)) ++ ended more
counted_text key spell items more old =
    ap (λ xs. old ++ xs) (
    ap (λ n. ended ((key ++ decimal n) ∷ (map spell items ++ more))) (sym (length-map items spell))
    ∙ ended_append ((key ++ decimal (length (map spell items))) ∷ map spell items) more)
    ∙ sym (append_assoc old (ended ((key ++ decimal (length (map spell items))) ∷ map spell items)) (ended more))

lane_text : (version : Version) (records : List LaneRec) (more : List (List ℕ)) (old : List ℕ) → old ++ ended (with_lane version records more) ≡ (old ++ ended (lane_lines version (map lane_line records))) ++ ended more
lane_text One records more old = ap (λ xs. xs ++ ended more) (sym (append-nil old))
lane_text Two records more old = counted_text lane_key lane_line records more old

-- a session's text is these parts, one behind the other
pub record AreParts (s : Recorded) (head pages cells init guest source link lane pager all : List ℕ) : Type 0 where
  pub head_is : head ≡ header s.version s.geometry.size ++ 10 ∷ []
  pub pages_is : pages ≡ head ++ (pages_key ++ (decimal s.geometry.pages ++ 10 ∷ []))
  pub cells_is : cells ≡ pages ++ (cells_key ++ (decimal s.geometry.cells ++ 10 ∷ []))
  pub init_is : init ≡ cells ++ ended ((init_key ++ decimal (length (map page_line s.init))) ∷ map page_line s.init)
  pub guest_is : guest ≡ init ++ ended ((guest_key ++ decimal (length (map guest_line s.guest))) ∷ map guest_line s.guest)
  pub source_is : source ≡ guest ++ ended ((source_key ++ decimal (length (map source_line s.source))) ∷ map source_line s.source)
  pub link_is : link ≡ source ++ ended ((link_key ++ decimal (length (map link_line s.link))) ∷ map link_line s.link)
  pub lane_is : lane ≡ link ++ ended (lane_lines s.version (map lane_line s.lane))
  pub pager_is : pager ≡ lane ++ ended ((pager_key ++ decimal (length (map pager_line s.pager))) ∷ map pager_line s.pager)
  pub all_is : all ≡ pager ++ (closing ++ 10 ∷ [])

line_text : (key : List ℕ) (n : ℕ) (more : List (List ℕ)) (old : List ℕ) → old ++ ended ((key ++ decimal n) ∷ more) ≡ (old ++ (key ++ (decimal n ++ 10 ∷ []))) ++ ended more
line_text key n more old =
    ap (λ xs. old ++ xs) (append_assoc key (decimal n) (10 ∷ ended more) ∙ ap (λ xs. key ++ xs) (sym (append_assoc (decimal n) (10 ∷ []) (ended more))) ∙ sym (append_assoc key (decimal n ++ 10 ∷ []) (ended more)))
    ∙ sym (append_assoc old (key ++ (decimal n ++ 10 ∷ [])) (ended more))

module _ (s : Recorded) where
  from_pager : List (List ℕ)
  from_pager = counted pager_key pager_line s.pager (closing ∷ [])

  from_link : List (List ℕ)
  from_link = counted link_key link_line s.link (with_lane s.version s.lane (counted pager_key pager_line s.pager (closing ∷ [])))

  from_guest : List (List ℕ)
  from_guest = counted guest_key guest_line s.guest (counted source_key source_line s.source (counted link_key link_line s.link (with_lane s.version s.lane (counted pager_key pager_line s.pager (closing ∷ [])))))

  ends : (old pager all : List ℕ) → pager ≡ old ++ ended ((pager_key ++ decimal (length (map pager_line s.pager))) ∷ map pager_line s.pager) → all ≡ pager ++ (closing ++ 10 ∷ []) → all ≡ old ++ ended from_pager
  unfolding from_pager
  ends old pager all p a = a ∙ ap (λ xs. xs ++ (closing ++ 10 ∷ [])) p ∙ sym (counted_text pager_key pager_line s.pager (closing ∷ []) old)

  links : (old link lane all : List ℕ) → link ≡ old ++ ended ((link_key ++ decimal (length (map link_line s.link))) ∷ map link_line s.link) → lane ≡ link ++ ended (lane_lines s.version (map lane_line s.lane)) → all ≡ lane ++ ended from_pager → all ≡ old ++ ended from_link
  unfolding from_pager from_link
  links old link lane all l e a = a ∙ ap (λ xs. xs ++ ended from_pager) e ∙ sym (lane_text s.version s.lane from_pager link) ∙ ap (λ xs. xs ++ ended (with_lane s.version s.lane from_pager)) l ∙ sym (counted_text link_key link_line s.link (with_lane s.version s.lane from_pager) old)

  guests : (old guest source all : List ℕ) → guest ≡ old ++ ended ((guest_key ++ decimal (length (map guest_line s.guest))) ∷ map guest_line s.guest) → source ≡ guest ++ ended ((source_key ++ decimal (length (map source_line s.source))) ∷ map source_line s.source) → all ≡ source ++ ended from_link → all ≡ old ++ ended from_guest
  unfolding from_link from_guest
  guests old guest source all g e a = a ∙ ap (λ xs. xs ++ ended from_link) e ∙ sym (counted_text source_key source_line s.source from_link guest) ∙ ap (λ xs. xs ++ ended (counted source_key source_line s.source from_link)) g ∙ sym (counted_text guest_key guest_line s.guest (counted source_key source_line s.source from_link) old)

  pub whole : (head pages cells init guest source link lane pager all : List ℕ) → AreParts s head pages cells init guest source link lane pager all → all ≡ ended (session_lines s)
  unfolding from_guest
  whole head pages cells init guest source link lane pager all p =
      guests init guest source all p.guest_is p.source_is (links source link lane all p.link_is p.lane_is (ends lane pager all p.pager_is p.all_is))
      ∙ ap (λ xs. xs ++ ended from_guest) p.init_is
      ∙ sym (counted_text init_key page_line s.init from_guest cells)
      ∙ ap (λ xs. xs ++ ended (counted init_key page_line s.init from_guest)) p.cells_is
      ∙ sym (line_text cells_key s.geometry.cells (counted init_key page_line s.init from_guest) pages)
      ∙ ap (λ xs. xs ++ ended ((cells_key ++ decimal s.geometry.cells) ∷ counted init_key page_line s.init from_guest)) p.pages_is
      ∙ sym (line_text pages_key s.geometry.pages ((cells_key ++ decimal s.geometry.cells) ∷ counted init_key page_line s.init from_guest) head)
      ∙ ap (λ xs. xs ++ ended ((pages_key ++ decimal s.geometry.pages) ∷ (cells_key ++ decimal s.geometry.cells) ∷ counted init_key page_line s.init from_guest)) p.head_is
      ∙ append_assoc (header s.version s.geometry.size) (10 ∷ []) (ended ((pages_key ++ decimal s.geometry.pages) ∷ (cells_key ++ decimal s.geometry.cells) ∷ counted init_key page_line s.init from_guest))
