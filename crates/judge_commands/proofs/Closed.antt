-- The lines of a session's text, of which the last alone is `end`.
use Rattle.std.proofs.Common.{◌≡◌, ◌≢◌, ℕ, ◌==◌, Bool, false, List, [], ◌∷◌, ◌++◌, length, map, refl, ap, subst, codes}
use Rattle.std.specs.List.{AllByRecursion}
use Rattle.std.specs.Fmt.{decimal}
use Rattle.text_lines.specs.Counted.{counted}
use Rattle.migration_types.specs.declared.pages.InitPage.{InitPage}
use Rattle.migration_types.specs.declared.records.GuestRec.{GuestRec}
use Rattle.migration_types.specs.declared.records.GuestRec.TheVariants.{Read, Write, Release, Miss, Halt, Resume, See}
use Rattle.migration_types.specs.declared.records.SourceRec.{SourceRec}
use Rattle.migration_types.specs.declared.records.SourceRec.TheVariants.{Halted, State, Send, Again, Ask, Done, Back}
use Rattle.migration_types.specs.declared.records.LinkRec.{LinkRec}
use Rattle.migration_types.specs.declared.records.LinkRec.TheVariants.{Down, Up}
use Rattle.migration_types.specs.declared.records.LaneRec.{LaneRec}
use Rattle.migration_types.specs.declared.records.LaneRec.TheVariants.{Down as LaneDown}
use Rattle.migration_types.specs.declared.records.PagerRec.{PagerRec}
use Rattle.migration_types.specs.declared.records.PagerRec.TheVariants.{Got, Pull, Ready, Fault, Join, Want, Place, Zero, Skip, All}
use Rattle.migration_types.specs.declared.version.Version.{Version}
use Rattle.migration_types.specs.declared.version.Version.TheVariants.{One, Two}
use Rattle.migration_types.specs.declared.size.Size.{Size}
use Rattle.migration_types.specs.declared.size.Size.TheVariants.{Small, Large}
use Rattle.migration_types.specs.Sessions.{Recorded}
use Rattle.session_grammar.specs.Records.{guest_line, source_line, link_line, lane_line, pager_line}
use Rattle.session_grammar.specs.Grammar.{header, pages_key, cells_key, init_key, guest_key, source_key, link_key, lane_key, pager_key, page_line, with_lane, session_lines}

-- the last line is `end`, and none before it
pub record IsClosed (lines : List (List ℕ)) : Type 0 where
  pub before : List (List ℕ)
  pub whole : lines ≡ before ++ codes "end" ∷ []
  pub none : AllByRecursion (λ line. line ≢ codes "end") before

-- whether a line begins as `end` does, which computes
abbrev starts_so : List ℕ → Bool
starts_so [] = false
starts_so (b ∷ bs) = b == 101

other_line : (line : List ℕ) → starts_so line ≡ false → line ≢ codes "end"
other_line line e same = let is : starts_so (codes "end") ≡ false = subst (λ (l : List ℕ). starts_so l ≡ false) same e in absurd cc

closed_end : IsClosed (codes "end" ∷ [])
closed_end = record { before = []; whole = refl; none = tt }

closed_cons : (line : List ℕ) (lines : List (List ℕ)) → line ≢ codes "end" → IsClosed lines → IsClosed (line ∷ lines)
closed_cons line lines other c = record { before = line ∷ c.before; whole = ap (λ (t : List (List ℕ)). line ∷ t) c.whole; none = (other, c.none) }

closed_section : {X : Type 0} (spell : X → List ℕ) (items : List X) (more : List (List ℕ)) → ((x : X) → spell x ≢ codes "end") → IsClosed more → IsClosed (map spell items ++ more)
closed_section spell [] more others c = c
closed_section spell (x ∷ items) more others c = closed_cons (spell x) (map spell items ++ more) (others x) (closed_section spell items more others c)

closed_counted : {X : Type 0} (key : List ℕ) (spell : X → List ℕ) (items : List X) (more : List (List ℕ)) → key ++ decimal (length items) ≢ codes "end" → ((x : X) → spell x ≢ codes "end") → IsClosed more → IsClosed (counted key spell items more)
closed_counted key spell items more other others c = closed_cons (key ++ decimal (length items)) (map spell items ++ more) other (closed_section spell items more others c)

-- ---- no record's line is `end`

guest_other : (r : GuestRec) → guest_line r ≢ codes "end"
guest_other (Read vcpu page cell value) = other_line (guest_line (Read vcpu page cell value)) refl
guest_other (Write vcpu page cell value) = other_line (guest_line (Write vcpu page cell value)) refl
guest_other (Release vcpu page) = other_line (guest_line (Release vcpu page)) refl
guest_other (Miss vcpu page) = other_line (guest_line (Miss vcpu page)) refl
guest_other Halt = other_line (guest_line Halt) refl
guest_other (Resume ready) = other_line (guest_line (Resume ready)) refl
guest_other (See placement) = other_line (guest_line (See placement)) refl

source_other : (r : SourceRec) → source_line r ≢ codes "end"
source_other (Halted halt) = other_line (source_line (Halted halt)) refl
source_other State = other_line (source_line State) refl
source_other (Send page contents) = other_line (source_line (Send page contents)) refl
source_other (Again sending) = other_line (source_line (Again sending)) refl
source_other (Ask up) = other_line (source_line (Ask up)) refl
source_other Done = other_line (source_line Done) refl
source_other Back = other_line (source_line Back) refl

link_other : (r : LinkRec) → link_line r ≢ codes "end"
link_other (Down sending) = other_line (link_line (Down sending)) refl
link_other (Up asking) = other_line (link_line (Up asking)) refl

lane_other : (r : LaneRec) → lane_line r ≢ codes "end"
lane_other (LaneDown sending) = other_line (lane_line (LaneDown sending)) refl

pager_other : (r : PagerRec) → pager_line r ≢ codes "end"
pager_other (Got down) = other_line (pager_line (Got down)) refl
pager_other (Pull down) = other_line (pager_line (Pull down)) refl
pager_other Ready = other_line (pager_line Ready) refl
pager_other (Fault miss) = other_line (pager_line (Fault miss)) refl
pager_other (Join want) = other_line (pager_line (Join want)) refl
pager_other (Want page) = other_line (pager_line (Want page)) refl
pager_other (Place page got contents) = other_line (pager_line (Place page got contents)) refl
pager_other (Zero page) = other_line (pager_line (Zero page)) refl
pager_other (Skip got) = other_line (pager_line (Skip got)) refl
pager_other All = other_line (pager_line All) refl

page_other : (p : InitPage) → page_line p ≢ codes "end"
page_other p = other_line (page_line p) refl

header_other : (version : Version) (size : Size) → header version size ≢ codes "end"
header_other One Small = other_line (header One Small) refl
header_other Two Small = other_line (header Two Small) refl
header_other One Large = other_line (header One Large) refl
header_other Two Large = other_line (header Two Large) refl

closed_lane : (version : Version) (records : List LaneRec) (lines : List (List ℕ)) → IsClosed lines → IsClosed (with_lane version records lines)
closed_lane One records lines c = c
closed_lane Two records lines c = closed_counted lane_key lane_line records lines (other_line (lane_key ++ decimal (length records)) refl) lane_other c

pub closed_session : (s : Recorded) → IsClosed (session_lines s)
closed_session s =
    let pager = closed_counted pager_key pager_line s.pager (codes "end" ∷ []) (other_line (pager_key ++ decimal (length s.pager)) refl) pager_other closed_end in
    let link = closed_counted link_key link_line s.link _ (other_line (link_key ++ decimal (length s.link)) refl) link_other (closed_lane s.version s.lane _ pager) in
    let source = closed_counted source_key source_line s.source _ (other_line (source_key ++ decimal (length s.source)) refl) source_other link in
    let guest = closed_counted guest_key guest_line s.guest _ (other_line (guest_key ++ decimal (length s.guest)) refl) guest_other source in
    let init = closed_counted init_key page_line s.init _ (other_line (init_key ++ decimal (length s.init)) refl) page_other guest in
    closed_cons (header s.version s.geometry.size) _ (header_other s.version s.geometry.size)
    (closed_cons (pages_key ++ decimal s.geometry.pages) _ (other_line (pages_key ++ decimal s.geometry.pages) refl)
    (closed_cons (cells_key ++ decimal s.geometry.cells) _ (other_line (cells_key ++ decimal s.geometry.cells) refl) init))
