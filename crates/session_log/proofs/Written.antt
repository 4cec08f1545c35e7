-- The lines of a session, list by list.
use Rattle.std.proofs.Common.{◌≡◌, ◌<◌, ℕ, List, Option, arith, length-append, [], ◌∷◌, ◌++◌, length, map, refl, ap, subst, ◌∙◌, append_assoc}
use Rattle.text_access.specs.Written.{AppendsPart}
use Rattle.text_access.proofs.Fronts.{part_before}
use Rattle.text_lines.specs.Text.{ended}
use Rattle.std.specs.Fmt.{decimal}
use Rattle.migration_types.specs.declared.records.LaneRec.{LaneRec}
use Rattle.migration_types.specs.declared.version.Version.{Version}
use Rattle.migration_types.specs.declared.version.Version.TheVariants.{One, Two}
use Rattle.migration_types.specs.Sessions.{Recorded}
use Rattle.session_grammar.specs.Records.{guest_line, source_line, link_line, lane_line, pager_line}
use Rattle.session_grammar.specs.Grammar.{header, pages_key, cells_key, init_key, guest_key, source_key, link_key, lane_key, pager_key, page_line, with_lane, closing, counted, session_lines}
use Rattle.session_grammar.proofs.Laws.{pager_lines, lane_lines, link_lines, source_lines, guest_lines}
use Rattle.session_grammar.proofs.Sections.{ended_then}

pub two_ended : (xs ys : List (List ℕ)) → ended xs ++ ended ys ≡ ended (xs ++ ys)
two_ended xs ys = ended_then [] (ended xs) (ended xs ++ ended ys) xs ys refl refl

all_ended : (h a b c d l e z : List (List ℕ)) → ended h ++ ended a ++ ended b ++ ended c ++ ended d ++ ended l ++ ended e ++ ended z ≡ ended (h ++ a ++ b ++ c ++ d ++ l ++ e ++ z)
all_ended h a b c d l e z = simp two_ended

regroup : (h a b c d l e z : List (List ℕ)) → h ++ a ++ b ++ c ++ d ++ l ++ e ++ z ≡ h ++ (a ++ (b ++ (c ++ (d ++ (l ++ (e ++ z))))))
regroup h a b c d l e z = simp append_assoc

counted_then : {X : Type 0} (key : List ℕ) (spell : X → List ℕ) (xs : List X) (more rest : List (List ℕ)) → more ≡ rest → counted key spell xs [] ++ more ≡ counted key spell xs rest
counted_then key spell xs more rest e = ap (λ (t : List (List ℕ)). (key ++ decimal (length xs)) ∷ t) (append_assoc (map spell xs) [] more ∙ ap (λ (t : List (List ℕ)). map spell xs ++ t) e)

lane_then : (version : Version) (records : List LaneRec) (more rest : List (List ℕ)) → more ≡ rest → with_lane version records [] ++ more ≡ with_lane version records rest
lane_then One records more rest e = e
lane_then Two records more rest e = counted_then lane_key lane_line records more rest e

-- the lists of a session, each whole, one after another
abbrev pub start_lines : Recorded → List (List ℕ)
start_lines s = header s.version s.geometry.size ∷ (pages_key ++ decimal s.geometry.pages) ∷ (cells_key ++ decimal s.geometry.cells) ∷ []

joined : (s : Recorded) → start_lines s ++ counted init_key page_line s.init [] ++ counted guest_key guest_line s.guest [] ++ counted source_key source_line s.source [] ++ counted link_key link_line s.link [] ++ with_lane s.version s.lane [] ++ counted pager_key pager_line s.pager [] ++ (closing ∷ []) ≡ session_lines s
joined s =
    let init = counted init_key page_line s.init [] in
    let guest = counted guest_key guest_line s.guest [] in
    let source = counted source_key source_line s.source [] in
    let link = counted link_key link_line s.link [] in
    let lane = with_lane s.version s.lane [] in
    let pager = counted pager_key pager_line s.pager [] in
    let end = closing ∷ [] in
    let in_pager = counted_then pager_key pager_line s.pager end end refl in
    let in_lane = lane_then s.version s.lane (pager ++ end) (pager_lines s) in_pager in
    let in_link = counted_then link_key link_line s.link (lane ++ (pager ++ end)) (lane_lines s) in_lane in
    let in_source = counted_then source_key source_line s.source (link ++ (lane ++ (pager ++ end))) (link_lines s) in_link in
    let in_guest = counted_then guest_key guest_line s.guest (source ++ (link ++ (lane ++ (pager ++ end)))) (source_lines s) in_source in
    let in_init = counted_then init_key page_line s.init (guest ++ (source ++ (link ++ (lane ++ (pager ++ end))))) (guest_lines s) in_guest in
    regroup (start_lines s) init guest source link lane pager end ∙ ap (λ (t : List (List ℕ)). start_lines s ++ t) in_init

-- the text is that of its parts
pub session_written : (s : Recorded) → ended (start_lines s) ++ ended (counted init_key page_line s.init []) ++ ended (counted guest_key guest_line s.guest []) ++ ended (counted source_key source_line s.source []) ++ ended (counted link_key link_line s.link []) ++ ended (with_lane s.version s.lane []) ++ ended (counted pager_key pager_line s.pager []) ++ ended (closing ∷ []) ≡ ended (session_lines s)
session_written s =
    all_ended (start_lines s) (counted init_key page_line s.init []) (counted guest_key guest_line s.guest []) (counted source_key source_line s.source []) (counted link_key link_line s.link []) (with_lane s.version s.lane []) (counted pager_key pager_line s.pager []) (closing ∷ [])
    ∙ ap ended (joined s)

-- the text up to the end of each list
abbrev pub to_init : Recorded → List ℕ
to_init s = ended (start_lines s) ++ ended (counted init_key page_line s.init [])

abbrev pub to_guest : Recorded → List ℕ
to_guest s = to_init s ++ ended (counted guest_key guest_line s.guest [])

abbrev pub to_source : Recorded → List ℕ
to_source s = to_guest s ++ ended (counted source_key source_line s.source [])

abbrev pub to_link : Recorded → List ℕ
to_link s = to_source s ++ ended (counted link_key link_line s.link [])

abbrev pub to_lane : Recorded → List ℕ
to_lane s = to_link s ++ ended (with_lane s.version s.lane [])

abbrev pub to_pager : Recorded → List ℕ
to_pager s = to_lane s ++ ended (counted pager_key pager_line s.pager [])

-- a part of such a front is a part of the text
module _ (old new : Option (List ℕ)) (s : Recorded) where
  pub pager_part : AppendsPart old new (to_pager s) → AppendsPart old new (ended (session_lines s))
  pager_part part = subst (AppendsPart old new) (session_written s) (part_before old new (to_pager s) (ended (closing ∷ [])) part)

  pub lane_part : AppendsPart old new (to_lane s) → AppendsPart old new (ended (session_lines s))
  lane_part part = pager_part (part_before old new (to_lane s) (ended (counted pager_key pager_line s.pager [])) part)

  pub link_part : AppendsPart old new (to_link s) → AppendsPart old new (ended (session_lines s))
  link_part part = lane_part (part_before old new (to_link s) (ended (with_lane s.version s.lane [])) part)

  pub source_part : AppendsPart old new (to_source s) → AppendsPart old new (ended (session_lines s))
  source_part part = link_part (part_before old new (to_source s) (ended (counted link_key link_line s.link [])) part)

  pub guest_part : AppendsPart old new (to_guest s) → AppendsPart old new (ended (session_lines s))
  guest_part part = source_part (part_before old new (to_guest s) (ended (counted source_key source_line s.source [])) part)

  pub init_part : AppendsPart old new (to_init s) → AppendsPart old new (ended (session_lines s))
  init_part part = guest_part (part_before old new (to_init s) (ended (counted guest_key guest_line s.guest [])) part)

  pub start_part : AppendsPart old new (ended (start_lines s)) → AppendsPart old new (ended (session_lines s))
  start_part part = init_part (part_before old new (ended (start_lines s)) (ended (counted init_key page_line s.init [])) part)

-- its first line is not empty
pub some_start : (s : Recorded) → 0 < length (ended (start_lines s))
some_start s =
    let rest = 10 ∷ ended ((pages_key ++ decimal s.geometry.pages) ∷ (cells_key ++ decimal s.geometry.cells) ∷ []) in
    omega (arith, length-append (header s.version s.geometry.size) rest)
