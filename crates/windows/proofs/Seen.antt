-- The lines that are kept are those at their origins.
use Rattle.std.proofs.Common.{◌≡◌, ℕ, zero, suc, ◌+◌, ◌-◌, Bool, true, false, List, [], ◌∷◌, ◌++◌, length, map, Option, Some, refl, sym, ap, ◌∙◌, arith, append_assoc, length-append}
use Rattle.std.specs.Prelude.{slice_get}
use Rattle.std.specs.List.{range_with_len}
use Rattle.std.specs.Fmt.{decimal}
use Rattle.std.proofs.lemmas.List.{length-map}
use Rattle.std.proofs.lemmas.List.FromFn.{length-map-range_with_len, length-range_with_len}
use Rattle.migration_types.specs.declared.version.Version.{Version}
use Rattle.migration_types.specs.declared.version.Version.TheVariants.{One, Two}
use Rattle.migration_types.specs.declared.records.LogName.TheVariants.{Guest, Source, Link, Lane, Pager}
use Rattle.migration_types.specs.declared.records.LaneRec.{LaneRec}
use Rattle.migration_types.specs.Sessions.{Recorded}
use Rattle.text_lines.specs.Text.{closing}
use Rattle.text_lines.specs.Counted.{counted}
use Rattle.session_grammar.specs.Grammar.{header, with_lane, pages_key, cells_key, init_key, page_line, session_lines}
use Rattle.session_grammar.specs.Records.{guest_key, source_key, link_key, lane_key, pager_key, guest_line, source_line, link_line, lane_line, pager_line}
use Rattle.audit_model.specs.Shape.{passes}
use Rattle.audit_model.specs.Windows.{Numbers, kept_in, keeps_init, keeps_guest, keeps_source, keeps_link, keeps_lane, keeps_pager, marks, new_init, new_guest, new_source, new_link, new_lane, new_pager}
use Rattle.windows.specs.Origins.{list_origins, lane_origins, behind, behind_lane, guest_at, source_at, link_at, lane_at, pager_at, end_at, line_at, kept_lines, kept_lane_lines, TellsOrigins}

same_count : {A B : Type 0} (ms : List Bool) (xs : List A) (ys : List B) → length xs ≡ length ms → length ys ≡ length ms → length (kept_in ms xs) ≡ length (kept_in ms ys)
same_count [] xs ys e f = refl
same_count (m ∷ ms) [] [] e f = refl
same_count (m ∷ ms) [] (y ∷ ys) e f = absurd (omega (arith, e))
same_count (m ∷ ms) (x ∷ xs) [] e f = absurd (omega (arith, f))
same_count (true ∷ ms) (x ∷ xs) (y ∷ ys) e f = ap suc (same_count ms xs ys (omega (arith, e)) (omega (arith, f)))
same_count (false ∷ ms) (x ∷ xs) (y ∷ ys) e f = same_count ms xs ys (omega (arith, e)) (omega (arith, f))

-- as many origins as lines
as_many : {X : Type 0} (key : List ℕ) (spell : X → List ℕ) (new : X → X) (ms : List Bool) (log : List X) (first : ℕ) (rest : List ℕ) (more : List (List ℕ)) → length ms ≡ length log → length rest ≡ length more → length (list_origins first ms ++ rest) ≡ length (counted key spell (map new (kept_in ms log)) more)
as_many key spell new ms log first rest more e f =
    let a : length (kept_in ms (range_with_len (first + 1) (length ms))) ≡ length (kept_in ms log) = same_count ms (range_with_len (first + 1) (length ms)) log (length-range_with_len (first + 1) (length ms)) (sym e) in
    let b : length (map spell (map new (kept_in ms log))) ≡ length (kept_in ms log) = length-map (map new (kept_in ms log)) spell ∙ length-map (kept_in ms log) new in
    ap suc (length-append (kept_in ms (range_with_len (first + 1) (length ms))) rest ∙ ap (λ n. n + length rest) (a ∙ sym b) ∙ ap (λ n. length (map spell (map new (kept_in ms log))) + n) f ∙ sym (length-append (map spell (map new (kept_in ms log))) more))

as_many_lane : (new : LaneRec → LaneRec) (version : Version) (ms : List Bool) (log : List LaneRec) (first : ℕ) (rest : List ℕ) (more : List (List ℕ)) → length ms ≡ length log → length rest ≡ length more → length (lane_origins version first ms ++ rest) ≡ length (with_lane version (map new (kept_in ms log)) more)
as_many_lane new One ms log first rest more e f = f
as_many_lane new Two ms log first rest more e f = as_many lane_key lane_line new ms log first rest more e f

behind_front : (front rest : List (List ℕ)) (k : ℕ) → slice_get (front ++ rest) (length front + k) ≡ slice_get rest k
behind_front [] rest k = ap (slice_get rest) (omega arith)
behind_front (x ∷ front) rest k = let e : suc (length front) + k ≡ suc (length front + k) = omega arith in ap (slice_get (x ∷ (front ++ rest))) e ∙ behind_front front rest k

within_front : {X : Type 0} (spell : X → List ℕ) (log : List X) (more : List (List ℕ)) (k : ℕ) (x : X) → slice_get log k ≡ Some x → slice_get (map spell log ++ more) k ≡ Some (spell x)
within_front spell [] more k x e = absurd (cc)
within_front spell (y ∷ log) more zero x e = let f : y ≡ x = cc in ap (λ z. Some (spell z)) f
within_front spell (y ∷ log) more (suc k) x e = within_front spell log more k x e

-- the lines that are kept of a list, each at its number
at_numbers : {X : Type 0} (get : ℕ → Option (List ℕ)) (spell : X → List ℕ) (ms : List Bool) (log : List X) (a : ℕ) → length ms ≡ length log → ((k : ℕ) (x : X) → slice_get log k ≡ Some x → get (a + k) ≡ Some (spell x)) → map get (kept_in ms (range_with_len a (length ms))) ≡ map Some (map spell (kept_in ms log))
at_numbers get spell [] log a e at = refl
at_numbers get spell (m ∷ ms) [] a e at = absurd (omega (arith, e))
at_numbers get spell (true ∷ ms) (x ∷ log) a e at =
    ap (λ o. o ∷ map get (kept_in ms (range_with_len (a + 1) (length ms)))) (ap get (omega arith) ∙ at 0 x refl)
    ∙ ap (λ os. Some (spell x) ∷ os) (at_numbers get spell ms log (a + 1) (omega (arith, e)) (λ k y is. ap get (omega arith) ∙ at (suc k) y is))
at_numbers get spell (false ∷ ms) (x ∷ log) a e at = at_numbers get spell ms log (a + 1) (omega (arith, e)) (λ k y is. ap get (omega arith) ∙ at (suc k) y is)

map_append : {A B : Type 0} (f : A → B) (xs ys : List A) → map f (xs ++ ys) ≡ map f xs ++ map f ys
map_append f [] ys = refl
map_append f (x ∷ xs) ys = ap (λ zs. f x ∷ zs) (map_append f xs ys)

-- a text from its line `first` on, behind the lines of front
pub record From (lines front : List (List ℕ)) (first : ℕ) (rest : List (List ℕ)) : Type 0 where
  pub parts : lines ≡ front ++ rest
  pub number : length front + 1 ≡ first

one_line : (lines front : List (List ℕ)) (first k : ℕ) (line : List ℕ) (rest : List (List ℕ)) → From lines front first rest → slice_get rest k ≡ Some line → line_at lines (first + k) ≡ Some line
one_line lines front first k line rest from is =
    let n : first + k - 1 ≡ length front + k = omega (arith, from.number) in
    ap (slice_get lines) n ∙ ap (λ ls. slice_get ls (length front + k)) from.parts ∙ behind_front front rest k ∙ is

list_seen : {X : Type 0} (key : List ℕ) (spell : X → List ℕ) (ms : List Bool) (log : List X) (lines front : List (List ℕ)) (first : ℕ) (more : List (List ℕ)) → length ms ≡ length log → From lines front first (counted key spell log more) → map (line_at lines) (list_origins first ms) ≡ map Some (kept_lines key spell ms log)
list_seen key spell ms log lines front first more e from =
    ap (λ o. o ∷ map (line_at lines) (kept_in ms (range_with_len (first + 1) (length ms)))) (ap (line_at lines) (omega arith) ∙ one_line lines front first 0 (key ++ decimal (length log)) (counted key spell log more) from refl)
    ∙ ap (λ os. Some (key ++ decimal (length log)) ∷ os) (at_numbers (line_at lines) spell ms log (first + 1) e (λ k x is. ap (line_at lines) (omega arith) ∙ one_line lines front first (suc k) (spell x) (counted key spell log more) from (within_front spell log more k x is)))

list_past : {X : Type 0} (key : List ℕ) (spell : X → List ℕ) (log : List X) (lines front : List (List ℕ)) (first : ℕ) (more : List (List ℕ)) → From lines front first (counted key spell log more) → From lines (front ++ ((key ++ decimal (length log)) ∷ map spell log)) (behind first (length log)) more
list_past key spell log lines front first more from = record {
  parts = from.parts ∙ sym (append_assoc front ((key ++ decimal (length log)) ∷ map spell log) more);
  number = let a = length-append front ((key ++ decimal (length log)) ∷ map spell log) in let b = length-map log spell in omega (arith, a, b, from.number);
}

lane_front : Version → List LaneRec → List (List ℕ) → List (List ℕ)
lane_front One log front = front
lane_front Two log front = front ++ ((lane_key ++ decimal (length log)) ∷ map lane_line log)

lane_seen : (version : Version) (ms : List Bool) (log : List LaneRec) (lines front : List (List ℕ)) (first : ℕ) (more : List (List ℕ)) → length ms ≡ length log → From lines front first (with_lane version log more) → map (line_at lines) (lane_origins version first ms) ≡ map Some (kept_lane_lines version ms log)
lane_seen One ms log lines front first more e from = refl
lane_seen Two ms log lines front first more e from = list_seen lane_key lane_line ms log lines front first more e from

lane_past : (version : Version) (log : List LaneRec) (lines front : List (List ℕ)) (first : ℕ) (more : List (List ℕ)) → From lines front first (with_lane version log more) → From lines (lane_front version log front) (behind_lane version first (length log)) more
unfolding lane_front
lane_past One log lines front first more from = from
lane_past Two log lines front first more from = list_past lane_key lane_line log lines front first more from

both : (lines : List (List ℕ)) (a : List ℕ) (b : List (List ℕ)) (c : List ℕ) (d : List (List ℕ)) → map (line_at lines) a ≡ map Some b → map (line_at lines) c ≡ map Some d → map (line_at lines) (a ++ c) ≡ map Some (b ++ d)
both lines a b c d e f = map_append (line_at lines) a c ∙ ap (λ xs. xs ++ map (line_at lines) c) e ∙ ap (λ xs. map Some b ++ xs) f ∙ sym (map_append Some b d)

module _ (number : Numbers) (count : ℕ) (s : Recorded) where
  guests : length (marks s number Guest) ≡ length s.guest
  guests = length-map-range_with_len (λ n. passes (keeps_guest s number n) (slice_get s.guest n)) 0 (length s.guest)

  pub told : TellsOrigins number count s
  told =
      let lines : List (List ℕ) = session_lines s in
      let R6 : List (List ℕ) = closing ∷ [] in
      let R5 : List (List ℕ) = counted pager_key pager_line s.pager R6 in
      let R4 : List (List ℕ) = with_lane s.version s.lane R5 in
      let R3 : List (List ℕ) = counted link_key link_line s.link R4 in
      let R2 : List (List ℕ) = counted source_key source_line s.source R3 in
      let R1 : List (List ℕ) = counted guest_key guest_line s.guest R2 in
      let R0 : List (List ℕ) = counted init_key page_line s.init R1 in
      let F0 : List (List ℕ) = header s.version s.geometry.size ∷ (pages_key ++ decimal s.geometry.pages) ∷ (cells_key ++ decimal s.geometry.cells) ∷ [] in
      let f0 : From lines F0 4 R0 = record { parts = refl; number = refl } in
      let f1 = list_past init_key page_line s.init lines F0 4 R1 f0 in
      let F1 : List (List ℕ) = F0 ++ ((init_key ++ decimal (length s.init)) ∷ map page_line s.init) in
      let f2 = list_past guest_key guest_line s.guest lines F1 (guest_at s) R2 f1 in
      let F2 : List (List ℕ) = F1 ++ ((guest_key ++ decimal (length s.guest)) ∷ map guest_line s.guest) in
      let f3 = list_past source_key source_line s.source lines F2 (source_at s) R3 f2 in
      let F3 : List (List ℕ) = F2 ++ ((source_key ++ decimal (length s.source)) ∷ map source_line s.source) in
      let f4 = list_past link_key link_line s.link lines F3 (link_at s) R4 f3 in
      let F4 : List (List ℕ) = F3 ++ ((link_key ++ decimal (length s.link)) ∷ map link_line s.link) in
      let f5 = lane_past s.version s.lane lines F4 (lane_at s) R5 f4 in
      let F5 : List (List ℕ) = lane_front s.version s.lane F4 in
      let f6 = list_past pager_key pager_line s.pager lines F5 (pager_at s) R6 f5 in
      let F6 : List (List ℕ) = F5 ++ ((pager_key ++ decimal (length s.pager)) ∷ map pager_line s.pager) in
      let s6 : map (line_at lines) (end_at s ∷ []) ≡ map Some (closing ∷ []) = ap (λ o. o ∷ []) (ap (line_at lines) (omega arith) ∙ one_line lines F6 (end_at s) 0 closing R6 f6 refl) in
      let s5 = both lines (list_origins (pager_at s) (marks s number Pager)) (kept_lines pager_key pager_line (marks s number Pager) s.pager) (end_at s ∷ []) (closing ∷ []) (list_seen pager_key pager_line (marks s number Pager) s.pager lines F5 (pager_at s) R6 (length-map s.pager (keeps_pager s number)) f5) s6 in
      let s4 = both lines (lane_origins s.version (lane_at s) (marks s number Lane)) (kept_lane_lines s.version (marks s number Lane) s.lane) _ _ (lane_seen s.version (marks s number Lane) s.lane lines F4 (lane_at s) R5 (length-map s.lane (keeps_lane s number)) f4) s5 in
      let s3 = both lines (list_origins (link_at s) (marks s number Link)) (kept_lines link_key link_line (marks s number Link) s.link) _ _ (list_seen link_key link_line (marks s number Link) s.link lines F3 (link_at s) R4 (length-map s.link (keeps_link s number)) f3) s4 in
      let s2 = both lines (list_origins (source_at s) (marks s number Source)) (kept_lines source_key source_line (marks s number Source) s.source) _ _ (list_seen source_key source_line (marks s number Source) s.source lines F2 (source_at s) R3 (length-map s.source (keeps_source s number)) f2) s3 in
      let s1 = both lines (list_origins (guest_at s) (marks s number Guest)) (kept_lines guest_key guest_line (marks s number Guest) s.guest) _ _ (list_seen guest_key guest_line (marks s number Guest) s.guest lines F1 (guest_at s) R2 guests f1) s2 in
      let s0 = both lines (list_origins 4 (map (keeps_init number) s.init)) (kept_lines init_key page_line (map (keeps_init number) s.init) s.init) _ _ (list_seen init_key page_line (map (keeps_init number) s.init) s.init lines F0 4 R1 (length-map s.init (keeps_init number)) f0) s1 in
      record {
        for_each = ap (λ n. suc (suc (suc n))) (
            as_many init_key page_line (new_init number) (map (keeps_init number) s.init) s.init 4 _ _ (length-map s.init (keeps_init number)) (
            as_many guest_key guest_line (new_guest s number) (marks s number Guest) s.guest (guest_at s) _ _ guests (
            as_many source_key source_line (new_source s number) (marks s number Source) s.source (source_at s) _ _ (length-map s.source (keeps_source s number)) (
            as_many link_key link_line (new_link s number) (marks s number Link) s.link (link_at s) _ _ (length-map s.link (keeps_link s number)) (
            as_many_lane (new_lane s number) s.version (marks s number Lane) s.lane (lane_at s) _ _ (length-map s.lane (keeps_lane s number)) (
            as_many pager_key pager_line (new_pager s number) (marks s number Pager) s.pager (pager_at s) (end_at s ∷ []) (closing ∷ []) (length-map s.pager (keeps_pager s number)) refl))))));
        seen = ap (λ os. Some (header s.version s.geometry.size) ∷ Some (pages_key ++ decimal s.geometry.pages) ∷ Some (cells_key ++ decimal s.geometry.cells) ∷ os) s0;
      }
