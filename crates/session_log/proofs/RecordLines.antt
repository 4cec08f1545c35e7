-- Where a text has the line of a record.
use Rattle.std.proofs.Common.{◌≡◌, ℕ, zero, suc, ◌+◌, ◌-◌, ◌<◌, List, [], ◌∷◌, ◌++◌, length, map, refl, ap, ◌∙◌, arith}
use Rattle.std.specs.Prelude.{slice_get}
use Rattle.std.specs.List.{AllByRecursion}
use Rattle.std.proofs.lemmas.List.{length-map}
use Rattle.migration_types.specs.declared.records.LaneRec.{LaneRec}
use Rattle.migration_types.specs.declared.version.Version.{Version}
use Rattle.migration_types.specs.declared.version.Version.TheVariants.{One, Two}
use Rattle.migration_types.specs.Sessions.{Recorded, IsSession, LaneRecIn, lane_lines as lines_of_lane, line_of, log_length}
use Rattle.migration_types.specs.Limits.{limits}
use Rattle.migration_types.specs.declared.records.LogName.{LogName}
use Rattle.migration_types.specs.declared.records.LogName.TheVariants.{Guest, Source, Link, Lane, Pager}
use Rattle.session_grammar.specs.Records.{guest_line, source_line, link_line, lane_line, pager_line}
use Rattle.session_grammar.specs.Grammar.{init_key, guest_key, source_key, link_key, lane_key, pager_key, page_line, with_lane, closing, counted, session_lines, record_line}
use Rattle.session_grammar.proofs.ByVersion.{no_records}
use Rattle.session_grammar.proofs.Laws.{guest_lines, source_lines, link_lines, lane_lines, pager_lines}

beyond : (xs ys : List (List ℕ)) (k : ℕ) → slice_get (xs ++ ys) (length xs + k) ≡ slice_get ys k
beyond [] ys k = ap (slice_get ys) (omega arith)
beyond (x ∷ xs) ys k = let next : length (x ∷ xs) + k ≡ suc (length xs + k) = omega arith in ap (slice_get (x ∷ (xs ++ ys))) next ∙ beyond xs ys k

within : (xs ys : List (List ℕ)) (k : ℕ) → k < length xs → slice_get (xs ++ ys) k ≡ slice_get xs k
within [] ys k lt = absurd (omega arith)
within (x ∷ xs) ys zero lt = refl
within (x ∷ xs) ys (suc k) lt = within xs ys k (omega arith)

-- the lines of a list, and those behind it
in_list : {X : Type 0} (key : List ℕ) (spell : X → List ℕ) (xs : List X) (more : List (List ℕ)) (i k : ℕ) → i ≡ suc k → k < length xs → slice_get (counted key spell xs more) i ≡ slice_get (map spell xs) k
in_list key spell xs more i k e lt = ap (slice_get (counted key spell xs more)) e ∙ within (map spell xs) more k (omega (arith, length-map xs spell))

behind_list : {X : Type 0} (key : List ℕ) (spell : X → List ℕ) (xs : List X) (more : List (List ℕ)) (i k : ℕ) → i ≡ suc (length xs + k) → slice_get (counted key spell xs more) i ≡ slice_get more k
behind_list key spell xs more i k e =
    let same : i ≡ suc (length (map spell xs) + k) = omega (arith, length-map xs spell) in
    ap (slice_get (counted key spell xs more)) same ∙ beyond (map spell xs) more k

-- the lines of the lane, of which the first version has no record, and those behind it
in_lane : (past : ℕ) (version : Version) (records : List LaneRec) (more : List (List ℕ)) (k : ℕ) → AllByRecursion (LaneRecIn past version) records → k < length records → slice_get (with_lane version records more) (1 + k) ≡ slice_get (map lane_line records) k
in_lane past One records more k each lt = let none = ap (λ (t : List LaneRec). length t) (no_records past records each) in absurd (omega arith)
in_lane past Two records more k each lt = in_list lane_key lane_line records more (1 + k) k (omega arith) lt

past_lane : (version : Version) (records : List LaneRec) (more : List (List ℕ)) (k : ℕ) → slice_get (with_lane version records more) (lines_of_lane version (length records) + k) ≡ slice_get more k
past_lane One records more k = ap (slice_get more) (omega arith)
past_lane Two records more k = behind_list lane_key lane_line records more (1 + length records + k) k (omega arith)

behind_init : (s : Recorded) (i k : ℕ) → i ≡ 4 + length s.init + k → slice_get (session_lines s) i ≡ slice_get (guest_lines s) k
behind_init s i k e =
    let three : i ≡ suc (suc (suc (1 + length s.init + k))) = omega arith in
    ap (slice_get (session_lines s)) three ∙ behind_list init_key page_line s.init (guest_lines s) (1 + length s.init + k) k (omega arith)

behind_guest : (s : Recorded) (i k : ℕ) → i ≡ 5 + length s.init + length s.guest + k → slice_get (session_lines s) i ≡ slice_get (source_lines s) k
behind_guest s i k e = behind_init s i (1 + length s.guest + k) (omega arith) ∙ behind_list guest_key guest_line s.guest (source_lines s) (1 + length s.guest + k) k (omega arith)

behind_source : (s : Recorded) (i k : ℕ) → i ≡ 6 + length s.init + length s.guest + length s.source + k → slice_get (session_lines s) i ≡ slice_get (link_lines s) k
behind_source s i k e = behind_guest s i (1 + length s.source + k) (omega arith) ∙ behind_list source_key source_line s.source (link_lines s) (1 + length s.source + k) k (omega arith)

behind_link : (s : Recorded) (i k : ℕ) → i ≡ 7 + length s.init + length s.guest + length s.source + length s.link + k → slice_get (session_lines s) i ≡ slice_get (lane_lines s) k
behind_link s i k e = behind_source s i (1 + length s.link + k) (omega arith) ∙ behind_list link_key link_line s.link (lane_lines s) (1 + length s.link + k) k (omega arith)

behind_lane : (s : Recorded) (i k : ℕ) → i ≡ 7 + length s.init + length s.guest + length s.source + length s.link + lines_of_lane s.version (length s.lane) + k → slice_get (session_lines s) i ≡ slice_get (pager_lines s) k
behind_lane s i k e = behind_link s i (lines_of_lane s.version (length s.lane) + k) (omega arith) ∙ past_lane s.version s.lane (pager_lines s) k

pub line_at : (s : Recorded) → IsSession s → (log : LogName) (n : ℕ) → n < log_length s log → slice_get (session_lines s) (line_of s (log, n) - 1) ≡ record_line s (log, n)
line_at s fits Guest n lt = behind_init s (line_of s (Guest, n) - 1) (1 + n) (omega arith) ∙ in_list guest_key guest_line s.guest (source_lines s) (1 + n) n (omega arith) lt
line_at s fits Source n lt = behind_guest s (line_of s (Source, n) - 1) (1 + n) (omega arith) ∙ in_list source_key source_line s.source (link_lines s) (1 + n) n (omega arith) lt
line_at s fits Link n lt = behind_source s (line_of s (Link, n) - 1) (1 + n) (omega arith) ∙ in_list link_key link_line s.link (lane_lines s) (1 + n) n (omega arith) lt
line_at s fits Lane n lt = behind_link s (line_of s (Lane, n) - 1) (1 + n) (omega arith) ∙ in_lane (limits s.geometry.size).records s.version s.lane (pager_lines s) n fits.lane lt
line_at s fits Pager n lt = behind_lane s (line_of s (Pager, n) - 1) (1 + n) (omega arith) ∙ in_list pager_key pager_line s.pager (closing ∷ []) (1 + n) n (omega arith) lt
