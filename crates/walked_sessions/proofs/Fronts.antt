-- What was met of a recording, cut to a front.
use Rattle.std.specs.Prelude.{◌↔◌, IsTrue}
use Rattle.std.proofs.Common.{◌≡◌, Bool, true, false, subst, ℕ, ◌<◌, ◌≤◌, ◌⊎◌, inl, inr, List, [], ◌∷◌, ◌++◌, length, take, refl, sym, ap, ◌∙◌, length-append, arith}
use Rattle.std.proofs.lemmas.Bool.{cases_lt}
use Rattle.std.proofs.lemmas.List.{length-take, take-append-le, take_all}
use Rattle.migration_types.specs.declared.records.GuestRec.{GuestRec}
use Rattle.migration_types.specs.declared.records.SourceRec.{SourceRec}
use Rattle.migration_types.specs.declared.records.LinkRec.{LinkRec}
use Rattle.migration_types.specs.declared.records.LaneRec.{LaneRec}
use Rattle.migration_types.specs.declared.records.PagerRec.{PagerRec}
use Rattle.migration_types.specs.declared.records.LogName.{LogName}
use Rattle.migration_types.specs.declared.records.LogName.TheVariants.{Guest, Source, Link, Lane, Pager}
use Rattle.migration_types.specs.declared.version.Version.{Version}
use Rattle.migration_types.specs.declared.version.Version.TheVariants.{One, Two}
use Rattle.migration_types.specs.Sessions.{Recorded, HasLane, HasLog}
use Rattle.audit_model.specs.Mergings.{Cursors}
use Rattle.text_lines.specs.Text.{ended, closing}
use Rattle.session_grammar.specs.Grammar.{page_line, init_key, with_lane}
use Rattle.session_grammar.specs.Records.{guest_key, source_key, link_key, lane_key, pager_key, guest_line, source_line, link_line, lane_line, pager_line}
use Rattle.session_grammar.specs.inner.Held.{part_onto, geometry_onto, lane_part_onto}
use Rattle.session_grammar.proofs.Laws.{pager_lines, lane_lines, link_lines, source_lines, guest_lines}
use Rattle.session_grammar.proofs.Sections.{onto_whole}
use Rattle.recordings.specs.Seen.{IsNext, with_record}
use Rattle.recordings.specs.Wide.{guest_of, source_of, link_of, lane_of, pager_of, log_of}
use Rattle.recordings.specs.declared.wide.Wide.{Wide}
use Rattle.recordings.specs.declared.wide.Wide.TheVariants as wide
use Rattle.recordings.specs.inner.Held.{SessionDraft, Part, IsWhole}
use Rattle.recorder_files.specs.declared.fronts.Front.{Front}
use Rattle.recorder_files.specs.Fronts.{cursors_of, cut_to}
use Rattle.walked_sessions.specs.declared.text.Text.{Text}
use Rattle.walked_sessions.specs.Written.{text_of, HasRecords}
use Rattle.walked_sessions.specs.inner.Made.{cut_part, lane_part, draft_of, with_item, and_record, IsEnded}

-- ---- one more record

-- it is beyond the front
past : {X : Type 0} (n : ℕ) (log : List X) (x : X) → n ≤ length log → cut_part n (log ++ x ∷ []) ≡ cut_part n log
past {X} n log x le = ap (λ (xs : List X). record { count = n; items = xs }) (take-append-le n log (x ∷ []) le)

-- it is in the front
within : {X : Type 0} (n : ℕ) (log : List X) (x : X) → length log < n → cut_part n (log ++ x ∷ []) ≡ with_item (cut_part n log) x
within {X} n log x lt =
    let more : length (log ++ x ∷ []) ≤ n = omega (arith, length-append log (x ∷ [])) in
    let few : length log ≤ n = omega arith in
    ap (λ (xs : List X). record { count = n; items = xs }) (take_all n (log ++ x ∷ []) more ∙ ap (λ (xs : List X). xs ++ x ∷ []) (sym (take_all n log few)))

past_lane : (version : Version) (n : ℕ) (log : List LaneRec) (x : LaneRec) → (HasLane version → n ≤ length log) → lane_part version n (log ++ x ∷ []) ≡ lane_part version n log
past_lane One n log x le = refl
past_lane Two n log x le = past n log x (le tt)

within_lane : (version : Version) (n : ℕ) (log : List LaneRec) (x : LaneRec) → HasLane version → length log < n → lane_part version n (log ++ x ∷ []) ≡ with_item (lane_part version n log) x
within_lane One n log x has lt = absurd has
within_lane Two n log x has lt = within n log x lt

reached : (n number most : ℕ) → n ≡ number → (number < most → ⊥) → most ≤ n
reached n number most is none = go (cases_lt number most)
  where
    go : (number < most) ⊎ (most ≤ number) → most ≤ n
    go (inl lt) = absurd (none lt)
    go (inr le) = omega (arith, is, le)

below : (n number most : ℕ) → n ≡ number → number < most → n < most
below n number most is lt = omega arith

pub in_front : (there front : Front) (log of : LogName) (n : ℕ) → n ≡ cursors_of there log → log ≡ of → there ≡ front → n ≡ cursors_of front of
in_front there front log of n is at same = is ∙ (ap (cursors_of there) at ∙ ap (λ f. cursors_of f of) same)

pub above : (n most number : ℕ) → n ≡ most → n ≤ number → number < most → ⊥
above n most number is le lt = omega (arith, is, le, lt)

-- whether the version has the log
pub has_log : (version of : Version) (log name : LogName) (is_in : Bool) → version ≡ of → log ≡ name → IsTrue is_in ↔ HasLog of log → is_in ≡ true → HasLog version name
has_log version of log name is_in same at has there = subst (λ v. HasLog v name) (sym same) (subst (HasLog of) at (has.0 there))

pub has_no_log : (version of : Version) (log name : LogName) (is_in : Bool) → version ≡ of → log ≡ name → IsTrue is_in ↔ HasLog of log → is_in ≡ false → HasLog version name → ⊥
has_no_log version of log name is_in same at has missing is = let there : is_in ≡ true = has.1 (subst (HasLog of) (sym at) (subst (λ v. HasLog v name) same is)) in absurd (cc)

module _ (init : ℕ) (c : Cursors) (s : Recorded) (number : ℕ) where
  abbrev d : SessionDraft
  d = draft_of init c s

  pub past_record : (rec : Wide) → IsNext s number rec → (HasLog s.version (log_of rec) → number < c (log_of rec) → ⊥) → draft_of init c (with_record s rec) ≡ d
  past_record (wide.Guest r) next none = ap (λ (part : Part GuestRec). record d { guest = part }) (past (c Guest) s.guest (guest_of r) (reached (length s.guest) number (c Guest) next.1 (none tt)))
  past_record (wide.Source r) next none = ap (λ (part : Part SourceRec). record d { source = part }) (past (c Source) s.source (source_of r) (reached (length s.source) number (c Source) next.1 (none tt)))
  past_record (wide.Link r) next none = ap (λ (part : Part LinkRec). record d { link = part }) (past (c Link) s.link (link_of r) (reached (length s.link) number (c Link) next.1 (none tt)))
  past_record (wide.Lane r) next none = ap (λ (part : Part LaneRec). record d { lane = part }) (past_lane s.version (c Lane) s.lane (lane_of r) (λ has. reached (length s.lane) number (c Lane) next.1 (none has)))
  past_record (wide.Pager r) next none = ap (λ (part : Part PagerRec). record d { pager = part }) (past (c Pager) s.pager (pager_of r) (reached (length s.pager) number (c Pager) next (none tt)))

  pub more_record : (rec : Wide) → IsNext s number rec → HasLog s.version (log_of rec) → number < c (log_of rec) → draft_of init c (with_record s rec) ≡ and_record d rec
  more_record (wide.Guest r) next has lt = ap (λ (part : Part GuestRec). record d { guest = part }) (within (c Guest) s.guest (guest_of r) (below (length s.guest) number (c Guest) next.1 lt))
  more_record (wide.Source r) next has lt = ap (λ (part : Part SourceRec). record d { source = part }) (within (c Source) s.source (source_of r) (below (length s.source) number (c Source) next.1 lt))
  more_record (wide.Link r) next has lt = ap (λ (part : Part LinkRec). record d { link = part }) (within (c Link) s.link (link_of r) (below (length s.link) number (c Link) next.1 lt))
  more_record (wide.Lane r) next has lt = ap (λ (part : Part LaneRec). record d { lane = part }) (within_lane s.version (c Lane) s.lane (lane_of r) has (below (length s.lane) number (c Lane) next.1 lt))
  more_record (wide.Pager r) next has lt = ap (λ (part : Part PagerRec). record d { pager = part }) (within (c Pager) s.pager (pager_of r) (below (length s.pager) number (c Pager) next lt))

-- ---- the whole text

lane_end : (version : Version) (n : ℕ) (log : List LaneRec) (more rest : List (List ℕ)) → IsWhole (lane_part version n log) → more ≡ rest → lane_part_onto version (lane_part version n log) more ≡ with_lane version (take n log) rest
lane_end One n log more rest whole e = e
lane_end Two n log more rest whole e = onto_whole lane_key lane_line (cut_part n log) more rest whole e

pub whole_text : (before : List ℕ) (t : Text) (init : ℕ) (front : Front) (s : Recorded) → IsEnded before t (draft_of init (cursors_of front) s) → before ++ t.bytes.items ≡ text_of front s
whole_text before t init front s e =
    let c = cursors_of front in
    let d = draft_of init c s in
    let v = cut_to c s in
    let lines = closing ∷ [] in
    let pager = onto_whole pager_key pager_line d.pager lines lines e.pager refl in
    let lane = lane_end s.version (c Lane) s.lane (part_onto pager_key pager_line d.pager lines) (pager_lines v) e.lane pager in
    let held_lane = lane_part_onto d.version d.lane (part_onto pager_key pager_line d.pager lines) in
    let link = onto_whole link_key link_line d.link held_lane (lane_lines v) e.link lane in
    let held_link = part_onto link_key link_line d.link held_lane in
    let source = onto_whole source_key source_line d.source held_link (link_lines v) e.source link in
    let held_source = part_onto source_key source_line d.source held_link in
    let guest = onto_whole guest_key guest_line d.guest held_source (source_lines v) e.guest source in
    let held_guest = part_onto guest_key guest_line d.guest held_source in
    let all = onto_whole init_key page_line d.init held_guest (guest_lines v) e.init guest in
    e.text ∙ ap (λ (xs : List (List ℕ)). ended (geometry_onto d xs)) all

-- ---- the records of the front

enough : {X : Type 0} (n : ℕ) (log : List X) → IsWhole (cut_part n log) → n ≤ length log
enough n log whole = let e = length-take n log in omega (arith, e, whole)

enough_lane : (version : Version) (n : ℕ) (log : List LaneRec) → IsWhole (lane_part version n log) → version ≡ Two → n ≤ length log
enough_lane One n log whole is = absurd (cc)
enough_lane Two n log whole is = enough n log whole

pub has_records : (before : List ℕ) (t : Text) (init : ℕ) (front : Front) (s : Recorded) → IsEnded before t (draft_of init (cursors_of front) s) → HasRecords s front
has_records before t init front s e = record {
  guest = enough front.guest s.guest e.guest;
  source = enough front.source s.source e.source;
  link = enough front.link s.link e.link;
  lane = enough_lane s.version front.lane s.lane e.lane;
  pager = enough front.pager s.pager e.pager;
}
