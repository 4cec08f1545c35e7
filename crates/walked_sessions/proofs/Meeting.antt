-- What a visitor meets of a log, with one record more, and once its files were read.
use Rattle.std.proofs.Common.{◌≡◌, ℕ, zero, suc, ◌+◌, ◌<◌, true, false, get_or, map, take, ◌⊎◌, inl, inr, List, [], ◌∷◌, ◌++◌, length, Option, Some, refl, sym, ap, subst, ◌∙◌, arith, length-append, ◌≤◌, append_assoc, append-nil}
use Rattle.std.specs.Prelude.{◌↔◌, Bool, IfSome, IsTrue, slice_get}
use Rattle.std.specs.Option.{option_to_list}
use Rattle.std.proofs.lemmas.List.{length-take-le, map_push, take_more, length-map}
use Rattle.std.proofs.lemmas.Option.{same_Some, slice_get_within}
use Rattle.std.proofs.Math.Seq.{take-length}
use Rattle.migration_types.specs.declared.records.SourceRec.{SourceRec}
use Rattle.migration_types.specs.declared.records.PagerRec.{PagerRec}
use Rattle.migration_types.specs.Sessions.{Recorded}
use Rattle.recordings.specs.Seen.{with_init, with_record, with_source, with_pager, BeforeLink, IsNext}
use Rattle.recordings.specs.Wide.{extent_of, init_of, guest_of, lane_of, link_of}
use Rattle.recordings.specs.declared.machine.WideMachine.{WideMachine}
use Rattle.recordings.specs.declared.wide.Wide.{Wide}
use Rattle.recordings.specs.declared.wide.WideInit.{WideInit}
use Rattle.recorder_files.specs.declared.delivering.Message.{Message}
use Rattle.recorder_files.specs.declared.raw.RawSource.{RawSource}
use Rattle.recorder_files.specs.declared.raw.RawPager.{RawPager}
use Rattle.recorder_files.specs.Told.{lane_packet, link_packet, numbered_pager, numbered_source, request, told_from, Follow, lane_messages, link_messages}
use Rattle.recorder_files.proofs.Noted.{kept}
use Rattle.migration_types.specs.declared.records.GuestRec.{GuestRec}
use Rattle.migration_types.specs.declared.records.LinkRec.{LinkRec}
use Rattle.migration_types.specs.declared.records.LaneRec.{LaneRec}
use Rattle.migration_types.specs.declared.records.LogName.{LogName}
use Rattle.migration_types.specs.declared.records.LogName.TheVariants.{Lane, Link}
use Rattle.session_grammar.specs.Records.{lane_line, link_line}
use Rattle.recordings.specs.Recordings.{IsLaneRecOf, IsLinkRecOf}
use Rattle.recordings.specs.declared.wide.Wide.TheVariants as wide
use Rattle.recorder_files.specs.declared.delivering.Message.TheVariants.{Down, Up}
use Rattle.recorder_files.specs.Deliveries.{AreNumbers, delivered}
use Rattle.recorder_files.specs.declared.noting.Delivered.{Delivered}
use Rattle.walked_sessions.specs.declared.takers.CarrierTaker.{CarrierTaker}
use Rattle.walked_sessions.specs.declared.takers.SourceTaker.{SourceTaker}
use Rattle.walked_sessions.specs.declared.takers.PagerTaker.{PagerTaker}
use Rattle.walked_sessions.specs.Walks.{AreNumbered, IsDown, IsNumberOf, IsUp, Bytes, HasNoHole, WalksFiles, lane_delivery, link_delivery}
use Rattle.walked_sessions.specs.inner.Passing.{HasPassed, Passes, IsOver}
use Rattle.walked_sessions.specs.inner.Meeting.{MeetsAll, MeetsCarrier, MeetsPager, MeetsSource, begun_with, with_pagers, with_records, with_sources, MayCome, OfPager, OfSource, WalksCarrier, WalksGuest, WalksLog, WalksPager, WalksSource, wide_lane_delivery, wide_link_delivery}
use Rattle.walked_sessions.specs.declared.cursors.Cursor.{Cursor}
use Rattle.walked_sessions.proofs.Passing.{are_numbers_there, has_passed_more, has_passed_none}

of_push : {X : Type 0} (xs : List X) (x y : X) (k : ℕ) → slice_get (xs ++ x ∷ []) k ≡ Some y → (slice_get xs k ≡ Some y) ⊎ ((k ≡ length xs) × (y ≡ x))
of_push [] x y zero e = inr (refl, sym (same_Some x y e))
of_push [] x y (suc k) e = absurd (cc)
of_push (z ∷ xs) x y zero e = inl e
of_push {X} (z ∷ xs) x y (suc k) e = go (of_push xs x y k e)
  where
    go : (slice_get xs k ≡ Some y) ⊎ ((k ≡ length xs) × (y ≡ x)) → (slice_get xs k ≡ Some y) ⊎ ((suc k ≡ suc (length xs)) × (y ≡ x))
    go (inl there) = inl there
    go (inr (same, is)) = inr (ap suc same, is)

numbered_none : {R S : Type 0} (numbered : ℕ → R → S) (IsNumber : ℕ → R → ℕ → Type 0) → AreNumbered numbered IsNumber [] []
numbered_none numbered IsNumber = record { many = refl; each = λ k raw rec er es. absurd (cc) }

numbered_more : {R S : Type 0} (numbered : ℕ → R → S) (IsNumber : ℕ → R → ℕ → Type 0) (raws : List R) (recs : List S) (raw : R) (rec : S) (k n : ℕ) → k ≡ length raws → IsNumber k raw n → rec ≡ numbered n raw → AreNumbered numbered IsNumber raws recs → AreNumbered numbered IsNumber (raws ++ raw ∷ []) (recs ++ rec ∷ [])
numbered_more {R} {S} numbered IsNumber raws recs raw rec k n e is_number is were = record {
  many = many;
  each = λ j other found er es. go j other found (of_push raws raw other j er) (of_push recs rec found j es);
}
  where
    many : length (recs ++ rec ∷ []) ≡ length (raws ++ raw ∷ [])
    many =
        let one : length (recs ++ rec ∷ []) ≡ length recs + 1 = length-append recs (rec ∷ []) in
        let two : length (raws ++ raw ∷ []) ≡ length raws + 1 = length-append raws (raw ∷ []) in
        omega (arith, one, two, were.many)

    go : (j : ℕ) (other : R) (found : S) → (slice_get raws j ≡ Some other) ⊎ ((j ≡ length raws) × (other ≡ raw)) → (slice_get recs j ≡ Some found) ⊎ ((j ≡ length recs) × (found ≡ rec)) → (m : ℕ) × IsNumber j other m × (found ≡ numbered m other)
    go j other found (inl er) (inl es) = were.each j other found er es
    go j other found (inl er) (inr (same, _)) = absurd (omega (arith, slice_get_within raws j other er, same, were.many))
    go j other found (inr (same, _)) (inl es) = absurd (omega (arith, slice_get_within recs j found es, same, were.many))
    go j other found (inr (same, one)) (inr (_, two)) = (n, subst (λ m. IsNumber m other n) (e ∙ sym same) (subst (λ r. IsNumber k r n) (sym one) is_number), two ∙ (is ∙ ap (numbered n) (sym one)))

-- ---- the initial pages

pub init_met : {V : Type 0} (Met : V → Recorded → Type 0) (v : V) (machine : WideMachine) (init : List WideInit) (i : ℕ) (p : WideInit) → i < length init → p ≡ get_or init i p → Met v (with_init (begun_with machine (take i init)) (init_of p)) → Met v (begun_with machine (take (i + 1) init))
init_met Met v machine init i p lt is met =
    let one : take (i + 1) init ≡ take i init ++ p ∷ [] = take_more init i p lt ∙ ap (λ q. take i init ++ q ∷ []) (sym is) in
    let all : map init_of (take (i + 1) init) ≡ map init_of (take i init) ++ init_of p ∷ [] = ap (map init_of) one ∙ map_push init_of (take i init) p in
    subst (λ pages. Met v (record { version = machine.version; geometry = extent_of machine; init = pages; guest = []; source = []; link = []; lane = []; pager = [] })) (sym all) met

-- ---- the records of a log

records_push : {X : Type 0} (wide : X → Wide) (d : Recorded) (records : List X) (rec : X) → with_records wide d (records ++ rec ∷ []) ≡ with_record (with_records wide d records) (wide rec)
records_push wide d [] rec = refl
records_push wide d (r ∷ records) rec = records_push wide (with_record d (wide r)) records rec

pub meets_more : {V X : Type 0} (Met : V → Recorded → Type 0) (wide : X → Wide) (from was now : V) (records : List X) (rec : X) (number : ℕ) (w : Wide) → number ≡ length records → w ≡ wide rec → ((d : Recorded) → IsNext d number w → Met was d → Met now (with_record d w)) → MeetsAll Met wide from was records → MeetsAll Met wide from now (records ++ rec ∷ [])
meets_more Met wide from was now records rec number w e is next meets = λ d may start.
    let before = with_records wide d records in
    let comes : IsNext before number w = subst (λ n. IsNext before n w) (sym e) (subst (IsNext before (length records)) (sym is) (may records rec)) in
    subst (Met now) (ap (with_record before) is ∙ sym (records_push wide d records rec)) (next before comes (meets d may start))

-- ---- the link and the lane

pub carrier_none : {V X : Type 0} (Met : V → Recorded → Type 0) (wide : X → Wide) (t : CarrierTaker) (v : V) → MeetsCarrier Met wide t v t v []
carrier_none Met wide t v = record { told = refl; none = λ e. refl; met = λ d may met. met }

pub carrier_more : {V X : Type 0} (Met : V → Recorded → Type 0) (wide : X → Wide) (first now : CarrierTaker) (from was onto : V) (records more : List X) → now.is_told ≡ false → MeetsCarrier Met wide first from now was records → MeetsAll Met wide from onto more → MeetsCarrier Met wide first from now onto more
carrier_more Met wide first now from was onto records more untold meets met = record {
  told = meets.told;
  none = λ e. let both : true ≡ false = sym e ∙ (sym meets.told ∙ untold) in absurd cc;
  met = met;
}

pub delivery_more : {V : Type 0} (Met : V → Recorded → Type 0) (wide : Message → Wide) (from was now : V) (deliveries : List Message) (i : ℕ) (none : Message) (w : Wide) → i < length deliveries → w ≡ wide (get_or deliveries i none) → ((d : Recorded) → IsNext d i w → Met was d → Met now (with_record d w)) → MeetsAll Met wide from was (take i deliveries) → MeetsAll Met wide from now (take (i + 1) deliveries)
delivery_more Met wide from was now deliveries i none w lt is next meets = subst (MeetsAll Met wide from now) (sym (take_more deliveries i none lt)) (meets_more Met wide from was now (take i deliveries) (get_or deliveries i none) i w (sym (length-take-le i deliveries (omega (arith, lt)))) is next meets)

-- ---- the source

pub source_none : {V : Type 0} (Met : V → Recorded → Type 0) (t : SourceTaker) (v : V) → MeetsSource Met t v t v []
source_none Met t v = record {
  passed = has_passed_none t.link;
  met = λ d before none met deliveries count are. ([], numbered_none numbered_source (IsUp deliveries count), subst (λ rs. Met v (with_sources d rs)) none met);
}

pub source_more : {V : Type 0} (Met : V → Recorded → Type 0) (first before after : SourceTaker) (from was now : V) (records : List RawSource) (raw : RawSource) (number up : ℕ) (rec : SourceRec) (message : Option Message) → number ≡ length records → message ≡ request number raw → Passes before.link after.link message up → rec ≡ numbered_source up raw → ((d : Recorded) → BeforeLink d × (length d.source ≡ number) → Met was d → Met now (with_source d rec)) → MeetsSource Met first from before was records → MeetsSource Met first from after now (records ++ raw ∷ [])
source_more Met first before after from was now records raw number up rec message e takes passes is next meets = record {
  passed = subst (HasPassed first.link after.link) (kept request number records raw (told_from request 0 records) (told_from request 0 records ++ option_to_list message) message e refl takes refl) (has_passed_more first.link before.link after.link (told_from request 0 records) message up meets.passed passes);
  met = λ d bef none start deliveries count are.
      let w = meets.met d bef none start deliveries count are in
      let numbered : IsUp deliveries count number raw up = subst (λ o. IfSome o (λ m. IsNumberOf deliveries count m up)) takes (passes.numbered deliveries count (are_numbers_there first.link before.link (told_from request 0 records) deliveries count meets.passed are)) in
      (w.0 ++ rec ∷ [], numbered_more numbered_source (IsUp deliveries count) records w.0 raw rec number up e numbered is w.1, next (with_sources d w.0) (bef, w.1.many ∙ sym e) w.2);
}

-- ---- the pager

pub pager_none : {V : Type 0} (Met : V → Recorded → Type 0) (t : PagerTaker) (v : V) → t.count ≡ 0 → MeetsPager Met t v t v []
pager_none Met t v zero_count = record {
  link = has_passed_none t.link;
  lane = has_passed_none t.lane;
  count = zero_count;
  met = λ d none met link lane count are_link are_lane. ([], numbered_none numbered_pager (IsDown link lane count), subst (λ rs. Met v (with_pagers d rs)) none met);
}

pub pager_more : {V : Type 0} (Met : V → Recorded → Type 0) (first before after : PagerTaker) (from was now : V) (records : List RawPager) (raw : RawPager) (number down : ℕ) (rec : PagerRec) → number ≡ length records → Passes before.link after.link (link_packet number raw) down → Passes before.lane after.lane (lane_packet number raw) down → after.count ≡ number + 1 → rec ≡ numbered_pager down raw → ((d : Recorded) → length d.pager ≡ number → Met was d → Met now (with_pager d rec)) → MeetsPager Met first from before was records → MeetsPager Met first from after now (records ++ raw ∷ [])
pager_more Met first before after from was now records raw number down rec e in_link in_lane counted is next meets = record {
  link = subst (HasPassed first.link after.link) (kept link_packet number records raw (told_from link_packet 0 records) (told_from link_packet 0 records ++ option_to_list (link_packet number raw)) (link_packet number raw) e refl refl refl) (has_passed_more first.link before.link after.link (told_from link_packet 0 records) (link_packet number raw) down meets.link in_link);
  lane = subst (HasPassed first.lane after.lane) (kept lane_packet number records raw (told_from lane_packet 0 records) (told_from lane_packet 0 records ++ option_to_list (lane_packet number raw)) (lane_packet number raw) e refl refl refl) (has_passed_more first.lane before.lane after.lane (told_from lane_packet 0 records) (lane_packet number raw) down meets.lane in_lane);
  count =
      let long : length (records ++ raw ∷ []) ≡ length records + 1 = length-append records (raw ∷ []) in
      omega (arith, counted, e, long);
  met = λ d none start link lane count are_link are_lane.
      let w = meets.met d none start link lane count are_link are_lane in
      let one = in_link.numbered link count (are_numbers_there first.link before.link (told_from link_packet 0 records) link count meets.link are_link) in
      let two = in_lane.numbered lane count (are_numbers_there first.lane before.lane (told_from lane_packet 0 records) lane count meets.lane are_lane) in
      (w.0 ++ rec ∷ [], numbered_more numbered_pager (IsDown link lane count) records w.0 raw rec number down e (one, two) is w.1, next (with_pagers d w.0) (w.1.many ∙ sym e) w.2);
}

-- ---- once the files were read

over_numbers : (c : Cursor) (messages : List Message) (numbers : List (Option ℕ)) (place count : ℕ) (deliveries : List Message) → IsOver c messages numbers place → AreNumbers messages count deliveries numbers → AreNumbers c.messages.now count deliveries c.numbers.now
over_numbers c messages numbers place count deliveries over are = subst (λ (ms : List Message). AreNumbers ms count deliveries c.numbers.now) (sym over.messages_are) (subst (λ (ns : List (Option ℕ)). AreNumbers messages count deliveries ns) (sym over.numbers_are) are)

-- what was passed of these messages, up to a place
pub passed_to : (first now : Cursor) (messages : List Message) (numbers : List (Option ℕ)) (place end : ℕ) (told : List Message) → IsOver first messages numbers place → HasPassed first now told → now.place ≡ end → place ≤ length messages → take end messages ≡ take place messages ++ told
passed_to first now messages numbers place end told over passed at le =
    let le_first : first.place ≤ length first.messages.now = subst (λ (ms : List Message). first.place ≤ length ms) (sym over.messages_are) (subst (λ n. n ≤ length messages) (sym over.place_is) le) in
    let p : take now.place messages ≡ take first.place messages ++ told = subst (λ (ms : List Message). take now.place ms ≡ take first.place ms ++ told) over.messages_are (passed.passed le_first) in
    subst (λ n. take n messages ≡ take place messages ++ told) at (subst (λ n. take now.place messages ≡ take n messages ++ told) over.place_is p)

-- the place of a cursor at the end
end_of : (first now : Cursor) (messages : List Message) (numbers : List (Option ℕ)) (place : ℕ) (told : List Message) → IsOver first messages numbers place → HasPassed first now told → now.place ≡ length now.messages.now → now.place ≡ length messages
end_of first now messages numbers place told over passed at = at ∙ ap (λ (ms : List Message). length ms) (passed.messages ∙ over.messages_are)

-- what else is so of the records of a log
pub and_so : {X : Type 0} (line : X → List ℕ) (IsOf : X → Type 0) (log : LogName) (bytes : Bytes) (Was Is : List X → Type 0) (is_whole : Bool) (w : WalksLog line IsOf log bytes Was is_whole) → Is w.records → WalksLog line IsOf log bytes Is is_whole
and_so line IsOf log bytes Was Is is_whole w is = record { records = w.records; tell = w.tell; whole = w.whole; is = is }

pub of_source : {V : Type 0} (Met : V → Recorded → Type 0) (messages : Delivered) (first now : SourceTaker) (from onto : V) (records : List RawSource) → IsOver first.link messages.link_messages.items messages.link.numbers.items messages.packets → MeetsSource Met first from now onto records → now.link.place ≡ length now.link.messages.now → OfSource Met messages from onto records
of_source Met messages first now from onto records over meets at = record {
  told = λ le.
      let end = end_of first.link now.link messages.link_messages.items messages.link.numbers.items messages.packets (told_from request 0 records) over meets.passed at in
      sym (take-length messages.link_messages.items) ∙ passed_to first.link now.link messages.link_messages.items messages.link.numbers.items messages.packets (length messages.link_messages.items) (told_from request 0 records) over meets.passed end le;
  met = λ d before none start deliveries count are. meets.met d before none start deliveries count (over_numbers first.link messages.link_messages.items messages.link.numbers.items messages.packets count deliveries over are);
}

-- ---- the link and the lane

-- of the same messages and deliveries
pub of_same : {V X : Type 0} {Met : V → Recorded → Type 0} {line : X → List ℕ} {IsOf : X → Type 0} {log : LogName} {wide : X → Wide} {delivery : Message → X} {bytes : Bytes} {from onto : V} {is_whole : Bool} (messages others deliveries others_too : List Message) → messages ≡ others → deliveries ≡ others_too → WalksCarrier Met line IsOf log wide delivery bytes messages deliveries from onto is_whole → WalksCarrier Met line IsOf log wide delivery bytes others others_too from onto is_whole
of_same {V} {X} {Met} {line} {IsOf} {log} {wide} {delivery} {bytes} {from} {onto} {is_whole} messages others deliveries others_too e f w = subst (λ ms. WalksCarrier Met line IsOf log wide delivery bytes ms others_too from onto is_whole) e (subst (λ ms. WalksCarrier Met line IsOf log wide delivery bytes messages ms from onto is_whole) f w)

-- ---- the pager

pub of_pager : {V : Type 0} (Met : V → Recorded → Type 0) (messages : Delivered) (first now : PagerTaker) (from onto : V) (records : List RawPager) → IsOver first.link messages.link_messages.items messages.link.numbers.items 0 → IsOver first.lane messages.lane_messages.items messages.lane.numbers.items 0 → MeetsPager Met first from now onto records → (now.link.place ≡ messages.packets) × (now.lane.place ≡ length now.lane.messages.now) × (now.count ≡ messages.pager) → OfPager Met messages from onto records
of_pager Met messages first now from onto records over over_lane meets at = record {
  packets = passed_to first.link now.link messages.link_messages.items messages.link.numbers.items 0 messages.packets (told_from link_packet 0 records) over meets.link at.0 (omega arith);
  pulls =
      let end = end_of first.lane now.lane messages.lane_messages.items messages.lane.numbers.items 0 (told_from lane_packet 0 records) over_lane meets.lane at.1 in
      sym (take-length messages.lane_messages.items) ∙ passed_to first.lane now.lane messages.lane_messages.items messages.lane.numbers.items 0 (length messages.lane_messages.items) (told_from lane_packet 0 records) over_lane meets.lane end (omega arith);
  count = sym at.2 ∙ meets.count;
  met = λ d none start link lane many are_link are_lane. meets.met d none start link lane many (over_numbers first.link messages.link_messages.items messages.link.numbers.items 0 many link over are_link) (over_numbers first.lane messages.lane_messages.items messages.lane.numbers.items 0 many lane over_lane are_lane);
}

-- ---- the recording

delivered_none : (n : ℕ) → delivered [] n ≡ []
delivered_none zero = refl
delivered_none (suc n) = append-nil (delivered [] n) ∙ delivered_none n

-- recordings with these records of one log
abbrev with_guests : Recorded → List GuestRec → Recorded
with_guests d log = record { version = d.version; geometry = d.geometry; init = d.init; guest = log; source = d.source; link = d.link; lane = d.lane; pager = d.pager }

abbrev with_links : Recorded → List LinkRec → Recorded
with_links d log = record { version = d.version; geometry = d.geometry; init = d.init; guest = d.guest; source = d.source; link = log; lane = d.lane; pager = d.pager }

abbrev with_lanes : Recorded → List LaneRec → Recorded
with_lanes d log = record { version = d.version; geometry = d.geometry; init = d.init; guest = d.guest; source = d.source; link = d.link; lane = log; pager = d.pager }

-- a log that may be met, of a recording that has its records
record IsPut {X R : Type 0} (wide : X → Wide) (of : X → R) (put : List R → Recorded) : Type 0 where
  pub one : (log : List R) (rec : X) → with_record (put log) (wide rec) ≡ put (log ++ of rec ∷ [])
  pub next : (log : List R) (rec : X) → IsNext (put log) (length log) (wide rec)

put_records : {X R : Type 0} (wide : X → Wide) (of : X → R) (put : List R → Recorded) → IsPut wide of put → (log : List R) (records : List X) → with_records wide (put log) records ≡ put (log ++ map of records)
put_records wide of put is log [] = ap put (sym (append-nil log))
put_records wide of put is log (rec ∷ records) = ap (λ d. with_records wide d records) (is.one log rec) ∙ (put_records wide of put is (log ++ of rec ∷ []) records ∙ ap put (append_assoc log (of rec ∷ []) (map of records)))

may_come : {X R : Type 0} (wide : X → Wide) (of : X → R) (put : List R → Recorded) → IsPut wide of put → MayCome wide (put [])
may_come wide of put is front rec = subst (λ d. IsNext d (length front) (wide rec)) (sym (put_records wide of put is [] front)) (subst (λ n. IsNext (put (map of front)) n (wide rec)) (length-map front of) (is.next (map of front) rec))

met_all : {V X R : Type 0} (Met : V → Recorded → Type 0) (wide : X → Wide) (of : X → R) (put : List R → Recorded) (from onto : V) (records : List X) → IsPut wide of put → MeetsAll Met wide from onto records → Met from (put []) → Met onto (put (map of records))
met_all Met wide of put from onto records is meets start = subst (Met onto) (put_records wide of put is [] records) (meets (put []) (may_come wide of put is) start)

-- the log of a carrier, and that it is one of the two
met_carrier : {V X R : Type 0} (Met : V → Recorded → Type 0) (wide : X → Wide) (delivery : Message → X) (of : X → R) (told : Message → R) (put : List R → Recorded) (messages deliveries : List Message) (from onto : V) (records : List X) → IsPut wide of put → ((m : Message) → of (delivery m) ≡ told m) → (messages ≡ [] → deliveries ≡ []) → ((records ≡ []) × ((d : Recorded) → MayCome wide d → MayCome (λ m. wide (delivery m)) d → Met from d → Met onto (with_records (λ m. wide (delivery m)) d deliveries))) ⊎ ((messages ≡ []) × MeetsAll Met wide from onto records) → Met from (put []) → Met onto (put (map of records ++ map told deliveries)) × ((records ≡ []) ⊎ (messages ≡ []))
met_carrier Met wide delivery of told put messages deliveries from onto records is same empty (inl (none, meets)) start =
    let sent : IsPut (λ m. wide (delivery m)) told put = record { one = λ log m. is.one log (delivery m) ∙ ap (λ r. put (log ++ r ∷ [])) (same m); next = λ log m. is.next log (delivery m) } in
    let met = subst (Met onto) (put_records (λ m. wide (delivery m)) told put sent [] deliveries) (meets (put []) (may_come wide of put is) (may_come (λ m. wide (delivery m)) told put sent) start) in
    (subst (λ rs. Met onto (put (map of rs ++ map told deliveries))) (sym none) met, inl none)
met_carrier Met wide delivery of told put messages deliveries from onto records is same empty (inr (none, meets)) start = (subst (λ log. Met onto (put log)) (sym (ap (λ ms. map of records ++ map told ms) (empty none) ∙ append-nil (map of records))) (met_all Met wide of put from onto records is meets start), inr none)

link_as : (m : Message) → link_of (wide_link_delivery m) ≡ link_delivery m
link_as (Down sent taken) = refl
link_as (Up sent taken) = refl

lane_as : (m : Message) → lane_of (wide_lane_delivery m) ≡ lane_delivery m
lane_as (Down sent taken) = refl
lane_as (Up sent taken) = refl

pub walks_files : {V : Type 0} (Met : V → Recorded → Type 0) (machine : WideMachine) (init : List WideInit) (bytes : Bytes) (messages : Delivered) (begun guest source link lane pager : V) (of_guest of_source of_link of_lane of_pager whole : Bool) → IsTrue whole ↔ (IsTrue of_guest × IsTrue of_source × IsTrue of_link × IsTrue of_lane × IsTrue of_pager) → Follow messages → Met begun (begun_with machine init) → WalksGuest Met machine bytes begun guest of_guest → WalksSource Met machine bytes messages guest source of_source → WalksCarrier Met (λ r. link_line (link_of r)) (λ r. IsLinkRecOf (link_of r)) Link wide.Link wide_link_delivery bytes messages.link_messages.items messages.link.log.items source link of_link → WalksCarrier Met (λ r. lane_line (lane_of r)) (λ r. IsLaneRecOf machine.version (lane_of r)) Lane wide.Lane wide_lane_delivery bytes messages.lane_messages.items messages.lane.log.items link lane of_lane → WalksPager Met machine bytes messages lane pager of_pager → (w : WalksFiles Met machine init bytes pager) × (IsTrue whole ↔ HasNoHole w.made)
walks_files Met machine init bytes messages begun guest source link lane pager of_guest of_source of_link of_lane of_pager whole are_all follow start g s l n p =
    let lm = messages.link_messages.items in
    let link_log = messages.link.log.items in
    let lane_log = messages.lane.log.items in
    let count = messages.pager in
    let whole_link : lm ≡ link_messages p.records s.records = s.is.told follow.packets ∙ ap (λ ms. ms ++ told_from request 0 s.records) p.is.packets in
    let is_link : link_log ≡ delivered (link_messages p.records s.records) (length p.records) = follow.link.log ∙ (ap (λ ms. delivered ms count) whole_link ∙ ap (λ m. delivered (link_messages p.records s.records) m) p.is.count) in
    let is_lane : lane_log ≡ delivered (lane_messages p.records) (length p.records) = follow.lane.log ∙ (ap (λ ms. delivered ms count) p.is.pulls ∙ ap (λ m. delivered (lane_messages p.records) m) p.is.count) in
    let no_link : lm ≡ [] → link_log ≡ [] = λ e. follow.link.log ∙ (ap (λ ms. delivered ms count) e ∙ delivered_none count) in
    let no_lane : messages.lane_messages.items ≡ [] → lane_log ≡ [] = λ e. follow.lane.log ∙ (ap (λ ms. delivered ms count) e ∙ delivered_none count) in
    let d0 = begun_with machine init in
    let m1 = met_all Met wide.Guest guest_of (with_guests d0) begun guest g.records (record { one = λ log rec. refl; next = λ log rec. ((refl, (refl, (refl, refl))), refl) }) g.is start in
    let ws = s.is.met (with_guests d0 (map guest_of g.records)) (refl, (refl, refl)) refl m1 link_log count follow.link.numbers in
    let d2 = with_sources (with_guests d0 (map guest_of g.records)) ws.0 in
    let d3 = with_links d2 (map link_of l.records ++ map link_delivery link_log) in
    let m3 = met_carrier Met wide.Link wide_link_delivery link_of link_delivery (with_links d2) lm link_log source link l.records (record { one = λ log rec. refl; next = λ log rec. ((refl, refl), refl) }) link_as no_link l.is.either ws.2 in
    let d4 = with_lanes d3 (map lane_of n.records ++ map lane_delivery lane_log) in
    let m4 = met_carrier Met wide.Lane wide_lane_delivery lane_of lane_delivery (with_lanes d3) messages.lane_messages.items lane_log link lane n.records (record { one = λ log rec. refl; next = λ log rec. (refl, refl) }) lane_as no_lane n.is.either m3.0 in
    let wp = p.is.met d4 refl m4.0 link_log lane_log count follow.link.numbers follow.lane.numbers in
    let sources : AreNumbered numbered_source (IsUp (delivered (link_messages p.records s.records) (length p.records)) (length p.records)) s.records ws.0 = subst (λ (log : List Message). AreNumbered numbered_source (IsUp log (length p.records)) s.records ws.0) is_link (subst (λ m. AreNumbered numbered_source (IsUp link_log m) s.records ws.0) p.is.count ws.1) in
    let counted : AreNumbered numbered_pager (IsDown link_log lane_log (length p.records)) p.records wp.0 = subst (λ m. AreNumbered numbered_pager (IsDown link_log lane_log m) p.records wp.0) p.is.count wp.1 in
    let pagers : AreNumbered numbered_pager (IsDown (delivered (link_messages p.records s.records) (length p.records)) (delivered (lane_messages p.records) (length p.records)) (length p.records)) p.records wp.0 = subst (λ (log : List Message). AreNumbered numbered_pager (IsDown log (delivered (lane_messages p.records) (length p.records)) (length p.records)) p.records wp.0) is_link (subst (λ (log : List Message). AreNumbered numbered_pager (IsDown link_log log (length p.records)) p.records wp.0) is_lane counted) in (
      record {
        s = with_pagers d4 wp.0;
        made = record {
          guest = g.records;
          source = s.records;
          link = l.records;
          lane = n.records;
          pager = p.records;
          tell_guest = g.tell;
          tell_source = s.tell;
          tell_link = l.tell;
          tell_lane = n.tell;
          tell_pager = p.tell;
          one_link = one_of (l.records ≡ []) lm (link_messages p.records s.records) whole_link m3.1;
          one_lane = one_of (n.records ≡ []) messages.lane_messages.items (lane_messages p.records) p.is.pulls m4.1;
          version = refl;
          geometry = refl;
          init = refl;
          guests = refl;
          sources = sources;
          links = ap (λ ms. map link_of l.records ++ map link_delivery ms) is_link;
          lanes = ap (λ ms. map lane_of n.records ++ map lane_delivery ms) is_lane;
          pagers = pagers;
        };
        met = wp.2;
      },
      (
        (λ so.
            let each = are_all.0 so in
            record { guest = g.whole.0 each.0; source = s.whole.0 each.1; link = l.whole.0 each.2; lane = n.whole.0 each.3; pager = p.whole.0 each.4 }),
        (λ none. are_all.1 (g.whole.1 none.guest, s.whole.1 none.source, l.whole.1 none.link, n.whole.1 none.lane, p.whole.1 none.pager)),
      ),
    )
  where
    one_of : (A : Type 0) (some others : List Message) → some ≡ others → A ⊎ (some ≡ []) → A ⊎ (others ≡ [])
    one_of A some others same (inl a) = inl a
    one_of A some others same (inr none) = inr (sym same ∙ none)
