-- Deliveries among the records of an order: a packet just before the record of the pager that takes it, and what the pager sends just
-- after the record that sends it.
use Rattle.std.proofs.Common.{◌≡◌, ℕ, zero, suc, ◌+◌, ◌-◌, ◌<◌, ◌≤◌, ◌⊎◌, inl, inr, Bool, true, false, cond, List, [], ◌∷◌, ◌++◌, length, Option, Some, refl, sym, ap, ◌∙◌, subst, arith, append_assoc, length-append, lt-ltb, le-ltb}
use Rattle.std.specs.Prelude.{Contains, slice_get, min}
use Rattle.std.specs.List.{range_with_len}
use Rattle.std.proofs.lemmas.Bool.{cases_lt}
use Rattle.migration_types.specs.declared.records.LogName.{LogName}
use Rattle.migration_types.specs.declared.records.LogName.TheVariants.{Guest, Source, Link, Lane, Pager}
use Rattle.migration_types.specs.Receipts.{Name}
use Rattle.migration_types.specs.Sessions.{Recorded}
use Rattle.audit_model.specs.Names.{log_length, receipt, same_log}
use Rattle.audit_model.specs.Mergings.{places_of, StandsAfter, Cursors, at_start, moved, run_names}
use Rattle.audit_model.specs.Walks.{next, cursors_from, MayFollow, Walks}
use Rattle.audit_model.proofs.Cuts.{same_log_itself, cursors_push, cursor_count, places-append, range_at, range_front, below_count, from_start}
use Rattle.audit_model.proofs.Walked.{length_range, walk_is_merging}
use Rattle.recorder_files.specs.declared.delivering.Message.{Message}
use Rattle.recorder_files.specs.declared.delivering.Message.TheVariants.{Down, Up}
use Rattle.recorder_files.specs.Deliveries.{delivered}
use Rattle.kept_faults.specs.FrontLaws.{in_front, IsPart}
use Rattle.kept_faults.proofs.Stations.{many, many_taken, many_next, at_place, stands, taken_here, sent_here}

-- ---- walks to the ends of the logs

abbrev Goes : Recorded → Cursors → List Name → Type 0
Goes s c names = Walks s c names × ((l : LogName) → cursors_from c names l ≡ log_length s l)

goes_same : (s : Recorded) (c d : Cursors) (names : List Name) → ((l : LogName) → c l ≡ d l) → Goes s c names → Goes s d names
goes_same s c d names same goes = let e : c ≡ d = λ i l. same l i in subst (λ (k : Cursors). Goes s k names) e goes

grows : (c : Cursors) (log l : LogName) → c l ≤ next c log l
grows c log l = go (same_log log l)
  where
    go : (b : Bool) → c l ≤ cond b (suc (c l)) (c l)
    go true = omega arith
    go false = omega arith

grows_by : (c : Cursors) (log l : LogName) (count : ℕ) → c l ≤ moved c log count l
grows_by c log l count = go (same_log log l)
  where
    go : (b : Bool) → c l ≤ cond b (c l + count) (c l)
    go true = omega arith
    go false = omega arith

-- the records of a run may follow one after another
abbrev MayRun : Recorded → Cursors → LogName → ℕ → ℕ → Type 0
MayRun s c log place count = (j : ℕ) → j < count → (place ≡ c log) × (place + j < log_length s log) × ((sent : Name) → receipt s (log, place + j) ≡ Some sent → sent.1 < c sent.0)

run_on : (s : Recorded) (c : Cursors) (log : LogName) (place count : ℕ) (names : List Name) → MayRun s c log place count → Goes s (moved c log count) names → Goes s c (run_names log place count ++ names)
run_on s c log place zero names each goes = goes_same s (moved c log zero) c names (λ l. go l (same_log log l)) goes
  where
    go : (l : LogName) (b : Bool) → cond b (c l + zero) (c l) ≡ c l
    go l true = omega arith
    go l false = refl
run_on s c log place (suc count) names each goes =
    let rest = run_on s (next c log) log (suc place) count names later (goes_same s (moved c log (suc count)) (moved (next c log) log count) names (λ l. again l (same_log log l)) goes) in
    ((first, rest.0), rest.1)
  where
    first : MayFollow s c (log, place)
    first =
        let e = each 0 (omega arith) in
        let at : place + 0 ≡ place = omega arith in
        record {
          is_next = e.0;
          is_there = omega (arith, e.1);
          sent_before = λ sent is. e.2 sent (ap (λ (k : ℕ). receipt s (log, k)) at ∙ is);
        }

    again : (l : LogName) (b : Bool) → cond b (c l + suc count) (c l) ≡ cond b (cond b (suc (c l)) (c l) + count) (cond b (suc (c l)) (c l))
    again l true = omega arith
    again l false = refl

    later : MayRun s (next c log) log (suc place) count
    later j lt =
        let e = each (suc j) (omega (arith, lt)) in
        let up : next c log log ≡ suc (c log) = ap (λ b. cond b (suc (c log)) (c log)) (same_log_itself log) in
        let at : place + suc j ≡ suc place + j = omega arith in
        (omega (arith, e.0, up), omega (arith, e.1), λ sent is. let f = e.2 sent (ap (λ (k : ℕ). receipt s (log, k)) at ∙ is) in let g = grows c log sent.0 in omega (arith, f, g))

-- ---- a log that carries messages

abbrev pub sender : Message → Option Name
sender (Down sent taken) = Some (Source, sent)
sender (Up sent taken) = Some (Pager, sent)

-- Behind the records that were told, of which the session has the first of each log, the log has the first deliveries of these
-- messages. It has records that were told, or messages, and not both.
pub record Carries (s : Recorded) (first told more : Cursors) (named : Name → Option Name) (count : ℕ) (log : LogName) (messages : List Message) : Type 0 where
  pub few : more log ≤ many messages count
  pub alone : (m : Message) → Contains messages m → told log ≡ 0
  pub sends : (p : ℕ) (m : Message) → told log ≡ 0 → p < more log → slice_get (delivered messages count) p ≡ Some m → receipt s (log, p) ≡ sender m
  pub packet : (sent n : ℕ) → Contains messages (Down sent n) → named (Pager, n) ≡ Some (Source, sent)
  pub later : (p : ℕ) → told log ≡ 0 → many messages (first Pager) ≤ p → p < more log → (sent : Name) → receipt s (log, p) ≡ Some sent → sent.1 < first sent.0

-- how many of the deliveries there are, from one place to another
abbrev span : ℕ → ℕ → ℕ → ℕ
span top from to = min top to - min top from

module _ (s : Recorded) (first told more : Cursors) (named : Name → Option Name) (count : ℕ) (log : LogName) (messages : List Message) (is : Carries s first told more named count log messages) (low : first log ≤ told log) (long : log_length s log ≡ first log + more log) where
  no_messages : (n k : ℕ) → n < first log → min (more log) (many messages k) ≡ 0
  no_messages n k lt = go (cases_lt 0 (many messages k))
    where
      go : (0 < many messages k) ⊎ (many messages k ≤ 0) → min (more log) (many messages k) ≡ 0
      go (inr le) = omega (arith, le)
      go (inl some) =
          let there = at_place (delivered messages k) 0 some in
          let none = is.alone there.0 (stands messages k 0 there.0 there.1).1 in
          absurd (omega (arith, lt, none, low))

  -- a place of a delivery has a message
  delivered_at : (p : ℕ) → p < more log → (m : Message) × (slice_get (delivered messages count) p ≡ Some m)
  delivered_at p lt = let few = is.few in at_place (delivered messages count) p (omega (arith, lt, few))

  -- then nothing else was told
  none_told : (p : ℕ) → p < more log → told log ≡ 0
  none_told p lt = let there = delivered_at p lt in is.alone there.0 (stands messages count p there.0 there.1).1

  taken_names : (n : ℕ) (m : Message) → (sent : ℕ) × (m ≡ Down sent n) → Contains messages m → named (Pager, n) ≡ sender m
  taken_names n m at among = is.packet at.0 n (subst (λ (x : Message). Contains messages x) at.1 among) ∙ ap sender (sym at.1)

  sent_names : (n : ℕ) (m : Message) → (taken : ℕ) × (m ≡ Up n taken) → Some (Pager, n) ≡ sender m
  sent_names n m at = ap sender (sym at.1)

  taken_is : (n p : ℕ) → many messages n ≤ p → p < many messages n + many_taken messages n → p < more log → (sent : Name) → receipt s (log, p) ≡ Some sent → named (Pager, n) ≡ Some sent
  taken_is n p from to lt sent e =
      let there = delivered_at p lt in
      taken_names n there.0 (taken_here messages count n p there.0 there.1 from to) (stands messages count p there.0 there.1).1 ∙ sym (is.sends p there.0 (none_told p lt) lt there.1) ∙ e

  sent_is : (n p : ℕ) → many messages n + many_taken messages n ≤ p → p < many messages (suc n) → p < more log → (sent : Name) → receipt s (log, p) ≡ Some sent → Some (Pager, n) ≡ Some sent
  sent_is n p from to lt sent e =
      let there = delivered_at p lt in
      sent_names n there.0 (sent_here messages count n p there.0 there.1 from to) ∙ sym (is.sends p there.0 (none_told p lt) lt there.1) ∙ e

  taken_fits : (n j : ℕ) → j < span (more log) (many messages n) (many messages n + many_taken messages n) → (told log ≡ 0) × (min (more log) (many messages n) + j < log_length s log) × ((sent : Name) → receipt s (log, min (more log) (many messages n) + j) ≡ Some sent → named (Pager, n) ≡ Some sent)
  taken_fits n j below =
      let lt : min (more log) (many messages n) + j < more log = omega (arith, below) in (
        none_told (min (more log) (many messages n) + j) lt,
        omega (arith, lt, long),
        taken_is n (min (more log) (many messages n) + j) (omega (arith, below)) (omega (arith, below)) lt,
      )

  sent_fits : (n j : ℕ) → j < span (more log) (many messages n + many_taken messages n) (many messages (suc n)) → (told log ≡ 0) × (min (more log) (many messages n + many_taken messages n) + j < log_length s log) × ((sent : Name) → receipt s (log, min (more log) (many messages n + many_taken messages n) + j) ≡ Some sent → Some (Pager, n) ≡ Some sent)
  sent_fits n j below =
      let lt : min (more log) (many messages n + many_taken messages n) + j < more log = omega (arith, below) in (
        none_told (min (more log) (many messages n + many_taken messages n) + j) lt,
        omega (arith, lt, long),
        sent_is n (min (more log) (many messages n + many_taken messages n) + j) (omega (arith, below)) (omega (arith, below)) lt,
      )

  later_fits : (j : ℕ) → j < more log - min (more log) (many messages (first Pager)) → (told log ≡ 0) × (min (more log) (many messages (first Pager)) + j < log_length s log) × ((sent : Name) → receipt s (log, min (more log) (many messages (first Pager)) + j) ≡ Some sent → sent.1 < first sent.0)
  later_fits j below =
      let lt : min (more log) (many messages (first Pager)) + j < more log = omega (arith, below) in (
        none_told (min (more log) (many messages (first Pager)) + j) lt,
        omega (arith, lt, long),
        is.later (min (more log) (many messages (first Pager)) + j) (none_told (min (more log) (many messages (first Pager)) + j) lt) (omega (arith, below)) lt,
      )

-- ---- the deliveries among the records

abbrev station : Cursors → List Message → List Message → ℕ → List Name → List Name
station more link lane n names =
    run_names Link (min (more Link) (many link n)) (span (more Link) (many link n) (many link n + many_taken link n))
    ++ (run_names Lane (min (more Lane) (many lane n)) (span (more Lane) (many lane n) (many lane n + many_taken lane n))
    ++ ((Pager, n) ∷ (run_names Link (min (more Link) (many link n + many_taken link n)) (span (more Link) (many link n + many_taken link n) (many link (suc n)))
    ++ (run_names Lane (min (more Lane) (many lane n + many_taken lane n)) (span (more Lane) (many lane n + many_taken lane n) (many lane (suc n))) ++ names))))

-- behind the pager's last record, those that are left
abbrev left_over : Cursors → List Message → List Message → ℕ → List Name
left_over more link lane last =
    run_names Link (min (more Link) (many link last)) (more Link - min (more Link) (many link last))
    ++ (run_names Lane (min (more Lane) (many lane last)) (more Lane - min (more Lane) (many lane last)) ++ [])

abbrev woven : Cursors → List Message → List Message → ℕ → List Name → List Name
woven more link lane last [] = left_over more link lane last
woven more link lane last ((Guest, n) ∷ names) = (Guest, n) ∷ woven more link lane last names
woven more link lane last ((Source, n) ∷ names) = (Source, n) ∷ woven more link lane last names
woven more link lane last ((Link, n) ∷ names) = (Link, n) ∷ woven more link lane last names
woven more link lane last ((Lane, n) ∷ names) = (Lane, n) ∷ woven more link lane last names
woven more link lane last ((Pager, n) ∷ names) = station more link lane n (woven more link lane last names)

-- how many deliveries a log has before a record of the pager
abbrev extra : Cursors → List Message → List Message → ℕ → LogName → ℕ
extra more link lane n Link = min (more Link) (many link n)
extra more link lane n Lane = min (more Lane) (many lane n)
extra more link lane n _ = 0

-- and how many with the packets that it takes
abbrev extra_taken : Cursors → List Message → List Message → ℕ → LogName → ℕ
extra_taken more link lane n Link = min (more Link) (many link n + many_taken link n)
extra_taken more link lane n Lane = min (more Lane) (many lane n + many_taken lane n)
extra_taken more link lane n _ = 0

abbrev pub with_extra : Cursors → List Message → List Message → Cursors → Cursors
with_extra more link lane d l = d l + extra more link lane (d Pager) l

abbrev pub with_taken : Cursors → List Message → List Message → Cursors → Cursors
with_taken more link lane d l = d l + extra_taken more link lane (d Pager) l

-- the cursors before a record of a log in the order with the deliveries, given those in the order without
abbrev pub cursors_at : Cursors → List Message → List Message → Cursors → LogName → Cursors
cursors_at more link lane d Pager = with_taken more link lane d
cursors_at more link lane d _ = with_extra more link lane d

-- a record that comes after the one that it names comes after the one that it is a receipt for
abbrev pub Follows : Recorded → Cursors → Cursors → (Name → Option Name) → List Message → List Message → Type 0
Follows s first more named link lane =
    (d : Cursors) (name : Name) → ((l : LogName) → d l ≤ first l) → name.1 ≡ d name.0 → name.1 < first name.0 →
    ((sent : Name) → named name ≡ Some sent → sent.1 < d sent.0) →
    (sent : Name) → receipt s name ≡ Some sent → sent.1 < cursors_at more link lane d name.0 sent.0

abbrev pub has_more : Cursors → LogName → Type 0
has_more more Link = Unit {0}
has_more more Lane = Unit {0}
has_more more l = more l ≡ 0

module _ (s : Recorded) (first told more : Cursors) (named : Name → Option Name) (count : ℕ) (link lane : List Message) (of_link : Carries s first told more named count Link link) (of_lane : Carries s first told more named count Lane lane) (low : (l : LogName) → first l ≤ told l) (long : (l : LogName) → log_length s l ≡ first l + more l) (alone : (l : LogName) → has_more more l) (follows : Follows s first more named link lane) (order : List Name) (rows : (log : LogName) → places_of log order ≡ range_with_len 0 (first log)) (after : (earlier : List Name) (name sent : Name) → StandsAfter order earlier name → named name ≡ Some sent → Contains earlier sent) where
  rows_at : (past names : List Name) → past ++ names ≡ order → (l : LogName) → places_of l past ++ places_of l names ≡ range_with_len 0 (first l)
  rows_at past names e l = sym (places-append l past names) ∙ ap (places_of l) e ∙ rows l

  count_at : (past : List Name) (l : LogName) → cursors_from at_start past l ≡ length (places_of l past)
  count_at past l = cursor_count at_start past l ∙ from_start l (length (places_of l past))

  sum_at : (past names : List Name) → past ++ names ≡ order → (l : LogName) → cursors_from at_start past l + length (places_of l names) ≡ first l
  sum_at past names e l =
      let parts = length-append (places_of l past) (places_of l names) in
      let all : length (places_of l past ++ places_of l names) ≡ first l = ap (λ (xs : List ℕ). length xs) (rows_at past names e l) ∙ length_range 0 (first l) in
      let count = count_at past l in
      omega (arith, parts, all, count)

  own_row : (past : List Name) (n : Name) (names : List Name) → past ++ n ∷ names ≡ order → places_of n.0 past ++ n.1 ∷ places_of n.0 names ≡ range_with_len 0 (first n.0)
  own_row past n names e =
      let own : places_of n.0 (n ∷ names) ≡ n.1 ∷ places_of n.0 names = ap (λ b. cond b (n.1 ∷ places_of n.0 names) (places_of n.0 names)) (same_log_itself n.0) in
      ap (λ (ys : List ℕ). places_of n.0 past ++ ys) (sym own) ∙ rows_at past (n ∷ names) e n.0

  is_next : (past : List Name) (n : Name) (names : List Name) → past ++ n ∷ names ≡ order → n.1 ≡ cursors_from at_start past n.0
  is_next past n names e =
      let at = (range_at (places_of n.0 past) (places_of n.0 names) n.1 0 (first n.0) (own_row past n names e)).0 in
      let count = count_at past n.0 in
      omega (arith, at, count)

  is_there : (past : List Name) (n : Name) (names : List Name) → past ++ n ∷ names ≡ order → n.1 < first n.0
  is_there past n names e =
      let at = range_at (places_of n.0 past) (places_of n.0 names) n.1 0 (first n.0) (own_row past n names e) in
      omega (arith, at.0, at.1)

  sent_before : (past : List Name) (n : Name) (names : List Name) → past ++ n ∷ names ≡ order → (sent : Name) → named n ≡ Some sent → sent.1 < cursors_from at_start past sent.0
  sent_before past n names e sent is =
      let k = length (places_of sent.0 past) in
      let row : places_of sent.0 past ≡ range_with_len 0 k = range_front (places_of sent.0 past) (places_of sent.0 (n ∷ names)) 0 (first sent.0) (rows_at past (n ∷ names) e sent.0) in
      let below = below_count past sent.0 sent.1 0 k row (after past n sent (names, sym e) is) in
      let count = count_at past sent.0 in
      omega (arith, below, count)

  within : (past names : List Name) → past ++ names ≡ order → (l : LogName) → cursors_from at_start past l ≤ first l
  within past names e l = let all = sum_at past names e l in omega (arith, all)

  -- ---- a record of another log than the pager's

  next_plain : (d : Cursors) (log : LogName) → same_log log Pager ≡ false → (l : LogName) → with_extra more link lane (next d log) l ≡ next (with_extra more link lane d) log l
  next_plain d log other l =
      let same : next d log Pager ≡ d Pager = ap (λ b. cond b (suc (d Pager)) (d Pager)) other in
      ap (λ (k : ℕ). next d log l + extra more link lane k l) same ∙ go (same_log log l)
    where
      go : (b : Bool) → cond b (suc (d l)) (d l) + extra more link lane (d Pager) l ≡ cond b (suc (d l + extra more link lane (d Pager) l)) (d l + extra more link lane (d Pager) l)
      go true = omega arith
      go false = refl

  plain : (past : List Name) (log : LogName) (n : ℕ) (names rest : List Name) → past ++ (log, n) ∷ names ≡ order → same_log log Pager ≡ false → cursors_at more link lane (cursors_from at_start past) log ≡ with_extra more link lane (cursors_from at_start past) → extra more link lane (cursors_from at_start past Pager) log ≡ 0 → Goes s (with_extra more link lane (cursors_from at_start (past ++ (log, n) ∷ []))) rest → Goes s (with_extra more link lane (cursors_from at_start past)) ((log, n) ∷ rest)
  plain past log n names rest e other at none then = ((may, goes.0), goes.1)
    where
      may : MayFollow s (with_extra more link lane (cursors_from at_start past)) (log, n)
      may =
          let next_is = is_next past (log, n) names e in
          let there = is_there past (log, n) names e in
          let all = long log in
          record {
            is_next = omega (arith, next_is, none);
            is_there = omega (arith, there, all);
            sent_before = λ sent is. subst (λ (c : Cursors). sent.1 < c sent.0) at (follows (cursors_from at_start past) (log, n) (within past ((log, n) ∷ names) e) next_is there (sent_before past (log, n) names e) sent is);
          }

      goes : Goes s (next (with_extra more link lane (cursors_from at_start past)) log) rest
      goes =
          let pushed : cursors_from at_start (past ++ (log, n) ∷ []) ≡ next (cursors_from at_start past) log = cursors_push at_start past (log, n) in
          goes_same s (with_extra more link lane (next (cursors_from at_start past) log)) (next (with_extra more link lane (cursors_from at_start past)) log) rest (next_plain (cursors_from at_start past) log other) (subst (λ (c : Cursors). Goes s (with_extra more link lane c) rest) pushed then)

  -- ---- a record of the pager

  at_station : (d : Cursors) (n : ℕ) (rest : List Name) → ((l : LogName) → d l ≤ first l) → n ≡ d Pager → n < first Pager → ((sent : Name) → named (Pager, n) ≡ Some sent → sent.1 < d sent.0) → Goes s (with_extra more link lane (next d Pager)) rest → Goes s (with_extra more link lane d) (station more link lane n rest)
  at_station d n rest within at there before then =
      run_on s c0 Link (min (more Link) (many link n)) (span (more Link) (many link n) (many link n + many_taken link n)) _ one
      (run_on s c1 Lane (min (more Lane) (many lane n)) (span (more Lane) (many lane n) (many lane n + many_taken lane n)) _ two
      (let goes = run_on s c3 Link (min (more Link) (many link n + many_taken link n)) (span (more Link) (many link n + many_taken link n) (many link (suc n))) _ three
      (run_on s c4 Lane (min (more Lane) (many lane n + many_taken lane n)) (span (more Lane) (many lane n + many_taken lane n) (many lane (suc n))) rest four
      (goes_same s (with_extra more link lane (next d Pager)) (moved c4 Lane (span (more Lane) (many lane n + many_taken lane n) (many lane (suc n)))) rest ends then)) in ((may, goes.0), goes.1)))
    where
      c0 : Cursors
      c0 = with_extra more link lane d

      c1 : Cursors
      c1 = moved c0 Link (span (more Link) (many link n) (many link n + many_taken link n))

      c2 : Cursors
      c2 = moved c1 Lane (span (more Lane) (many lane n) (many lane n + many_taken lane n))

      c3 : Cursors
      c3 = next c2 Pager

      c4 : Cursors
      c4 = moved c3 Link (span (more Link) (many link n + many_taken link n) (many link (suc n)))

      link_n : many link n ≡ many link (d Pager)
      link_n = ap (many link) at

      lane_n : many lane n ≡ many lane (d Pager)
      lane_n = ap (many lane) at

      link_taken : many_taken link n ≡ many_taken link (d Pager)
      link_taken = ap (many_taken link) at

      lane_taken : many_taken lane n ≡ many_taken lane (d Pager)
      lane_taken = ap (many_taken lane) at

      link_next : many link (suc n) ≡ many link (suc (d Pager))
      link_next = ap (λ (k : ℕ). many link (suc k)) at

      lane_next : many lane (suc n) ≡ many lane (suc (d Pager))
      lane_next = ap (λ (k : ℕ). many lane (suc k)) at

      one : MayRun s c0 Link (min (more Link) (many link n)) (span (more Link) (many link n) (many link n + many_taken link n))
      one j lt =
          let f = taken_fits s first told more named count Link link of_link (low Link) (long Link) n j lt in
          let few = within Link in
          let all = low Link in
          (omega (arith, f.0, few, all, link_n), f.1, λ sent e. let g = before sent (f.2 sent e) in omega (arith, g))

      two : MayRun s c1 Lane (min (more Lane) (many lane n)) (span (more Lane) (many lane n) (many lane n + many_taken lane n))
      two j lt =
          let f = taken_fits s first told more named count Lane lane of_lane (low Lane) (long Lane) n j lt in
          let few = within Lane in
          let all = low Lane in
          (omega (arith, f.0, few, all, lane_n), f.1, λ sent e. let g = before sent (f.2 sent e) in let up = grows_by c0 Link sent.0 (span (more Link) (many link n) (many link n + many_taken link n)) in omega (arith, g, up))

      taken_at : (l : LogName) → with_taken more link lane d l ≡ c2 l
      taken_at Guest = omega arith
      taken_at Source = omega arith
      taken_at Link = omega (arith, link_n, link_taken)
      taken_at Lane = omega (arith, lane_n, lane_taken)
      taken_at Pager = omega arith

      may : MayFollow s c2 (Pager, n)
      may =
          let all = long Pager in
          record {
            is_next = omega (arith, at);
            is_there = omega (arith, there, all);
            sent_before = λ sent is. let f = follows d (Pager, n) within at there before sent is in let same = taken_at sent.0 in omega (arith, f, same);
          }

      three : MayRun s c3 Link (min (more Link) (many link n + many_taken link n)) (span (more Link) (many link n + many_taken link n) (many link (suc n)))
      three j lt =
          let f = sent_fits s first told more named count Link link of_link (low Link) (long Link) n j lt in
          let few = within Link in
          let all = low Link in
          (omega (arith, f.0, few, all, link_n), f.1, λ sent e. let same : (Pager, n) ≡ sent = let g = f.2 sent e in cc in subst (λ (z : Name). z.1 < c3 z.0) same (omega (arith, at)))

      four : MayRun s c4 Lane (min (more Lane) (many lane n + many_taken lane n)) (span (more Lane) (many lane n + many_taken lane n) (many lane (suc n)))
      four j lt =
          let f = sent_fits s first told more named count Lane lane of_lane (low Lane) (long Lane) n j lt in
          let few = within Lane in
          let all = low Lane in
          (omega (arith, f.0, few, all, lane_n), f.1, λ sent e. let same : (Pager, n) ≡ sent = let g = f.2 sent e in cc in subst (λ (z : Name). z.1 < c4 z.0) same (omega (arith, at)))

      ends : (l : LogName) → with_extra more link lane (next d Pager) l ≡ moved c4 Lane (span (more Lane) (many lane n + many_taken lane n) (many lane (suc n))) l
      ends Guest = omega arith
      ends Source = omega arith
      ends Link = let on = many_next link n in omega (arith, on, link_n, link_next)
      ends Lane = let on = many_next lane n in omega (arith, on, lane_n, lane_next)
      ends Pager = omega arith

  -- ---- the deliveries that are left

  at_end : (d : Cursors) → ((l : LogName) → d l ≡ first l) → Goes s (with_extra more link lane d) (left_over more link lane (first Pager))
  at_end d all =
      run_on s c0 Link (min (more Link) (many link (first Pager))) (more Link - min (more Link) (many link (first Pager))) _ one
      (run_on s c1 Lane (min (more Lane) (many lane (first Pager))) (more Lane - min (more Lane) (many lane (first Pager))) [] two
      (tt, ends))
    where
      c0 : Cursors
      c0 = with_extra more link lane d

      c1 : Cursors
      c1 = moved c0 Link (more Link - min (more Link) (many link (first Pager)))

      link_n : many link (d Pager) ≡ many link (first Pager)
      link_n = ap (many link) (all Pager)

      lane_n : many lane (d Pager) ≡ many lane (first Pager)
      lane_n = ap (many lane) (all Pager)

      one : MayRun s c0 Link (min (more Link) (many link (first Pager))) (more Link - min (more Link) (many link (first Pager)))
      one j lt =
          let f = later_fits s first told more named count Link link of_link (low Link) (long Link) j lt in
          let few = all Link in
          let own = low Link in
          (omega (arith, f.0, few, own, link_n), f.1, λ sent e. let g = f.2 sent e in let a = all sent.0 in omega (arith, g, a))

      two : MayRun s c1 Lane (min (more Lane) (many lane (first Pager))) (more Lane - min (more Lane) (many lane (first Pager)))
      two j lt =
          let f = later_fits s first told more named count Lane lane of_lane (low Lane) (long Lane) j lt in
          let few = all Lane in
          let own = low Lane in
          (omega (arith, f.0, few, own, lane_n), f.1, λ sent e. let g = f.2 sent e in let a = all sent.0 in let up = grows_by c0 Link sent.0 (more Link - min (more Link) (many link (first Pager))) in omega (arith, g, a, up))

      ends : (l : LogName) → moved c1 Lane (more Lane - min (more Lane) (many lane (first Pager))) l ≡ log_length s l
      ends Guest = let a = all Guest in let b = long Guest in let c = alone Guest in omega (arith, a, b, c)
      ends Source = let a = all Source in let b = long Source in let c = alone Source in omega (arith, a, b, c)
      ends Link = let a = all Link in let b = long Link in omega (arith, a, b, link_n)
      ends Lane = let a = all Lane in let b = long Lane in omega (arith, a, b, lane_n)
      ends Pager = let a = all Pager in let b = long Pager in let c = alone Pager in omega (arith, a, b, c)

  -- ---- the order with the deliveries

  on : (past : List Name) (n : Name) (names : List Name) → past ++ n ∷ names ≡ order → (past ++ n ∷ []) ++ names ≡ order
  on past n names e = append_assoc past (n ∷ []) names ∙ e

  goes : (past names : List Name) → past ++ names ≡ order → Goes s (with_extra more link lane (cursors_from at_start past)) (woven more link lane (first Pager) names)
  goes past [] e = at_end (cursors_from at_start past) (λ l. let sum = sum_at past [] e l in omega (arith, sum))
  goes past ((Guest, n) ∷ names) e = plain past Guest n names (woven more link lane (first Pager) names) e refl refl refl (goes (past ++ (Guest, n) ∷ []) names (on past (Guest, n) names e))
  goes past ((Source, n) ∷ names) e = plain past Source n names (woven more link lane (first Pager) names) e refl refl refl (goes (past ++ (Source, n) ∷ []) names (on past (Source, n) names e))
  goes past ((Link, n) ∷ names) e = plain past Link n names (woven more link lane (first Pager) names) e refl refl (no_messages s first told more named count Link link of_link (low Link) (long Link) n (cursors_from at_start past Pager) (is_there past (Link, n) names e)) (goes (past ++ (Link, n) ∷ []) names (on past (Link, n) names e))
  goes past ((Lane, n) ∷ names) e = plain past Lane n names (woven more link lane (first Pager) names) e refl refl (no_messages s first told more named count Lane lane of_lane (low Lane) (long Lane) n (cursors_from at_start past Pager) (is_there past (Lane, n) names e)) (goes (past ++ (Lane, n) ∷ []) names (on past (Lane, n) names e))
  goes past ((Pager, n) ∷ names) e =
      let pushed : cursors_from at_start (past ++ (Pager, n) ∷ []) ≡ next (cursors_from at_start past) Pager = cursors_push at_start past (Pager, n) in
      at_station (cursors_from at_start past) n (woven more link lane (first Pager) names) (within past ((Pager, n) ∷ names) e) (is_next past (Pager, n) names e) (is_there past (Pager, n) names e) (sent_before past (Pager, n) names e)
      (subst (λ (c : Cursors). Goes s (with_extra more link lane c) (woven more link lane (first Pager) names)) pushed (goes (past ++ (Pager, n) ∷ []) names (on past (Pager, n) names e)))

  -- ---- the order without them

  left_out : (log : LogName) (place many : ℕ) (names : List Name) → ((j : ℕ) → j < many → told log ≡ 0) → in_front told (run_names log place many ++ names) ≡ in_front told names
  left_out log place zero names none = refl
  left_out log place (suc many) names none =
      let empty = none 0 (omega arith) in
      ap (λ b. cond b ((log, place) ∷ in_front told (run_names log (suc place) many ++ names)) (in_front told (run_names log (suc place) many ++ names))) (le-ltb place (told log) (omega (arith, empty)))
      ∙ left_out log (suc place) many names (λ j lt. empty)

  kept_in_front : (past : List Name) (name : Name) (names rest : List Name) → past ++ name ∷ names ≡ order → in_front told rest ≡ names → in_front told (name ∷ rest) ≡ name ∷ names
  kept_in_front past name names rest e then =
      let there = is_there past name names e in
      let all = low name.0 in
      ap (λ b. cond b (name ∷ in_front told rest) (in_front told rest)) (lt-ltb name.1 (told name.0) (omega (arith, there, all)))
      ∙ ap (λ (ns : List Name). name ∷ ns) then

  without : (past names : List Name) → past ++ names ≡ order → in_front told (woven more link lane (first Pager) names) ≡ names
  without past [] e =
      left_out Link (min (more Link) (many link (first Pager))) (more Link - min (more Link) (many link (first Pager))) _ (λ j lt. (later_fits s first told more named count Link link of_link (low Link) (long Link) j lt).0)
      ∙ left_out Lane (min (more Lane) (many lane (first Pager))) (more Lane - min (more Lane) (many lane (first Pager))) [] (λ j lt. (later_fits s first told more named count Lane lane of_lane (low Lane) (long Lane) j lt).0)
  without past ((Guest, n) ∷ names) e = kept_in_front past (Guest, n) names (woven more link lane (first Pager) names) e (without (past ++ (Guest, n) ∷ []) names (on past (Guest, n) names e))
  without past ((Source, n) ∷ names) e = kept_in_front past (Source, n) names (woven more link lane (first Pager) names) e (without (past ++ (Source, n) ∷ []) names (on past (Source, n) names e))
  without past ((Link, n) ∷ names) e = kept_in_front past (Link, n) names (woven more link lane (first Pager) names) e (without (past ++ (Link, n) ∷ []) names (on past (Link, n) names e))
  without past ((Lane, n) ∷ names) e = kept_in_front past (Lane, n) names (woven more link lane (first Pager) names) e (without (past ++ (Lane, n) ∷ []) names (on past (Lane, n) names e))
  without past ((Pager, n) ∷ names) e =
      left_out Link (min (more Link) (many link n)) (span (more Link) (many link n) (many link n + many_taken link n)) _ (λ j lt. (taken_fits s first told more named count Link link of_link (low Link) (long Link) n j lt).0)
      ∙ left_out Lane (min (more Lane) (many lane n)) (span (more Lane) (many lane n) (many lane n + many_taken lane n)) _ (λ j lt. (taken_fits s first told more named count Lane lane of_lane (low Lane) (long Lane) n j lt).0)
      ∙ kept_in_front past (Pager, n) names _ e
      (left_out Link (min (more Link) (many link n + many_taken link n)) (span (more Link) (many link n + many_taken link n) (many link (suc n))) _ (λ j lt. (sent_fits s first told more named count Link link of_link (low Link) (long Link) n j lt).0)
      ∙ left_out Lane (min (more Lane) (many lane n + many_taken lane n)) (span (more Lane) (many lane n + many_taken lane n) (many lane (suc n))) _ (λ j lt. (sent_fits s first told more named count Lane lane of_lane (low Lane) (long Lane) n j lt).0)
      ∙ without (past ++ (Pager, n) ∷ []) names (on past (Pager, n) names e))

  pub is_part : IsPart s told order
  is_part = record {
    whole = woven more link lane (first Pager) order;
    merging = walk_is_merging s (woven more link lane (first Pager) order) (goes_same s (with_extra more link lane at_start) at_start (woven more link lane (first Pager) order) start (goes [] order refl));
    is_part = without [] order refl;
  }
    where
      start : (l : LogName) → with_extra more link lane at_start l ≡ at_start l
      start Guest = omega arith
      start Source = omega arith
      start Link = omega arith
      start Lane = omega arith
      start Pager = omega arith
