-- The names of the records that an event appends.
use Rattle.audit_model.specs.Mergings.{run_names}
use Rattle.book_events.specs.Logs.{logs_in, lengths_of}
use Rattle.migration_model.specs.Books.{grown, new_names}
use Rattle.migration_model.specs.Events.{has_room}
use Rattle.migration_model.proofs.Growths.{GrowsByTwo}
use Rattle.migration_model.proofs.Whole.{room_there}
use Rattle.migration_types.specs.Limits.{most_records}
use Rattle.migration_types.specs.Receipts.{Name, logs}
use Rattle.migration_types.specs.Sessions.{Recorded}
use Rattle.migration_types.specs.declared.records.LogName.{LogName}
use Rattle.migration_types.specs.declared.records.LogName.TheVariants.{Guest, Source, Link, Lane, Pager}
use Rattle.session_core.specs.Names.{length_in, names_between}
use Rattle.std.proofs.Common.{List, [], ap, arith, suc, sym, true, zero, ℕ, ◌+◌, ◌++◌, ◌∙◌, ◌∷◌, ◌≡◌, ◌≤◌}
use Rattle.std.proofs.lemmas.List.{append_assoc, append-nil}
use Rattle.std.specs.Prelude.{◌-◌}

-- one name more, at the end
pub run_more : (log : LogName) (place count end : ℕ) → place + count ≡ end → run_names log place (suc count) ≡ run_names log place count ++ (log, end) ∷ []
run_more log place zero end e = ap (λ n. (log, n) ∷ []) (let same : place ≡ end = omega arith in same)
run_more log place (suc count) end e = ap (λ names. (log, place) ∷ names) (run_more log (suc place) count end (omega arith))

-- the names of one log more, at the end
pub names_more : (old new : LogName → ℕ) (logs : List LogName) (log : LogName) → names_between old new (logs ++ log ∷ []) ≡ names_between old new logs ++ run_names log (old log) (new log - old log)
names_more old new [] log = append-nil (run_names log (old log) (new log - old log))
names_more old new (first ∷ logs) log =
    let names = run_names first (old first) (new first - old first) in
    ap (λ rest. names ++ rest) (names_more old new logs log) ∙ sym (append_assoc names (names_between old new logs) (run_names log (old log) (new log - old log)))

-- those of all logs
gathered : (a b c d e : List Name) → a ++ (b ++ (c ++ (d ++ (e ++ [])))) ≡ a ++ b ++ c ++ d ++ e
gathered a b c d e =
    ap (λ x. a ++ (b ++ (c ++ (d ++ x)))) (append-nil e)
    ∙ sym (append_assoc a b (c ++ (d ++ e)))
    ∙ sym (append_assoc (a ++ b) c (d ++ e))
    ∙ sym (append_assoc (a ++ b ++ c) d e)

pub all_names : (s t : Recorded) → names_between (length_in (lengths_of (logs_in s))) (length_in (lengths_of (logs_in t))) logs ≡ new_names s t
all_names s t = gathered (grown Guest s.guest t.guest) (grown Source s.source t.source) (grown Link s.link t.link) (grown Lane s.lane t.lane) (grown Pager s.pager t.pager)

-- each log has grown by two at most
pub each_grows : (s t : Recorded) → GrowsByTwo s t → (log : LogName) → length_in (lengths_of (logs_in t)) log ≤ length_in (lengths_of (logs_in s)) log + 2
each_grows s t grows Guest = grows.guest
each_grows s t grows Source = grows.source
each_grows s t grows Link = grows.link
each_grows s t grows Lane = grows.lane
each_grows s t grows Pager = grows.pager

-- and is within its limit
pub each_within : (s : Recorded) → has_room s ≡ true → (log : LogName) → length_in (lengths_of (logs_in s)) log ≤ most_records
each_within s room Guest = (room_there s room).guest
each_within s room Source = (room_there s room).source
each_within s room Link = (room_there s room).link
each_within s room Lane = (room_there s room).lane
each_within s room Pager = (room_there s room).pager
