-- Each arrival has its record, after each call.
use Rattle.std.proofs.Common.{◌≡◌, ℕ, Bool, true, false, cond, Option, Some, None, is_some, ◌<◌, ◌≤◌, List, [], ◌∷◌, ◌++◌, length, sym, subst, length-append, arith}
use Rattle.std.specs.Prelude.{slice_get, Result, Ok, Err, OnOk, OnErr}
use Rattle.std.specs.List.{AllByRecursion}
use Rattle.std.proofs.lemmas.Option.{slice_get_within}
use Rattle.migration_types.specs.Limits.{most_records}
use Rattle.migration_types.specs.declared.records.LinkRec.{LinkRec}
use Rattle.migration_types.specs.declared.records.LinkRec.TheVariants.{Down, Up}
use Rattle.migration_types.specs.declared.records.LaneRec.{LaneRec}
use Rattle.migration_types.specs.declared.records.LaneRec.TheVariants.{Down as LaneDown}
use Rattle.migration_events.specs.declared.events.Fate.{Fate}
use Rattle.migration_events.specs.declared.events.Fate.TheVariants.{Deliver, Lose, Repeat, Back}
use Rattle.migration_events.specs.declared.events.Direction.{Direction}
use Rattle.migration_events.specs.declared.events.Direction.TheVariants.{Down as Downward, Up as Upward, Lane as OverLane}
use Rattle.page_stream.specs.declared.Packet.{Packet}
use Rattle.page_stream.specs.Packets.{number_of}
use Rattle.link_book.specs.declared.Arrival.{Arrival}
use Rattle.link_book.specs.LinkPart.{LinkPart, Outcome, goes, fate_of, channel_turned, with_arrival, link_says, lane_says, turned, log_length}
use Rattle.link_book.specs.Links.{IsRecorded, IsLink, HasTurned, arrival, channel}
use Rattle.link_book.proofs.Lists.{get_old, get_new}

-- the records of a channel's arrivals stay where they are when the log gains another
still : {R : Type 0} (names new : ℕ → R) (came : Option ℕ) (log : List R) (xs : List Arrival) → AllByRecursion (IsRecorded names log) xs → AllByRecursion (IsRecorded names (with_arrival new came log)) xs
still names new None log xs h = h
still names new (Some n) log [] h = tt
still names new (Some n) log (x ∷ xs) h = (get_old log (new n ∷ []) x.number (names (number_of x.packet)) h.0, still names new (Some n) log xs h.1)

-- a packet that comes has its record
with_new : {R : Type 0} (names : ℕ → R) (log : List R) (p : Packet) (xs : List Arrival) → AllByRecursion (IsRecorded names log) xs → AllByRecursion (IsRecorded names (log ++ names (number_of p) ∷ [])) (xs ++ arrival (length log) p ∷ [])
with_new names log p [] h = (get_new log (names (number_of p)), tt)
with_new names log p (x ∷ xs) h = (get_old log (names (number_of p) ∷ []) x.number (names (number_of x.packet)) h.0, with_new names log p xs h.1)

-- the arrivals of the channel that is turned
keeps : {R : Type 0} (names : ℕ → R) (right : Packet → Bool) (fate : Fate) (log : List R) (line : List Packet) (xs : List Arrival) → AllByRecursion (IsRecorded names log) xs
    → AllByRecursion (IsRecorded names (with_arrival names (channel_turned right fate (length log) line xs).came log)) (channel_turned right fate (length log) line xs).channel.arrivals
keeps names right fate log [] xs h = h
keeps {R} names right fate log (p ∷ rest) xs h = go (right p) fate
  where
    outcome : Bool → Fate → Outcome
    outcome b fate = cond b (fate_of fate (length log) p (channel rest xs)) (record { channel = channel rest xs; came = None })

    go : (b : Bool) (fate : Fate) → AllByRecursion (IsRecorded names (with_arrival names (outcome b fate).came log)) (outcome b fate).channel.arrivals
    go false fate = h
    go true Deliver = with_new names log p xs h
    go true Lose = h
    go true Repeat = with_new names log p xs h
    go true Back = h

turned_keeps : (d : Direction) (fate : Fate) (b : LinkPart) → IsLink b → log_length d (turned d fate b) ≤ most_records → IsLink (turned d fate b)
turned_keeps Downward fate b h short = record {
  short = short;
  short_lane = h.short_lane;
  down = keeps Down (goes Downward) fate b.log b.down b.down_arrivals h.down;
  up = still Up Down (channel_turned (goes Downward) fate (length b.log) b.down b.down_arrivals).came b.log b.up_arrivals h.up;
  lane = h.lane;
}
turned_keeps Upward fate b h short = record {
  short = short;
  short_lane = h.short_lane;
  down = still Down Up (channel_turned (goes Upward) fate (length b.log) b.up b.up_arrivals).came b.log b.down_arrivals h.down;
  up = keeps Up (goes Upward) fate b.log b.up b.up_arrivals h.up;
  lane = h.lane;
}
turned_keeps OverLane fate b h short = record {
  short = h.short;
  short_lane = short;
  down = h.down;
  up = h.up;
  lane = keeps LaneDown (goes OverLane) fate b.lane_log b.lane b.lane_arrivals h.lane;
}

-- the book after a turn that the log has room for
kept : (d : Direction) (fate : Fate) (b after : LinkPart) → IsLink b → after ≡ turned d fate b → log_length d after ≤ most_records → IsLink after
kept d fate b after h same few = subst IsLink (sym same) (turned_keeps d fate b h (subst (λ (a : LinkPart). log_length d a ≤ most_records) same few))

-- the book after a turn of each channel, be it refused or not
pub down_kept : {T E : Type 0} (d : Direction) (fate : Fate) (b : LinkPart) (log : List LinkRec) (line : List Packet) (xs : List Arrival) (r : Result T E) → d ≡ Downward → IsLink b
    → OnOk r (HasTurned (link_says d) (channel_turned (goes d) fate (length b.log) b.down b.down_arrivals) b.log log line xs) → OnOk r (length log ≤ most_records)
    → OnErr r ((log ≡ b.log) × (line ≡ b.down) × (xs ≡ b.down_arrivals)) → IsLink (record b { log = log; down = line; down_arrivals = xs })
down_kept Downward fate b log line xs (Ok done) is h to few stays =
    kept Downward fate b (record b { log = log; down = line; down_arrivals = xs }) h (λ k. record b { log = to.log_is k; down = (to.channel_is k).line; down_arrivals = (to.channel_is k).arrivals }) few
down_kept Downward fate b log line xs (Err fault) is h to few stays =
    let same : record b { log = log; down = line; down_arrivals = xs } ≡ b = λ k. record b { log = stays.0 k; down = stays.1 k; down_arrivals = stays.2 k } in
    subst IsLink (sym same) h
down_kept Upward fate b log line xs r is h to few stays = absurd (cc)
down_kept OverLane fate b log line xs r is h to few stays = absurd (cc)

pub up_kept : {T E : Type 0} (d : Direction) (fate : Fate) (b : LinkPart) (log : List LinkRec) (line : List Packet) (xs : List Arrival) (r : Result T E) → d ≡ Upward → IsLink b
    → OnOk r (HasTurned (link_says d) (channel_turned (goes d) fate (length b.log) b.up b.up_arrivals) b.log log line xs) → OnOk r (length log ≤ most_records)
    → OnErr r ((log ≡ b.log) × (line ≡ b.up) × (xs ≡ b.up_arrivals)) → IsLink (record b { log = log; up = line; up_arrivals = xs })
up_kept Upward fate b log line xs (Ok done) is h to few stays =
    kept Upward fate b (record b { log = log; up = line; up_arrivals = xs }) h (λ k. record b { log = to.log_is k; up = (to.channel_is k).line; up_arrivals = (to.channel_is k).arrivals }) few
up_kept Upward fate b log line xs (Err fault) is h to few stays =
    let same : record b { log = log; up = line; up_arrivals = xs } ≡ b = λ k. record b { log = stays.0 k; up = stays.1 k; up_arrivals = stays.2 k } in
    subst IsLink (sym same) h
up_kept Downward fate b log line xs r is h to few stays = absurd (cc)
up_kept OverLane fate b log line xs r is h to few stays = absurd (cc)

pub lane_kept : {T E : Type 0} (d : Direction) (fate : Fate) (b : LinkPart) (log : List LaneRec) (line : List Packet) (xs : List Arrival) (r : Result T E) → d ≡ OverLane → IsLink b
    → OnOk r (HasTurned (lane_says d) (channel_turned (goes d) fate (length b.lane_log) b.lane b.lane_arrivals) b.lane_log log line xs) → OnOk r (length log ≤ most_records)
    → OnErr r ((log ≡ b.lane_log) × (line ≡ b.lane) × (xs ≡ b.lane_arrivals)) → IsLink (record b { lane_log = log; lane = line; lane_arrivals = xs })
lane_kept OverLane fate b log line xs (Ok done) is h to few stays =
    kept OverLane fate b (record b { lane_log = log; lane = line; lane_arrivals = xs }) h (λ k. record b { lane_log = to.log_is k; lane = (to.channel_is k).line; lane_arrivals = (to.channel_is k).arrivals }) few
lane_kept OverLane fate b log line xs (Err fault) is h to few stays =
    let same : record b { lane_log = log; lane = line; lane_arrivals = xs } ≡ b = λ k. record b { lane_log = stays.0 k; lane = stays.1 k; lane_arrivals = stays.2 k } in
    subst IsLink (sym same) h
lane_kept Downward fate b log line xs r is h to few stays = absurd (cc)
lane_kept Upward fate b log line xs r is h to few stays = absurd (cc)

-- a log without a place has none for the record of a packet that comes
grown : {R : Type 0} (names : ℕ → R) (came : Option ℕ) (log : List R) → most_records ≤ length log → is_some came ≡ true → most_records < length (with_arrival names came log)
grown names None log full is = absurd (cc)
grown names (Some n) log full is = simp length-append (omega arith)

pub down_full : (d : Direction) (fate : Fate) (b : LinkPart) → d ≡ Downward → (most_records ≤ length b.log) × (is_some (channel_turned (goes d) fate (length b.log) b.down b.down_arrivals).came ≡ true)
    → most_records < log_length d (turned d fate b)
down_full Downward fate b is full = grown Down _ b.log full.0 full.1
down_full Upward fate b is full = absurd (cc)
down_full OverLane fate b is full = absurd (cc)

pub up_full : (d : Direction) (fate : Fate) (b : LinkPart) → d ≡ Upward → (most_records ≤ length b.log) × (is_some (channel_turned (goes d) fate (length b.log) b.up b.up_arrivals).came ≡ true)
    → most_records < log_length d (turned d fate b)
up_full Upward fate b is full = grown Up _ b.log full.0 full.1
up_full Downward fate b is full = absurd (cc)
up_full OverLane fate b is full = absurd (cc)

pub lane_full : (d : Direction) (fate : Fate) (b : LinkPart) → d ≡ OverLane → (most_records ≤ length b.lane_log) × (is_some (channel_turned (goes d) fate (length b.lane_log) b.lane b.lane_arrivals).came ≡ true)
    → most_records < log_length d (turned d fate b)
lane_full OverLane fate b is full = grown LaneDown _ b.lane_log full.0 full.1
lane_full Downward fate b is full = absurd (cc)
lane_full Upward fate b is full = absurd (cc)

-- the oldest arrival's number is within the log
pub oldest_within : {R : Type 0} (names : ℕ → R) (log : List R) (xs : List Arrival) (x : Arrival) → AllByRecursion (IsRecorded names log) xs → slice_get xs 0 ≡ Some x → x.number < length log
oldest_within names log [] x h is = absurd (cc)
oldest_within names log (y ∷ xs) x h is =
    let same : y ≡ x = cc in
    subst (λ (z : Arrival). z.number < length log) same (slice_get_within log y.number (names (number_of y.packet)) h.0)

-- a log with a place has one for the record of a packet that comes
fits : {R : Type 0} (names : ℕ → R) (came : Option ℕ) (log : List R) → length log < most_records → length (with_arrival names came log) ≤ most_records
fits names None log room = omega (arith, room)
fits names (Some n) log room = simp length-append (omega (arith, room))

pub down_fits : (d : Direction) (fate : Fate) (b : LinkPart) → d ≡ Downward → length b.log < most_records → log_length d (turned d fate b) ≤ most_records
down_fits Downward fate b is room = fits Down (channel_turned (goes Downward) fate (length b.log) b.down b.down_arrivals).came b.log room
down_fits Upward fate b is room = absurd (cc)
down_fits OverLane fate b is room = absurd (cc)

pub up_fits : (d : Direction) (fate : Fate) (b : LinkPart) → d ≡ Upward → length b.log < most_records → log_length d (turned d fate b) ≤ most_records
up_fits Upward fate b is room = fits Up (channel_turned (goes Upward) fate (length b.log) b.up b.up_arrivals).came b.log room
up_fits Downward fate b is room = absurd (cc)
up_fits OverLane fate b is room = absurd (cc)

pub lane_fits : (d : Direction) (fate : Fate) (b : LinkPart) → d ≡ OverLane → length b.lane_log < most_records → log_length d (turned d fate b) ≤ most_records
lane_fits OverLane fate b is room = fits LaneDown (channel_turned (goes OverLane) fate (length b.lane_log) b.lane b.lane_arrivals).came b.lane_log room
lane_fits Downward fate b is room = absurd (cc)
lane_fits Upward fate b is room = absurd (cc)
