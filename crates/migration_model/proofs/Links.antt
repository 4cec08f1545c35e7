-- The events of the links, and PagerFlush.
use Rattle.audit_model.specs.Shape.{goes_down, goes_up, passes}
use Rattle.link_book.specs.LinkPart.{Outcome, fate_of, goes, turned as link_turned, channel_turned, went_down, went_over_lane, went_up, with_arrival}
use Rattle.link_book.specs.declared.Arrival.{Arrival}
use Rattle.migration_events.specs.declared.events.Direction.{Direction}
use Rattle.migration_events.specs.declared.events.Direction.TheVariants.{Down as Downward, Lane as OverLane, Up as Upward}
use Rattle.migration_events.specs.declared.events.Fate.{Fate}
use Rattle.migration_events.specs.declared.events.Fate.TheVariants.{Back, Deliver, Lose, Repeat}
use Rattle.migration_types.specs.Receipts.{Name}
use Rattle.migration_types.specs.Sessions.{HasLane, Recorded}
use Rattle.migration_types.specs.declared.records.LaneRec.TheVariants.{Down as LaneDown}
use Rattle.migration_types.specs.declared.records.LinkRec.TheVariants.{Down, Up}
use Rattle.migration_types.specs.declared.records.LogName.TheVariants.{Pager, Source as FromSource}
use Rattle.migration_types.specs.declared.records.PagerRec.TheVariants.{All, Want}
use Rattle.migration_types.specs.declared.records.SourceRec.TheVariants.{Again, Send, State}
use Rattle.page_stream.specs.Packets.{number_of}
use Rattle.page_stream.specs.declared.Packet.{Packet}
use Rattle.page_stream.specs.declared.Packet.TheVariants.{All as AllPacket, Page as PagePacket, State as StatePacket, Want as WantPacket}
use Rattle.migration_model.proofs.Facts.{Arrives, AwayKept, DownFact, HasArrived, IsStateNumber, LaneFact, UpFact, ChannelKept, close_lane, close_link, close_none, down_fact_stays, lane_fact_stays, lane_pushed, link_pushed, link_stays, released_of, up_fact_stays, channel_stays}
use Rattle.migration_model.proofs.Unrecorded.{up_keeps, channel_more, with_link, with_pager}
use Rattle.migration_model.proofs.Grows.{lane_extends, lane_more, link_extends, link_more, names}
use Rattle.migration_model.proofs.Lists.{each_push, get_new, get_old, passes_at}
use Rattle.migration_model.specs.Events.{sent_up}
use Rattle.migration_model.specs.Books.{BooksAfter, session_after}
use Rattle.std.proofs.Common.{Bool, List, None, Option, Some, [], ap, cond, false, inl, inr, length, refl, subst, true, ℕ, ◌++◌, ◌<◌, ◌∙◌, ◌∷◌, ◌≡◌, ◌⊎◌}
use Rattle.std.proofs.lemmas.Option.{slice_get_within}
use Rattle.std.specs.List.{AllByRecursion}
use Rattle.std.specs.Prelude.{slice_get}
use Rattle.target_side.specs.PagerPart.{flushes}

-- the record that a packet's number names
abbrev GoesDown : Recorded → ℕ → Type 0
GoesDown s n = (passes goes_down (slice_get s.source n) ≡ true) × (n < length s.source)

abbrev GoesUp : Recorded → ℕ → Type 0
GoesUp s n = (passes goes_up (slice_get s.pager n) ≡ true) × (n < length s.pager)

abbrev GoesOverLane : Recorded → ℕ → Type 0
GoesOverLane s n = HasLane s.version × GoesDown s n

state_goes_down : (s : Recorded) (n : ℕ) → IsStateNumber s n → GoesDown s n
state_goes_down s n (inl e) = (passes_at goes_down s.source n State e refl, slice_get_within s.source n State e)
state_goes_down s n (inr h) = (passes_at goes_down s.source n (Again h.0) h.1 refl, slice_get_within s.source n (Again h.0) h.1)

page_goes_down : (s : Recorded) (n p send : ℕ) (content : List ℕ) → slice_get s.source send ≡ Some (Send p content) → (n ≡ send) ⊎ (slice_get s.source n ≡ Some (Again send)) → GoesDown s n
page_goes_down s n p send content sent (inl e) =
    let is : slice_get s.source n ≡ Some (Send p content) = ap (λ k. slice_get s.source k) e ∙ sent in
    (passes_at goes_down s.source n (Send p content) is refl, slice_get_within s.source n (Send p content) is)
page_goes_down s n p send content sent (inr e) = (passes_at goes_down s.source n (Again send) e refl, slice_get_within s.source n (Again send) e)

packet_goes_down : (s : Recorded) (released : List ℕ) (packet : Packet) → DownFact s released packet → GoesDown s (number_of packet)
packet_goes_down s released (StatePacket n rel) h = state_goes_down s n h.1
packet_goes_down s released (PagePacket n p content) h = page_goes_down s n p h.send content h.sent h.is_it
packet_goes_down s released (WantPacket n p) h = absurd h
packet_goes_down s released (AllPacket n) h = absurd h

packet_goes_up : (s : Recorded) (packet : Packet) → UpFact s packet → GoesUp s (number_of packet)
packet_goes_up s (StatePacket n rel) h = absurd h
packet_goes_up s (PagePacket n p content) h = absurd h
packet_goes_up s (WantPacket n p) h = (passes_at goes_up s.pager n (Want p) h refl, slice_get_within s.pager n (Want p) h)
packet_goes_up s (AllPacket n) h = (passes_at goes_up s.pager n All h refl, slice_get_within s.pager n All h)

-- what a turn leaves of a channel, and what is known of the number of the packet that has arrived, if one has
record OutcomeKept {R : Type 0} (names : ℕ → R) (log : List R) (P : Packet → Type 0) (Q : ℕ → Type 0) (turn : Outcome) : Type 0 where
  channel : ChannelKept names (with_arrival names turn.came log) P turn.channel.line turn.channel.arrivals
  came : (n : ℕ) → turn.came ≡ Some n → Q n

module _ {R : Type 0} (names : ℕ → R) (log : List R) (P : Packet → Type 0) (Q : ℕ → Type 0) (says : (packet : Packet) → P packet → Q (number_of packet)) where
  arrival_keeps : (packet : Packet) (line : List Packet) (arrivals : List Arrival) → P packet → ChannelKept names log P line arrivals →
      ChannelKept names (log ++ names (number_of packet) ∷ []) P line (arrivals ++ (record { number = length log; packet = packet }) ∷ [])
  arrival_keeps packet line arrivals fact k =
      let more = log ++ names (number_of packet) ∷ [] in
      let old = channel_stays names log more P P line arrivals (λ n r e. get_old log (names (number_of packet) ∷ []) n r e) (λ x h. h) k in
      record { under_way = old.under_way; come = each_push (HasArrived names more P) arrivals (record { number = length log; packet = packet }) old.come (get_new log (names (number_of packet)), fact) }

  fate_keeps : (fate : Fate) (packet : Packet) (line : List Packet) (arrivals : List Arrival) → P packet → ChannelKept names log P line arrivals → OutcomeKept names log P Q (fate_of fate (length log) packet (record { line = line; arrivals = arrivals }))
  fate_keeps fate packet line arrivals fact k = go fate
    where
      comes : (n : ℕ) → Some (number_of packet) ≡ Some n → Q n
      comes n e = subst Q (let same : number_of packet ≡ n = cc in same) (says packet fact)

      go : (fate : Fate) → OutcomeKept names log P Q (fate_of fate (length log) packet (record { line = line; arrivals = arrivals }))
      go Deliver = record { channel = arrival_keeps packet line arrivals fact k; came = comes }
      go Lose = record { channel = k; came = λ n e. absurd (cc) }
      go Repeat = record { channel = channel_more names (log ++ names (number_of packet) ∷ []) P line _ packet fact (arrival_keeps packet line arrivals fact k); came = comes }
      go Back = record { channel = channel_more names log P line arrivals packet fact k; came = λ n e. absurd (cc) }

  turn_keeps : (is_right : Packet → Bool) (fate : Fate) (line : List Packet) (arrivals : List Arrival) → ChannelKept names log P line arrivals → OutcomeKept names log P Q (channel_turned is_right fate (length log) line arrivals)
  turn_keeps is_right fate [] arrivals k = record { channel = k; came = λ n e. absurd (cc) }
  turn_keeps is_right fate (packet ∷ rest) arrivals k = go (is_right packet)
    where
      go : (b : Bool) → OutcomeKept names log P Q (cond b (fate_of fate (length log) packet (record { line = rest; arrivals = arrivals })) (record { channel = record { line = rest; arrivals = arrivals }; came = None }))
      go true = fate_keeps fate packet rest arrivals k.under_way.0 (record { under_way = k.under_way.1; come = k.come })
      go false = record { channel = record { under_way = k.under_way.1; come = k.come }; came = λ n e. absurd (cc) }

module _ (o : List Name) (turn : Outcome) (a : BooksAfter) (k : AwayKept o a) where
  went_down_keeps : OutcomeKept Down a.link.log (DownFact (session_after a) (released_of a)) (GoesDown (session_after a)) turn → Arrives o a (record a { link = went_down turn a.link })
  went_down_keeps kept = go turn.came refl kept.channel
    where
      go : (came : Option ℕ) → turn.came ≡ came → ChannelKept Down (with_arrival Down came a.link.log) (DownFact (session_after a) (released_of a)) turn.channel.line turn.channel.arrivals →
          Arrives o a (record a { link = record a.link { log = with_arrival Down came a.link.log; down = turn.channel.line; down_arrivals = turn.channel.arrivals } })
      go None is channel = close_none o (session_after a) _ (with_link (record a.link { down = turn.channel.line; down_arrivals = turn.channel.arrivals }) a k (record { down = channel; up = k.link.up; lane = k.link.lane }))
      go (Some n) is channel =
          let s = session_after a in
          let t = link_more (Down n) s in
          let x = link_extends (Down n) s in
          let old = link_stays s t x (released_of a) a.link k.link in
          let w = kept.came n is in
          close_link o s (Down n) _
          (link_pushed (Down n) (record a.link { down = turn.channel.line; down_arrivals = turn.channel.arrivals }) a k w.0 (names s (FromSource, n) w.1)
          (record {
            down = channel_stays Down t.link t.link (DownFact s (released_of a)) (DownFact t (released_of a)) turn.channel.line turn.channel.arrivals (λ m r e. e) (down_fact_stays s t x (released_of a)) channel;
            up = old.up;
            lane = old.lane;
          }))

  went_up_keeps : OutcomeKept Up a.link.log (UpFact (session_after a)) (GoesUp (session_after a)) turn → Arrives o a (record a { link = went_up turn a.link })
  went_up_keeps kept = go turn.came refl kept.channel
    where
      go : (came : Option ℕ) → turn.came ≡ came → ChannelKept Up (with_arrival Up came a.link.log) (UpFact (session_after a)) turn.channel.line turn.channel.arrivals →
          Arrives o a (record a { link = record a.link { log = with_arrival Up came a.link.log; up = turn.channel.line; up_arrivals = turn.channel.arrivals } })
      go None is channel = close_none o (session_after a) _ (with_link (record a.link { up = turn.channel.line; up_arrivals = turn.channel.arrivals }) a k (record { down = k.link.down; up = channel; lane = k.link.lane }))
      go (Some n) is channel =
          let s = session_after a in
          let t = link_more (Up n) s in
          let x = link_extends (Up n) s in
          let old = link_stays s t x (released_of a) a.link k.link in
          let w = kept.came n is in
          close_link o s (Up n) _
          (link_pushed (Up n) (record a.link { up = turn.channel.line; up_arrivals = turn.channel.arrivals }) a k w.0 (names s (Pager, n) w.1)
          (record {
            down = old.down;
            up = channel_stays Up t.link t.link (UpFact s) (UpFact t) turn.channel.line turn.channel.arrivals (λ m r e. e) (up_fact_stays s t x) channel;
            lane = old.lane;
          }))

  went_over_lane_keeps : OutcomeKept LaneDown a.link.lane_log (LaneFact (session_after a) (released_of a)) (GoesOverLane (session_after a)) turn → Arrives o a (record a { link = went_over_lane turn a.link })
  went_over_lane_keeps kept = go turn.came refl kept.channel
    where
      go : (came : Option ℕ) → turn.came ≡ came → ChannelKept LaneDown (with_arrival LaneDown came a.link.lane_log) (LaneFact (session_after a) (released_of a)) turn.channel.line turn.channel.arrivals →
          Arrives o a (record a { link = record a.link { lane_log = with_arrival LaneDown came a.link.lane_log; lane = turn.channel.line; lane_arrivals = turn.channel.arrivals } })
      go None is channel = close_none o (session_after a) _ (with_link (record a.link { lane = turn.channel.line; lane_arrivals = turn.channel.arrivals }) a k (record { down = k.link.down; up = k.link.up; lane = channel }))
      go (Some n) is channel =
          let s = session_after a in
          let t = lane_more (LaneDown n) s in
          let x = lane_extends (LaneDown n) s in
          let old = link_stays s t x (released_of a) a.link k.link in
          let w = kept.came n is in
          close_lane o s (LaneDown n) _
          (lane_pushed (LaneDown n) (record a.link { lane = turn.channel.line; lane_arrivals = turn.channel.arrivals }) a k w.1.0 w.0 (names s (FromSource, n) w.1.1)
          (record {
            down = old.down;
            up = old.up;
            lane = channel_stays LaneDown t.lane t.lane (LaneFact s (released_of a)) (LaneFact t (released_of a)) turn.channel.line turn.channel.arrivals (λ m r e. e) (lane_fact_stays s t x (released_of a)) channel;
          }))

pub turned_keeps : (o : List Name) (direction : Direction) (fate : Fate) (a : BooksAfter) → AwayKept o a → Arrives o a (record a { link = link_turned direction fate a.link })
turned_keeps o Downward fate a k =
    let s = session_after a in
    went_down_keeps o (channel_turned (goes Downward) fate (length a.link.log) a.link.down a.link.down_arrivals) a k
    (turn_keeps Down a.link.log (DownFact s (released_of a)) (GoesDown s) (packet_goes_down s (released_of a)) (goes Downward) fate a.link.down a.link.down_arrivals k.link.down)
turned_keeps o Upward fate a k =
    let s = session_after a in
    went_up_keeps o (channel_turned (goes Upward) fate (length a.link.log) a.link.up a.link.up_arrivals) a k
    (turn_keeps Up a.link.log (UpFact s) (GoesUp s) (packet_goes_up s) (goes Upward) fate a.link.up a.link.up_arrivals k.link.up)
turned_keeps o OverLane fate a k =
    let s = session_after a in
    went_over_lane_keeps o (channel_turned (goes OverLane) fate (length a.link.lane_log) a.link.lane a.link.lane_arrivals) a k
    (turn_keeps LaneDown a.link.lane_log (LaneFact s (released_of a)) (GoesOverLane s) (λ packet h. (h.0, packet_goes_down s (released_of a) packet h.1)) (goes OverLane) fate a.link.lane a.link.lane_arrivals k.link.lane)

-- PagerFlush
pub flushed_keeps : (o : List Name) (xs : List Packet) (a : BooksAfter) → AwayKept o a → a.pager.outbox ≡ xs → Arrives o a (sent_up (flushes xs a.pager) a)
flushed_keeps o [] a k e = close_none o (session_after a) a k
flushed_keeps o (packet ∷ rest) a k e =
    let P = UpFact (session_after a) in
    let facts : AllByRecursion P (packet ∷ rest) = subst (λ ys. AllByRecursion P ys) e k.pager.outbox in
    close_none o (session_after a) _
    (up_keeps packet (record a { pager = record a.pager { outbox = rest } })
    (with_pager (record a.pager { outbox = rest }) a k (record { geometry = k.pager.geometry; unready = k.pager.unready; ready = k.pager.ready; inbox = k.pager.inbox; outbox = facts.1; waiting = k.pager.waiting; wants = k.pager.wants }) k.placed k.settled)
    facts.0)
