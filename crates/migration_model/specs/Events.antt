-- The events. Each is composed of the parts of its books, and the names of its records are appended to the recorded
-- order.
use Rattle.std.specs.Prelude.{ℕ, Bool, true, false, ◌&&◌, nat_lt, nat_le, List, [], ◌∷◌, ◌++◌, length, Option, Some, None, slice_get, slice_set, if◌then◌else◌}
use Rattle.std.specs.List.{list_all}
use Rattle.migration_types.specs.Receipts.{Name}
use Rattle.migration_types.specs.Limits.{most_records}
use Rattle.migration_types.specs.Sessions.{Recorded}
use Rattle.page_stream.specs.declared.Packet.{Packet}
use Rattle.link_book.specs.LinkPart.{LinkPart, new_link, with_back, with_front, with_up, pushed_line, with_pushed, if_packet, turned}
use Rattle.link_book.specs.declared.Arrival.{Arrival}
use Rattle.active_push.specs.SourcePart.{Offer, state_packet, halted_source, source_push, source_serve, source_tick}
use Rattle.target_side.specs.GuestPart.{new_guest, guest_access}
use Rattle.migration_events.specs.declared.ops.Op.{Op}
use Rattle.target_side.specs.TargetPart.{Accessed, halted_target, target_access}
use Rattle.target_side.specs.declared.access.Access.{Access}
use Rattle.target_side.specs.declared.access.Access.TheVariants.{Done, Missed, Waiting}
use Rattle.target_side.specs.PagerPart.{Paged, Sent, new_pager, pager_pop, pager_pull, next_fault, pager_flush, deliver, pager_tick}
use Rattle.migration_events.specs.declared.events.Event.{Event}
use Rattle.migration_events.specs.declared.events.Event.TheVariants.{GuestStep, Halt as HaltGuest, Push, Serve, SourceTick, LinkTurn, PagerPop, PagerPull, PagerFault, PagerFlush, PagerDeliver, PagerTick}
use Rattle.migration_model.specs.Books.{Vcpu, Scripted, BooksBefore, BooksAfter, Books, Before, After, books_before, session_of, Recording, new_names}

abbrev pub start : Scripted → Recording
start script = record { books = Before (books_before script script.vcpus (new_guest script.geometry script.init)); order = [] }

-- GuestStep before the halt
abbrev pub home_ops : ℕ → Vcpu → List Op → BooksBefore → BooksBefore
home_ops v vcpu [] h = h
home_ops v vcpu (op ∷ ops) h = record h { guest = guest_access v op h.guest; vcpus = slice_set h.vcpus v (record vcpu { before_move = ops }) }

abbrev pub home_step : ℕ → Option Vcpu → BooksBefore → BooksBefore
home_step v None h = h
home_step v (Some vcpu) h = home_ops v vcpu vcpu.before_move h

-- GuestStep from the halt on: a virtual processor whose operation is carried out goes on to the next
abbrev pub after_access : Access → ℕ → Vcpu → List Op → List Vcpu → List Vcpu
after_access (Done answer) v vcpu ops vcpus = slice_set vcpus v (record vcpu { after_move = ops })
after_access Missed v vcpu ops vcpus = vcpus
after_access Waiting v vcpu ops vcpus = vcpus

abbrev pub accessed : ℕ → Vcpu → List Op → Accessed → BooksAfter → BooksAfter
accessed v vcpu ops r a = record a { target = r.book; vcpus = after_access r.access v vcpu ops a.vcpus }

abbrev pub away_ops : ℕ → Vcpu → List Op → BooksAfter → BooksAfter
away_ops v vcpu [] a = a
away_ops v vcpu (op ∷ ops) a = accessed v vcpu ops (target_access v op a.target) a

abbrev pub away_step : ℕ → Option Vcpu → BooksAfter → BooksAfter
away_step v None a = a
away_step v (Some vcpu) a = away_ops v vcpu vcpu.after_move a

-- Halt: each virtual processor is at its move
abbrev pub no_more : List Op → Bool
no_more [] = true
no_more (op ∷ ops) = false

abbrev pub all_at_move : List Vcpu → Bool
all_at_move vcpus = list_all (λ vcpu. no_more vcpu.before_move) vcpus

abbrev pub halted : BooksBefore → BooksAfter
halted h =
    let source = halted_source h.guest.geometry h.guest.memory h.guest.ledger h.pivots (length h.guest.log) in
    record {
      version = h.version;
      init = h.init;
      window = h.window;
      has_lane = h.has_lane;
      vcpus = h.vcpus;
      source = source;
      link = with_back (state_packet 1 source) new_link;
      pager = new_pager h.guest.geometry;
      target = halted_target h.guest.log;
    }

-- the books after a call of the source, with its packet offered
abbrev pub offered : (Packet → LinkPart → LinkPart) → Offer → BooksAfter → BooksAfter
offered offer o a = record a { source = o.book; link = if_packet offer o.packet a.link }

-- Push: on the lane, if there is one; the window then bounds the lane's line
abbrev pub pushed : BooksAfter → BooksAfter
pushed a = if nat_lt (length (pushed_line a.has_lane a.link)) a.window then offered (with_pushed a.has_lane) (source_push a.source) a else a

abbrev pub served : List Arrival → BooksAfter → BooksAfter
served [] a = a
served (x ∷ rest) a = offered with_front (source_serve x.number x.packet a.source) (record a { link = record a.link { up_arrivals = rest } })

abbrev pub popped : List Arrival → BooksAfter → BooksAfter
popped [] a = a
popped (x ∷ rest) a = record a { link = record a.link { down_arrivals = rest }; pager = pager_pop x.number x.packet a.pager }

abbrev pub pulled : List Arrival → BooksAfter → BooksAfter
pulled [] a = a
pulled (x ∷ rest) a = record a { link = record a.link { lane_arrivals = rest }; pager = pager_pull x.number x.packet a.pager }

-- the books after a call of the pager
abbrev pub paged : Paged → BooksAfter → BooksAfter
paged r a = record a { pager = r.pager; target = r.target }

abbrev pub sent_up : Sent → BooksAfter → BooksAfter
sent_up r a = record a { pager = r.book; link = if_packet with_up r.packet a.link }

abbrev pub away_event : Event → BooksAfter → BooksAfter
away_event (GuestStep v) a = away_step v (slice_get a.vcpus v) a
away_event HaltGuest a = a
away_event Push a = pushed a
away_event Serve a = served a.link.up_arrivals a
away_event SourceTick a = offered with_back (source_tick a.source) a
away_event (LinkTurn direction fate) a = record a { link = turned direction fate a.link }
away_event PagerPop a = popped a.link.down_arrivals a
away_event PagerPull a = pulled a.link.lane_arrivals a
away_event PagerFault a = paged (next_fault a.pager a.target) a
away_event PagerFlush a = sent_up (pager_flush a.pager) a
away_event PagerDeliver a = paged (deliver a.pager a.target) a
away_event PagerTick a = sent_up (pager_tick a.pager) a

abbrev pub home_event : Event → BooksBefore → Books
home_event (GuestStep v) h = Before (home_step v (slice_get h.vcpus v) h)
home_event HaltGuest h = if all_at_move h.vcpus then After (halted h) else Before h
home_event _ h = Before h

abbrev pub books_event : Event → Books → Books
books_event e (Before h) = home_event e h
books_event e (After a) = After (away_event e a)

-- the books after an event, and the recorded order with the names of its records
abbrev pub recorded : Books → List Name → Books → Recording
recorded old order new = record { books = new; order = order ++ new_names (session_of old) (session_of new) }

abbrev pub event : Event → Recording → Recording
event e core = recorded core.books core.order (books_event e core.books)

-- no log has more records than a log of a host may have
abbrev pub has_room : Recorded → Bool
has_room s = nat_le (length s.guest) most_records && nat_le (length s.source) most_records && nat_le (length s.link) most_records && nat_le (length s.lane) most_records && nat_le (length s.pager) most_records

-- an event is refused if it needs more records than a log has room for
abbrev pub if_room : Recording → Option Recording
if_room core = if has_room (session_of core.books) then Some core else None

abbrev pub step : Event → Recording → Option Recording
step e core = if_room (event e core)

-- what follows, if the event was not refused
abbrev pub if_taken : (Recording → Option Recording) → Option Recording → Option Recording
if_taken go None = None
if_taken go (Some next) = go next

-- events, until one is refused
abbrev pub run : List Event → Recording → Option Recording
run [] core = Some core
run (e ∷ es) core = if_taken (run es) (step e core)
