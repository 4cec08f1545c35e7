-- Every run is faultless.
use Rattle.audit_model.proofs.Clean.{clash, clean_safe}
use Rattle.audit_model.proofs.History.{earlier_true}
use Rattle.audit_model.proofs.Orders.{follows_cursors}
use Rattle.audit_model.proofs.Walked.{merging_is_walk}
use Rattle.audit_model.specs.Faults.{GuestFault, HasNoPageFault, IsOver, if_fault}
use Rattle.audit_model.specs.Mergings.{IsMerging}
use Rattle.audit_model.specs.Shape.{IsRightShape, earlier, is_placement_of}
use Rattle.audit_model.specs.World.{world_after}
use Rattle.audit_model.specs.Worlds.{resident_before}
use Rattle.migration_types.specs.Receipts.{Name}
use Rattle.migration_types.specs.Limits.{most_records}
use Rattle.migration_types.specs.Sessions.{Recorded}
use Rattle.migration_types.specs.declared.records.GuestRec.{GuestRec}
use Rattle.migration_types.specs.declared.records.LogName.TheVariants.{Guest, Lane, Link, Pager, Source as FromSource}
use Rattle.migration_types.specs.declared.records.PagerRec.{PagerRec}
use Rattle.migration_model.proofs.Cleans.{guest_not, no_page_fault}
use Rattle.migration_model.proofs.Facts.{Arrives, AwayKept, IsComplete, close_none, is_there}
use Rattle.migration_model.proofs.Guests.{away_step_keeps}
use Rattle.migration_model.proofs.Homes.{HomeKept, halted_keeps, home_clean, home_stays, home_step_keeps, start_keeps}
use Rattle.migration_model.proofs.Limits.{HasRoom, is_session, no_back}
use Rattle.migration_model.proofs.Links.{flushed_keeps, turned_keeps}
use Rattle.migration_model.proofs.Lists.{and_left, and_right, append_nil, nothing}
use Rattle.migration_model.proofs.Pagers.{delivered_keeps, faulted_keeps, pager_ticked_keeps, popped_keeps, pulled_keeps}
use Rattle.migration_model.proofs.Shapes.{right_shape}
use Rattle.migration_model.proofs.Sources.{pushed_keeps, served_keeps, ticked_keeps}
use Rattle.migration_model.specs.Events.{all_at_move, away_event, books_event, event, halted, has_room, home_event, if_taken, recorded, run, start, step}
use Rattle.migration_model.specs.Books.{After, BooksAfter, Before, Books, BooksBefore, IsScript, Recording, Scripted, session_after, session_before, new_names, session_of}
use Rattle.migration_model.specs.Promise.{HasEachOwed, IsFaultlessRecording, IsFaultlessSession}
use Rattle.migration_events.specs.declared.events.Event.{Event}
use Rattle.migration_events.specs.declared.events.Event.TheVariants.{GuestStep, Halt as HaltGuest, LinkTurn, PagerDeliver, PagerFault, PagerFlush, PagerPop, PagerPull, PagerTick, Push, Serve, SourceTick}
use Rattle.residency.specs.Placements.{is_resident}
use Rattle.std.proofs.Common.{Bool, List, None, Option, Some, [], arith, cond, false, length, refl, subst, sym, true, ℕ, ◌&&◌, ◌++◌, ◌∙◌, ◌∷◌, ◌≡◌}
use Rattle.std.proofs.lemmas.Bool.{leb-true, or_left, or_right}
use Rattle.std.proofs.lemmas.Option.{slice_get_within}
use Rattle.std.specs.Prelude.{nat_le, slice_get}

-- at the end of a merging each page is resident that was placed, or released at the target
resident_at_end : (s : Recorded) (order : List Name) → IsRightShape s → IsMerging s order → (p : ℕ) → resident_before s (length s.guest) (length s.pager) p ≡ true → (world_after s order).resident p ≡ true
resident_at_end s order shape merging p e =
    let at = follows_cursors s shape order merging order [] (sym (append_nil order)) in
    let ends = (merging_is_walk s order merging).1 in
    at.world.resident_is p ∙ (λ i. resident_before s (ends Guest i) (ends Pager i) p) ∙ e

each_owed : (o : List Name) (a : BooksAfter) → AwayKept o a → IsRightShape (session_after a) → IsComplete a.source.geometry.pages a.source.ledger (is_there a.target) → HasEachOwed (session_after a) o
each_owed o a k shape complete p lt owed = resident_at_end (session_after a) o shape k.merges p (go (a.target.placed p) refl (complete p lt (k.frozen.ledger_is p ∙ owed)))
  where
    go : (q : Option ℕ) → a.target.placed p ≡ q → is_resident q (a.target.freed p) ≡ true → resident_before (session_after a) (length a.target.log) (length a.pager.log) p ≡ true
    go None is e = or_right _ _ (k.target.released p e).1
    go (Some n) is e = let w = k.target.places.found p n is in or_left _ _ (earlier_true (is_placement_of p) a.pager.log n (length a.pager.log) w.0 w.1 w.2 (slice_get_within a.pager.log n w.0 w.1))

-- a page whose first touch at the target is a release that no look covers is never placed
none_over : (o : List Name) (a : BooksAfter) → AwayKept o a → (p n : ℕ) (r : PagerRec) → slice_get a.pager.log n ≡ Some r → is_placement_of p r ≡ true → IsOver (session_after a) p → ⊥
none_over o a k p n r is places over =
    let none = (k.target.released p (k.target.over p over)).0 in
    clash (earlier (is_placement_of p) a.pager.log (length a.pager.log)) (earlier_true (is_placement_of p) a.pager.log n (length a.pager.log) r is places (slice_get_within a.pager.log n r is)) (k.target.places.none p none)

away_faultless : (o : List Name) (a : BooksAfter) → AwayKept o a → HasRoom (session_after a) → IsFaultlessSession (session_after a) o
away_faultless o a k room =
    let s = session_after a in
    let session = is_session s room k.named k.limits a.source.memory a.source.ledger k.source.wide k.clean in
    let shape = right_shape s k.named k.started (no_back s k.limits) in
    let clean = no_page_fault s a.source.memory a.source.ledger k.frozen (none_over o a k) k.clean in
    record {
      faultless = record { is_session = session; shape = shape; clean = clean };
      merging = k.merges;
      safe = clean_safe s clean session shape;
      done = λ n e. each_owed o a k shape (k.ends.done n e);
    }

-- no page fault at home
home_no_fault : (o : List Name) (h : BooksBefore) → HomeKept o h → HasNoPageFault (session_before h)
home_no_fault o h k reason (Guest, n) = go (slice_get h.guest.log n) refl
  where
    go : (q : Option GuestRec) → slice_get h.guest.log n ≡ q → if_fault (GuestFault (session_before h) reason n) q → ⊥
    go None is e = e
    go (Some r) is e = guest_not (session_before h) n r (k.reads n r is) reason e
home_no_fault o h k reason (FromSource, n) = λ e. e
home_no_fault o h k reason (Link, n) = λ e. e
home_no_fault o h k reason (Lane, n) = λ e. e
home_no_fault o h k reason (Pager, n) = λ e. e

home_faultless : (o : List Name) (h : BooksBefore) → HomeKept o h → HasRoom (session_before h) → IsFaultlessSession (session_before h) o
home_faultless o h k room =
    let s = session_before h in
    let session = is_session s room k.named k.limits h.guest.memory h.guest.ledger k.wide (home_clean h h.guest.memory h.guest.ledger k.reads) in
    let shape = right_shape s k.named (record { source = λ n r is. nothing n r is; pager = λ n r is. nothing n r is }) (no_back s k.limits) in
    let clean = home_no_fault o h k in
    record {
      faultless = record { is_session = session; shape = shape; clean = clean };
      merging = k.merges;
      safe = clean_safe s clean session shape;
      done = λ n e. nothing n _ e;
    }

abbrev pub BooksKept : List Name → Books → Type 0
BooksKept o (Before h) = HomeKept o h
BooksKept o (After a) = AwayKept o a

away_keeps : (o : List Name) (e : Event) (a : BooksAfter) → AwayKept o a → Arrives o a (away_event e a)
away_keeps o (GuestStep v) a k = away_step_keeps o v (slice_get a.vcpus v) a k refl
away_keeps o HaltGuest a k = close_none o (session_after a) a k
away_keeps o Push a k = pushed_keeps o a k
away_keeps o Serve a k = served_keeps o a.link.up_arrivals a k refl
away_keeps o SourceTick a k = ticked_keeps o a k
away_keeps o (LinkTurn direction fate) a k = turned_keeps o direction fate a k
away_keeps o PagerPop a k = popped_keeps o a.link.down_arrivals a k refl
away_keeps o PagerPull a k = pulled_keeps o a.link.lane_arrivals a k refl
away_keeps o PagerFault a k = faulted_keeps o a k
away_keeps o PagerFlush a k = flushed_keeps o a.pager.outbox a k refl
away_keeps o PagerDeliver a k = delivered_keeps o a k
away_keeps o PagerTick a k = pager_ticked_keeps o a.pager.released a k refl

-- the books after an event, with the order that it leaves
abbrev Comes : List Name → BooksBefore → Books → Type 0
Comes o h b = BooksKept (o ++ new_names (session_before h) (session_of b)) b

home_keeps : (o : List Name) (e : Event) (h : BooksBefore) → HomeKept o h → Comes o h (home_event e h)
home_keeps o (GuestStep v) h k = home_step_keeps o v (slice_get h.vcpus v) h k refl
home_keeps o HaltGuest h k = go (all_at_move h.vcpus)
  where
    go : (b : Bool) → Comes o h (cond b (After (halted h)) (Before h))
    go true = halted_keeps o h k
    go false = home_stays o h k
home_keeps o Push h k = home_stays o h k
home_keeps o Serve h k = home_stays o h k
home_keeps o SourceTick h k = home_stays o h k
home_keeps o (LinkTurn direction fate) h k = home_stays o h k
home_keeps o PagerPop h k = home_stays o h k
home_keeps o PagerPull h k = home_stays o h k
home_keeps o PagerFault h k = home_stays o h k
home_keeps o PagerFlush h k = home_stays o h k
home_keeps o PagerDeliver h k = home_stays o h k
home_keeps o PagerTick h k = home_stays o h k

-- the books keep their invariant through each event
pub event_keeps : (o : List Name) (e : Event) (b : Books) → BooksKept o b → BooksKept (recorded b o (books_event e b)).order (books_event e b)
event_keeps o e (Before h) k = home_keeps o e h k
event_keeps o e (After a) k = away_keeps o e a k

pub record MachineKept (core : Recording) : Type 0 where
  pub books : BooksKept core.order core.books
  pub room : HasRoom (session_of core.books)

pub room_there : (s : Recorded) → has_room s ≡ true → HasRoom s
room_there s e =
    let guest = nat_le (length s.guest) most_records in
    let source = nat_le (length s.source) most_records in
    let link = nat_le (length s.link) most_records in
    let lane = nat_le (length s.lane) most_records in
    let pager = nat_le (length s.pager) most_records in
    let four : (((guest && source) && link) && lane) ≡ true = and_left (((guest && source) && link) && lane) pager e in
    let three : ((guest && source) && link) ≡ true = and_left ((guest && source) && link) lane four in
    let two : (guest && source) ≡ true = and_left (guest && source) link three in
    record {
      guest = leb-true (length s.guest) most_records (and_left guest source two);
      source = leb-true (length s.source) most_records (and_right guest source two);
      link = leb-true (length s.link) most_records (and_right (guest && source) link three);
      lane = leb-true (length s.lane) most_records (and_right ((guest && source) && link) lane four);
      pager = leb-true (length s.pager) most_records (and_right (((guest && source) && link) && lane) pager e);
    }

step_keeps : (e : Event) (core next : Recording) → MachineKept core → step e core ≡ Some next → MachineKept next
step_keeps e core next k is = go (has_room (session_of (event e core).books)) refl is
  where
    go : (b : Bool) → has_room (session_of (event e core).books) ≡ b → cond b (Some (event e core)) None ≡ Some next → MachineKept next
    go true room is = let same : event e core ≡ next = cc in subst MachineKept same (record { books = event_keeps core.order e core.books k.books; room = room_there (session_of (event e core).books) room })
    go false room is = absurd (cc)

run_keeps : (es : List Event) (core result : Recording) → MachineKept core → run es core ≡ Some result → MachineKept result
run_keeps [] core result k is = let same : core ≡ result = cc in subst MachineKept same k
run_keeps (e ∷ es) core result k is = go (λ next kept is. run_keeps es next result kept is) (step e core) refl is
  where
    go : ((next : Recording) → MachineKept next → run es next ≡ Some result → MachineKept result) → (q : Option Recording) → step e core ≡ q → if_taken (run es) q ≡ Some result → MachineKept result
    go rec None taken is = absurd (cc)
    go rec (Some next) taken is = rec next (step_keeps e core next k taken) is

pub core_faultless : (core : Recording) → MachineKept core → IsFaultlessRecording core
core_faultless core k = go core.books core.order k.books k.room
  where
    go : (b : Books) (o : List Name) → BooksKept o b → HasRoom (session_of b) → IsFaultlessSession (session_of b) o
    go (Before h) o kept room = home_faultless o h kept room
    go (After a) o kept room = away_faultless o a kept room

pub run_kept : (script : Scripted) (events : List Event) (core : Recording) → IsScript script → run events (start script) ≡ Some core → MachineKept core
run_kept script events core fits is =
    run_keeps events (start script) core (record { books = start_keeps script fits; room = record { guest = omega arith; source = omega arith; link = omega arith; lane = omega arith; pager = omega arith } }) is

pub run_is_faultless : (script : Scripted) (events : List Event) (core : Recording) → IsScript script → run events (start script) ≡ Some core → IsFaultlessRecording core
run_is_faultless script events core fits is = core_faultless core (run_kept script events core fits is)
