-- An event as a change of the one or two books that it names.
use Rattle.std.specs.Prelude.{◌≡◌, ◌≢◌, ℕ, ◌⊎◌, Bool, true, false, List, [], ◌∷◌, ◌++◌, length, Result, IfOk, OnOk, OnErr, IsErrOf}
use Rattle.active_push.specs.SourcePart.{SourcePart, halted_source, state_packet}
use Rattle.target_side.specs.GuestPart.{GuestPart}
use Rattle.link_book.specs.LinkPart.{LinkPart, with_back}
use Rattle.page_stream.specs.declared.Packet.{Packet}
use Rattle.page_stream.specs.declared.Packet.TheVariants.{Page as PagePacket}
use Rattle.target_side.specs.TargetPart.{TargetPart, halted_target}
use Rattle.target_side.specs.PagerPart.{PagerPart}
use Rattle.migration_events.specs.declared.events.Event.{Event}
use Rattle.migration_events.specs.declared.faults.EventFault.{EventFault}
use Rattle.migration_events.specs.declared.faults.EventFault.TheVariants.{LogFull, Memory}
use Rattle.migration_model.specs.Books.{BooksAfter, session_after}
use Rattle.migration_model.specs.Events.{away_event, has_room}
use Rattle.book_events.specs.declared.effect.Effect.{Effect}
use Rattle.book_events.specs.declared.effect.Effect.TheVariants.{Nothing, Made, Offered}

-- a migration with these books
abbrev pub pushing : ℕ → Bool → SourcePart → LinkPart → BooksAfter → BooksAfter
pushing window has_lane source link a = record a { window = window; has_lane = has_lane; source = source; link = link }

abbrev pub sending : SourcePart → LinkPart → BooksAfter → BooksAfter
sending source link a = record a { source = source; link = link }

abbrev pub receiving : LinkPart → PagerPart → BooksAfter → BooksAfter
receiving link pager a = record a { link = link; pager = pager }

abbrev pub placing : PagerPart → TargetPart → BooksAfter → BooksAfter
placing pager target a = record a { pager = pager; target = target }

-- in each migration with the old books, the event changes them to the new ones, and leaves all else as it was
pub record IsMade (e : Event) (old new : BooksAfter → BooksAfter) : Type 0 where
  pub made : (a : BooksAfter) → away_event e (old a) ≡ new a

-- a log has no room for the event
pub record IsFull (e : Event) (old : BooksAfter → BooksAfter) : Type 0 where
  pub full : (a : BooksAfter) → has_room (session_after (away_event e (old a))) ≡ false

-- each log has room for the event, if the logs were within their limit
pub record Fits (e : Event) (old : BooksAfter → BooksAfter) : Type 0 where
  pub fits : (a : BooksAfter) → has_room (session_after (old a)) ≡ true → has_room (session_after (away_event e (old a))) ≡ true

-- nothing has changed
pub record IsSame (old new : BooksAfter → BooksAfter) : Type 0 where
  pub same : (a : BooksAfter) → new a ≡ old a

-- a line has gained a packet of this page, after the others or before them
pub record HasGained (page : ℕ) (old new : List Packet) : Type 0 where
  pub number : ℕ
  pub contents : List ℕ
  pub gained : (new ≡ old ++ PagePacket number page contents ∷ []) ⊎ (new ≡ PagePacket number page contents ∷ old)

-- the line down or the lane's has gained a packet of this page
abbrev pub Gains : ℕ → LinkPart → LinkPart → Type 0
Gains page old new = HasGained page old.down new.down ⊎ HasGained page old.lane new.lane

-- a page was offered
pub record IsOffered (page : ℕ) (old new : BooksAfter → BooksAfter) : Type 0 where
  pub offered : (a : BooksAfter) → Gains page (old a).link (new a).link

-- something has changed, and no page was offered
pub record IsDone (old new : BooksAfter → BooksAfter) : Type 0 where
  pub changed : (a : BooksAfter) → new a ≢ old a
  pub no_page : (a : BooksAfter) (page : ℕ) → Gains page (old a).link (new a).link → ⊥

-- What the result of an event says: that there was nothing to do only if nothing has changed; a page only if it was
-- offered; and that the event was carried out only if something has changed and no page was offered.
abbrev pub Tells : Effect → (BooksAfter → BooksAfter) → (BooksAfter → BooksAfter) → Type 0
Tells Nothing old new = IsSame old new
Tells Made old new = IsDone old new
Tells (Offered page) old new = IsOffered page old new

-- The result of a call for an event, on two books that are part of a migration. Either the event is carried out, and
-- the result says what happened. Or it is refused: because a log is full exactly when a log has no room, and because
-- memory ran out only if there is room. On an error, nothing changes.
pub record ComesTo {A B : Type 0} (e : Event) (result : Result Effect EventFault) (standing : A → B → BooksAfter → BooksAfter) (one one' : A) (other other' : B) : Type 0 where
  pub ok : OnOk result (IsMade e (standing one other) (standing one' other'))
  pub told : IfOk result (λ effect. Tells effect (standing one other) (standing one' other'))
  pub full : IsErrOf result LogFull → IsFull e (standing one other)
  pub memory : IsErrOf result Memory → Fits e (standing one other)
  pub err : OnErr result ((one' ≡ one) × (other' ≡ other))

-- The result of a look at the room for an event, on two books that are part of a migration: each log has room, or a log
-- has none.
pub record LooksFor {A B T : Type 0} (e : Event) (result : Result T EventFault) (standing : A → B → BooksAfter → BooksAfter) (one : A) (other : B) : Type 0 where
  pub room : OnOk result (Fits e (standing one other))
  pub full : OnErr result (IsFull e (standing one other))
  pub memory : IsErrOf result Memory → ⊥

-- Halt: the books of the source and the target that it makes from the guest's; the state's packet is offered after what
-- is under way.
pub record IsHalt (pivots : ℕ) (guest : GuestPart) (link new_link : LinkPart) (source : SourcePart) (target : TargetPart) : Type 0 where
  pub source_is : source ≡ halted_source guest.geometry guest.memory guest.ledger pivots (length guest.log)
  pub target_is : target ≡ halted_target guest.log
  pub link_is : new_link ≡ with_back (state_packet 1 source) link
