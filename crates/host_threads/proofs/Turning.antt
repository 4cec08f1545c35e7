-- A turn with the books of the source and the link is one within any window, with a lane or without.
use Rattle.std.proofs.Common.{ℕ, Bool}
use Rattle.active_push.specs.SourcePart.{SourcePart}
use Rattle.link_book.specs.LinkPart.{LinkPart}
use Rattle.migration_events.specs.declared.events.Event.{Event}
use Rattle.book_events.specs.Parts.{pushing, sending, IsMade, IsSame, IsOffered, IsDone}
use Rattle.host_threads.specs.declared.turns.TurnReport.{TurnReport}
use Rattle.host_threads.specs.declared.turns.TurnReport.TheVariants.{Did, Offered, Served, Idle, Stops}
use Rattle.host_threads.specs.Turns.{IsTurn}

made_within : (e : Event) (w : ℕ) (h : Bool) (s t : SourcePart) (l m : LinkPart) → IsMade e (sending s l) (sending t m) → IsMade e (pushing w h s l) (pushing w h t m)
made_within e w h s t l m part = record { made = λ a. part.made (record a { window = w; has_lane = h }) }

same_within : (w : ℕ) (h : Bool) (s t : SourcePart) (l m : LinkPart) → IsSame (sending s l) (sending t m) → IsSame (pushing w h s l) (pushing w h t m)
same_within w h s t l m part = record { same = λ a. part.same (record a { window = w; has_lane = h }) }

offered_within : (p w : ℕ) (h : Bool) (s t : SourcePart) (l m : LinkPart) → IsOffered p (sending s l) (sending t m) → IsOffered p (pushing w h s l) (pushing w h t m)
offered_within p w h s t l m part = record { offered = λ a. part.offered (record a { window = w; has_lane = h }) }

done_within : (w : ℕ) (h : Bool) (s t : SourcePart) (l m : LinkPart) → IsDone (sending s l) (sending t m) → IsDone (pushing w h s l) (pushing w h t m)
done_within w h s t l m part = record { changed = λ a. part.changed (record a { window = w; has_lane = h }); no_page = λ a. part.no_page (record a { window = w; has_lane = h }) }

pub turn_within : (turn : TurnReport) (e : Event) (w : ℕ) (h : Bool) (s t : SourcePart) (l m : LinkPart) → IsTurn turn e (sending s l) (sending t m) → IsTurn turn e (pushing w h s l) (pushing w h t m)
turn_within Did e w h s t l m is = (made_within e w h s t l m is.0, done_within w h s t l m is.1)
turn_within (Offered page) e w h s t l m is = (made_within e w h s t l m is.0, offered_within page w h s t l m is.1)
turn_within Served e w h s t l m is = (made_within e w h s t l m is.0, done_within w h s t l m is.1)
turn_within Idle e w h s t l m is = (made_within e w h s t l m is.0, same_within w h s t l m is.1)
turn_within (Stops fault) e w h s t l m is = same_within w h s t l m is
