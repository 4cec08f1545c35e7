-- What the calls on the books ask for, in a core that is reached.
use Rattle.migration_types.specs.Receipts.{Name}
use Rattle.migration_model.proofs.Facts.{AwayKept, DownArrived, DownFact, LaneArrived, released_of}
use Rattle.migration_model.proofs.Guests.{each_get}
use Rattle.migration_model.proofs.Lists.{each_kept}
use Rattle.migration_model.proofs.Whole.{BooksKept}
use Rattle.migration_model.specs.Books.{After, BooksAfter, Before, Books, Recording, session_after}
use Rattle.migration_model.specs.Orderly.{AreOrderly, IsOrderly}
use Rattle.migration_model.specs.Promise.{IsReached}
use Rattle.migration_model.proofs.Reached.{reached_kept}
use Rattle.migration_types.specs.Extents.{Extent}
use Rattle.migration_types.specs.Memory.{page_of}
use Rattle.migration_types.specs.PageSets.{Pages}
use Rattle.migration_types.specs.declared.records.SourceRec.TheVariants.{Send}
use Rattle.balloon_ledger.specs.Released.{pages_below}
use Rattle.page_stream.specs.declared.Packet.{Packet}
use Rattle.page_stream.specs.declared.Packet.TheVariants.{All as AllPacket, Page as PagePacket, State as StatePacket, Want as WantPacket}
use Rattle.std.proofs.Common.{List, ap, arith, length, subst, suc, sym, zero, ℕ, ◌+◌, ◌<◌, ◌∙◌, ◌≡◌}
use Rattle.std.proofs.lemmas.List.FromFn.{length-map-range_with_len}
use Rattle.std.specs.List.{AllByRecursion, range_with_len}
use Rattle.target_side.specs.PagerLists.{IsPacketOf}

-- numbers from one on are below its sum with their count
range_below : (from count bound : ℕ) → from + count ≡ bound → AllByRecursion (λ p. p < bound) (range_with_len from count)
range_below from zero bound e = tt
range_below from (suc count) bound e = (omega arith, range_below (from + 1) count bound (omega arith))

-- the pages of a set that are below a number are below it
pub below_pages : (pages : ℕ) (set : Pages) → AllByRecursion (λ p. p < pages) (pages_below pages set)
below_pages pages set = each_kept (λ p. p < pages) set (range_with_len 0 pages) (range_below 0 pages pages (omega arith))

-- what is known of a packet on its way down makes it one of the machine
packet_is_of : (o : List Name) (a : BooksAfter) → AwayKept o a → (packet : Packet) → DownFact (session_after a) (released_of a) packet → IsPacketOf a.source.geometry packet
packet_is_of o a k (StatePacket n released) fact = subst (λ rel. AllByRecursion (λ p. p < a.source.geometry.pages) rel) (sym fact.0) (below_pages a.source.geometry.pages a.source.ledger)
packet_is_of o a k (PagePacket n p content) fact =
    let is : content ≡ page_of a.source.geometry.cells a.source.memory p = (k.clean.source fact.send (Send p content) fact.sent).1 in
    (k.limits.source fact.send (Send p content) fact.sent, ap length is ∙ length-map-range_with_len (a.source.memory p) 0 a.source.geometry.cells)
packet_is_of o a k (WantPacket n p) fact = tt
packet_is_of o a k (AllPacket n) fact = tt

away_orderly : (o : List Name) (a : BooksAfter) → AwayKept o a → IsOrderly a
away_orderly o a k = record {
  arrival = λ x is. subst (λ (e : Extent). IsPacketOf e x.packet) (sym k.pager.geometry)
      (packet_is_of o a k x.packet (each_get (DownArrived (session_after a) (released_of a)) a.link.down_arrivals 0 x k.link.down.come is).1);
  over_lane = λ x is. subst (λ (e : Extent). IsPacketOf e x.packet) (sym k.pager.geometry)
      (packet_is_of o a k x.packet (each_get (LaneArrived (session_after a) (released_of a)) a.link.lane_arrivals 0 x k.link.lane.come is).1.1);
}

books_orderly : (o : List Name) (b : Books) → BooksKept o b → AreOrderly b
books_orderly o (Before h) k = tt
books_orderly o (After a) k = away_orderly o a k

pub reached_orderly : (core : Recording) → IsReached core → AreOrderly core.books
reached_orderly core k = books_orderly core.order core.books (reached_kept core k).books
