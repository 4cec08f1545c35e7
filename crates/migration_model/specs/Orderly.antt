-- What the calls on the books require, which a reached core always has.
use Rattle.std.specs.Prelude.{◌≡◌, Some, slice_get}
use Rattle.link_book.specs.declared.Arrival.{Arrival}
use Rattle.target_side.specs.PagerLists.{IsPacketOf}
use Rattle.migration_model.specs.Books.{BooksAfter, Books, Before, After}

-- from the halt on, the packets that the pager takes next, from the link and from the lane, are packets of its machine
pub record IsOrderly (a : BooksAfter) : Type 0 where
  pub arrival : (x : Arrival) → slice_get a.link.down_arrivals 0 ≡ Some x → IsPacketOf a.pager.geometry x.packet
  pub over_lane : (x : Arrival) → slice_get a.link.lane_arrivals 0 ≡ Some x → IsPacketOf a.pager.geometry x.packet

abbrev pub AreOrderly : Books → Type 0
AreOrderly (Before h) = Unit {0}
AreOrderly (After a) = IsOrderly a
