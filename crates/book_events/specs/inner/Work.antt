-- When there is something to do on the pager's and the target's books.
use Rattle.std.specs.Prelude.{◌≡◌, ◌<◌, ◌⊎◌, true, false, length, is_some}
use Rattle.target_side.specs.TargetPart.{TargetPart}
use Rattle.target_side.specs.PagerPart.{PagerPart}

-- there is a page to cancel, or a miss that the pager may take
abbrev pub HasFault : PagerPart → TargetPart → Type 0
HasFault b t = (0 < length t.unsettled) ⊎ ((is_some b.released ≡ true) × (0 < length t.misses))

-- there is a page to cancel, or a guest that may resume, or a page that has come
abbrev pub HasDelivery : PagerPart → TargetPart → Type 0
HasDelivery b t = (0 < length t.unsettled) ⊎ ((is_some b.released ≡ true) × ((t.is_resumed ≡ false) ⊎ (0 < length b.inbox)))
