-- The events of the threads on the books that they have locked.
use Rattle.std.specs.Prelude.{◌≡◌, true, false, is_some}
use Rattle.migration_events.specs.declared.events.Event.{Event}
use Rattle.guest_script.specs.declared.script.Scenario.{Scenario}
use Rattle.active_push.specs.Books.{SourceKept, part_of as source_of}
use Rattle.link_book.specs.Links.{Linked, is_quiet}
use Rattle.target_side.specs.PagerLists.{PagerLists, part_of as pager_of}
use Rattle.target_side.specs.Kept.{Kept, part_of as target_of}
use Rattle.book_events.specs.Parts.{pushing, sending, receiving, placing}
use Rattle.host_threads.specs.declared.turns.TurnReport.{TurnReport}
use Rattle.host_threads.specs.Tries.{source_makes, exchange_makes, attend_makes}
use Rattle.host_threads.specs.Turns.{IsTurn, IsUntried}

-- an event on the source's and the link's books, which the source carries out or does not try
abbrev pub Acts : Scenario → Event → TurnReport → SourceKept × Linked → SourceKept × Linked → Type 0
Acts script event turn (source, link) (source', link') =
    (source_makes event source.is_done (is_quiet link.part) ≡ true → IsTurn turn event (pushing script.window (is_some script.lane) (source_of source) link.part) (pushing script.window (is_some script.lane) (source_of source') link'.part))
    × (source_makes event source.is_done (is_quiet link.part) ≡ false → IsUntried turn (sending (source_of source) link.part) (sending (source_of source') link'.part))

-- an event on the link's and the pager's books, which the pager carries out or does not try
abbrev pub Exchanges : Event → TurnReport → Linked × PagerLists → Linked × PagerLists → Type 0
Exchanges event turn (link, pager) (link', pager') =
    (exchange_makes event (is_quiet link.part) ≡ true → IsTurn turn event (receiving link.part (pager_of pager)) (receiving link'.part (pager_of pager')))
    × (exchange_makes event (is_quiet link.part) ≡ false → IsUntried turn (receiving link.part (pager_of pager)) (receiving link'.part (pager_of pager')))

-- an event on the pager's and the target's books, which the pager carries out or does not try
abbrev pub Attends : Event → TurnReport → PagerLists × Kept → PagerLists × Kept → Type 0
Attends event turn (pager, target) (pager', target') =
    (attend_makes event (is_some pager.released) ≡ true → IsTurn turn event (placing (pager_of pager) (target_of target)) (placing (pager_of pager') (target_of target')))
    × (attend_makes event (is_some pager.released) ≡ false → IsUntried turn (placing (pager_of pager) (target_of target)) (placing (pager_of pager') (target_of target')))
