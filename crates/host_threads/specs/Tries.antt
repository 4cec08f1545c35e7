-- The events that a thread tries, one after another, on the books that it has locked, and those that it carries out.
use Rattle.std.specs.Prelude.{Bool, true, false, not, ◌&&◌, List, [], ◌∷◌}
use Rattle.migration_events.specs.declared.events.Event.{Event}
use Rattle.migration_events.specs.declared.events.Event.TheVariants.{Serve, Push, SourceTick, PagerPop, PagerFlush, PagerPull, PagerFault, PagerDeliver, PagerTick}

-- the events of the source, after the halt
abbrev pub source_tries : List Event
source_tries = Serve ∷ Push ∷ SourceTick ∷ []

-- the events of the pager on the link's book and its own
abbrev pub exchange_tries : List Event
exchange_tries = PagerPop ∷ PagerFlush ∷ PagerPull ∷ []

-- the events of the pager on its book and the target's
abbrev pub attend_tries : List Event
attend_tries = PagerFault ∷ PagerDeliver ∷ []

-- the source serves and pushes; it ticks if nothing is under way and it is not done
abbrev pub source_makes : Event → Bool → Bool → Bool
source_makes Serve is_done is_quiet = true
source_makes Push is_done is_quiet = true
source_makes SourceTick is_done is_quiet = not is_done && is_quiet
source_makes _ is_done is_quiet = false

-- on the link's book and its own, the pager takes and offers; it ticks if nothing is under way
abbrev pub exchange_makes : Event → Bool → Bool
exchange_makes PagerPop is_quiet = true
exchange_makes PagerPull is_quiet = true
exchange_makes PagerFlush is_quiet = true
exchange_makes PagerTick is_quiet = is_quiet
exchange_makes _ is_quiet = false

-- on its book and the target's, the pager delivers; it learns of misses if the state has come
abbrev pub attend_makes : Event → Bool → Bool
attend_makes PagerDeliver is_ready = true
attend_makes PagerFault is_ready = is_ready
attend_makes _ is_ready = false
