-- The parts of a call on both books.
use Rattle.std.specs.Prelude.{ℕ, List, [], ◌∷◌, ◌++◌, if◌then◌else◌}
use Rattle.migration_types.specs.declared.records.PagerRec.TheVariants.{Fault, Skip}
use Rattle.fault_queue.specs.Waiting.{is_asked}
use Rattle.target_side.specs.TargetPart.{TargetPart}
use Rattle.target_side.specs.declared.incoming.Incoming.{Incoming}
use Rattle.target_side.specs.PagerPart.{PagerPart, Paged, fault_join, fault_new, places}

-- the pager has learned of the miss of this number
abbrev pub learned : ℕ → PagerPart → PagerPart
learned miss b = record b { log = b.log ++ Fault miss ∷ [] }

-- a page that is neither placed nor released is asked for
abbrev pub asks : ℕ → ℕ → PagerPart → PagerPart
asks p v b = if is_asked p b.waiting then fault_join p v (b.wants p) b else fault_new p v b

-- the oldest page that has come is dropped, or placed
abbrev pub skips : List Incoming → PagerPart → PagerPart
skips [] b = b
skips (x ∷ rest) b = record b { inbox = rest; log = b.log ++ Skip x.got ∷ [] }

abbrev pub places_next : List Incoming → PagerPart → TargetPart → Paged
places_next [] b t = record { pager = b; target = t; woken = [] }
places_next (x ∷ rest) b t = places x (record b { inbox = rest }) t
