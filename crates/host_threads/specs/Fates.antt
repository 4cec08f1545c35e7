-- The delivery outcomes of the packets of the lines, in order.
use Rattle.std.specs.Prelude.{◌≡◌, ℕ, zero, suc, ◌+◌, ◌<◌, List, [], drop, Option, Some, None, slice_get, slice_index_or, Bool, MatchBool}
use Rattle.migration_events.specs.declared.events.Fate.{Fate}
use Rattle.migration_events.specs.declared.events.Fate.TheVariants.{Deliver}
use Rattle.migration_events.specs.declared.events.Direction.{Direction}
use Rattle.migration_events.specs.declared.events.Direction.TheVariants.{Down as Downward, Up as Upward, Lane as OverLane}
use Rattle.page_stream.specs.declared.Packet.{Packet}
use Rattle.link_book.specs.LinkPart.{LinkPart, line_of, turned}

-- the delivery outcome of the next packet, if these are left; after the last one, each packet is delivered
abbrev pub next_fate : List Fate → Fate
next_fate fates = slice_index_or fates 0 Deliver

-- the delivery outcomes over a lane, if there is one
abbrev pub fates_over : Option (List Fate) → List Fate
fates_over None = []
fates_over (Some fates) = fates

-- the link's book, and the delivery outcomes that are left for a line
pub record Line : Type 0 where
  pub link : LinkPart
  pub fates : List Fate

abbrev pub line : LinkPart → List Fate → Line
line link fates = record { link = link; fates = fates }

-- the packet at the head of the line gets the next delivery outcome, which is used up
pub record Meets (direction : Direction) (old new : Line) : Type 0 where
  pub packet : Packet
  pub head : slice_get (line_of direction old.link) 0 ≡ Some packet
  pub link : new.link ≡ turned direction (next_fate old.fates) old.link
  pub fates : new.fates ≡ drop 1 old.fates

-- this many packets of the line get their delivery outcomes, one after another
abbrev pub HaveMet : Direction → ℕ → Line → Line → Type 0
HaveMet direction zero old new = new ≡ old
HaveMet direction (suc n) old new = (mid : Line) × HaveMet direction n old mid × Meets direction mid new

-- the link's book, and the delivery outcomes that are left for each line
pub record LineFates : Type 0 where
  pub link : LinkPart
  pub down : List Fate
  pub up : List Fate
  pub lane : List Fate

-- this many packets of one line get their delivery outcomes, and those of the other lines stay
abbrev pub HaveTurned : Direction → ℕ → LineFates → LineFates → Type 0
HaveTurned Downward count old new = HaveMet Downward count (line old.link old.down) (line new.link new.down) × (new.up ≡ old.up) × (new.lane ≡ old.lane)
HaveTurned Upward count old new = HaveMet Upward count (line old.link old.up) (line new.link new.up) × (new.down ≡ old.down) × (new.lane ≡ old.lane)
HaveTurned OverLane count old new = HaveMet OverLane count (line old.link old.lane) (line new.link new.lane) × (new.down ≡ old.down) × (new.up ≡ old.up)
