-- What the target's lock protects.
use Rattle.std.specs.Prelude.{◌≡◌, ℕ, Option, Some, None}
use Rattle.active_push.specs.Books.{SourceKept, part_of as source_of}
use Rattle.target_side.specs.Guests.{part_of as guest_of}
use Rattle.link_book.specs.LinkPart.{LinkPart}
use Rattle.target_side.specs.Kept.{part_of as target_of}
use Rattle.book_events.specs.Parts.{IsHalt}
use Rattle.host_threads.specs.declared.side.TargetSide.{TargetSide}
use Rattle.host_threads.specs.declared.side.TargetSide.TheVariants.{Guest, Moving, Target}

-- A halt makes the source's book and the target's from the guest's, and offers the state. If the guest's book is not
-- there, nothing changes.
abbrev pub Halts : ℕ → TargetSide → LinkPart → Option SourceKept → TargetSide → LinkPart → Type 0
Halts pivots (Guest b) link (Some s) (Target t) link' = IsHalt pivots (guest_of b) link link' (source_of s) (target_of t)
Halts pivots (Guest b) link made after link' = ⊥
Halts pivots Moving link made after link' = (made ≡ None) × (after ≡ Moving) × (link' ≡ link)
Halts pivots (Target t) link made after link' = (made ≡ None) × (after ≡ Target t) × (link' ≡ link)
