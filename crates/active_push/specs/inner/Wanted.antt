-- The cases of a push and of a want.
use Rattle.std.specs.Prelude.{◌≡◌, ℕ, false, Some}
use Rattle.std.specs.List.{range_with_len}
use Rattle.bubbling.specs.Bubbling.{in_turn}
use Rattle.active_push.specs.SourcePart.{SourcePart, Offer, unsent, nearest, with_pivot, asks, sends, repeats}

-- there is a page to push, and the pager does not have all pages
pub record HasNext (b : SourcePart) : Type 0 where
  pub is_not_done : b.is_done ≡ false
  pub page : ℕ
  pub is_next : nearest (in_turn b.ring) (unsent b) (range_with_len 0 b.geometry.pages) ≡ Some page

-- a want of an owed page, which becomes a pivot
abbrev pub wanted : ℕ → ℕ → SourcePart → SourcePart
wanted up page b = record (asks up b) { ring = with_pivot page b.ring }

-- the wanted page was not sent before
abbrev pub wanted_first : ℕ → ℕ → SourcePart → Offer
wanted_first up page b = sends page (wanted up page b)

-- the wanted page was sent by the record of this number
abbrev pub wanted_again : ℕ → ℕ → ℕ → SourcePart → Offer
wanted_again up send page b = repeats send page (wanted up page b)
