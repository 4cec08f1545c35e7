-- What the result of an event says about a packet that is offered.
use Rattle.std.specs.Prelude.{◌≡◌, ℕ, ◌⊎◌, Bool, true, false, List, [], ◌∷◌, ◌++◌}
use Rattle.page_stream.specs.declared.Packet.{Packet}
use Rattle.page_stream.specs.declared.Packet.TheVariants.{State as StatePacket, Page as PagePacket, Want as WantPacket, All as AllPacket}
use Rattle.link_book.specs.LinkPart.{LinkPart}
use Rattle.book_events.specs.declared.effect.Effect.{Effect}
use Rattle.book_events.specs.declared.effect.Effect.TheVariants.{Nothing, Made, Offered}

-- a packet of this page
pub record IsOfPage (page : ℕ) (packet : Packet) : Type 0 where
  pub number : ℕ
  pub contents : List ℕ
  pub packet_is : packet ≡ PagePacket number page contents

abbrev pub is_page : Packet → Bool
is_page (StatePacket number released) = false
is_page (PagePacket number page contents) = true
is_page (WantPacket number page) = false
is_page (AllPacket number) = false

abbrev pub Carries : Effect → Packet → Type 0
Carries Nothing packet = ⊥
Carries Made packet = is_page packet ≡ false
Carries (Offered page) packet = IsOfPage page packet

-- a line has gained a packet, after the others or before them
abbrev pub HasMore : Packet → List Packet → List Packet → Type 0
HasMore packet old new = (new ≡ old ++ packet ∷ []) ⊎ (new ≡ packet ∷ old)

-- one of the lines to the target has gained the packet that the result names, and the other has gained none
pub record IsOffer (effect : Effect) (old new : LinkPart) : Type 0 where
  pub packet : Packet
  pub carries : Carries effect packet
  pub line : (HasMore packet old.down new.down × (new.lane ≡ old.lane)) ⊎ ((new.down ≡ old.down) × HasMore packet old.lane new.lane)
