-- Which offers are told of so.
use Rattle.std.proofs.Common.{◌≡◌, Bool, true, false, inl, inr, refl, ap}
use Rattle.std.specs.Prelude.{if◌then◌else◌}
use Rattle.page_stream.specs.declared.Packet.{Packet}
use Rattle.link_book.specs.LinkPart.{LinkPart, with_back, with_front, with_pushed}
use Rattle.book_events.specs.inner.Offers.{Carries, IsOffer}
use Rattle.book_events.specs.declared.effect.Effect.{Effect}

pub down_is_offer : (effect : Effect) (p : Packet) (front : Bool) (l m : LinkPart) → Carries effect p → m ≡ (if front then with_front p l else with_back p l) → IsOffer effect l m
down_is_offer effect p true l m carries is = record { packet = p; carries = carries; line = inl (inr (ap (λ (n : LinkPart). n.down) is), ap (λ (n : LinkPart). n.lane) is) }
down_is_offer effect p false l m carries is = record { packet = p; carries = carries; line = inl (inl (ap (λ (n : LinkPart). n.down) is), ap (λ (n : LinkPart). n.lane) is) }

pub pushed_is_offer : (effect : Effect) (p : Packet) (over_lane : Bool) (l m : LinkPart) → Carries effect p → m ≡ with_pushed over_lane p l → IsOffer effect l m
pushed_is_offer effect p true l m carries is = record { packet = p; carries = carries; line = inr (ap (λ (n : LinkPart). n.down) is, inl (ap (λ (n : LinkPart). n.lane) is)) }
pushed_is_offer effect p false l m carries is = record { packet = p; carries = carries; line = inl (inl (ap (λ (n : LinkPart). n.down) is), ap (λ (n : LinkPart). n.lane) is) }
