-- Packets that fit a machine.
use Rattle.std.proofs.Common.{◌≡◌, ℕ, ◌+◌, ◌<◌, Bool, true, false, List, [], ◌∷◌}
use Rattle.std.specs.Prelude.{MatchBool}
use Rattle.std.specs.List.{AllByRecursion}
use Rattle.migration_types.specs.Extents.{Extent}
use Rattle.page_stream.specs.declared.Packet.{Packet}
use Rattle.page_stream.specs.declared.Packet.TheVariants.{State, Page, Want, All}
use Rattle.page_stream.specs.Bytes.{Rises, Fits}
use Rattle.target_side.specs.PagerLists.{IsPacketOf}

below : (from limit : ℕ) (pages : List ℕ) → Rises from limit pages → AllByRecursion (λ p. p < limit) pages
below from limit [] rises = tt
below from limit (page ∷ pages) rises = (rises.1, below (page + 1) limit pages rises.2)

pub if_true : {A : Type 0} (B : Type 0) (b : Bool) → b ≡ true → MatchBool b A B → A
if_true B true e m = m
if_true B false e m = absurd (cc)

pub packet_of : (e : Extent) (p : Packet) → Fits e p → IsPacketOf e p
packet_of e (State number released) fits = below 0 e.pages released fits.fields
packet_of e (Page number page contents) fits = (fits.fields.0, fits.fields.1.count)
packet_of e (Want number page) fits = tt
packet_of e (All number) fits = tt
