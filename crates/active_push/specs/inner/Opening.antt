-- The parts that a source's book begins with.
use Rattle.std.specs.Prelude.{◌≡◌, ℕ, [], ◌∷◌, None}
use Rattle.migration_types.specs.declared.records.SourceRec.TheVariants.{Halted, State}
use Rattle.migration_types.specs.Extents.{Extent}
use Rattle.page_store.specs.Tables.{values, pages_of, all_at}
use Rattle.balloon_ledger.specs.Released.{Marks, released, pages_below}
use Rattle.bubbling.specs.Bubbling.{IsStart, rest_of}
use Rattle.active_push.specs.declared.book.OpeningParts.{OpeningParts}

pub record IsOpening (e : Extent) (ledger : Marks) (halt most : ℕ) (o : OpeningParts) : Type 0 where
  pub log : o.log.items ≡ Halted halt ∷ State ∷ []
  pub table : pages_of o.sent ≡ e.pages
  pub sent : values o.sent ≡ all_at None
  pub bubbles : IsStart e most (rest_of e.pages (released ledger)) o.bubbles
  pub released_are : o.released ≡ pages_below e.pages (released ledger)
  pub packet_is : o.packet ≡ pages_below e.pages (released ledger)
