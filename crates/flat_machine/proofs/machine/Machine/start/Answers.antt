use Rattle.std.proofs.Common.{ap, ◌∙◌}
use Rattle.migration_types.specs.Memory.{initial}
use Rattle.page_store.proofs.InitPages.{init_pages}
use Rattle.flat_machine.proofs.machine.Machine.start.Goals as goal

pub from_init-requires : goal.from_init-requires
from_init-requires c = rw (c.init.ensures, c.geometry.ensures) (init_pages _ _ c.keeps_limits.ensures.init.each)

pub returns : goal.returns
returns c = record {
  sized = record { frames = c.in_ok-frames.ensures.geometry ∙ c.geometry.ensures; ledger = c.in_ok-ledger.ensures.geometry ∙ c.geometry-2.ensures };
  memory = c.in_ok-frames.ensures.memory ∙ ap initial c.init.ensures;
  ledger = c.in_ok-ledger.ensures.set;
}
