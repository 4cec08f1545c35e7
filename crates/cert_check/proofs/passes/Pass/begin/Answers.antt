use Rattle.std.proofs.Common.{refl, ap, ◌∙◌}
use Rattle.migration_types.specs.Extents.{Extent}
use Rattle.cert_check.proofs.passes.Pass.begin.Goals as goal

pub returns : goal.returns
returns c = (record { halted = refl; resumed = refl }, record { pages_are = c.in_ok-sent.ensures.pages ∙ c.pages.ensures ∙ ap (λ (g : Extent). g.pages) c.geometry.ensures; values_are = c.in_ok-sent.ensures.values })
