use Rattle.std.proofs.Common.{refl, ap, cond, ◌∙◌}
use Rattle.migration_types.specs.Memory.{with_cell}
use Rattle.page_store.specs.Frames.{memory_of}
use Rattle.merge_runs.proofs.target.Target.write.Goals as goal

pub returns : goal.returns
returns c =
    let memory = memory_of c.args.self.now.frames in
    record {
      geometry = c.write_if.ensures.geometry;
      resident_pages = refl;
      placed_pages = refl;
      touched_pages = c.set.ensures.pages;
      memory_is = c.write_if.ensures.memory_is ∙ ap (λ b. cond b (with_cell c.args.page c.args.cell c.args.value memory) memory) c.at-resident.ensures;
      resident_is = refl;
      placed_is = refl;
      touched_is = c.set.ensures.values_are;
    }
