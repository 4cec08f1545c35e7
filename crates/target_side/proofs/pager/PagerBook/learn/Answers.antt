use Rattle.std.proofs.Common.{◌≡◌, ◌++◌, ◌∷◌, [], true, refl, ap, ◌∙◌}
use Rattle.std.specs.Prelude.{is_some}
use Rattle.migration_types.specs.declared.records.PagerRec.TheVariants.{Fault}
use Rattle.target_side.specs.PagerLists.{PagerLists}
use Rattle.target_side.proofs.Sounds.{sound_with, kept_one}
use Rattle.target_side.proofs.pager.PagerBook.learn.Goals as goal

pub invariant_of-self-2 : goal.invariant_of-self-2
invariant_of-self-2 c =
    let there : is_some c.self.inside.released ≡ true = ap (λ (v : PagerLists). is_some v.released) c.self.view_is ∙ c.requires in
    sound_with _ _ _ _ c.self.invariant
    (kept_one _ (Fault c.args.miss) c.append.new.log.items there (c.append.ensures.items ∙ ap (λ l. l ++ Fault c.args.miss ∷ []) c.make_room.ensures.items) (λ p. refl) c.in_ok-make_room.ensures.fits c.self.invariant.kept)
