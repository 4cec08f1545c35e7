use Rattle.std.proofs.Common.{◌≡◌, ◌++◌, ◌∷◌, [], true, ap, ◌∙◌}
use Rattle.std.specs.Prelude.{is_some}
use Rattle.migration_types.specs.declared.records.PagerRec.TheVariants.{Skip}
use Rattle.target_side.specs.PagerLists.{PagerLists}
use Rattle.target_side.proofs.Sounds.{sound_with}
use Rattle.target_side.proofs.Paging.{kept_skipped}
use Rattle.target_side.proofs.pager.PagerBook.skip_page.Goals as goal

pub invariant_of-self-2 : goal.invariant_of-self-2
invariant_of-self-2 c =
    let there : is_some c.self.inside.released ≡ true = ap (λ (v : PagerLists). is_some v.released) c.self.view_is ∙ c.requires.ready in
    sound_with _ _ _ _ c.self.invariant
    (kept_skipped _ c.in-Some.incoming c.pop_front.new.self.items c.append.new.log.items there c.in-Some.ensures.items (c.append.ensures.items ∙ ap (λ l. l ++ Skip c.in-Some.incoming.got ∷ []) c.make_room.ensures.items) c.in_ok-make_room.ensures.fits c.self.invariant.kept)
