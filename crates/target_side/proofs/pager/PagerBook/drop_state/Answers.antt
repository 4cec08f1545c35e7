use Rattle.std.proofs.Common.{◌≡◌, ◌+◌, ◌≤◌, ◌++◌, ◌∷◌, [], true, List, length, ap, ◌∙◌}
use Rattle.std.specs.Prelude.{is_some}
use Rattle.migration_types.specs.Limits.{most_records}
use Rattle.migration_types.specs.declared.records.PagerRec.{PagerRec}
use Rattle.migration_types.specs.declared.records.PagerRec.TheVariants.{Skip}
use Rattle.target_side.specs.PagerLists.{PagerLists}
use Rattle.target_side.proofs.Sounds.{sound_with, dropped_state}
use Rattle.target_side.proofs.pager.PagerBook.drop_state.Goals as goal

pub invariant_of-self-2 : goal.invariant_of-self-2
invariant_of-self-2 c =
    let there : is_some c.self.inside.released ≡ true = ap (λ (v : PagerLists). is_some v.released) c.self.view_is ∙ c.requires.ready in
    let room : length c.self.inside.log.items + 2 ≤ most_records = c.in_ok-make_room.ensures.fits in
    sound_with _ _ _ _ c.self.invariant
    (dropped_state _ c.args.receipt c.append-got.result c.append.new.log.items there c.requires.taking
    (c.append.ensures.items
    ∙ ap (λ l. l ++ Skip c.append-got.result ∷ []) c.append-got.ensures.items
    ∙ ap (λ (l : List PagerRec). (l ++ c.args.receipt ∷ []) ++ Skip c.append-got.result ∷ []) c.make_room.ensures.items)
    room c.self.invariant.kept)
