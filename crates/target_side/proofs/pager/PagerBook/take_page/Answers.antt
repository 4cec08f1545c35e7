use Rattle.std.proofs.Common.{◌≡◌, ◌+◌, ◌<◌, ◌≤◌, ◌++◌, ◌∷◌, [], true, length, sym, ap, ◌∙◌, subst}
use Rattle.std.specs.Prelude.{is_some}
use Rattle.migration_types.specs.Extents.{Extent}
use Rattle.migration_types.specs.Limits.{most_records}
use Rattle.target_side.specs.PagerLists.{PagerLists}
use Rattle.target_side.proofs.Sounds.{sound_with, taken_page}
use Rattle.target_side.proofs.pager.PagerBook.take_page.Goals as goal

pub invariant_of-self-2 : goal.invariant_of-self-2
invariant_of-self-2 c =
    let there : is_some c.self.inside.released ≡ true = ap (λ (v : PagerLists). is_some v.released) c.self.view_is ∙ c.requires.ready in
    let room : length c.self.inside.log.items + 1 ≤ most_records = c.in_ok-make_room.ensures.fits in
    let same : c.args.self.now.geometry ≡ c.self.inside.geometry = sym (ap (λ (v : PagerLists). v.geometry) c.self.view_is) in
    let fits : c.args.page < c.self.inside.geometry.pages = subst (λ (e : Extent). c.args.page < e.pages) same c.requires.page in
    let cells : length c.in-Ok.contents ≡ c.self.inside.geometry.cells = ap length c.in-Ok.ensures ∙ c.requires.cells ∙ ap (λ (e : Extent). e.cells) same in
    sound_with _ _ _ _ c.self.invariant
    (taken_page _ c.args.receipt c.append-got.result c.args.page c.in-Ok.contents c.append-got.new.log.items c.push_back_reserved.new.self.items there c.requires.taking
    (c.append-got.ensures.items ∙ ap (λ l. l ++ c.args.receipt ∷ []) c.make_room.ensures.items)
    (c.append-got.ensures.number ∙ ap length c.make_room.ensures.items)
    (c.push_back_reserved.ensures.items ∙ ap (λ xs. xs ++ (record { got = c.append-got.result; page = c.args.page; contents = c.in-Ok.contents }) ∷ []) c.reserve.ensures.items)
    fits cells room c.self.invariant.kept)
