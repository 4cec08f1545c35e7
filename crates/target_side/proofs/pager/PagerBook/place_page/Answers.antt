use Rattle.std.proofs.Common.{◌≡◌, ◌++◌, ◌∷◌, [], true, length, ap, ◌∙◌, arith}
use Rattle.std.specs.Prelude.{is_some}
use Rattle.std.specs.Option.{unwrap_or}
use Rattle.std.proofs.lemmas.Grind.{common_steps}
use Rattle.migration_types.specs.declared.records.PagerRec.TheVariants.{Place}
use Rattle.page_store.specs.Tables.{values}
use Rattle.target_side.specs.Kept.{part_of as target_of}
use Rattle.target_side.specs.TargetPart.{with_placed}
use Rattle.target_side.specs.PagerLists.{PagerLists, part_of}
use Rattle.target_side.specs.inner.Steps.{places_next}
use Rattle.target_side.proofs.Paging.{sound_placed, kept_delivered, delivered_part}
use Rattle.target_side.proofs.pager.PagerBook.place_page.Goals as goal

log_is : (c : goal.After-all_of) → c.append.new.log.items ≡ c.self.inside.log.items ++ Place c.in-Some.incoming.page c.in-Some.incoming.got c.in-Some.incoming.contents ∷ []
log_is c = c.append.ensures.items ∙ ap (λ l. l ++ Place c.in-Some.incoming.page c.in-Some.incoming.got c.in-Some.incoming.contents ∷ []) c.make_room.ensures.items

pub invariant_of-self-2 : goal.invariant_of-self-2
invariant_of-self-2 c =
    let there : is_some c.self.inside.released ≡ true = ap (λ (v : PagerLists). is_some v.released) c.self.view_is ∙ c.requires.ready in
    sound_placed c.in-Some.incoming.page _ _ _ _ c.self.invariant c.set.ensures.pages c.set.ensures.values_are
    (kept_delivered _ c.in-Some.incoming c.pop_front.new.self.items c.append.new.log.items (values c.set.new.self) c.served.new.self there c.in-Some.ensures.items (log_is c) c.set.ensures.values_are c.served.ensures.others c.in_ok-make_room.ensures.fits c.self.invariant.kept)

pub returns-clause-ok : goal.returns-clause-ok
returns-clause-ok c =
    let at : c.len-number.result ≡ length c.self.inside.log.items = omega (arith, ap length c.make_room.ensures.items) in
    let raw : target_of c.place.new.self ≡ with_placed c.in-Some.incoming.page c.len-number.result c.as_slice.result.now (target_of c.args.target.now) = grind (arith, common_steps) in
    let is : target_of c.place.new.self ≡ with_placed c.in-Some.incoming.page c.len-number.result c.in-Some.incoming.contents (target_of c.args.target.now) =
    raw ∙ ap (λ xs. with_placed c.in-Some.incoming.page c.len-number.result xs (target_of c.args.target.now)) c.as_slice.ensures
    in
    let woken = c.all_of.ensures ∙ ap (λ o. unwrap_or o []) c.served.ensures.waiters in
    delivered_part _ (target_of c.args.target.now) (target_of c.place.new.self) c.in-Some.incoming c.pop_front.new.self.items c.len-number.result c.append.new.log.items (values c.set.new.self) c.served.new.self c.all_of.result
    c.in-Some.ensures.items (log_is c) c.set.ensures.values_are c.served.ensures.others woken is at
    ∙ ap (λ (v : PagerLists). places_next v.inbox (part_of v) (target_of c.args.target.now)) c.self.view_is
