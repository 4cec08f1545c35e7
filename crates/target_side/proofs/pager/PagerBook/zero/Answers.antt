use Rattle.std.proofs.Common.{◌≡◌, ◌+◌, ◌++◌, ◌∷◌, [], true, List, length, ap, ◌∙◌, arith}
use Rattle.std.specs.Prelude.{is_some}
use Rattle.std.proofs.lemmas.Grind.{common_steps}
use Rattle.migration_types.specs.declared.records.PagerRec.{PagerRec}
use Rattle.migration_types.specs.declared.records.PagerRec.TheVariants.{Fault, Zero}
use Rattle.page_store.specs.Tables.{values}
use Rattle.target_side.specs.Kept.{part_of as target_of}
use Rattle.target_side.specs.TargetPart.{with_zeroed}
use Rattle.target_side.specs.PagerPart.{zeroes}
use Rattle.target_side.specs.PagerLists.{PagerLists, part_of}
use Rattle.target_side.specs.inner.Steps.{learned}
use Rattle.target_side.proofs.Paging.{sound_placed, kept_zeroed, zeroed_part}
use Rattle.target_side.proofs.pager.PagerBook.zero.Goals as goal

log_is : (c : goal.After-set) → c.append-2.new.log.items ≡ (c.self.inside.log.items ++ Fault c.args.missing.number ∷ []) ++ Zero c.args.missing.page ∷ []
log_is c =
    c.append-2.ensures.items
    ∙ ap (λ l. l ++ Zero c.args.missing.page ∷ []) c.append.ensures.items
    ∙ ap (λ (l : List PagerRec). (l ++ Fault c.args.missing.number ∷ []) ++ Zero c.args.missing.page ∷ []) c.make_room.ensures.items

pub invariant_of-self-2 : goal.invariant_of-self-2
invariant_of-self-2 c =
    let there : is_some c.self.inside.released ≡ true = ap (λ (v : PagerLists). is_some v.released) c.self.view_is ∙ c.requires.ready in
    sound_placed c.args.missing.page _ _ _ _ c.self.invariant c.set.ensures.pages c.set.ensures.values_are
    (kept_zeroed _ c.args.missing.page c.args.missing.number c.append-2.new.log.items (values c.set.new.self) there (log_is c) c.set.ensures.values_are c.in_ok-make_room.ensures.fits c.self.invariant.kept)

pub returns-clause-ok : goal.returns-clause-ok
returns-clause-ok c =
    let at : c.len.result + 1 ≡ length c.self.inside.log.items + 1 = omega (arith, ap length c.make_room.ensures.items) in
    let is : target_of c.zero.new.self ≡ with_zeroed c.args.missing.page (c.len.result + 1) (target_of c.args.target.now) = grind (arith, common_steps) in
    zeroed_part _ (target_of c.args.target.now) (target_of c.zero.new.self) c.args.missing.page c.args.missing.number (c.len.result + 1) c.append-2.new.log.items (values c.set.new.self) (log_is c) c.set.ensures.values_are is at
    ∙ ap (λ (v : PagerLists). zeroes c.args.missing.page (learned c.args.missing.number (part_of v)) (target_of c.args.target.now)) c.self.view_is
