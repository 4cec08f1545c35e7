use Rattle.std.proofs.Common.{◌≡◌, ℕ, ◌<◌, ◌||◌, ◌++◌, ◌∷◌, [], true, Some, List, length, refl, sym, ap, ◌∙◌, subst, arith}
use Rattle.std.specs.Prelude.{is_some}
use Rattle.std.proofs.lemmas.Grind.{common_steps}
use Rattle.migration_types.specs.declared.records.PagerRec.{PagerRec}
use Rattle.migration_types.specs.declared.records.PagerRec.TheVariants.{Want, All}
use Rattle.page_store.specs.Tables.{values, with_value}
use Rattle.target_side.specs.PagerPart.{pager_tick, is_released, oldest}
use Rattle.target_side.specs.PagerLists.{PagerLists, part_of}
use Rattle.target_side.proofs.PagerKeeping.{oldest_fits}
use Rattle.target_side.proofs.Sounds.{sound_with, kept_one}
use Rattle.target_side.proofs.Ticking.{ticks_done, ticks_wanting, said_all, said_want, kept_wants, sound_up, unsettled, sound_wanting}
use Rattle.target_side.proofs.pager.PagerBook.tick.Goals as goal

pub invariant_of-self-then-absent-pages : goal.invariant_of-self-then-absent-pages
invariant_of-self-then-absent-pages c =
    let there : is_some c.self.inside.released ≡ true = grind (arith, common_steps) in
    let up = sound_up c.first_unmarked-absent.result c.self.invariant (omega (arith, c.first_unmarked-absent.ensures.ends, c.pages-pages.ensures)) c.first_unmarked-absent.ensures.marked in
    sound_with _ _ _ _ up
    (kept_one _ All c.append-number.new.log.items there (c.append-number.ensures.items ∙ ap (λ l. l ++ All ∷ []) c.make_room.ensures.items) (λ p. refl) c.in_ok-make_room.ensures.fits up.kept)

pub returns-then-absent-pages-clause-ok : goal.returns-then-absent-pages-clause-ok
returns-then-absent-pages-clause-ok c =
    let there : is_some c.self.inside.released ≡ true = grind (arith, common_steps) in
    let up = sound_up c.first_unmarked-absent.result c.self.invariant (omega (arith, c.first_unmarked-absent.ensures.ends, c.pages-pages.ensures)) c.first_unmarked-absent.ensures.marked in
    let all : (p : ℕ) → p < c.self.inside.geometry.pages → (is_released c.self.inside.released p || (values c.self.inside.placed p || values c.self.inside.settled p)) ≡ true =
    λ p lt. up.passed p (omega (arith, c.if-absent-pages.true, c.pages-pages.ensures)) in
    said_all _ c.append-number.new.log.items c.append-number.result
    (c.append-number.ensures.items ∙ ap (λ l. l ++ All ∷ []) c.make_room.ensures.items)
    (c.append-number.ensures.number ∙ ap length c.make_room.ensures.items)
    ∙ sym (ticks_done c.self.inside.released _ there all)
    ∙ ap (λ (v : PagerLists). pager_tick (part_of v)) c.self.view_is

-- what the page and its record are
page_fits : (c : goal.After-want_page-number) → c.oldest_or-page.result < c.self.inside.geometry.pages
page_fits c =
    let below : c.first_unmarked-absent.result < c.self.inside.geometry.pages = omega (arith, c.first_unmarked-absent.ensures.ends, c.pages-pages.ensures, c.if-absent-pages.false) in
    subst (λ (n : ℕ). n < c.self.inside.geometry.pages) (sym (c.oldest_or-page.ensures ∙ ap (oldest c.self.inside.waiting) c.new.ensures))
    (oldest_fits c.self.inside.geometry _ c.self.inside.waiting c.first_unmarked-absent.result c.self.invariant.kept.tied.waiting below)

log_is : (c : goal.After-want_page-number) → c.want_page-number.new.log.items ≡ c.self.inside.log.items ++ Want c.oldest_or-page.result ∷ []
log_is c = c.want_page-number.ensures.items ∙ ap (λ l. l ++ Want c.oldest_or-page.result ∷ []) c.make_room.ensures.items

wants_are : (c : goal.After-want_page-number) → values c.want_page-number.new.wants ≡ with_value c.oldest_or-page.result (Some (length c.self.inside.log.items)) (values c.self.inside.wants)
wants_are c = c.want_page-number.ensures.wants.values_are ∙ ap (λ (l : List PagerRec). with_value c.oldest_or-page.result (Some (length l)) (values c.self.inside.wants)) c.make_room.ensures.items

pub invariant_of-self-2 : goal.invariant_of-self-2
invariant_of-self-2 c =
    let there : is_some c.self.inside.released ≡ true = grind (arith, common_steps) in
    let up = sound_up c.first_unmarked-absent.result c.self.invariant (omega (arith, c.first_unmarked-absent.ensures.ends, c.pages-pages.ensures)) c.first_unmarked-absent.ensures.marked in
    sound_wanting _ _ _ _ up c.want_page-number.ensures.wants.pages
    (kept_wants _ c.oldest_or-page.result c.want_page-number.new.log.items (values c.want_page-number.new.wants) there (page_fits c) c.in_ok-make_room.ensures.fits (log_is c) (wants_are c) up.kept)

pub returns-clause-ok : goal.returns-clause-ok
returns-clause-ok c =
    let there : is_some c.self.inside.released ≡ true = grind (arith, common_steps) in
    let below : c.first_unmarked-absent.result < c.self.inside.geometry.pages = omega (arith, c.first_unmarked-absent.ensures.ends, c.pages-pages.ensures, c.if-absent-pages.false) in
    let up = sound_up c.first_unmarked-absent.result c.self.invariant (omega (arith, c.first_unmarked-absent.ensures.ends, c.pages-pages.ensures)) c.first_unmarked-absent.ensures.marked in
    let here = unsettled c.first_unmarked-absent.result c.self.invariant (c.first_unmarked-absent.ensures.unmarked (omega (arith, c.first_unmarked-absent.ensures.ends, c.if-absent-pages.false))) in
    said_want _ c.want_page-number.new.log.items (values c.want_page-number.new.wants) c.want_page-number.result c.oldest_or-page.result c.first_unmarked-absent.result
    (log_is c) (wants_are c)
    (c.want_page-number.ensures.number ∙ ap length c.make_room.ensures.items)
    (c.oldest_or-page.ensures ∙ ap (oldest c.self.inside.waiting) c.new.ensures)
    ∙ sym (ticks_wanting c.self.inside.released _ c.first_unmarked-absent.result there below up.passed here)
    ∙ ap (λ (v : PagerLists). pager_tick (part_of v)) c.self.view_is
