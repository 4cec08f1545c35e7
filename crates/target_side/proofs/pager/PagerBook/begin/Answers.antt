use Rattle.std.proofs.Common.{◌≡◌, ℕ, ◌<◌, ◌||◌, ◌++◌, ◌∷◌, [], false, List, sym, ap, ◌∙◌, subst}
use Rattle.std.specs.Prelude.{is_some}
use Rattle.std.specs.List.{AllByRecursion}
use Rattle.migration_types.specs.declared.records.PagerRec.{PagerRec}
use Rattle.migration_types.specs.declared.records.PagerRec.TheVariants.{Got, Ready}
use Rattle.page_store.specs.Tables.{values}
use Rattle.target_side.specs.PagerPart.{is_listed}
use Rattle.target_side.specs.PagerLists.{PagerLists}
use Rattle.target_side.proofs.Listed.{marked_alone}
use Rattle.target_side.proofs.Sounds.{begun_first, unmarked, still_settled}
use Rattle.target_side.proofs.pager.PagerBook.begin.Goals as goal

pub mark_all-requires : goal.mark_all-requires
mark_all-requires c =
    rw c.as_slice.ensures (subst (λ (n : ℕ). AllByRecursion (λ p. p < n) c.args.released.now)
    (sym (ap (λ (v : PagerLists). v.geometry.pages) c.self.view_is) ∙ sym c.self.invariant.marked_pages)
    c.requires.pages)

pub invariant_of-self-2 : goal.invariant_of-self-2
invariant_of-self-2 c =
    let away : is_some c.self.inside.released ≡ false = ap (λ (v : PagerLists). is_some v.released) c.self.view_is ∙ c.requires.unready in
    let list : c.in-Ok.pages ≡ c.as_slice.result.now = c.in-Ok.ensures ∙ sym c.as_slice.ensures in
    record {
      kept = begun_first _ c.args.link_number c.in-Ok.pages c.append-2.new.log.items away
          (c.append-2.ensures.items
          ∙ ap (λ l. l ++ Ready ∷ []) c.append.ensures.items
          ∙ ap (λ (l : List PagerRec). (l ++ Got c.args.link_number ∷ []) ++ Ready ∷ []) c.make_room.ensures.items)
          c.self.invariant.kept;
      placed_pages = c.self.invariant.placed_pages;
      settled_pages = c.self.invariant.settled_pages;
      wants_pages = c.self.invariant.wants_pages;
      marked_pages = c.mark_all.ensures.pages ∙ c.self.invariant.marked_pages;
      marked = c.mark_all.ensures.marked ∙ marked_alone c.as_slice.result.now (values c.self.inside.marks) (unmarked c.self.inside.released c.self.inside.marks away c.self.invariant.marked) ∙ sym (ap (λ (xs : List ℕ). λ (page : ℕ). is_listed page xs) list);
      in_range = c.self.invariant.in_range;
      passed = λ p lt. still_settled c.self.inside.released c.in-Ok.pages (λ q. values c.self.inside.placed q || values c.self.inside.settled q) p away (c.self.invariant.passed p lt);
    }
