use Rattle.std.proofs.Common.{◌≡◌, ◌||◌, take}
use Rattle.page_store.specs.Tables.{pages_of, values}
use Rattle.target_side.specs.PagerPart.{is_listed}
use Rattle.target_side.proofs.marks.mark_all.Given as goal

abbrev pub invariant-loop-page : goal.invariant-loop-page
invariant-loop-page l = record {
  pages : pages_of l.marks ≡ pages_of l.initial.marks;
  marked : values l.marks ≡ (λ page. is_listed page (take l.page-index l.pages) || values l.initial.marks page);
}
