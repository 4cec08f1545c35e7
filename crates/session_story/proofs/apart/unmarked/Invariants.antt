use Rattle.std.proofs.Common.{◌≡◌, not, take}
use Rattle.std.specs.Prelude.{filter}
use Rattle.page_store.specs.Tables.{values}
use Rattle.session_story.proofs.apart.unmarked.Given as goal

abbrev pub invariant-loop-page : goal.invariant-loop-page
invariant-loop-page l = l.kept.items ≡ filter (λ f. not (values l.marks f.fault.page)) (take l.page-index l.faulty)
