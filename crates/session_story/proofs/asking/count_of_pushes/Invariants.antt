use Rattle.std.proofs.Common.{◌≡◌}
use Rattle.page_facts.specs.Tables.{IsTable}
use Rattle.session_story.specs.Counted.{is_push, was_asked}
use Rattle.session_story.specs.Scans.{how_many}
use Rattle.session_story.proofs.asking.count_of_pushes.Given as goal

abbrev pub invariant-loop-n : goal.invariant-loop-n
invariant-loop-n l = IsTable l.session.geometry.pages l.asked (λ page. was_asked l.session page l.n) × (l.count ≡ how_many (is_push l.session) l.session.source l.n)
