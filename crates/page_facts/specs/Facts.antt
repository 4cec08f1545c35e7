-- What the logs of a session say about its pages.
use Rattle.std.specs.Prelude.{◌≡◌, ℕ, length}
use Rattle.migration_types.specs.Sessions.{Recorded}
use Rattle.audit_model.specs.Shape.{is_placement_of}
use Rattle.page_facts.specs.declared.facts.PageFacts.{PageFacts}
use Rattle.page_facts.specs.Tables.{some_before, first_before}
use Rattle.page_facts.specs.Judged.{is_wrong_read, is_wrong_send, is_altered, is_late_touch, releases_at}
use Rattle.page_facts.specs.Moved.{is_again, origin_at}
use Rattle.page_facts.specs.Looks.{first_look}

-- what the whole logs say about a page
pub record IsFacts (s : Recorded) (page : ℕ) (f : PageFacts) : Type 0 where
  pub wrong_read : f.wrong_read ≡ some_before (is_wrong_read s page) s.guest (length s.guest)
  pub wrong_send : f.wrong_send ≡ some_before (is_wrong_send s page) s.source (length s.source)
  pub placement : f.placement ≡ first_before (λ m. is_placement_of page) s.pager (length s.pager)
  pub sent : f.sent ≡ origin_at s page f.placement
  pub again : f.again ≡ some_before (is_again s page) s.pager (length s.pager)
  pub altered : f.altered ≡ some_before (is_altered s page) s.pager (length s.pager)
  pub touch : f.touch ≡ first_before (is_late_touch s page) s.guest (length s.guest)
  pub releases : f.releases ≡ releases_at s f.touch
  pub look : f.look ≡ first_look s (length s.guest) page
