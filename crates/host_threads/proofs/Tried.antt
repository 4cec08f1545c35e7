-- A thread makes no other events.
use Rattle.std.proofs.Common.{◌≡◌, ◌≢◌, Bool, false, refl}
use Rattle.migration_events.specs.declared.events.Event.{Event}
use Rattle.migration_events.specs.declared.events.Event.TheVariants.{GuestStep, Halt, Push, Serve, SourceTick, LinkTurn, PagerPop, PagerPull, PagerFault, PagerFlush, PagerDeliver, PagerTick}
use Rattle.host_threads.specs.Tries.{source_makes, exchange_makes, attend_makes}

pub source_no_other : (e : Event) (d q : Bool) → e ≢ Push → e ≢ Serve → e ≢ SourceTick → source_makes e d q ≡ false
source_no_other (GuestStep v) d q push serve sourcetick = refl
source_no_other Halt d q push serve sourcetick = refl
source_no_other Push d q push serve sourcetick = absurd (push refl)
source_no_other Serve d q push serve sourcetick = absurd (serve refl)
source_no_other SourceTick d q push serve sourcetick = absurd (sourcetick refl)
source_no_other (LinkTurn direction fate) d q push serve sourcetick = refl
source_no_other PagerPop d q push serve sourcetick = refl
source_no_other PagerPull d q push serve sourcetick = refl
source_no_other PagerFault d q push serve sourcetick = refl
source_no_other PagerFlush d q push serve sourcetick = refl
source_no_other PagerDeliver d q push serve sourcetick = refl
source_no_other PagerTick d q push serve sourcetick = refl

pub exchange_no_other : (e : Event) (q : Bool) → e ≢ PagerPop → e ≢ PagerPull → e ≢ PagerFlush → e ≢ PagerTick → exchange_makes e q ≡ false
exchange_no_other (GuestStep v) q pagerpop pagerpull pagerflush pagertick = refl
exchange_no_other Halt q pagerpop pagerpull pagerflush pagertick = refl
exchange_no_other Push q pagerpop pagerpull pagerflush pagertick = refl
exchange_no_other Serve q pagerpop pagerpull pagerflush pagertick = refl
exchange_no_other SourceTick q pagerpop pagerpull pagerflush pagertick = refl
exchange_no_other (LinkTurn direction fate) q pagerpop pagerpull pagerflush pagertick = refl
exchange_no_other PagerPop q pagerpop pagerpull pagerflush pagertick = absurd (pagerpop refl)
exchange_no_other PagerPull q pagerpop pagerpull pagerflush pagertick = absurd (pagerpull refl)
exchange_no_other PagerFault q pagerpop pagerpull pagerflush pagertick = refl
exchange_no_other PagerFlush q pagerpop pagerpull pagerflush pagertick = absurd (pagerflush refl)
exchange_no_other PagerDeliver q pagerpop pagerpull pagerflush pagertick = refl
exchange_no_other PagerTick q pagerpop pagerpull pagerflush pagertick = absurd (pagertick refl)

pub attend_no_other : (e : Event) (r : Bool) → e ≢ PagerFault → e ≢ PagerDeliver → attend_makes e r ≡ false
attend_no_other (GuestStep v) r pagerfault pagerdeliver = refl
attend_no_other Halt r pagerfault pagerdeliver = refl
attend_no_other Push r pagerfault pagerdeliver = refl
attend_no_other Serve r pagerfault pagerdeliver = refl
attend_no_other SourceTick r pagerfault pagerdeliver = refl
attend_no_other (LinkTurn direction fate) r pagerfault pagerdeliver = refl
attend_no_other PagerPop r pagerfault pagerdeliver = refl
attend_no_other PagerPull r pagerfault pagerdeliver = refl
attend_no_other PagerFault r pagerfault pagerdeliver = absurd (pagerfault refl)
attend_no_other PagerFlush r pagerfault pagerdeliver = refl
attend_no_other PagerDeliver r pagerfault pagerdeliver = absurd (pagerdeliver refl)
attend_no_other PagerTick r pagerfault pagerdeliver = refl
