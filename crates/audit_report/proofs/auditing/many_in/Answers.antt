use Rattle.std.proofs.Common.{ℕ, [], refl, arith}
use Rattle.std.proofs.lemmas.Option.{MatchOption-at_some, MatchOption-at_none}
use Rattle.migration_types.specs.Sessions.{Recorded}
use Rattle.page_facts.specs.PageFaults.{IsClean, IsFirstFault}
use Rattle.page_facts.specs.FaultyPages.{AreManyFrom}
use Rattle.page_facts.proofs.MorePages.{many_clean, many_faulty, no_page}
use Rattle.audit_report.proofs.auditing.many_in.Goals as goal

none : (s : Recorded) (page : ℕ) → AreManyFrom s page 0 0
none s page = λ limits within. ([], no_page s page, refl)

pub returns-in-Some : goal.returns-in-Some
returns-in-Some c =
    let s = c.args._session.now in
    let page = c.args._page in
    many_faulty s page 0 page 0 c.in-Some.field-0 1 (omega arith) (none s page) (MatchOption-at_some (IsClean s page) (IsFirstFault s page) c.in-Some.field-0 c.in-Some.is c.requires) (λ few less. refl)

pub returns-in-None : goal.returns-in-None
returns-in-None c =
    let s = c.args._session.now in
    let page = c.args._page in
    many_clean s page 0 page 0 (omega arith) (none s page) (MatchOption-at_none (IsClean s page) (IsFirstFault s page) c.in-None.is c.requires)
