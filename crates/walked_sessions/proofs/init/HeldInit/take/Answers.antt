use Rattle.std.proofs.Common.{◌+◌, ℕ, ap, refl}
use Rattle.migration_types.specs.declared.pages.InitPage.{InitPage}
use Rattle.recordings.specs.Wide.{init_of}
use Rattle.walked_sessions.proofs.Needing.{not_true}
use Rattle.walked_sessions.proofs.Pages.{init_never, init_push}
use Rattle.walked_sessions.proofs.init.HeldInit.take.Goals as goal

pub returns-then-not-may_have : goal.returns-then-not-may_have
returns-then-not-may_have c = λ pages h. init_never c.args.machine c.args.self.now pages (init_of c.args.page) h (λ may. not_true (c.if-not-may_have.ensures.1 may))

pub returns : goal.returns
returns c = λ pages h.
    let page : InitPage = record { page = c.new.result; cells = c.args.page.cells } in
    init_push c.args.machine c.args.self.now (record { pages = c.push.new.self; low = c.args.page.page + 1 }) pages page (init_of c.args.page) h (c.if-not-may_have.ensures.0 refl) (ap (λ (n : ℕ). record { page = n; cells = c.args.page.cells }) c.new.ensures) c.in_ok-push.ensures.items refl
