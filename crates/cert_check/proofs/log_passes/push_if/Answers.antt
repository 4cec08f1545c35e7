use Rattle.std.proofs.Common.{◌∙◌, sym, subst}
use Rattle.cert_check.specs.inner.FaultsUpTo.{AreFaultsUpTo}
use Rattle.cert_check.proofs.FaultsUpTo.{no_more, one_more}
use Rattle.cert_check.proofs.log_passes.push_if.Goals as goal

pub returns-in_ok-push : goal.returns-in_ok-push
returns-in_ok-push c =
    let s = c.args.session.now in
    let log = c.args.log in
    let t = c.told.ensures in
    subst (AreFaultsUpTo s log _) (sym c.in_ok-push.ensures.items)
    (one_more s c.requires.limits log c.args.n c.in-Some.reason c.args.found.now.items c.told.result c.requires.before t.line t.log t.place t.reason (sym c.requires.is ∙ c.in-Some.is))

pub returns-in_default : goal.returns-in_default
returns-in_default c = no_more c.args.session.now c.args.log c.args.n c.args.found.now.items c.requires.before (sym c.requires.is ∙ c.in_default.is)
