use Rattle.std.proofs.Common.{refl, []}
use Rattle.session_grammar.specs.inner.Held.{held_onto}
use Rattle.session_log.specs.inner.Steps.{draft_of}
use Rattle.session_grammar.specs.declared.stage.Stage.TheVariants.{Done}
use Rattle.session_log.proofs.Goes.{not_whole, whole_fits}
use Rattle.session_log.proofs.Laws.{live_at}
use Rattle.session_log.proofs.lines.PartsStages.text.Goals as goal

pub returns-in_default : goal.returns-in_default
returns-in_default c =
    let d = draft_of c.args.self in
    record { found = tt; none = not_whole c.args.stage d (held_onto c.args.stage d []) refl c.requires c.in_default.not-Done }

pub new-requires : goal.new-requires
new-requires c =
    let d = draft_of c.args.self in
    let whole = whole_fits d (live_at c.args.stage Done d c.in-Done.is c.requires).0 in
    let lists = c.into_lists-init.ensures in
    rw (c.in-Ok.ensures.0, lists.init, lists.guest, lists.source, lists.link, lists.lane, lists.pager) whole
