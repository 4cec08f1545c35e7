use Rattle.session_grammar.specs.declared.stage.Stage.TheVariants.{Init, Guest, Source, Link, Lane, Pager}
use Rattle.session_log.specs.inner.Steps.{draft_of}
use Rattle.session_log.proofs.Back.{with_init}
use Rattle.session_log.proofs.LogSteps.{drops, init_drops, guest_drops, source_drops, link_drops, lane_drops, pager_drops, no_drop}
use Rattle.session_log.proofs.parts.Parts.drop_last.Goals as goal

pub returns-in-Init : goal.returns-in-Init
returns-in-Init c =
    let d = draft_of c.args.self.now in
    drops c.args.stage Init d (with_init d c.drop_last.new.self) c.drop_last.result c.in-Init.is c.requires.live (init_drops d c.drop_last.new.self c.drop_last.result c.drop_last.ensures)

pub returns-in-Guest : goal.returns-in-Guest
returns-in-Guest c =
    let d = draft_of c.args.self.now in
    drops c.args.stage Guest d (record d { guest = c.drop_last-in-Guest.new.self }) c.drop_last-in-Guest.result c.in-Guest.is c.requires.live (guest_drops d c.drop_last-in-Guest.new.self c.drop_last-in-Guest.result c.drop_last-in-Guest.ensures)

pub returns-in-Source : goal.returns-in-Source
returns-in-Source c =
    let d = draft_of c.args.self.now in
    drops c.args.stage Source d (record d { source = c.drop_last-in-Source.new.self }) c.drop_last-in-Source.result c.in-Source.is c.requires.live (source_drops d c.drop_last-in-Source.new.self c.drop_last-in-Source.result c.drop_last-in-Source.ensures)

pub returns-in-Link : goal.returns-in-Link
returns-in-Link c =
    let d = draft_of c.args.self.now in
    drops c.args.stage Link d (record d { link = c.drop_last-in-Link.new.self }) c.drop_last-in-Link.result c.in-Link.is c.requires.live (link_drops d c.drop_last-in-Link.new.self c.drop_last-in-Link.result c.drop_last-in-Link.ensures)

pub returns-in-Lane : goal.returns-in-Lane
returns-in-Lane c =
    let d = draft_of c.args.self.now in
    drops c.args.stage Lane d (record d { lane = c.drop_last-in-Lane.new.self }) c.drop_last-in-Lane.result c.in-Lane.is c.requires.live (lane_drops d c.drop_last-in-Lane.new.self c.drop_last-in-Lane.result c.drop_last-in-Lane.ensures)

pub returns-in-Pager : goal.returns-in-Pager
returns-in-Pager c =
    let d = draft_of c.args.self.now in
    drops c.args.stage Pager d (record d { pager = c.drop_last-in-Pager.new.self }) c.drop_last-in-Pager.result c.in-Pager.is c.requires.live (pager_drops d c.drop_last-in-Pager.new.self c.drop_last-in-Pager.result c.drop_last-in-Pager.ensures)

pub returns-in_default : goal.returns-in_default
returns-in_default c =
    let n = c.in_default in
    no_drop c.args.stage (draft_of c.args.self.now) c.requires.live c.requires.some n.not-Init n.not-Guest n.not-Source n.not-Link n.not-Lane n.not-Pager
