use Rattle.std.proofs.Common.{refl, arith}
use Rattle.session_grammar.specs.declared.stage.Stage.TheVariants.{Init, Guest, Source, Link, Lane, Pager}
use Rattle.session_log.specs.inner.Steps.{draft_of}
use Rattle.session_log.proofs.Back.{with_init}
use Rattle.session_log.proofs.LogSteps.{stays, init_item, guest_item, source_item, link_item, lane_item, pager_item, no_item}
use Rattle.session_log.proofs.parts.Parts.item.Goals as goal

pub returns-in-Init : goal.returns-in-Init
returns-in-Init c =
    let d = draft_of c.args.self.now in
    stays c.args.stage Init d (with_init d c.line.new.self) c.args.line.now c.line.result c.in-Init.is c.requires.live c.requires.some (init_item d c.line.new.self c.args.line.now _ c.line.result refl (omega (arith, c.left.ensures)) c.line.ensures.ok c.line.ensures.refused c.line.ensures.err)

pub returns-in-Guest : goal.returns-in-Guest
returns-in-Guest c =
    let d = draft_of c.args.self.now in
    stays c.args.stage Guest d (record d { guest = c.line-in-Guest.new.self }) c.args.line.now c.line-in-Guest.result c.in-Guest.is c.requires.live c.requires.some (guest_item d c.line-in-Guest.new.self c.args.line.now c.line-in-Guest.result c.line-in-Guest.ensures.ok c.line-in-Guest.ensures.refused c.line-in-Guest.ensures.err)

pub returns-in-Source : goal.returns-in-Source
returns-in-Source c =
    let d = draft_of c.args.self.now in
    stays c.args.stage Source d (record d { source = c.line-in-Source.new.self }) c.args.line.now c.line-in-Source.result c.in-Source.is c.requires.live c.requires.some (source_item d c.line-in-Source.new.self c.args.line.now c.line-in-Source.result c.line-in-Source.ensures.ok c.line-in-Source.ensures.refused c.line-in-Source.ensures.err)

pub returns-in-Link : goal.returns-in-Link
returns-in-Link c =
    let d = draft_of c.args.self.now in
    stays c.args.stage Link d (record d { link = c.line-in-Link.new.self }) c.args.line.now c.line-in-Link.result c.in-Link.is c.requires.live c.requires.some (link_item d c.line-in-Link.new.self c.args.line.now c.line-in-Link.result c.line-in-Link.ensures.ok c.line-in-Link.ensures.refused c.line-in-Link.ensures.err)

pub returns-in-Lane : goal.returns-in-Lane
returns-in-Lane c =
    let d = draft_of c.args.self.now in
    stays c.args.stage Lane d (record d { lane = c.line-in-Lane.new.self }) c.args.line.now c.line-in-Lane.result c.in-Lane.is c.requires.live c.requires.some (lane_item d c.line-in-Lane.new.self c.args.line.now c.line-in-Lane.result c.line-in-Lane.ensures.ok c.line-in-Lane.ensures.refused c.line-in-Lane.ensures.err)

pub returns-in-Pager : goal.returns-in-Pager
returns-in-Pager c =
    let d = draft_of c.args.self.now in
    stays c.args.stage Pager d (record d { pager = c.line-in-Pager.new.self }) c.args.line.now c.line-in-Pager.result c.in-Pager.is c.requires.live c.requires.some (pager_item d c.line-in-Pager.new.self c.args.line.now c.line-in-Pager.result c.line-in-Pager.ensures.ok c.line-in-Pager.ensures.refused c.line-in-Pager.ensures.err)

pub returns-in_default : goal.returns-in_default
returns-in_default c =
    let n = c.in_default in
    absurd (no_item c.args.stage (draft_of c.args.self.now) c.requires.some n.not-Init n.not-Guest n.not-Source n.not-Link n.not-Lane n.not-Pager)
