use Rattle.std.proofs.Common.{◌≡◌, [], ◌∷◌, refl, subst}
use Rattle.text_lines.specs.Text.{Begins}
use Rattle.session_grammar.specs.Grammar.{SpellsSession}
use Rattle.session_grammar.specs.declared.stage.Stage.{Stage}
use Rattle.session_grammar.specs.declared.stage.Stage.TheVariants.{Init, Guest, Source, Link, Lane, Pager, Done}
use Rattle.session_grammar.specs.inner.Held.{held_onto}
use Rattle.session_log.specs.inner.Steps.{draft_of, left_at}
use Rattle.session_log.proofs.Laws.{live_at, more_refused}
use Rattle.session_log.proofs.LogSteps.{behind, whole_of, guest_begins, source_begins, link_begins, pager_begins, ends}
use Rattle.session_log.proofs.parts.Parts.behind.Goals as goal

pub returns-in-Init : goal.returns-in-Init
returns-in-Init c =
    let d = draft_of c.args.self.now in
    behind c.args.stage Init d (record d { guest = c.begin_log.new.log }) c.args.line.now c.begin_log.result c.in-Init.is c.requires.live c.requires.none (guest_begins d c.begin_log.new.log c.args.line.now c.begin_log.result c.begin_log.ensures.found c.begin_log.ensures.refused c.begin_log.ensures.err)

pub returns-in-Guest : goal.returns-in-Guest
returns-in-Guest c =
    let d = draft_of c.args.self.now in
    behind c.args.stage Guest d (record d { source = c.begin_log-in-Guest.new.log }) c.args.line.now c.begin_log-in-Guest.result c.in-Guest.is c.requires.live c.requires.none (source_begins d c.begin_log-in-Guest.new.log c.args.line.now c.begin_log-in-Guest.result c.begin_log-in-Guest.ensures.found c.begin_log-in-Guest.ensures.refused c.begin_log-in-Guest.ensures.err)

pub returns-in-Source : goal.returns-in-Source
returns-in-Source c =
    let d = draft_of c.args.self.now in
    behind c.args.stage Source d (record d { link = c.begin_log-begun.new.log }) c.args.line.now c.begin_log-begun.result c.in-Source.is c.requires.live c.requires.none (link_begins d c.begin_log-begun.new.log c.args.line.now c.begin_log-begun.result c.begin_log-begun.ensures.found c.begin_log-begun.ensures.refused c.begin_log-begun.ensures.err)

pub returns-in-Lane : goal.returns-in-Lane
returns-in-Lane c =
    let d = draft_of c.args.self.now in
    behind c.args.stage Lane d (record d { pager = c.begin_log-in-Lane.new.log }) c.args.line.now c.begin_log-in-Lane.result c.in-Lane.is c.requires.live c.requires.none (pager_begins d c.begin_log-in-Lane.new.log c.args.line.now c.begin_log-in-Lane.result c.begin_log-in-Lane.ensures.found c.begin_log-in-Lane.ensures.refused c.begin_log-in-Lane.ensures.err)

pub behind_link-requires-clause-whole : goal.behind_link-requires-clause-whole
behind_link-requires-clause-whole c =
    let d = draft_of c.args.self.now in
    let live = live_at c.args.stage Link d c.in-Link.is c.requires.live in
    whole_of d.link live.0.within (subst (λ (s : Stage). left_at s d ≡ 0) c.in-Link.is c.requires.none)

pub returns-in-Pager : goal.returns-in-Pager
returns-in-Pager c =
    let d = draft_of c.args.self.now in
    behind c.args.stage Pager d d c.args.line.now c.take_closing.result c.in-Pager.is c.requires.live c.requires.none (ends d c.args.line.now c.take_closing.result c.take_closing.ensures.found c.take_closing.ensures.refused)

pub returns-in-Done : goal.returns-in-Done
returns-in-Done c = (
  refl,
  λ _ b.
      let d = draft_of c.args.self.now in
      let line = c.args.line.now in
      let live = live_at c.args.stage Done d c.in-Done.is c.requires.live in
      more_refused d line live.0 live.1 (subst (λ (s : Stage). Begins SpellsSession (held_onto s d (line ∷ []))) c.in-Done.is b),
)
