use Rattle.std.proofs.Common.{List, refl}
use Rattle.migration_types.specs.Receipts.{Name}
use Rattle.audit_model.specs.Mergings.{IsMerging}
use Rattle.audit_model.specs.Shape.{IsRightShape}
use Rattle.session_story.proofs.EveryOrder.{IsAlways, IsBySides, decided_as, no_order, in_none, reported_shape}
use Rattle.session_story.proofs.orders.in_every_order.Goals as goal

pub returns-in_default : goal.returns-in_default
returns-in_default c =
    let s = c.args.session.now in
    let f = c.args.fault.now in
    let none : IsRightShape s → (order : List Name) → IsMerging s order → ⊥ = λ shape. no_order s c.args.report.now c.requires.report c.in_default.not-Faulty f.reason (f.log, f.place) c.requires.fault shape in
    record {
      exactly = λ shape. (λ e. in_none s (none shape) f.reason f.place c.args.page.now.page, λ every. refl);
      breaks = λ shape e order merging. absurd (none shape order merging);
    }

pub depends_on-requires-clause-there : goal.depends_on-requires-clause-there
depends_on-requires-clause-there c =
    let s = c.args.session.now in
    let f = c.args.fault.now in
    let t = c.args.page.now in
    let shape = reported_shape s c.args.report.now c.in-Faulty.line c.in-Faulty.fault c.in-Faulty.order c.in-Faulty.pages c.in-Faulty.is c.requires.report in
    let sides : IsBySides s f.reason f.log f.place t.page c.in-Some.used c.in-Some.placement = decided_as s shape t.page t.found c.requires.story.found f.reason f.log f.place c.requires.fault c.requires.of c.late_for.result _ c.late_for.ensures c.in-Some.is in
    sides.placement_there

pub depends_on-requires-clause-other : goal.depends_on-requires-clause-other
depends_on-requires-clause-other c =
    let s = c.args.session.now in
    let f = c.args.fault.now in
    let t = c.args.page.now in
    let shape = reported_shape s c.args.report.now c.in-Faulty.line c.in-Faulty.fault c.in-Faulty.order c.in-Faulty.pages c.in-Faulty.is c.requires.report in
    let sides : IsBySides s f.reason f.log f.place t.page c.in-Some.used c.in-Some.placement = decided_as s shape t.page t.found c.requires.story.found f.reason f.log f.place c.requires.fault c.requires.of c.late_for.result _ c.late_for.ensures c.in-Some.is in
    sides.used_there

pub returns-in-Some-clause-exactly : goal.returns-in-Some-clause-exactly
returns-in-Some-clause-exactly c = λ shape.
    let s = c.args.session.now in
    let f = c.args.fault.now in
    let t = c.args.page.now in
    let sides : IsBySides s f.reason f.log f.place t.page c.in-Some.used c.in-Some.placement = decided_as s shape t.page t.found c.requires.story.found f.reason f.log f.place c.requires.fault c.requires.of c.late_for.result _ c.late_for.ensures c.in-Some.is in
    (λ e. (sides.always (c.depends_on.ensures.depends.0 e)).shown, λ every. c.depends_on.ensures.orders.1 (sides.never every))

pub returns-in-Some-clause-breaks : goal.returns-in-Some-clause-breaks
returns-in-Some-clause-breaks c = λ shape e.
    let s = c.args.session.now in
    let f = c.args.fault.now in
    let t = c.args.page.now in
    let sides : IsBySides s f.reason f.log f.place t.page c.in-Some.used c.in-Some.placement = decided_as s shape t.page t.found c.requires.story.found f.reason f.log f.place c.requires.fault c.requires.of c.late_for.result _ c.late_for.ensures c.in-Some.is in
    (sides.always (c.depends_on.ensures.depends.0 e)).breaks

pub returns-in-None-clause-exactly : goal.returns-in-None-clause-exactly
returns-in-None-clause-exactly c = λ shape.
    let s = c.args.session.now in
    let f = c.args.fault.now in
    let t = c.args.page.now in
    let always : IsAlways s f.reason f.log f.place t.page = decided_as s shape t.page t.found c.requires.story.found f.reason f.log f.place c.requires.fault c.requires.of c.late_for.result _ c.late_for.ensures c.in-None.is in
    (λ e. always.shown, λ every. refl)

pub returns-in-None-clause-breaks : goal.returns-in-None-clause-breaks
returns-in-None-clause-breaks c = λ shape e.
    let s = c.args.session.now in
    let f = c.args.fault.now in
    let t = c.args.page.now in
    let always : IsAlways s f.reason f.log f.place t.page = decided_as s shape t.page t.found c.requires.story.found f.reason f.log f.place c.requires.fault c.requires.of c.late_for.result _ c.late_for.ensures c.in-None.is in
    always.breaks
