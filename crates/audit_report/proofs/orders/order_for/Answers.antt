use Rattle.std.proofs.Common.{◌≡◌, List, subst}
use Rattle.std.specs.Prelude.{IfOk}
use Rattle.std.proofs.lemmas.Option.{MatchOption-at_some, MatchOption-at_none}
use Rattle.migration_types.specs.declared.cert.Run.{Run}
use Rattle.migration_types.specs.Receipts.{Name}
use Rattle.audit_model.specs.Mergings.{spelled}
use Rattle.audit_model.specs.Delayed.{rearranged}
use Rattle.merge_runs.specs.Taken.{cursors_of}
use Rattle.audit_report.specs.Reports.{IsShownWith, IsUndelayed}
use Rattle.audit_report.proofs.Showing.{found_shows, delayed_shown}
use Rattle.audit_report.proofs.orders.order_for.Goals as goal

pub returns-in-Some : goal.returns-in-Some
returns-in-Some c =
    let s = c.args.session.now in
    let reason = c.args.fault.now.reason in
    let name : Name = (c.args.fault.now.log, c.args.fault.now.place) in
    let d = cursors_of c.cut_for-cut.result in
    let shown = MatchOption-at_some (IsUndelayed s reason name) (IsShownWith s reason name) c.in-Some.place c.in-Some.is c.placement_for.ensures in
    delayed_shown s reason name c.in-Some.place d c.args.found c.rearranged.result (c.faults_are_unsafe.ensures.delayed s c.requires.shape) (c.faults_are_unsafe.ensures.delayed_over s c.requires.shape) c.requires.found c.requires.fault.is_fault shown c.cut_for-cut.ensures c.rearranged.ensures.runs
    (subst (λ (runs : List Run). IfOk c.rearranged.result (λ order. spelled order ≡ rearranged d (spelled runs))) c.as_slice-in-Some.ensures c.rearranged.ensures.spelled)

pub returns-in-None : goal.returns-in-None
returns-in-None c =
    let s = c.args.session.now in
    let reason = c.args.fault.now.reason in
    let name : Name = (c.args.fault.now.log, c.args.fault.now.place) in
    let none = MatchOption-at_none (IsUndelayed s reason name) (IsShownWith s reason name) c.in-None.is c.placement_for.ensures in
    found_shows s reason name c.args.found (c.faults_are_unsafe.ensures.faults s c.requires.shape) (c.faults_are_unsafe.ensures.unplaced s c.requires.shape) c.requires.found c.requires.fault.is_fault none
