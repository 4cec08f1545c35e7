use Rattle.std.proofs.Common.{ap, ◌∙◌}
use Rattle.std.proofs.lemmas.Result.{err_from_is_err_and}
use Rattle.recorder_files.specs.declared.noting.Delivered.{Delivered}
use Rattle.walked_sessions.proofs.Refusing.{carrier_fault}
use Rattle.walked_sessions.proofs.Meeting.{of_same, walks_files}
use Rattle.walked_sessions.proofs.walking.walk_logs.Goals as goal

pub returns-clause-walked : goal.returns-clause-walked
returns-clause-walked g c =
    let messages = c.messages.inside.delivered in
    let link = of_same _ messages.link_messages.items _ messages.link.log.items c.as_slice.ensures.value c.as_slice-2.ensures.value c.in_ok-link.ensures.walked in
    let lane = of_same _ messages.lane_messages.items _ messages.lane.log.items c.as_slice-3.ensures.value c.as_slice-4.ensures.value c.in_ok-lane.ensures.walked in
    walks_files g.V.Visitor.Met c.args.machine.now c.args.init.now (g.F.LogFiles.bytes_of c.args.files.now) messages c.walk_start.new.visitor c.walk_guest.new.visitor c.walk_source.new.visitor c.walk_carrier.new.visitor c.walk_carrier-2.new.visitor c.walk_pager.new.visitor _ _ _ _ _ _ c.are_all.ensures c.messages.invariant c.in_ok-walk_start.ensures c.in_ok-guest.ensures.walked c.in_ok-source.ensures.walked link lane c.in_ok-pager.ensures.walked

pub returns-in_err-guest-clause-refused : goal.returns-in_err-guest-clause-refused
returns-in_err-guest-clause-refused g c =
    let p = err_from_is_err_and c.from_residual-in_err-guest.result c.from_residual-in_err-guest.ensures.1 in
    rw (p.1, p.2) (c.in_err-guest.ensures.refused c.args.messages.now)

pub returns-in_err-link-clause-refused : goal.returns-in_err-link-clause-refused
returns-in_err-link-clause-refused g c =
    let p = err_from_is_err_and c.from_residual-in_err-link.result c.from_residual-in_err-link.ensures.1 in
    rw (p.1, p.2) (carrier_fault _ _ _ c.args.machine.now (g.F.LogFiles.bytes_of c.args.files.now) c.args.messages.now _ _ (c.as_slice.ensures.value ∙ ap (λ (m : Delivered). m.link_messages.items) c.messages.view_is) (λ why has. has) (λ by n own. own) _ c.in_err-link.ensures.refused)

pub returns-in_err-lane-clause-refused : goal.returns-in_err-lane-clause-refused
returns-in_err-lane-clause-refused g c =
    let p = err_from_is_err_and c.from_residual-in_err-lane.result c.from_residual-in_err-lane.ensures.1 in
    rw (p.1, p.2) (carrier_fault _ _ _ c.args.machine.now (g.F.LogFiles.bytes_of c.args.files.now) c.args.messages.now _ _ (c.as_slice-3.ensures.value ∙ ap (λ (m : Delivered). m.lane_messages.items) c.messages.view_is) (λ why has. has) (λ by n own. own) _ c.in_err-lane.ensures.refused)
