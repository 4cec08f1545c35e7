use Rattle.std.proofs.Common.{◌≡◌, ◌<◌, ℕ, true, length, subst}
use Rattle.migration_types.specs.declared.records.LogName.{LogName}
use Rattle.migration_types.specs.Sessions.{Recorded, log_length}
use Rattle.audit_model.specs.declared.reasons.PageReason.{PageReason}
use Rattle.audit_model.specs.declared.reasons.PageReason.TheVariants.{Read, Early, Given, Stale, Twice, Altered, Unfit, Over}
use Rattle.audit_model.specs.Faults.{IsPageFault}
use Rattle.audit_report.proofs.Showing.{fault_there}
use Rattle.session_story.specs.Explained.{is_read}
use Rattle.session_story.proofs.Paged.{page_below, guest_read, guest_early}
use Rattle.session_story.proofs.faults.story_of_fault.Goals as goal

pub detail_of-requires-clause-page : goal.detail_of-requires-clause-page
detail_of-requires-clause-page c = page_below c.args.session.now c.keeps_limits.ensures (c.args.fault.now.log, c.args.fault.now.place) c.args.page.now.page c.requires.of

pub detail_of-requires-clause-there : goal.detail_of-requires-clause-there
detail_of-requires-clause-there c = fault_there c.args.session.now c.args.fault.now.reason c.args.fault.now.log c.args.fault.now.place c.requires.fault

pub detail_of-requires-clause-guest : goal.detail_of-requires-clause-guest
detail_of-requires-clause-guest c = λ e.
    let s = c.args.session.now in
    guest_read s (c.args.fault.now.log, c.args.fault.now.place) (subst (λ (r : PageReason). IsPageFault s r (c.args.fault.now.log, c.args.fault.now.place)) e c.requires.fault)

pub detail_of-requires-clause-early : goal.detail_of-requires-clause-early
detail_of-requires-clause-early c = λ e.
    let s = c.args.session.now in
    guest_early s (c.args.fault.now.log, c.args.fault.now.place) (subst (λ (r : PageReason). IsPageFault s r (c.args.fault.now.log, c.args.fault.now.place)) e c.requires.fault)

read_there : (s : Recorded) (reason : PageReason) (log : LogName) (n : ℕ) → is_read reason ≡ true → IsPageFault s reason (log, n) → n < length s.guest
read_there s Read log n e f = subst (λ (l : LogName). n < log_length s l) (guest_read s (log, n) f) (fault_there s Read log n f)
read_there s Early log n e f = absurd (cc)
read_there s Given log n e f = absurd (cc)
read_there s Stale log n e f = absurd (cc)
read_there s Twice log n e f = absurd (cc)
read_there s Altered log n e f = absurd (cc)
read_there s Unfit log n e f = absurd (cc)
read_there s Over log n e f = absurd (cc)

pub cause_of-requires-clause-there : goal.cause_of-requires-clause-there
cause_of-requires-clause-there c = λ e. read_there c.args.session.now c.args.fault.now.reason c.args.fault.now.log c.args.fault.now.place e c.requires.fault

pub returns-clause-story : goal.returns-clause-story
returns-clause-story c = record {
  is_of = c.requires.of;
  page = c.requires.story;
  handover = c.handover_of.ensures;
  detail = c.in_ok-detail.ensures;
  cause = c.in_ok-cause.ensures;
  orders = record { exactly = c.in_every_order.ensures.exactly; breaks = c.in_every_order.ensures.breaks };
}
