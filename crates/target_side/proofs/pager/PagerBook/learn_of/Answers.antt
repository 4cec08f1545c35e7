use Rattle.std.proofs.Common.{◌≡◌, ℕ, ◌<◌, ◌≤◌, true, false, Bool, length, sym, ap, subst, ◌∙◌}
use Rattle.std.proofs.lemmas.Result.{on_ok_weaker}
use Rattle.migration_types.specs.Limits.{most_records}
use Rattle.residency.specs.Placements.{is_resident}
use Rattle.fault_queue.specs.Waiting.{is_waiting}
use Rattle.target_side.specs.Kept.{part_of as target_of}
use Rattle.target_side.specs.PagerPart.{Paged, fault_at, zeroes, is_released}
use Rattle.target_side.specs.PagerLists.{PagerLists, part_of}
use Rattle.target_side.specs.inner.Steps.{learned, asks}
use Rattle.target_side.proofs.Branches.{unchanged, fault_zero, fault_asks}
use Rattle.target_side.proofs.pager.PagerBook.learn_of.Goals as goal

zero_is : (c : goal.After-zero) → fault_at c.args.missing.page c.args.missing.vcpu (learned c.args.missing.number (part_of c.args.self.now)) (target_of c.args.target.now) ≡ zeroes c.args.missing.page (learned c.args.missing.number (part_of c.args.self.now)) (target_of c.args.target.now)
zero_is c =
    let none : is_resident ((target_of c.args.target.now).placed c.args.missing.page) ((target_of c.args.target.now).freed c.args.missing.page) ≡ false = sym c.resident.ensures ∙ c.if-resident.false in
    let away : is_waiting c.args.missing.vcpu c.args.self.now.waiting ≡ false =
    sym (ap (λ (v : PagerLists). is_waiting c.args.missing.vcpu v.waiting) c.self.view_is) ∙ sym c.is_waiting.ensures ∙ c.if-is_waiting.false
    in
    let marked : is_released c.args.self.now.released c.args.missing.page ≡ true =
    sym (ap (λ (v : PagerLists). is_released v.released c.args.missing.page) c.self-2.view_is)
    ∙ sym (ap (λ (at : ℕ → Bool). at c.args.missing.page) c.self-2.invariant.marked)
    ∙ sym c.at.ensures ∙ c.if-at.true
    in
    fault_zero c.args.missing.page c.args.missing.vcpu (learned c.args.missing.number (part_of c.args.self.now)) (target_of c.args.target.now) none away marked

ask_is : (c : goal.After-ask) → fault_at c.args.missing.page c.args.missing.vcpu (learned c.args.missing.number (part_of c.args.self.now)) (target_of c.args.target.now) ≡ unchanged (asks c.args.missing.page c.args.missing.vcpu (learned c.args.missing.number (part_of c.args.self.now))) (target_of c.args.target.now)
ask_is c =
    let none : is_resident ((target_of c.args.target.now).placed c.args.missing.page) ((target_of c.args.target.now).freed c.args.missing.page) ≡ false = sym c.resident.ensures ∙ c.if-resident.false in
    let away : is_waiting c.args.missing.vcpu c.args.self.now.waiting ≡ false =
    sym (ap (λ (v : PagerLists). is_waiting c.args.missing.vcpu v.waiting) c.self.view_is) ∙ sym c.is_waiting.ensures ∙ c.if-is_waiting.false
    in
    let unmarked : is_released c.args.self.now.released c.args.missing.page ≡ false =
    sym (ap (λ (v : PagerLists). is_released v.released c.args.missing.page) c.self-2.view_is)
    ∙ sym (ap (λ (at : ℕ → Bool). at c.args.missing.page) c.self-2.invariant.marked)
    ∙ sym c.at.ensures ∙ c.if-at.false
    in
    fault_asks c.args.missing.page c.args.missing.vcpu (learned c.args.missing.number (part_of c.args.self.now)) (target_of c.args.target.now) none away unmarked

pub returns-then-at-clause-ok : goal.returns-then-at-clause-ok
returns-then-at-clause-ok c = on_ok_weaker c.zero.result (λ e. e ∙ sym (zero_is c)) c.zero.ensures.ok

pub returns-then-at-clause-full : goal.returns-then-at-clause-full
returns-then-at-clause-full c h = subst (λ (g : Paged). most_records < length g.pager.log) (sym (zero_is c)) (c.zero.ensures.full h)

pub returns-clause-ok : goal.returns-clause-ok
returns-clause-ok c = on_ok_weaker c.ask.result (λ e. ap (λ b. unchanged b (target_of c.args.target.now)) e ∙ sym (ask_is c)) c.ask.ensures.ok

pub returns-clause-full : goal.returns-clause-full
returns-clause-full c h = subst (λ (g : Paged). most_records < length g.pager.log) (sym (ask_is c)) (c.ask.ensures.full h)

pub returns-then-at-clause-memory : goal.returns-then-at-clause-memory
returns-then-at-clause-memory c h = subst (λ (g : Paged). length g.pager.log ≤ most_records) (sym (zero_is c)) (c.zero.ensures.memory h)

pub returns-clause-memory : goal.returns-clause-memory
returns-clause-memory c h = subst (λ (g : Paged). length g.pager.log ≤ most_records) (sym (ask_is c)) (c.ask.ensures.memory h)
