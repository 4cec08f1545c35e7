use Rattle.std.proofs.Common.{◌≡◌, ◌<◌, false, Result, Ok, Err, OnOk, OnErr, sym, ap, ◌∙◌, subst, arith}
use Rattle.std.proofs.lemmas.Grind.{common_steps}
use Rattle.fault_queue.proofs.Queues.{order_asked}
use Rattle.fault_queue.proofs.Waiters.{waiting_asked}
use Rattle.fault_queue.specs.inner.Maps.{entries_of}
use Rattle.fault_queue.specs.Waiting.{is_waiting, waiting_for, asked, IsQueue}
use Rattle.fault_queue.proofs.FaultQueue.fault.Goals as goal

either_way : {A B : Type 0} (r : Result A B) (P Q R : Type 0) → OnOk r P → OnErr r Q → (P → R) → (Q → R) → R
either_way (Ok x) P Q R p q f g = f p
either_way (Err x) P Q R p q f g = g q

pub invariant_of-self : goal.invariant_of-self
invariant_of-self c =
    let before = entries_of c.self.inside.waiting in
    let after = entries_of c.ask.new.waiting in
    let away : is_waiting c.args.vcpu before ≡ false = ap (is_waiting c.args.vcpu) c.self.view_is ∙ sym c.is_waiting.ensures ∙ c.if-is_waiting.false in
    let fits : c.args.vcpu < 256 = omega arith in
    either_way c.ask.result (after ≡ asked c.args.page c.args.vcpu before) (after ≡ before) (IsQueue after)
    c.ask.ensures.entries c.ask.ensures.err
    (λ e. subst IsQueue (sym e) (order_asked c.args.page c.args.vcpu before fits away c.self.invariant))
    (λ e. subst IsQueue (sym e) c.self.invariant)

on_ok : {A B : Type 0} (r : Result A B) (P Q : Type 0) → OnOk r P → (P → Q) → OnOk r Q
on_ok (Ok x) P Q p f = f p
on_ok (Err x) P Q p f = tt

pub returns-clause-nobody_lost : goal.returns-clause-nobody_lost
returns-clause-nobody_lost c =
    let after = entries_of c.ask.new.waiting in
    let is : OnOk c.map_err.result (after ≡ asked c.args.page c.args.vcpu c.args.self.now) = grind (arith, common_steps) in
    on_ok c.map_err.result _ _ is (λ e p. ap (waiting_for p) e ∙ waiting_asked p c.args.page c.args.vcpu c.args.self.now)
