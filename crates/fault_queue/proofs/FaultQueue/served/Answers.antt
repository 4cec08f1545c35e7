use Rattle.std.proofs.Common.{◌≡◌, ℕ, Bool, false, Option, None, Some, is_some, IsNone, sym, ap, ◌∙◌, subst, rules}
use Rattle.std.specs.Prelude.{◌==◌}
use Rattle.std.specs.List.{IsDistinct}
use Rattle.std.specs.Map.{lookup, remove_entry}
use Rattle.std.specs.Option.{option_map}
use Rattle.fault_queue.proofs.Same.{same_pages}
use Rattle.fault_queue.proofs.Maps.{entries, keys_entries, waiters_entries, asked_entries, remove_entries}
use Rattle.fault_queue.proofs.Queues.{order_without}
use Rattle.fault_queue.proofs.Waiters.{waiting_without}
use Rattle.fault_queue.specs.Waiting.{is_asked, waiters_of, waiting_for, without, IsQueue}
use Rattle.fault_queue.proofs.FaultQueue.served.Goals as goal

taken : (c : goal.After-shift_remove) → entries c.shift_remove.new.self.entries ≡ without c.args.page (entries c.self.inside.waiting.entries)
taken c =
    let es = c.self.inside.waiting.entries in
    ap entries c.shift_remove.ensures.entries
    ∙ ap (λ (f : ℕ → ℕ → Bool). entries (remove_entry (f c.args.page) es)) same_pages
    ∙ remove_entries c.args.page es (subst (IsDistinct (λ a b. a == b)) (keys_entries es) c.self.invariant.pages)

none_iff : {X : Type 0} (o : Option X) (b : Bool) → is_some o ≡ b → (IsNone o → b ≡ false) × (b ≡ false → IsNone o)
none_iff None b e = (λ n. sym e, λ f. search rules)
none_iff (Some x) b e = (λ n. search rules, λ f. absurd (cc))

pub invariant_of-self : goal.invariant_of-self
invariant_of-self c = subst IsQueue (sym (taken c)) (order_without c.args.page (entries c.self.inside.waiting.entries) c.self.invariant)

pub returns-clause-waiters : goal.returns-clause-waiters
returns-clause-waiters c =
    ap (option_map (λ v. v.items)) c.shift_remove.ensures.value
    ∙ ap (λ (f : ℕ → ℕ → Bool). option_map (λ v. v.items) (lookup (f c.args.page) c.self.inside.waiting.entries)) same_pages
    ∙ waiters_entries c.args.page c.self.inside.waiting.entries
    ∙ ap (waiters_of c.args.page) c.self.view_is

pub returns-clause-others : goal.returns-clause-others
returns-clause-others c = taken c ∙ ap (without c.args.page) c.self.view_is

pub returns-clause-none : goal.returns-clause-none
returns-clause-none c =
    none_iff c.shift_remove.result (is_asked c.args.page c.args.self.now)
    (ap is_some c.shift_remove.ensures.value ∙ ap (λ (f : ℕ → ℕ → Bool). is_some (lookup (f c.args.page) c.self.inside.waiting.entries)) same_pages ∙ asked_entries c.args.page c.self.inside.waiting.entries ∙ ap (is_asked c.args.page) c.self.view_is)

pub returns-clause-nobody_lost : goal.returns-clause-nobody_lost
returns-clause-nobody_lost c p = ap (waiting_for p) (returns-clause-others c) ∙ waiting_without p c.args.page c.args.self.now
