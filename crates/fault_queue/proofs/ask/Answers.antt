use Rattle.std.proofs.Common.{◌≡◌, ℕ, Bool, [], ◌∷◌, ◌++◌, is_some, Result, Ok, Err, OnErr, None, Some, cond, sym, ap, ◌∙◌, subst}
use Rattle.std.specs.Prelude.{◌==◌}
use Rattle.std.specs.List.{IsDistinct}
use Rattle.std.specs.Map.{keys_of, lookup, set_value}
use Rattle.indexmap.specs.IndexMap.{insert_entry}
use Rattle.fault_queue.proofs.Same.{same_pages}
use Rattle.fault_queue.proofs.Maps.{entries, asked_entries, join_entries, kept_entries, insert_entries}
use Rattle.fault_queue.specs.Waiting.{joined, entry}
use Rattle.fault_queue.specs.declared.Asked.TheVariants.{New, Joined}
use Rattle.fault_queue.proofs.ask.Goals as goal

on_err : {A B : Type 0} (r : Result A B) (P : Type 0) → P → OnErr r P
on_err (Ok x) P p = tt
on_err (Err x) P p = p

pub returns-in_err-push-clause-err : goal.returns-in_err-push-clause-err
returns-in_err-push-clause-err c =
    let es = c.args.waiting.now.entries in
    let found : lookup (λ k. c.args.page == k) es ≡ Some c.in-Some.waiters.now = ap (λ (f : ℕ → ℕ → Bool). lookup (f c.args.page) es) (sym same_pages) ∙ sym c.in-Some.ensures.value in
    on_err c.from_residual.result _
    (ap entries (c.get_mut.follows.holds c.push.new.self).0
    ∙ ap (λ (f : ℕ → ℕ → Bool). entries (set_value (f c.args.page) es c.push.new.self)) same_pages
    ∙ kept_entries c.args.page es c.in-Some.waiters.now c.push.new.self found c.in_err-push.ensures.items)

pub returns-in-Some-clause-told : goal.returns-in-Some-clause-told
returns-in-Some-clause-told c =
    let es = c.args.waiting.now.entries in
    let found : lookup (λ k. c.args.page == k) es ≡ Some c.in-Some.waiters.now = ap (λ (f : ℕ → ℕ → Bool). lookup (f c.args.page) es) (sym same_pages) ∙ sym c.in-Some.ensures.value in
    let is = sym (asked_entries c.args.page es) ∙ ap is_some found in
    ap (λ b. cond b Joined New) (sym is)

pub returns-in-Some-clause-entries : goal.returns-in-Some-clause-entries
returns-in-Some-clause-entries c =
    let es = c.args.waiting.now.entries in
    let found : lookup (λ k. c.args.page == k) es ≡ Some c.in-Some.waiters.now = ap (λ (f : ℕ → ℕ → Bool). lookup (f c.args.page) es) (sym same_pages) ∙ sym c.in-Some.ensures.value in
    let is = sym (asked_entries c.args.page es) ∙ ap is_some found in
    let distinct = subst (λ (f : ℕ → ℕ → Bool). IsDistinct f (keys_of es)) same_pages c.get_mut.ensures.unique in
    ap entries (c.get_mut.follows.holds c.push.new.self).0
    ∙ ap (λ (f : ℕ → ℕ → Bool). entries (set_value (f c.args.page) es c.push.new.self)) same_pages
    ∙ join_entries c.args.page c.args.vcpu es c.in-Some.waiters.now c.push.new.self distinct found c.in_ok-push.ensures.items
    ∙ ap (λ b. cond b (joined c.args.page c.args.vcpu (entries es)) (entries es ++ entry c.args.page c.args.vcpu ∷ [])) (sym is)

pub returns-clause-told : goal.returns-clause-told
returns-clause-told c =
    let es = c.args.waiting.now.entries in
    let none : lookup (λ k. c.args.page == k) es ≡ None = ap (λ (f : ℕ → ℕ → Bool). lookup (f c.args.page) es) (sym same_pages) ∙ sym c.in_default.ensures.value in
    let is = sym (asked_entries c.args.page es) ∙ ap is_some none in
    ap (λ b. cond b Joined New) (sym is)

pub returns-clause-entries : goal.returns-clause-entries
returns-clause-entries c =
    let es = c.args.waiting.now.entries in
    let none : lookup (λ k. c.args.page == k) es ≡ None = ap (λ (f : ℕ → ℕ → Bool). lookup (f c.args.page) es) (sym same_pages) ∙ sym c.in_default.ensures.value in
    let is = sym (asked_entries c.args.page es) ∙ ap is_some none in
    let items = c.in_ok-push-2.ensures.items ∙ ap (λ xs. xs ++ c.args.vcpu ∷ []) c.new-vcpus.ensures.items in
    ap entries c.in_ok-insert.ensures.entries
    ∙ ap (λ (f : ℕ → ℕ → Bool). entries (insert_entry f c.get_mut.follows.lender-at-none.entries c.args.page c.push-2.new.self)) same_pages
    ∙ insert_entries c.args.waiting.now c.get_mut.follows.lender-at-none c.args.page c.args.vcpu c.push-2.new.self c.get_mut.follows.holds-at-none none items
    ∙ ap (λ b. cond b (joined c.args.page c.args.vcpu (entries es)) (entries es ++ entry c.args.page c.args.vcpu ∷ [])) (sym is)
