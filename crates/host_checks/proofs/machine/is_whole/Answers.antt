use Rattle.std.proofs.Common.{◌⊎◌, inl, inr, rules, ℕ, Bool, true, false, List, length, refl, sym, ap, ◌∙◌}
use Rattle.std.specs.Prelude.{slice_get, MatchBool}
use Rattle.migration_types.specs.declared.records.GuestRec.{GuestRec}
use Rattle.migration_types.specs.declared.cert.Entry.{Entry}
use Rattle.audit_model.specs.Flat.{halt_place, in_ledger}
use Rattle.host_checks.proofs.Owing.{each_owed, some_owed, flat_store, other_store}
use Rattle.host_checks.proofs.machine.is_whole.Goals as goal

pub returns-then-not-owed_are_placed : goal.returns-then-not-owed_are_placed
returns-then-not-owed_are_placed c =
    let s = c.args.session.now in
    let halt = c.halt_place-halt.ensures.place ∙ ap halt_place c.guest.ensures in
    let one = c.if-not-owed_are_placed.ensures in
    inl (some_owed s c.args.cert.now (c.worlds_follow_cursors.ensures.worlds s c.requires.shape) c.requires.right one.0
    (ap (λ (es : List Entry). slice_get es one.0) (sym c.entries.ensures) ∙ one.1)
    (ap (λ (n : ℕ). in_ledger s n one.0) (sym halt) ∙ ap (λ (f : ℕ → Bool). f one.0) (sym c.run_to.ensures.ledger) ∙ one.2))

both : {A B P Q : Type 0} → (b : Bool) → MatchBool b P Q → A → (P → B) → (Q → B → ⊥) → MatchBool b (A × B) ((A → ⊥) ⊎ (B → ⊥))
both true told a is not = (a, is told)
both false told a is not = inr (not told)

pub returns : goal.returns
returns c =
    let s = c.args.session.now in
    let halt = c.halt_place-halt.ensures.place ∙ ap halt_place c.guest.ensures in
    let last = c.run_to-2.new.machine.frames in
    let all = ap (λ (xs : List GuestRec). length xs) c.guest-2.ensures in
    let owed = each_owed s c.args.cert.now (c.worlds_follow_cursors.ensures.worlds s c.requires.shape) c.requires.right (λ page entry is out.
    c.if-not-owed_are_placed.ensures page entry
    (ap (λ (es : List Entry). slice_get es page) c.entries.ensures ∙ is)
    (ap (λ (f : ℕ → Bool). f page) c.run_to.ensures.ledger ∙ ap (λ (n : ℕ). in_ledger s n page) halt ∙ out)) in
    both c.are_same.result c.are_same.ensures owed
    (λ same. flat_store s c.args.store.now last (length c.guest-2.result.now) (search rules) c.run_to-2.ensures.sized.frames c.run_to-2.ensures.memory all same)
    (λ one. other_store s c.args.store.now last (length c.guest-2.result.now) c.run_to-2.ensures.sized.frames c.run_to-2.ensures.memory all one.0 one.1 one.2)
