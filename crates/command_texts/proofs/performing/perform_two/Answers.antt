use Rattle.std.proofs.Common.{List, ℕ, ◌≡◌, ◌⊎◌}
use Rattle.std.proofs.lemmas.Result.{err_from_is_err_and}
use Rattle.command_texts.proofs.Endings.{ends_of_read, not_read, text_fault}
use Rattle.text_access.proofs.Fronts.{same_gains}
use Rattle.command_texts.proofs.performing.perform_two.Goals as goal

pub returns-in_err-read-clause-told : goal.returns-in_err-read-clause-told
returns-in_err-read-clause-told g c =
    let p = err_from_is_err_and c.from_residual.result c.from_residual.ensures.1 in
    let h = c.in_err-read.ensures.fault in
    let IsName = (λ (n : List ℕ). (n ≡ c.args.first.now) ⊎ (n ≡ c.args.second.now)) in
    rw (p.1, p.2) (not_read _ _ _ IsName _ _ (text_fault IsName _ h) h)

pub returns-in_err-read-clause-gains : goal.returns-in_err-read-clause-gains
returns-in_err-read-clause-gains g c = (same_gains _, same_gains _)

pub returns-clause-few : goal.returns-clause-few
returns-clause-few g c =
    let n = c.in_ok-read.ensures.named in
    c.answer_two-done.ensures.few n.0 n.2 n.3

pub returns-clause-told : goal.returns-clause-told
returns-clause-told g c =
    let n = c.in_ok-read.ensures.named in
    ends_of_read _ _ n.0 n.1 (λ (n : List ℕ). (n ≡ c.args.first.now) ⊎ (n ≡ c.args.second.now)) _ _ _ c.answer_two-done.result (c.answer_two-done.ensures.told n.0 n.2 n.3 n.4 n.5)

pub returns-clause-gains : goal.returns-clause-gains
returns-clause-gains g c =
    let n = c.in_ok-read.ensures.named in
    c.answer_two-done.ensures.gains n.0 n.2 n.3
