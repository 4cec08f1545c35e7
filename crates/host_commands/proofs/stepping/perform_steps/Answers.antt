use Rattle.std.proofs.Common.{◌≡◌, ◌∙◌, ◌⊎◌, ℕ, List, Option, ap, ap₂, inl, subst}
use Rattle.std.specs.Option.{option_map, option_or}
use Rattle.std.proofs.KnownBytes.{Keeps-refl}
use Rattle.std.proofs.lemmas.Result.{err_from_is_err_and}
use Rattle.command_texts.specs.declared.why.Telling.TheVariants.{Short}
use Rattle.command_texts.specs.Answers.{IsListStop, IsTextFault}
use Rattle.command_texts.specs.Reasons.{Place, TellsWhy, told_place}
use Rattle.command_texts.proofs.Beside.{why_gains}
use Rattle.command_texts.proofs.Endings.{not_read, stop_of_text, text_fault}
use Rattle.command_texts.proofs.Names.{map_or}
use Rattle.text_access.proofs.Fronts.{same_gains}
use Rattle.host_commands.specs.Steps.{IsStepsAnswer}
use Rattle.host_commands.proofs.Statuses.{steps_few}
use Rattle.host_commands.proofs.Writing.{fails, written_gains}
use Rattle.host_commands.proofs.stepping.perform_steps.Goals as goal

pub returns-in_err-found-clause-told : goal.returns-in_err-found-clause-told
returns-in_err-found-clause-told g c =
    let p = err_from_is_err_and c.from_residual.result c.from_residual.ensures.1 in
    let h = c.in_err-found.ensures.fault in
    let IsName = (λ (n : List ℕ). (n ≡ c.args.first.now) ⊎ (n ≡ c.args.second.now)) in
    rw (p.1, p.2) (not_read _ _ _ IsName _ _ (text_fault IsName _ h) h)

pub returns-in_err-found-clause-gains : goal.returns-in_err-found-clause-gains
returns-in_err-found-clause-gains g c = (same_gains _, same_gains _)

pub returns-in_err-status-clause-told : goal.returns-in_err-status-clause-told
returns-in_err-status-clause-told g c =
    let p = err_from_is_err_and c.from_residual-in_err-status.result c.from_residual-in_err-status.ensures.1 in
    let n = c.in_ok-found.ensures.named in
    let IsName = (λ (n : List ℕ). (n ≡ c.args.first.now) ⊎ (n ≡ c.args.second.now)) in
    rw (p.1, p.2) (fails IsListStop (IsTextFault IsName) (stop_of_text IsName) _ (λ (texts : List ℕ × List ℕ). IsStepsAnswer texts.0 texts.1) n.0 n.1 _ _ _ _ (c.in_err-status.ensures n.0.0 n.0.1 n.2 n.3))

pub returns-in_err-status-clause-gains : goal.returns-in_err-status-clause-gains
returns-in_err-status-clause-gains g c =
    let n = c.in_ok-found.ensures.named in
    (written_gains IsListStop (IsStepsAnswer n.0.0 n.0.1) _ _ c.write_steps.result (c.write_steps.ensures n.0.0 n.0.1 n.2 n.3), same_gains _)

pub returns-clause-few : goal.returns-clause-few
returns-clause-few g c =
    let n = c.in_ok-found.ensures.named in
    let h = c.in_ok-status.ensures n.0.0 n.0.1 n.2 n.3 in
    steps_few n.0 h.text c.in_ok-status.status h.is_answer

pub returns-clause-told : goal.returns-clause-told
returns-clause-told g c =
    let n = c.in_ok-found.ensures.named in
    let old = g.E.Write.contents c.args.console.now.errors in
    let new = g.E.Write.contents c.tell_why.new.errors in
    let place = ap (option_map told_place) c.earliest.ensures ∙ (map_or told_place _ _ ∙ ap₂ option_or n.4.2 n.5.2) in
    record {
      texts = n.0;
      are_texts = n.1;
      told = c.in_ok-status.ensures n.0.0 n.0.1 n.2 n.3;
      beside = record {
        one = n.4.0;
        other = n.5.0;
        is_one = n.4.1;
        is_other = n.5.1;
        between = new;
        behind = new;
        why = subst (λ (p : Option Place). TellsWhy Short p old new) place c.tell_why.ensures;
        more = inl (Keeps-refl new);
        noted = inl (Keeps-refl new);
      };
    }

pub returns-clause-gains : goal.returns-clause-gains
returns-clause-gains g c =
    let n = c.in_ok-found.ensures.named in
    (written_gains IsListStop (IsStepsAnswer n.0.0 n.0.1) _ _ c.write_steps.result (c.write_steps.ensures n.0.0 n.0.1 n.2 n.3), why_gains Short _ _ _ c.tell_why.ensures)
