use Rattle.std.proofs.Common.{◌≡◌, ◌∙◌, ◌++◌, List, ℕ, [], ◌∷◌, ap, sym, subst}
use Rattle.command_words.specs.declared.requests.Lacking.TheVariants.{Refused}
use Rattle.session_commands.specs.Texts.{IsSessionText}
use Rattle.session_commands.proofs.folders.text_of.Goals as goal

pub returns-in-Ok-eq0 : goal.returns-in-Ok-eq0
returns-in-Ok-eq0 g c =
    let w = c.perform_session.ensures.written (let is = c.in-Ok-eq0.is in let zero = c.in-Ok-eq0.field-0-is in cc) in
    let same : c.perform_session.new.console.output.items ≡ w.0 = w.2 ∙ ap (λ (xs : List ℕ). xs ++ w.0) c.new.ensures.items in
    let disk = c.args.disk.now in
    subst (IsSessionText (g.D.TextSource.names_in disk) (g.D.TextSource.bytes_of disk) (c.args.folder.now ∷ []) Refused) (sym same) w.1
