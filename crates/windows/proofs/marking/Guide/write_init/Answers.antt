use Rattle.std.proofs.Common.{◌++◌, ◌∷◌, [], false, true, ◌∙◌, subst, sym}
use Rattle.std.proofs.lemmas.List.{append-nil}
use Rattle.session_grammar.specs.Grammar.{page_line}
use Rattle.audit_model.specs.Windows.{keeps_init, new_init}
use Rattle.windows.specs.Pages.{numbers_of}
use Rattle.windows.specs.inner.Met.{init_lines, IsSection}
use Rattle.windows.proofs.Lines.{tested_next}
use Rattle.windows.proofs.marking.Guide.write_init.Goals as goal

pub returns-in_ok-push_init : goal.returns-in_ok-push_init
returns-in_ok-push_init c = λ init is.
    let number = numbers_of c.args.self.now.window in
    tested_next page_line (new_init number) (keeps_init number) init _ true _ (sym c.if-has.true ∙ c.has.ensures) (subst (λ p. IsSection c.push_init.new.self (init_lines number init ++ page_line p ∷ [])) c.new_init.ensures (c.in_ok-push_init.ensures _ is))

pub returns-else-has : goal.returns-else-has
returns-else-has c = λ init is.
    let number = numbers_of c.args.self.now.window in
    tested_next page_line (new_init number) (keeps_init number) init _ false _ (sym c.if-has.false ∙ c.has.ensures) (subst (IsSection c.args.section.now) (sym (append-nil (init_lines number init))) is)
