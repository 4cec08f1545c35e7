-- No line of a text that gives an order has an LF.
use Rattle.std.specs.Prelude.{ℕ, ◌≤◌, List, ◌∷◌, ◌++◌, refl}
use Rattle.std.proofs.Common.{arith, subst, sym}
use Rattle.std.specs.List.{AllByRecursion}
use Rattle.std.specs.Fmt.{decimal}
use Rattle.text_lines.specs.Text.{IsLine}
use Rattle.text_lines.proofs.Plain.{plain_append, plain_decimal, plain_codes}
use Rattle.audit_model.specs.declared.reasons.PageReason.{PageReason}
use Rattle.audit_model.specs.declared.reasons.PageReason.TheVariants.{Read, Early, Given, Stale, Twice, Altered, Unfit, Over}
use Rattle.audit_model.specs.Reasons.{page_word}
use Rattle.migration_types.specs.declared.cert.Run.{Run}
use Rattle.cert_text.specs.inner.Plain.{plain_runs_text, plain_cert_runs}
use Rattle.cert_text.specs.declared.forms.OrderForm.{OrderForm}
use Rattle.cert_text.specs.declared.forms.OrderForm.TheVariants.{Runs, Faulty, Cert, Clean}
use Rattle.cert_text.specs.Order.{clean_line, faulty_key, faulty_line, IsLineNumber, SpellsAs, SpellsOrder}

plain_word : (reason : PageReason) → IsLine (page_word reason)
plain_word Read = plain_codes (page_word Read) refl
plain_word Early = plain_codes (page_word Early) refl
plain_word Given = plain_codes (page_word Given) refl
plain_word Stale = plain_codes (page_word Stale) refl
plain_word Twice = plain_codes (page_word Twice) refl
plain_word Altered = plain_codes (page_word Altered) refl
plain_word Unfit = plain_codes (page_word Unfit) refl
plain_word Over = plain_codes (page_word Over) refl

plain_faulty : (line : ℕ) (reason : PageReason) → IsLineNumber line → IsLine (faulty_line line reason)
plain_faulty line reason fits =
    let few : line ≤ 4294967295 = fits.1 in
    plain_append faulty_key (decimal line ++ 32 ∷ page_word reason) (plain_codes faulty_key refl)
    (plain_append (decimal line) (32 ∷ page_word reason) (plain_decimal line (omega arith)) ((λ e. absurd (omega arith)), plain_word reason))

plain_as : (form : OrderForm) (order : List Run) (lines : List (List ℕ)) → SpellsAs form order lines → AllByRecursion IsLine lines
plain_as Runs order lines s = plain_runs_text order lines s
plain_as (Faulty line reason) order lines s = subst (AllByRecursion IsLine) (sym s.1.2) (plain_faulty line reason s.0, plain_runs_text order s.1.0 s.1.1)
plain_as Cert order lines s = plain_cert_runs order lines s
plain_as Clean order lines s = subst (AllByRecursion IsLine) (sym s.2) (plain_codes clean_line refl, plain_cert_runs order s.0 s.1)

pub plain_order : (order : List Run) (lines : List (List ℕ)) → SpellsOrder order lines → AllByRecursion IsLine lines
plain_order order lines s = plain_as s.0 order lines s.1
