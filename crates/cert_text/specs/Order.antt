-- The texts that give an order of a session's records. Numbers are in decimal, with no sign and no leading zero.
use Rattle.std.specs.Prelude.{◌≡◌, ◌≤◌, ℕ, List, ◌∷◌, ◌++◌, codes}
use Rattle.std.specs.Fmt.{decimal}
use Rattle.migration_types.specs.declared.cert.Run.{Run}
use Rattle.audit_model.specs.declared.reasons.PageReason.{PageReason}
use Rattle.audit_model.specs.Reasons.{page_word}
use Rattle.cert_text.specs.Runs.{SpellsRuns}
use Rattle.cert_text.specs.Grammar.{SpellsCertRuns}
use Rattle.cert_text.specs.declared.forms.OrderForm.{OrderForm}
use Rattle.cert_text.specs.declared.forms.OrderForm.TheVariants.{Runs, Faulty, Cert, Clean}

-- the first line of the report on a clean session
abbrev pub clean_line : List ℕ
clean_line = codes "clean"

abbrev pub faulty_key : List ℕ
faulty_key = codes "faulty line "

-- the first line of the report on a session with a fault, as in "faulty line 13 early"
abbrev pub faulty_line : ℕ → PageReason → List ℕ
faulty_line line reason = faulty_key ++ (decimal line ++ 32 ∷ page_word reason)

-- the lines of texts count from 1
abbrev pub IsLineNumber : ℕ → Type 0
IsLineNumber line = (1 ≤ line) × (line ≤ 4294967295)

-- these lines are a text below this line
abbrev pub SpellsBelow : {V : Type 0} → List ℕ → (V → List (List ℕ) → Type 0) → V → List (List ℕ) → Type 0
SpellsBelow line Spells v lines = (text : List (List ℕ)) × Spells v text × (lines ≡ line ∷ text)

-- these lines give the order of these runs in a form
abbrev pub SpellsAs : OrderForm → List Run → List (List ℕ) → Type 0
SpellsAs Runs order lines = SpellsRuns order lines
SpellsAs (Faulty line reason) order lines = IsLineNumber line × SpellsBelow (faulty_line line reason) SpellsRuns order lines
SpellsAs Cert order lines = SpellsCertRuns order lines
SpellsAs Clean order lines = SpellsBelow clean_line SpellsCertRuns order lines

-- These lines give the order of these runs: as a text of runs, as a certificate, or as a report with one of them below
-- its first line. As a report on a session with a fault:
--   faulty line 13 early
--   postcopy-runs 1
--   runs 2
--   run guest 3
--   run link 1
--   end
abbrev pub SpellsOrder : List Run → List (List ℕ) → Type 0
SpellsOrder order lines = (form : OrderForm) × SpellsAs form order lines
