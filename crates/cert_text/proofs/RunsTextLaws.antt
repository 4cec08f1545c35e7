-- A text of runs is a header before the lines of its runs.
use Rattle.std.proofs.Common.{◌≡◌, ℕ, List, [], ◌∷◌, ◌++◌, sym, ap, ◌∙◌}
use Rattle.std.specs.Prelude.{Bool, true, false}
use Rattle.text_lines.specs.Text.{Begins}
use Rattle.migration_types.specs.declared.cert.Run.{Run}
use Rattle.migration_types.specs.declared.version.Version.TheVariants.{Two}
use Rattle.migration_types.specs.declared.size.Size.TheVariants.{Large}
use Rattle.cert_text.specs.Runs.{runs_text_header, runs_lines, SpellsRunLines, SpellsRuns}
use Rattle.cert_text.specs.inner.Held.{headed_by, IsHeaded}
use Rattle.cert_text.proofs.RunGoes.{one_list_of_runs}

under_header : (lines : List (List ℕ)) → Begins (SpellsRunLines Two Large) lines → Begins SpellsRuns (runs_text_header ∷ lines)
under_header lines b = (b.0, b.1, (b.2.0, ap (λ (t : List (List ℕ)). runs_text_header ∷ t) b.2.1))

pub headed_begins : (headed : Bool) (lines : List (List ℕ)) → Begins (SpellsRunLines Two Large) lines → IsHeaded headed lines → Begins SpellsRuns (headed_by headed lines)
headed_begins true lines b live = under_header lines b
headed_begins false lines b live =
    let u = under_header lines b in
    (u.0, runs_text_header ∷ (lines ++ u.1), u.2)

pub headed_one_text : (v w : List Run) (a more : List (List ℕ)) → SpellsRuns v a → SpellsRuns w (a ++ more) → (v ≡ w) × (more ≡ [])
headed_one_text v w a more s t =
    let whole = t.1 in
    let first = s.1 in
    let both : runs_text_header ∷ (runs_lines v ++ more) ≡ runs_text_header ∷ runs_lines w = ap (λ (x : List (List ℕ)). x ++ more) (sym s.1) ∙ t.1 in
    let tails : runs_lines v ++ more ≡ runs_lines w = cc in
    one_list_of_runs Two Large v w more s.0 t.0 tails

pub headed_one_list : (v : List Run) (a b : List (List ℕ)) → SpellsRuns v a → SpellsRuns v b → a ≡ b
headed_one_list v a b s t = s.1 ∙ sym t.1
