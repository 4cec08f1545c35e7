-- The line of a certificate that does not fit a session, and the words about it.
use Rattle.std.specs.Prelude.{◌≡◌, ℕ, List, Option, Some, None}
use Rattle.cert_check.specs.declared.verdict.Verdict.{Verdict}
use Rattle.cert_check.specs.declared.verdict.Verdict.TheVariants.{Pages, Runs, Page}
use Rattle.refusal_words.specs.Placed.{AddsAt}

-- the line of the certificate that does not fit, if the verdict is about one: the number of pages, a run or `end`, or
-- an entry
abbrev pub misfit_line : Verdict → Option ℕ
misfit_line Pages = Some 2
misfit_line (Runs line) = Some line
misfit_line (Page line) = Some line
misfit_line other = None

-- words about such a line are added, or nothing if there is no line
abbrev pub AddsOn : List ℕ → Option ℕ → List ℕ → List ℕ → Type 0
AddsOn name None before after = after ≡ before
AddsOn name (Some line) before after = AddsAt name line before after

-- one line of words is added, which begins with the name and the line that does not fit; or nothing if there is no such
-- line
abbrev pub AddsMisfit : List ℕ → Verdict → List ℕ → List ℕ → Type 0
AddsMisfit name verdict = AddsOn name (misfit_line verdict)
