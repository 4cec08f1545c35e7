-- The outcome of a replay by what was read of the texts: the session, and the order.
use Rattle.std.proofs.Common.{◌≡◌, ℕ, List, subst}
use Rattle.std.specs.Prelude.{Result, Ok, Err, IfOk}
use Rattle.std.specs.declared.alloc.AllocError.{AllocError}
use Rattle.text_lines.specs.Text.{IsSpelling}
use Rattle.migration_types.specs.Sessions.{Recorded}
use Rattle.session_log.specs.Grammar.{SpellsSession}
use Rattle.migration_types.specs.declared.cert.Run.{Run}
use Rattle.cert_text.specs.Order.{SpellsOrder}
use Rattle.judged_texts.specs.declared.replaying.Outcome.{Outcome}
use Rattle.judged_texts.specs.declared.replaying.Outcome.TheVariants.{SessionText, RunsText, Shape, NoMerging, Broken, Safe}
use Rattle.judged_texts.specs.Replayed.{IsReplayed, IsAlong, IsOutcome}

pub outcome_of : (first second : List ℕ) (s : Recorded) (found : Result Outcome AllocError) → IsSpelling SpellsSession s first → IfOk found (IsAlong s second) → IfOk found (IsOutcome first second)
outcome_of first second s (Err e) spelled h = tt
outcome_of first second s (Ok (SessionText line)) spelled h = absurd h.2
outcome_of first second s (Ok (RunsText line)) spelled h = (s, spelled, h)
outcome_of first second s (Ok (Shape fault)) spelled h = (s, spelled, h)
outcome_of first second s (Ok NoMerging) spelled h = (s, spelled, h)
outcome_of first second s (Ok (Broken line)) spelled h = (s, spelled, h)
outcome_of first second s (Ok Safe) spelled h = (s, spelled, h)

along_order : (s : Recorded) (text : List ℕ) (order : List Run) (found : Result Outcome AllocError) → IsSpelling SpellsOrder order text → IfOk found (IsReplayed s order) → IfOk found (IsAlong s text)
along_order s text order (Err e) spelled h = tt
along_order s text order (Ok (SessionText line)) spelled h = absurd h
along_order s text order (Ok (RunsText line)) spelled h = absurd h
along_order s text order (Ok (Shape fault)) spelled h = (order, spelled, h)
along_order s text order (Ok NoMerging) spelled h = (order, spelled, h)
along_order s text order (Ok (Broken line)) spelled h = (order, spelled, h)
along_order s text order (Ok Safe) spelled h = (order, spelled, h)

pub along_of : (s : Recorded) (text : List ℕ) (told order : List Run) (found : Result Outcome AllocError) → told ≡ order → IsSpelling SpellsOrder order text → IfOk found (IsReplayed s told) → IfOk found (IsAlong s text)
along_of s text told order found same spelled h = along_order s text order found spelled (subst (λ (o : List Run). IfOk found (IsReplayed s o)) same h)
