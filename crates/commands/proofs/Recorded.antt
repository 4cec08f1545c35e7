-- What `steps` writes is clean.
use Rattle.std.proofs.Common.{◌≡◌, ◌∙◌, ℕ, List, refl}
use Rattle.session_log.specs.Grammar.{session_lines}
use Rattle.judged_texts.specs.declared.audit_part.AuditPart.{AuditPart}
use Rattle.judge_commands.specs.Answers.{IsAuditAnswer}
use Rattle.session_answers.specs.Judged.{IsJudged, Judged, judged_status}
use Rattle.judge_commands.proofs.Judged.{judged_clean}
use Rattle.host_commands.specs.Steps.{AreSteps, EventsText, IsStepsAnswer, LogFull, Records, ScriptText, Steps as Stepped, steps_status, steps_text}

recorded_clean : (script events text : List ℕ) (steps : Stepped) → AreSteps script events steps → text ≡ steps_text steps → 0 ≡ steps_status steps → (j : Judged) → IsJudged text j → judged_status j ≡ 0
recorded_clean script events text (ScriptText line) are is zero j judged = absurd cc
recorded_clean script events text (EventsText line) are is zero j judged = absurd cc
recorded_clean script events text LogFull are is zero j judged = absurd cc
recorded_clean script events text (Records s) (scenario, es, is_script, are_events, recorded) is zero j judged =
    let f = recorded.promised.faultless in
    judged_clean s text f.faultless (recorded.core.order, f.merging) (session_lines s, (f.faultless.is_session, refl), is) j judged

pub steps_clean : (wanted : AuditPart) (script events session text : List ℕ) (status : ℕ) → IsStepsAnswer script events session 0 → IsAuditAnswer wanted session text status → status ≡ 0
steps_clean wanted script events session text status h k = k.is_status ∙ recorded_clean script events session h.value h.is_right h.is_text h.is_status k.value k.is_right
