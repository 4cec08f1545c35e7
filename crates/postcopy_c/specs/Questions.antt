-- The answer of the call that takes several questions about one session.
use Rattle.std.specs.Prelude.{◌≡◌, ◌⊎◌, ◌<◌, ℕ, List, length, Option, Some, None, Vec}
use Rattle.std.specs.Global.{Global}
use Rattle.std.specs.List.{AllZip, Contains, concat}
use Rattle.completeness.specs.declared.lack.Extent.TheVariants.{Whole, Pages}
use Rattle.judged_texts.specs.declared.auditing.TextAudit.{TextAudit}
use Rattle.judged_texts.specs.declared.audit_part.AuditPart.TheVariants as wanted
use Rattle.session_answers.specs.declared.forms.AnswerForm.TheVariants as form
use Rattle.session_answers.specs.declared.forms.Story.TheVariants as story
use Rattle.migration_types.specs.declared.topic.Topic.TheVariants as topic
use Rattle.postcopy_c.specs.declared.answer.PostcopyAnswer.{PostcopyAnswer}
use Rattle.postcopy_c.specs.declared.asking.PostcopyQuestion.{PostcopyQuestion}
use Rattle.postcopy_c.specs.declared.showing.ShownAs.{ShownAs}
use Rattle.postcopy_c.specs.declared.showing.ShownAs.TheVariants.{Told, Picture, Lack}
use Rattle.postcopy_c.specs.Numbers.{audited_numbers, no_memory, numbers}
use Rattle.postcopy_c.specs.Answers.{IsPut}
use Rattle.postcopy_c.specs.Texts.{ends_from}
use Rattle.postcopy_c.specs.Showings.{AreShown}

-- The table of questions: what each number asks to be shown, and about which page or line. Any other number is unknown.
pub record IsAsked (question : PostcopyQuestion) (asked : Option ShownAs) : Type 0 where
  pub audit : question.asks ≡ 1 → asked ≡ Some (Told (form.Lines wanted.Report))
  pub certify : question.asks ≡ 2 → asked ≡ Some (Told (form.Lines wanted.Certificate))
  pub audit_all : question.asks ≡ 3 → asked ≡ Some (Told form.AllFaults)
  pub missing : question.asks ≡ 4 → asked ≡ Some (Lack Whole)
  pub missing_pages : question.asks ≡ 5 → asked ≡ Some (Lack Pages)
  pub explain : question.asks ≡ 6 → asked ≡ Some (Told (form.Story (story.Words topic.Report)))
  pub explain_page : question.asks ≡ 7 → asked ≡ Some (Told (form.Story (story.Words (topic.Page question.about))))
  pub explain_line : question.asks ≡ 8 → asked ≡ Some (Told (form.Story (story.Words (topic.Line question.about))))
  pub draw : question.asks ≡ 9 → asked ≡ Some (Picture topic.Report)
  pub draw_page : question.asks ≡ 10 → asked ≡ Some (Picture (topic.Page question.about))
  pub audit_object : question.asks ≡ 11 → asked ≡ Some (Told form.Object)
  pub audit_all_object : question.asks ≡ 12 → asked ≡ Some (Told form.AllFaultsObject)
  pub explain_object : question.asks ≡ 13 → asked ≡ Some (Told (form.Story (story.Object topic.Report)))
  pub none : (question.asks ≡ 0) ⊎ (13 < question.asks) → asked ≡ None

-- what each of these questions asks to be shown, in order
abbrev pub AreAsked : List PostcopyQuestion → List ShownAs → Type 0
AreAsked questions asked = AllZip (λ question shown_as. IsAsked question (Some shown_as)) questions asked

-- one of the questions has an unknown number
abbrev pub HasUnknown : List PostcopyQuestion → Type 0
HasUnknown questions = (question : PostcopyQuestion) × Contains questions question × IsAsked question None

-- what each question asks to be shown, or `None` if one is unknown
abbrev pub AsksAll : List PostcopyQuestion → Option (Vec ShownAs Global) → Type 0
AsksAll questions (Some asked) = AreAsked questions asked.items
AsksAll questions None = HasUnknown questions

-- The audit of the bytes, in numbers. The room has the texts that show it, one for each question, one after another.
-- The ends say where each text ends.
pub record TellsAll (asked : List ShownAs) (session ends_before ends_after before after : List ℕ) (answer : PostcopyAnswer) : Type 0 where
  pub audited : TextAudit
  pub texts : List (List ℕ)
  pub are_shown : AreShown asked session audited texts
  pub are_numbers : answer ≡ audited_numbers audited (length (concat texts))
  pub is_put : IsPut (concat texts) before after
  pub are_ends : IsPut (ends_from 0 texts) ends_before ends_after

-- this is the whole answer, and nothing is written
pub record SaysOnly (said : PostcopyAnswer) (ends_before ends_after before after : List ℕ) (answer : PostcopyAnswer) : Type 0 where
  pub are_numbers : answer ≡ said
  pub ends_stay : ends_after ≡ ends_before
  pub stays : after ≡ before

-- what is asked, or memory ran out
abbrev pub IsToldAll : List ShownAs → List ℕ → List ℕ → List ℕ → List ℕ → List ℕ → PostcopyAnswer → Type 0
IsToldAll asked session ends_before ends_after before after answer =
    TellsAll asked session ends_before ends_after before after answer ⊎ SaysOnly no_memory ends_before ends_after before after answer

-- the answer to a list with an unknown question
abbrev pub no_question : PostcopyAnswer
no_question = numbers 18 0 0 0

-- What the questions ask, or that one of them is unknown, or that memory ran out. Each text is that of the call for
-- this question alone.
abbrev pub AreAnswers : List PostcopyQuestion → List ℕ → List ℕ → List ℕ → List ℕ → List ℕ → PostcopyAnswer → Type 0
AreAnswers questions session ends_before ends_after before after answer =
    ((asked : List ShownAs) × AreAsked questions asked × IsToldAll asked session ends_before ends_after before after answer)
    ⊎ (HasUnknown questions × SaysOnly no_question ends_before ends_after before after answer)
    ⊎ SaysOnly no_memory ends_before ends_after before after answer
