-- What becomes of a session that is to be drawn, by what was read of its texts.
use Rattle.std.proofs.Common.{◌≡◌, ℕ, ◌<◌, List, arith, subst, refl, codes, sym, ap, ◌∙◌, Option, Some, None}
use Rattle.std.specs.Borrow.{Bor}
use Rattle.clap.specs.Words.{Text}
use Rattle.command_words.specs.declared.requests.Request.{Request}
use Rattle.command_words.specs.declared.requests.Request.TheVariants.{Draw}
use Rattle.migration_types.specs.declared.topic.Topic.{Topic}
use Rattle.command_words.specs.Table.{asked_names}
use Rattle.std.specs.Prelude.{Result, Ok, Err, IfOk}
use Rattle.std.specs.declared.alloc.AllocError.{AllocError}
use Rattle.text_lines.specs.Answer.{IsRead}
use Rattle.migration_types.specs.declared.cert.Run.{Run}
use Rattle.migration_types.specs.Sessions.{Recorded}
use Rattle.session_log.specs.Grammar.{SpellsSession}
use Rattle.cert_text.specs.Order.{SpellsOrder}
use Rattle.audit_report.specs.declared.report.Report.{Report}
use Rattle.audit_report.specs.Reports.{IsReport}
use Rattle.order_picture.specs.Svg.{IsPictureText, IsPictureTextAlong}
use Rattle.command_texts.specs.declared.answer.Answer.{Answer}
use Rattle.command_texts.specs.Answers.{Says, numbered}
use Rattle.commands.specs.Drawings.{Drawing, SessionText, RunsText, Drawn, IsDrawing, IsDrawingAlong, IsDrawn, IsDrawnAlong, IsDrawAnswer, IsDrawAlongAnswer, drawing_text, drawing_status}
use Rattle.command_texts.proofs.Said.{says_right}

-- what was told of a session alone, and of a session with runs, was told of what the words ask for
pub told_alone : (job : Request (Bor Text)) (topic : Topic) (name : Bor Text) (further : Option (Bor Text)) (P : Request Text → Type 0) → job ≡ Draw topic name further → further ≡ None → P (Draw topic name.now None) → P (asked_names job)
told_alone job topic name further P is none p = subst (λ (a : Request (Bor Text)). P (asked_names a)) (sym (is ∙ ap (λ (o : Option (Bor Text)). Draw topic name o) none)) p

pub told_along : (job : Request (Bor Text)) (topic : Topic) (name second : Bor Text) (further : Option (Bor Text)) (P : Request Text → Type 0) → job ≡ Draw topic name further → further ≡ Some second → P (Draw topic name.now (Some second.now)) → P (asked_names job)
told_along job topic name second further P is some p = subst (λ (a : Request (Bor Text)). P (asked_names a)) (sym (is ∙ ap (λ (o : Option (Bor Text)). Draw topic name o) some)) p

drawing_few : (d : Drawing) → drawing_status d < 2
drawing_few (SessionText line) = omega arith
drawing_few (RunsText line) = omega arith
drawing_few (Drawn text) = omega arith

pub draw_few : (topic : Topic) (session text : List ℕ) (status : ℕ) → IsDrawAnswer topic session text status → status < 2
draw_few topic session text status h = rw h.is_status (drawing_few h.value)

pub draw_along_few : (topic : Topic) (texts : List ℕ × List ℕ) (text : List ℕ) (status : ℕ) → IsDrawAlongAnswer topic texts text status → status < 2
draw_along_few topic texts text status h = rw h.is_status (drawing_few h.value)

pub is_drawn : (topic : Topic) (s : Recorded) (r : Report) (text : List ℕ) → IsReport s r → IsPictureText s r topic text → IsDrawn topic s text
is_drawn topic s r text is_report is_text = (r, is_report, is_text)

pub is_drawn_along : (topic : Topic) (runs other : List Run) (s : Recorded) (r : Report) (text : List ℕ) → IsReport s r → IsPictureTextAlong s r topic other text → other ≡ runs → IsDrawnAlong topic runs s text
is_drawn_along topic runs other s r text is_report is_text same = subst (λ (order : List Run). IsDrawnAlong topic order s text) same (r, is_report, is_text)

module _ (topic : Topic) (session : List ℕ) (read : Result Recorded ℕ) (is_read : IsRead SpellsSession session read) where
  pub drawn : (s : Recorded) (text : List ℕ) → read ≡ Ok s → IsDrawn topic s text → IsDrawAnswer topic session text 0
  drawn s text is svg = record { value = Drawn text; is_right = (s, subst (IsRead SpellsSession session) is is_read, svg); is_text = refl; is_status = refl }

  pub refused_session : (line : ℕ) (found : Result Answer AllocError) → read ≡ Err line → IfOk found (λ a. Says a (numbered (codes "session-text line ") line) 1) → IfOk found (λ a. IsDrawAnswer topic session a.text.items a.status)
  refused_session line found is says = says_right (IsDrawing topic session) drawing_text drawing_status (SessionText line) found (subst (IsRead SpellsSession session) is is_read) says

  pub refused_along : (runs : List ℕ) (line : ℕ) (found : Result Answer AllocError) → read ≡ Err line → IfOk found (λ a. Says a (numbered (codes "session-text line ") line) 1) → IfOk found (λ a. IsDrawAlongAnswer topic (session, runs) a.text.items a.status)
  refused_along runs line found is says = says_right (IsDrawingAlong topic session runs) drawing_text drawing_status (SessionText line) found (subst (IsRead SpellsSession session) is is_read) says

  module _ (runs : List ℕ) (other : Result (List Run) ℕ) (other_read : IsRead SpellsOrder runs other) where
    pub drawn_along : (s : Recorded) (order : List Run) (text : List ℕ) → read ≡ Ok s → other ≡ Ok order → IsDrawnAlong topic order s text → IsDrawAlongAnswer topic (session, runs) text 0
    drawn_along s order text is same svg = record { value = Drawn text; is_right = (s, order, subst (IsRead SpellsSession session) is is_read, subst (IsRead SpellsOrder runs) same other_read, svg); is_text = refl; is_status = refl }

    pub refused_runs : (s : Recorded) (line : ℕ) (found : Result Answer AllocError) → read ≡ Ok s → other ≡ Err line → IfOk found (λ a. Says a (numbered (codes "runs-text line ") line) 1) → IfOk found (λ a. IsDrawAlongAnswer topic (session, runs) a.text.items a.status)
    refused_runs s line found is same says = says_right (IsDrawingAlong topic session runs) drawing_text drawing_status (RunsText line) found (s, subst (IsRead SpellsSession session) is is_read, subst (IsRead SpellsOrder runs) same other_read) says
