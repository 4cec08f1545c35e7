-- The text of the story of a session.
use Rattle.std.specs.Prelude.{◌≡◌, ℕ, List, [], ◌∷◌, ◌++◌}
use Rattle.text_lines.specs.Text.{ended}
use Rattle.migration_types.specs.Sessions.{Recorded}
use Rattle.audit_report.specs.declared.report.Report.{Report}
use Rattle.audit_report.specs.ReportText.{first_line_by}
use Rattle.audit_report.specs.MissingText.{missing_text}
use Rattle.audit_report.specs.RefusalText.{refusal_text}
use Rattle.completeness.specs.declared.lack.Lack.{Lack}
use Rattle.story_words.specs.declared.sentences.Sentence.{Sentence}
use Rattle.session_story.specs.declared.topic_stories.TopicStory.{TopicStory}
use Rattle.migration_types.specs.declared.topic.Topic.{Topic}
use Rattle.story_words.specs.Lacks.{missing_told}
use Rattle.story_words.specs.Sentences.{told_in_full}
use Rattle.session_story.specs.Topics.{IsTold}
use Rattle.story_words.specs.Writing.{AreWritten, IsLine}

-- these are the words of exactly the sentences of the story on this topic
pub record AreWordsOn (IsWritten : Sentence → List ℕ → Type 0) (s : Recorded) (r : Report) (topic : Topic) (words : List ℕ) : Type 0 where
  pub told : TopicStory
  pub is_told : IsTold s r topic told
  pub written : AreWritten IsWritten (told_in_full s r told) words

-- The text is the first line of the report, with its line number mapped, and then the words of the story on this topic,
-- each sentence on a line of its own.
pub record IsToldText (tell : ℕ → ℕ) (s : Recorded) (r : Report) (topic : Topic) (text : List ℕ) : Type 0 where
  pub words : List ℕ
  pub are_words : AreWordsOn (λ _. IsLine) s r topic words
  pub text_is : text ≡ ended (first_line_by tell r ∷ []) ++ words

-- the line that says what is missing, with its line number mapped, and then the words about what the session lacks
pub record IsLackingText (tell : ℕ → ℕ) (s : Recorded) (m : Lack) (text : List ℕ) : Type 0 where
  pub words : List ℕ
  pub written : AreWritten (λ _. IsLine) (missing_told s m) words
  pub text_is : text ≡ missing_text tell s m ++ words

-- the line that says where a text is refused, and then a line about what that means
pub record IsRefusedText (line : ℕ) (text : List ℕ) : Type 0 where
  pub words : List ℕ
  pub is_line : IsLine words
  pub text_is : text ≡ refusal_text line ++ words
