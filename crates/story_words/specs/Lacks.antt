-- The sentences about what a session lacks that does not tell of a whole migration.
use Rattle.std.specs.Prelude.{ℕ, List, [], ◌∷◌, ◌++◌, length, Option}
use Rattle.std.specs.Option.{option_map}
use Rattle.migration_types.specs.Receipts.{Name}
use Rattle.migration_types.specs.Sessions.{Recorded}
use Rattle.audit_model.specs.Shape.{delivers, is_halt, is_send_of}
use Rattle.completeness.specs.Complete.{is_all, is_back}
use Rattle.completeness.specs.declared.lack.Lack.{Lack}
use Rattle.completeness.specs.declared.lack.Lack.TheVariants as missing
use Rattle.page_facts.specs.Tables.{first_before}
use Rattle.session_story.specs.Named.{furthest}
use Rattle.session_story.specs.Pages.{carries, lane_carries}
use Rattle.session_story.specs.Scans.{last_before}
use Rattle.story_words.specs.Sentences.{listed}
use Rattle.story_words.specs.declared.sentences.Sentence.{Sentence}
use Rattle.story_words.specs.declared.sentences.Sentence.TheVariants as say

abbrev pub came_to : Recorded → ℕ → Option Name
came_to s page =
    furthest (first_before (λ m r. delivers s (is_send_of page) m) s.pager (length s.pager))
    (first_before (λ m. carries s page) s.link (length s.link))
    (first_before (λ m. lane_carries s page) s.lane (length s.lane))
    (first_before (λ m. is_send_of page) s.source (length s.source))

abbrev pub halted_of : Option ℕ → Option Sentence
halted_of halt = option_map (λ n. say.HaltedAt n) halt

abbrev pub started_of : Option ℕ → Option Sentence
started_of back = option_map (λ n. say.StartedAgainAt n) back

abbrev pub said_of : Option ℕ → Option Sentence
said_of said = option_map (λ n. say.SaidAt n) said

-- the sentences about what a session lacks
unfoldable pub lack_told : Recorded → Lack → List Sentence
lack_told s missing.Halt = say.NeverHalted ∷ []
lack_told s missing.Returned = say.Returned ∷ [] ++ listed (started_of (first_before (λ m. is_back) s.source (length s.source)))
lack_told s missing.Resume = say.NeverResumed ∷ [] ++ listed (halted_of (first_before (λ m. is_halt) s.guest (length s.guest)))
lack_told s (missing.Page page) = say.Owed page ∷ say.CameTo (came_to s page) ∷ []
lack_told s missing.All = say.NeverSaid ∷ []
lack_told s missing.Done = say.NeverLearned ∷ [] ++ listed (said_of (last_before (λ m. is_all) s.pager (length s.pager)))
lack_told s (missing.Taken n) = say.Untaken n ∷ []

unfoldable pub missing_told : Recorded → Lack → List Sentence
missing_told s m = say.NotWhole ∷ [] ++ lack_told s m
