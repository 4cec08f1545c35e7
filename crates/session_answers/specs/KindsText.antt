-- The faults of a page by kind, as a JSON object has them.
use Rattle.std.specs.Prelude.{ℕ, List, [], ◌∷◌, ◌++◌, Option, Some, None, codes}
use Rattle.std.specs.List.{flat_map}
use Rattle.migration_types.specs.Sessions.{Recorded}
use Rattle.audit_model.specs.declared.reasons.PageReason.{PageReason}
use Rattle.audit_model.specs.Reasons.{page_reasons, page_word}
use Rattle.session_story.specs.Kinds.{log_of, tally_of}
use Rattle.session_story.specs.declared.kinds.Kinds.{Kinds}
use Rattle.session_story.specs.declared.topic_stories.FullPageStory.{FullPageStory}
use Rattle.session_answers.specs.declared.kinds.ToldKind.{ToldKind}
use Rattle.session_answers.specs.CausesText.{line_shown}
use Rattle.session_answers.specs.JsonText.{listed, number, record_at}

-- the faults of a page for a reason: how many there are, and the first of them, as in
-- {"reason":"read","count":12,"line":40,"log":"guest","record":33}
unfoldable pub told_kind : ToldKind → List ℕ
told_kind k = codes "{\"reason\":\"" ++ page_word k.reason ++ codes "\"" ++ number (codes "count") k.count ++ record_at k.line (log_of k.reason) k.first ++ codes "}"

abbrev pub shown_at : PageReason → ℕ → ℕ → Option ℕ → List ToldKind
shown_at reason count first None = []
shown_at reason count first (Some line) = record { reason = reason; count = count; first = first; line = line } ∷ []

-- the faults that a tally counts, if there are some, with the line of the first mapped
abbrev pub counted_by : (ℕ → ℕ) → Recorded → PageReason → ℕ → Option ℕ → List ToldKind
counted_by tell s reason count None = []
counted_by tell s reason count (Some first) = shown_at reason count first (line_shown tell s (log_of reason, first))

abbrev pub kind_of : (ℕ → ℕ) → Recorded → Kinds → PageReason → List ToldKind
kind_of tell s kinds reason = counted_by tell s reason (tally_of reason kinds).count (tally_of reason kinds).first

-- all faults of a page, in the order of the reasons
abbrev pub kinds_of : (ℕ → ℕ) → Recorded → Kinds → List ToldKind
kinds_of tell s kinds = flat_map (kind_of tell s kinds) page_reasons

-- those of the page that a story is about, if it is about one
unfoldable pub faults_told : (ℕ → ℕ) → Recorded → Option FullPageStory → List ℕ
faults_told tell s None = []
faults_told tell s (Some t) = listed (codes "faults") told_kind (kinds_of tell s t.kinds)
