-- Marks of the records that are delivered.
use Rattle.std.specs.Prelude.{◌≡◌, ◌<◌, ℕ, Bool, false, not, ◌&&◌, ◌||◌, List, Option, length, slice_index_or}
use Rattle.migration_types.specs.declared.records.LinkRec.{LinkRec}
use Rattle.migration_types.specs.declared.records.SourceRec.{SourceRec}
use Rattle.migration_types.specs.declared.records.PagerRec.{PagerRec}
use Rattle.migration_types.specs.Sessions.{Recorded}
use Rattle.audit_model.specs.Shape.{down_sending, goes_down, is_want}
use Rattle.session_story.specs.Counted.{up_asking}
use Rattle.session_story.specs.declared.delivering.LinkTo.{LinkTo}
use Rattle.session_story.specs.declared.delivering.LinkTo.TheVariants.{Target, Source}
use Rattle.session_story.specs.declared.delivering.UnmarkedPacket.{UnmarkedPacket}
use Rattle.session_story.specs.declared.delivering.UnmarkedRequest.{UnmarkedRequest}

-- the marks with these set too
pub record AreMarked (given : ℕ → Bool) (before after : List Bool) : Type 0 where
  pub many : length after ≡ length before
  pub each : (m : ℕ) → m < length before → slice_index_or after m false ≡ (given m || slice_index_or before m false)

-- this many marks, of which these are set
pub record AreMarks (given : ℕ → Bool) (count : ℕ) (marks : List Bool) : Type 0 where
  pub many : length marks ≡ count
  pub each : (m : ℕ) → m < count → slice_index_or marks m false ≡ given m

-- whether the mark of this number is not set
abbrev pub has_no_mark : List Bool → ℕ → Bool
has_no_mark marks n = not (slice_index_or marks n false)

abbrev pub is_unmarked_packet : UnmarkedPacket → Recorded → ℕ → SourceRec → Bool
is_unmarked_packet q s n r = goes_down r && has_no_mark q.marks.items n

abbrev pub is_unmarked_request : UnmarkedRequest → Recorded → ℕ → PagerRec → Bool
is_unmarked_request q s n r = is_want r && has_no_mark q.marks.items n

-- the number of the record that the link delivers to this side
abbrev pub link_number : LinkTo → LinkRec → Option ℕ
link_number Target r = down_sending r
link_number Source r = up_asking r
