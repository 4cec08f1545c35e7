-- Records as a recorder writes them: the records of a session, and three that replace receipts if nobody writes a log
-- of the link or of the lane. Those three have the number that came with the message: for an ask it is a number of the
-- pager's log, and otherwise of the source's log.
use Rattle.std.specs.Prelude.{ℕ, ◌≤◌, List, ◌++◌, codes}
use Rattle.std.specs.Fmt.{decimal}
use Rattle.migration_types.specs.declared.version.Version.{Version}
use Rattle.migration_types.specs.Extents.{Extent}
use Rattle.session_grammar.specs.Records.{source_line, pager_line}
use Rattle.recordings.specs.Recordings.{IsSourceRecOf, IsPagerRecOf}
use Rattle.recordings.specs.Wide.{source_of, pager_of}
use Rattle.recorder_files.specs.declared.raw.RawSource.{RawSource}
use Rattle.recorder_files.specs.declared.raw.RawSource.TheVariants.{Own as OwnSource, AskSent}
use Rattle.recorder_files.specs.declared.raw.RawPager.{RawPager}
use Rattle.recorder_files.specs.declared.raw.RawPager.TheVariants.{Own as OwnPager, GotSent, PullSent}

-- the number that a recorder returns if a record was not written
abbrev pub lost_number : ℕ
lost_number = 4294967295

-- the lines of these records
abbrev pub raw_source_line : RawSource → List ℕ
raw_source_line (OwnSource rec) = source_line (source_of rec)
raw_source_line (AskSent asking) = codes "ask-sent " ++ decimal asking

abbrev pub raw_pager_line : RawPager → List ℕ
raw_pager_line (OwnPager rec) = pager_line (pager_of rec)
raw_pager_line (GotSent sending) = codes "got-sent " ++ decimal sending
raw_pager_line (PullSent sending) = codes "pull-sent " ++ decimal sending

-- their numbers are within a machine of this extent
abbrev pub IsRawSourceOf : Extent → RawSource → Type 0
IsRawSourceOf e (OwnSource rec) = IsSourceRecOf e (source_of rec)
IsRawSourceOf e (AskSent asking) = asking ≤ lost_number

abbrev pub IsRawPagerOf : Version → Extent → RawPager → Type 0
IsRawPagerOf version e (OwnPager rec) = IsPagerRecOf version e (pager_of rec)
IsRawPagerOf version e (GotSent sending) = sending ≤ lost_number
IsRawPagerOf version e (PullSent sending) = sending ≤ lost_number
