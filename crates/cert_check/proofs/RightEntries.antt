-- The entries of all pages.
use Rattle.std.proofs.Common.{◌≡◌, ℕ, List, length, Option, Some, None, arith}
use Rattle.std.specs.Prelude.{MatchOption}
use Rattle.std.proofs.lemmas.Option.{slice_get_within}
use Rattle.migration_types.specs.declared.cert.Entry.{Entry}
use Rattle.migration_types.specs.Sessions.{Recorded}
use Rattle.page_facts.specs.Entries.{AreJudged}
use Rattle.cert_check.specs.Verdicts.{AreRightEntries, IsFirstBadPage}

-- from page 0 up to the last, right ones are right, and the first that is not is the first bad one
pub judged_all : (s : Recorded) (entries : List Entry) (pages : ℕ) (wrong : Option ℕ) → length entries ≡ pages → AreJudged s entries 0 pages wrong → MatchOption wrong (AreRightEntries s entries) (IsFirstBadPage s entries)
judged_all s entries pages None all are = λ page entry is. let lt = slice_get_within entries page entry is in are page entry (omega arith) (omega (arith, lt, all)) is
judged_all s entries pages (Some page) all first = record {
  entry = first.entry;
  is = first.is;
  is_wrong = first.is_wrong;
  right_before = λ other entry before is. first.right_before other entry (omega arith) before is;
}
