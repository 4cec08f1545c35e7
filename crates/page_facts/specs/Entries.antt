-- The entries of a certificate, page after page.
use Rattle.std.specs.Prelude.{◌≡◌, ℕ, ◌<◌, ◌≤◌, List, Option, Some, slice_get}
use Rattle.std.specs.Option.{MatchOption}
use Rattle.migration_types.specs.declared.cert.Entry.{Entry}
use Rattle.migration_types.specs.Sessions.{Recorded}
use Rattle.audit_model.specs.Certificates.{IsRightEntry}

-- the entries of the pages from one up to another are right
abbrev pub AreRight : Recorded → List Entry → ℕ → ℕ → Type 0
AreRight s entries from to = (page : ℕ) (entry : Entry) → from ≤ page → page < to → slice_get entries page ≡ Some entry → IsRightEntry s page entry

-- from a page on, this is the first page whose entry is not right
pub record IsFirstWrong (s : Recorded) (entries : List Entry) (from page : ℕ) : Type 0 where
  pub entry : Entry
  pub is : slice_get entries page ≡ Some entry
  pub is_wrong : IsRightEntry s page entry → ⊥
  pub right_before : AreRight s entries from page

-- the result for the entries of the pages from one up to another
abbrev pub AreJudged : Recorded → List Entry → ℕ → ℕ → Option ℕ → Type 0
AreJudged s entries from to wrong = MatchOption wrong (AreRight s entries from to) (IsFirstWrong s entries from)
