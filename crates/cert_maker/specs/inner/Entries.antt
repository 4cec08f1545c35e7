-- The one entry that can be right for a page, given its facts.
use Rattle.std.specs.Prelude.{◌≡◌, ℕ, Bool, true, false, List, length, Option, Some, None, slice_get, if◌then◌else◌}
use Rattle.std.specs.List.{list_any}
use Rattle.migration_types.specs.declared.records.PagerRec.{PagerRec}
use Rattle.migration_types.specs.declared.records.PagerRec.TheVariants.{Zero}
use Rattle.migration_types.specs.declared.cert.First.{First}
use Rattle.migration_types.specs.declared.cert.Entry.{Entry}
use Rattle.migration_types.specs.declared.cert.Entry.TheVariants.{Nothing, Fresh, Source, Balloon}
use Rattle.migration_types.specs.declared.version.Version.{Version}
use Rattle.migration_types.specs.declared.version.Version.TheVariants.{Two}
use Rattle.migration_types.specs.Sessions.{Recorded}
use Rattle.audit_model.specs.Names.{if_there}
use Rattle.audit_model.specs.Certificates.{is_fresh}
use Rattle.page_facts.specs.declared.facts.PageFacts.{PageFacts}
use Rattle.cert_maker.specs.Made.{IsMadeEntry}

abbrev pub touch_and_look : ℕ → ℕ → First
touch_and_look touch see = record { access = touch; see = see }

abbrev pub first_of : Option ℕ → Option ℕ → Option (Option First)
first_of None look = Some None
first_of (Some touch) look = if_there (λ see. Some (Some (touch_and_look touch see))) look

abbrev pub zeroed_at : ℕ → Option First → PagerRec → Option Entry
zeroed_at place first (Zero p) = Some (Balloon place first)
zeroed_at place first _ = None

-- the entry of a page with this placement, given the `send` whose contents that has
abbrev pub entry_at : Recorded → Option ℕ → ℕ → Option First → Option Entry
entry_at s (Some send) place first = Some (Source send place first)
entry_at s None place first = if_there (zeroed_at place first) (slice_get s.pager place)

-- the entry of a page that is not placed, given its first touch and whether that is a release
abbrev pub unplaced_entry : Option ℕ → Bool → Entry
unplaced_entry None releases = Nothing
unplaced_entry (Some first) true = Fresh first
unplaced_entry (Some first) false = Nothing

abbrev pub entry_with : Recorded → PageFacts → Option ℕ → Option Entry
entry_with s f None = Some (unplaced_entry f.touch f.releases)
entry_with s f (Some place) = if_there (entry_at s f.sent place) (first_of f.touch f.look)

abbrev pub entry_of : Recorded → PageFacts → Option Entry
entry_of s f = entry_with s f f.placement

-- an entry for each page
pub record AreMade (s : Recorded) (entries : List Entry) : Type 0 where
  pub pages : length entries ≡ s.geometry.pages
  pub each : (page : ℕ) (entry : Entry) → slice_get entries page ≡ Some entry → IsMadeEntry s page entry

-- the version of a certificate with these entries: this one, or the second if a page is fresh
abbrev pub version_for : Version → List Entry → Version
version_for version entries = if list_any is_fresh entries then Two else version
