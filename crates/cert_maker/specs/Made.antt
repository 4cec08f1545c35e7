-- The results of the maker.
use Rattle.std.specs.Prelude.{◌≡◌, ℕ, ◌+◌, ◌<◌, ◌≤◌, List, length, Option, Some, None, slice_get}
use Rattle.migration_types.specs.declared.records.GuestRec.TheVariants.{See}
use Rattle.migration_types.specs.declared.cert.Run.{Run}
use Rattle.migration_types.specs.declared.cert.First.{First}
use Rattle.migration_types.specs.declared.cert.Entry.{Entry}
use Rattle.migration_types.specs.declared.cert.Entry.TheVariants.{Nothing, Fresh, Source, Balloon}
use Rattle.migration_types.specs.declared.version.Version.{Version}
use Rattle.migration_types.specs.declared.size.Size.{Size}
use Rattle.migration_types.specs.Certs.{Certified}
use Rattle.migration_types.specs.Sessions.{Recorded}
use Rattle.audit_model.specs.Certificates.{IsRightCertificate, IsRightEntry}
use Rattle.audit_model.specs.Shape.{IsRightShape}
use Rattle.cert_maker.specs.declared.maker.MakeFault.{MakeFault}
use Rattle.cert_maker.specs.declared.maker.MakeFault.TheVariants.{NoCertificate, Memory}

-- no earlier look sees the placement or a later one
abbrev pub IsEarliest : Recorded → ℕ → Option First → Type 0
IsEarliest s place None = Unit {0}
IsEarliest s place (Some first) = (n placement : ℕ) → slice_get s.guest n ≡ Some (See placement) → place ≤ placement → first.see ≤ n

-- an entry with a placement and a first touch names the earliest look that covers the placement
abbrev pub NamesEarliest : Recorded → Entry → Type 0
NamesEarliest s Nothing = Unit {0}
NamesEarliest s (Fresh first) = Unit {0}
NamesEarliest s (Source send place first) = IsEarliest s place first
NamesEarliest s (Balloon place first) = IsEarliest s place first

-- a right entry of a page, which names the earliest look
pub record IsMadeEntry (s : Recorded) (page : ℕ) (entry : Entry) : Type 0 where
  pub right : IsRightEntry s page entry
  pub earliest : NamesEarliest s entry

-- no entry of a page is right
abbrev pub HasNoEntry : Recorded → ℕ → Type 0
HasNoEntry s page = (entry : Entry) → IsRightEntry s page entry → ⊥

-- a page of the machine has no right entry
pub record HasBarePage (s : Recorded) : Type 0 where
  pub page : ℕ
  pub within : page < s.geometry.pages
  pub is_bare : HasNoEntry s page

-- an entry for each of this many pages from the first on
pub record AreMadeFrom (s : Recorded) (first count : ℕ) (entries : List Entry) : Type 0 where
  pub pages : length entries ≡ count
  pub each : (k : ℕ) (entry : Entry) → slice_get entries k ≡ Some entry → IsMadeEntry s (first + k) entry

-- a right certificate with these runs and with the earliest looks, of the session's size, and for a session of the
-- right shape in its version
pub record IsMade (s : Recorded) (runs : List Run) (cert : Certified) : Type 0 where
  pub is_right : IsRightCertificate s cert
  pub has_runs : cert.runs ≡ runs
  pub has_size : cert.size ≡ s.geometry.size
  pub has_version : IsRightShape s → cert.version ≡ s.version
  pub earliest : (page : ℕ) (entry : Entry) → slice_get cert.entries page ≡ Some entry → NamesEarliest s entry

-- no right certificate of any version and size has these runs, or memory runs out
abbrev pub IsRefused : Recorded → List Run → MakeFault → Type 0
IsRefused s runs NoCertificate =
    (version : Version) (size : Size) (entries : List Entry) → IsRightCertificate s (record { version = version; size = size; entries = entries; runs = runs }) → ⊥
IsRefused s runs Memory = Unit {0}
