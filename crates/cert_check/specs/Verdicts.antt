-- The verdict on a session and a certificate.
use Rattle.std.specs.Prelude.{◌≡◌, ℕ, ◌+◌, ◌<◌, List, length, Some, slice_get}
use Rattle.migration_types.specs.declared.cert.Entry.{Entry}
use Rattle.migration_types.specs.Certs.{Certified}
use Rattle.migration_types.specs.Sessions.{Recorded, line_of}
use Rattle.audit_model.specs.Mergings.{IsMerging, spelled}
use Rattle.audit_model.specs.Shape.{IsRightShape}
use Rattle.audit_model.specs.FirstFault.{IsFirstFault}
use Rattle.audit_model.specs.Certificates.{IsRightEntry, IsRightCertificate}
use Rattle.merge_runs.specs.BadRuns.{IsFirstBadRun}
use Rattle.cert_check.specs.declared.verdict.ShapeFault.{ShapeFault}
use Rattle.cert_check.specs.declared.verdict.Verdict.{Verdict}
use Rattle.cert_check.specs.declared.verdict.Verdict.TheVariants.{SessionText, CertText, Shape, Pages, Runs, Page, Yes}

-- the fault of the shape with the least line, and then the least reason
pub record IsShapeFault (s : Recorded) (fault : ShapeFault) : Type 0 where
  pub is_line : fault.line ≡ line_of s (fault.log, fault.place)
  pub is_first : IsFirstFault s fault.reason (fault.log, fault.place)

-- each entry is right for its page
abbrev pub AreRightEntries : Recorded → List Entry → Type 0
AreRightEntries s entries = (page : ℕ) (entry : Entry) → slice_get entries page ≡ Some entry → IsRightEntry s page entry

-- the least page whose entry is not right
pub record IsFirstBadPage (s : Recorded) (entries : List Entry) (page : ℕ) : Type 0 where
  pub entry : Entry
  pub is : slice_get entries page ≡ Some entry
  pub is_wrong : IsRightEntry s page entry → ⊥
  pub right_before : (other : ℕ) (entry : Entry) → other < page → slice_get entries other ≡ Some entry → IsRightEntry s other entry

-- the line of a page's entry in the text of a certificate
abbrev pub entry_line : ℕ → ℕ
entry_line page = page + 3

-- the line of a run in the text of a certificate of this many pages, or the line of `end` after the last run
abbrev pub run_line : ℕ → ℕ → ℕ
run_line pages place = pages + 4 + place

-- there are as many entries as the session has pages
abbrev pub SamePages : Recorded → Certified → Type 0
SamePages s c = length c.entries ≡ s.geometry.pages

-- The first of these that applies: the session does not have the right shape, the page counts differ, a run is bad, an
-- entry is not right, the certificate is right.
abbrev pub IsVerdict : Recorded → Certified → Verdict → Type 0
IsVerdict s c (SessionText line) = ⊥
IsVerdict s c (CertText line) = ⊥
IsVerdict s c (Shape fault) = IsShapeFault s fault
IsVerdict s c Pages = IsRightShape s × ¬ SamePages s c
IsVerdict s c (Runs line) = IsRightShape s × SamePages s c × (place : ℕ) × IsFirstBadRun s c.runs place × (line ≡ run_line s.geometry.pages place)
IsVerdict s c (Page line) = IsRightShape s × SamePages s c × IsMerging s (spelled c.runs) × (page : ℕ) × IsFirstBadPage s c.entries page × (line ≡ entry_line page)
IsVerdict s c Yes = IsRightShape s × IsRightCertificate s c

-- whoever finds a verdict on these two finds this one
abbrev pub IsTheOneVerdict : Recorded → Certified → Verdict → Type 0
IsTheOneVerdict s c verdict = (other : Verdict) → IsVerdict s c other → other ≡ verdict
