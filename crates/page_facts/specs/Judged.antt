-- Tests of a page's records.
use Rattle.std.specs.Prelude.{ℕ, Bool, false, not, ◌==◌, ◌&&◌, ◌||◌, Option, Some, None, slice_get}
use Rattle.std.specs.Str.{bytes_eq}
use Rattle.migration_types.specs.declared.records.GuestRec.{GuestRec}
use Rattle.migration_types.specs.declared.records.GuestRec.TheVariants.{Read}
use Rattle.migration_types.specs.declared.records.SourceRec.{SourceRec}
use Rattle.migration_types.specs.declared.records.SourceRec.TheVariants.{Send}
use Rattle.migration_types.specs.declared.records.PagerRec.{PagerRec}
use Rattle.migration_types.specs.declared.records.PagerRec.TheVariants.{Place, Zero}
use Rattle.migration_types.specs.Memory.{page_of}
use Rattle.migration_types.specs.Sessions.{Recorded}
use Rattle.audit_model.specs.Flat.{flat, in_ledger, home, is_target, at_halt}
use Rattle.audit_model.specs.Shape.{passes, is_release}
use Rattle.audit_model.specs.Certificates.{is_touch_of}

-- a read of the page whose value is not that of the flat machine
abbrev pub is_wrong_read : Recorded → ℕ → ℕ → GuestRec → Bool
is_wrong_read s page n (Read vcpu p c value) = (p == page) && not (value == flat s n p c)
is_wrong_read s page n _ = false

-- a read, a write or a release of the page after handover
abbrev pub is_late_touch : Recorded → ℕ → ℕ → GuestRec → Bool
is_late_touch s page n r = is_touch_of page r && is_target (home s n)

-- whether the guest's record at this place, if there is one, is a release
abbrev pub releases_at : Recorded → Option ℕ → Bool
releases_at s None = false
releases_at s (Some n) = passes is_release (slice_get s.guest n)

-- a send of the page with other contents than it has at the halt, or of a page that is released there
abbrev pub is_wrong_send : Recorded → ℕ → ℕ → SourceRec → Bool
is_wrong_send s page n (Send p content) = (p == page) && (not (bytes_eq content (page_of s.geometry.cells (flat s (at_halt s)) p)) || in_ledger s (at_halt s) p)
is_wrong_send s page n _ = false

-- a placement of the page with other contents than it has at the halt, or as zeros of a page that is not released there
abbrev pub is_altered : Recorded → ℕ → ℕ → PagerRec → Bool
is_altered s page n (Place p got content) = (p == page) && not (bytes_eq content (page_of s.geometry.cells (flat s (at_halt s)) p))
is_altered s page n (Zero p) = (p == page) && not (in_ledger s (at_halt s) p)
is_altered s page n _ = false
