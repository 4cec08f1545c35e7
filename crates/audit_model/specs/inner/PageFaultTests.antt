-- Tests for faults of pages, which the plain programs compute.
use Rattle.std.specs.Prelude.{ℕ, zero, suc, Bool, false, not, ◌==◌, ◌&&◌, ◌||◌, List, length, slice_get}
use Rattle.std.specs.Str.{bytes_eq}
use Rattle.migration_types.specs.declared.records.LogName.TheVariants.{Guest, Source, Pager}
use Rattle.migration_types.specs.declared.records.GuestRec.{GuestRec}
use Rattle.migration_types.specs.declared.records.GuestRec.TheVariants.{Read, Write, Release}
use Rattle.migration_types.specs.declared.records.SourceRec.{SourceRec}
use Rattle.migration_types.specs.declared.records.SourceRec.TheVariants.{Send}
use Rattle.migration_types.specs.declared.records.PagerRec.{PagerRec}
use Rattle.migration_types.specs.declared.records.PagerRec.TheVariants.{Place, Zero}
use Rattle.migration_types.specs.Memory.{page_of}
use Rattle.migration_types.specs.Receipts.{Name}
use Rattle.migration_types.specs.Sessions.{Recorded}
use Rattle.audit_model.specs.declared.reasons.PageReason.{PageReason}
use Rattle.audit_model.specs.declared.reasons.PageReason.TheVariants.{Read as WrongRead, Early, Given, Stale, Twice, Altered, Unfit, Over}
use Rattle.audit_model.specs.Flat.{flat, freed, in_ledger, home, is_target, at_halt}
use Rattle.audit_model.specs.Shape.{passes, is_placement_of, earlier}
use Rattle.audit_model.specs.Worlds.{touched}
use Rattle.audit_model.specs.Faults.{has_looked}

abbrev pub is_uncovered : Recorded → ℕ → ℕ → Bool
is_uncovered s page n = is_target (home s n) && not (has_looked s page n)

abbrev pub is_wrong_read : Recorded → ℕ → GuestRec → Bool
is_wrong_read s n (Read vcpu p c value) = not (value == flat s n p c)
is_wrong_read s n _ = false

-- whether an access of the page by guest record n is early
abbrev pub is_early_of : Recorded → ℕ → ℕ → Bool
is_early_of s page n = not (freed s n page) && is_uncovered s page n

abbrev pub is_early : Recorded → ℕ → GuestRec → Bool
is_early s n (Read vcpu p c value) = is_early_of s p n
is_early s n (Write vcpu p c value) = is_early_of s p n
is_early s n _ = false

-- whether the contents are those that the flat machine's page has before guest record n
abbrev pub is_flat_page : Recorded → ℕ → ℕ → List ℕ → Bool
is_flat_page s n page content = bytes_eq content (page_of s.geometry.cells (flat s n) page)

abbrev pub is_given : Recorded → SourceRec → Bool
is_given s (Send p content) = in_ledger s (at_halt s) p
is_given s _ = false

abbrev pub is_stale : Recorded → SourceRec → Bool
is_stale s (Send p content) = not (is_flat_page s (at_halt s) p content)
is_stale s _ = false

abbrev pub is_second : Recorded → ℕ → PagerRec → Bool
is_second s n (Place p got content) = earlier (is_placement_of p) s.pager n
is_second s n (Zero p) = earlier (is_placement_of p) s.pager n
is_second s n _ = false

abbrev pub is_altered : Recorded → PagerRec → Bool
is_altered s (Place p got content) = not (is_flat_page s (at_halt s) p content)
is_altered s _ = false

abbrev pub is_unfit : Recorded → PagerRec → Bool
is_unfit s (Zero p) = not (in_ledger s (at_halt s) p)
is_unfit s _ = false

-- whether guest record n is a release of the page that is its first touch after handover, with no look before it that
-- covers it
abbrev pub is_first_release : Recorded → ℕ → ℕ → GuestRec → Bool
is_first_release s page n (Release vcpu p) = (p == page) && (not (touched s n page) && is_uncovered s page n)
is_first_release s page n _ = false

-- whether a record of the guest before this one is such a release
abbrev pub some_release : Recorded → ℕ → ℕ → Bool
some_release s page zero = false
some_release s page (suc n) = passes (is_first_release s page n) (slice_get s.guest n) || some_release s page n

-- whether a placement of the page by pager record n may come after such a release
abbrev pub is_over_of : Recorded → ℕ → ℕ → Bool
is_over_of s page n = not (earlier (is_placement_of page) s.pager n) && some_release s page (length s.guest)

abbrev pub is_over : Recorded → ℕ → PagerRec → Bool
is_over s n (Place p got content) = is_over_of s p n
is_over s n (Zero p) = is_over_of s p n
is_over s n _ = false

abbrev pub fault_test : Recorded → PageReason → Name → Bool
fault_test s WrongRead (Guest, n) = passes (is_wrong_read s n) (slice_get s.guest n)
fault_test s Early (Guest, n) = passes (is_early s n) (slice_get s.guest n)
fault_test s Given (Source, n) = passes (is_given s) (slice_get s.source n)
fault_test s Stale (Source, n) = passes (is_stale s) (slice_get s.source n)
fault_test s Twice (Pager, n) = passes (is_second s n) (slice_get s.pager n)
fault_test s Altered (Pager, n) = passes (is_altered s) (slice_get s.pager n)
fault_test s Unfit (Pager, n) = passes (is_unfit s) (slice_get s.pager n)
fault_test s Over (Pager, n) = passes (is_over s n) (slice_get s.pager n)
fault_test s _ _ = false
