-- A session of the first version and of the right shape releases no page at the target; where it fits, it has no lane.
use Rattle.std.proofs.Common.{◌≡◌, ℕ, zero, suc, Bool, false, ◌==◌, List, [], ◌∷◌, Option, Some, None, refl, sym, ap, ◌∙◌, subst}
use Rattle.std.specs.Prelude.{slice_get}
use Rattle.std.specs.Option.{option_map}
use Rattle.migration_types.specs.declared.records.LogName.TheVariants.{Lane}
use Rattle.migration_types.specs.declared.records.GuestRec.{GuestRec}
use Rattle.migration_types.specs.declared.records.GuestRec.TheVariants.{Read, Write, Release, Miss, Halt, Resume, See}
use Rattle.migration_types.specs.declared.records.LaneRec.{LaneRec}
use Rattle.migration_types.specs.declared.records.PagerRec.TheVariants.{Pull}
use Rattle.migration_types.specs.declared.version.Version.TheVariants.{One}
use Rattle.migration_types.specs.Rows.{lane_row}
use Rattle.migration_types.specs.Sessions.{Recorded, HasLane}
use Rattle.audit_model.specs.Flat.{changed, freed, marked_late, freed_after, Home, AtSource, Nowhere, AtTarget, home}
use Rattle.audit_model.specs.Shape.{IsRightShape}
use Rattle.audit_model.specs.Laws.{FirstVersionIsPlain}
use Rattle.audit_model.proofs.Fits.{pager_fits}
use Rattle.audit_model.proofs.History.{AtSource≢AtTarget, first_home_at_release}

no_lane : (lane : List LaneRec) → ((n : ℕ) (x : LaneRec) → slice_get lane n ≡ Some x → ⊥) → lane ≡ []
no_lane [] none = refl
no_lane (x ∷ lane) none = absurd (none 0 x refl)

module _ (s : Recorded) (one : s.version ≡ One) (shape : IsRightShape s) where
  released_before : (n v p : ℕ) → slice_get s.guest n ≡ Some (Release v p) → home s n ≡ AtTarget → ⊥
  released_before n v p is at = AtSource≢AtTarget (sym (first_home_at_release s shape one n v p is) ∙ at)

  none_freed : (n page : ℕ) → freed s n page ≡ false
  none_freed zero page = refl
  none_freed (suc n) page = go (slice_get s.guest n) refl (none_freed n page)
    where
      at : (h : Home) → h ≡ AtSource → (b : Bool) → freed s n page ≡ false → marked_late h b (freed s n page) ≡ false
      at AtSource same b e = e
      at Nowhere same b e = e
      at AtTarget same b e = absurd (AtSource≢AtTarget (sym same))

      go : (o : Option GuestRec) → slice_get s.guest n ≡ o → freed s n page ≡ false → changed (freed_after (home s n) page) o (freed s n page) ≡ false
      go None is e = e
      go (Some (Release v p)) is e = at (home s n) (first_home_at_release s shape one n v p is) (p == page) e
      go (Some (Read v p c x)) is e = e
      go (Some (Write v p c x)) is e = e
      go (Some (Miss v p)) is e = e
      go (Some Halt) is e = e
      go (Some (Resume k)) is e = e
      go (Some (See k)) is e = e

pub first_version_plain : (s : Recorded) → FirstVersionIsPlain s
first_version_plain s one shape = record {
  releases_before = released_before s one shape;
  none_freed = none_freed s one shape;
  none_over = λ page over. released_before s one shape over.release over.vcpu page over.stands over.is_late;
  none_fresh = λ page first right. released_before s one shape first right.1.vcpu page right.1.is_release right.1.is_late;
  no_lane = λ fits. no_lane s.lane (λ n x is. subst (λ v. HasLane v) one (fits.logs (Lane, n) (lane_row x) (ap (option_map lane_row) is)));
  none_pulled = λ fits n down is. subst (λ v. HasLane v) one (pager_fits s fits n (Pull down) is).0;
}
