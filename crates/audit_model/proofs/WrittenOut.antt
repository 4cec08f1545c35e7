-- Tests by which a session and a certificate that are written out meet the definitions.
use Rattle.std.proofs.Common.{◌≡◌, ℕ, zero, suc, ◌≤◌, Bool, true, false, not, ◌&&◌, List, [], ◌∷◌, length, Some, refl, sym, ap, ◌∙◌, arith, eqb-true, eq-eqb}
use Rattle.std.specs.Prelude.{slice_get, ◌==◌, nat_lt}
use Rattle.std.specs.Str.{bytes_eq}
use Rattle.std.proofs.lemmas.Bool.{ltb-true}
use Rattle.std.proofs.lemmas.Slice.Eq.{bytes_eq-Decides}
use Rattle.migration_types.specs.declared.records.LogName.{LogName}
use Rattle.migration_types.specs.declared.records.LogName.TheVariants.{Guest, Source, Link, Lane, Pager}
use Rattle.migration_types.specs.declared.records.GuestRec.{GuestRec}
use Rattle.migration_types.specs.declared.records.GuestRec.TheVariants.{Read}
use Rattle.migration_types.specs.declared.records.SourceRec.{SourceRec}
use Rattle.migration_types.specs.declared.records.SourceRec.TheVariants.{Send}
use Rattle.migration_types.specs.declared.records.PagerRec.{PagerRec}
use Rattle.migration_types.specs.Memory.{page_of}
use Rattle.migration_types.specs.Receipts.{Name}
use Rattle.migration_types.specs.Sessions.{Recorded, log_length}
use Rattle.audit_model.specs.declared.reasons.ShapeReason.TheVariants.{Phases, Named, Start, SecondSend, Both}
use Rattle.audit_model.specs.Mergings.{Cursors}
use Rattle.audit_model.specs.Walks.{next, Walks}
use Rattle.audit_model.specs.Flat.{flat, in_ledger, home, is_target, at_halt}
use Rattle.audit_model.specs.inner.MergingTests.{may}
use Rattle.audit_model.specs.Shape.{IsRightShape, in_phase, guest_named, source_named, link_named, lane_named, pager_named, source_start, pager_start, is_first_send, is_alone, keeps, is_placement_of}
use Rattle.audit_model.specs.Certificates.{is_touch_of, IsHonest, IsOnlyPlacement, IsLateTouch}
use Rattle.audit_model.proofs.FirstNames.{may_Decides}
use Rattle.audit_model.proofs.PageFaultTests.{not_true}

-- each log has no more records than this
pub each_few : (s : Recorded) (most : ℕ) → length s.guest ≤ most → length s.source ≤ most → length s.link ≤ most → length s.lane ≤ most → length s.pager ≤ most → (log : LogName) → log_length s log ≤ most
each_few s most guest source link lane pager Guest = guest
each_few s most guest source link lane pager Source = source
each_few s most guest source link lane pager Link = link
each_few s most guest source link lane pager Lane = lane
each_few s most guest source link lane pager Pager = pager

-- a test at each record, with its place
abbrev each : {A : Type 0} → (ℕ → A → Bool) → List A → Bool
each test [] = true
each test (x ∷ xs) = test 0 x && each (λ n. test (suc n)) xs

and_left : (x y : Bool) → (x && y) ≡ true → x ≡ true
and_left true y e = refl
and_left false y e = absurd (cc)

and_right : (x y : Bool) → (x && y) ≡ true → y ≡ true
and_right true y e = e
and_right false y e = absurd (cc)

each_keeps : {A : Type 0} (test : ℕ → A → Bool) (log : List A) → each test log ≡ true → (n : ℕ) → keeps (test n) (slice_get log n) ≡ true
each_keeps test [] e n = refl
each_keeps test (x ∷ log) e zero = and_left _ _ e
each_keeps test (x ∷ log) e (suc n) = each_keeps (λ n. test (suc n)) log (and_right _ _ e) n

each_at : {A : Type 0} (test : ℕ → A → Bool) (log : List A) → each test log ≡ true → (n : ℕ) (r : A) → slice_get log n ≡ Some r → test n r ≡ true
each_at test log e n r is = sym (ap (λ o. keeps (test n) o) is) ∙ each_keeps test log e n

-- the right shape by tests
module _ (s : Recorded)
    (phases : each (in_phase s) s.guest ≡ true)
    (guest : each (λ n. guest_named s) s.guest ≡ true) (source : each (source_named s) s.source ≡ true)
    (link : each (λ n. link_named s) s.link ≡ true) (lane : each (λ n. lane_named s) s.lane ≡ true) (pager : each (pager_named s) s.pager ≡ true)
    (source_starts : each (source_start s) s.source ≡ true) (pager_starts : each (pager_start s) s.pager ≡ true)
    (sends : each (is_first_send s) s.source ≡ true) (alone : each (λ n. is_alone s) s.source ≡ true) where
  pub shape_by_tests : IsRightShape s
  shape_by_tests Phases (Guest, n) = each_keeps (in_phase s) s.guest phases n
  shape_by_tests Named (Guest, n) = each_keeps (λ n. guest_named s) s.guest guest n
  shape_by_tests Named (Source, n) = each_keeps (source_named s) s.source source n
  shape_by_tests Named (Link, n) = each_keeps (λ n. link_named s) s.link link n
  shape_by_tests Named (Lane, n) = each_keeps (λ n. lane_named s) s.lane lane n
  shape_by_tests Named (Pager, n) = each_keeps (pager_named s) s.pager pager n
  shape_by_tests Start (Source, n) = each_keeps (source_start s) s.source source_starts n
  shape_by_tests Start (Pager, n) = each_keeps (pager_start s) s.pager pager_starts n
  shape_by_tests SecondSend (Source, n) = each_keeps (is_first_send s) s.source sends n
  shape_by_tests Both (Source, n) = each_keeps (λ n. is_alone s) s.source alone n
  shape_by_tests Phases (Source, n) = refl
  shape_by_tests Phases (Link, n) = refl
  shape_by_tests Phases (Lane, n) = refl
  shape_by_tests Phases (Pager, n) = refl
  shape_by_tests Start (Guest, n) = refl
  shape_by_tests Start (Link, n) = refl
  shape_by_tests Start (Lane, n) = refl
  shape_by_tests SecondSend (Guest, n) = refl
  shape_by_tests SecondSend (Link, n) = refl
  shape_by_tests SecondSend (Lane, n) = refl
  shape_by_tests SecondSend (Pager, n) = refl
  shape_by_tests Both (Guest, n) = refl
  shape_by_tests Both (Link, n) = refl
  shape_by_tests Both (Lane, n) = refl
  shape_by_tests Both (Pager, n) = refl

-- a walk by a test
abbrev walk : Recorded → Cursors → List Name → Bool
walk s c [] = true
walk s c (n ∷ ns) = may s c n && walk s (next c n.0) ns

pub walks_by_test : (s : Recorded) (c : Cursors) (names : List Name) → walk s c names ≡ true → Walks s c names
walks_by_test s c [] e = tt
walks_by_test s c (n ∷ names) e = ((may_Decides s c n).0 (and_left _ _ e), walks_by_test s (next c n.0) names (and_right _ _ e))

-- if the one holds, the other does
abbrev then : Bool → Bool → Bool
then true b = b
then false b = true

follows : (a b : Bool) → then a b ≡ true → a ≡ true → b ≡ true
follows true b e f = e
follows false b e f = absurd (cc)

abbrev read_test : Recorded → ℕ → ℕ → GuestRec → Bool
read_test s page n (Read v p c x) = then (p == page) (x == flat s n page c)
read_test s page n _ = true

abbrev send_test : Recorded → ℕ → SourceRec → Bool
send_test s page (Send p content) = then (p == page) (bytes_eq content (page_of s.geometry.cells (flat s (at_halt s)) page))
send_test s page _ = true

abbrev ledger_test : Recorded → ℕ → SourceRec → Bool
ledger_test s page (Send p content) = then (p == page) (not (in_ledger s (at_halt s) page))
ledger_test s page _ = true

eq_refl : (p : ℕ) → (p == p) ≡ true
eq_refl p = eq-eqb p p refl

module _ (s : Recorded) (page : ℕ) where
  pub honest_by_tests : each (read_test s page) s.guest ≡ true → each (λ n. send_test s page) s.source ≡ true → each (λ n. ledger_test s page) s.source ≡ true → IsHonest s page
  honest_by_tests reads sends owed = record {
    reads = λ n v c x is. eqb-true _ _ (follows (page == page) _ (each_at (read_test s page) s.guest reads n (Read v page c x) is) (eq_refl page));
    sends = λ n content is. (bytes_eq-Decides content (page_of s.geometry.cells (flat s (at_halt s)) page)).0 (follows (page == page) _ (each_at (λ n. send_test s page) s.source sends n (Send page content) is) (eq_refl page));
    owed = λ n content is. (not_true _).0 (follows (page == page) _ (each_at (λ n. ledger_test s page) s.source owed n (Send page content) is) (eq_refl page));
  }

  pub only_by_test : (place : ℕ) → each (λ n r. then (is_placement_of page r) (n == place)) s.pager ≡ true → IsOnlyPlacement s page place
  only_by_test place e n r is places = eqb-true _ _ (follows (is_placement_of page r) _ (each_at (λ n r. then (is_placement_of page r) (n == place)) s.pager e n r is) places)

  pub unplaced_by_test : each (λ n r. not (is_placement_of page r)) s.pager ≡ true → (n : ℕ) (r : PagerRec) → slice_get s.pager n ≡ Some r → is_placement_of page r ≡ false
  unplaced_by_test e n r is = (not_true _).0 (each_at (λ n r. not (is_placement_of page r)) s.pager e n r is)

  -- the touches after handover are at the place and later
  pub first_by_test : (access : ℕ) → each (λ n r. then (is_touch_of page r) (then (is_target (home s n)) (nat_lt access (suc n)))) s.guest ≡ true → (n : ℕ) → IsLateTouch s page n → access ≤ n
  first_by_test access e n late =
      let a = follows (is_touch_of page late.by) _ (each_at (λ n r. then (is_touch_of page r) (then (is_target (home s n)) (nat_lt access (suc n)))) s.guest e n late.by late.stands) late.is_touch in
      let b = follows (is_target (home s n)) _ a (ap is_target late.is_late) in
      omega (arith, ltb-true access (suc n) b)

  pub untouched_by_test : each (λ n r. then (is_touch_of page r) (not (is_target (home s n)))) s.guest ≡ true → (n : ℕ) → IsLateTouch s page n → ⊥
  untouched_by_test e n late =
      let a = follows (is_touch_of page late.by) _ (each_at (λ n r. then (is_touch_of page r) (not (is_target (home s n)))) s.guest e n late.by late.stands) late.is_touch in
      let b = ap is_target late.is_late in
      absurd (cc)
