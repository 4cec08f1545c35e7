-- A front without a `halted` that is alone in the source's log.
use Rattle.std.proofs.Common.{◌≡◌, ℕ, zero, suc, ◌<◌, ◌≤◌, ◌==◌, ◌&&◌, Bool, true, false, cond, Option, Some, None, refl, sym, ap, ◌∙◌, subst, arith, eq-eqb, eqb-true}
use Rattle.std.specs.Prelude.{slice_get}
use Rattle.std.specs.List.{AllByRecursion}
use Rattle.std.proofs.lemmas.Bool.{and_parts, and_from}
use Rattle.migration_types.specs.declared.records.LogName.{LogName}
use Rattle.migration_types.specs.declared.records.LogName.TheVariants.{Guest, Source, Link, Lane, Pager}
use Rattle.migration_types.specs.declared.records.GuestRec.{GuestRec}
use Rattle.migration_types.specs.declared.records.GuestRec.TheVariants.{Read, Write, Release, Miss, Halt, Resume, See}
use Rattle.migration_types.specs.declared.records.SourceRec.{SourceRec}
use Rattle.migration_types.specs.declared.records.SourceRec.TheVariants.{Halted, State, Send, Again, Ask, Done, Back}
use Rattle.migration_types.specs.declared.records.LinkRec.{LinkRec}
use Rattle.migration_types.specs.declared.records.LinkRec.TheVariants.{Down, Up}
use Rattle.migration_types.specs.declared.records.LaneRec.{LaneRec}
use Rattle.migration_types.specs.declared.records.LaneRec.TheVariants.{Down as LaneDown}
use Rattle.migration_types.specs.declared.records.PagerRec.{PagerRec}
use Rattle.migration_types.specs.declared.records.PagerRec.TheVariants.{Got, Pull, Ready, Fault, Join, Want, Place, Zero, Skip, All}
use Rattle.migration_types.specs.Receipts.{Name}
use Rattle.migration_types.specs.Rows.{Consists, row_of, guest_row, link_row, lane_row, pager_row}
use Rattle.migration_types.specs.Sessions.{Recorded, log_length}
use Rattle.audit_model.specs.declared.reasons.ShapeReason.TheVariants.{Named, Start}
use Rattle.audit_model.specs.Mergings.{HasMerging, Cursors}
use Rattle.audit_model.specs.World.{IsSafe}
use Rattle.audit_model.specs.Shape.{passes, goes_down, link_named, lane_named, source_start, keeps, IsRightShape}
use Rattle.audit_model.proofs.Consistent.{there}
use Rattle.audit_model.proofs.Fits.{of_record}
use Rattle.kept_faults.specs.FrontLaws.{HasState}
use Rattle.kept_faults.specs.Left.{HasNoFault, is_halted, is_lone, without_lone, left_of}
use Rattle.recorder_files.specs.Fronts.{NamesThere, IsFront, cut_to}
use Rattle.kept_faults.proofs.Named.{guest_there, link_there, lane_there, pager_there}
use Rattle.kept_faults.proofs.Parts.{below, is_front_of_whole, cut_again}
use Rattle.kept_faults.proofs.FrontSafe.{still_faultless, still_safe}
use Rattle.kept_faults.proofs.Taken.{taken_at}

-- the front without the records of the source
abbrev unsent : Cursors → Cursors
unsent c Source = 0
unsent c log = c log

no_send : (o : Option SourceRec) → passes is_halted o ≡ true → passes goes_down o ≡ true → ⊥
no_send None e f = absurd (cc)
no_send (Some (Halted i)) e f = absurd (cc)
no_send (Some State) e f = absurd (cc)
no_send (Some (Send p content)) e f = absurd (cc)
no_send (Some (Again i)) e f = absurd (cc)
no_send (Some (Ask i)) e f = absurd (cc)
no_send (Some Done) e f = absurd (cc)
no_send (Some Back) e f = absurd (cc)

module _ (s : Recorded) (c : Cursors) (front : IsFront s c) (shape : IsRightShape s) where
  -- nothing in the right shape delivers `halted`
  module _ (one : c Source ≡ 1) (halted : passes is_halted (slice_get s.source 0) ≡ true) where
    undelivered : (i : ℕ) → i < c Source → passes goes_down (slice_get s.source i) ≡ true → i < 0
    undelivered zero lt e = absurd (no_send (slice_get s.source 0) halted e)
    undelivered (suc i) lt e = absurd (omega (arith, lt, one))

    guest_fields : (n : ℕ) (x : GuestRec) → n < c Guest → slice_get s.guest n ≡ Some x → AllByRecursion (NamesThere (unsent c)) (guest_row x).fields
    guest_fields n (Read v p q y) lt is = (tt, (tt, (tt, (tt, tt))))
    guest_fields n (Write v p q y) lt is = (tt, (tt, (tt, (tt, tt))))
    guest_fields n (Release v p) lt is = (tt, (tt, tt))
    guest_fields n (Miss v p) lt is = (tt, (tt, tt))
    guest_fields n Halt lt is = tt
    guest_fields n (Resume i) lt is = let all = guest_there s c front n (Resume i) lt is in (all.0, tt)
    guest_fields n (See i) lt is = let all = guest_there s c front n (See i) lt is in (all.0, tt)

    link_fields : (n : ℕ) (x : LinkRec) → n < c Link → slice_get s.link n ≡ Some x → AllByRecursion (NamesThere (unsent c)) (link_row x).fields
    link_fields n (Down i) lt is = let all = link_there s c front n (Down i) lt is in (undelivered i all.0 (sym (ap (keeps (link_named s)) is) ∙ shape Named (Link, n)), tt)
    link_fields n (Up i) lt is = let all = link_there s c front n (Up i) lt is in (all.0, tt)

    lane_fields : (n : ℕ) (x : LaneRec) → n < c Lane → slice_get s.lane n ≡ Some x → AllByRecursion (NamesThere (unsent c)) (lane_row x).fields
    lane_fields n (LaneDown i) lt is = let all = lane_there s c front n (LaneDown i) lt is in (undelivered i all.0 (sym (ap (keeps (lane_named s)) is) ∙ shape Named (Lane, n)), tt)

    pager_fields : (n : ℕ) (x : PagerRec) → n < c Pager → slice_get s.pager n ≡ Some x → AllByRecursion (NamesThere (unsent c)) (pager_row x).fields
    pager_fields n (Got i) lt is = let all = pager_there s c front n (Got i) lt is in (all.0, tt)
    pager_fields n (Pull i) lt is = let all = pager_there s c front n (Pull i) lt is in (all.0, tt)
    pager_fields n Ready lt is = tt
    pager_fields n (Fault i) lt is = let all = pager_there s c front n (Fault i) lt is in (all.0, tt)
    pager_fields n (Join i) lt is = let all = pager_there s c front n (Join i) lt is in (all.0, tt)
    pager_fields n (Want p) lt is = (tt, tt)
    pager_fields n (Place p i content) lt is = let all = pager_there s c front n (Place p i content) lt is in (tt, (all.1.0, tt))
    pager_fields n (Zero p) lt is = (tt, tt)
    pager_fields n (Skip i) lt is = let all = pager_there s c front n (Skip i) lt is in (all.0, tt)
    pager_fields n All lt is = tt

    fields_there : (name : Name) (row : Consists) → row_of s name ≡ Some row → name.1 < unsent c name.0 → AllByRecursion (NamesThere (unsent c)) row.fields
    fields_there (Guest, n) row is lt = let f = of_record guest_row s.guest n row is in subst (λ (r : Consists). AllByRecursion (NamesThere (unsent c)) r.fields) f.2 (guest_fields n f.0 lt f.1)
    fields_there (Source, n) row is lt = absurd (omega (arith, lt))
    fields_there (Link, n) row is lt = let f = of_record link_row s.link n row is in subst (λ (r : Consists). AllByRecursion (NamesThere (unsent c)) r.fields) f.2 (link_fields n f.0 lt f.1)
    fields_there (Lane, n) row is lt = let f = of_record lane_row s.lane n row is in subst (λ (r : Consists). AllByRecursion (NamesThere (unsent c)) r.fields) f.2 (lane_fields n f.0 lt f.1)
    fields_there (Pager, n) row is lt = let f = of_record pager_row s.pager n row is in subst (λ (r : Consists). AllByRecursion (NamesThere (unsent c)) r.fields) f.2 (pager_fields n f.0 lt f.1)

    unsent_is_front : IsFront s (unsent c)
    unsent_is_front = record { within = within; there = fields_there }
      where
        within : (log : LogName) → unsent c log ≤ log_length s log
        within Guest = front.within Guest
        within Source = omega arith
        within Link = front.within Link
        within Lane = front.within Lane
        within Pager = front.within Pager

  -- the source's first record is `halted`
  first_is_halted : 0 < c Source → passes is_halted (slice_get s.source 0) ≡ true
  first_is_halted lt = let r = there s.source 0 (c Source) lt (front.within Source) in go r.0 r.1
    where
      starts : (x : SourceRec) → slice_get s.source 0 ≡ Some x → source_start s 0 x ≡ true
      starts x is = sym (ap (λ o. keeps (source_start s 0) o) is) ∙ shape Start (Source, 0)

      by : (x : SourceRec) → source_start s 0 x ≡ true → is_halted x ≡ true
      by (Halted i) e = refl
      by x e = absurd (cc)

      go : (x : SourceRec) → slice_get s.source 0 ≡ Some x → passes is_halted (slice_get s.source 0) ≡ true
      go x is = ap (passes is_halted) is ∙ by x (starts x is)

  abbrev IsLeft : Cursors → Type 0
  IsLeft d = IsFront s d × HasState d

  -- what a front leaves, by whether it has such a `halted`
  abbrev left_by : Bool → Cursors
  left_by b Source = cond b 0 (c Source)
  left_by b log = c log

  by_lone : (b : Bool) → is_lone s c ≡ b → IsLeft (left_by b)
  by_lone true e =
      let parts = and_parts (c Source == 1) (passes is_halted (slice_get s.source 0)) e in
      let same : unsent c ≡ left_by true = λ i log. each log i in
      subst IsLeft same (unsent_is_front (eqb-true (c Source) 1 parts.0) parts.1, λ z. absurd (omega (arith, z)))
    where
      each : (log : LogName) → unsent c log ≡ left_by true log
      each Guest = refl
      each Source = refl
      each Link = refl
      each Lane = refl
      each Pager = refl
  by_lone false e =
      let same : c ≡ left_by false = λ i log. each log i in
      subst IsLeft same (
        front,
        λ one.
            let yes : is_lone s c ≡ true = and_from (c Source == 1) (passes is_halted (slice_get s.source 0)) (eq-eqb (c Source) 1 one) (first_is_halted (omega (arith, one))) in
            absurd (cc),
      )
    where
      each : (log : LogName) → c log ≡ left_by false log
      each Guest = refl
      each Source = refl
      each Link = refl
      each Lane = refl
      each Pager = refl

  pub left_is_front : IsFront s (without_lone s c) × HasState (without_lone s c)
  left_is_front =
      let same : left_by (is_lone s c) ≡ without_lone s c = λ i log. each log i in
      subst IsLeft same (by_lone (is_lone s c) refl)
    where
      each : (log : LogName) → left_by (is_lone s c) log ≡ without_lone s c log
      each Guest = refl
      each Source = refl
      each Link = refl
      each Lane = refl
      each Pager = refl

module _ (s : Recorded) (d c : Cursors) (front : IsFront (cut_to d s) c) where
  -- a front of the first records has such a `halted` exactly if it does as a front of the session
  same_lone : is_lone (cut_to d s) c ≡ is_lone s c
  same_lone = go (c Source == 1) refl
    where
      go : (b : Bool) → (c Source == 1) ≡ b → (b && passes is_halted (slice_get (cut_to d s).source 0)) ≡ (b && passes is_halted (slice_get s.source 0))
      go true e =
          let one = eqb-true (c Source) 1 e in
          let less = below s d c front Source in
          ap (passes is_halted) (taken_at (d Source) s.source 0 (omega (arith, one, less)))
      go false e = refl

  same_left : without_lone (cut_to d s) c ≡ without_lone s c
  same_left = λ i log. each log i
    where
      each : (log : LogName) → without_lone (cut_to d s) c log ≡ without_lone s c log
      each Guest = refl
      each Source = ap (λ b. cond b 0 (c Source)) same_lone
      each Link = refl
      each Lane = refl
      each Pager = refl

  left_below : (log : LogName) → without_lone s c log ≤ d log
  left_below Guest = below s d c front Guest
  left_below Source = let less = below s d c front Source in go (is_lone s c) less
    where
      go : (b : Bool) → c Source ≤ d Source → cond b 0 (c Source) ≤ d Source
      go true less = omega arith
      go false less = less
  left_below Link = below s d c front Link
  left_below Lane = below s d c front Lane
  left_below Pager = below s d c front Pager

  same_cut : left_of c (cut_to d s) ≡ cut_to (without_lone s c) s
  same_cut = ap (λ (k : Cursors). cut_to k (cut_to d s)) same_left ∙ cut_again s d (without_lone s c) left_below

  pub left_has_no_fault : HasNoFault s → HasNoFault (left_of c (cut_to d s))
  left_has_no_fault no_fault =
      let left = left_is_front s c (is_front_of_whole s d c front) no_fault.shape in
      subst HasNoFault (sym same_cut) (still_faultless s (without_lone s c) left.0 left.1 no_fault)

  pub left_is_safe : IsRightShape s → HasMerging s → IsSafe s → IsSafe (left_of c (cut_to d s))
  left_is_safe shape has safe =
      let left = left_is_front s c (is_front_of_whole s d c front) shape in
      subst IsSafe (sym same_cut) (still_safe s (without_lone s c) left.0 has safe)
