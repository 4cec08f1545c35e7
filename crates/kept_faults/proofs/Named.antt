-- What the records of a front name, and what they have in the logs that are cut to it.
use Rattle.std.proofs.Common.{◌≡◌, ◌≢◌, ℕ, zero, suc, ◌<◌, ◌≤◌, inl, inr, Option, Some, None, refl, sym, ap, ◌∙◌, subst, arith}
use Rattle.std.specs.Prelude.{slice_get}
use Rattle.std.specs.List.{AllByRecursion}
use Rattle.std.specs.Option.{option_map}
use Rattle.std.proofs.lemmas.List.{length-take-le}
use Rattle.migration_types.specs.declared.records.LogName.{LogName}
use Rattle.migration_types.specs.declared.records.LogName.TheVariants.{Guest, Source, Link, Lane, Pager}
use Rattle.migration_types.specs.declared.records.GuestRec.{GuestRec}
use Rattle.migration_types.specs.declared.records.GuestRec.TheVariants.{Halt, Resume, See}
use Rattle.migration_types.specs.declared.records.SourceRec.{SourceRec}
use Rattle.migration_types.specs.declared.records.SourceRec.TheVariants.{Halted, Ask}
use Rattle.migration_types.specs.declared.records.LinkRec.{LinkRec}
use Rattle.migration_types.specs.declared.records.LinkRec.TheVariants.{Down, Up}
use Rattle.migration_types.specs.declared.records.LaneRec.{LaneRec}
use Rattle.migration_types.specs.declared.records.LaneRec.TheVariants.{Down as LaneDown}
use Rattle.migration_types.specs.declared.records.PagerRec.{PagerRec}
use Rattle.migration_types.specs.declared.records.PagerRec.TheVariants.{Got, Pull, Fault}
use Rattle.migration_types.specs.Receipts.{Name, guest_receipt, source_receipt, link_receipt, lane_receipt, pager_receipt}
use Rattle.migration_types.specs.Rows.{guest_row, source_row, link_row, lane_row, pager_row}
use Rattle.migration_types.specs.Sessions.{Recorded, log_length}
use Rattle.audit_model.specs.Names.{if_there, receipt}
use Rattle.audit_model.specs.Mergings.{Cursors}
use Rattle.audit_model.specs.Worlds.{IsConsistentCut}
use Rattle.audit_model.specs.declared.home.Home.TheVariants.{AtSource}
use Rattle.audit_model.specs.Flat.{changed, home_after, home, at_halt}
use Rattle.audit_model.specs.Shape.{IsRightShape}
use Rattle.audit_model.proofs.Consistent.{left_by_source, left_by_pager}
use Rattle.audit_model.proofs.History.{AtSource≢Nowhere, home_at_resume, halt_is_at_halt}
use Rattle.kept_faults.specs.FrontLaws.{IsInFront, HasHalt}
use Rattle.recorder_files.specs.Fronts.{NamesThere, IsFront, cut_to}
use Rattle.kept_faults.proofs.Taken.{taken_at}

-- where a receipt is one for a record, there is the receipt's record
receiving : {A : Type 0} (receipt_of : A → Option Name) (o : Option A) (sent : Name) → if_there receipt_of o ≡ Some sent → (x : A) × (o ≡ Some x) × (receipt_of x ≡ Some sent)
receiving receipt_of None sent e = absurd (cc)
receiving receipt_of (Some x) sent e = (x, refl, e)

module _ (s : Recorded) (c : Cursors) (front : IsFront s c) where
  -- what the fields of a record name is in the front
  pub guest_there : (n : ℕ) (x : GuestRec) → n < c Guest → slice_get s.guest n ≡ Some x → AllByRecursion (NamesThere c) (guest_row x).fields
  guest_there n x lt is = front.there (Guest, n) (guest_row x) (ap (option_map guest_row) is) lt

  pub source_there : (n : ℕ) (x : SourceRec) → n < c Source → slice_get s.source n ≡ Some x → AllByRecursion (NamesThere c) (source_row x).fields
  source_there n x lt is = front.there (Source, n) (source_row x) (ap (option_map source_row) is) lt

  pub link_there : (n : ℕ) (x : LinkRec) → n < c Link → slice_get s.link n ≡ Some x → AllByRecursion (NamesThere c) (link_row x).fields
  link_there n x lt is = front.there (Link, n) (link_row x) (ap (option_map link_row) is) lt

  pub lane_there : (n : ℕ) (x : LaneRec) → n < c Lane → slice_get s.lane n ≡ Some x → AllByRecursion (NamesThere c) (lane_row x).fields
  lane_there n x lt is = front.there (Lane, n) (lane_row x) (ap (option_map lane_row) is) lt

  pub pager_there : (n : ℕ) (x : PagerRec) → n < c Pager → slice_get s.pager n ≡ Some x → AllByRecursion (NamesThere c) (pager_row x).fields
  pager_there n x lt is = front.there (Pager, n) (pager_row x) (ap (option_map pager_row) is) lt

  -- and so is what it is a receipt for
  pub sent_there : (name sent : Name) → IsInFront c name → receipt s name ≡ Some sent → IsInFront c sent
  sent_there (Guest, n) sent lt e = let r = receiving guest_receipt (slice_get s.guest n) sent e in go r.0 (guest_there n r.0 lt r.1) r.2
    where
      go : (x : GuestRec) → AllByRecursion (NamesThere c) (guest_row x).fields → guest_receipt x ≡ Some sent → IsInFront c sent
      go (Resume i) all e = let same : (Pager, i) ≡ sent = cc in subst (IsInFront c) same all.0
      go (See i) all e = let same : (Pager, i) ≡ sent = cc in subst (IsInFront c) same all.0
      go x all e = absurd (cc)
  sent_there (Source, n) sent lt e = let r = receiving source_receipt (slice_get s.source n) sent e in go r.0 (source_there n r.0 lt r.1) r.2
    where
      go : (x : SourceRec) → AllByRecursion (NamesThere c) (source_row x).fields → source_receipt x ≡ Some sent → IsInFront c sent
      go (Halted i) all e = let same : (Guest, i) ≡ sent = cc in subst (IsInFront c) same all.0
      go (Ask i) all e = let same : (Link, i) ≡ sent = cc in subst (IsInFront c) same all.0
      go x all e = absurd (cc)
  sent_there (Link, n) sent lt e = let r = receiving link_receipt (slice_get s.link n) sent e in go r.0 (link_there n r.0 lt r.1) r.2
    where
      go : (x : LinkRec) → AllByRecursion (NamesThere c) (link_row x).fields → link_receipt x ≡ Some sent → IsInFront c sent
      go (Down i) all e = let same : (Source, i) ≡ sent = cc in subst (IsInFront c) same all.0
      go (Up i) all e = let same : (Pager, i) ≡ sent = cc in subst (IsInFront c) same all.0
  sent_there (Lane, n) sent lt e = let r = receiving lane_receipt (slice_get s.lane n) sent e in go r.0 (lane_there n r.0 lt r.1) r.2
    where
      go : (x : LaneRec) → AllByRecursion (NamesThere c) (lane_row x).fields → lane_receipt x ≡ Some sent → IsInFront c sent
      go (LaneDown i) all e = let same : (Source, i) ≡ sent = cc in subst (IsInFront c) same all.0
  sent_there (Pager, n) sent lt e = let r = receiving pager_receipt (slice_get s.pager n) sent e in go r.0 (pager_there n r.0 lt r.1) r.2
    where
      go : (x : PagerRec) → AllByRecursion (NamesThere c) (pager_row x).fields → pager_receipt x ≡ Some sent → IsInFront c sent
      go (Got i) all e = let same : (Link, i) ≡ sent = cc in subst (IsInFront c) same all.0
      go (Pull i) all e = let same : (Lane, i) ≡ sent = cc in subst (IsInFront c) same all.0
      go (Fault i) all e = let same : (Guest, i) ≡ sent = cc in subst (IsInFront c) same all.0
      go x all e = absurd (cc)

  pub is_consistent : IsConsistentCut s c
  is_consistent = record { within = front.within; sent_taken = λ name sent lt is. sent_there name sent lt is }

  -- each log has as many records as the front
  pub cut_length : (log : LogName) → log_length (cut_to c s) log ≡ c log
  cut_length Guest = length-take-le (c Guest) s.guest (front.within Guest)
  cut_length Source = length-take-le (c Source) s.source (front.within Source)
  cut_length Link = length-take-le (c Link) s.link (front.within Link)
  cut_length Lane = length-take-le (c Lane) s.lane (front.within Lane)
  cut_length Pager = length-take-le (c Pager) s.pager (front.within Pager)

  -- a record of the front is a receipt for the same record
  pub same_receipt : (name : Name) → IsInFront c name → receipt (cut_to c s) name ≡ receipt s name
  same_receipt (Guest, n) lt = ap (if_there guest_receipt) (taken_at (c Guest) s.guest n lt)
  same_receipt (Source, n) lt = ap (if_there source_receipt) (taken_at (c Source) s.source n lt)
  same_receipt (Link, n) lt = ap (if_there link_receipt) (taken_at (c Link) s.link n lt)
  same_receipt (Lane, n) lt = ap (if_there lane_receipt) (taken_at (c Lane) s.lane n lt)
  same_receipt (Pager, n) lt = ap (if_there pager_receipt) (taken_at (c Pager) s.pager n lt)

module _ (s : Recorded) (shape : IsRightShape s) where
  -- a guest that has left the source has halted
  past_halt : (n : ℕ) → home s n ≢ AtSource → at_halt s ≤ n
  past_halt zero left = absurd (left refl)
  past_halt (suc n) left = go (slice_get s.guest n) refl (past_halt n) left
    where
      go : (o : Option GuestRec) → slice_get s.guest n ≡ o → (home s n ≢ AtSource → at_halt s ≤ n) → changed home_after o (home s n) ≢ AtSource → at_halt s ≤ suc n
      go None is rec left = let le = rec left in omega (arith, le)
      go (Some Halt) is rec left = let e = halt_is_at_halt s shape n is in omega (arith, e)
      go (Some (Resume i)) is rec left = let le = rec (λ e. AtSource≢Nowhere (sym e ∙ home_at_resume s shape n i is)) in omega (arith, le)
      go (Some x) is rec left = let le = rec left in omega (arith, le)

  pub front_has_halt : (c : Cursors) → IsFront s c → HasHalt s c
  front_has_halt c front (inl lt) = past_halt (c Guest) (left_by_source s shape c (is_consistent s c front) lt)
  front_has_halt c front (inr lt) = past_halt (c Guest) (left_by_pager s shape c (is_consistent s c front) lt)
