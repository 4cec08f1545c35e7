-- A front of a safe session is safe.
use Rattle.std.proofs.Common.{◌≡◌, ℕ, ◌<◌, List, [], ◌∷◌, ◌++◌, take, Option, Some, None, refl, sym, ap, ◌∙◌, subst, arith}
use Rattle.std.specs.Prelude.{slice_get}
use Rattle.std.proofs.lemmas.List.{append_assoc}
use Rattle.migration_types.specs.declared.records.LogName.TheVariants.{Guest, Source, Link, Lane, Pager}
use Rattle.migration_types.specs.declared.records.GuestRec.{GuestRec}
use Rattle.migration_types.specs.declared.records.GuestRec.TheVariants.{Read}
use Rattle.migration_types.specs.declared.records.SourceRec.{SourceRec}
use Rattle.migration_types.specs.declared.records.SourceRec.TheVariants.{Send}
use Rattle.migration_types.specs.declared.records.PagerRec.{PagerRec}
use Rattle.migration_types.specs.declared.records.PagerRec.TheVariants.{Place}
use Rattle.migration_types.specs.Receipts.{Name}
use Rattle.migration_types.specs.Sessions.{Recorded}
use Rattle.audit_model.specs.Flat.{changed}
use Rattle.audit_model.specs.Mergings.{HasMerging, StandsAfter, Cursors, at_start}
use Rattle.audit_model.specs.Walks.{next, cursors_from, MayFollow, Walks}
use Rattle.audit_model.specs.World.{World, start, guest_step, pager_step, step, run_from, world_after, guest_demand, source_demand, pager_demand, if_record, Demand, IsSafe}
use Rattle.audit_model.proofs.Walked.{merging_is_walk, walk_at}
use Rattle.kept_faults.specs.FrontLaws.{IsInFront, HasState, behind_front}
use Rattle.kept_faults.specs.Left.{HasNoFault}
use Rattle.recorder_files.specs.Fronts.{IsFront, cut_to}
use Rattle.kept_faults.proofs.Taken.{taken_at}
use Rattle.kept_faults.proofs.Named.{cut_length, front_has_halt}
use Rattle.kept_faults.proofs.FrontFaults.{same_flat, still_clean}
use Rattle.kept_faults.proofs.FrontFits.{still_fits}
use Rattle.kept_faults.proofs.FrontMergings.{still_merges, mergings_go_on}
use Rattle.kept_faults.proofs.FrontShape.{still_right}

module _ (s : Recorded) (c : Cursors) (front : IsFront s c) where
  -- ---- the worlds are the same

  same_step : (name : Name) (w : World) → IsInFront c name → step (cut_to c s) name w ≡ step s name w
  same_step (Guest, n) w lt = ap (λ o. changed guest_step o w) (taken_at (c Guest) s.guest n lt)
  same_step (Source, n) w lt = refl
  same_step (Link, n) w lt = refl
  same_step (Lane, n) w lt = refl
  same_step (Pager, n) w lt = ap (λ o. changed pager_step o w) (taken_at (c Pager) s.pager n lt)

  -- a record of a walk through the front is in the front
  is_inside : (d : Cursors) (name : Name) → MayFollow (cut_to c s) d name → IsInFront c name
  is_inside d name may = let there = may.is_there in let long = cut_length s c front name.0 in omega (arith, there, long)

  same_run : (d : Cursors) (w : World) (names : List Name) → Walks (cut_to c s) d names → run_from (cut_to c s) w names ≡ run_from s w names
  same_run d w [] walks = refl
  same_run d w (name ∷ names) walks =
      ap (λ v. run_from (cut_to c s) v names) (same_step name w (is_inside d name walks.0))
      ∙ same_run (next d name.0) (step s name w) names walks.1

  -- ---- and so are the demands

  guest_demand_to : (n : ℕ) (x : GuestRec) (w : World) → n < c Guest → guest_demand s n x w → guest_demand (cut_to c s) n x w
  guest_demand_to n (Read v p q value) w lt h = record {
    is_somewhere = h.is_somewhere;
    is_resident = h.is_resident;
    is_the_cell = h.is_the_cell;
    is_flat = h.is_flat ∙ sym (ap (λ f. f p q) (same_flat s c front n (omega arith)));
  }
  guest_demand_to n x w lt h = h

  source_demand_to : (x : SourceRec) (w : World) → source_demand s x w → source_demand (cut_to c s) x w
  source_demand_to (Send p content) w h = record { has_left = h.has_left; is_the_page = h.is_the_page; is_owed = h.is_owed }
  source_demand_to x w h = h

  pager_demand_to : (x : PagerRec) (w : World) → pager_demand s x w → pager_demand (cut_to c s) x w
  pager_demand_to (Place p got content) w h = record { is_new = h.is_new; is_untouched = h.is_untouched; is_the_page = h.is_the_page }
  pager_demand_to x w h = h

  demand_taken : {A : Type 0} (demand demand' : A → World → Type 0) (k : ℕ) (log : List A) (n : ℕ) (w : World) → n < k → ((x : A) → demand x w → demand' x w) → if_record demand (slice_get log n) w → if_record demand' (slice_get (take k log) n) w
  demand_taken {A} demand demand' k log n w lt to h = subst (λ o. if_record demand' o w) (sym (taken_at k log n lt)) (go (slice_get log n) h)
    where
      go : (o : Option A) → if_record demand o w → if_record demand' o w
      go None h = tt
      go (Some x) h = to x h

  demand_to : (name : Name) (w : World) → IsInFront c name → Demand s name w → Demand (cut_to c s) name w
  demand_to (Guest, n) w lt h = demand_taken (guest_demand s n) (guest_demand (cut_to c s) n) (c Guest) s.guest n w lt (λ x. guest_demand_to n x w lt) h
  demand_to (Source, n) w lt h = demand_taken (source_demand s) (source_demand (cut_to c s)) (c Source) s.source n w lt (λ x. source_demand_to x w) h
  demand_to (Link, n) w lt h = tt
  demand_to (Lane, n) w lt h = tt
  demand_to (Pager, n) w lt h = demand_taken (pager_demand s) (pager_demand (cut_to c s)) (c Pager) s.pager n w lt (λ x. pager_demand_to x w) h

  pub still_safe : HasMerging s → IsSafe s → IsSafe (cut_to c s)
  still_safe has safe order merging earlier name stands =
      let rest = behind_front c has.0 in
      let whole = mergings_go_on s c front order has.0 merging has.1 in
      let walk = merging_is_walk (cut_to c s) order merging in
      let at = walk_at (cut_to c s) at_start order earlier name walk.0 stands in
      let on : StandsAfter (order ++ rest) earlier name = (stands.0 ++ rest, ap (λ names. names ++ rest) stands.1 ∙ append_assoc earlier (name ∷ stands.0) rest) in
      let demand = safe (order ++ rest) whole earlier name on in
      let same : world_after (cut_to c s) earlier ≡ world_after s earlier = same_run at_start (start s) earlier at.0 in
      subst (λ w. Demand (cut_to c s) name w) (sym same) (demand_to name (world_after s earlier) (is_inside (cursors_from at_start earlier) name at.1) demand)

  pub still_faultless : HasState c → HasNoFault s → HasNoFault (cut_to c s)
  still_faultless state no_fault = record {
    fits = still_fits c s no_fault.fits;
    shape = still_right s c front state no_fault.shape;
    merging = still_merges s c front no_fault.merging;
    clean = still_clean s c front (front_has_halt s no_fault.shape c front) no_fault.clean;
  }
