-- One record more of a replay.
use Rattle.std.proofs.Common.{◌≡◌, ℕ, zero, suc, ◌+◌, ◌⊎◌, inl, inr, Bool, true, false, cond, List, [], ◌∷◌, ◌++◌, Option, Some, None, refl, sym, ap, ◌∙◌, subst, arith}
use Rattle.std.specs.Prelude.{slice_get}
use Rattle.std.specs.Option.{MatchOption}
use Rattle.std.proofs.lemmas.List.{append_assoc}
use Rattle.migration_types.specs.declared.records.LogName.{LogName}
use Rattle.migration_types.specs.declared.records.LogName.TheVariants.{Guest, Source, Link, Lane, Pager}
use Rattle.migration_types.specs.declared.records.GuestRec.{GuestRec}
use Rattle.migration_types.specs.declared.records.SourceRec.{SourceRec}
use Rattle.migration_types.specs.declared.records.PagerRec.{PagerRec}
use Rattle.migration_types.specs.declared.records.PagerRec.TheVariants.{Got, Pull, Ready, Fault, Join, Want, Place, Zero, Skip, All}
use Rattle.migration_types.specs.Extents.{Extent}
use Rattle.migration_types.specs.Memory.{Memory}
use Rattle.migration_types.specs.Receipts.{Name}
use Rattle.migration_types.specs.Sessions.{Recorded}
use Rattle.audit_model.specs.declared.home.Home.{Home}
use Rattle.audit_model.specs.Flat.{changed, flat}
use Rattle.audit_model.specs.Names.{same_log}
use Rattle.audit_model.specs.Mergings.{Cursors, at_start, run_names, StandsAfter}
use Rattle.audit_model.specs.Walks.{next, cursors_from}
use Rattle.audit_model.specs.World.{World, start, step, run_from, world_after, guest_step, pager_step, Demand, IsSafeOrder, guest_demand, source_demand, pager_demand, if_record, IsFirstBroken}
use Rattle.flat_machine.specs.Machines.{memory_after}
use Rattle.flat_machine.proofs.Stepping.{memory_next}
use Rattle.page_store.specs.Frames.{Frames, memory_of}
use Rattle.merge_runs.specs.declared.moving.Moving.{Moving}
use Rattle.merge_runs.specs.declared.replaying.Replaying.{Replaying}
use Rattle.merge_runs.specs.inner.Moving.{world_of}
use Rattle.merge_runs.specs.inner.Demands.{guest_met, source_met, pager_met}
use Rattle.merge_runs.specs.inner.Unmoved.{frames_of, IsApart}
use Rattle.merge_runs.specs.inner.Replaying.{AllMet, Breaks, noted, unmoved_frames, AreSized, IsReplaying, HasOne, HasRun, IsGuestStep, IsSourceStep, IsPagerStep}
use Rattle.merge_runs.proofs.Leaving.{unmoved_more}
use Rattle.merge_runs.proofs.Walking.{cursors_append, cursors_run, own_moved}
use Rattle.merge_runs.proofs.Demanding.{guest_yes, guest_from, source_yes, source_from, pager_yes, pager_from}

-- ---- records whose demands are met

pub run_append : (s : Recorded) (w : World) (xs ys : List Name) → run_from s w (xs ++ ys) ≡ run_from s (run_from s w xs) ys
run_append s w [] ys = refl
run_append s w (x ∷ xs) ys = run_append s (step s x w) xs ys

all_append : (s : Recorded) (w : World) (xs ys : List Name) → AllMet s w xs → AllMet s (run_from s w xs) ys → AllMet s w (xs ++ ys)
all_append s w [] ys a b = b
all_append s w (x ∷ xs) ys a b = (a.0, all_append s (step s x w) xs ys a.1 b)

met_at : (s : Recorded) (w : World) (order earlier : List Name) (name : Name) → AllMet s w order → StandsAfter order earlier name → Demand s name (run_from s w earlier)
met_at s w [] [] name all stands = absurd (cc)
met_at s w [] (e ∷ es) name all stands = absurd (cc)
met_at s w (x ∷ xs) [] name all stands = let is = stands.1 in let same : x ≡ name = cc in subst (λ (y : Name). Demand s y w) same all.0
met_at s w (x ∷ xs) (e ∷ es) name all stands =
    let is = stands.1 in
    let same : x ≡ e = cc in
    let rest : xs ≡ es ++ name ∷ stands.0 = cc in
    subst (λ (y : Name). Demand s name (run_from s (step s y w) es)) same (met_at s (step s x w) xs es name all.1 (stands.0, rest))

pub all_safe : (s : Recorded) (order : List Name) → AllMet s (start s) order → IsSafeOrder s order
all_safe s order all earlier name stands = met_at s (start s) order earlier name all stands

-- what is told of all records
pub told : (s : Recorded) (order : List Name) (o : Option Name) → MatchOption o (AllMet s (start s) order) (Breaks s (start s) order) → MatchOption o (IsSafeOrder s order) (IsFirstBroken s order)
told s order None all = all_safe s order all
told s order (Some name) b = record {
  earlier = b.earlier;
  stands = (b.later, b.stands);
  is_safe_before = all_safe s b.earlier b.met;
  breaks = b.fails;
}

-- one record more
broken_more : (s : Recorded) (w : World) (names : List Name) (name : Name) (o : Option Name) (met : Bool) → (met ≡ true → Demand s name (run_from s w names)) → (Demand s name (run_from s w names) → met ≡ true) → MatchOption o (AllMet s w names) (Breaks s w names) → MatchOption (noted met o name) (AllMet s w (names ++ name ∷ [])) (Breaks s w (names ++ name ∷ []))
broken_more s w names name (Some first) met holds back b = go met
  where
    on : Breaks s w (names ++ name ∷ []) first
    on = record {
      earlier = b.earlier;
      later = b.later ++ name ∷ [];
      stands = ap (λ xs. xs ++ name ∷ []) b.stands ∙ append_assoc b.earlier (first ∷ b.later) (name ∷ []);
      met = b.met;
      fails = b.fails;
    }

    go : (met : Bool) → MatchOption (noted met (Some first) name) (AllMet s w (names ++ name ∷ [])) (Breaks s w (names ++ name ∷ []))
    go true = on
    go false = on
broken_more s w names name None true holds back all = all_append s w names (name ∷ []) all (holds refl, tt)
broken_more s w names name None false holds back all = record {
  earlier = names;
  later = [];
  stands = refl;
  met = all;
  fails = λ d. let t = back d in absurd (cc);
}

-- ---- the state after one record more

-- the records of this log, which is not the guest's, change no machine and demand nothing
pub record IsCalm (s : Recorded) (log : LogName) : Type 0 where
  pub still : (n : ℕ) (w : World) → step s (log, n) w ≡ w
  pub asks_nothing : (n : ℕ) (w : World) → Demand s (log, n) w
  pub other : same_log log Guest ≡ false

-- such are the records of the link, and those of the lane
pub link_or_lane : (s : Recorded) (log : LogName) → (log ≡ Link) ⊎ (log ≡ Lane) → IsCalm s log
link_or_lane s log (inl e) = subst (λ l. IsCalm s l) (sym e) (record { still = λ n w. refl; asks_nothing = λ n w. tt; other = refl })
link_or_lane s log (inr e) = subst (λ l. IsCalm s l) (sym e) (record { still = λ n w. refl; asks_nothing = λ n w. tt; other = refl })

-- the machine that never moved stays where a record changes neither it nor the source
frames_on : (own : Option Frames) (old new : Frames) → memory_of new ≡ memory_of old → memory_of (frames_of own new) ≡ memory_of (frames_of own old)
frames_on None old new same = same
frames_on (Some own) old new same = refl

same_frames : (old new : Replaying) → new.moving ≡ old.moving → new.unmoved ≡ old.unmoved → memory_of (unmoved_frames new) ≡ memory_of (unmoved_frames old)
same_frames old new moving unmoved = ap (λ (own : Option Frames). memory_of (frames_of own new.moving.source.frames)) unmoved ∙ ap (λ (m : Moving). memory_of (frames_of old.unmoved m.source.frames)) moving

apart_on : (old : Replaying) (own : Option Frames) (home : Home) → IsApart old.unmoved old.moving.home → own ≡ old.unmoved → home ≡ old.moving.home → IsApart own home
apart_on old own home apart unmoved same = subst (λ (o : Option Frames). IsApart o home) (sym unmoved) (subst (λ (h : Home). IsApart old.unmoved h) (sym same) apart)

pager_home : (r : PagerRec) (w : World) → (pager_step r w).home ≡ w.home
pager_home (Place p got content) w = refl
pager_home (Zero p) w = refl
pager_home (Got d) w = refl
pager_home (Pull d) w = refl
pager_home Ready w = refl
pager_home (Fault i) w = refl
pager_home (Join i) w = refl
pager_home (Want p) w = refl
pager_home (Skip g) w = refl
pager_home All w = refl

pager_source : (r : PagerRec) (w : World) → (pager_step r w).source ≡ w.source
pager_source (Place p got content) w = refl
pager_source (Zero p) w = refl
pager_source (Got d) w = refl
pager_source (Pull d) w = refl
pager_source Ready w = refl
pager_source (Fault i) w = refl
pager_source (Join i) w = refl
pager_source (Want p) w = refl
pager_source (Skip g) w = refl
pager_source All w = refl

source_kept : {n : ℕ} (r : PagerRec) (old new : Replaying) → IsPagerStep r n old new → memory_of (unmoved_frames new) ≡ memory_of (unmoved_frames old)
source_kept r old new on =
    ap (λ (own : Option Frames). memory_of (frames_of own new.moving.source.frames)) on.unmoved
    ∙ frames_on old.unmoved old.moving.source.frames new.moving.source.frames (ap (λ (w : World). w.source) on.moving.world ∙ pager_source r (world_of old.moving))

module _ (s : Recorded) (order : List Name) where
  world_more : (name : Name) → world_after s (order ++ name ∷ []) ≡ step s name (world_after s order)
  world_more name = run_append s (start s) order (name ∷ [])

  cursors_more : (name : Name) → cursors_from at_start (order ++ name ∷ []) ≡ next (cursors_from at_start order) name.0
  cursors_more name = cursors_append at_start order (name ∷ [])

  -- a record that changes no machine
  quiet_more : (name : Name) (old new : Replaying) (met : Bool) → IsReplaying s order old → ((w : World) → step s name w ≡ w) → same_log name.0 Guest ≡ false → new.moving ≡ old.moving → new.unmoved ≡ old.unmoved → new.first_broken ≡ noted met old.first_broken name → (met ≡ true → Demand s name (world_after s order)) → (Demand s name (world_after s order) → met ≡ true) → IsReplaying s (order ++ name ∷ []) new
  quiet_more name old new met is still other moving unmoved first holds back = record {
    world = ap world_of moving ∙ is.world ∙ sym (still (world_after s order)) ∙ sym (world_more name);
    flat = same_frames old new moving unmoved ∙ is.flat ∙ sym (ap (λ (c : Cursors). flat s (c Guest)) (cursors_more name) ∙ ap (λ b. flat s (cond b (suc (cursors_from at_start order Guest)) (cursors_from at_start order Guest))) other);
    apart = apart_on old new.unmoved new.moving.home is.apart unmoved (ap (λ (m : Moving). m.home) moving);
    broken = subst (λ (o : Option Name). MatchOption o (AllMet s (start s) (order ++ name ∷ [])) (Breaks s (start s) (order ++ name ∷ []))) (sym first) (broken_more s (start s) order name old.first_broken met holds back is.broken);
  }

  -- nor demands anything
  pub calm_more : (log : LogName) (n : ℕ) (r : Replaying) → IsCalm s log → IsReplaying s order r → IsReplaying s (order ++ (log, n) ∷ []) r
  calm_more log n r calm is = quiet_more (log, n) r r true is (calm.still n) calm.other refl refl refl (λ e. calm.asks_nothing n (world_after s order)) (λ d. refl)

  pub source_more : (n : ℕ) (r : SourceRec) (old new : Replaying) → slice_get s.source n ≡ Some r → AreSized s.geometry old → IsReplaying s order old → IsSourceStep r n old new → IsReplaying s (order ++ (Source, n) ∷ []) new
  source_more n r old new at sized is on =
      quiet_more (Source, n) old new (source_met s.geometry.cells r (world_after s order)) is (λ w. refl) refl on.moving on.unmoved
      (on.broken ∙ ap (λ b. noted b old.first_broken (Source, n)) (ap (λ (e : Extent). source_met e.cells r (world_of old.moving)) sized.moving.source.frames ∙ ap (λ (w : World). source_met s.geometry.cells r w) is.world))
      (λ e. subst (λ (o : Option SourceRec). if_record (source_demand s) o (world_after s order)) (sym at) (source_yes s r (world_after s order) e))
      (λ d. source_from s r (world_after s order) (subst (λ (o : Option SourceRec). if_record (source_demand s) o (world_after s order)) at d))

  pub pager_more : (n : ℕ) (r : PagerRec) (old new : Replaying) → slice_get s.pager n ≡ Some r → AreSized s.geometry old → IsReplaying s order old → IsPagerStep r n old new → IsReplaying s (order ++ (Pager, n) ∷ []) new
  pager_more n r old new at sized is on =
      let met = pager_met s.geometry.cells r (world_after s order) in
      let first : new.first_broken ≡ noted met old.first_broken (Pager, n) = on.broken ∙ ap (λ b. noted b old.first_broken (Pager, n)) (ap (λ (e : Extent). pager_met e.cells r (world_of old.moving)) sized.moving.source.frames ∙ ap (λ (w : World). pager_met s.geometry.cells r w) is.world) in
      record {
        world = on.moving.world ∙ ap (λ (w : World). pager_step r w) is.world ∙ sym (ap (λ (o : Option PagerRec). changed pager_step o (world_after s order)) at) ∙ sym (world_more (Pager, n));
        flat = source_kept r old new on ∙ is.flat ∙ sym (ap (λ (c : Cursors). flat s (c Guest)) (cursors_more (Pager, n)));
        apart = apart_on old new.unmoved new.moving.home is.apart on.unmoved (ap (λ (w : World). w.home) on.moving.world ∙ pager_home r (world_of old.moving));
        broken = subst (λ (o : Option Name). MatchOption o (AllMet s (start s) (order ++ (Pager, n) ∷ [])) (Breaks s (start s) (order ++ (Pager, n) ∷ []))) (sym first) (broken_more s (start s) order (Pager, n) old.first_broken met
            (λ e. subst (λ (o : Option PagerRec). if_record (pager_demand s) o (world_after s order)) (sym at) (pager_yes s r (world_after s order) e))
            (λ d. pager_from s r (world_after s order) (subst (λ (o : Option PagerRec). if_record (pager_demand s) o (world_after s order)) at d)) is.broken);
      }

  pub guest_more : (n : ℕ) (r : GuestRec) (old new : Replaying) → slice_get s.guest n ≡ Some r → cursors_from at_start order Guest ≡ n → IsReplaying s order old → IsGuestStep r n old new → IsReplaying s (order ++ (Guest, n) ∷ []) new
  guest_more n r old new at here is on =
      let flat_is : memory_of (unmoved_frames old) ≡ flat s n = is.flat ∙ ap (λ k. flat s k) here in
      let met = guest_met (flat s n) r (world_after s order) in
      let first : new.first_broken ≡ noted met old.first_broken (Guest, n) = on.broken ∙ ap (λ b. noted b old.first_broken (Guest, n)) (ap (λ (f : Memory). guest_met f r (world_of old.moving)) flat_is ∙ ap (λ (w : World). guest_met (flat s n) r w) is.world) in
      let more = unmoved_more r (world_of old.moving) old.moving.source.frames new.moving.source.frames new.moving.home old.unmoved new.unmoved is.apart refl (ap (λ (w : World). w.source) on.moving.world) (ap (λ (w : World). w.home) on.moving.world) on.unmoved in
      record {
        world = on.moving.world ∙ ap (λ (w : World). guest_step r w) is.world ∙ sym (ap (λ (o : Option GuestRec). changed guest_step o (world_after s order)) at) ∙ sym (world_more (Guest, n));
        flat = more.0 ∙ ap (λ (m : Memory). memory_after r m) flat_is ∙ memory_next s n r at ∙ ap (λ k. flat s (suc k)) (sym here) ∙ sym (ap (λ (c : Cursors). flat s (c Guest)) (cursors_more (Guest, n)));
        apart = more.1;
        broken = subst (λ (o : Option Name). MatchOption o (AllMet s (start s) (order ++ (Guest, n) ∷ [])) (Breaks s (start s) (order ++ (Guest, n) ∷ []))) (sym first) (broken_more s (start s) order (Guest, n) old.first_broken met
            (λ e. subst (λ (o : Option GuestRec). if_record (guest_demand s n) o (world_after s order)) (sym at) (guest_yes s n r (world_after s order) e))
            (λ d. guest_from s n r (world_after s order) (subst (λ (o : Option GuestRec). if_record (guest_demand s n) o (world_after s order)) at d)) is.broken);
      }

-- ---- runs

names_push : (log : LogName) (place count : ℕ) → run_names log place (suc count) ≡ run_names log place count ++ (log, place + count) ∷ []
names_push log place zero = let none : place ≡ place + zero = omega arith in ap (λ k. (log, k) ∷ []) none
names_push log place (suc count) = let same : suc place + count ≡ place + suc count = omega arith in ap (λ xs. (log, place) ∷ xs) (names_push log (suc place) count ∙ ap (λ k. run_names log (suc place) count ++ (log, k) ∷ []) same)

-- a run of one record more
pub run_more : (s : Recorded) (log : LogName) (from k : ℕ) (first old new : Replaying) → HasRun s log from k first old → HasOne s (log, from + k) old new → HasRun s log from (k + 1) first new
run_more s log from k first old new ran more order here is =
    subst (λ (xs : List Name). IsReplaying s xs new) (sym (longer ∙ sym (append_assoc order (run_names log from k) ((log, from + k) ∷ [])))) (more (order ++ run_names log from k) there (ran order here is))
  where
    longer : order ++ run_names log from (k + 1) ≡ order ++ (run_names log from k ++ (log, from + k) ∷ [])
    longer = let one : k + 1 ≡ suc k = omega arith in ap (λ m. order ++ run_names log from m) one ∙ ap (λ xs. order ++ xs) (names_push log from k)

    there : cursors_from at_start (order ++ run_names log from k) log ≡ from + k
    there =
        ap (λ (c : Cursors). c log) (cursors_append at_start order (run_names log from k) ∙ cursors_run (cursors_from at_start order) log from k)
        ∙ own_moved (cursors_from at_start order) log k
        ∙ ap (λ m. m + k) here
