-- At each record of a merging of a session of the right shape: a consistent cut, and the world that its cursors give.
use Rattle.std.proofs.Common.{◌≡◌, ◌≢◌, ℕ, zero, suc, ◌<◌, true, List, [], ◌∷◌, ◌++◌, length, map, Some, refl, sym, ap, ◌∙◌, subst, arith}
use Rattle.std.specs.Prelude.{slice_get}
use Rattle.std.specs.List.{range_with_len}
use Rattle.migration_types.specs.declared.records.LogName.TheVariants.{Guest, Source, Link, Lane, Pager}
use Rattle.migration_types.specs.declared.records.GuestRec.{GuestRec}
use Rattle.migration_types.specs.declared.records.PagerRec.{PagerRec}
use Rattle.migration_types.specs.Sessions.{Recorded}
use Rattle.migration_types.specs.Receipts.{Name}
use Rattle.audit_model.specs.Mergings.{IsMerging, StandsAfter, Cursors, at_start}
use Rattle.migration_types.specs.Memory.{page_of}
use Rattle.audit_model.specs.Flat.{changed, flat, in_ledger, Home, AtSource, Nowhere, AtTarget, home_after, home, at_halt}
use Rattle.audit_model.specs.World.{World, start, step, run_from, world_after, guest_step, guest_step_at, pager_step}
use Rattle.audit_model.specs.Shape.{IsRightShape, earlier}
use Rattle.audit_model.specs.Walks.{next, cursors_from, MayFollow, Walks}
use Rattle.audit_model.proofs.Cuts.{merging_walks}
use Rattle.audit_model.proofs.Walked.{walk_at}
use Rattle.audit_model.specs.Worlds.{come_to, placed_before, IsConsistentCut, IsWorld, IsAt, FollowsCursors}
use Rattle.audit_model.proofs.Consistent.{start_is_cut, next_is_cut, left_by_source, left_by_pager, there}
use Rattle.audit_model.proofs.Worlds.{start_is, guest_kept, pager_kept}

-- past the source, what has come is the halt
come_past : (h : Home) (n halt : ℕ) → h ≢ AtSource → come_to h n halt ≡ halt
come_past AtSource n halt e = absurd (e refl)
come_past Nowhere n halt e = refl
come_past AtTarget n halt e = refl

-- what each record that may follow keeps holds after the first records of a walk, at their cursors
kept_from : (s : Recorded) (P : Cursors → World → Type 0) → ((c : Cursors) (w : World) (name : Name) → P c w → MayFollow s c name → P (next c name.0) (step s name w)) → (c : Cursors) (w : World) (past rest : List Name) → P c w → Walks s c (past ++ rest) → P (cursors_from c past) (run_from s w past)
kept_from s P keeps c w [] rest i walks = i
kept_from s P keeps c w (n ∷ past) rest i walks = kept_from s P keeps (next c n.0) (step s n w) past rest (keeps c w n i walks.0) walks.1

-- so after the first records of each merging
pub kept_after : (s : Recorded) (P : Cursors → World → Type 0) → P at_start (start s) → ((c : Cursors) (w : World) (name : Name) → P c w → MayFollow s c name → P (next c name.0) (step s name w)) → (order : List Name) → IsMerging s order → (past rest : List Name) → order ≡ past ++ rest → P (cursors_from at_start past) (world_after s past)
kept_after s P starts keeps order merging past rest split = kept_from s P keeps at_start (start s) past rest starts (subst (λ xs. Walks s at_start xs) split (merging_walks s order merging))

-- and at each record
pub kept_at : (s : Recorded) (P : Cursors → World → Type 0) → P at_start (start s) → ((c : Cursors) (w : World) (name : Name) → P c w → MayFollow s c name → P (next c name.0) (step s name w)) → (order : List Name) → IsMerging s order → (earlier : List Name) (name : Name) → StandsAfter order earlier name → P (cursors_from at_start earlier) (world_after s earlier) × MayFollow s (cursors_from at_start earlier) name
kept_at s P starts keeps order merging earlier name stands = (
  kept_after s P starts keeps order merging earlier (name ∷ stands.0) stands.1,
  (walk_at s at_start order earlier name (merging_walks s order merging) stands).1,
)

pub start_is_at : (s : Recorded) → IsAt s at_start (start s)
start_is_at s = record { cut = start_is_cut s; world = start_is s }

module _ (s : Recorded) (shape : IsRightShape s) where
  -- a page that was placed, by the pager's cursor
  pub left_if_placed : (c : Cursors) → IsConsistentCut s c → (q : ℕ) → placed_before s (c Pager) q ≡ true → home s (c Guest) ≢ AtSource
  left_if_placed c cut q e = left_by_pager s shape c cut (go (c Pager) e)
    where
      go : (n : ℕ) → placed_before s n q ≡ true → 0 < n
      go zero e = absurd (cc)
      go (suc n) e = omega arith

  -- past the source, its memory and its ledger are those at the halt
  pub page_at_halt : (c : Cursors) (w : World) → IsAt s c w → home s (c Guest) ≢ AtSource → (q : ℕ) → page_of s.geometry.cells (flat s (at_halt s)) q ≡ page_of s.geometry.cells w.source q
  page_at_halt c w i left q =
      let come = come_past (home s (c Guest)) (c Guest) (at_halt s) left in
      let each : (d : ℕ) → flat s (at_halt s) q d ≡ w.source q d = λ d. ap (λ k. flat s k q d) (sym come) ∙ sym (i.world.source_is q d) in
      let same : flat s (at_halt s) q ≡ w.source q = λ j d. each d j in
      ap (λ f. map f (range_with_len 0 s.geometry.cells)) same

  pub ledger_at_halt : (c : Cursors) (w : World) → IsAt s c w → home s (c Guest) ≢ AtSource → (q : ℕ) → w.ledger q ≡ in_ledger s (at_halt s) q
  ledger_at_halt c w i left q = i.world.ledger_is q ∙ ap (λ k. in_ledger s k q) (come_past (home s (c Guest)) (c Guest) (at_halt s) left)

  pub source_left : (c : Cursors) (name : Name) → IsConsistentCut s c → MayFollow s c name → name.0 ≡ Source → home s (c Guest) ≢ AtSource
  source_left c name cut may is =
      let after : IsConsistentCut s (next c Source) = subst (λ l. IsConsistentCut s (next c l)) is (next_is_cut s c name cut may) in
      left_by_source s shape (next c Source) after (omega arith)

  pub pager_left : (c : Cursors) (name : Name) → IsConsistentCut s c → MayFollow s c name → name.0 ≡ Pager → home s (c Guest) ≢ AtSource
  pager_left c name cut may is =
      let after : IsConsistentCut s (next c Pager) = subst (λ l. IsConsistentCut s (next c l)) is (next_is_cut s c name cut may) in
      left_by_pager s shape (next c Pager) after (omega arith)

  -- the step by a record, where the record is known
  pub guest_stepped : (c : Cursors) (w : World) → IsAt s c w → (r : GuestRec) → slice_get s.guest (c Guest) ≡ Some r → guest_step_at (home s (c Guest)) r w ≡ step s (Guest, (c Guest)) w
  guest_stepped c w i r is = ap (λ h. guest_step_at h r w) (sym i.world.home_is) ∙ sym (ap (λ o. changed guest_step o w) is)

  pub pager_stepped : (c : Cursors) (w : World) (r : PagerRec) → slice_get s.pager (c Pager) ≡ Some r → pager_step r w ≡ step s (Pager, (c Pager)) w
  pager_stepped c w r is = sym (ap (λ o. changed pager_step o w) is)

  guest_step_kept : (c : Cursors) (w : World) → IsAt s c w → (r : GuestRec) → slice_get s.guest (c Guest) ≡ Some r → IsWorld s (home s (suc (c Guest))) (suc (c Guest)) (c Pager) (step s (Guest, (c Guest)) w)
  guest_step_kept c w i r is =
      let k = guest_kept s shape (c Guest) (c Pager) (home s (c Guest)) w r is refl i.world in
      let there_by : home_after r (home s (c Guest)) ≡ home s (suc (c Guest)) = sym (ap (λ o. changed home_after o (home s (c Guest))) is) in
      subst (λ h. IsWorld s h (suc (c Guest)) (c Pager) (step s (Guest, (c Guest)) w)) there_by
      (subst (λ u. IsWorld s (home_after r (home s (c Guest))) (suc (c Guest)) (c Pager) u) (guest_stepped c w i r is) k)

  pager_step_kept : (c : Cursors) (w : World) → IsAt s c w → (r : PagerRec) → slice_get s.pager (c Pager) ≡ Some r → IsWorld s (home s (c Guest)) (c Guest) (suc (c Pager)) (step s (Pager, (c Pager)) w)
  pager_step_kept c w i r is = subst (λ u. IsWorld s (home s (c Guest)) (c Guest) (suc (c Pager)) u) (pager_stepped c w r is) (pager_kept s shape (c Guest) (c Pager) (home s (c Guest)) w r is i.world)

  pub step_kept : (c : Cursors) (w : World) (name : Name) → IsAt s c w → MayFollow s c name → IsAt s (next c name.0) (step s name w)
  step_kept c w (Guest, n) i may =
      let r = there s.guest (c Guest) (length s.guest) (omega (arith, may.is_next, may.is_there)) (omega arith) in
      record {
        cut = next_is_cut s c (Guest, n) i.cut may;
        world = subst (λ k. IsWorld s (home s (suc (c Guest))) (suc (c Guest)) (c Pager) (step s (Guest, k) w)) (sym may.is_next) (guest_step_kept c w i r.0 r.1);
      }
  step_kept c w (Source, n) i may = record { cut = next_is_cut s c (Source, n) i.cut may; world = i.world }
  step_kept c w (Link, n) i may = record { cut = next_is_cut s c (Link, n) i.cut may; world = i.world }
  step_kept c w (Lane, n) i may = record { cut = next_is_cut s c (Lane, n) i.cut may; world = i.world }
  step_kept c w (Pager, n) i may =
      let r = there s.pager (c Pager) (length s.pager) (omega (arith, may.is_next, may.is_there)) (omega arith) in
      record {
        cut = next_is_cut s c (Pager, n) i.cut may;
        world = subst (λ k. IsWorld s (home s (c Guest)) (c Guest) (suc (c Pager)) (step s (Pager, k) w)) (sym may.is_next) (pager_step_kept c w i r.0 r.1);
      }

  -- so at each record of each merging
  pub is_at : (order : List Name) → IsMerging s order → (earlier : List Name) (name : Name) → StandsAfter order earlier name → IsAt s (cursors_from at_start earlier) (world_after s earlier) × MayFollow s (cursors_from at_start earlier) name
  is_at order merging earlier name stands = kept_at s (λ c w. IsAt s c w) (start_is_at s) step_kept order merging earlier name stands

  pub follows_cursors : FollowsCursors s
  follows_cursors order merging past rest split = kept_after s (λ c w. IsAt s c w) (start_is_at s) step_kept order merging past rest split
