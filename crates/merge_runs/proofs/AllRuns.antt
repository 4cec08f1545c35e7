-- A replay of all runs of a merging.
use Rattle.std.proofs.Common.{◌≡◌, ℕ, ◌+◌, ◌<◌, ◌≤◌, List, ◌++◌, length, take, drop, Option, refl, sym, ap, ◌∙◌, subst}
use Rattle.std.specs.Option.{MatchOption}
use Rattle.std.proofs.lemmas.List.{take-append-drop}
use Rattle.migration_types.specs.declared.cert.Run.{Run}
use Rattle.migration_types.specs.Extents.{Extent}
use Rattle.migration_types.specs.Receipts.{Name}
use Rattle.migration_types.specs.Sessions.{Recorded}
use Rattle.audit_model.specs.declared.home.Home.{Home}
use Rattle.audit_model.specs.declared.home.Home.TheVariants.{AtSource, Nowhere, AtTarget}
use Rattle.audit_model.specs.Names.{log_length}
use Rattle.audit_model.specs.Mergings.{Cursors, IsMerging, at_start, run_names, spelled}
use Rattle.audit_model.specs.Walks.{cursors_from, Walks, IsWholeWalk}
use Rattle.audit_model.specs.World.{IsSafeOrder, IsFirstBroken}
use Rattle.page_store.specs.Frames.{Frames, memory_of}
use Rattle.merge_runs.specs.declared.moving.Moving.{Moving}
use Rattle.merge_runs.specs.declared.outcome.Replay.{Replay}
use Rattle.merge_runs.specs.declared.replaying.Replaying.{Replaying}
use Rattle.merge_runs.specs.inner.Moving.{world_of, frames_at, IsSized}
use Rattle.merge_runs.specs.Replays.{final_memory, final_memory_at, IsReplay}
use Rattle.merge_runs.specs.inner.Replaying.{AreSized, IsReplaying, HasRun}
use Rattle.merge_runs.proofs.Walking.{walks_front, walk_back, walks_run, spelled_front, with_it, the_run}
use Rattle.merge_runs.proofs.OneMore.{told}

module _ (s : Recorded) (runs : List Run) (place : ℕ) (d : Run) (within : place < length runs) where
  abbrev run : Run
  run = the_run s runs place d within

  -- the records that a run of a merging takes are there
  pub run_fits : (c : Cursors) → c ≡ cursors_from at_start (spelled (take place runs)) → IsWholeWalk s (spelled runs) → c run.log ≤ log_length s run.log → c run.log + run.count ≤ log_length s run.log
  run_fits c at whole le = (walks_run s run.log c (c run.log) run.count refl le (subst (λ (e : Cursors). Walks s e (run_names run.log (e run.log) run.count)) (sym at) (walk_back s runs place d within front))).0
    where
      front : Walks s at_start (spelled (take (place + 1) runs))
      front =
          let more = spelled_front at_start (take (place + 1) runs) (drop (place + 1) runs) in
          walks_front s at_start (spelled (take (place + 1) runs)) more.0 (subst (λ (ns : List Name). Walks s at_start ns) (ap spelled (sym (take-append-drop (place + 1) runs)) ∙ more.1) whole.0)

  -- the replay of one run more
  pub run_on : (c : Cursors) (from : ℕ) (old new : Replaying) → c ≡ cursors_from at_start (spelled (take place runs)) → from ≡ c run.log → HasRun s run.log from run.count old new → IsReplaying s (spelled (take place runs)) old → IsReplaying s (spelled (take (place + 1) runs)) new
  run_on c from old new at here ran is =
      let start : cursors_from at_start (spelled (take place runs)) run.log ≡ from = ap (λ (e : Cursors). e run.log) (sym at) ∙ sym here in
      subst (λ (xs : List Name). IsReplaying s xs new) (ap (λ k. spelled (take place runs) ++ run_names run.log k run.count) (sym start) ∙ sym (with_it s runs place d within)) (ran (spelled (take place runs)) start is)

-- ---- the answer

frames_sized : (e : Extent) (m : Moving) (h : Home) → IsSized e m → (frames_at h m).geometry ≡ e
frames_sized e m AtSource sized = sized.source.frames
frames_sized e m Nowhere sized = sized.source.frames
frames_sized e m AtTarget sized = sized.target.frames

frames_final : (m : Moving) (h : Home) → memory_of (frames_at h m) ≡ final_memory_at h (world_of m)
frames_final m AtSource = refl
frames_final m Nowhere = refl
frames_final m AtTarget = refl

pub replayed : (s : Recorded) (order : List Name) (r : Replaying) (a : Replay) → IsMerging s order → AreSized s.geometry r → IsReplaying s order r → a.first_broken ≡ r.first_broken → a.memory ≡ frames_at r.moving.home r.moving → IsReplay s order a
replayed s order r a merging sized is first frames = record {
  is_merging = merging;
  first_broken = subst (λ (o : Option Name). MatchOption o (IsSafeOrder s order) (IsFirstBroken s order)) (sym first) (told s order r.first_broken is.broken);
  memory = ap memory_of frames ∙ frames_final r.moving r.moving.home ∙ ap final_memory is.world;
  geometry = ap (λ (f : Frames). f.geometry) frames ∙ frames_sized s.geometry r.moving r.moving.home sized.moving;
}
