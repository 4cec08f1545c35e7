-- The points between the runs of a merging.
use Rattle.std.proofs.Common.{◌≡◌, ℕ, ◌+◌, ◌<◌, ◌≤◌, List, [], ◌∷◌, take, drop, length, get_or, refl, sym, ap, ◌∙◌, subst}
use Rattle.std.proofs.lemmas.List.{take-append-drop}
use Rattle.migration_types.specs.declared.records.LogName.{LogName}
use Rattle.migration_types.specs.declared.cert.Run.{Run}
use Rattle.migration_types.specs.Receipts.{Name}
use Rattle.migration_types.specs.Sessions.{Recorded}
use Rattle.audit_model.specs.Names.{log_length}
use Rattle.audit_model.specs.Mergings.{Cursors, at_start, moved, spelled}
use Rattle.audit_model.specs.Walks.{next, cursors_from, Walks, IsWholeWalk}
use Rattle.audit_model.specs.Worlds.{IsConsistentCut}
use Rattle.audit_model.proofs.Consistent.{start_is_cut, next_is_cut}
use Rattle.merge_runs.specs.Taken.{cursors_of}
use Rattle.merge_runs.specs.declared.taken.TakenCounts.{TakenCounts}
use Rattle.merge_runs.proofs.Walking.{walks_front, spelled_front, walk_back, walks_run, cursors_on, all_at}
use Rattle.audit_report.specs.inner.Parts.{ends}

-- a walk keeps the cut consistent
walk_cut : (s : Recorded) (c : Cursors) (names : List Name) → IsConsistentCut s c → Walks s c names → IsConsistentCut s (cursors_from c names)
walk_cut s c [] cut walks = cut
walk_cut s c (n ∷ names) cut walks = walk_cut s (next c n.0) names (next_is_cut s c n cut walks.0) walks.1

module _ (s : Recorded) (runs : List Run) (whole : IsWholeWalk s (spelled runs)) where
  -- the first runs are a walk
  front : (k : ℕ) → Walks s at_start (spelled (take k runs))
  front k =
      let more = spelled_front at_start (take k runs) (drop k runs) in
      walks_front s at_start (spelled (take k runs)) more.0 (subst (λ (ns : List Name). Walks s at_start ns) (ap spelled (sym (take-append-drop k runs)) ∙ more.1) whole.0)

  -- and leave a consistent cut
  pub point_cut : (k : ℕ) → IsConsistentCut s (ends (take k runs))
  point_cut k = walk_cut s at_start (spelled (take k runs)) (start_is_cut s) (front k)

  -- the next run is there
  pub room : (k : ℕ) (d : Run) → k < length runs → ends (take k runs) (get_or runs k d).log + (get_or runs k d).count ≤ log_length s (get_or runs k d).log
  room k d lt =
      let run = get_or runs k d in
      let cut = point_cut k in
      (walks_run s run.log (ends (take k runs)) (ends (take k runs) run.log) run.count refl (cut.within run.log) (walk_back s runs k d lt (front (k + 1)))).0

  -- as the loops have it
  pub room_at : (t : TakenCounts) (k : ℕ) (d : Run) → cursors_of t ≡ ends (take k runs) → k < length runs → cursors_of t (get_or runs k d).log + (get_or runs k d).count ≤ log_length s (get_or runs k d).log
  room_at t k d at lt = let run = get_or runs k d in subst (λ (c : Cursors). c run.log + run.count ≤ log_length s run.log) (sym at) (room k d lt)

  -- the cursors before a run and behind it are consistent cuts
  pub cut_at : (t : TakenCounts) (k : ℕ) → cursors_of t ≡ ends (take k runs) → IsConsistentCut s (cursors_of t)
  cut_at t k at = subst (λ (c : Cursors). IsConsistentCut s c) (sym at) (point_cut k)

  pub moved_on : (t u : TakenCounts) (k : ℕ) (d : Run) → cursors_of t ≡ ends (take k runs) → k < length runs → cursors_of u ≡ moved (cursors_of t) (get_or runs k d).log (get_or runs k d).count → cursors_of u ≡ ends (take (k + 1) runs)
  moved_on t u k d at lt e =
      let run = get_or runs k d in
      e ∙ ap (λ (c : Cursors). moved c run.log run.count) at ∙ sym (cursors_on s runs k d lt)

  -- at the end all records are taken
  pub end_at : (t : TakenCounts) (k : ℕ) → cursors_of t ≡ ends (take k runs) → length runs ≤ k → (log : LogName) → cursors_of t log ≡ log_length s log
  end_at t k at le log = ap (λ (c : Cursors). c log) (sym (all_at runs k (cursors_of t) le (sym at))) ∙ whole.1 log
