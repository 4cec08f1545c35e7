-- The names that runs take, and marks.
use Rattle.std.proofs.Common.{◌≡◌, ℕ, zero, suc, ◌+◌, ◌<◌, ◌≤◌, Bool, true, false, cond, List, [], ◌∷◌, ◌++◌, length, take, drop, refl, sym, ap, ◌∙◌, subst, arith}
use Rattle.std.specs.List.{list_any}
use Rattle.std.proofs.lemmas.List.{take-append-drop}
use Rattle.migration_types.specs.declared.records.LogName.{LogName}
use Rattle.migration_types.specs.declared.cert.Run.{Run}
use Rattle.migration_types.specs.Receipts.{Name}
use Rattle.migration_types.specs.Sessions.{Recorded}
use Rattle.audit_model.specs.Names.{log_length}
use Rattle.audit_model.specs.Mergings.{Cursors, at_start, run_names, spelled}
use Rattle.audit_model.specs.Walks.{cursors_from, Walks}
use Rattle.merge_runs.proofs.Walking.{walks_front, walk_back, walks_run, spelled_front, the_run}
use Rattle.order_picture.specs.declared.focus.Mark.TheVariants.{Faulty, OwnCause, Cause, Against, OfPage, Plain}
use Rattle.order_picture.specs.declared.focus.Focus.{Focus}
use Rattle.order_picture.specs.Rows.{is_faulty}
use Rattle.session_story.specs.Subjects.{page_of}
use Rattle.order_picture.specs.Marks.{is_one, is_page, mark_of}

-- one name more of a run
pub run_push : (log : LogName) (place k : ℕ) → run_names log place (suc k) ≡ run_names log place k ++ (log, place + k) ∷ []
run_push log place zero = ap (λ (n : ℕ). (log, n) ∷ []) (omega arith)
run_push log place (suc k) = ap (λ (ns : List Name). (log, place) ∷ ns) (run_push log (suc place) k ∙ ap (λ (n : ℕ). run_names log (suc place) k ++ (log, n) ∷ []) (omega arith))

module _ (s : Recorded) (runs : List Run) (place : ℕ) (d : Run) (within : place < length runs) where
  abbrev run : Run
  run = the_run s runs place d within

  -- the records that a run of a walk takes are there
  pub run_fits : (c : Cursors) → c ≡ cursors_from at_start (spelled (take place runs)) → Walks s at_start (spelled runs) → c run.log ≤ log_length s run.log → c run.log + run.count ≤ log_length s run.log
  run_fits c at walks le = (walks_run s run.log c (c run.log) run.count refl le (subst (λ (e : Cursors). Walks s e (run_names run.log (e run.log) run.count)) (sym at) (walk_back s runs place d within front))).0
    where
      front : Walks s at_start (spelled (take (place + 1) runs))
      front =
          let more = spelled_front at_start (take (place + 1) runs) (drop (place + 1) runs) in
          walks_front s at_start (spelled (take (place + 1) runs)) more.0 (subst (λ (ns : List Name). Walks s at_start ns) (ap spelled (sym (take-append-drop (place + 1) runs)) ∙ more.1) walks)

faulty_mark : (a b c d : Bool) → is_faulty (cond a (cond b OwnCause Faulty) (cond b Cause (cond c Against (cond d OfPage Plain)))) ≡ a
faulty_mark true true c d = refl
faulty_mark true false c d = refl
faulty_mark false true c d = refl
faulty_mark false false true d = refl
faulty_mark false false false true = refl
faulty_mark false false false false = refl

-- the mark of the faulty record is its alone
pub marks_fault : (s : Recorded) (focus : Focus) (name : Name) → is_faulty (mark_of s focus name) ≡ is_one focus.fault name
marks_fault s focus name = faulty_mark (is_one focus.fault name) (is_one focus.cause name) (is_one focus.against name) (is_page focus.page (page_of s name))

pub any_faulty : (s : Recorded) (focus : Focus) (names : List Name) → list_any (λ name. is_faulty (mark_of s focus name)) names ≡ list_any (is_one focus.fault) names
any_faulty s focus names = ap (λ (f : Name → Bool). list_any f names) (λ i name. marks_fault s focus name i)
