use Rattle.std.proofs.Common.{ℕ, [], ◌∷◌, ◌++◌, Option, subst, map}
use Rattle.std.proofs.lemmas.Result.{err_from_is_err_and}
use Rattle.recorder_files.specs.Said.{CameTo, Goes}
use Rattle.recorder_files.specs.declared.lines.Party.TheVariants.{Machine}
use Rattle.recorder_files.specs.Machine.{numbered_line}
use Rattle.recorder_files.proofs.Entries.{entries_more, file_tells, text_fault}
use Rattle.recorder_files.proofs.machine_log.take_entries.Goals as goal

pub returns-in_err-push_entry-in-Ok-Some-clause-refused : goal.returns-in_err-push_entry-in-Ok-Some-clause-refused
returns-in_err-push_entry-in-Ok-Some-clause-refused g c =
    let p = err_from_is_err_and c.from_residual.result c.from_residual.ensures.1 in
    rw (p.1, p.2) (λ known begun.
    let old = c.records.invariant.1 known begun in
    let now = c.next.new.self in
    let came : CameTo Machine known now (map numbered_line old.0 ++ (c.in-Ok-Some.number, now.text) ∷ []) = subst (λ (o : Option ℕ). Goes Machine known now (map numbered_line old.0) o) c.in-Ok-Some.field-0-is (c.in-Ok-Some.ensures.taken Machine known (map numbered_line old.0) old.1) in
    text_fault known now old.0 c.in-Ok-Some.number c.text.result.now c.in_err-push_entry-in-Ok-Some.field-0.0 old.2 came c.text.ensures c.in_err-push_entry-in-Ok-Some.ensures.refused)

pub returns-in-Ok-None-clause-taken : goal.returns-in-Ok-None-clause-taken
returns-in-Ok-None-clause-taken g c = λ known begun.
    let old = c.records.invariant.1 known begun in
    let now = c.next.new.self in
    (old.0, file_tells known now old.0 (subst (λ (o : Option ℕ). Goes Machine known now (map numbered_line old.0) o) c.in-Ok-None.field-0-is (c.in-Ok-None.ensures.taken Machine known (map numbered_line old.0) old.1)) old.2, old.3)

pub returns-in-Err-clause-refused : goal.returns-in-Err-clause-refused
returns-in-Err-clause-refused g c = λ known begun. let old = c.records.invariant.1 known begun in c.in-Err.ensures.refused Machine known (map numbered_line old.0) old.1

pub records-preserved : goal.records-preserved
records-preserved g c = (
  c.in_ok-push_entry-in-Ok-Some.ensures.are,
  λ known begun.
      let old = c.records.invariant.1 known begun in
      let now = c.next.new.self in
      let came : CameTo Machine known now (map numbered_line old.0 ++ (c.in-Ok-Some.number, now.text) ∷ []) = subst (λ (o : Option ℕ). Goes Machine known now (map numbered_line old.0) o) c.in-Ok-Some.field-0-is (c.in-Ok-Some.ensures.taken Machine known (map numbered_line old.0) old.1) in
      entries_more known now c.args.entries.now.items c.records.entries.items c.push_entry.new.entries.items old.0 c.in-Ok-Some.number c.text.result.now came c.text.ensures old.2 old.3 c.in_ok-push_entry-in-Ok-Some.ensures.pushed,
)
