use Rattle.audit_model.specs.Mergings.{run_names}
use Rattle.session_core.proofs.NameRuns.{run_more}
use Rattle.session_core.proofs.names.push_run.Goals as goal
use Rattle.std.proofs.Common.{[], ap, append_assoc, arith, suc, sym, ◌+◌, ◌++◌, ◌∙◌, ◌∷◌, ◌≡◌}
use Rattle.std.specs.Prelude.{◌-◌}

pub loop-place-preserved : goal.loop-place-preserved
loop-place-preserved c =
    let log = c.args.log in
    let from = c.args.from in
    let place = c.loop-place.place in
    let before = c.args.order.now.items in
    let count : (place + 1) - from ≡ suc (place - from) = omega arith in
    let more = ap (λ n. run_names log from n) count ∙ run_more log from (place - from) place (omega arith) in
    record {
      items =
          c.push_reserved.ensures.items
          ∙ ap (λ names. names ++ (log, place) ∷ []) c.loop-place.invariant.items
          ∙ append_assoc before (run_names log from (place - from)) ((log, place) ∷ [])
          ∙ ap (λ names. before ++ names) (sym more);
      len = omega arith;
      capacity = c.push_reserved.ensures.capacity ∙ c.loop-place.invariant.capacity;
      within = omega arith;
    }

pub returns-clause-items : goal.returns-clause-items
returns-clause-items c =
    let count : c.loop-place.place - c.args.from ≡ c.args.to - c.args.from = omega arith in
    c.loop-place.invariant.items ∙ ap (λ n. c.args.order.now.items ++ run_names c.args.log c.args.from n) count

pub returns-clause-len : goal.returns-clause-len
returns-clause-len c = omega arith
