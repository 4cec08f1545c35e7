use Rattle.std.proofs.Common.{◌≡◌, ℕ, suc, ◌+◌, ◌∙◌, List, [], ◌∷◌, ◌++◌, sym, ap, arith}
use Rattle.std.proofs.lemmas.List.{append_assoc, append-nil}
use Rattle.migration_types.specs.Receipts.{Name}
use Rattle.audit_model.specs.Mergings.{run_names}
use Rattle.order_picture.proofs.Names.{run_push}
use Rattle.order_picture.proofs.order.push_run.Goals as goal

pub loop-k-init : goal.loop-k-init
loop-k-init c = sym (append-nil c.args.names.now.items)

pub loop-k-preserved : goal.loop-k-preserved
loop-k-preserved c =
    let old = c.args.names.now.items in
    let log = c.args.log in
    let from = c.args.from in
    let k = c.loop-k.k in
    let more : suc k ≡ k + 1 = omega arith in
    c.in_ok-push.ensures.items
    ∙ (ap (λ (ns : List Name). ns ++ (log, from + k) ∷ []) c.loop-k.invariant
    ∙ (append_assoc old (run_names log from k) ((log, from + k) ∷ [])
    ∙ ap (λ (ns : List Name). old ++ ns) (sym (run_push log from k) ∙ ap (λ (n : ℕ). run_names log from n) more)))
