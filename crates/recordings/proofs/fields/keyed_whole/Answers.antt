use Rattle.std.proofs.Common.{sym, ◌∙◌}
use Rattle.std.specs.Prelude.{Option, Some, None, IfNone}
use Rattle.std.specs.Fmt.{decimal}
use Rattle.std.proofs.lemmas.List.{append_cancel_left}
use Rattle.recordings.proofs.fields.keyed_whole.Goals as goal

none_more : {X : Type 0} (P Q : Type 0) (found : Option X) → (P → Q) → IfNone found P → IfNone found Q
none_more P Q None more h = more h
none_more P Q (Some x) more h = tt

pub returns-clause-none : goal.returns-clause-none
returns-clause-none c = none_more _ _ c.number_whole.result (λ none n lt e. none n lt (append_cancel_left c.args.key.now c.in-Some.rest.now (decimal n) (sym c.in-Some.ensures ∙ e))) c.number_whole.ensures.none
