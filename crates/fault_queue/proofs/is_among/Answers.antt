use Rattle.std.proofs.Common.{ℕ, Bool, ap, ◌∙◌}
use Rattle.std.specs.List.{list_any}
use Rattle.fault_queue.proofs.Same.{same_pages}
use Rattle.fault_queue.proofs.is_among.Goals as goal

pub returns : goal.returns
returns c = c.contains.ensures.value ∙ ap (λ (f : ℕ → ℕ → Bool). list_any (λ p. f p c.args.page) c.args.pages.now) same_pages
