use Rattle.std.proofs.Common.{ℕ, List, Some, inr, ap₂}
use Rattle.std.specs.Prelude.{drop}
use Rattle.std.specs.Global.{Vec}
use Rattle.session_commands.proofs.folders.WithFoldersTextSource.session_text.Goals as goal

pub returns-in-Ok-text_of-clause-named : goal.returns-in-Ok-text_of-clause-named
returns-in-Ok-text_of-clause-named g c = inr (c.in-Ok-text_of.text.items, c.in-Ok-text_of.ensures, ap₂ (λ (n : ℕ) (v : Vec ℕ). Some (drop n v.items)) c.new.ensures.position c.new.ensures.inner)
