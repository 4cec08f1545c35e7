-- What was met of a recording so far, and what is announced.
use Rattle.std.specs.Prelude.{ℕ, length}
use Rattle.session_grammar.specs.declared.stage.Stage.{Stage}
use Rattle.session_grammar.specs.declared.stage.Stage.TheVariants.{Init, Guest, Source, Link, Lane, Pager}
pub use Rattle.session_grammar.specs.inner.Held.{SessionDraft, Part, IsWhole, held_onto, NoGuest, NoSource, NoLink, NoLane, NoPager}

-- how many items of a stage's list were met, and how many are announced
abbrev pub came_at : Stage → SessionDraft → ℕ
came_at Init d = length d.init.items
came_at Guest d = length d.guest.items
came_at Source d = length d.source.items
came_at Link d = length d.link.items
came_at Lane d = length d.lane.items
came_at Pager d = length d.pager.items
came_at _ d = 0

abbrev pub announced_at : Stage → SessionDraft → ℕ
announced_at Init d = d.init.count
announced_at Guest d = d.guest.count
announced_at Source d = d.source.count
announced_at Link d = d.link.count
announced_at Lane d = d.lane.count
announced_at Pager d = d.pager.count
announced_at _ d = 0
