-- What an output and the errors gain.
use Rattle.std.proofs.Common.{◌≡◌, ℕ, List, Option, Result, Ok, Err}
use Rattle.std.specs.Prelude.{IfOk}
use Rattle.command_texts.specs.Several.{TellsOneUnread}
use Rattle.text_access.specs.Written.{AppendsFront, Gains}
use Rattle.text_access.proofs.Fronts.{both_gain, front_gains, same_gains}

pub same : (a : Option (List ℕ)) → Gains a a
same a = same_gains a

pub front : (a b : Option (List ℕ)) (bytes : List ℕ) → AppendsFront a b bytes → Gains a b
front a b bytes h = front_gains a b bytes h

pub both : (a b c : Option (List ℕ)) → Gains a b → Gains b c → Gains a c
both a b c g h = both_gain a b c g h

-- a text that was not read is told after what was gained before
pub told_later : (a b c : Option (List ℕ)) → Gains a b → TellsOneUnread b c → TellsOneUnread a c
told_later a b c g t = record { name = t.name; before = t.before; behind = t.behind; gained = both_gain a b t.before g t.gained; told = t.told; more = t.more }

pub unread_later : {F : Type 0} (r : Result ℕ F) (a b c : Option (List ℕ)) → Gains a b → IfOk r (λ status. status ≡ 3 → TellsOneUnread b c) → IfOk r (λ status. status ≡ 3 → TellsOneUnread a c)
unread_later (Ok status) a b c g t = λ is_three. told_later a b c g (t is_three)
unread_later (Err fault) a b c g t = tt
