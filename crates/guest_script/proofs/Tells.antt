-- A line tells its event.
use Rattle.std.proofs.Common.{◌≡◌, ℕ, ◌+◌, ◌*◌, List, ◌++◌, get_or, refl, ap, arith}
use Rattle.std.proofs.lemmas.List.{append_cancel_left}
use Rattle.migration_events.specs.declared.events.Direction.{Direction}
use Rattle.migration_events.specs.declared.events.Direction.TheVariants.{Down, Up, Lane}
use Rattle.migration_events.specs.declared.events.Fate.{Fate}
use Rattle.migration_events.specs.declared.events.Fate.TheVariants.{Deliver, Lose, Repeat, Back}
use Rattle.migration_events.specs.declared.events.Event.{Event}
use Rattle.migration_events.specs.declared.events.Event.TheVariants.{GuestStep, Halt, Push, Serve, SourceTick, LinkTurn, PagerPop, PagerPull, PagerFault, PagerFlush, PagerDeliver, PagerTick}
use Rattle.guest_script.specs.Events.{fate_word, link_key, guest_key, event_line, EventFits}
use Rattle.guest_script.proofs.TextLists.{keyed_same}

-- the first, the second and the fourth letter of a line, which no two kinds have in common
abbrev letters : List ℕ → ℕ
letters line = (get_or line 0 0 * 256 + get_or line 1 0) * 256 + get_or line 3 0

pub fate_tells : (x y : Fate) → fate_word x ≡ fate_word y → x ≡ y
fate_tells Deliver Deliver same = refl
fate_tells Lose Lose same = refl
fate_tells Repeat Repeat same = refl
fate_tells Back Back same = refl
fate_tells x y same = let first : letters (fate_word x) ≡ letters (fate_word y) = ap letters same in absurd (omega (arith, first))

-- the letter in which the lines of no two ways agree
abbrev sixth_letter : List ℕ → ℕ
sixth_letter line = get_or line 5 0

turn_tells : (d e : Direction) (x y : Fate) → link_key d ++ fate_word x ≡ link_key e ++ fate_word y → LinkTurn d x ≡ LinkTurn e y
turn_tells Down Down x y same = ap (LinkTurn Down) (fate_tells x y (append_cancel_left (link_key Down) (fate_word x) (fate_word y) same))
turn_tells Up Up x y same = ap (LinkTurn Up) (fate_tells x y (append_cancel_left (link_key Up) (fate_word x) (fate_word y) same))
turn_tells Lane Lane x y same = ap (LinkTurn Lane) (fate_tells x y (append_cancel_left (link_key Lane) (fate_word x) (fate_word y) same))
turn_tells d e x y same = let sixth : sixth_letter (link_key d ++ fate_word x) ≡ sixth_letter (link_key e ++ fate_word y) = ap sixth_letter same in absurd (omega (arith, sixth))

link_letters : (d : Direction) (x : Fate) → letters (link_key d ++ fate_word x) ≡ 7104875
link_letters Down x = refl
link_letters Up x = refl
link_letters Lane x = refl

pub event_tells : (x y : Event) → EventFits x → EventFits y → event_line x ≡ event_line y → x ≡ y
event_tells (GuestStep v) (GuestStep w) a b same = ap GuestStep (keyed_same guest_key v w (omega (arith, a)) (omega (arith, b)) same)
event_tells (LinkTurn d x) (LinkTurn e y) a b same = turn_tells d e x y same
event_tells (LinkTurn d x) y a b same = let first : letters (event_line (LinkTurn d x)) ≡ letters (event_line y) = ap letters same in absurd (omega (arith, first, link_letters d x))
event_tells x (LinkTurn e y) a b same = let first : letters (event_line x) ≡ letters (event_line (LinkTurn e y)) = ap letters same in absurd (omega (arith, first, link_letters e y))
event_tells Halt Halt a b same = refl
event_tells Push Push a b same = refl
event_tells Serve Serve a b same = refl
event_tells SourceTick SourceTick a b same = refl
event_tells PagerPop PagerPop a b same = refl
event_tells PagerPull PagerPull a b same = refl
event_tells PagerFault PagerFault a b same = refl
event_tells PagerFlush PagerFlush a b same = refl
event_tells PagerDeliver PagerDeliver a b same = refl
event_tells PagerTick PagerTick a b same = refl
event_tells x y a b same = let first : letters (event_line x) ≡ letters (event_line y) = ap letters same in absurd (omega (arith, first))
