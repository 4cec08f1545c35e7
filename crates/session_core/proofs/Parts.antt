-- An event on the books that it names is the event on all.
use Rattle.std.proofs.Common.{◌≡◌, ◌∙◌, ℕ, ◌<◌, ◌≤◌, Bool, true, false, ◌&&◌, List, length, Option, Some, None, Ok, Err, Bor, is_some, refl, sym, ap, subst, arith}
use Rattle.std.specs.Prelude.{nat_le, Result, OnOk, OnErr}
use Rattle.std.proofs.lemmas.Bool.{le-leb}
use Rattle.std.proofs.lemmas.Bool.Decides.{nat_tests}
use Rattle.migration_types.specs.Limits.{most_records}
use Rattle.target_side.specs.TargetPart.{Accessed}
use Rattle.std.specs.Option.{option_map}
use Rattle.active_push.specs.SourcePart.{SourcePart}
use Rattle.link_book.specs.LinkPart.{LinkPart}
use Rattle.migration_events.specs.declared.events.Event.{Event}
use Rattle.migration_events.specs.declared.events.Fate.{Fate}
use Rattle.migration_events.specs.declared.events.Event.TheVariants.{Push}
use Rattle.migration_model.specs.Books.{Vcpu, BooksAfter, session_after}
use Rattle.migration_model.specs.Events.{away_event, has_room}
use Rattle.book_events.specs.Parts.{pushing, IsMade, IsFull}
use Rattle.session_core.specs.States.{AfterLists, away_of}
use Rattle.session_core.specs.inner.Steps.{went_on}

pub made : (e : Event) (old new : BooksAfter → BooksAfter) (before now : AfterLists) → IsMade e old new → before ≡ now → old (away_of before) ≡ away_of before
    → new (away_of before) ≡ away_event e (away_of now)
made e old new before now part is whole = sym (part.made (away_of before)) ∙ ap (away_event e) (whole ∙ ap (λ (v : AfterLists). away_of v) is)

pub full : (e : Event) (old : BooksAfter → BooksAfter) (before now : AfterLists) → IsFull e old → before ≡ now → old (away_of before) ≡ away_of before
    → has_room (session_after (away_event e (away_of now))) ≡ false
full e old before now part is whole = sym (ap (λ (a : BooksAfter). has_room (session_after (away_event e a))) (whole ∙ ap (λ (v : AfterLists). away_of v) is)) ∙ part.full (away_of before)

-- whether the script has a lane
pub lane_told : (seen : Option (Bor (List Fate))) (lane : Option (List Fate)) (has : Bool) → option_map (λ l. l.now) seen ≡ lane → has ≡ is_some seen → has ≡ is_some lane
lane_told None lane has is told = told ∙ ap is_some is
lane_told (Some fates) lane has is told = told ∙ ap is_some is

-- a push within the window that the script says, on the line that it says
pub full_within : (w v : ℕ) (h k : Bool) (s : SourcePart) (l : LinkPart) → w ≡ v → h ≡ k → IsFull Push (pushing w h s l) → IsFull Push (pushing v k s l)
full_within w v h k s l within lane part = subst (λ (x : ℕ × Bool). IsFull Push (pushing x.0 x.1 s l)) (λ i. (within i, lane i)) part

-- what holds where a result is an error, or is none
pub if_ok : {T E P Q : Type 0} (r : Result T E) → (P → Q) → OnOk r P → OnOk r Q
if_ok (Ok x) f h = f h
if_ok (Err e) f h = tt

pub if_err : {T E P Q : Type 0} (r : Result T E) → (P → Q) → OnErr r P → OnErr r Q
if_err (Ok x) f h = tt
if_err (Err e) f h = f h

-- the guest's log alone has grown, and is within its limit or not
first_true : (g h s l n p : Bool) → h ≡ true → (g && s && l && n && p) ≡ true → (h && s && l && n && p) ≡ true
first_true true h s l n p is room = subst (λ c. (c && s && l && n && p) ≡ true) (sym is) room
first_true false h s l n p is room = absurd (cc)

first_false : (h s l n p : Bool) → h ≡ false → (h && s && l && n && p) ≡ false
first_false h s l n p is = subst (λ c. (c && s && l && n && p) ≡ false) (sym is) refl

over : (n : ℕ) → most_records < n → nat_le n most_records ≡ false
over n long = grind (arith, nat_tests, long)

pub step_fits : (v : ℕ) (left : Vcpu) (r : Accessed) (a : BooksAfter) → length r.book.log ≤ most_records → has_room (session_after a) ≡ true → has_room (session_after (went_on v left r a)) ≡ true
step_fits v left r a few room =
    let s = session_after a in
    first_true (nat_le (length s.guest) most_records) (nat_le (length r.book.log) most_records) (nat_le (length s.source) most_records) (nat_le (length s.link) most_records) (nat_le (length s.lane) most_records) (nat_le (length s.pager) most_records)
    (le-leb (length r.book.log) most_records few) room

pub step_full : (v : ℕ) (left : Vcpu) (r : Accessed) (a : BooksAfter) → most_records < length r.book.log → has_room (session_after (went_on v left r a)) ≡ false
step_full v left r a long =
    let s = session_after a in
    first_false (nat_le (length r.book.log) most_records) (nat_le (length s.source) most_records) (nat_le (length s.link) most_records) (nat_le (length s.lane) most_records) (nat_le (length s.pager) most_records)
    (over (length r.book.log) long)
