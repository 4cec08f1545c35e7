-- The files of a log tell one log, where their bytes are known.
use Rattle.std.proofs.Common.{◌≡◌, ℕ, zero, suc, ◌+◌, ◌<◌, ◌≤◌, Bool, true, false, ◌⊎◌, inl, inr, List, [], ◌∷◌, ◌++◌, length, Option, Some, None, refl, sym, ap, subst, ◌∙◌, append-nil, arith, length-append}
use Rattle.std.specs.Prelude.{slice_get, IfSome, IsSome}
use Rattle.std.specs.List.{AllByRecursion, Contains}
use Rattle.std.proofs.lemmas.List.Elements.{Contains-append_left, Contains-append_right, Contains-append_cases}
use Rattle.std.proofs.lemmas.List.Sorted.{Contains-permutation, IsPermutation-sym}
use Rattle.std.proofs.lemmas.Option.{slice_get-get_or, slice_get_within, same_Some}
use Rattle.std.proofs.lemmas.Bool.{cases_lt}
use Rattle.recorder_files.specs.declared.lines.Party.{Party}
use Rattle.recorder_files.specs.declared.turns.Turn.TheVariants.{Missing}
use Rattle.recorder_files.specs.Gathered.{Numbered, numbered_from, all_of, IsGathered}
use Rattle.recorder_files.specs.Said.{Standing}
use Rattle.recorder_files.proofs.Saying.{IsFrontOf, HasAllBelow, all_before, came_front, said_all, said_front, shorter_front}
use Rattle.recorder_files.specs.Logs.{Came, Gathering, IsAt, SayLog, Stops, is_given}
use Rattle.recorder_files.specs.Records.{EndsAt}
use Rattle.recorder_files.proofs.Elements.{contains_at, element}

-- ---- elements

at_place : {X : Type 0} (xs : List X) (x : X) → Contains xs x → (k : ℕ) × (slice_get xs k ≡ Some x)
at_place {X} xs x there = (there.0, slice_get-get_or xs there.0 x there.1 ∙ ap (λ (y : X). Some y) there.2)

numbered_at : {X : Type 0} (m n : ℕ) (log : List X) (x : X) → slice_get log n ≡ Some x → slice_get (numbered_from m log) n ≡ Some (m + n, x)
numbered_at m n [] x e = absurd cc
numbered_at m zero (y ∷ log) x e = let same = same_Some y x e in let zero_more : m ≡ m + 0 = omega arith in cc
numbered_at m (suc n) (y ∷ log) x e = numbered_at (suc m) n log x e ∙ ap (λ k. Some (k, x)) (omega arith)

of_numbered : {X : Type 0} (m k n : ℕ) (log : List X) (x : X) → slice_get (numbered_from m log) k ≡ Some (n, x) → (n ≡ m + k) × (slice_get log k ≡ Some x)
of_numbered m k n [] x e = absurd cc
of_numbered {X} m zero n (y ∷ log) x e =
    let same : (m, y) ≡ (n, x) = same_Some (m, y) (n, x) e in
    let first : m ≡ n = ap (λ (p : ℕ × X). p.0) same in
    (omega (arith, first), ap (λ (p : ℕ × X). Some p.1) same)
of_numbered m (suc k) n (y ∷ log) x e =
    let there = of_numbered (suc m) k n log x e in
    let first = there.0 in
    (omega (arith, first), there.1)

of_log : {X : Type 0} (log : List X) (n : ℕ) (x : X) → Contains (numbered_from 0 log) (n, x) → slice_get log n ≡ Some x
of_log {X} log n x there =
    let place = at_place (numbered_from 0 log) (n, x) there in
    let found = of_numbered 0 place.0 n log x place.1 in
    let counted = found.0 in
    let same : place.0 ≡ n = omega (arith, counted) in
    subst (λ (k : ℕ). slice_get log k ≡ Some x) same found.1

in_all : {X : Type 0} (files : List (Numbered X)) (i : ℕ) (file : Numbered X) (r : ℕ × X) → slice_get files i ≡ Some file → Contains file r → Contains (all_of files) r
in_all [] i file r e there = absurd cc
in_all {X} (f ∷ files) zero file r e there = Contains-append_left f (all_of files) r (subst (λ (x : Numbered X). Contains x r) (sym (same_Some f file e)) there)
in_all (f ∷ files) (suc i) file r e there = Contains-append_right f (all_of files) r (in_all files i file r e there)

-- a file that has a record
record Holds {X : Type 0} (files : List (Numbered X)) (r : ℕ × X) : Type 0 where
  pub i : ℕ
  pub file : Numbered X
  pub found : slice_get files i ≡ Some file
  pub there : Contains file r

of_all : {X : Type 0} (files : List (Numbered X)) (r : ℕ × X) → Contains (all_of files) r → Holds files r
of_all [] r there = absurd (omega (arith, there.1))
of_all {X} (f ∷ files) r there = go (Contains-append_cases f (all_of files) r there) (λ behind. of_all files r behind)
  where
    go : Contains f r ⊎ Contains (all_of files) r → (Contains (all_of files) r → Holds files r) → Holds (f ∷ files) r
    go (inl here) later = record { i = 0; file = f; found = refl; there = here }
    go (inr behind) later = let h = later behind in record { i = suc h.i; file = h.file; found = h.found; there = h.there }

front_of : {X : Type 0} (xs ys : List X) → ((n : ℕ) (x : X) → slice_get xs n ≡ Some x → slice_get ys n ≡ Some x) → (more : List X) × (ys ≡ xs ++ more)
front_of [] ys same = (ys, refl)
front_of (x ∷ xs) [] same = let none : None ≡ Some x = same 0 x refl in absurd cc
front_of (x ∷ xs) (y ∷ ys) same =
    let rest = front_of xs ys (λ n z e. same (suc n) z e) in
    let first : y ≡ x = same_Some y x (same 0 x refl) in
    let tail = rest.1 in
    (rest.0, cc)

known_at : (knowns : List (Option (List ℕ))) (k : ℕ) (known : Option (List ℕ)) → AllByRecursion IsSome knowns → slice_get knowns k ≡ Some known → (xs : List ℕ) × (known ≡ Some xs)
known_at [] k known all e = absurd cc
known_at (None ∷ knowns) zero known all e = let none : false ≡ true = all.0 in absurd cc
known_at (Some xs ∷ knowns) zero known all e = (xs, sym (same_Some (Some xs) known e))
known_at (x ∷ knowns) (suc k) known all e = known_at knowns k known all.1 e

-- ---- what was taken of the files

-- a front of each file was taken, and these, gathered, are the log
record AreFronts (knowns : List (Option (List ℕ))) (takens : List (Numbered (List ℕ))) (log : List (List ℕ)) : Type 0 where
  pub many : length takens ≡ length knowns
  pub each : (k : ℕ) (xs : List ℕ) (taken : Numbered (List ℕ)) → slice_get knowns k ≡ Some (Some xs) → slice_get takens k ≡ Some taken → IsFrontOf xs taken
  pub gathered : IsGathered takens log

-- and no file has the next record
record AreTold (knowns : List (Option (List ℕ))) (takens : List (Numbered (List ℕ))) (log : List (List ℕ)) : Type 0 where
  pub fronts : AreFronts knowns takens log
  pub all : (k : ℕ) (xs : List ℕ) (taken : Numbered (List ℕ)) → slice_get knowns k ≡ Some (Some xs) → slice_get takens k ≡ Some taken → HasAllBelow xs taken (length log + 1)

at_front : (party : Party) (xs : List ℕ) (s : Standing) (head : Option ℕ) (taken : Numbered (List ℕ)) (low : ℕ) (is_read_on : Bool) → IsAt party (Some xs) s head taken low is_read_on → IsFrontOf xs taken
at_front party xs s head taken low true at = came_front party xs s taken at.0
at_front party xs s None taken low false at = said_front party xs (record { name = s.name; opening = s.opening; records = taken; last = s.last }) at.0
at_front party xs s (Some n) taken low false at = shorter_front xs taken n s.text (came_front party xs s (taken ++ (n, s.text) ∷ []) at.0)

at_all : (party : Party) (xs : List ℕ) (s : Standing) (head : Option ℕ) (taken : Numbered (List ℕ)) (low bound : ℕ) → IfSome head (λ n. bound ≤ n) → IsAt party (Some xs) s head taken low false → HasAllBelow xs taken bound
at_all party xs s None taken low bound above at = said_all party xs (record { name = s.name; opening = s.opening; records = taken; last = s.last }) bound at.0
at_all party xs s (Some n) taken low bound above at = all_before xs taken n s.text bound (came_front party xs s (taken ++ (n, s.text) ∷ []) at.0) above

came_fronts : (party : Party) (knowns : List (Option (List ℕ))) (g : Gathering) (log : List (List ℕ)) → (came : Came party knowns g log) → AreFronts knowns came.takens log
came_fronts party knowns g log came = record {
  many = came.are_at.many_takens ∙ sym came.are_at.many_knowns;
  each = λ k xs taken ek et.
      let lt = slice_get_within knowns k (Some xs) ek in
      let file = element g.files k (omega (arith, lt, came.are_at.many_knowns)) in
      let head = element g.heads k (omega (arith, lt, came.are_at.many_knowns, came.are_at.many_heads)) in
      at_front party xs file.0 head.0 taken g.number (is_given g.given k) (came.are_at.each k (Some xs) file.0 head.0 taken ek file.1 head.1 et);
  gathered = came.gathered;
}

says_told : (party : Party) (knowns : List (Option (List ℕ))) (files : List Standing) (log : List (List ℕ)) → (says : SayLog party knowns files log) → AreTold knowns says.takens log
says_told party knowns files log says = record {
  fronts = record {
    many = says.many_takens ∙ sym says.many_knowns;
    each = λ k xs taken ek et.
        let file = element files k (omega (arith, slice_get_within knowns k (Some xs) ek, says.many_knowns)) in
        said_front party xs (record { name = file.0.name; opening = file.0.opening; records = taken; last = file.0.last }) (says.each k (Some xs) file.0 taken ek file.1 et);
    gathered = says.gathered;
  };
  all = λ k xs taken ek et.
      let file = element files k (omega (arith, slice_get_within knowns k (Some xs) ek, says.many_knowns)) in
      said_all party xs (record { name = file.0.name; opening = file.0.opening; records = taken; last = file.0.last }) (length log + 1) (says.each k (Some xs) file.0 taken ek file.1 et);
}

stops_told : (party : Party) (knowns : List (Option (List ℕ))) (g : Gathering) (log : List (List ℕ)) (n : ℕ) → length log < n → (stops : Stops party knowns g log (Missing n)) → AreTold knowns stops.takens log
stops_told party knowns g log n lt stops = record {
  fronts = record {
    many = stops.are_at.many_takens ∙ sym stops.are_at.many_knowns;
    each = λ k xs taken ek et. at_front party xs (file k xs ek).0 (head k xs ek).0 taken (length log) false (at k xs taken ek et);
    gathered = stops.gathered;
  };
  all = λ k xs taken ek et. at_all party xs (file k xs ek).0 (head k xs ek).0 taken (length log) (length log + 1) (above k (head k xs ek).0 (head k xs ek).1) (at k xs taken ek et);
}
  where
    file : (k : ℕ) (xs : List ℕ) → slice_get knowns k ≡ Some (Some xs) → (s : Standing) × (slice_get g.files k ≡ Some s)
    file k xs ek = element g.files k (omega (arith, slice_get_within knowns k (Some xs) ek, stops.are_at.many_knowns))

    head : (k : ℕ) (xs : List ℕ) → slice_get knowns k ≡ Some (Some xs) → (h : Option ℕ) × (slice_get g.heads k ≡ Some h)
    head k xs ek = element g.heads k (omega (arith, slice_get_within knowns k (Some xs) ek, stops.are_at.many_knowns, stops.are_at.many_heads))

    at : (k : ℕ) (xs : List ℕ) (taken : Numbered (List ℕ)) → (ek : slice_get knowns k ≡ Some (Some xs)) → slice_get stops.takens k ≡ Some taken → IsAt party (Some xs) (file k xs ek).0 (head k xs ek).0 taken (length log) false
    at k xs taken ek et = stops.are_at.each k (Some xs) (file k xs ek).0 (head k xs ek).0 taken ek (file k xs ek).1 (head k xs ek).1 et

    above : (k : ℕ) (h : Option ℕ) → slice_get g.heads k ≡ Some h → IfSome h (λ m. length log + 1 ≤ m)
    above k None e = tt
    above k (Some m) e = omega (arith, stops.is_turn.2 k m e, lt)

ends_told : (party : Party) (knowns : List (Option (List ℕ))) (g : Gathering) (log : List (List ℕ)) (hole : Option ℕ) → EndsAt party knowns g log hole → (takens : List (Numbered (List ℕ))) × AreTold knowns takens log
ends_told party knowns g log None ends = (ends.takens, says_told party knowns g.files log ends)
ends_told party knowns g log (Some n) ends = (ends.1.takens, stops_told party knowns g log n ends.0 ends.1)

-- ---- one log

-- a record that came is in the log, unless the log ends in front of it
has_too : (knowns : List (Option (List ℕ))) (some all : List (Numbered (List ℕ))) (log whole : List (List ℕ)) → AllByRecursion IsSome knowns → AreFronts knowns some log → AreTold knowns all whole → (n : ℕ) (text : List ℕ) → slice_get log n ≡ Some text → n < length whole + 1 → slice_get whole n ≡ Some text
has_too knowns some all log whole are_known fronts told n text e lt =
    let r : ℕ × List ℕ = (n, text) in
    let numbered : Contains (numbered_from 0 log) r = contains_at (numbered_from 0 log) n r (numbered_at 0 n log text e ∙ ap (λ (k : ℕ). Some (k, text)) (omega arith)) in
    let held : Holds some r = of_all some r (Contains-permutation (numbered_from 0 log) (all_of some) r (IsPermutation-sym (all_of some) (numbered_from 0 log) fronts.gathered) numbered) in
    let i = held.i in
    let within = slice_get_within some i held.file held.found in
    let known = element knowns i (omega (arith, within, fronts.many)) in
    let bytes = known_at knowns i known.0 are_known known.1 in
    let is_known : slice_get knowns i ≡ Some (Some bytes.0) = known.1 ∙ ap (λ (k : Option (List ℕ)). Some k) bytes.1 in
    let other = element all i (omega (arith, within, fronts.many, told.fronts.many)) in
    let there : Contains other.0 r = told.all i bytes.0 other.0 is_known other.1 held.file (fronts.each i bytes.0 held.file is_known held.found) r held.there lt in
    let of_whole : Contains (numbered_from 0 whole) r = Contains-permutation (all_of all) (numbered_from 0 whole) r told.fronts.gathered (in_all all i other.0 r other.1 there) in
    of_log whole n text of_whole

no_longer : (knowns : List (Option (List ℕ))) (some all : List (Numbered (List ℕ))) (log whole : List (List ℕ)) → AllByRecursion IsSome knowns → AreFronts knowns some log → AreTold knowns all whole → length log ≤ length whole
no_longer knowns some all log whole are_known fronts told = go (cases_lt (length whole) (length log))
  where
    go : (length whole < length log) ⊎ (length log ≤ length whole) → length log ≤ length whole
    go (inr le) = le
    go (inl lt) =
        let next = element log (length whole) lt in
        let there = has_too knowns some all log whole are_known fronts told (length whole) next.0 next.1 (omega arith) in
        absurd (omega (arith, slice_get_within whole (length whole) next.0 there))

is_front : (knowns : List (Option (List ℕ))) (some all : List (Numbered (List ℕ))) (log whole : List (List ℕ)) → AllByRecursion IsSome knowns → AreFronts knowns some log → AreTold knowns all whole → (more : List (List ℕ)) × (whole ≡ log ++ more)
is_front knowns some all log whole are_known fronts told =
    let le = no_longer knowns some all log whole are_known fronts told in
    front_of log whole (λ n text e. has_too knowns some all log whole are_known fronts told n text e (omega (arith, le, slice_get_within log n text e)))

-- what came of the files is a front of the log that they tell
pub came_is_front : (party : Party) (knowns : List (Option (List ℕ))) (g h : Gathering) (log whole : List (List ℕ)) (hole : Option ℕ) → AllByRecursion IsSome knowns → Came party knowns g log → EndsAt party knowns h whole hole → (more : List (List ℕ)) × (whole ≡ log ++ more)
came_is_front party knowns g h log whole hole are_known came ends =
    let told = ends_told party knowns h whole hole ends in
    is_front knowns came.takens told.0 log whole are_known (came_fronts party knowns g log came) told.1

-- they tell one log
pub one_log : (party : Party) (knowns : List (Option (List ℕ))) (g h : Gathering) (log other : List (List ℕ)) (hole end : Option ℕ) → AllByRecursion IsSome knowns → EndsAt party knowns g log hole → EndsAt party knowns h other end → log ≡ other
one_log party knowns g h log other hole end are_known one two =
    let first = ends_told party knowns g log hole one in
    let second = ends_told party knowns h other end two in
    let on = is_front knowns first.0 second.0 log other are_known first.1.fronts second.1 in
    let le = no_longer knowns second.0 first.0 other log are_known second.1.fronts first.1 in
    let none : on.0 ≡ [] = empty on.0 (omega (arith, le, ap (λ (xs : List (List ℕ)). length xs) on.1, length-append log on.0)) in
    sym (on.1 ∙ (ap (λ (xs : List (List ℕ)). log ++ xs) none ∙ append-nil log))
  where
    empty : (xs : List (List ℕ)) → length xs ≤ 0 → xs ≡ []
    empty [] le = refl
    empty (x ∷ xs) le = absurd (omega (arith, le))
