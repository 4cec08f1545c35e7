-- Messages, as records take them.
use Rattle.std.proofs.Common.{◌≡◌, ℕ, suc, ◌+◌, ◌<◌, ◌≤◌, inl, inr, List, [], ◌∷◌, ◌++◌, length, take, get_or, Option, Some, None, refl, sym, ap, subst, ◌∙◌, arith, append_assoc, append-nil}
use Rattle.std.specs.Prelude.{slice_get}
use Rattle.std.specs.Option.{option_to_list}
use Rattle.std.proofs.Math.Seq.{take-suc}
use Rattle.std.proofs.lemmas.Option.{slice_get-get_or, slice_get_within, get_or_from_slice_get}
use Rattle.recorder_files.specs.declared.delivering.Message.{Message}
use Rattle.recorder_files.specs.Deliveries.{AreNumbers}
use Rattle.walked_sessions.specs.declared.cursors.Cursor.{Cursor}
use Rattle.walked_sessions.specs.Walks.{IsNumberOf}
use Rattle.walked_sessions.specs.inner.Passing.{HasPassed, Passes, number_or_lost}

take_found : {X : Type 0} (xs : List X) (k next : ℕ) (x : X) → next ≡ k + 1 → slice_get xs k ≡ Some x → take next xs ≡ take k xs ++ x ∷ []
take_found xs k next x e found =
    let same : next ≡ suc k = omega (arith, e) in
    ap (λ n. take n xs) same ∙ (take-suc xs k x (slice_get_within xs k x found) ∙ ap (λ y. take k xs ++ y ∷ []) (get_or_from_slice_get xs k x x found))

-- the message at the place is passed
pub passes_one : (old new : Cursor) (message : Message) (n : ℕ) → new.messages.now ≡ old.messages.now → new.numbers.now ≡ old.numbers.now → new.place ≡ old.place + 1 → slice_get old.messages.now old.place ≡ Some message → n ≡ number_or_lost (slice_get old.numbers.now old.place) → Passes old new (Some message) n
passes_one old new message n same_messages same_numbers next found is = record {
  messages = same_messages;
  numbers = same_numbers;
  passed = λ le. take_found old.messages.now old.place new.place message next found;
  within = λ le. omega (arith, next, lt);
  numbered = λ deliveries count are. go deliveries count are (get_or old.numbers.now old.place None) (slice_get-get_or old.numbers.now old.place None (omega (arith, lt, are.long)));
}
  where
    lt : old.place < length old.messages.now
    lt = slice_get_within old.messages.now old.place message found

    go : (deliveries : List Message) (count : ℕ) → AreNumbers old.messages.now count deliveries old.numbers.now → (o : Option ℕ) → slice_get old.numbers.now old.place ≡ Some o → IsNumberOf deliveries count message n
    go deliveries count are None e = inr (are.each old.place message None found e, is ∙ ap number_or_lost e)
    go deliveries count are (Some k) e = inl (subst (λ j. slice_get deliveries j ≡ Some message) (sym (is ∙ ap number_or_lost e)) (are.each old.place message (Some k) found e))

pub has_passed_none : (c : Cursor) → HasPassed c c []
has_passed_none c = record { messages = refl; numbers = refl; within = λ le. le; passed = λ le. sym (append-nil (take c.place c.messages.now)) }

pub has_passed_more : (first old new : Cursor) (told : List Message) (message : Option Message) (n : ℕ) → HasPassed first old told → Passes old new message n → HasPassed first new (told ++ option_to_list message)
has_passed_more first old new told message n has passes = record {
  messages = passes.messages ∙ has.messages;
  numbers = passes.numbers ∙ has.numbers;
  within = λ le. subst (λ (ms : List Message). new.place ≤ length ms) has.messages (passes.within (there le));
  passed = λ le.
      let step : take new.place first.messages.now ≡ take old.place first.messages.now ++ option_to_list message = subst (λ (ms : List Message). take new.place ms ≡ take old.place ms ++ option_to_list message) has.messages (passes.passed (there le)) in
      step ∙ (ap (λ xs. xs ++ option_to_list message) (has.passed le) ∙ append_assoc (take first.place first.messages.now) told (option_to_list message));
}
  where
    there : first.place ≤ length first.messages.now → old.place ≤ length old.messages.now
    there le = subst (λ (ms : List Message). old.place ≤ length ms) (sym has.messages) (has.within le)

-- the numbers of the messages, where a cursor has come
pub are_numbers_there : (first old : Cursor) (told : List Message) (deliveries : List Message) (count : ℕ) → HasPassed first old told → AreNumbers first.messages.now count deliveries first.numbers.now → AreNumbers old.messages.now count deliveries old.numbers.now
are_numbers_there first old told deliveries count has are = subst (λ (ms : List Message). AreNumbers ms count deliveries old.numbers.now) (sym has.messages) (subst (λ (ns : List (Option ℕ)). AreNumbers first.messages.now count deliveries ns) (sym has.numbers) are)
