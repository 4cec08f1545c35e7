-- What became of an answer on its way to the output.
use Rattle.std.proofs.Common.{◌≡◌, ◌∙◌, ℕ, List, Option, Result, Ok, Err, refl, sym}
use Rattle.std.specs.Prelude.{IfErr, IfOk, IsOkAnd}
use Rattle.std.specs.declared.alloc.AllocError.{AllocError}
use Rattle.std.specs.Io.KnownBytes.{Appends, Keeps}
use Rattle.std.proofs.KnownBytes.{Keeps-refl}
use Rattle.text_access.specs.Written.{AppendsFront, Gains}
use Rattle.text_access.proofs.Fronts.{front_gains, kept_gains}
use Rattle.command_texts.specs.declared.answer.Answer.{Answer}
use Rattle.command_texts.specs.declared.answer.Fault.{Fault}
use Rattle.command_texts.specs.declared.answer.Fault.TheVariants.{File, Link, Threads, Output, Memory}
use Rattle.command_texts.specs.Answers.{IsAnswer, IsHostFault, IsListStop, IsOutputFault, Says}
use Rattle.command_texts.specs.Told.{CutsShort, Fails, IsLeft}
use Rattle.host_commands.specs.Written.{Has, IsCut, IsWritten}

-- what a fault leaves, by what follows from it
left_in : (fault : Fault) (A B C : Type 0) → (A → B) → IsLeft fault A C → IsLeft fault B C
left_in (File name why) A B C f h = h
left_in Link A B C f h = h
left_in Threads A B C f h = h
left_in (Output name why) A B C f h = f h
left_in Memory A B C f h = h

left_gives : (fault : Fault) (A B C : Type 0) → (A → C) → (B → C) → IsLeft fault A B → C
left_gives (File name why) A B C f g h = g h
left_gives Link A B C f g h = g h
left_gives Threads A B C f g h = g h
left_gives (Output name why) A B C f g h = f h
left_gives Memory A B C f g h = g h

pub stop_of_host : (P : List ℕ → Type 0) (fault : Fault) → IsListStop fault → IsHostFault P fault
stop_of_host P (File name why) h = absurd h
stop_of_host P Link h = tt
stop_of_host P Threads h = tt
stop_of_host P (Output name why) h = tt
stop_of_host P Memory h = tt

module _ (F G : Fault → Type 0) (fault_in : (fault : Fault) → F fault → G fault) (A B : List ℕ → ℕ → Type 0) (answer_in : (text : List ℕ) (status : ℕ) → A text status → B text status) (old new : Option (List ℕ)) where
  cut_in : IsCut A old new → IsCut B old new
  cut_in h = record { text = h.text; status = h.status; is_answer = answer_in h.text h.status h.is_answer; written = h.written }

  pub written_in : (done : Result ℕ Fault) → IsWritten F A old new done → IsWritten G B old new done
  written_in (Ok status) h = record { text = h.text; is_answer = answer_in h.text status h.is_answer; written = h.written }
  written_in (Err fault) h = (fault_in fault h.0, left_in fault (IsCut A old new) (IsCut B old new) (Keeps old new) cut_in h.1)

pub written_gains : (F : Fault → Type 0) (A : List ℕ → ℕ → Type 0) (old new : Option (List ℕ)) (done : Result ℕ Fault) → IsWritten F A old new done → Gains old new
written_gains F A old new (Ok status) h = (h.text, h.written)
written_gains F A old new (Err fault) h = left_gives fault (IsCut A old new) (Keeps old new) (Gains old new) (λ cut. front_gains old new cut.text cut.written) (kept_gains old new) h.1

-- an answer that is held
pub held_written : (answer : Answer) (found : Result Answer AllocError) (old new : Option (List ℕ)) (done : Result ℕ Fault) → found ≡ Ok answer
    → IfOk done (λ status. status ≡ answer.status) → IfOk done (λ status. Appends old new answer.text.items) → IfErr done IsOutputFault → AppendsFront old new answer.text.items
    → IsWritten IsListStop (λ text status. IsOkAnd found (λ a. Says a text status)) old new done
held_written answer found old new (Ok status) is e all fault front = record { text = answer.text.items; is_answer = rw is (refl, sym e); written = all }
held_written answer found old new (Err (File name why)) is e all fault front = absurd fault
held_written answer found old new (Err Link) is e all fault front = absurd fault
held_written answer found old new (Err Threads) is e all fault front = absurd fault
held_written answer found old new (Err (Output name why)) is e all fault front = (tt, record { text = answer.text.items; status = answer.status; is_answer = rw is (refl, refl); written = front })
held_written answer found old new (Err Memory) is e all fault front = absurd fault

-- the answer for what is right
module _ {V : Type 0} (IsRight : V → Type 0) (text_of : V → List ℕ) (status_of : V → ℕ) (value : V) (is : IsRight value) where
  pub right_in : (text : List ℕ) (status : ℕ) → Has (text_of value) (status_of value) text status → IsAnswer IsRight text_of status_of text status
  right_in text status h = record { value = value; is_right = is; is_text = h.0; is_status = h.1 }

  pub held_in : (found : Result Answer AllocError) → IfOk found (λ a. Says a (text_of value) (status_of value)) → (text : List ℕ) (status : ℕ) → IsOkAnd found (λ a. Says a text status) → IsAnswer IsRight text_of status_of text status
  held_in (Ok a) says text status h = record { value = value; is_right = is; is_text = sym h.0 ∙ says.0; is_status = sym h.1 ∙ says.1 }
  held_in (Err e) says text status h = absurd h

-- the command fails as its answer to what was read does
pub fails : {T : Type 0} (F G : Fault → Type 0) → ((fault : Fault) → F fault → G fault) → (AreTexts : T → Type 0) (IsAnswerTo : T → List ℕ → ℕ → Type 0) (texts : T) → AreTexts texts → (old new errors : Option (List ℕ)) (fault : Fault) → IsWritten F (IsAnswerTo texts) old new (Err fault) → Fails G AreTexts IsAnswerTo (old, errors) (new, errors) fault
fails F G fault_in AreTexts IsAnswerTo texts are old new errors fault h = record {
  is_fault = fault_in fault h.0;
  output = left_in fault (IsCut (IsAnswerTo texts) old new) (CutsShort AreTexts IsAnswerTo old new) (Keeps old new) (λ cut. record { texts = texts; are_texts = are; text = cut.text; status = cut.status; is_answer = cut.is_answer; written = cut.written }) h.1;
  errors = Keeps-refl errors;
}
