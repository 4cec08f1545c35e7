-- How a command ends.
use Rattle.std.proofs.Common.{◌≡◌, ℕ, List, Option, Result, Ok, Err, subst, sym}
use Rattle.std.specs.Prelude.{IfErr}
use Rattle.std.specs.Io.KnownBytes.{Appends, Keeps}
use Rattle.std.proofs.KnownBytes.{Keeps-refl}
use Rattle.command_texts.specs.declared.answer.Answer.{Answer}
use Rattle.command_texts.specs.declared.answer.Fault.{Fault}
use Rattle.command_texts.specs.declared.answer.Fault.TheVariants.{File, Link, Threads, Output, Memory}
use Rattle.command_texts.specs.Answers.{IsHostFault, IsListStop, IsOutputFault, IsReadFault, IsTextFault}
use Rattle.command_texts.specs.Told.{CutsShort, Ends, Fails, IsLeft, Tells}
use Rattle.text_access.specs.Written.{AppendsFront, Streams}

-- a fault at a text under one of some names is one at a text under one of more
pub read_fault_in : (P Q : List ℕ → Type 0) → ((name : List ℕ) → P name → Q name) → (fault : Fault) → IsReadFault P fault → IsReadFault Q fault
read_fault_in P Q more (File name why) h = more name.now h
read_fault_in P Q more Link h = h
read_fault_in P Q more Threads h = h
read_fault_in P Q more (Output name why) h = h
read_fault_in P Q more Memory h = h

pub read_faults_in : {V : Type 0} (P Q : List ℕ → Type 0) → ((name : List ℕ) → P name → Q name) → (r : Result V Fault) → IfErr r (IsReadFault P) → IfErr r (IsReadFault Q)
read_faults_in P Q more (Ok v) h = tt
read_faults_in P Q more (Err fault) h = read_fault_in P Q more fault h

pub text_fault : (P : List ℕ → Type 0) (fault : Fault) → IsReadFault P fault → IsTextFault P fault
text_fault P (File name why) h = h
text_fault P Link h = h
text_fault P Threads h = h
text_fault P (Output name why) h = tt
text_fault P Memory h = h

pub host_fault : (P : List ℕ → Type 0) (fault : Fault) → IsReadFault P fault → IsHostFault P fault
host_fault P (File name why) h = h
host_fault P Link h = tt
host_fault P Threads h = tt
host_fault P (Output name why) h = tt
host_fault P Memory h = h

-- a fault of the output is one of a command on texts
pub output_fault : (P : List ℕ → Type 0) (fault : Fault) → IsOutputFault fault → IsTextFault P fault
output_fault P (File name why) h = absurd h
output_fault P Link h = absurd h
output_fault P Threads h = absurd h
output_fault P (Output name why) h = tt
output_fault P Memory h = absurd h

-- and one that ends a list of answers
pub output_stops : (fault : Fault) → IsOutputFault fault → IsListStop fault
output_stops (File name why) h = absurd h
output_stops Link h = absurd h
output_stops Threads h = absurd h
output_stops (Output name why) h = tt
output_stops Memory h = absurd h

pub outputs_stop : {V : Type 0} (r : Result V Fault) → IfErr r IsOutputFault → IfErr r IsListStop
outputs_stop (Ok v) h = tt
outputs_stop (Err fault) h = output_stops fault h

module _ {T : Type 0} (IsFault : Fault → Type 0) (AreTexts : T → Type 0) (IsAnswerTo : T → List ℕ → ℕ → Type 0) where
  -- the output stays at a fault that is not its own
  left_alone : (IsName : List ℕ → Type 0) (old : Option (List ℕ)) (IsCut : Type 0) (fault : Fault) → IsReadFault IsName fault → IsLeft fault IsCut (Keeps old old)
  left_alone IsName old IsCut (File name why) h = Keeps-refl old
  left_alone IsName old IsCut Link h = Keeps-refl old
  left_alone IsName old IsCut Threads h = Keeps-refl old
  left_alone IsName old IsCut (Output name why) h = absurd h
  left_alone IsName old IsCut Memory h = Keeps-refl old

  -- a text was not read whole
  pub not_read : (IsName : List ℕ → Type 0) (old : Streams) (fault : Fault) → IsFault fault → IsReadFault IsName fault → Fails IsFault AreTexts IsAnswerTo old old fault
  not_read IsName old fault is h = record { is_fault = is; output = left_alone IsName old.0 _ fault h; errors = Keeps-refl old.1 }

  -- there was no memory for an answer
  pub no_memory : (old : Streams) (fault : Fault) → fault ≡ Memory → IsFault Memory → Fails IsFault AreTexts IsAnswerTo old old fault
  no_memory old fault e is = rw e record { is_fault = is; output = Keeps-refl old.0; errors = Keeps-refl old.1 }

  -- the output failed
  pub not_written : (texts : T) (text : List ℕ) (status : ℕ) (old new : Option (List ℕ)) (errors : Option (List ℕ)) (fault : Fault) → IsOutputFault fault → IsFault fault → AreTexts texts → IsAnswerTo texts text status → AppendsFront old new text → Fails IsFault AreTexts IsAnswerTo (old, errors) (new, errors) fault
  not_written texts text status old new errors (File name why) o is are is_answer front = absurd o
  not_written texts text status old new errors Link o is are is_answer front = absurd o
  not_written texts text status old new errors Threads o is are is_answer front = absurd o
  not_written texts text status old new errors (Output name why) o is are is_answer front =
      record { is_fault = is; output = record { texts = texts; are_texts = are; text = text; status = status; is_answer = is_answer; written = front }; errors = Keeps-refl errors }
  not_written texts text status old new errors Memory o is are is_answer front = absurd o

-- the answer was written
pub written_whole : {T : Type 0} (AreTexts : T → Type 0) (IsAnswerTo : T → List ℕ → ℕ → Type 0) (IsBeside : T → ℕ → Option (List ℕ) → Option (List ℕ) → Type 0) (texts : T) (answer : Answer) (status : ℕ) (old new : Streams) → status ≡ answer.status → AreTexts texts → IsAnswerTo texts answer.text.items answer.status → Appends old.0 new.0 answer.text.items → IsBeside texts status old.1 new.1 → Tells AreTexts IsAnswerTo IsBeside old new status
written_whole AreTexts IsAnswerTo IsBeside texts answer status old new e are is_answer written beside =
    record { texts = texts; are_texts = are; told = record { text = answer.text.items; is_answer = subst (λ (n : ℕ). IsAnswerTo texts answer.text.items n) (sym e) is_answer; written = written }; beside = beside }

-- ---- what was read

-- a fault that ends a list of answers is one of a command on texts
pub stop_of_text : (P : List ℕ → Type 0) (fault : Fault) → IsListStop fault → IsTextFault P fault
stop_of_text P (File name why) h = absurd h
stop_of_text P Link h = absurd h
stop_of_text P Threads h = absurd h
stop_of_text P (Output name why) h = tt
stop_of_text P Memory h = tt

module _ {T : Type 0} (AreTexts : T → Type 0) (IsAnswerTo : T → List ℕ → ℕ → Type 0) (texts : T) (are : AreTexts texts) where
  left_of_read : (old new : Option (List ℕ)) (fault : Fault) → IsLeft fault (CutsShort (λ t. t ≡ texts) IsAnswerTo old new) (Keeps old new) → IsLeft fault (CutsShort AreTexts IsAnswerTo old new) (Keeps old new)
  left_of_read old new (File name why) h = h
  left_of_read old new Link h = h
  left_of_read old new Threads h = h
  left_of_read old new (Output name why) h = record { texts = h.texts; are_texts = subst AreTexts (sym h.are_texts) are; text = h.text; status = h.status; is_answer = h.is_answer; written = h.written }
  left_of_read old new Memory h = h

  -- the command ends as its answer to what was read does
  pub ends_of_read : (P : List ℕ → Type 0) (IsBeside : T → ℕ → Option (List ℕ) → Option (List ℕ) → Type 0) (old new : Streams) (done : Result ℕ Fault) → Ends IsListStop (λ t. t ≡ texts) IsAnswerTo IsBeside old new done → Ends (IsTextFault P) AreTexts IsAnswerTo IsBeside old new done
  ends_of_read P IsBeside old new (Ok status) h = record { texts = h.texts; are_texts = subst AreTexts (sym h.are_texts) are; told = h.told; beside = h.beside }
  ends_of_read P IsBeside old new (Err fault) h = record { is_fault = stop_of_text P fault h.is_fault; output = left_of_read old.0 new.0 fault h.output; errors = h.errors }
