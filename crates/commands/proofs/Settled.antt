-- What was done and settled.
use Rattle.std.proofs.Common.{rules, ◌≡◌, ◌≢◌, ◌∙◌, ℕ, ◌<◌, List, Result, Ok, Err, MatchResult, IfOk, arith, Option, Some, None, inl, inr, subst, refl, sym, ap}
use Rattle.std.specs.Prelude.{IfSome}
use Rattle.std.specs.Borrow.{Bor}
use Rattle.std.specs.Io.KnownBytes.{Keeps}
use Rattle.clap.specs.declared.error.kind.ErrorKind.{ErrorKind}
use Rattle.command_texts.specs.declared.answer.Fault.{Fault}
use Rattle.command_texts.specs.declared.answer.Fault.TheVariants.{File, Link, Threads, Output, Memory}
use Rattle.command_texts.specs.Answers.{IsOutputFault, fault_line, fault_status}
use Rattle.command_texts.specs.Several.{IsListStatus, TellsOneUnread}
use Rattle.text_access.specs.Written.{AppendsFront, BothGain, Gains, Streams}
use Rattle.text_access.proofs.Fronts.{front_gains, kept_gains, same_gains}
use Rattle.commands.specs.Refused.{IsAsking, IsRefusalOf}
use Rattle.commands.specs.Told.{IsFaultTold, IsSettled, IsSettledAs}

-- a fault's status is above 2
pub fault_high : (fault : Fault) → 2 < fault_status fault
fault_high (File name why) = omega arith
fault_high Link = omega arith
fault_high Threads = omega arith
fault_high (Output name why) = omega arith
fault_high Memory = omega arith

pub no_fault : (fault : Fault) → 0 ≡ fault_status fault → ⊥
no_fault fault zero = absurd (omega (arith, zero, fault_high fault))

ok_same : (a b : ℕ) → ◌≡◌ {A = Result ℕ Fault} (Ok a) (Ok b) → a ≡ b
ok_same a b e = cc

-- the status of what was done, of which a fault is told
abbrev pub IsTold : Result ℕ Fault → ℕ → Option (List ℕ) → Option (List ℕ) → Type 0
IsTold done status errors new = MatchResult done (λ s. (status ≡ s) × (new ≡ errors)) (λ fault. (status ≡ fault_status fault) × AppendsFront errors new (fault_line fault))

-- what was done is settled in a status
pub settled_as : (IsOwn : ℕ → Type 0) (EndsSo : Streams → Result ℕ Fault → Type 0) (done : Result ℕ Fault) (status : ℕ) (output errors new : Option (List ℕ)) → IfOk done IsOwn → EndsSo (output, errors) done
    → IsTold done status errors new
    → IsSettledAs IsOwn EndsSo (output, new) status
settled_as IsOwn EndsSo (Ok s) status output errors new own ends e = inl (rw e.0 own, rw (e.0, e.1) ends)
settled_as IsOwn EndsSo (Err fault) status output errors new own ends e = inr record { fault = fault; is_status = e.0; before = errors; ends = ends; told = e.1 }

pub settled : (EndsSo : Streams → Result ℕ Fault → Type 0) (done : Result ℕ Fault) (status : ℕ) (output errors new : Option (List ℕ)) → IfOk done (λ s. s < 2) → EndsSo (output, errors) done → IsTold done status errors new → IsSettled EndsSo (output, new) status
settled EndsSo done status output errors new few ends e = settled_as (λ s. s < 2) EndsSo done status output errors new few ends e

-- ---- the status

list_status : (status : ℕ) → IsListStatus status → status ≢ 2
list_status status (inl few) two = absurd (omega (arith, few, two))
list_status status (inr three) two = absurd (omega (arith, three, two))

pub no_misuse : (done : Result ℕ Fault) (status : ℕ) (errors new : Option (List ℕ)) → IfOk done IsListStatus → IsTold done status errors new → status ≢ 2
no_misuse (Ok s) status errors new own e = rw e.0 (list_status s own)
no_misuse (Err fault) status errors new own e = λ two. absurd (omega (arith, two, e.0, fault_high fault))

-- ---- faults that are told

fault_there : (fault : Fault) (before behind : Option (List ℕ)) (a c : Option (List ℕ)) → Gains a before → AppendsFront before behind (fault_line fault) → Gains behind c → IsFaultTold a c (fault_status fault)
fault_there fault before behind a c gained told more = record { fault = fault; is_status = refl; before = before; behind = behind; gained = gained; told = told; more = more }

abbrev text_of : List ℕ → Bor (List ℕ)
text_of bytes = record { ref_ptr = (0, 0); now = bytes }

unread_told : (a b : Option (List ℕ)) → TellsOneUnread a b → IsFaultTold a b 3
unread_told a b h = record { fault = File (text_of h.name) (text_of h.told.0); is_status = refl; before = h.before; behind = h.behind; gained = h.gained; told = h.told.1; more = h.more }

list_fault : (status : ℕ) (a b : Option (List ℕ)) → IsListStatus status → (status ≡ 3 → TellsOneUnread a b) → 2 < status → IsFaultTold a b status
list_fault status a b (inl few) unread lt = absurd (omega (arith, few, lt))
list_fault status a b (inr three) unread lt = rw three (unread_told a b (unread three))

pub told_of_list : (done : Result ℕ Fault) (status : ℕ) (old errors new : Option (List ℕ)) → IfOk done IsListStatus → IfOk done (λ s. s ≡ 3 → TellsOneUnread old errors) → Gains old errors → IsTold done status errors new → 2 < status → IsFaultTold old new status
told_of_list (Ok s) status old errors new own unread gained e lt = rw (e.0, e.1) (list_fault s old errors own unread (rw (sym e.0) lt))
told_of_list (Err fault) status old errors new own unread gained e lt = rw e.0 (fault_there fault errors new old new gained e.1 (same_gains new))

-- ---- the table of lines

-- a status of 0 is no fault's
well_done : (done : Result ℕ Fault) (status : ℕ) (errors new : Option (List ℕ)) → IsTold done status errors new → status ≡ 0 → done ≡ Ok 0
well_done (Ok s) status errors new e zero = ap Ok (sym e.0 ∙ zero)
well_done (Err fault) status errors new e zero = absurd (no_fault fault (sym zero ∙ e.0))

pub well_lines : (P : Type 0) (done : Result ℕ Fault) (status : ℕ) (errors new : Option (List ℕ)) → IsTold done status errors new → (done ≡ Ok 0 → P) → status ≡ 0 → P
well_lines P done status errors new e h zero = h (well_done done status errors new e zero)

-- nor is one of 1
one_done : (done : Result ℕ Fault) (status : ℕ) (errors new : Option (List ℕ)) → IsTold done status errors new → status ≡ 1 → done ≡ Ok 1
one_done (Ok s) status errors new e one = ap Ok (sym e.0 ∙ one)
one_done (Err fault) status errors new e one = absurd (omega (arith, one, e.0, fault_high fault))

pub unmade : (P : Type 0) (done : Result ℕ Fault) (status : ℕ) (errors new : Option (List ℕ)) → IsTold done status errors new → (done ≡ Ok 1 → P) → status ≡ 1 → P
unmade P done status errors new e h one = h (one_done done status errors new e one)

pub kept_lines : (P : Type 0) (done : Result ℕ Fault) (status : ℕ) (errors new : Option (List ℕ)) → IsTold done status errors new → (done ≢ Ok 0 → P) → status ≢ 0 → P
kept_lines P (Ok s) status errors new e h other = h (λ same. other (e.0 ∙ ok_same s 0 same))
kept_lines P (Err fault) status errors new e h other = h (λ same. absurd cc)

-- ---- words that are refused

output_status : (fault : Fault) → IsOutputFault fault → 3 ≡ fault_status fault
output_status (File name why) h = absurd h
output_status Link h = absurd h
output_status Threads h = absurd h
output_status (Output name why) h = refl
output_status Memory h = absurd h

-- what was asked for is not shown, since the output failed
pub unshown : (kind : ErrorKind) (old new : Streams) (status : ℕ) (name why : List ℕ) → IsAsking kind → Gains old.0 new.0 → status ≡ 3 → AppendsFront old.1 new.1 (fault_line (Output (text_of name) (text_of why))) → IsRefusalOf kind old new status
unshown kind old new status name why asked gained is told = inr (inr (inl record {
  asked = asked;
  is_status = is;
  output = gained;
  fault = Output (text_of name) (text_of why);
  is_fault = search rules;
  errors = told;
}))

module _ (kind : ErrorKind) (old new : Streams) (status : ℕ) where
  pub refusal_gains : IsRefusalOf kind old new status → BothGain old new
  refusal_gains (inl h) = (kept_gains old.0 new.0 h.output, h.errors)
  refusal_gains (inr (inl h)) = ((h.text, h.output), kept_gains old.1 new.1 h.errors)
  refusal_gains (inr (inr (inl h))) = (h.output, front_gains old.1 new.1 _ h.errors)
  refusal_gains (inr (inr (inr h))) = (kept_gains old.0 new.0 h.output, front_gains old.1 new.1 _ h.errors)

  pub refusal_misuse : IsRefusalOf kind old new status → status ≡ 2 → Keeps old.0 new.0
  refusal_misuse (inl h) two = h.output
  refusal_misuse (inr (inl h)) two = absurd (omega (arith, h.is_status))
  refusal_misuse (inr (inr (inl h))) two = absurd (omega (arith, h.is_status))
  refusal_misuse (inr (inr (inr h))) two = h.output

  pub refusal_fault : IsRefusalOf kind old new status → 2 < status → IsFaultTold old.1 new.1 status
  refusal_fault (inl h) lt = absurd (omega (arith, h.is_status))
  refusal_fault (inr (inl h)) lt = absurd (omega (arith, h.is_status))
  refusal_fault (inr (inr (inl h))) lt = record { fault = h.fault; is_status = h.is_status ∙ output_status h.fault h.is_fault; before = old.1; behind = new.1; gained = same_gains old.1; told = h.errors; more = same_gains new.1 }
  refusal_fault (inr (inr (inr h))) lt = record { fault = Memory; is_status = h.is_status; before = old.1; behind = new.1; gained = same_gains old.1; told = h.errors; more = same_gains new.1 }

-- a fact of what is there, of this that is there
pub some_given : {X : Type 0} (found : Option X) (x : X) (P : X → Type 0) → found ≡ Some x → IfSome found P → P x
some_given found x P e h = subst (λ (o : Option _). IfSome o P) e h

-- a fact of what is there, given that it is there
pub if_some : {X : Type 0} (found : Option X) (P : X → Type 0) → ((x : X) → found ≡ Some x → P x) → IfSome found P
if_some None P h = tt
if_some (Some x) P h = h x refl

-- a fact of what is there, by another one
pub some_map : {X : Type 0} (found : Option X) (P Q : X → Type 0) → ((x : X) → P x → Q x) → IfSome found P → IfSome found Q
some_map None P Q f h = tt
some_map (Some x) P Q f h = f x h
