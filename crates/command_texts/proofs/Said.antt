-- An answer that says what is right.
use Rattle.std.proofs.Common.{◌≡◌, ℕ, ◌<◌, List, IfOk, Result, Ok, Err, subst}
use Rattle.std.specs.declared.alloc.AllocError.{AllocError}
use Rattle.command_texts.specs.declared.answer.Answer.{Answer}
use Rattle.command_texts.specs.declared.answer.Fault.{Fault}
use Rattle.command_texts.specs.Answers.{IsAnswer, Says}

pub says_right : {V : Type 0} (IsRight : V → Type 0) (text_of : V → List ℕ) (status_of : V → ℕ) (value : V) (found : Result Answer AllocError) → IsRight value
    → IfOk found (λ a. Says a (text_of value) (status_of value))
    → IfOk found (λ a. IsAnswer IsRight text_of status_of a.text.items a.status)
says_right IsRight text_of status_of value (Ok a) is h = record { value = value; is_right = is; is_text = h.0; is_status = h.1 }
says_right IsRight text_of status_of value (Err e) is h = tt

-- what holds of what was made holds of it as it is given
pub given_holds : {V : Type 0} (P : V → Type 0) (made : Result V AllocError) (given : Result V Fault) → IfOk made P → IfOk given (λ g. made ≡ Ok g) → IfOk given P
given_holds {V} P made (Ok g) is same = subst (λ (r : Result V AllocError). IfOk r P) same is
given_holds P made (Err fault) is same = tt

-- and so does what follows from it of the status of an answer
pub given_few : (P : Answer → Type 0) (made : Result Answer AllocError) (given : Result Answer Fault) → ((a : Answer) → P a → a.status < 2) → IfOk made P → IfOk given (λ g. made ≡ Ok g) → IfOk given (λ a. a.status < 2)
given_few P made (Ok g) few is same = few g (subst (λ (r : Result Answer AllocError). IfOk r P) same is)
given_few P made (Err fault) few is same = tt

-- the same of an answer that is given beside something else
pub beside_holds : {U : Type 0} (P : Answer → Type 0) (made : Result Answer AllocError) (given : Result (Answer × U) Fault) → IfOk made P → IfOk given (λ g. made ≡ Ok g.0) → IfOk given (λ g. P g.0)
beside_holds P made (Ok g) is same = subst (λ (r : Result Answer AllocError). IfOk r P) same is
beside_holds P made (Err fault) is same = tt

pub beside_few : {U : Type 0} (P : Answer → Type 0) (made : Result Answer AllocError) (given : Result (Answer × U) Fault) → ((a : Answer) → P a → a.status < 2) → IfOk made P → IfOk given (λ g. made ≡ Ok g.0) → IfOk given (λ g. g.0.status < 2)
beside_few P made (Ok g) few is same = few g.0 (subst (λ (r : Result Answer AllocError). IfOk r P) same is)
beside_few P made (Err fault) few is same = tt
