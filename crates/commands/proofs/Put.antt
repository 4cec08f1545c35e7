-- An answer that was made and put.
use Rattle.std.proofs.Common.{◌≡◌, ◌∙◌, ◌⊎◌, ℕ, ◌<◌, List, [], Option, Some, None, IfSome, arith, inl, inr, option_map, sym, subst}
use Rattle.std.specs.Global.{Vec}
use Rattle.command_words.specs.declared.requests.Targets.{Targets}
use Rattle.command_words.specs.Words.{target_names}
use Rattle.command_texts.specs.declared.answer.Fault.{Fault}
use Rattle.command_texts.specs.Answers.{IsListStop, fault_line, fault_status}
use Rattle.text_access.specs.Written.{AppendsFront, Gains, Streams}
use Rattle.text_access.proofs.Fronts.{same_gains}
use Rattle.commands.specs.Puts.{IsOneNamed, IsPut, Places, name_at, under_if}
use Rattle.commands.specs.Saving.{under}
use Rattle.commands.specs.Runs.{IsMadeAndPut}
use Rattle.commands.specs.Told.{IsFaultTold}
use Rattle.commands.proofs.Settled.{fault_high}

-- the status of what was put: its own, with nothing told, or that of a fault, which is told
abbrev pub IsPutTold : ℕ → Option (List ℕ) → Option (List ℕ) → ℕ → Type 0
IsPutTold status old new result = ((result ≡ status) × (new ≡ old)) ⊎ ((fault : Fault) × IsListStop fault × (result ≡ fault_status fault) × AppendsFront old new (fault_line fault))

-- a status below 3 is its own
own_status : (status result : ℕ) (old new : Option (List ℕ)) → IsPutTold status old new result → result < 3 → (result ≡ status) × (new ≡ old)
own_status status result old new (inl own) low = own
own_status status result old new (inr (fault, stop, is, told)) low = absurd (omega (arith, low, is, fault_high fault))

-- and so is 0
pub own_zero : (status result : ℕ) (old new : Option (List ℕ)) → IsPutTold status old new result → result ≡ 0 → status ≡ 0
own_zero status result old new told zero = sym (own_status status result old new told (omega (arith, zero))).0 ∙ zero

-- a status above 2 is told, as that of a fault of what was made or of the putting
pub put_fault : (status result : ℕ) (old behind new : Option (List ℕ)) → Gains old behind → (2 < status → IsFaultTold old behind status) → IsPutTold status behind new result → 2 < result → IsFaultTold old new result
put_fault status result old behind new gained told (inl own) high = rw (own.0, own.1) (told (rw (sym own.0) high))
put_fault status result old behind new gained told (inr (fault, stop, is, front)) high = record { fault = fault; is_status = is; before = behind; behind = new; gained = gained; told = front; more = same_gains new }

-- what was made on an output that began empty, and was put
module _ (IsMade : Option (List ℕ) → Streams → Option (Vec ℕ) → ℕ → Type 0) (AreTheirs : Targets → Type 0) (targets : Targets) (old new : Places) (behind errors : Option (List ℕ)) (table : Option (Vec ℕ)) (status result : ℕ) where
  -- the answer with this name was put, or one of the two at most
  abbrev WasPut : Option (List ℕ) → List ℕ → Type 0
  WasPut name answer =
      (result < 3 → IsPut targets.answer status ((target_names targets).0, name) answer (option_map (λ table. table.items) table) old new)
      × (2 < result → IsOneNamed (under (name_at targets.answer status name) answer) (under_if (name_at targets.answer status (target_names targets).0) (option_map (λ table. table.items) table)) old.0 new.0)

  pub made_and_put : (IsWhole : List ℕ → Type 0) (named wanted : Option (List ℕ)) (before after : Option (List ℕ)) → AreTheirs targets → IfSome before (λ text. (text ≡ []) × ((targets : Targets) → AreTheirs targets → (target_names targets).1 ≡ wanted)) → Gains before after → IsMade before (after, behind) table status → IfSome after (λ answer. named ≡ wanted) → IfSome after IsWhole → ((answer : List ℕ) → IsWhole answer → WasPut named answer) → IsPutTold status behind errors result → IfSome before (λ text. IsMadeAndPut (IsMade (Some [])) AreTheirs old new errors result)
  made_and_put IsWhole named wanted None after theirs is gains made name whole put told = tt
  made_and_put IsWhole named wanted (Some text) None theirs is gains made name whole put told = absurd gains.1
  made_and_put IsWhole named wanted (Some text) (Some answer) theirs is gains made name whole put told =
      let done = subst (λ (n : Option (List ℕ)). WasPut n answer) (name ∙ sym (is.1 targets theirs)) (put answer whole) in
      record {
        targets = targets;
        are_theirs = theirs;
        answer = answer;
        table = table;
        status = status;
        behind = behind;
        made = subst (λ (t : List ℕ). IsMade (Some t) (Some answer, behind) table status) is.0 made;
        put = λ low. let own = own_status status result behind errors told low in (own.0, own.1, done.0 low);
        left = done.1;
      }
