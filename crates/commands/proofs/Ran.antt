-- What was done for words that are granted, and for words that are refused.
use Rattle.std.proofs.Common.{◌≡◌, ◌∙◌, ◌<◌, ◌≤◌, ℕ, false, List, [], ◌∷◌, Option, None, arith, inl, inr, sym, ap, subst, length, option_and_then}
use Rattle.std.specs.Global.{Vec}
use Rattle.clap.specs.Words.{IsAmong, Text}
use Rattle.clap.specs.declared.error.kind.ErrorKind.{ErrorKind}
use Rattle.command_words.specs.declared.requests.Intent.{Intent}
use Rattle.command_words.specs.declared.requests.Lacking.{Lacking}
use Rattle.command_words.specs.declared.requests.Lists.{Lists}
use Rattle.command_words.specs.declared.requests.Request.{Request}
use Rattle.command_words.specs.Readings.{IsAsked}
use Rattle.command_words.specs.Table.{folders_of, job_of, several_of}
use Rattle.command_words.specs.Words.{AreRefused, IsKindFor, asked, clashing, error_kinds, folders_asked, several_asked}
use Rattle.command_words.proofs.Clashes.{asked_alike, folders_asked_alike, no_kind, not_refused, several_asked_alike}
use Rattle.command_words.proofs.Plain.{IsTaken, taken_plain}
use Rattle.text_access.specs.Names.{Files}
use Rattle.text_access.specs.Written.{Streams}
use Rattle.commands.specs.Refused.{IsRefusalOf}
use Rattle.commands.specs.Runs.{IsRun}
use Rattle.commands.specs.Shown.{AsksFor}
use Rattle.commands.specs.Told.{EndsAsked, HasLines, IsSettled, bare_job}
use Rattle.commands.specs.inner.Done.{IsDone}
use Rattle.commands.proofs.Settled.{if_some, refusal_fault, refusal_gains, refusal_misuse, some_given}

-- what is so of what accepted words ask for, and of what is asked for without words, is so of what is asked for
by_asking : (words : List Text) (P : Request Text → Type 0) → ((job : Request Text) → IsTaken words job → P job) → (length words ≤ 1 → P bare_job) → (job : Request Text) → AsksFor words job → P job
by_asking words P taken bare job (inl (name, names, plain, is)) = taken job (taken_plain words name names job plain is)
by_asking words P taken bare job (inr (inl (accepted, is))) = taken job (record { accepted = accepted; given = is })
by_asking words P taken bare job (inr (inr (few, is))) = subst P (sym is) (bare few)

refused_for : (words : List Text) (kind : ErrorKind) → 1 < length words → IsKindFor words kind → AreRefused words
refused_for words kind more (inl among) = (more, inl (λ none. subst (IsAmong kind) none among))
refused_for words kind more (inr (none, clashes, why)) = (more, inr clashes)

more_words : (words : List Text) → (length words ≤ 1 → ⊥) → 1 < length words
more_words [] few = absurd (few (omega arith))
more_words (word ∷ []) few = absurd (few (omega arith))
more_words (word ∷ other ∷ rest) few = omega arith

module _ (words : List Text) (files : Files) (HasSession : List ℕ → List ℕ → Type 0) (input : Option (List ℕ)) (before : Option (Vec ℕ)) (old new : Streams) (table : Option (Vec ℕ)) (status : ℕ) where
  as_asked : (intent : Option Intent) → IsAsked words intent → IsDone (option_and_then job_of intent) (option_and_then several_of intent) (option_and_then folders_of intent) files HasSession input before old new table status → IsDone (asked words) (several_asked words) (folders_asked words) files HasSession input before old new table status
  as_asked intent is done =
      subst (λ (job : Option (Request Text)). IsDone job (several_asked words) (folders_asked words) files HasSession input before old new table status) is.job
      (subst (λ (several : Option (Lists × List Text)). IsDone (option_and_then job_of intent) several (folders_asked words) files HasSession input before old new table status) is.several
      (subst (λ (folders : Option (Lacking × List Text)). IsDone (option_and_then job_of intent) (option_and_then several_of intent) folders files HasSession input before old new table status) is.folders done))

  pub granted : (intent : Option Intent) → IsAsked words intent → (length words ≤ 1 → intent ≡ None) → (1 < length words → error_kinds words ≡ []) → clashing words ≡ false → IsDone (option_and_then job_of intent) (option_and_then several_of intent) (option_and_then folders_of intent) files HasSession input before old new table status → IsRun words files HasSession input before old new table status
  granted intent is bare accepted alike done =
      let all = as_asked intent is done in
      let none = λ (few : length words ≤ 1). sym is.job ∙ ap (option_and_then job_of) (bare few) in
      record {
        told = by_asking words (λ (job : Request Text). IsSettled (EndsAsked job files HasSession input old) new status)
            (λ job taken. some_given (asked words) job (λ (job : Request Text). IsSettled (EndsAsked job files HasSession input old) new status) taken.given all.told)
            (λ few. all.unasked (none few) (sym is.several ∙ ap (option_and_then several_of) (bare few)) (sym is.folders ∙ ap (option_and_then folders_of) (bare few)));
        several = λ accepted. all.listed;
        folders = λ accepted. all.made;
        unasked = λ accepted. all.unasked;
        refused = not_refused words _ accepted alike;
        misuse = λ two. absurd (all.ended.0 two);
        fault = all.ended.1;
        gains = all.ended.2;
        lines = λ job asks zero. by_asking words (λ (job : Request Text). HasLines job files HasSession input old.0 new.0 before table)
            (λ job taken. some_given (asked words) job (λ (job : Request Text). HasLines job files HasSession input old.0 new.0 before table) taken.given (all.lines zero))
            (λ few. all.unlined (none few)) job asks;
        unlined = all.unlined;
        kept = all.kept;
      }

  pub turned_away : (kind : ErrorKind) → (length words ≤ 1 → ⊥) → IsKindFor words kind → IsRefusalOf kind old new status → table ≡ before → IsRun words files HasSession input before old new table status
  turned_away kind more is refusal same =
      let no_job = by_asking words (λ (job : Request Text). ⊥) (λ job taken. no_kind words kind (taken.accepted, asked_alike words job taken.given) is) more in
      record {
        told = λ job asks. absurd (no_job job asks);
        several = λ accepted. if_some (several_asked words) _ (λ several e. absurd (no_kind words kind (accepted, several_asked_alike words several e) is));
        folders = λ accepted. if_some (folders_asked words) _ (λ folders e. absurd (no_kind words kind (accepted, folders_asked_alike words folders e) is));
        unasked = λ accepted. absurd (no_kind words kind accepted is);
        refused = λ refused. record { kind = kind; is_kind = is; outcome = refusal };
        misuse = λ two. (refused_for words kind (more_words words more) is, refusal_misuse kind old new status refusal two);
        fault = refusal_fault kind old new status refusal;
        gains = refusal_gains kind old new status refusal;
        lines = λ job asks. absurd (no_job job asks);
        unlined = λ none. same;
        kept = λ other. same;
      }
