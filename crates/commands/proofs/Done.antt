-- What was asked for was done and settled.
use Rattle.std.proofs.Common.{◌≡◌, ◌≢◌, ◌<◌, ℕ, zero, suc, List, Option, Some, None, Result, Ok, Err, IfOk, arith, inl, refl}
use Rattle.std.specs.Global.{Vec}
use Rattle.std.specs.Io.KnownBytes.{Keeps}
use Rattle.clap.specs.Words.{Text}
use Rattle.command_words.specs.declared.requests.Lacking.{Lacking}
use Rattle.command_words.specs.declared.requests.Lists.{Lists}
use Rattle.command_words.specs.declared.requests.Request.{Request}
use Rattle.command_texts.specs.declared.answer.Fault.{Fault}
use Rattle.command_texts.specs.Several.{IsListStatus, TellsOneUnread}
use Rattle.text_access.specs.Names.{Files}
use Rattle.text_access.specs.Written.{BothGain, Gains, Streams}
use Rattle.text_access.proofs.Fronts.{both_gain}
use Rattle.session_commands.specs.Texts.{WritesSession}
use Rattle.commands.specs.Told.{EndsAsked, EndsSeveral, HasLines, bare_job}
use Rattle.commands.specs.inner.Done.{IsDone, IsEnded}
use Rattle.commands.proofs.Settled.{IsTold, kept_lines, no_misuse, settled, settled_as, told_of_list, unmade, well_lines}

-- a status below 2 is one that a list may have, and tells of no text that was not read
few_list : (done : Result ℕ Fault) → IfOk done (λ s. s < 2) → IfOk done IsListStatus
few_list (Ok s) few = inl few
few_list (Err fault) few = tt

few_read : (done : Result ℕ Fault) (P : Type 0) → IfOk done (λ s. s < 2) → IfOk done (λ s. s ≡ 3 → P)
few_read (Ok s) P few = λ three. absurd (omega (arith, few, three))
few_read (Err fault) P few = tt

either_way : (P : Type 0) (done : Result ℕ Fault) → (done ≡ Ok 0 → P) → (done ≢ Ok 0 → P) → P
either_way P (Ok zero) well other = well refl
either_way P (Ok (suc n)) well other = other (λ e. absurd cc)
either_way P (Err fault) well other = other (λ e. absurd cc)

module _ (files : Files) (HasSession : List ℕ → List ℕ → Type 0) (input : Option (List ℕ)) (before : Option (Vec ℕ)) (old : Streams) (output errors new : Option (List ℕ)) (table : Option (Vec ℕ)) (done : Result ℕ Fault) (status : ℕ) where
  ended : IfOk done IsListStatus → IfOk done (λ s. s ≡ 3 → TellsOneUnread old.1 errors) → BothGain old (output, errors) → IsTold done status errors new → Gains errors new → IsEnded old (output, new) status
  ended own unread gained told more = (no_misuse done status errors new own told, told_of_list done status old.1 errors new own unread gained.1 told, (gained.0, both_gain _ _ _ gained.1 more))

  pub job_done : (job : Request Text) → IfOk done (λ s. s < 2) → EndsAsked job files HasSession input old (output, errors) done → (done ≡ Ok 0 → HasLines job files HasSession input old.0 output before table) → (done ≢ Ok 0 → table ≡ before) → BothGain old (output, errors) → IsTold done status errors new → Gains errors new → IsDone (Some job) None None files HasSession input before old (output, new) table status
  job_done job few ends lines kept gained told more = record {
    told = settled (EndsAsked job files HasSession input old) done status output errors new few ends told;
    listed = tt;
    made = tt;
    unasked = λ none. absurd cc;
    lines = well_lines (HasLines job files HasSession input old.0 output before table) done status errors new told lines;
    unlined = λ none. absurd cc;
    kept = kept_lines (table ≡ before) done status errors new told kept;
    ended = ended (few_list done few) (few_read done (TellsOneUnread old.1 errors) few) gained told more;
  }

  pub several_done : (several : Lists × List Text) → IfOk done IsListStatus → IfOk done (λ s. s ≡ 3 → TellsOneUnread old.1 errors) → EndsSeveral several files HasSession old (output, errors) done → table ≡ before → BothGain old (output, errors) → IsTold done status errors new → Gains errors new → IsDone None (Some several) None files HasSession input before old (output, new) table status
  several_done several own unread ends same gained told more = record {
    told = tt;
    listed = settled_as IsListStatus (EndsSeveral several files HasSession old) done status output errors new own ends told;
    made = tt;
    unasked = λ job none. absurd cc;
    lines = λ zero. tt;
    unlined = λ none. same;
    kept = λ other. same;
    ended = ended own unread gained told more;
  }

  pub folders_done : (folders : Lacking × List Text) → IfOk done IsListStatus → IfOk done (λ s. s ≡ 3 → TellsOneUnread old.1 errors) → (done ≡ Ok 0 → WritesSession files.names_in files.bytes_of folders.1 folders.0 old.0 output) → (done ≡ Ok 1 → Keeps old.0 output) → table ≡ before → BothGain old (output, errors) → IsTold done status errors new → Gains errors new → IsDone None None (Some folders) files HasSession input before old (output, new) table status
  folders_done folders own unread written refused same gained told more = record {
    told = tt;
    listed = tt;
    made = (well_lines (WritesSession files.names_in files.bytes_of folders.1 folders.0 old.0 output) done status errors new told written, unmade (Keeps old.0 output) done status errors new told refused);
    unasked = λ job several none. absurd cc;
    lines = λ zero. tt;
    unlined = λ none. same;
    kept = λ other. same;
    ended = ended own unread gained told more;
  }

  pub bare_done : IfOk done (λ s. s < 2) → EndsAsked bare_job files HasSession input old (output, errors) done → (done ≡ Ok 0 → table ≡ before) → (done ≢ Ok 0 → table ≡ before) → BothGain old (output, errors) → IsTold done status errors new → Gains errors new → IsDone None None None files HasSession input before old (output, new) table status
  bare_done few ends same kept gained told more = record {
    told = tt;
    listed = tt;
    made = tt;
    unasked = λ job several folders. settled (EndsAsked bare_job files HasSession input old) done status output errors new few ends told;
    lines = λ zero. tt;
    unlined = λ none. either_way (table ≡ before) done same kept;
    kept = λ other. either_way (table ≡ before) done same kept;
    ended = ended (few_list done few) (few_read done (TellsOneUnread old.1 errors) few) gained told more;
  }
