-- A record that is told where the session has it.
use Rattle.std.proofs.Common.{◌≡◌, ◌∙◌, ℕ, ◌≤◌, Bool, cond, List, [], ◌∷◌, ◌++◌, Some, sym, ap}
use Rattle.std.proofs.lemmas.Bool.{lt-ltb, le-ltb}
use Rattle.std.proofs.lemmas.List.{append-nil}
use Rattle.migration_types.specs.declared.records.LogName.{LogName}
use Rattle.migration_types.specs.Sessions.{Recorded, line_of, log_length}
use Rattle.session_story.specs.Places.{IsAtLineOf}
use Rattle.session_answers.specs.declared.records.Role.{Role}
use Rattle.session_answers.specs.declared.records.ToldRecord.{ToldRecord}
use Rattle.session_answers.specs.RecordsText.{told_at}

module _ (tell : ℕ → ℕ) (s : Recorded) (role : Role) (log : LogName) (n : ℕ) where
  abbrev at_line : ℕ → ToldRecord
  at_line line = record { role = role; log = log; place = n; line = line }

  abbrev if_there : Bool → List ToldRecord
  if_there b = cond b (record { role = role; log = log; place = n; line = tell (line_of s (log, n)) } ∷ []) []

  pub told_there : (line shown : ℕ) → IsAtLineOf s log line n → shown ≡ tell line → told_at tell s role log (Some n) ≡ record { role = role; log = log; place = n; line = shown } ∷ []
  told_there line shown at same = ap if_there (lt-ltb n (log_length s log) at.is_there) ∙ (ap (λ (l : ℕ). at_line (tell l) ∷ []) (sym at.is_line) ∙ ap (λ (l : ℕ). at_line l ∷ []) (sym same))

  pub told_past : log_length s log ≤ n → (old : List ToldRecord) → old ≡ old ++ told_at tell s role log (Some n)
  told_past past old = sym (ap (λ (t : List ToldRecord). old ++ t) (ap if_there (le-ltb n (log_length s log) past)) ∙ append-nil old)
