-- A run that ends with status 0 shows the headline, or a migrated session.
use Rattle.std.proofs.Common.{◌≡◌, ◌∙◌, ℕ, List, [], ◌∷◌, Option, Some, None, Ok, inl, inr, refl, subst, sym, arith, cond}
use Rattle.std.specs.Prelude.{map, Bool, true, false, nat_lt}
use Rattle.std.specs.Global.{Vec}
use Rattle.std.specs.List.{AllByRecursion}
use Rattle.std.proofs.lemmas.Bool.Decides.{nat_tests}
use Rattle.clap.specs.Words.{Text}
use Rattle.text_lines.specs.Text.{IsSpelling, IsUnambiguous}
use Rattle.migration_types.specs.Certs.{Certified}
use Rattle.migration_types.specs.Sessions.{Recorded}
use Rattle.session_log.specs.Grammar.{SpellsSession}
use Rattle.audit_model.specs.Laws.{IsCertified, IsMigrated}
use Rattle.audit_report.specs.declared.report.Report.{Report}
use Rattle.audit_report.specs.declared.report.Report.TheVariants.{Clean, Shape, Knot, Faulty}
use Rattle.audit_report.specs.Reports.{IsReport}
use Rattle.audit_report.specs.ToldLines.{line_by, own}
use Rattle.cert_check.specs.declared.verdict.Verdict.TheVariants.{Yes}
use Rattle.completeness.specs.declared.lack.Extent.{Extent}
use Rattle.judged_texts.specs.Checked.{HeadlineHolds, IsTextVerdict}
use Rattle.session_answers.specs.declared.forms.Ask.{Ask}
use Rattle.session_answers.specs.declared.forms.Story.{Story}
use Rattle.session_answers.specs.Forms.{Tells, TellsStory}
use Rattle.session_answers.specs.Judged.{IsJudged, IsJudgedTold, Judged, Refused, Reported, judged_status, report_status}
use Rattle.session_answers.specs.Lacks.{TellsLack, lack_form, story_lack}
use Rattle.judge_commands.specs.Answers.{how_much, story_telling}
use Rattle.judge_commands.specs.ByTables.{IsExplainedByTable}
use Rattle.judge_commands.specs.Completed.{IsAnswered}
use Rattle.command_words.specs.declared.requests.Checks.{Checks}
use Rattle.command_words.specs.declared.requests.Lists.{Lists}
use Rattle.command_words.specs.declared.requests.Request.TheVariants.{One, Two}
use Rattle.command_words.specs.declared.requests.TwoTexts.TheVariants.{Check, Explain}
use Rattle.command_words.specs.Words.{several_asked}
use Rattle.command_texts.specs.declared.why.Telling.{Telling}
use Rattle.command_texts.specs.declared.why.Telling.TheVariants.{Short, Full, Fields}
use Rattle.command_texts.specs.Fields.{IsAnswerTold}
use Rattle.command_texts.specs.Several.{Entry, IsRight, IsSaid, Said, entry_status, greater, said_status, worst}
use Rattle.command_texts.specs.Told.{IsNamed}
use Rattle.text_access.specs.Names.{Files}
use Rattle.text_access.specs.Written.{Streams}
use Rattle.commands.specs.Runs.{IsRun}
use Rattle.commands.specs.Shown.{CarriesHeadlines, HoldsOfBoth, Shows, SpellsMigrated}
use Rattle.commands.specs.Told.{EndsSeveral, IsListAnswer, IsOneAnswer, IsSettledList, IsTwoAnswer, ask_of, extent_of, list_ask, story_form}
use Rattle.commands.proofs.Settled.{no_fault, some_map}
use Rattle.commands.proofs.Shown.{shows, without_asking, yes_as_told}

-- ---- the law

module _ (sessions : IsUnambiguous SpellsSession) (laws : (s : Recorded) (c : Certified) → IsCertified s c → IsMigrated s) where
  migrated_by : (s : Recorded) (text : List ℕ) (r : Report) → IsSpelling SpellsSession s text → IsReport s r → report_status r ≡ 0 → IsMigrated s
  migrated_by s text (Clean cert) spelled is zero = laws s cert (record { is_session = spelled.1.0; shape = is.0; certificate = is.1.is_made.is_right })
  migrated_by s text (Shape fault) spelled is zero = absurd cc
  migrated_by s text (Knot left found) spelled is zero = absurd cc
  migrated_by s text (Faulty line fault order many) spelled is zero = absurd cc

  pub clean_migrated : (text : List ℕ) (judged : Judged) → IsJudged text judged → judged_status judged ≡ 0 → SpellsMigrated text
  clean_migrated text (Refused line) is zero = absurd cc
  clean_migrated text (Reported s r) is zero = record {
    one_session = record { recorded = s; session_is = is.0; only_one = λ other also. sessions.one_value other s text also is.0 };
    migrated = λ other also. subst IsMigrated (sym (sessions.one_value other s text also is.0)) (migrated_by s text r is.0 is.1 zero);
  }

-- ---- answers with status 0

-- the law, as it is used
abbrev pub CleanLaw : Type 0
CleanLaw = (text : List ℕ) (judged : Judged) → IsJudged text judged → judged_status judged ≡ 0 → SpellsMigrated text

module _ (law : CleanLaw) where
  told_migrated : (AreTold : Judged → List ℕ → Type 0) (session text : List ℕ) → IsJudgedTold AreTold session text 0 → SpellsMigrated session
  told_migrated AreTold session text h = law session h.value h.is_right (sym h.is_status)

  answered_migrated : (ask : Ask) (session text : List ℕ) → IsAnswered ask session text 0 → SpellsMigrated session
  answered_migrated ask session text h =
      told_migrated (Tells ask.form) session text (without_asking ask.complete (TellsLack own (lack_form ask.form)) (IsJudgedTold (Tells ask.form) session) session text h)

  -- the answer may be written with more fields
  one_migrated : (telling : Telling) (IsRefused : List ℕ → Option ℕ → Type 0) (ask : Ask) (session text : List ℕ) → IsAnswerTold telling IsRefused (IsAnswered ask) session text 0 → SpellsMigrated session
  one_migrated Short IsRefused ask session text h = answered_migrated ask session text h
  one_migrated Full IsRefused ask session text h = answered_migrated ask session text h
  one_migrated Fields IsRefused ask session text h = answered_migrated ask session h.answer h.is_answer

  lined_migrated : (story : Story) (complete : Option Extent) (texts : List ℕ × List ℕ) (text : List ℕ) → IsExplainedByTable story complete texts text 0 → SpellsMigrated texts.0
  lined_migrated story complete texts text (inl h) =
      let tell = line_by h.0 in
      told_migrated (TellsStory tell story) texts.0 text (without_asking complete (TellsLack tell (story_lack story)) (IsJudgedTold (TellsStory tell story) texts.0) texts.0 text h.2)
  lined_migrated story complete texts text (inr h) = let refused : 0 ≡ 1 = h.is_status in absurd cc

  first_migrated : (telling : Telling) (IsRefused : List ℕ × List ℕ → Option ℕ → Type 0) (story : Story) (complete : Option Extent) (texts : List ℕ × List ℕ) (text : List ℕ) → IsAnswerTold telling IsRefused (IsExplainedByTable story complete) texts text 0 → SpellsMigrated texts.0
  first_migrated Short IsRefused story complete texts text h = lined_migrated story complete texts text h
  first_migrated Full IsRefused story complete texts text h = lined_migrated story complete texts text h
  first_migrated Fields IsRefused story complete texts text h = lined_migrated story complete texts h.answer h.is_answer

  -- ---- each of several

  -- the greatest of two is 0 only if both are
  none_greater : (first : Bool) (a b : ℕ) → nat_lt a b ≡ first → 0 ≡ cond first b a → (a ≡ 0) × (b ≡ 0)
  none_greater true a b less zero = absurd (grind (arith, nat_tests, less, zero))
  none_greater false a b less zero = (sym zero, grind (arith, nat_tests, less, zero))

  said_migrated : (lists : Lists) (files : Files) (HasSession : List ℕ → List ℕ → Type 0) (IsRefused : List ℕ → Option ℕ → Type 0) (name : List ℕ) (s : Said) → IsSaid files HasSession (IsListAnswer lists) IsRefused name s → s.status ≡ 0 → SpellsMigrated s.text
  said_migrated lists files HasSession IsRefused name s h zero =
      one_migrated (how_much (list_ask lists).form) _ (list_ask lists) s.text s.answer (subst (λ (status : ℕ). IsListAnswer lists s.text s.answer status) zero h.is_answer)

  entry_migrated : (lists : Lists) (files : Files) (HasSession : List ℕ → List ℕ → Type 0) (IsRefused : List ℕ → Option ℕ → Type 0) (name : List ℕ) (said : Option Said) → IsRight files HasSession (IsListAnswer lists) IsRefused (record { name = name; said = said }) → said_status said ≡ 0 → Shows (IsNamed name files HasSession None) SpellsMigrated
  entry_migrated lists files HasSession IsRefused name None h zero = absurd cc
  entry_migrated lists files HasSession IsRefused name (Some s) h zero = record { texts = s.text; are_texts = h.is_named; holds = said_migrated lists files HasSession IsRefused name s h zero }

  each_migrated : (lists : Lists) (files : Files) (HasSession : List ℕ → List ℕ → Type 0) (IsRefused : List ℕ → Option ℕ → Type 0) (es : List Entry) → AllByRecursion (IsRight files HasSession (IsListAnswer lists) IsRefused) es → 0 ≡ worst es → AllByRecursion (λ name. Shows (IsNamed name files HasSession None) SpellsMigrated) (map (λ e. e.name) es)
  each_migrated lists files HasSession IsRefused [] h zero = tt
  each_migrated lists files HasSession IsRefused (e ∷ es) h zero =
      let both = none_greater (nat_lt (entry_status e) (worst es)) (entry_status e) (worst es) refl zero in
      (entry_migrated lists files HasSession IsRefused e.name e.said h.0 both.0, each_migrated lists files HasSession IsRefused es h.1 (sym both.1))

  pub shows_each : (several : Lists × List Text) (files : Files) (HasSession : List ℕ → List ℕ → Type 0) (old new : Streams) (status : ℕ)
      → IsSettledList (EndsSeveral several files HasSession old) new status → status ≡ 0 → AllByRecursion (λ name. Shows (IsNamed name files HasSession None) SpellsMigrated) several.1
  shows_each several files HasSession old new status (inl h) zero =
      let at = subst (λ (s : ℕ). EndsSeveral several files HasSession old new (Ok s)) zero h.1 in
      subst (AllByRecursion (λ name. Shows (IsNamed name files HasSession None) SpellsMigrated)) at.are_names (each_migrated several.0 files HasSession _ at.entries at.are_right at.is_status)
  shows_each several files HasSession old new status (inr h) zero = absurd (no_fault h.fault (sym zero ∙ h.is_status))

-- ---- what a run with status 0 shows

module _ (verdicts : (session cert : List ℕ) → IsTextVerdict session cert Yes → HeadlineHolds session cert) (law : CleanLaw) (words : List Text) (files : Files) (HasSession : List ℕ → List ℕ → Type 0) (input : Option (List ℕ)) (before : Option (Vec ℕ)) (old new : Streams) (table : Option (Vec ℕ)) (status : ℕ) where
  checked_holds : (checks : Checks) (texts : List ℕ × List ℕ) (text : List ℕ) → IsTwoAnswer (Check checks) texts text 0 → HoldsOfBoth texts
  checked_holds checks texts text h = verdicts texts.0 texts.1 (yes_as_told checks.form (extent_of checks.demand) texts text h)

  pub carried : IsRun words files HasSession input before old new table status → status ≡ 0 → CarriesHeadlines words files HasSession input
  carried is zero = record {
    checked = λ first second checks asks. shows _ _ (IsTwoAnswer (Check checks)) _ _ old new status (checked_holds checks) (is.told (Two (Check checks) first second) asks) zero;
    clean = λ name task asks. shows _ _ (IsOneAnswer task) _ _ old new status (one_migrated law (how_much (ask_of task).form) _ (ask_of task)) (is.told (One task name) asks) zero;
    lined = λ first second explains asks. shows _ _ (IsTwoAnswer (Explain explains)) _ _ old new status (first_migrated law (story_telling (story_form explains.form)) _ (story_form explains.form) (extent_of explains.demand)) (is.told (Two (Explain explains) first second) asks) zero;
    each = λ accepted. some_map (several_asked words) _ _ (λ several h. shows_each law several files HasSession old new status h zero) (is.several accepted);
  }
