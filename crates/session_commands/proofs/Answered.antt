-- What is told of a window.
use Rattle.std.proofs.Common.{◌≡◌, ◌≢◌, ◌∙◌, ℕ, ◌<◌, Bool, true, false, List, [], ◌∷◌, Option, Some, None, Result, Ok, Err, IfOk, MatchOption, subst, sym, ap, inl, inr, arith, refl}
use Rattle.std.specs.Prelude.{◌⊎◌, option_map}
use Rattle.std.specs.Global.{Vec}
use Rattle.std.specs.Io.KnownBytes.{Appends}
use Rattle.migration_types.specs.Sessions.{Recorded}
use Rattle.text_lines.specs.Text.{IsSpelling, ended}
use Rattle.session_grammar.specs.Grammar.{SpellsSession, session_lines}
use Rattle.command_texts.specs.declared.answer.Answer.{Answer}
use Rattle.command_texts.specs.declared.answer.Fault.{Fault}
use Rattle.command_texts.specs.declared.why.Telling.TheVariants.{Short}
use Rattle.command_texts.specs.declared.why.Why.{Why}
use Rattle.command_texts.specs.Answers.{IsOutputFault, IsReadFault, IsTextFault, Says}
use Rattle.command_texts.specs.Reasons.{IsNote, IsRefusedAt, IsWhy, Place, TellsWhy, place_of, told_place}
use Rattle.command_texts.specs.Told.{IsNamed, is_dash}
use Rattle.command_texts.proofs.Endings.{not_read, not_written, output_fault, text_fault, written_whole}
use Rattle.text_access.specs.Names.{Files}
use Rattle.text_access.specs.Written.{AppendsFront, Gains, MayTell}
use Rattle.walked_sessions.specs.Walks.{IsRecordingOf}
use Rattle.windows.specs.Cuts.{IsCutOf, IsOnly, IsOutside}
use Rattle.windows.specs.declared.pages.Window.{Window}
use Rattle.windows.specs.declared.session.WindowText.{WindowText}
use Rattle.session_commands.specs.Files.{bytes_in}
use Rattle.session_commands.specs.Found.{AreCompressed, IsFoundIn}
use Rattle.session_commands.specs.Windows.{EndsWindow, HasWindowLines, IsInput, IsMadeIn, IsMadeOf, IsRefusedUnder, IsUnder, IsWindowAnswer, IsWindowed, TellsOutside, TellsRefused, outside_words, windowed_status, windowed_text}
use Rattle.session_commands.specs.declared.found.FoundLogs.{FoundLogs}
use Rattle.session_commands.specs.declared.making.Known.{Known}
use Rattle.session_commands.specs.declared.windowing.Windowed.{Windowed}
use Rattle.session_commands.specs.declared.windowing.Windowed.TheVariants.{NoSuchPages, Seen, SessionText}
use Rattle.session_commands.specs.inner.Answered.{HasTable, HasTableOf, IsCutFrom, IsCutFromText, IsCutUnder, IsTold}
use Rattle.session_commands.specs.inner.Seen.{IsKnown}

-- ---- what was cut out

pub seen_from : (Is : Recorded → Type 0) (w : Window) (out : WindowText) → IsCutOf Is w out → IsCutFrom Is w (Seen out)
seen_from Is w out h = record { s = h.s; is = h.is; from = h.cut }

pub outside_from : (Is : Recorded → Type 0) (w : Window) → IsOutside Is w → IsCutFrom Is w NoSuchPages
outside_from Is w h = record { s = h.s; is = h.is; from = h.outside }

-- a session is the one recording that it is
pub never_changed : (session : Recorded) → ((s : Recorded) → IsOnly (λ s. s ≡ session) s → ⊥) → ⊥
never_changed session changed = changed session record { is = refl; only = λ t same. same }

cut_as : (P Q : Recorded → Type 0) → ((s : Recorded) → P s → Q s) → (w : Window) (found : Windowed) → IsCutFrom P w found → IsCutFrom Q w found
cut_as P Q same w found h = record { s = h.s; is = same h.s h.is; from = h.from }

-- out of a recording that is known, and of which nothing is lacking
made_of : (files : List ℕ → Option (List ℕ)) (logs : FoundLogs) (known : Known) → IsKnown files logs known → known.said.items ≡ [] → (s : Recorded) → IsRecordingOf known.machine known.init.items (bytes_in files logs) s → IsMadeOf files logs s
made_of files logs known is none s made = record {
  machine = known.machine;
  init = known.init.items;
  front = known.front;
  chosen = is.chosen;
  whole = is.whole none;
  made = made;
}

pub made_from : (files : List ℕ → Option (List ℕ)) (logs : FoundLogs) (known : Known) (w : Window) (found : Windowed) → IsKnown files logs known → known.said.items ≡ [] → IsCutFrom (IsRecordingOf known.machine known.init.items (bytes_in files logs)) w found → IsCutFrom (IsMadeOf files logs) w found
made_from files logs known w found is none = cut_as (IsRecordingOf known.machine known.init.items (bytes_in files logs)) (IsMadeOf files logs) (made_of files logs known is none) w found

-- out of that of the files that were found in folders
pub found_in : (names_in : List ℕ → Option (List (List ℕ))) (files : List ℕ → Option (List ℕ)) (folders : List (List ℕ)) (logs : FoundLogs) (w : Window) (found : Windowed) → IsFoundIn names_in files folders logs → AreCompressed names_in folders [] → IsCutFrom (IsMadeOf files logs) w found → IsCutFrom (IsMadeIn names_in files folders) w found
found_in names_in files folders logs w found are all = cut_as (IsMadeOf files logs) (IsMadeIn names_in files folders) (λ s is. record { logs = logs; found = are; all = all; is = is }) w found

-- the result for a session whose text was read
session_cut : (text : List ℕ) (session : Recorded) (w : Window) (found : Windowed) → IsSpelling SpellsSession session text → IsCutFrom (λ s. s ≡ session) w found → IsCutFromText text w found
session_cut text session w found spelled cut = go found (cut_as (λ s. s ≡ session) (λ s. IsSpelling SpellsSession s text) (λ s same. subst (λ (t : Recorded). IsSpelling SpellsSession t text) (sym same) spelled) w found cut)
  where
    go : (found : Windowed) → IsCutFrom (λ s. IsSpelling SpellsSession s text) w found → IsCutFromText text w found
    go (SessionText line) h = absurd h.from
    go NoSuchPages h = h
    go (Seen out) h = h

pub read_cut : {E : Type 0} (text : List ℕ) (session : Recorded) (w : Window) (found : Result Windowed E) → IsSpelling SpellsSession session text → IfOk found (IsCutFrom (λ s. s ≡ session) w) → IfOk found (IsCutFromText text w)
read_cut text session w (Ok found) spelled cut = session_cut text session w found spelled cut
read_cut text session w (Err e) spelled cut = tt

module _ (w : Window) (name : List ℕ) (files : Files) (HasSession : List ℕ → List ℕ → Type 0) (input : Option (List ℕ)) (found : Windowed) where
  windowed : (text : List ℕ) (v : Windowed) → IsCutFrom (IsUnder name files text) w v → IsWindowed w name files text v
  windowed text (SessionText line) h = absurd h.from
  windowed text NoSuchPages h = record { s = h.s; is = h.is; outside = h.from }
  windowed text (Seen out) h = record { s = h.s; is = h.is; cut = h.from }

  -- the text under a name was read
  pub text_cut : (why : Option Why) (text : List ℕ) → IsNamed name files HasSession input text → IsCutFromText text w found → IsWhy (IsRefusedAt SpellsSession) name text why → IsCutUnder w name files HasSession input found why
  text_cut why text named cut is = record {
    text = text;
    is_input = input_of named;
    is_windowed = under found cut;
    line = is.0;
    is_line = line_under is.0 is.1;
    is_place = is.2;
  }
    where
      input_of : IsNamed name files HasSession input text → IsInput name files HasSession input text
      input_of (inl read) = inl read
      input_of (inr session) = inr (session.0, inl session.1)

      of_session : (v : Windowed) → IsCutFrom (λ s. IsSpelling SpellsSession s text) w v → IsWindowed w name files text v
      of_session v h = windowed text v (cut_as (λ s. IsSpelling SpellsSession s text) (IsUnder name files text) (λ s spelled. inl spelled) w v h)

      under : (v : Windowed) → IsCutFromText text w v → IsWindowed w name files text v
      under (SessionText line) h = h
      under NoSuchPages h = of_session NoSuchPages h
      under (Seen out) h = of_session (Seen out) h

      line_under : (line : Option ℕ) → IsRefusedAt SpellsSession text line → IsRefusedUnder name files text line
      line_under None spelled = (spelled.0, inl spelled.1)
      line_under (Some n) refused = refused

  -- the files in the folder of a name make a recording
  pub folder_cut : is_dash name ≡ false → IsCutFrom (IsMadeIn files.names_in files.bytes_of (name ∷ [])) w found → IsCutUnder w name files HasSession input found None
  folder_cut other cut =
      let text = ended (session_lines cut.s) in
      let made : IsUnder name files text cut.s = inr (cut.is, refl) in
      record {
        text = text;
        is_input = inr (other, inr (cut.s, cut.is, refl));
        is_windowed = windowed text found record { s = cut.s; is = made; from = cut.from };
        line = None;
        is_line = (cut.s, made);
        is_place = refl;
      }

-- ---- the answer

-- the table was put into its place, where there is one
abbrev pub IsPut : Option (Vec ℕ) → Option (Vec ℕ) → Option (Vec ℕ) → Type 0
IsPut table before after = MatchOption table (after ≡ before) (λ text. after ≡ Some text)

not_put : (table before after : Option (Vec ℕ)) → table ≡ None → IsPut table before after → after ≡ before
not_put table before after none put = subst (λ t. IsPut t before after) none put

-- there is no table without a window, or where none is asked for
none_told : (lined : Bool) (table : Option (Vec ℕ)) (found : Windowed) → HasTableOf lined found table → windowed_status found ≢ 0 → table ≡ None
none_told lined table (SessionText line) none other = none
none_told lined table NoSuchPages none other = none
none_told lined table (Seen out) has other = absurd (other refl)

none_asked : (table : Option (Vec ℕ)) (found : Windowed) → HasTableOf false found table → table ≡ None
none_asked table (SessionText line) none = none
none_asked table NoSuchPages none = none
none_asked table (Seen out) none = none

few_windowed : (found : Windowed) → windowed_status found < 2
few_windowed (SessionText line) = omega arith
few_windowed NoSuchPages = omega arith
few_windowed (Seen out) = omega arith

module _ {w : Window} {name : List ℕ} {files : Files} {HasSession : List ℕ → List ℕ → Type 0} {input : Option (List ℕ)} {found : Windowed} {why : Option Why} {E : Type 0} {made : Result (Answer × Option (Vec ℕ)) E} {answer : Answer} {table : Option (Vec ℕ)} (lined : Bool) (is : IsCutUnder w name files HasSession input found why) (told : IfOk made (λ t. IsTold lined found t.0 t.1)) (given : made ≡ Ok (answer, table)) where
  says : IsTold lined found answer table
  says = subst (λ (r : Result (Answer × Option (Vec ℕ)) E). IfOk r (λ t. IsTold lined found t.0 t.1)) given told

  right : IsWindowAnswer w name files is.text answer.text.items answer.status
  right = record { value = found; is_right = is.is_windowed; is_text = says.0.0; is_status = says.0.1 }

  pub few_written : (status : ℕ) → status ≡ answer.status → status < 2
  few_written status same = rw (same ∙ says.0.1) (few_windowed found)

  -- why there is no window, if that is found
  outside_words_right : (status : ℕ) (words : List ℕ) → status ≡ answer.status → found ≡ NoSuchPages → words ≡ outside_words → TellsOutside w name files is.text status words
  outside_words_right status words same outside are = (record { value = NoSuchPages; is_right = subst (IsWindowed w name files is.text) outside is.is_windowed; is_text = refl; is_status = same ∙ says.0.1 ∙ ap windowed_status outside }, are)

  outside_told : (outside : Bool) (status : ℕ) (old new : Option (List ℕ)) → (outside ≡ true → found ≡ NoSuchPages) → status ≡ answer.status → MayTell (IsNote (λ words. (outside ≡ true) × (words ≡ outside_words)) name) old new → MayTell (IsNote (TellsOutside w name files is.text status) name) old new
  outside_told outside status old new found_so same (inl kept) = inl kept
  outside_told outside status old new found_so same (inr told) =
      let note = told.1 in
      inr (told.0, record { words = note.words; are_words = outside_words_right status note.words same (found_so note.are_words.0) note.are_words.1; is_line = note.is_line }, told.2)

  -- the answer was written, and then why the text is refused or there is no window, or the output failed
  pub window_written : (outside : Bool) (old new first errors between told : Option (List ℕ)) (status : ℕ) → Gains first errors → (outside ≡ true → found ≡ NoSuchPages) → status ≡ answer.status → Appends old new answer.text.items → TellsWhy Short (option_map told_place why) errors between → MayTell (IsNote (λ words. (outside ≡ true) × (words ≡ outside_words)) name) between told → EndsWindow w name files HasSession input (old, first) (new, told) (Ok status)
  window_written outside old new first errors between told status gained found_so same written because noted =
      let beside : TellsRefused w name files is.text status errors told = record { line = is.line; is_line = is.is_line; between = between; told = subst (λ (p : Option Place). TellsWhy Short p errors between) is.is_place because; noted = outside_told outside status between told found_so same noted } in (
        errors,
        gained,
        written_whole (IsInput name files HasSession input) (IsWindowAnswer w name files) (TellsRefused w name files) is.text answer status (old, errors) (new, told) same is.is_input right written beside,
      )

  pub window_unwritten : (old new first errors : Option (List ℕ)) (f : Fault) → Gains first errors → IsOutputFault f → AppendsFront old new answer.text.items → EndsWindow w name files HasSession input (old, first) (new, errors) (Err f)
  window_unwritten old new first errors f gained fault front = (
    errors,
    gained,
    not_written (IsTextFault (λ n. n ≡ name)) (IsInput name files HasSession input) (IsWindowAnswer w name files) is.text answer.text.items answer.status old new errors f fault (output_fault (λ n. n ≡ name) f fault) is.is_input right front,
  )

  -- ---- tables

  pub lines_kept : (before after : Option (Vec ℕ)) → IsPut table before after → answer.status ≢ 0 → after ≡ before
  lines_kept before after put other = not_put table before after (none_told lined table found says.1 (λ zero. other (says.0.1 ∙ zero))) put

  pub lines_unasked : (before after : Option (Vec ℕ)) → lined ≡ false → IsPut table before after → after ≡ before
  lines_unasked before after unlined put = not_put table before after (none_asked table found (subst (λ (b : Bool). HasTableOf b found table) unlined says.1)) put

  pub lines_told : (old new : Option (List ℕ)) (before after : Option (Vec ℕ)) → lined ≡ true → Appends old new answer.text.items → IsPut table before after → answer.status ≡ 0 → MatchOption after ⊥ (λ t. HasWindowLines w name files HasSession input old new t.items)
  lines_told old new before after asked written put well = go found is.is_windowed says.0 (subst (λ (b : Bool). HasTableOf b found table) asked says.1)
    where
      has : (out : WindowText) (t : Option (Vec ℕ)) → IsCutOf (IsUnder name files is.text) w out → answer.text.items ≡ out.text.items → HasTable true out.lines.items t → IsPut t before after → MatchOption after ⊥ (λ t. HasWindowLines w name files HasSession input old new t.items)
      has out None cut text none put = absurd none
      has out (Some t) cut text is_table put = rw put record { text = is.text; is_input = is.is_input; cut = out; is_cut = cut; written = subst (Appends old new) text written; is_table = is_table }

      go : (v : Windowed) → IsWindowed w name files is.text v → Says answer (windowed_text v) (windowed_status v) → HasTableOf true v table → MatchOption after ⊥ (λ t. HasWindowLines w name files HasSession input old new t.items)
      go (SessionText line) right said none = absurd (omega (arith, said.1, well))
      go NoSuchPages right said none = absurd (omega (arith, said.1, well))
      go (Seen out) cut said is_table = has out table cut said.0 is_table put

pub window_unread : (w : Window) (name : List ℕ) (files : Files) (HasSession : List ℕ → List ℕ → Type 0) (input old first errors : Option (List ℕ)) (f : Fault) → Gains first errors → IsReadFault (λ n. n ≡ name) f → EndsWindow w name files HasSession input (old, first) (old, errors) (Err f)
window_unread w name files HasSession input old first errors f gained h = (
  errors,
  gained,
  not_read (IsTextFault (λ n. n ≡ name)) (IsInput name files HasSession input) (IsWindowAnswer w name files) (λ n. n ≡ name) (old, errors) f (text_fault (λ n. n ≡ name) f h) h,
)
