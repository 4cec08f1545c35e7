-- A folder whose files are known stands for the session of these files.
use Rattle.std.proofs.Common.{◌≡◌, ◌∙◌, ℕ, List, [], ◌∷◌, Option, Some, None, inl, inr, refl, subst, sym, ap}
use Rattle.std.specs.Prelude.{Bool, false, ◌&&◌}
use Rattle.std.specs.List.{AllByRecursion}
use Rattle.clap.specs.Words.{Text}
use Rattle.command_words.specs.Words.{several_asked}
use Rattle.command_texts.specs.Told.{AreNamed, AreTextsBy, IsNamed, NoSession, is_dash}
use Rattle.text_access.specs.Names.{Files}
use Rattle.judged_texts.specs.Checked.{HeadlineHolds}
use Rattle.commands.specs.Folders.{IsFolder, IsWholeWith, SessionIn, ShowsFolders}
use Rattle.commands.specs.Shown.{CarriesHeadlines, Shows, SpellsMigrated}
use Rattle.commands.proofs.Settled.{some_map}

module _ (files : Files) where
  session_of : (folder : List ℕ) (input : Option (List ℕ)) (text : List ℕ) → IsFolder files folder → IsNamed folder files (SessionIn files) input text → SessionIn files folder text
  session_of folder input text is (inl read) =
      let none : None ≡ Some is.names = sym (read.no_folder is.no_input) ∙ is.has in
      absurd cc
  session_of folder input text is (inr (plain, has)) = has

  whole_with : (folder : List ℕ) (input : Option (List ℕ)) (text : List ℕ) (Holds : List ℕ → Type 0) → IsFolder files folder → IsNamed folder files (SessionIn files) input text → Holds text → IsWholeWith files folder Holds
  whole_with folder input text Holds is named holds =
      let session = session_of folder input text is named in
      record { text = text; is_text = session; whole = session.is.whole refl; holds = holds }

  -- of two texts, the first
  first_of : (folder second : List ℕ) (input : Option (List ℕ)) (texts : List ℕ × List ℕ) → IsFolder files folder → AreNamed folder second files (SessionIn files) NoSession input texts → IsNamed folder files (SessionIn files) input texts.0 × IsNamed second files NoSession input texts.1
  first_of folder second input texts is are =
      subst (λ (b : Bool). AreTextsBy (b && is_dash second) (IsNamed folder files (SessionIn files) input) (IsNamed second files NoSession input) input texts) is.no_input are

  clean_folder : (folder : List ℕ) (input : Option (List ℕ)) → IsFolder files folder → Shows (IsNamed folder files (SessionIn files) input) SpellsMigrated → IsWholeWith files folder SpellsMigrated
  clean_folder folder input is h = whole_with folder input h.texts SpellsMigrated is h.are_texts h.holds

  clean_folders : (names : List (List ℕ)) → AllByRecursion (λ name. Shows (IsNamed name files (SessionIn files) None) SpellsMigrated) names → AllByRecursion (λ name. IsFolder files name → IsWholeWith files name SpellsMigrated) names
  clean_folders [] h = tt
  clean_folders (name ∷ names) h = (λ is. clean_folder name None is h.0, clean_folders names h.1)

  pub shown_of_folders : (words : List Text) (input : Option (List ℕ)) → CarriesHeadlines words files (SessionIn files) input → ShowsFolders words files input
  shown_of_folders words input shown = record {
    headlines = shown;
    checked = λ folder cert checks is asks.
        let h = shown.checked folder cert checks asks in
        let both = first_of folder cert input h.texts is h.are_texts in
        (h.texts.1, both.1, whole_with folder input h.texts.0 (λ session. HeadlineHolds session h.texts.1) is both.0 h.holds);
    clean = λ folder task is asks. clean_folder folder input is (shown.clean folder task asks);
    lined = λ folder second explains is asks.
        let h = shown.lined folder second explains asks in
        whole_with folder input h.texts.0 SpellsMigrated is (first_of folder second input h.texts is h.are_texts).0 h.holds;
    each = λ accepted. some_map (several_asked words) _ _ (λ asked h. clean_folders asked.1 h) (shown.each accepted);
  }
