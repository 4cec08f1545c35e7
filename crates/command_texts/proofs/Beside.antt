-- What the errors gain beside an answer.
use Rattle.std.proofs.Common.{◌≡◌, ℕ, List, inl, inr, Option, Some, None, Result, Ok, IfOk, sym, subst}
use Rattle.std.specs.Prelude.{IfSome, option_map}
use Rattle.std.specs.Global.{Vec}
use Rattle.text_access.specs.Written.{Gains, MayTell}
use Rattle.text_access.proofs.Fronts.{kept_gains, told_gains}
use Rattle.command_texts.specs.declared.why.Telling.{Telling}
use Rattle.command_texts.specs.Reasons.{IsNote, Place, TellsWhy}

pub why_gains : (telling : Telling) (place : Option Place) (a b : Option (List ℕ)) → TellsWhy telling place a b → Gains a b
why_gains telling None a b k = kept_gains a b k
why_gains telling (Some p) a b h = told_gains _ a b h

-- ---- notes

-- what holds of a note holds of its words
note_there : (Has : List ℕ → Type 0) (note : Option (Vec ℕ)) (words : List ℕ) → IfSome note (λ v. Has v.items) → option_map (λ v. v.items) note ≡ Some words → Has words
note_there Has None words h e = absurd cc
note_there Has (Some v) words h e = let same : v.items ≡ words = cc in subst Has same h

-- the note that was found, for an answer that has this status
pub note_told : {E : Type 0} (Has : ℕ → List ℕ → Type 0) (found : Result (Option (Vec ℕ)) E) (note : Option (Vec ℕ)) (name : List ℕ) (status answered : ℕ) (a b : Option (List ℕ))
    → found ≡ Ok note → status ≡ answered → IfOk found (λ n. IfSome n (λ v. Has answered v.items))
    → MayTell (IsNote (λ words. option_map (λ v. v.items) note ≡ Some words) name) a b → MayTell (IsNote (Has status) name) a b
note_told Has found note name status answered a b is same of (inl k) = inl k
note_told {E} Has found note name status answered a b is same of (inr h) =
    let holds : IfSome note (λ v. Has answered v.items) = subst (λ (r : Result (Option (Vec ℕ)) E). IfOk r (λ n. IfSome n (λ v. Has answered v.items))) is of in
    let has : Has answered h.1.words = note_there (Has answered) note h.1.words holds h.1.are_words in
    inr (h.0, record { words = h.1.words; are_words = subst (λ (n : ℕ). Has n h.1.words) (sym same) has; is_line = h.1.is_line }, h.2)
