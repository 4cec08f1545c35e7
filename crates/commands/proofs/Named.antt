-- An answer and a table that get their names one after the other.
use Rattle.std.proofs.Common.{rules, arith, ◌≡◌, ◌∙◌, ◌<◌, ℕ, List, [], ◌++◌, ap, inl, inr, refl, subst, sym, Option, Some, None, Result, Ok, Err, OnOk, IsErr, IsOk, MatchResult, append-nil}
use Rattle.std.specs.Prelude.{Bool, true, false, if◌then◌else◌, not, nat_lt, ◌&&◌}
use Rattle.std.specs.Io.KnownBytes.{Appends}
use Rattle.command_words.specs.declared.requests.AnswerKind.{AnswerKind}
use Rattle.command_words.specs.Words.{is_due, is_report}
use Rattle.commands.specs.Saving.{Named, at_end, at_keep, under}
use Rattle.commands.specs.Puts.{AreBothNamed, IsOneNamed, IsPut, Places, beside, due_of, name_at, under_if}

-- what holds where a result is right holds where it is told as right
pub ok_told : {V W E F : Type 0} (P : Type 0) (told : Result V E) (done : Result W F) → MatchResult told (λ _. IsOk done) (λ _. IsErr done) → OnOk done P → OnOk told P
ok_told P (Ok v) (Ok w) is p = p
ok_told P (Ok v) (Err e) is p = search rules
ok_told P (Err e) done is p = tt

-- a text gets its name at its end or when its draft is kept
once : {D : Type 0} (draft : Option D) (texts old ended kept : Named) → ended ≡ old ++ at_end draft texts → kept ≡ ended ++ at_keep draft texts → kept ≡ old ++ texts
once None texts old ended kept e k = k ∙ append-nil ended ∙ e
once (Some draft) texts old ended kept e k = k ∙ ap (λ (l : Named). l ++ texts) (e ∙ append-nil old)

-- the same, where keeping it was right
pub once_kept : {D V E : Type 0} (done : Result V E) (draft : Option D) (texts old ended kept : Named) → ended ≡ old ++ at_end draft texts → OnOk done (kept ≡ ended ++ at_keep draft texts) → OnOk done (kept ≡ old ++ texts)
once_kept (Ok v) draft texts old ended kept e k = once draft texts old ended kept e k
once_kept (Err e) draft texts old ended kept is k = tt

-- both were put
both_named : {D : Type 0} (draft : Option D) (answer table old ended put kept : Named) → ended ≡ old ++ at_end draft table → put ≡ ended ++ answer → kept ≡ put ++ at_keep draft table → AreBothNamed answer table old kept
both_named None answer table old ended put kept e p k = inr (k ∙ append-nil put ∙ p ∙ ap (λ (l : Named). l ++ answer) e)
both_named (Some draft) answer table old ended put kept e p k = inl (k ∙ ap (λ (l : Named). l ++ table) (p ∙ ap (λ (l : Named). l ++ answer) (e ∙ append-nil old)))

-- the same, where keeping the table was right
pub both_kept : {D V E : Type 0} (done : Result V E) (draft : Option D) (answer table old ended put kept : Named) → ended ≡ old ++ at_end draft table → put ≡ ended ++ answer → OnOk done (kept ≡ put ++ at_keep draft table) → OnOk done (AreBothNamed answer table old kept)
both_kept (Ok v) draft answer table old ended put kept e p k = both_named draft answer table old ended put kept e p k
both_kept (Err e) draft answer table old ended put kept is p k = tt

-- ---- the names that are due at a status

-- nothing goes beside it
alone : (one old new : Named) → new ≡ old ++ one → AreBothNamed one [] old new
alone one old new put = inl (put ∙ sym (append-nil (old ++ one)))

pub ok_alone : {V E : Type 0} (done : Result V E) (one old new : Named) → OnOk done (new ≡ old ++ one) → OnOk done (AreBothNamed one [] old new)
ok_alone (Ok v) one old new put = alone one old new put
ok_alone (Err e) one old new put = tt

due_names : (b : Bool) (lines name : Option (List ℕ)) → ◌≡◌ {A = Option (List ℕ) × Option (List ℕ)} (if b then (lines, name) else (None, None)) (if b then lines else None, if b then name else None)
due_names true lines name = refl
due_names false lines name = refl

due_text : (part : Bool) (text : List ℕ) → part ≡ false → text ≡ (if part then [] else text)
due_text part text whole = rw whole refl

-- a whole text was put under the names that are due
pub put_is : {V E : Type 0} (done : Result V E) (kind : AnswerKind) (status : ℕ) (lines name : Option (List ℕ)) (due : Option (List ℕ) × Option (List ℕ)) (table : Option (List ℕ)) (text : List ℕ) (other : Named) (old new : Places) → due ≡ (if is_due kind status then (lines, name) else (None, None)) → (not (is_report kind) && nat_lt 1 status) ≡ false → under_if due.0 table ≡ other → OnOk done (AreBothNamed (under due.1 text) other old.0 new.0) → OnOk done (Appends old.1 new.1 (beside due.1 text)) → OnOk done (IsPut kind status (lines, name) text table old new)
put_is (Err e) kind status lines name due table text other old new due_is whole is named written = tt
put_is (Ok v) kind status lines name due table text other old new due_is whole is named written =
    let names : due ≡ (name_at kind status lines, name_at kind status name) = due_is ∙ due_names (is_due kind status) lines name in
    let all = due_text (not (is_report kind) && nat_lt 1 status) text whole in
    record {
      named = subst (λ (t : List ℕ). AreBothNamed (under (name_at kind status name) t) (under_if (name_at kind status lines) table) old.0 new.0) all
          (subst (λ (n : Option (List ℕ) × Option (List ℕ)). AreBothNamed (under n.1 text) (under_if n.0 table) old.0 new.0) names
          (subst (λ (l : Named). AreBothNamed (under due.1 text) l old.0 new.0) (sym is) named));
      written = subst (λ (t : List ℕ). Appends old.1 new.1 (beside (name_at kind status name) t)) all
          (subst (λ (n : Option (List ℕ) × Option (List ℕ)). Appends old.1 new.1 (beside n.1 text)) names written);
    }

not_due : (kind : AnswerKind) (status : ℕ) → 2 < status → is_due kind status ≡ false
not_due kind status high = grind arith

nothing_more : (old new : Named) → new ≡ old ++ [] ++ [] → new ≡ old
nothing_more old new put = put ∙ append-nil (old ++ []) ∙ append-nil old

none_named : (b : Bool) (lines name table : Option (List ℕ)) (text : List ℕ) (one other old new : Named) → b ≡ false → AreBothNamed (under (if b then name else None) text) (under_if (if b then lines else None) table) old new → IsOneNamed one other old new
none_named true lines name table text one other old new is put = absurd cc
none_named false lines name None text one other old new is (inl put) = inl (nothing_more old new put)
none_named false lines name None text one other old new is (inr put) = inl (nothing_more old new put)
none_named false lines name (Some bytes) text one other old new is (inl put) = inl (nothing_more old new put)
none_named false lines name (Some bytes) text one other old new is (inr put) = inl (nothing_more old new put)

-- above 2 no text gets a name
pub nothing_named : (kind : AnswerKind) (status : ℕ) (lines name table : Option (List ℕ)) (text : List ℕ) (one other : Named) (old new : Places) → 2 < status → IsPut kind status (lines, name) text table old new → IsOneNamed one other old.0 new.0
nothing_named kind status lines name table text one other old new high put = none_named (is_due kind status) lines name table (due_of kind status text) one other old.0 new.0 (not_due kind status high) put.named
