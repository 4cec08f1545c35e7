-- Rows, as they are built.
use Rattle.std.proofs.Common.{◌≡◌, ℕ, suc, ◌+◌, ◌<◌, ◌≤◌, ◌⊎◌, inl, inr, Bool, true, false, cond, ◌||◌, List, [], ◌∷◌, ◌++◌, length, refl, sym, ap, ◌∙◌, subst, arith}
use Rattle.std.specs.Prelude.{nat_lt}
use Rattle.std.specs.List.{list_any}
use Rattle.std.proofs.lemmas.Bool.{cases_lt, lt-ltb, le-ltb}
use Rattle.std.proofs.lemmas.List.{append_assoc, append-nil, length_push}
use Rattle.std.proofs.lemmas.List.Folds.{list_any-append}
use Rattle.migration_types.specs.declared.records.LogName.{LogName}
use Rattle.migration_types.specs.Receipts.{Name}
use Rattle.audit_model.specs.Names.{same_log}
use Rattle.audit_model.specs.Mergings.{Cursors, at_start, moved}
use Rattle.audit_model.specs.Walks.{next, cursors_from}
use Rattle.merge_runs.specs.Taken.{cursors_of}
use Rattle.merge_runs.proofs.Walking.{cursors_append, cursors_run}
use Rattle.order_picture.specs.declared.focus.Mark.{Mark}
use Rattle.order_picture.specs.declared.picture.PictureRow.{PictureRow}
use Rattle.order_picture.specs.declared.picture.PictureRow.TheVariants.{Record, Fold}
use Rattle.order_picture.specs.declared.rows.Building.{Building}
use Rattle.order_picture.specs.Rows.{Covers, is_faulty, row_is_faulty, shows_fault}
use Rattle.order_picture.specs.inner.Built.{IsBuilt, closed_rows}

or_false : (x : Bool) → (x || false) ≡ x
or_false true = refl
or_false false = refl

or_true : (x : Bool) → (x || true) ≡ true
or_true true = refl
or_true false = refl

is_empty : {A : Type 0} (xs : List A) → length xs ≤ 0 → xs ≡ []
is_empty [] le = refl
is_empty (x ∷ xs) le = absurd (omega arith)

covers_more : (mark : Name → Mark) (rows more : List PictureRow) (xs ys : List Name) → Covers mark rows xs → Covers mark more ys → Covers mark (rows ++ more) (xs ++ ys)
covers_more mark [] more xs ys none c = subst (λ (zs : List Name). Covers mark more (zs ++ ys)) (sym none) c
covers_more mark (Record log place m ∷ rows) more xs ys h c = (h.0 ++ ys, ap (λ (zs : List Name). zs ++ ys) h.1, h.2, covers_more mark rows more h.0 ys h.3 c)
covers_more mark (Fold counts ∷ rows) more xs ys h c = (h.0, h.1 ++ ys, ap (λ (zs : List Name). zs ++ ys) h.2 ∙ append_assoc h.0 h.1 ys, h.3, covers_more mark rows more h.1 ys h.4 c)

-- with the fold of what came since the last one, the rows cover all names
pub closed_covers : (mark : Name → Mark) (b : Building) (names : List Name) → IsBuilt mark b names → Covers mark (closed_rows b) names
closed_covers mark b names built = go (cases_lt 0 b.folded)
  where
    more : List PictureRow
    more = b.rows.items ++ Fold b.since ∷ []

    some : Covers mark more names
    some = subst (λ (ns : List Name). Covers mark more ns) (sym built.parts) (covers_more mark b.rows.items (Fold b.since ∷ []) built.covered built.folded built.covers (built.folded, [], sym (append-nil built.folded), built.counts, refl))

    none : length built.folded ≤ 0 → Covers mark b.rows.items names
    none le = subst (λ (ns : List Name). Covers mark b.rows.items ns) (sym (built.parts ∙ (ap (λ (xs : List Name). built.covered ++ xs) (is_empty built.folded le) ∙ append-nil built.covered))) built.covers

    go : (0 < b.folded) ⊎ (b.folded ≤ 0) → Covers mark (closed_rows b) names
    go (inl lt) = subst (λ t. Covers mark (cond t more b.rows.items) names) (sym (lt-ltb 0 b.folded lt)) some
    go (inr le) = subst (λ t. Covers mark (cond t more b.rows.items) names) (sym (le-ltb 0 b.folded le)) (none (omega (arith, built.count)))

pub closed_shows : (b : Building) → shows_fault (closed_rows b) ≡ shows_fault b.rows.items
closed_shows b = go (nat_lt 0 b.folded)
  where
    go : (t : Bool) → shows_fault (cond t (b.rows.items ++ Fold b.since ∷ []) b.rows.items) ≡ shows_fault b.rows.items
    go true = list_any-append row_is_faulty b.rows.items (Fold b.since ∷ []) ∙ or_false (shows_fault b.rows.items)
    go false = refl

-- a record more, with a row of its own
pub kept : (mark : Name → Mark) (b d : Building) (names : List Name) (name : Name) (m : Mark) → IsBuilt mark b names → m ≡ mark name → d.rows.items ≡ closed_rows b ++ Record name.0 name.1 m ∷ [] → cursors_of d.since ≡ at_start → d.folded ≡ 0 → (d.fault_left ≡ 0 → (is_faulty m ≡ true) ⊎ (b.fault_left ≡ 0)) → IsBuilt mark d (names ++ name ∷ [])
kept mark b d names name m built look rows since none left = record {
  covered = names ++ name ∷ [];
  folded = [];
  parts = sym (append-nil (names ++ name ∷ []));
  covers = subst (λ (rs : List PictureRow). Covers mark rs (names ++ name ∷ [])) (sym rows) (covers_more mark (closed_rows b) (Record name.0 name.1 m ∷ []) names (name ∷ []) (closed_covers mark b names built) ([], refl, look, refl));
  counts = since;
  count = none;
  shown = shows ∙ (ap (λ x. x || (is_faulty m || false)) (closed_shows b ∙ built.shown) ∙ (ap (λ (y : Mark). list_any faulty_name names || (is_faulty y || false)) look ∙ sym (list_any-append faulty_name names (name ∷ []))));
  spent = λ e. shows ∙ elim (left e) [ inl h ↦ ap (λ x. shows_fault (closed_rows b) || (x || false)) h ∙ or_true (shows_fault (closed_rows b)) | inr h ↦ ap (λ x. x || (is_faulty m || false)) (closed_shows b ∙ built.spent h) ];
}
  where
    faulty_name : Name → Bool
    faulty_name other = is_faulty (mark other)

    shows : shows_fault d.rows.items ≡ (shows_fault (closed_rows b) || (is_faulty m || false))
    shows = ap shows_fault rows ∙ list_any-append row_is_faulty (closed_rows b) (Record name.0 name.1 m ∷ [])

-- a record more, which is counted
pub counted : (mark : Name → Mark) (b d : Building) (names : List Name) (name : Name) → IsBuilt mark b names → (is_faulty (mark name) ≡ true → b.fault_left ≡ 0) → d.rows.items ≡ b.rows.items → cursors_of d.since ≡ moved (cursors_of b.since) name.0 1 → d.folded ≡ b.folded + 1 → d.fault_left ≡ b.fault_left → IsBuilt mark d (names ++ name ∷ [])
counted mark b d names name built other rows since more left = record {
  covered = built.covered;
  folded = built.folded ++ name ∷ [];
  parts = ap (λ (ns : List Name). ns ++ name ∷ []) built.parts ∙ append_assoc built.covered built.folded (name ∷ []);
  covers = subst (λ (rs : List PictureRow). Covers mark rs built.covered) (sym rows) built.covers;
  counts = since ∙ (ap (λ (c : Cursors). moved c name.0 1) built.counts ∙ sym (cursors_append at_start built.folded (name ∷ []) ∙ cursors_run (cursors_from at_start built.folded) name.0 name.1 1));
  count = let n = length_push built.folded name in omega (arith, more, n, built.count);
  shown = ap shows_fault rows ∙ (built.shown ∙ (same (is_faulty (mark name)) refl ∙ sym (list_any-append faulty_name names (name ∷ []))));
  spent = λ e. ap shows_fault rows ∙ built.spent (sym left ∙ e);
}
  where
    faulty_name : Name → Bool
    faulty_name other = is_faulty (mark other)

    same : (f : Bool) → is_faulty (mark name) ≡ f → list_any faulty_name names ≡ (list_any faulty_name names || (f || false))
    same false e = sym (or_false (list_any faulty_name names))
    same true e = sym built.shown ∙ (built.spent (other e) ∙ sym (or_true (list_any faulty_name names)))

-- ---- how many came

next_few : (t : Bool) (a : ℕ) → cond t (suc a) a ≤ suc a
next_few true a = omega arith
next_few false a = omega arith

pub few_from : (c : Cursors) (names : List Name) (log : LogName) → cursors_from c names log ≤ c log + length names
few_from c [] log = omega arith
few_from c (name ∷ names) log = let h = few_from (next c name.0) names log in let n = next_few (same_log name.0 log) (c log) in omega (arith, h, n)

length_parts : (xs ys : List Name) → length ys ≤ length (xs ++ ys)
length_parts [] ys = omega arith
length_parts (x ∷ xs) ys = let h = length_parts xs ys in omega (arith, h)

pub folded_few : (mark : Name → Mark) (b : Building) (names : List Name) → IsBuilt mark b names → b.folded ≤ length names
folded_few mark b names built = let h = length_parts built.covered built.folded in let e = ap (λ (ns : List Name). length ns) built.parts in omega (arith, h, e, built.count)

pub since_few : (mark : Name → Mark) (b : Building) (names : List Name) (log : LogName) → IsBuilt mark b names → cursors_of b.since log ≤ b.folded
since_few mark b names log built = let h = few_from at_start built.folded log in let e = ap (λ (c : Cursors). c log) built.counts in omega (arith, h, e, built.count)
