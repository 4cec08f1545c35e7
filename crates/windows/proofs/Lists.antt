-- Lists that grow by an item at their end.
use Rattle.std.proofs.Common.{◌≡◌, ℕ, ◌+◌, Bool, List, [], ◌∷◌, ◌++◌, length, map, refl, sym, ap, ◌∙◌, arith, append_assoc}
use Rattle.text_lines.specs.Text.{ended}
use Rattle.audit_model.specs.Windows.{kept_in}
use Rattle.std.specs.Global.{Vec}
use Rattle.migration_types.specs.declared.records.GuestRec.{GuestRec}
use Rattle.audit_model.specs.Windows.{Numbers}
use Rattle.windows.specs.declared.marking.Marks.{Marks}
use Rattle.windows.specs.declared.sections.Section.{Section}
use Rattle.windows.specs.inner.Guided.{guest_marks, guest_by, far_after, further_by}
use Rattle.windows.specs.inner.Met.{IsSection}

pub map_end : {A B : Type 0} (f : A → B) (xs : List A) (x : A) → map f (xs ++ x ∷ []) ≡ map f xs ++ f x ∷ []
map_end f [] x = refl
map_end f (y ∷ xs) x = ap (λ ys. f y ∷ ys) (map_end f xs x)

pub map_more : {A : Type 0} (f : A → Bool) (xs : List A) (x : A) (ys zs : List Bool) (b : Bool) → ys ≡ map f xs → b ≡ f x → zs ≡ ys ++ b ∷ [] → zs ≡ map f (xs ++ x ∷ [])
map_more f xs x ys zs b e t m = m ∙ ap (λ us. us ++ b ∷ []) e ∙ ap (λ c. map f xs ++ c ∷ []) t ∙ sym (map_end f xs x)

pub map_nothing : {A : Type 0} (f g : A → Bool) (xs : List A) (ys : List Bool) → xs ≡ [] → ys ≡ map f xs → ys ≡ map g xs
map_nothing f g xs ys none e = e ∙ ap (map f) none ∙ sym (ap (map g) none)

pub ended_end : (lines : List (List ℕ)) (line : List ℕ) → ended (lines ++ line ∷ []) ≡ ended lines ++ (line ++ 10 ∷ [])
ended_end [] line = refl
ended_end (l ∷ lines) line = ap (λ xs. l ++ 10 ∷ xs) (ended_end lines line) ∙ sym (append_assoc l (10 ∷ ended lines) (line ++ 10 ∷ []))

pub length_end : {A : Type 0} (xs : List A) (x : A) → length (xs ++ x ∷ []) ≡ length xs + 1
length_end [] x = refl
length_end (y ∷ xs) x = let e = length_end xs x in omega (arith, e)

pub kept_nothing : {A : Type 0} (marks : List Bool) → kept_in {A = A} marks [] ≡ []
kept_nothing [] = refl
kept_nothing (m ∷ marks) = refl

pub section_more : (section : Section) (lines : List (List ℕ)) (line : List ℕ) (count : ℕ) (text : Vec ℕ) → IsSection section lines → count ≡ section.count + 1 → text.items ≡ section.lines.items ++ (line ++ 10 ∷ []) → IsSection (record { count = count; lines = text }) (lines ++ line ∷ [])
section_more section lines line count text is one more = record {
  counted = one ∙ ap (λ n. n + 1) is.counted ∙ sym (length_end lines line);
  text = more ∙ ap (λ xs. xs ++ (line ++ 10 ∷ [])) is.text ∙ sym (ended_end lines line);
}

pub marks_end : (number : Numbers) (known : Marks) (far : ℕ) (log : List GuestRec) (r : GuestRec) → guest_marks number known far (log ++ r ∷ []) ≡ guest_marks number known far log ++ guest_by number known (far_after known far log) r ∷ []
marks_end number known far [] r = refl
marks_end number known far (x ∷ log) r = ap (λ ms. guest_by number known far x ∷ ms) (marks_end number known (further_by known x far) log r)

pub far_end : (known : Marks) (far : ℕ) (log : List GuestRec) (r : GuestRec) → far_after known far (log ++ r ∷ []) ≡ further_by known r (far_after known far log)
far_end known far [] r = refl
far_end known far (x ∷ log) r = far_end known (further_by known x far) log r
