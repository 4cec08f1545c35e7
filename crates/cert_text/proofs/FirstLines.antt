-- The first line of a text tells its form.
use Rattle.std.proofs.Common.{◌≡◌, ℕ, ◌+◌, ◌*◌, List, [], ◌∷◌, get_or, refl, sym, ap, ◌∙◌}
use Rattle.std.specs.Prelude.{◌≢◌, Bool, true, false, IsTrue, ◌↔◌}
use Rattle.text_lines.specs.Text.{Begins}
use Rattle.audit_model.specs.declared.reasons.PageReason.{PageReason}
use Rattle.migration_types.specs.declared.cert.Run.{Run}
use Rattle.migration_types.specs.declared.version.Version.{Version}
use Rattle.migration_types.specs.declared.version.Version.TheVariants.{One, Two}
use Rattle.migration_types.specs.declared.size.Size.{Size}
use Rattle.migration_types.specs.declared.size.Size.TheVariants.{Small, Large}
use Rattle.migration_types.specs.Limits.{HasSize}
use Rattle.cert_text.specs.Runs.{runs_text_header}
use Rattle.cert_text.specs.Grammar.{header}
use Rattle.cert_text.specs.declared.forms.OrderForm.{OrderForm}
use Rattle.cert_text.specs.declared.forms.OrderForm.TheVariants.{Runs, Faulty, Cert, Clean}
use Rattle.cert_text.specs.Order.{clean_line, faulty_line, IsLineNumber, SpellsAs, SpellsOrder}
use Rattle.cert_text.specs.inner.OrderHeld.{IsFirst, IsCertHeader}

-- the first byte and the tenth
abbrev mark : List ℕ → ℕ
mark line = get_or line 0 0 * 256 + get_or line 9 0

-- of the first line of each form
abbrev pub mark_of : OrderForm → ℕ
mark_of Runs = 28786
mark_of (Faulty line reason) = 26222
mark_of Cert = 28771
mark_of Clean = 25344

marked_header : (version : Version) (size : Size) → HasSize version size → mark (header version size) ≡ 28771
marked_header One Small has = refl
marked_header Two Small has = refl
marked_header One Large has = absurd has
marked_header Two Large has = refl

marked : (form : OrderForm) (line : List ℕ) → IsFirst form line → mark line ≡ mark_of form
marked Runs line e = ap mark e
marked (Faulty n reason) line e = ap mark e.1
marked Cert line e = ap mark e.3 ∙ marked_header e.0 e.1 e.2
marked Clean line e = ap mark e

-- a line is the first of one form alone
pub same_mark : (f g : OrderForm) (line : List ℕ) → IsFirst f line → IsFirst g line → mark_of f ≡ mark_of g
same_mark f g line p q = sym (marked f line p) ∙ marked g line q

pub first_is : (form : OrderForm) (order : List Run) (line : List ℕ) (more : List (List ℕ)) → SpellsAs form order (line ∷ more) → IsFirst form line
first_is Runs order line more s = let e = s.1 in cc
first_is (Faulty n reason) order line more s = let e = s.1.2 in (s.0, cc)
first_is Cert order line more s = let e = s.1.1 in (s.0.version, s.0.size, s.1.0.size, cc)
first_is Clean order line more s = let e = s.2 in cc

-- a line that is the first of no form begins no text
pub no_form_begins : (line : List ℕ) → ((form : OrderForm) → IsFirst form line → ⊥) → Begins SpellsOrder (line ∷ []) → ⊥
no_form_begins line none b = none b.2.0 (first_is b.2.0 b.0 line b.1 b.2.1)

-- no form has a first line that is none of these
pub no_form : (line : List ℕ) → line ≢ runs_text_header → (IsCertHeader line → ⊥) → line ≢ clean_line → ((n : ℕ) (reason : PageReason) → IsLineNumber n → line ≢ faulty_line n reason) → (form : OrderForm) → IsFirst form line → ⊥
no_form line a b c d Runs e = a e
no_form line a b c d (Faulty n reason) e = d n reason e.0 e.1
no_form line a b c d Cert e = b e
no_form line a b c d Clean e = c e

-- what a test does not find is not so
pub not_this : {P : Type 0} (found : Bool) → found ≡ false → IsTrue found ↔ P → P → ⊥
not_this true e test p = absurd cc
not_this false e test p = let found = test.1 p in absurd cc
