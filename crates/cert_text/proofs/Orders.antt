-- A text that tells an order is a text of runs or a certificate, perhaps with a line above it.
use Rattle.std.proofs.Common.{◌≡◌, ℕ, ◌<◌, List, [], ◌∷◌, ◌++◌, length, refl, sym, subst, append_assoc, arith}
use Rattle.std.proofs.lemmas.List.{append-nil}
use Rattle.text_lines.specs.Text.{Begins}
use Rattle.migration_types.specs.declared.cert.Run.{Run}
use Rattle.migration_types.specs.declared.size.Size.TheVariants.{Large}
use Rattle.migration_types.specs.declared.version.Version.TheVariants.{Two}
use Rattle.migration_types.specs.Certs.{AreRuns}
use Rattle.cert_text.specs.Runs.{SpellsRuns}
use Rattle.migration_types.specs.inner.Widest.{are_widest}
use Rattle.cert_text.specs.Grammar.{SpellsCertRuns}
use Rattle.cert_text.specs.declared.forms.OrderForm.{OrderForm}
use Rattle.cert_text.specs.declared.forms.OrderForm.TheVariants.{Runs, Faulty, Cert, Clean}
use Rattle.cert_text.specs.Order.{SpellsAs, SpellsOrder}
use Rattle.cert_text.specs.inner.OrderHeld.{front_of, FrontFits}
use Rattle.cert_text.proofs.FirstLines.{mark_of, same_mark, first_is}

-- ---- from what tells the order to the whole text

-- the text of what tells the order, in a form
abbrev pub SpellsInner : OrderForm → List Run → List (List ℕ) → Type 0
SpellsInner Runs order lines = SpellsRuns order lines
SpellsInner (Faulty line reason) order lines = SpellsRuns order lines
SpellsInner Cert order lines = SpellsCertRuns order lines
SpellsInner Clean order lines = SpellsCertRuns order lines

pub order_of : (form : OrderForm) (order : List Run) (lines : List (List ℕ)) → FrontFits form → SpellsInner form order lines → SpellsOrder order (front_of form ++ lines)
order_of Runs order lines fits s = (Runs, s)
order_of (Faulty line reason) order lines fits s = (Faulty line reason, (fits, (lines, s, refl)))
order_of Cert order lines fits s = (Cert, s)
order_of Clean order lines fits s = (Clean, (lines, s, refl))

front_onto : (form : OrderForm) (a b : List (List ℕ)) → (front_of form ++ a) ++ b ≡ front_of form ++ (a ++ b)
front_onto Runs a b = refl
front_onto (Faulty line reason) a b = refl
front_onto Cert a b = refl
front_onto Clean a b = refl

pub begins_in : (form : OrderForm) (lines : List (List ℕ)) → FrontFits form → Begins (SpellsInner form) lines → Begins SpellsOrder (front_of form ++ lines)
begins_in form lines fits b = (b.0, b.1, subst (SpellsOrder b.0) (sym (front_onto form lines b.1)) (order_of form b.0 (lines ++ b.1) fits b.2))

-- ---- and back

-- a text of a form, of which the first line is that of another
inner_of_as : (f g : OrderForm) (order : List Run) (lines : List (List ℕ)) → mark_of f ≡ mark_of g → SpellsAs f order (front_of g ++ lines) → SpellsInner g order lines
inner_of_as Runs Runs order lines e s = s
inner_of_as Cert Cert order lines e s = s
inner_of_as (Faulty n why) (Faulty m reason) order lines e s = let whole = s.1.2 in let same : s.1.0 ≡ lines = cc in subst (SpellsRuns order) same s.1.1
inner_of_as Clean Clean order lines e s = let whole = s.2 in let same : s.0 ≡ lines = cc in subst (SpellsCertRuns order) same s.1
inner_of_as Runs (Faulty m reason) order lines e s = absurd (omega (arith, e))
inner_of_as Runs Cert order lines e s = absurd (omega (arith, e))
inner_of_as Runs Clean order lines e s = absurd (omega (arith, e))
inner_of_as (Faulty n why) Runs order lines e s = absurd (omega (arith, e))
inner_of_as (Faulty n why) Cert order lines e s = absurd (omega (arith, e))
inner_of_as (Faulty n why) Clean order lines e s = absurd (omega (arith, e))
inner_of_as Cert Runs order lines e s = absurd (omega (arith, e))
inner_of_as Cert (Faulty m reason) order lines e s = absurd (omega (arith, e))
inner_of_as Cert Clean order lines e s = absurd (omega (arith, e))
inner_of_as Clean Runs order lines e s = absurd (omega (arith, e))
inner_of_as Clean (Faulty m reason) order lines e s = absurd (omega (arith, e))
inner_of_as Clean Cert order lines e s = absurd (omega (arith, e))

-- some text of a form begins with lines of which the first is there
first_of_some : (f g : OrderForm) (v w : List Run) (lines a b : List (List ℕ)) → 0 < length lines → SpellsAs f v (lines ++ a) → SpellsAs g w (lines ++ b) → mark_of f ≡ mark_of g
first_of_some f g v w [] a b some s t = absurd (omega arith)
first_of_some f g v w (line ∷ lines) a b some s t = same_mark f g line (first_is f v line (lines ++ a) s) (first_is g w line (lines ++ b) t)

-- what an order's text has below the line above it, where some text of the form begins with its first lines
back_in : (form : OrderForm) (v w : List Run) (lines a b : List (List ℕ)) → 0 < length (front_of form ++ lines) → SpellsAs form v ((front_of form ++ lines) ++ a) → SpellsOrder w ((front_of form ++ lines) ++ b) → SpellsInner form w (lines ++ b)
back_in form v w lines a b some s t =
    inner_of_as t.0 form w (lines ++ b) (first_of_some t.0 form w v (front_of form ++ lines) b a some t.1 s) (subst (SpellsAs t.0 w) (front_onto form lines b) t.1)

as_of : (form : OrderForm) (order : List Run) (lines : List (List ℕ)) → FrontFits form → SpellsInner form order lines → SpellsAs form order (front_of form ++ lines)
as_of Runs order lines fits s = s
as_of (Faulty line reason) order lines fits s = (fits, (lines, s, refl))
as_of Cert order lines fits s = s
as_of Clean order lines fits s = (lines, s, refl)

as_begun : (form : OrderForm) (lines : List (List ℕ)) → FrontFits form → (b : Begins (SpellsInner form) lines) → SpellsAs form b.0 ((front_of form ++ lines) ++ b.1)
as_begun form lines fits b = subst (SpellsAs form b.0) (sym (front_onto form lines b.1)) (as_of form b.0 (lines ++ b.1) fits b.2)

pub begins_back : (form : OrderForm) (lines more : List (List ℕ)) → FrontFits form → 0 < length (front_of form ++ lines) → Begins (SpellsInner form) lines → Begins SpellsOrder ((front_of form ++ lines) ++ more) → Begins (SpellsInner form) (lines ++ more)
begins_back form lines more fits some b o =
    let whole = subst (SpellsOrder o.0) (append_assoc (front_of form ++ lines) more o.1) o.2 in
    let inner = back_in form b.0 o.0 lines b.1 (more ++ o.1) some (as_begun form lines fits b) whole in
    (o.0, o.1, subst (SpellsInner form o.0) (sym (append_assoc lines more o.1)) inner)

pub spells_back : (form : OrderForm) (order : List Run) (lines : List (List ℕ)) → FrontFits form → 0 < length (front_of form ++ lines) → Begins (SpellsInner form) lines → SpellsOrder order (front_of form ++ lines) → SpellsInner form order lines
spells_back form order lines fits some b s =
    subst (SpellsInner form order) (append-nil lines)
    (back_in form b.0 order lines b.1 [] some (as_begun form lines fits b) (subst (SpellsOrder order) (sym (append-nil (front_of form ++ lines))) s))

-- ---- an order is within the limits of the second version and of the large size

of_cert : (order : List Run) (lines : List (List ℕ)) → SpellsCertRuns order lines → AreRuns Two Large order
of_cert order lines s = subst (AreRuns Two Large) (sym s.2) (are_widest s.0.version s.0.size s.0.runs s.1.0.runs)

of_form : (form : OrderForm) (order : List Run) (lines : List (List ℕ)) → SpellsAs form order lines → AreRuns Two Large order
of_form Runs order lines s = s.0
of_form (Faulty line reason) order lines s = s.1.1.0
of_form Cert order lines s = of_cert order lines s
of_form Clean order lines s = of_cert order s.0 s.1

pub keeps_limits : (order : List Run) (lines : List (List ℕ)) → SpellsOrder order lines → AreRuns Two Large order
keeps_limits order lines s = of_form s.0 order lines s.1
