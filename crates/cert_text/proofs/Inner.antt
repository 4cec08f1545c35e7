-- What is known of a text of runs, or of a certificate, is known of the text that tells its order.
use Rattle.std.proofs.Common.{◌≡◌, ℕ, ◌+◌, ◌<◌, ◌^◌, List, [], ◌∷◌, ◌++◌, length, map, refl, sym, ap, subst, length-append, arith}
use Rattle.std.specs.Prelude.{◌≢◌, Bool, true, false, Option, Some, None, Result, Ok, Err, IfSome, IfNone, IfErr}
use Rattle.text_lines.specs.declared.FaultKind.{FaultKind}
use Rattle.text_lines.specs.declared.FaultKind.TheVariants.{Memory}
use Rattle.std.proofs.lemmas.List.{length-map}
use Rattle.text_lines.specs.Text.{Begins}
use Rattle.migration_types.specs.declared.cert.Run.{Run}
use Rattle.cert_text.specs.Runs.{SpellsRuns, runs_lines, run_line, closing}
use Rattle.cert_text.specs.Grammar.{entry_lines, SpellsCertRuns}
use Rattle.migration_types.specs.inner.Widest.{few_runs}
use Rattle.cert_text.proofs.EntryLaws.{entries_length}
use Rattle.cert_text.specs.declared.forms.OrderForm.{OrderForm}
use Rattle.cert_text.specs.declared.forms.OrderForm.TheVariants.{Runs, Faulty, Cert, Clean}
use Rattle.cert_text.specs.Order.{SpellsOrder}
use Rattle.cert_text.specs.inner.OrderHeld.{has_runs, inner_of, held_in, LiveIn, held_by, LiveBy}
use Rattle.cert_text.proofs.Orders.{SpellsInner, begins_in, begins_back, spells_back, order_of}

-- ---- what both readers know

inner_begins : (form : OrderForm) (runs cert : List (List ℕ)) → Begins SpellsRuns runs → Begins SpellsCertRuns cert → Begins (SpellsInner form) (inner_of form runs cert)
inner_begins Runs runs cert b d = b
inner_begins (Faulty line reason) runs cert b d = b
inner_begins Cert runs cert b d = d
inner_begins Clean runs cert b d = d

pub held_begins : (begun : Bool) (form : OrderForm) (runs cert : List (List ℕ)) → LiveBy begun form runs cert → Begins SpellsRuns runs → Begins SpellsCertRuns cert → Begins SpellsOrder (held_by begun form runs cert)
held_begins true form runs cert live b d = begins_in form (inner_of form runs cert) live.front (inner_begins form runs cert b d)
held_begins false form runs cert live b d = (b.0, runs ++ b.1, (Runs, b.2))

runs_few : (order : List Run) (lines : List (List ℕ)) → SpellsRuns order lines → length lines < 2 ^ 31
runs_few order lines s =
    let few = s.0.few in
    omega (arith, ap (λ (t : List (List ℕ)). length t) s.1, length-append (map run_line order) (closing ∷ []), length-map order run_line)

cert_few : (order : List Run) (lines : List (List ℕ)) → SpellsCertRuns order lines → length lines < 2 ^ 31
cert_few order lines s =
    let c = s.0 in
    let pages = s.1.0.few_pages in
    let few = few_runs c.version c.size (length c.runs) s.1.0.runs.few in
    omega (arith, ap (λ (t : List (List ℕ)). length t) s.1.1, length-append (entry_lines 0 c.entries) (runs_lines c.runs), entries_length 0 c.entries, length-append (map run_line c.runs) (closing ∷ []), length-map c.runs run_line)

begun_few : (Spells : List Run → List (List ℕ) → Type 0) (lines : List (List ℕ)) → ((order : List Run) (all : List (List ℕ)) → Spells order all → length all < 2 ^ 31) → Begins Spells lines → length lines < 2 ^ 31
begun_few Spells lines few b = omega (arith, few b.0 (lines ++ b.1) b.2, length-append lines b.1)

pub held_few : (begun : Bool) (form : OrderForm) (runs cert : List (List ℕ)) → Begins SpellsRuns runs → Begins SpellsCertRuns cert → length (held_by begun form runs cert) + 1 < 2 ^ 32
held_few false form runs cert b d = omega arith
held_few true Runs runs cert b d = omega (arith, begun_few SpellsRuns runs runs_few b)
held_few true (Faulty line reason) runs cert b d = omega (arith, begun_few SpellsRuns runs runs_few b)
held_few true Cert runs cert b d = omega (arith, begun_few SpellsCertRuns cert cert_few d)
held_few true Clean runs cert b d = omega (arith, begun_few SpellsCertRuns cert cert_few d)

-- ---- one more line, or some

from_runs : (form : OrderForm) (lines : List (List ℕ)) → has_runs form ≡ true → Begins (SpellsInner form) lines → Begins SpellsRuns lines
from_runs Runs lines is b = b
from_runs (Faulty line reason) lines is b = b
from_runs Cert lines is b = absurd cc
from_runs Clean lines is b = absurd cc

from_cert : (form : OrderForm) (lines : List (List ℕ)) → has_runs form ≡ false → Begins (SpellsInner form) lines → Begins SpellsCertRuns lines
from_cert Cert lines is b = b
from_cert Clean lines is b = b
from_cert Runs lines is b = absurd cc
from_cert (Faulty line reason) lines is b = absurd cc

to_runs : (form : OrderForm) (lines : List (List ℕ)) → has_runs form ≡ true → Begins SpellsRuns lines → Begins (SpellsInner form) lines
to_runs Runs lines is b = b
to_runs (Faulty line reason) lines is b = b
to_runs Cert lines is b = absurd cc
to_runs Clean lines is b = absurd cc

to_cert : (form : OrderForm) (lines : List (List ℕ)) → has_runs form ≡ false → Begins SpellsCertRuns lines → Begins (SpellsInner form) lines
to_cert Cert lines is b = b
to_cert Clean lines is b = b
to_cert Runs lines is b = absurd cc
to_cert (Faulty line reason) lines is b = absurd cc

inner_runs : (form : OrderForm) (runs cert : List (List ℕ)) → has_runs form ≡ true → inner_of form runs cert ≡ runs
inner_runs Runs runs cert is = refl
inner_runs (Faulty line reason) runs cert is = refl
inner_runs Cert runs cert is = absurd cc
inner_runs Clean runs cert is = absurd cc

inner_cert : (form : OrderForm) (runs cert : List (List ℕ)) → has_runs form ≡ false → inner_of form runs cert ≡ cert
inner_cert Cert runs cert is = refl
inner_cert Clean runs cert is = refl
inner_cert Runs runs cert is = absurd cc
inner_cert (Faulty line reason) runs cert is = absurd cc

-- a line that no text of runs goes on with is refused
pub no_runs_line : (form : OrderForm) (runs cert : List (List ℕ)) (line : List ℕ) → has_runs form ≡ true → LiveIn form runs cert → Begins SpellsRuns runs → (Begins SpellsRuns (runs ++ line ∷ []) → ⊥) → Begins SpellsOrder (held_in form runs cert ++ line ∷ []) → ⊥
no_runs_line form runs cert line is live b stops o =
    let e = inner_runs form runs cert is in
    let more = begins_back form (inner_of form runs cert) (line ∷ []) live.front live.begun (to_runs form (inner_of form runs cert) is (subst (Begins SpellsRuns) (sym e) b)) o in
    stops (subst (λ (t : List (List ℕ)). Begins SpellsRuns (t ++ line ∷ [])) e (from_runs form (inner_of form runs cert ++ line ∷ []) is more))

pub no_cert_line : (form : OrderForm) (runs cert : List (List ℕ)) (line : List ℕ) → has_runs form ≡ false → LiveIn form runs cert → Begins SpellsCertRuns cert → (Begins SpellsCertRuns (cert ++ line ∷ []) → ⊥) → Begins SpellsOrder (held_in form runs cert ++ line ∷ []) → ⊥
no_cert_line form runs cert line is live b stops o =
    let e = inner_cert form runs cert is in
    let more = begins_back form (inner_of form runs cert) (line ∷ []) live.front live.begun (to_cert form (inner_of form runs cert) is (subst (Begins SpellsCertRuns) (sym e) b)) o in
    stops (subst (λ (t : List (List ℕ)). Begins SpellsCertRuns (t ++ line ∷ [])) e (from_cert form (inner_of form runs cert ++ line ∷ []) is more))

-- ---- the whole text

pub runs_tell : (begun : Bool) (form : OrderForm) (order : List Run) (runs cert : List (List ℕ)) → begun ≡ true → has_runs form ≡ true → LiveBy begun form runs cert → SpellsRuns order runs → SpellsOrder order (held_by begun form runs cert)
runs_tell false form order runs cert b is live s = absurd cc
runs_tell true Runs order runs cert b is live s = order_of Runs order runs tt s
runs_tell true (Faulty line reason) order runs cert b is live s = order_of (Faulty line reason) order runs live.front s
runs_tell true Cert order runs cert b is live s = absurd cc
runs_tell true Clean order runs cert b is live s = absurd cc

pub cert_tells : (begun : Bool) (form : OrderForm) (order : List Run) (runs cert : List (List ℕ)) → begun ≡ true → has_runs form ≡ false → LiveBy begun form runs cert → SpellsCertRuns order cert → SpellsOrder order (held_by begun form runs cert)
cert_tells false form order runs cert b is live s = absurd cc
cert_tells true Cert order runs cert b is live s = order_of Cert order cert tt s
cert_tells true Clean order runs cert b is live s = order_of Clean order cert tt s
cert_tells true Runs order runs cert b is live s = absurd cc
cert_tells true (Faulty line reason) order runs cert b is live s = absurd cc

spells_inner : (form : OrderForm) (order : List Run) (runs cert : List (List ℕ)) → LiveIn form runs cert → Begins SpellsRuns runs → Begins SpellsCertRuns cert → SpellsOrder order (held_in form runs cert) → SpellsInner form order (inner_of form runs cert)
spells_inner form order runs cert live b d s = spells_back form order (inner_of form runs cert) live.front live.begun (inner_begins form runs cert b d) s

pub no_cert_text : (begun : Bool) (form : OrderForm) (runs cert : List (List ℕ)) → begun ≡ true → has_runs form ≡ false → LiveBy begun form runs cert → Begins SpellsRuns runs → Begins SpellsCertRuns cert → ((order : List Run) → SpellsCertRuns order cert → ⊥) → (order : List Run) → SpellsOrder order (held_by begun form runs cert) → ⊥
no_cert_text false form runs cert e is live b d stops order s = absurd cc
no_cert_text true Cert runs cert e is live b d stops order s = stops order (spells_inner Cert order runs cert live b d s)
no_cert_text true Clean runs cert e is live b d stops order s = stops order (spells_inner Clean order runs cert live b d s)
no_cert_text true Runs runs cert e is live b d stops order s = absurd cc
no_cert_text true (Faulty line reason) runs cert e is live b d stops order s = absurd cc

-- ---- what the readers answer

pub runs_refuse : {A : Type 0} (form : OrderForm) (runs cert : List (List ℕ)) (line : List ℕ) (result : Result A FaultKind) → has_runs form ≡ true → LiveIn form runs cert → Begins SpellsRuns runs → IfErr result (λ kind. kind ≢ Memory → Begins SpellsRuns (runs ++ line ∷ []) → ⊥) → IfErr result (λ kind. kind ≢ Memory → Begins SpellsOrder (held_in form runs cert ++ line ∷ []) → ⊥)
runs_refuse form runs cert line (Ok x) is live b stops = tt
runs_refuse form runs cert line (Err kind) is live b stops = λ other. no_runs_line form runs cert line is live b (stops other)

pub cert_refuses : {A : Type 0} (form : OrderForm) (runs cert : List (List ℕ)) (line : List ℕ) (result : Result A FaultKind) → has_runs form ≡ false → LiveIn form runs cert → Begins SpellsCertRuns cert → IfErr result (λ kind. kind ≢ Memory → Begins SpellsCertRuns (cert ++ line ∷ []) → ⊥) → IfErr result (λ kind. kind ≢ Memory → Begins SpellsOrder (held_in form runs cert ++ line ∷ []) → ⊥)
cert_refuses form runs cert line (Ok x) is live b stops = tt
cert_refuses form runs cert line (Err kind) is live b stops = λ other. no_cert_line form runs cert line is live b (stops other)

pub runs_told : (begun : Bool) (form : OrderForm) (runs cert : List (List ℕ)) (result : Option (List Run)) → begun ≡ true → has_runs form ≡ true → LiveBy begun form runs cert → IfSome result (λ order. SpellsRuns order runs) → IfSome result (λ order. SpellsOrder order (held_by begun form runs cert))
runs_told begun form runs cert None b is live found = tt
runs_told begun form runs cert (Some order) b is live found = runs_tell begun form order runs cert b is live found

pub cert_told : (begun : Bool) (form : OrderForm) (runs cert : List (List ℕ)) (result : Option (List Run)) → begun ≡ true → has_runs form ≡ false → LiveBy begun form runs cert → IfSome result (λ order. SpellsCertRuns order cert) → IfSome result (λ order. SpellsOrder order (held_by begun form runs cert))
cert_told begun form runs cert None b is live found = tt
cert_told begun form runs cert (Some order) b is live found = cert_tells begun form order runs cert b is live found

pub no_cert_told : (begun : Bool) (form : OrderForm) (runs cert : List (List ℕ)) (result : Option (List Run)) → begun ≡ true → has_runs form ≡ false → LiveBy begun form runs cert → Begins SpellsRuns runs → Begins SpellsCertRuns cert → IfNone result ((order : List Run) → SpellsCertRuns order cert → ⊥) → IfNone result ((order : List Run) → SpellsOrder order (held_by begun form runs cert) → ⊥)
no_cert_told begun form runs cert None b is live p q none = no_cert_text begun form runs cert b is live p q none
no_cert_told begun form runs cert (Some order) b is live p q none = tt
