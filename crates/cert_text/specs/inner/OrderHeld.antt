-- The lines that a reader of orders holds: those of a text of runs or of a certificate, and perhaps one line above
-- them.
use Rattle.std.specs.Prelude.{◌≡◌, ℕ, ◌<◌, Bool, true, false, List, [], ◌∷◌, ◌++◌, length}
use Rattle.migration_types.specs.declared.version.Version.{Version}
use Rattle.migration_types.specs.declared.size.Size.{Size}
use Rattle.migration_types.specs.Limits.{HasSize}
use Rattle.cert_text.specs.Runs.{runs_text_header}
use Rattle.cert_text.specs.Grammar.{header}
use Rattle.cert_text.specs.declared.forms.OrderForm.{OrderForm}
use Rattle.cert_text.specs.declared.forms.OrderForm.TheVariants.{Runs, Faulty, Cert, Clean}
use Rattle.cert_text.specs.Order.{clean_line, faulty_line, IsLineNumber}

-- ---- the first line

abbrev pub IsCertHeader : List ℕ → Type 0
IsCertHeader line = (version : Version) × (size : Size) × HasSize version size × (line ≡ header version size)

-- texts of this form begin with this line
abbrev pub IsFirst : OrderForm → List ℕ → Type 0
IsFirst Runs line = line ≡ runs_text_header
IsFirst (Faulty n reason) line = IsLineNumber n × (line ≡ faulty_line n reason)
IsFirst Cert line = IsCertHeader line
IsFirst Clean line = line ≡ clean_line

-- ---- the lines so far

-- whether a text of runs gives the order
abbrev pub has_runs : OrderForm → Bool
has_runs Runs = true
has_runs (Faulty line reason) = true
has_runs Cert = false
has_runs Clean = false

-- whether the first line of a report comes before it
abbrev pub has_front : OrderForm → Bool
has_front Runs = false
has_front (Faulty line reason) = true
has_front Cert = false
has_front Clean = true

-- the line above
abbrev pub front_of : OrderForm → List (List ℕ)
front_of Runs = []
front_of (Faulty line reason) = faulty_line line reason ∷ []
front_of Cert = []
front_of Clean = clean_line ∷ []

-- the lines of the text that gives the order, and those of the other reader
abbrev pub inner_of : OrderForm → List (List ℕ) → List (List ℕ) → List (List ℕ)
inner_of Runs runs cert = runs
inner_of (Faulty line reason) runs cert = runs
inner_of Cert runs cert = cert
inner_of Clean runs cert = cert

abbrev pub other_of : OrderForm → List (List ℕ) → List (List ℕ) → List (List ℕ)
other_of Runs runs cert = cert
other_of (Faulty line reason) runs cert = cert
other_of Cert runs cert = runs
other_of Clean runs cert = runs

-- the line above gives a line's number
abbrev pub FrontFits : OrderForm → Type 0
FrontFits Runs = Unit {0}
FrontFits (Faulty line reason) = IsLineNumber line
FrontFits Cert = Unit {0}
FrontFits Clean = Unit {0}

abbrev pub held_in : OrderForm → List (List ℕ) → List (List ℕ) → List (List ℕ)
held_in form runs cert = front_of form ++ inner_of form runs cert

-- the first line was read
pub record LiveIn (form : OrderForm) (runs cert : List (List ℕ)) : Type 0 where
  pub front : FrontFits form
  pub begun : 0 < length (held_in form runs cert)
  pub other : other_of form runs cert ≡ []

-- the lines so far: none, or those of a form
abbrev pub held_by : Bool → OrderForm → List (List ℕ) → List (List ℕ) → List (List ℕ)
held_by false form runs cert = []
held_by true form runs cert = held_in form runs cert

abbrev pub LiveBy : Bool → OrderForm → List (List ℕ) → List (List ℕ) → Type 0
LiveBy false form runs cert = (runs ≡ []) × (cert ≡ [])
LiveBy true form runs cert = LiveIn form runs cert
