-- The lines of a reader of orders.
use Rattle.std.specs.Prelude.{◌≡◌, Bool, List, ℕ}
use Rattle.cert_text.specs.declared.order_lines.OrderParts.{OrderParts}
use Rattle.cert_text.specs.inner.OrderHeld.{inner_of, other_of, held_by, LiveBy}

abbrev pub held_at : Bool → OrderParts → List (List ℕ)
held_at begun p = held_by begun p.form p.runs p.cert

abbrev pub inner_at : OrderParts → List (List ℕ)
inner_at p = inner_of p.form p.runs p.cert

abbrev pub LiveAt : Bool → OrderParts → Type 0
LiveAt begun p = LiveBy begun p.form p.runs p.cert

-- the form and the other reader's lines stay
abbrev pub StaysAt : OrderParts → OrderParts → Type 0
StaysAt old new = (new.form ≡ old.form) × (other_of new.form new.runs new.cert ≡ other_of old.form old.runs old.cert)
