-- What was there stays in front of what is appended.
use Rattle.std.proofs.Common.{◌≡◌, ◌∙◌, ℕ, List, [], ◌++◌, ap, sym, append_assoc, append-nil}
use Rattle.std.specs.Prelude.{Result, Ok, Err, OnOk}
use Rattle.session_commands.specs.Telling.{Extends}

pub ok_extends : {V E : Type 0} (r : Result V E) (xs ys zs : List ℕ) → OnOk r (zs ≡ xs ++ ys) → OnOk r (Extends xs zs)
ok_extends (Ok v) xs ys zs e = (ys, e)
ok_extends (Err fault) xs ys zs e = tt

pub extends_same : (xs : List ℕ) → Extends xs xs
extends_same xs = ([], sym (append-nil xs))

pub extends_more : (xs ys zs : List ℕ) → Extends xs ys → Extends ys zs → Extends xs zs
extends_more xs ys zs (more, e) (yet, f) = (more ++ yet, f ∙ ap (λ (l : List ℕ). l ++ yet) e ∙ append_assoc xs more yet)
