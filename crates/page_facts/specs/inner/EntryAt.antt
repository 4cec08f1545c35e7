-- Whether the entry of a page is right.
use Rattle.std.specs.Prelude.{◌≡◌, ℕ, ◌↔◌, Bool, IsTrue, List, Some, slice_get}
use Rattle.migration_types.specs.declared.cert.Entry.{Entry}
use Rattle.migration_types.specs.Sessions.{Recorded}
use Rattle.audit_model.specs.Certificates.{IsRightEntry}

-- the answer says whether the page's entry is right
abbrev pub IsRightAt : Recorded → List Entry → ℕ → Bool → Type 0
IsRightAt s entries page right = (entry : Entry) → slice_get entries page ≡ Some entry → (IsTrue right ↔ IsRightEntry s page entry)
