-- The record that one that is met stands for, and what it needs.
use Rattle.std.proofs.Common.{◌≡◌, ◌<◌, ◌↔◌, ℕ, subst, sym}
use Rattle.migration_types.specs.Extents.{Extent}
use Rattle.migration_types.specs.Limits.{limits}
use Rattle.migration_types.specs.declared.size.Size.{Size}
use Rattle.migration_types.specs.declared.version.Version.{Version}
use Rattle.walked_sessions.specs.Made.{sized}
use Rattle.walked_sessions.specs.declared.needs.Needs.{Needs}
use Rattle.walked_sessions.specs.Needs.{AreNeeds}

-- this record is the one that it stands for, and needs this
abbrev pub IsFound : {W R : Type 0} → (W → R) → (Version → Extent → R → Type 0) → Extent → W → R → Needs → Type 0
IsFound record_of Fits machine w rec needs = (rec ≡ record_of w) × AreNeeds (λ version size. Fits version (sized size machine) (record_of w)) needs

-- what is needed for one thing is needed for another that is so where it is
pub needed : (IsSo Other : Version → Size → Type 0) (needs : Needs) → ((version : Version) (size : Size) → Other version size ↔ IsSo version size) → AreNeeds IsSo needs → AreNeeds Other needs
needed IsSo Other needs same h version size = (λ other. (h version size).0 ((same version size).0 other), λ allows. (same version size).1 ((h version size).1 allows))

-- one that any session of the machine may have
pub plain : {W R : Type 0} (record_of : W → R) (Fits : Version → Extent → R → Type 0) (machine : Extent) (w v : W) (rec : R) (needs : Needs) → w ≡ v → rec ≡ record_of v → ((version : Version) (size : Size) → Fits version (sized size machine) (record_of v)) → AreNeeds (λ version size. Unit {0}) needs → IsFound record_of Fits machine w rec needs
plain {W} record_of Fits machine w v rec needs is same fits h =
    subst (λ (x : W). IsFound record_of Fits machine x rec needs) (sym is) (same, needed (λ version size. Unit {0}) (λ version size. Fits version (sized size machine) (record_of v)) needs (λ version size. (λ f. tt, λ u. fits version size)) h)

-- one that names a record
pub named : {W R : Type 0} (record_of : W → R) (Fits : Version → Extent → R → Type 0) (machine : Extent) (w v : W) (rec : R) (needs : Needs) (IsSo : ℕ → Version → Size → Type 0) (number found : ℕ) → w ≡ v → rec ≡ record_of v → found ≡ number → ((version : Version) (size : Size) → Fits version (sized size machine) (record_of v) ↔ IsSo number version size) → AreNeeds (IsSo found) needs → IsFound record_of Fits machine w rec needs
named {W} record_of Fits machine w v rec needs IsSo number found is same at fits h =
    subst (λ (x : W). IsFound record_of Fits machine x rec needs) (sym is) (same, needed (IsSo number) (λ version size. Fits version (sized size machine) (record_of v)) needs fits (subst (λ (n : ℕ). AreNeeds (IsSo n) needs) at h))

-- a number of a record of a size, and of a record of a version that has a lane
abbrev pub IsBelow : ℕ → Version → Size → Type 0
IsBelow n version size = n < (limits size).records
