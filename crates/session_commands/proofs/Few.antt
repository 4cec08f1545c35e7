-- How many records the logs have in a front.
use Rattle.std.proofs.Common.{ℕ, ◌≤◌, ◌⊎◌, inl, inr}
use Rattle.migration_types.specs.declared.records.LogName.{LogName}
use Rattle.migration_types.specs.declared.records.LogName.TheVariants.{Guest, Source, Link, Lane, Pager}
use Rattle.recorder_files.specs.Fronts.{cursors_of}
use Rattle.recorder_files.specs.declared.fronts.Front.{Front}

pub few_each : (f : Front) (most : ℕ) → f.guest ≤ most → f.source ≤ most → f.link ≤ most → f.lane ≤ most → f.pager ≤ most → (log : LogName) → cursors_of f log ≤ most
few_each f most guest source link lane pager Guest = guest
few_each f most guest source link lane pager Source = source
few_each f most guest source link lane pager Link = link
few_each f most guest source link lane pager Lane = lane
few_each f most guest source link lane pager Pager = pager

pub few_all : (f : Front) (most : ℕ) → ((log : LogName) → cursors_of f log ≤ most) → (f.guest ≤ most) × (f.source ≤ most) × (f.link ≤ most) × (f.lane ≤ most) × (f.pager ≤ most)
few_all f most few = (few Guest, few Source, few Link, few Lane, few Pager)

pub right_of : {A B : Type 0} → (A → ⊥) → A ⊎ B → B
right_of not_left (inl left) = absurd (not_left left)
right_of not_left (inr right) = right
