-- What the records of a log name, and how many records of each log they need because of it.
use Rattle.std.specs.Prelude.{◌≡◌, ℕ, suc, nat_lt, List, [], ◌∷◌, length, map, Option, Some, None, if◌then◌else◌}
use Rattle.migration_types.specs.declared.records.LogName.{LogName}
use Rattle.migration_types.specs.declared.records.LogName.TheVariants.{Guest, Source, Link, Lane, Pager}
use Rattle.migration_types.specs.declared.rows.Field.{Field}
use Rattle.migration_types.specs.Receipts.{Name}
use Rattle.migration_types.specs.Rows.{field_name, guest_row, source_row, link_row, lane_row, pager_row}
use Rattle.migration_types.specs.Sessions.{Recorded}
use Rattle.audit_model.specs.Names.{same_log}
use Rattle.recorder_files.specs.declared.reach.Reach.{Reach}
use Rattle.recorder_files.specs.declared.steps.Step.{Step}
use Rattle.recorder_files.specs.declared.steps.Steps.{Steps}

-- the first name, or else the next
abbrev pub or_next : Option Name → Option Name → Option Name
or_next None next = next
or_next (Some name) next = Some name

-- the first record that the fields name
abbrev pub named_first : List Field → Option Name
named_first [] = None
named_first (f ∷ fields) = or_next (field_name f) (named_first fields)

-- what each record of a log names
abbrev pub names_in : Recorded → LogName → List (Option Name)
names_in s Guest = map (λ r. named_first (guest_row r).fields) s.guest
names_in s Source = map (λ r. named_first (source_row r).fields) s.source
names_in s Link = map (λ r. named_first (link_row r).fields) s.link
names_in s Lane = map (λ r. named_first (lane_row r).fields) s.lane
names_in s Pager = map (λ r. named_first (pager_row r).fields) s.pager

-- how many records of a log a record needs, if it names one of that log
abbrev pub need : LogName → Option Name → ℕ
need other None = 0
need other (Some (log, n)) = if same_log log other then suc n else 0

-- how many records of a log are needed in all, if this many were needed before
abbrev pub needed_on : LogName → ℕ → List (Option Name) → ℕ
needed_on other so_far [] = so_far
needed_on other so_far (named ∷ names) = needed_on other (if nat_lt so_far (need other named) then need other named else so_far) names

-- the records that need more than all before them, from a place on
abbrev pub steps_on : LogName → ℕ → ℕ → List (Option Name) → List Step
steps_on other so_far place [] = []
steps_on other so_far place (named ∷ names) =
    if nat_lt so_far (need other named) then record { needed = need other named; place = place } ∷ steps_on other (need other named) (suc place) names
    else steps_on other so_far (suc place) names

-- the steps of these records for another log
pub record AreSteps (steps : Steps) (other : LogName) (names : List (Option Name)) : Type 0 where
  pub needed : steps.needed ≡ needed_on other 0 names
  pub items : steps.steps.items ≡ steps_on other 0 0 names

-- the reach of these records
pub record IsReach (reach : Reach) (names : List (Option Name)) : Type 0 where
  pub count : reach.count ≡ length names
  pub guest : AreSteps reach.guest Guest names
  pub source : AreSteps reach.source Source names
  pub link : AreSteps reach.link Link names
  pub lane : AreSteps reach.lane Lane names
  pub pager : AreSteps reach.pager Pager names
