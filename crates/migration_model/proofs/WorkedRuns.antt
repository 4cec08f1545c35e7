-- Worked runs, computed.
use Rattle.std.proofs.Common.{◌≡◌, [], ◌∷◌, Option, Some, None, false, refl, arith, true}
use Rattle.std.specs.Prelude.{take}
use Rattle.std.specs.List.{AllByRecursion}
use Rattle.migration_model.specs.Events.{run, start}
use Rattle.migration_model.specs.Books.{IsScript, Recording}
use Rattle.migration_model.specs.Promise.{SomeRunIsDone}
use Rattle.migration_model.specs.Worked.{ComesOut, offers, run_of_one, run_of_two, small_source, source_calls, source_offers, source_records, woken_next, worked_runs}

pub runs_come_out : AllByRecursion ComesOut worked_runs
runs_come_out = (refl, (refl, (refl, (refl, tt))))

pub woken_of_two : woken_next (run (take 17 run_of_two.events) (start run_of_two.script)) ≡ 0 ∷ 1 ∷ []
woken_of_two = refl

pub source_worked : offers source_calls small_source ≡ (source_offers, source_records)
source_worked = refl

pub fits_of_one : IsScript run_of_one.script
fits_of_one = record {
  geometry = record { some_pages = omega arith; few_pages = omega arith; some_cells = omega arith; few_cells = omega arith; few_in_all = omega arith; own = record { pages = omega arith; cells = omega arith } };
  small = refl;
  init = record { each = tt; rising = λ k lt. absurd (omega (arith, lt)) };
  lane = λ is. absurd (let e : false ≡ true = is in cc);
  few_vcpus = omega arith;
  vcpus = (record { before_move = (omega arith, tt); after_move = ((omega arith, omega arith), tt) }, tt);
}

-- the machine that a run leads to
abbrev reached : Option Recording → Recording
reached None = start run_of_one.script
reached (Some m) = m

pub some_run_is_done : SomeRunIsDone
some_run_is_done = record {
  core = reached (run run_of_one.events (start run_of_one.script));
  is_reached = record { script = run_of_one.script; fits = fits_of_one; events = run_of_one.events; runs = refl };
  place = 7;
  done = refl;
}
