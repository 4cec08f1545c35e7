use Rattle.std.proofs.Common.{arith, refl, rules}
use Rattle.migration_types.specs.declared.size.Size.TheVariants.{Large}
use Rattle.session_commands.proofs.making.know.Goals as goal

pub see-requires-clause-machine : goal.see-requires-clause-machine
see-requires-clause-machine g c = let machine = c.in_ok-description.ensures.machine Large in first_of (search (rules, machine), grind (arith, machine))

pub returns : goal.returns
returns g c =
    let h = c.in_ok-seen.ensures in (
      record {
        chosen = record {
          described = record { d = c.in_ok-description.description; describe = c.in_ok-description.ensures.described; pages = refl; cells = refl; init = refl };
          seen = h.s;
          made = h.made;
          written = h.written;
          form = h.form;
        };
        whole = λ none.
            let seen = h.whole none in
            let files = (c.in_ok-expected.ensures seen.0).1 in
            record { has_all = files.0; no_hole = files.1; lane = files.2; leaves = seen.1 };
      },
      h.met,
    )
