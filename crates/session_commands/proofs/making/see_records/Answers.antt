use Rattle.std.proofs.Common.{arith}
use Rattle.session_commands.proofs.Counts.{within}
use Rattle.session_commands.proofs.making.see_records.Goals as goal

pub returns : goal.returns
returns g c =
    let w = c.in_ok-has_all.ensures in
    let judged = c.in_ok-front.ensures w.0.s w.0.met.0 in
    record {
      s = w.0.s;
      made = w.0.made;
      met = w.0.met.1;
      written = judged.0;
      form = c.form_of-form.ensures w.0.s w.0.met.0;
      whole = λ none.
          let told = judged.1 none in (
            told.0,
            record {
              all = λ log. omega (arith, within w.0.s c.in_ok-front.front judged.0 log, told.1.1 log);
              no_hole = w.1.0 told.1.0;
              some = told.1.2;
            },
          );
    }
