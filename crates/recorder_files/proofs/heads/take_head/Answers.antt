use Rattle.std.proofs.lemmas.Result.{err_from_is_err_and}
use Rattle.recorder_files.proofs.heads.take_head.Goals as goal

pub returns-in_err-first-clause-refused : goal.returns-in_err-first-clause-refused
returns-in_err-first-clause-refused g c =
    let p = err_from_is_err_and c.from_residual.result c.from_residual.ensures.1 in
    rw (p.1, p.2) (c.in_err-first.ensures.refused c.args.party)

pub returns-in_err-name-clause-refused : goal.returns-in_err-name-clause-refused
returns-in_err-name-clause-refused g c =
    let known = g.R.Read.remaining c.args.reader.now in
    let first = rw c.in-Some.is at (c.in_ok-first.ensures.taken c.args.party) in
    let p = err_from_is_err_and c.from_residual-in_err-name.result c.from_residual-in_err-name.ensures.1 in
    rw (p.1, p.2) (c.in_err-name.ensures.refused c.args.party known first)

pub returns-in_err-opening-clause-refused : goal.returns-in_err-opening-clause-refused
returns-in_err-opening-clause-refused g c =
    let known = g.R.Read.remaining c.args.reader.now in
    let first = rw c.in-Some.is at (c.in_ok-first.ensures.taken c.args.party) in
    let second = rw c.in-Some-2.is at (c.in_ok-name.ensures.taken c.args.party known first) in
    let p = err_from_is_err_and c.from_residual-in_err-opening.result c.from_residual-in_err-opening.ensures.1 in
    rw (p.1, p.2) (c.in_err-opening.ensures.refused known c.in-Some-2.name.items second.0 second.1)

pub returns-in-Some-3-clause-taken : goal.returns-in-Some-3-clause-taken
returns-in-Some-3-clause-taken g c =
    let known = g.R.Read.remaining c.args.reader.now in
    let first = rw c.in-Some.is at (c.in_ok-first.ensures.taken c.args.party) in
    let second = rw c.in-Some-2.is at (c.in_ok-name.ensures.taken c.args.party known first) in
    rw c.in-Some-3.is at (c.in_ok-opening.ensures.taken known c.in-Some-2.name.items second.0 second.1)

pub returns-in-None-clause-taken : goal.returns-in-None-clause-taken
returns-in-None-clause-taken g c =
    let known = g.R.Read.remaining c.args.reader.now in
    let first = rw c.in-Some.is at (c.in_ok-first.ensures.taken c.args.party) in
    let second = rw c.in-Some-2.is at (c.in_ok-name.ensures.taken c.args.party known first) in
    rw c.in-None.is at (c.in_ok-opening.ensures.taken known c.in-Some-2.name.items second.0 second.1)
