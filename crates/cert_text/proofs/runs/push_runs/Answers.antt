use Rattle.std.proofs.Common.{◌++◌, length}
use Rattle.std.specs.Fmt.{decimal}
use Rattle.cert_text.specs.Runs.{runs_key, closing}
use Rattle.cert_text.proofs.Written.{closing_written}
use Rattle.cert_text.proofs.runs.push_runs.Goals as goal

pub returns : goal.returns
returns c =
    let runs = c.args.runs.now in
    closing_written c.args.out.now.items (runs_key ++ decimal (length runs)) closing runs c.push_counted.new.out.items c.push_line.new.out.items c.push_line.result c.in_ok-push_counted.ensures c.push_line.ensures
