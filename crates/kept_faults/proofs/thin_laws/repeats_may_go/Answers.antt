use Rattle.kept_faults.proofs.Repeats.{told_read_may_go, told_write_may_go, repeats_may_go}
use Rattle.kept_faults.proofs.thin_laws.repeats_may_go.Goals as goal

pub returns : goal.returns
returns c = record {
  reads = told_read_may_go;
  writes = told_write_may_go;
  all = repeats_may_go;
}
