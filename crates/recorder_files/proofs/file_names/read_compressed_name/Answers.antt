use Rattle.recorder_files.proofs.Endings.{if_none, not_ended}
use Rattle.recorder_files.proofs.file_names.read_compressed_name.Goals as goal

pub returns-clause-none : goal.returns-clause-none
returns-clause-none c = if_none c.name_before-6.result _ _ (λ last party whole named. not_ended c.args.name.now whole (c.in_default.ensures.none party whole named) (c.in_default-name_before.ensures.none party whole named) (c.in_default-name_before-2.ensures.none party whole named) (c.in_default-name_before-3.ensures.none party whole named) (c.in_default-name_before-4.ensures.none party whole named) (last party whole named)) c.name_before-6.ensures.none
