use Rattle.std.proofs.Common.{◌∙◌, ap}
use Rattle.std.proofs.lemmas.Result.{on_ok_weaker}
use Rattle.migration_types.specs.declared.records.LogName.TheVariants.{Guest, Source, Link, Lane, Pager}
use Rattle.recorder_files.specs.declared.lines.Party.TheVariants.{Of}
use Rattle.session_commands.proofs.Surveying.{taken}
use Rattle.session_commands.proofs.surveys.push_log.Goals as goal

pub returns-in-Guest : goal.returns-in-Guest
returns-in-Guest c = on_ok_weaker c.push_surveyed.result (taken c.args.file.now c.args.logs.now c.push_surveyed.new.log (Of Guest) c.as_str-path.result.now c.args.found (c.requires ∙ ap (λ log. Of log) c.in-Guest.is) c.as_str-path.ensures.value) c.push_surveyed.ensures

pub returns-in-Source : goal.returns-in-Source
returns-in-Source c = on_ok_weaker c.push_surveyed-in-Source.result (taken c.args.file.now c.args.logs.now c.push_surveyed-in-Source.new.log (Of Source) c.as_str-path.result.now c.args.found (c.requires ∙ ap (λ log. Of log) c.in-Source.is) c.as_str-path.ensures.value) c.push_surveyed-in-Source.ensures

pub returns-in-Link : goal.returns-in-Link
returns-in-Link c = on_ok_weaker c.push_surveyed-in-Link.result (taken c.args.file.now c.args.logs.now c.push_surveyed-in-Link.new.log (Of Link) c.as_str-path.result.now c.args.found (c.requires ∙ ap (λ log. Of log) c.in-Link.is) c.as_str-path.ensures.value) c.push_surveyed-in-Link.ensures

pub returns-in-Lane : goal.returns-in-Lane
returns-in-Lane c = on_ok_weaker c.push_surveyed-in-Lane.result (taken c.args.file.now c.args.logs.now c.push_surveyed-in-Lane.new.log (Of Lane) c.as_str-path.result.now c.args.found (c.requires ∙ ap (λ log. Of log) c.in-Lane.is) c.as_str-path.ensures.value) c.push_surveyed-in-Lane.ensures

pub returns-in-Pager : goal.returns-in-Pager
returns-in-Pager c = on_ok_weaker c.push_surveyed-in-Pager.result (taken c.args.file.now c.args.logs.now c.push_surveyed-in-Pager.new.log (Of Pager) c.as_str-path.result.now c.args.found (c.requires ∙ ap (λ log. Of log) c.in-Pager.is) c.as_str-path.ensures.value) c.push_surveyed-in-Pager.ensures
