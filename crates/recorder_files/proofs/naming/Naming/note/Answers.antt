use Rattle.std.proofs.Common.{◌∙◌, sym}
use Rattle.migration_types.specs.declared.records.LogName.TheVariants.{Guest, Source, Link, Lane, Pager}
use Rattle.recorder_files.proofs.Visits.{met_record}
use Rattle.recorder_files.proofs.naming.Naming.note.Goals as goal

pub returns-in_ok-note-in-Guest : goal.returns-in_ok-note-in-Guest
returns-in_ok-note-in-Guest c = λ d is. met_record c.args.self.now c.note.new.self d c.args.rec.now c.named_by-named.result Guest (sym c.in-Guest.is ∙ c.log.ensures) c.named_by-named.ensures is c.in_ok-note-in-Guest.ensures

pub returns-in_ok-note-in-Source : goal.returns-in_ok-note-in-Source
returns-in_ok-note-in-Source c = λ d is. met_record c.args.self.now c.note-in-Source.new.self d c.args.rec.now c.named_by-named.result Source (sym c.in-Source.is ∙ c.log.ensures) c.named_by-named.ensures is c.in_ok-note-in-Source.ensures

pub returns-in_ok-note-in-Link : goal.returns-in_ok-note-in-Link
returns-in_ok-note-in-Link c = λ d is. met_record c.args.self.now c.note-in-Link.new.self d c.args.rec.now c.named_by-named.result Link (sym c.in-Link.is ∙ c.log.ensures) c.named_by-named.ensures is c.in_ok-note-in-Link.ensures

pub returns-in_ok-note-in-Lane : goal.returns-in_ok-note-in-Lane
returns-in_ok-note-in-Lane c = λ d is. met_record c.args.self.now c.note-in-Lane.new.self d c.args.rec.now c.named_by-named.result Lane (sym c.in-Lane.is ∙ c.log.ensures) c.named_by-named.ensures is c.in_ok-note-in-Lane.ensures

pub returns-in_ok-note-in-Pager : goal.returns-in_ok-note-in-Pager
returns-in_ok-note-in-Pager c = λ d is. met_record c.args.self.now c.note-in-Pager.new.self d c.args.rec.now c.named_by-named.result Pager (sym c.in-Pager.is ∙ c.log.ensures) c.named_by-named.ensures is c.in_ok-note-in-Pager.ensures
