use Rattle.std.proofs.lemmas.Result.{on_ok_weaker}
use Rattle.windows.proofs.Lines.{written_guest, written_source, written_link, written_lane, written_pager}
use Rattle.windows.proofs.marking.Guide.write.Goals as goal

pub returns-in-Guest : goal.returns-in-Guest
returns-in-Guest c = λ d next w. on_ok_weaker c.write_in.result (written_guest _ _ _ _ d _ w _ c.in-Guest.field-0 c.in-Guest.is next) (c.write_in.ensures _ w.guest)

pub returns-in-Source : goal.returns-in-Source
returns-in-Source c = λ d next w. on_ok_weaker c.write_in-in-Source.result (written_source _ _ _ _ d _ w _ c.in-Source.field-0 c.in-Source.is next) (c.write_in-in-Source.ensures _ w.source)

pub returns-in-Link : goal.returns-in-Link
returns-in-Link c = λ d next w. on_ok_weaker c.write_in-in-Link.result (written_link _ _ _ _ d _ w _ c.in-Link.field-0 c.in-Link.is next) (c.write_in-in-Link.ensures _ w.link)

pub returns-in-Lane : goal.returns-in-Lane
returns-in-Lane c = λ d next w. on_ok_weaker c.write_in-in-Lane.result (written_lane _ _ _ _ d _ w _ c.in-Lane.field-0 c.in-Lane.is next) (c.write_in-in-Lane.ensures _ w.lane)

pub returns-in-Pager : goal.returns-in-Pager
returns-in-Pager c = λ d next w. on_ok_weaker c.write_in-in-Pager.result (written_pager _ _ _ _ d _ w _ c.in-Pager.field-0 c.in-Pager.is next) (c.write_in-in-Pager.ensures _ w.pager)
