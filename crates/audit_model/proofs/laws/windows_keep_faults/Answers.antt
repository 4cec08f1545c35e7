use Rattle.audit_model.proofs.WindowFaults.{keeps_page_faults}
use Rattle.audit_model.proofs.WindowCovers.{windows_cover, clean_through, safe_through_windows, exactly_through_windows}
use Rattle.audit_model.proofs.WindowMergings.{merges_through}
use Rattle.audit_model.proofs.WindowShape.{keeps_both}
use Rattle.audit_model.proofs.WindowStarts.{right_through}
use Rattle.audit_model.proofs.laws.windows_keep_faults.Goals as goal

pub returns : goal.returns
returns c = record {
  kept = λ s number count ours. keeps_page_faults number ours s count;
  both = λ s number count. keeps_both number s count;
  clean = λ s number count ours. clean_through number ours s count;
  right = λ s number count ours. right_through number ours s count;
  merges = λ s number count shape. merges_through number s count shape;
  cover = windows_cover;
  safe = safe_through_windows;
  exactly = exactly_through_windows;
}
