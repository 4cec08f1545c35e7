use Rattle.std.proofs.Common.{sym, ap, ◌∙◌, ◌++◌, ◌∷◌, []}
use Rattle.recordings.specs.Wide.{guest_of}
use Rattle.audit_model.specs.Windows.{keeps_miss}
use Rattle.windows.specs.Pages.{numbers_of}
use Rattle.windows.specs.inner.Guided.{guest_marks, guest_by, further_by}
use Rattle.windows.proofs.Lists.{map_more, marks_end, far_end}
use Rattle.windows.proofs.marking.GuestMarks.note.Goals as goal

pub returns : goal.returns
returns c = λ log f. record {
  misses = map_more (keeps_miss (numbers_of c.args.guide.now.window)) log (guest_of c.args.rec.now) _ _ _ f.misses c.keeps_miss-misses.ensures c.in_ok-note.ensures;
  kept = c.in_ok-note-2.ensures
      ∙ ap (λ ms. ms ++ c.keeps_guest-keep.result ∷ []) f.kept
      ∙ ap (λ b. guest_marks (numbers_of c.args.guide.now.window) c.args.guide.now.known 0 log ++ b ∷ []) (c.keeps_guest-keep.ensures ∙ ap (λ far. guest_by (numbers_of c.args.guide.now.window) c.args.guide.now.known far (guest_of c.args.rec.now)) f.far)
      ∙ sym (marks_end (numbers_of c.args.guide.now.window) c.args.guide.now.known 0 log (guest_of c.args.rec.now));
  far = c.further-self.ensures
      ∙ ap (further_by c.args.guide.now.known (guest_of c.args.rec.now)) f.far
      ∙ sym (far_end c.args.guide.now.known 0 log (guest_of c.args.rec.now));
}
