use Rattle.std.proofs.Common.{◌≡◌, [], None, false, length, sym, subst, arith}
use Rattle.std.proofs.lemmas.List.{with_items_is}
use Rattle.std.proofs.lemmas.Result.{err_from_is_err_and}
use Rattle.std.specs.Vec.{with_items}
use Rattle.recorder_files.specs.Logs.{AreAt, AreBegun, Came, nothing_of}
use Rattle.recorder_files.proofs.Gathering.{begins}
use Rattle.recorder_files.proofs.gatherers.Gatherer.new.Goals as goal

pub returns-in_err-read_first-clause-refused : goal.returns-in_err-read_first-clause-refused
returns-in_err-read_first-clause-refused g c =
    let p = err_from_is_err_and c.from_residual.result c.from_residual.ensures.1 in
    rw (p.1, p.2) (λ party knowns begun gathering log. c.in_err-read_first.ensures.refused party knowns (subst (AreBegun party knowns) (sym c.deref_mut.ensures.value) begun) gathering log)

pub returns-clause-begun : goal.returns-clause-begun
returns-clause-begun g c = λ party knowns begun.
    let was = c.deref_mut.result.now in
    let files = c.read_first.new.files in
    let heads = c.read_first.new.heads in
    let lent : AreBegun party knowns was = subst (AreBegun party knowns) (sym c.deref_mut.ensures.value) begun in
    let now : AreAt party knowns files heads (nothing_of was) 0 (λ _. false) = c.in_ok-read_first.ensures.read party knowns lent in
    let many_files : length files ≡ c.args.files.len = omega (arith, now.many_knowns, lent.many, c.deref_mut.ensures.len) in
    let many_heads : length heads ≡ c.in-Ok.heads.len = omega (arith, now.many_knowns, now.many_heads, lent.many, c.deref_mut.ensures.len, c.in-Ok.ensures.len) in
    let back_files : (with_items c.args.files files).items ≡ files = with_items_is c.args.files files many_files in
    let back_heads : (with_items c.in-Ok.heads heads).items ≡ heads = with_items_is c.in-Ok.heads heads many_heads in
    let after : Came party knowns (record { files = files; heads = heads; given = None; number = 0 }) [] = begins party knowns was files heads now in
    subst (λ fs. Came party knowns (record { files = fs; heads = (with_items c.in-Ok.heads heads).items; given = None; number = 0 }) []) (sym back_files) (subst (λ hs. Came party knowns (record { files = files; heads = hs; given = None; number = 0 }) []) (sym back_heads) after)
