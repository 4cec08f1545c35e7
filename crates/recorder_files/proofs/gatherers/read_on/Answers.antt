use Rattle.std.proofs.Common.{◌≡◌, [], Some, None, true, get_or, slice_get, subst, arith}
use Rattle.std.proofs.lemmas.Option.{slice_get-get_or}
use Rattle.recorder_files.specs.Said.{Standing}
use Rattle.recorder_files.specs.Logs.{IsAt}
use Rattle.recorder_files.proofs.Gathering.{are_read_on}
use Rattle.recorder_files.proofs.gatherers.read_on.Goals as goal

pub returns-in-Ok-clause-read : goal.returns-in-Ok-clause-read
returns-in-Ok-clause-read g c = λ party knowns takens low before after at pending done others.
    let files = c.args.files.now in
    let s : Standing = get_or files c.args.i c.index-files-i.result in
    are_read_on party knowns files c.args.heads.now takens low before after c.args.i s c.next.new.self c.in-Ok.head at pending done others (slice_get-get_or files c.args.i c.index-files-i.result c.requires.files) c.next.ensures.head.1 c.in-Ok.ensures.taken

pub returns-in-Err-clause-refused : goal.returns-in-Err-clause-refused
returns-in-Err-clause-refused g c = λ party knowns takens low before at pending gathering log.
    let i = c.args.i in
    let files = c.args.files.now in
    let heads = c.args.heads.now in
    let s : Standing = get_or files i c.index-files-i.result in
    let found : slice_get files i ≡ Some s = slice_get-get_or files i c.index-files-i.result c.requires.files in
    let known = get_or knowns i None in
    let is_known : slice_get knowns i ≡ Some known = slice_get-get_or knowns i None (omega (arith, at.many_knowns, c.requires.files)) in
    let taken = get_or takens i [] in
    let is_taken : slice_get takens i ≡ Some taken = slice_get-get_or takens i [] (omega (arith, at.many_takens, c.requires.files)) in
    let head = get_or heads i None in
    let is_head : slice_get heads i ≡ Some head = slice_get-get_or heads i None c.requires.heads in
    let was : IsAt party known s head taken low true = subst (IsAt party known s head taken low) pending (at.each i known s head taken is_known found is_head is_taken) in
    (known, is_known, c.in-Err.ensures.refused party known taken was.0)
