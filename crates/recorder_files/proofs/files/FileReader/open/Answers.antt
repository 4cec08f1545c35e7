use Rattle.std.proofs.Common.{◌≡◌, ℕ, List, [], ◌++◌, length, take, drop, refl, sym, subst, arith}
use Rattle.std.specs.Prelude.{slice_range}
use Rattle.text_lines.specs.Text.{ended}
use Rattle.recorder_files.specs.Said.{head_onto}
use Rattle.recorder_files.specs.inner.Finding.{AreRead}
use Rattle.recorder_files.proofs.Telling.{buffer_back, to_left}
use Rattle.recorder_files.proofs.files.FileReader.open.Goals as goal

pub returns-in-Ok-Some-clause-opened : goal.returns-in-Ok-Some-clause-opened
returns-in-Ok-Some-clause-opened g c =
    let known = g.R.Read.remaining c.args.reader in
    let rest = g.R.Read.remaining c.take_head.new.reader in
    let head = c.in-Ok-Some.head in
    let new = c.take_head.new.buffer in
    let taken = rw c.in-Ok-Some.field-0-is at c.in-Ok-Some.ensures.taken in
    let lines = head_onto head.name.items head.opening [] in
    let full : length new ≡ c.in-Ok.buffer.len = omega (arith, c.take_head.ensures.len, c.as_mut_slice.ensures.len) in
    let whole : take c.in-Ok.buffer.len (new ++ drop (length new) c.in-Ok.buffer.items) ≡ new = buffer_back c.in-Ok.buffer.len new c.in-Ok.buffer.items full in
    let all = take c.in-Ok.buffer.len (new ++ drop (length new) c.in-Ok.buffer.items) in
    let read : AreRead known rest (slice_range all head.start head.end) lines = subst (λ (b : List ℕ). AreRead known rest (slice_range b head.start head.end) lines) (sym whole) taken.1 in
    record {
      head = taken.0;
      rise = c.from.ensures;
      line = refl;
      open_end = refl;
      written = read.written;
      consumed = to_left known rest (ended lines) (slice_range all head.start head.end) read.consumed;
    }
