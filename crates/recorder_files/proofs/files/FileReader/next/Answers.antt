use Rattle.std.proofs.Common.{◌≡◌, ◌≤◌, ℕ, ◌+◌, List, [], ◌∷◌, ◌++◌, length, take, drop, Option, Some, refl, sym, ap, subst, ◌∙◌, arith}
use Rattle.std.specs.Prelude.{slice_range}
use Rattle.std.specs.Io.KnownBytes.{prepend_known}
use Rattle.std.proofs.lemmas.Result.{err_from_is_err_and}
use Rattle.recorder_files.specs.Files.{record_line, last_line}
use Rattle.recorder_files.specs.Said.{CameTo, Says, Standing}
use Rattle.recorder_files.specs.declared.lines.Last.{Last}
use Rattle.recorder_files.specs.declared.pieces.Cut.{Cut}
use Rattle.recorder_files.specs.inner.Finding.{AreAll, AreRead, Takes}
use Rattle.recorder_files.proofs.Telling.{buffer_back, read_here, lines_so_far, said_so_far, long_so_far, ends_so_far, ends_with_last, out_of_order, no_line, more_fault, came_more, text_is}
use Rattle.recorder_files.proofs.files.FileReader.next.Goals as goal

pub returns-in_err-cut-clause-refused : goal.returns-in_err-cut-clause-refused
returns-in_err-cut-clause-refused g c =
    let p = err_from_is_err_and c.from_residual.result c.from_residual.ensures.1 in
    rw (p.1, p.2) (λ party known came ca.
    let remaining = g.R.Read.remaining in
    let inside = c.self.inside in
    let s : Standing = record { name = inside.name.items; opening = inside.opening; low = inside.low; line = inside.line; text = slice_range inside.buffer.items inside.text inside.text_end; last = inside.last; left = prepend_known (slice_range inside.buffer.items inside.start inside.end) (remaining inside.reader) } in
    let here : CameTo party known s came = subst (λ (x : Standing). CameTo party known x came) (sym c.self.view_is) ca in
    let lines = lines_so_far s came in
    let read = read_here party known (remaining inside.reader) s came inside.buffer.items c.as_mut_slice-buffer.result.now inside.start inside.end here refl c.as_mut_slice-buffer.ensures.value in
    long_so_far party known s came c.in_err-cut.field-0.0 here (c.in_err-cut.ensures.refused known lines read))

pub returns-in_default-clause-taken : goal.returns-in_default-clause-taken
returns-in_default-clause-taken g c = λ party known came ca.
    let remaining = g.R.Read.remaining in
    let inside = c.self.inside in
    let s : Standing = record { name = inside.name.items; opening = inside.opening; low = inside.low; line = inside.line; text = slice_range inside.buffer.items inside.text inside.text_end; last = inside.last; left = prepend_known (slice_range inside.buffer.items inside.start inside.end) (remaining inside.reader) } in
    let here : CameTo party known s came = subst (λ (x : Standing). CameTo party known x came) (sym c.self.view_is) ca in
    let lines = lines_so_far s came in
    let read = read_here party known (remaining inside.reader) s came inside.buffer.items c.as_mut_slice-buffer.result.now inside.start inside.end here refl c.as_mut_slice-buffer.ensures.value in
    let rest = remaining c.take_line.new.reader in
    let all : AreAll known lines = subst (λ (o : Option Cut). Takes known rest c.take_line.new.buffer lines o) c.in_default.is (c.in_ok-cut.ensures.taken known lines read) in
    subst (λ (l : Option Last). Says party known (Some (said_so_far s came l))) (sym here.open_end) (ends_so_far party known s came here all)

pub returns-then-number-self-clause-refused : goal.returns-then-number-self-clause-refused
returns-then-number-self-clause-refused g c = λ party known came ca.
    let remaining = g.R.Read.remaining in
    let inside = c.self.inside in
    let s : Standing = record { name = inside.name.items; opening = inside.opening; low = inside.low; line = inside.line; text = slice_range inside.buffer.items inside.text inside.text_end; last = inside.last; left = prepend_known (slice_range inside.buffer.items inside.start inside.end) (remaining inside.reader) } in
    let here : CameTo party known s came = subst (λ (x : Standing). CameTo party known x came) (sym c.self.view_is) ca in
    let lines = lines_so_far s came in
    let read = read_here party known (remaining inside.reader) s came inside.buffer.items c.as_mut_slice-buffer.result.now inside.start inside.end here refl c.as_mut_slice-buffer.ensures.value in
    let rest = remaining c.take_line.new.reader in
    let new = c.take_line.new.buffer in
    let cut = c.in-Some.cut in
    let taken : AreRead known rest (slice_range new (cut.end + 1) cut.held) (lines ++ slice_range new cut.start cut.end ∷ []) = subst (λ (o : Option Cut). Takes known rest new lines o) c.in-Some.is (c.in_ok-cut.ensures.taken known lines read) in
    let full : length new ≡ inside.buffer.len = omega (arith, c.take_line.ensures.len, c.as_mut_slice-buffer.ensures.len) in
    let whole : take inside.buffer.len (new ++ drop (length new) inside.buffer.items) ≡ new = buffer_back inside.buffer.len new inside.buffer.items full in
    let now = c.deref.result.now in
    let same : now ≡ new = c.deref.ensures.value ∙ whole in
    let line = slice_range now cut.start cut.end in
    let bytes = slice_range new (cut.end + 1) cut.held in
    let at_line : AreRead known rest bytes (lines ++ line ∷ []) = subst (λ (b : List ℕ). AreRead known rest bytes (lines ++ slice_range b cut.start cut.end ∷ [])) (sym same) taken in
    let found = c.in-Some-read_numbered.ensures.found in
    out_of_order party known rest s came bytes line c.in-Some-read_numbered.text.now c.in-Some-read_numbered.number here at_line found.1 found.0 c.if-number-self.true

pub returns-in_default-last_behind-clause-refused : goal.returns-in_default-last_behind-clause-refused
returns-in_default-last_behind-clause-refused g c = λ party known came ca.
    let remaining = g.R.Read.remaining in
    let inside = c.self.inside in
    let s : Standing = record { name = inside.name.items; opening = inside.opening; low = inside.low; line = inside.line; text = slice_range inside.buffer.items inside.text inside.text_end; last = inside.last; left = prepend_known (slice_range inside.buffer.items inside.start inside.end) (remaining inside.reader) } in
    let here : CameTo party known s came = subst (λ (x : Standing). CameTo party known x came) (sym c.self.view_is) ca in
    let lines = lines_so_far s came in
    let read = read_here party known (remaining inside.reader) s came inside.buffer.items c.as_mut_slice-buffer.result.now inside.start inside.end here refl c.as_mut_slice-buffer.ensures.value in
    let rest = remaining c.take_line.new.reader in
    let new = c.take_line.new.buffer in
    let cut = c.in-Some.cut in
    let taken : AreRead known rest (slice_range new (cut.end + 1) cut.held) (lines ++ slice_range new cut.start cut.end ∷ []) = subst (λ (o : Option Cut). Takes known rest new lines o) c.in-Some.is (c.in_ok-cut.ensures.taken known lines read) in
    let full : length new ≡ inside.buffer.len = omega (arith, c.take_line.ensures.len, c.as_mut_slice-buffer.ensures.len) in
    let whole : take inside.buffer.len (new ++ drop (length new) inside.buffer.items) ≡ new = buffer_back inside.buffer.len new inside.buffer.items full in
    let now = c.deref.result.now in
    let same : now ≡ new = c.deref.ensures.value ∙ whole in
    let line = slice_range now cut.start cut.end in
    let bytes = slice_range new (cut.end + 1) cut.held in
    let at_line : AreRead known rest bytes (lines ++ line ∷ []) = subst (λ (b : List ℕ). AreRead known rest bytes (lines ++ slice_range b cut.start cut.end ∷ [])) (sym same) taken in
    no_line party known rest s came bytes line here at_line c.in-None.ensures.none c.in_default-last_behind.ensures.none

pub returns-in_err-take_end-in-None-clause-refused : goal.returns-in_err-take_end-in-None-clause-refused
returns-in_err-take_end-in-None-clause-refused g c =
    let p = err_from_is_err_and c.from_residual-in_err-take_end-in-None.result c.from_residual-in_err-take_end-in-None.ensures.1 in
    rw (p.1, p.2) (λ party known came ca.
    let remaining = g.R.Read.remaining in
    let inside = c.self.inside in
    let s : Standing = record { name = inside.name.items; opening = inside.opening; low = inside.low; line = inside.line; text = slice_range inside.buffer.items inside.text inside.text_end; last = inside.last; left = prepend_known (slice_range inside.buffer.items inside.start inside.end) (remaining inside.reader) } in
    let here : CameTo party known s came = subst (λ (x : Standing). CameTo party known x came) (sym c.self.view_is) ca in
    let lines = lines_so_far s came in
    let read = read_here party known (remaining inside.reader) s came inside.buffer.items c.as_mut_slice-buffer.result.now inside.start inside.end here refl c.as_mut_slice-buffer.ensures.value in
    let rest = remaining c.take_line.new.reader in
    let new = c.take_line.new.buffer in
    let cut = c.in-Some.cut in
    let taken : AreRead known rest (slice_range new (cut.end + 1) cut.held) (lines ++ slice_range new cut.start cut.end ∷ []) = subst (λ (o : Option Cut). Takes known rest new lines o) c.in-Some.is (c.in_ok-cut.ensures.taken known lines read) in
    let full : length new ≡ inside.buffer.len = omega (arith, c.take_line.ensures.len, c.as_mut_slice-buffer.ensures.len) in
    let whole : take inside.buffer.len (new ++ drop (length new) inside.buffer.items) ≡ new = buffer_back inside.buffer.len new inside.buffer.items full in
    let now = c.deref.result.now in
    let same : now ≡ new = c.deref.ensures.value ∙ whole in
    let line = slice_range now cut.start cut.end in
    let bytes = slice_range new (cut.end + 1) cut.held in
    let at_line : AreRead known rest bytes (lines ++ line ∷ []) = subst (λ (b : List ℕ). AreRead known rest bytes (lines ++ slice_range b cut.start cut.end ∷ [])) (sym same) taken in
    let left = c.in-Some-last_behind.last in
    let found = c.in-Some-last_behind.ensures.found in
    let last : c.as_mut_slice-buffer-in-None.result.now ≡ new = c.as_mut_slice-buffer-in-None.ensures.value ∙ whole in
    let behind : AreRead known rest (slice_range c.as_mut_slice-buffer-in-None.result.now (cut.end + 1) cut.held) (lines ++ last_line left ∷ []) = subst (λ (b : List ℕ). AreRead known rest (slice_range b (cut.end + 1) cut.held) (lines ++ last_line left ∷ [])) (sym last) (subst (λ (l : List ℕ). AreRead known rest bytes (lines ++ l ∷ [])) found.2 at_line) in
    more_fault party known s came left c.in_err-take_end-in-None.field-0.0 here found.0 found.1 (c.in_err-take_end-in-None.ensures.refused known (lines ++ last_line left ∷ []) behind))

pub returns-in_ok-take_end-in-None-clause-taken : goal.returns-in_ok-take_end-in-None-clause-taken
returns-in_ok-take_end-in-None-clause-taken g c = λ party known came ca.
    let remaining = g.R.Read.remaining in
    let inside = c.self.inside in
    let s : Standing = record { name = inside.name.items; opening = inside.opening; low = inside.low; line = inside.line; text = slice_range inside.buffer.items inside.text inside.text_end; last = inside.last; left = prepend_known (slice_range inside.buffer.items inside.start inside.end) (remaining inside.reader) } in
    let here : CameTo party known s came = subst (λ (x : Standing). CameTo party known x came) (sym c.self.view_is) ca in
    let lines = lines_so_far s came in
    let read = read_here party known (remaining inside.reader) s came inside.buffer.items c.as_mut_slice-buffer.result.now inside.start inside.end here refl c.as_mut_slice-buffer.ensures.value in
    let rest = remaining c.take_line.new.reader in
    let new = c.take_line.new.buffer in
    let cut = c.in-Some.cut in
    let taken : AreRead known rest (slice_range new (cut.end + 1) cut.held) (lines ++ slice_range new cut.start cut.end ∷ []) = subst (λ (o : Option Cut). Takes known rest new lines o) c.in-Some.is (c.in_ok-cut.ensures.taken known lines read) in
    let full : length new ≡ inside.buffer.len = omega (arith, c.take_line.ensures.len, c.as_mut_slice-buffer.ensures.len) in
    let whole : take inside.buffer.len (new ++ drop (length new) inside.buffer.items) ≡ new = buffer_back inside.buffer.len new inside.buffer.items full in
    let now = c.deref.result.now in
    let same : now ≡ new = c.deref.ensures.value ∙ whole in
    let line = slice_range now cut.start cut.end in
    let bytes = slice_range new (cut.end + 1) cut.held in
    let at_line : AreRead known rest bytes (lines ++ line ∷ []) = subst (λ (b : List ℕ). AreRead known rest bytes (lines ++ slice_range b cut.start cut.end ∷ [])) (sym same) taken in
    let left = c.in-Some-last_behind.last in
    let found = c.in-Some-last_behind.ensures.found in
    let last : c.as_mut_slice-buffer-in-None.result.now ≡ new = c.as_mut_slice-buffer-in-None.ensures.value ∙ whole in
    let behind : AreRead known rest (slice_range c.as_mut_slice-buffer-in-None.result.now (cut.end + 1) cut.held) (lines ++ last_line left ∷ []) = subst (λ (b : List ℕ). AreRead known rest (slice_range b (cut.end + 1) cut.held) (lines ++ last_line left ∷ [])) (sym last) (subst (λ (l : List ℕ). AreRead known rest bytes (lines ++ l ∷ [])) found.2 at_line) in
    ends_with_last party known s came left here found.0 found.1 (c.in_ok-take_end-in-None.ensures.all known (lines ++ last_line left ∷ []) behind)

pub returns-else-number-self-clause-taken : goal.returns-else-number-self-clause-taken
returns-else-number-self-clause-taken g c = λ party known came ca.
    let remaining = g.R.Read.remaining in
    let inside = c.self.inside in
    let s : Standing = record { name = inside.name.items; opening = inside.opening; low = inside.low; line = inside.line; text = slice_range inside.buffer.items inside.text inside.text_end; last = inside.last; left = prepend_known (slice_range inside.buffer.items inside.start inside.end) (remaining inside.reader) } in
    let here : CameTo party known s came = subst (λ (x : Standing). CameTo party known x came) (sym c.self.view_is) ca in
    let lines = lines_so_far s came in
    let read = read_here party known (remaining inside.reader) s came inside.buffer.items c.as_mut_slice-buffer.result.now inside.start inside.end here refl c.as_mut_slice-buffer.ensures.value in
    let rest = remaining c.take_line.new.reader in
    let new = c.take_line.new.buffer in
    let cut = c.in-Some.cut in
    let taken : AreRead known rest (slice_range new (cut.end + 1) cut.held) (lines ++ slice_range new cut.start cut.end ∷ []) = subst (λ (o : Option Cut). Takes known rest new lines o) c.in-Some.is (c.in_ok-cut.ensures.taken known lines read) in
    let full : length new ≡ inside.buffer.len = omega (arith, c.take_line.ensures.len, c.as_mut_slice-buffer.ensures.len) in
    let whole : take inside.buffer.len (new ++ drop (length new) inside.buffer.items) ≡ new = buffer_back inside.buffer.len new inside.buffer.items full in
    let now = c.deref.result.now in
    let same : now ≡ new = c.deref.ensures.value ∙ whole in
    let line = slice_range now cut.start cut.end in
    let bytes = slice_range new (cut.end + 1) cut.held in
    let at_line : AreRead known rest bytes (lines ++ line ∷ []) = subst (λ (b : List ℕ). AreRead known rest bytes (lines ++ slice_range b cut.start cut.end ∷ [])) (sym same) taken in
    let all = take inside.buffer.len (new ++ drop (length new) inside.buffer.items) in
    let number = c.in-Some-read_numbered.number in
    let text = c.in-Some-read_numbered.text.now in
    let found = c.in-Some-read_numbered.ensures.found in
    let order = rw c.in-Some.is at c.in_ok-cut.ensures.order in
    let held = rw c.in-Some.is at c.in_ok-cut.ensures.held in
    let within = rw c.in-Some.is at c.in_ok-cut.ensures.within in
    let room : cut.end ≤ length all = omega (arith, held, within, ap length whole) in
    let spelled : slice_range all cut.start cut.end ≡ record_line number text = ap (λ (b : List ℕ). slice_range b cut.start cut.end) (sym c.deref.ensures.value) ∙ found.1 in
    let at_all : AreRead known rest (slice_range all (cut.end + 1) cut.held) (lines ++ slice_range all cut.start cut.end ∷ []) = subst (λ (b : List ℕ). AreRead known rest (slice_range b (cut.end + 1) cut.held) (lines ++ slice_range b cut.start cut.end ∷ [])) (sym whole) taken in
    let more = came_more party known rest s came (slice_range all (cut.end + 1) cut.held) (slice_range all cut.start cut.end) text number here at_all spelled c.if-number-self.false found.0 in
    let own_text = text_is all (slice_range all cut.start cut.end) text cut.start cut.end number order room refl spelled in
    subst (λ (t : List ℕ). CameTo party known (record { name = s.name; opening = s.opening; low = number + 1; line = s.line + 1; text = t; last = s.last; left = prepend_known (slice_range all (cut.end + 1) cut.held) rest }) (came ++ (number, t) ∷ [])) (sym own_text) more
