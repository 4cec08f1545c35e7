-- What a file's lines tell, one after another.
use Rattle.std.proofs.Common.{◌≡◌, ◌≢◌, ℕ, suc, ◌+◌, ◌-◌, ◌<◌, ◌≤◌, inl, inr, List, [], ◌∷◌, ◌++◌, length, take, drop, Option, Some, None, refl, sym, ap, subst, ◌∙◌, append_assoc, length-append, length-take-le, length-drop, arith}
use Rattle.std.specs.Prelude.{IfSome, slice_range}
use Rattle.std.specs.List.{AllByRecursion}
use Rattle.std.specs.Fmt.{decimal}
use Rattle.std.specs.Io.KnownBytes.{Consumes, prepend_known}
use Rattle.std.proofs.KnownBytes.{Consumes-nil}
use Rattle.std.proofs.Math.Seq.{drop-append_seam, take-append_seam}
use Rattle.std.proofs.lemmas.List.{drop-drop, drop-take}
use Rattle.text_lines.specs.Text.{ended}
use Rattle.recorder_files.specs.declared.files.FileFault.{FileFault}
use Rattle.recorder_files.specs.declared.files.FileFault.TheVariants.{Line, Order, File, Memory}
use Rattle.recorder_files.specs.declared.lines.Party.{Party}
use Rattle.recorder_files.specs.declared.lines.Opening.{Opening}
use Rattle.recorder_files.specs.declared.lines.Last.{Last}
use Rattle.recorder_files.specs.Files.{last_number, header, recording_line, opening_line, record_line, last_line, IsName, IsLast}
use Rattle.recorder_files.specs.Gathered.{Numbered}
use Rattle.recorder_files.specs.Said.{IsWritten, Said, RiseTo, IsBehind, last_lines, records_onto, head_onto, IsHead, IsUnbegun, Says, IsRecord, IsRefusedAt, IsFault, Standing, CameTo}
use Rattle.recorder_files.specs.inner.Finding.{AreAll, AreRead, IsLongAt, IsMoreAt}
use Rattle.recorder_files.proofs.Refusing.{LinesTell, NextIs, next_is, not_record, same_numbers, same_record, line_refused, long_refused}

-- ---- the head

unbegun_first : (l : List ℕ) (more : List (List ℕ)) → IsUnbegun (l ∷ more) → l ≡ header
unbegun_first l [] u = u
unbegun_first l (a ∷ []) u = u.0
unbegun_first l (a ∷ b ∷ more) u = absurd u

pub not_header : (party : Party) (line : List ℕ) → line ≢ header → (more : List (List ℕ)) (x : Option Said) → LinesTell party (line ∷ more) x → ⊥
not_header party line other more None t = other (unbegun_first line more t)
not_header party line other more (Some s) t = let e = t.spelled in other cc

unbegun_second : (a l : List ℕ) (more : List (List ℕ)) → IsUnbegun (a ∷ l ∷ more) → (name : List ℕ) × IsName name × (l ≡ recording_line name)
unbegun_second a l [] u = u.1
unbegun_second a l (b ∷ more) u = absurd u

pub not_name : (party : Party) (line : List ℕ) → ((name : List ℕ) → IsName name → line ≢ recording_line name) → (more : List (List ℕ)) (x : Option Said) → LinesTell party (header ∷ line ∷ more) x → ⊥
not_name party line other more None t = let u = unbegun_second header line more t in other u.0 u.1 u.2
not_name party line other more (Some s) t = let e = t.spelled in other s.name t.head.is_name cc

pub not_opening : (party : Party) (name line : List ℕ) → ((first file : ℕ) → first ≤ last_number → file ≤ last_number → line ≢ opening_line party first file) → (more : List (List ℕ)) (x : Option Said) → LinesTell party (header ∷ recording_line name ∷ line ∷ more) x → ⊥
not_opening party name line other more None t = absurd t
not_opening party name line other more (Some s) t =
    let e = t.spelled in
    let own_line : line ≡ opening_line s.opening.party s.opening.first s.opening.file = cc in
    other s.opening.first s.opening.file t.head.first t.head.file (subst (λ (p : Party). line ≡ opening_line p s.opening.first s.opening.file) t.head.is_party own_line)

-- ---- records and the last line

pub records_append : (came : Numbered (List ℕ)) (more : List (List ℕ)) → records_onto came more ≡ records_onto came [] ++ more
records_append [] more = refl
records_append (r ∷ came) more = ap (λ (ls : List (List ℕ)). record_line r.0 r.1 ∷ ls) (records_append came more)

pub records_push : (came : Numbered (List ℕ)) (n : ℕ) (text : List ℕ) → records_onto (came ++ (n, text) ∷ []) [] ≡ records_onto came [] ++ record_line n text ∷ []
records_push [] n text = refl
records_push (r ∷ came) n text = ap (λ (ls : List (List ℕ)). record_line r.0 r.1 ∷ ls) (records_push came n text)

rise_push : (came : Numbered (List ℕ)) (first low n : ℕ) (text : List ℕ) → RiseTo first came low → low ≤ n → n ≤ last_number → RiseTo first (came ++ (n, text) ∷ []) (n + 1)
rise_push [] first low n text r le most = (subst (λ (k : ℕ). k ≤ n) r le, most, omega arith)
rise_push (a ∷ came) first low n text r le most = (r.0, r.1, rise_push came (suc a.0) low n text r.2 le most)

-- the line behind a head and some records, in any file
record Comes (low : ℕ) (line : List ℕ) (more : List (List ℕ)) : Type 0 where
  pub next : ℕ
  pub last : Option Last
  pub is : NextIs low line more next last
  pub fits : IfSome last (λ last. IsLast last × IsBehind next last)

comes : (party : Party) (name : List ℕ) (o : Opening) (came : Numbered (List ℕ)) (low : ℕ) (line : List ℕ) (more : List (List ℕ)) (x : Option Said) → IsHead party name o → RiseTo o.first came low → LinesTell party (head_onto name o (records_onto came []) ++ line ∷ more) x → Comes low line more
comes party name o came low line more None h r t = absurd t
comes party name o came low line more (Some s) h r t =
    let e = t.spelled in
    let openings : opening_line s.opening.party s.opening.first s.opening.file ≡ opening_line o.party o.first o.file = cc in
    let tails : records_onto s.records (last_lines s.last) ≡ records_onto came [] ++ line ∷ more = cc in
    let first = (same_numbers o.party s.opening.party s.opening.first o.first s.opening.file o.file (t.head.is_party ∙ sym h.is_party) t.head.first h.first t.head.file h.file openings).0 in
    record {
      next = t.next;
      last = s.last;
      is = next_is came s.records o.first low t.next s.last line more r (subst (λ (k : ℕ). RiseTo k s.records t.next) first t.rise) tails;
      fits = t.last;
    }

at_left : (last : Option Last) (left : Last) (P : Last → Type 0) → last ≡ Some left → IfSome last P → P left
at_left last left P e i = subst (λ (o : Option Last). IfSome o P) e i

-- neither a record that may come next nor the last line
pub not_next : (party : Party) (name : List ℕ) (o : Opening) (came : Numbered (List ℕ)) (low : ℕ) (line : List ℕ) → IsHead party name o → RiseTo o.first came low → ((n : ℕ) (text : List ℕ) → low ≤ n → n ≤ last_number → line ≢ record_line n text) → ((left : Last) → IsLast left → IsBehind low left → line ≢ last_line left) → (more : List (List ℕ)) (x : Option Said) → LinesTell party (head_onto name o (records_onto came []) ++ line ∷ more) x → ⊥
not_next party name o came low line h r no_record no_last more x t =
    let c = comes party name o came low line more x h r t in
    by_kind c.next c.last c.is c.fits
  where
    by_kind : (next : ℕ) (last : Option Last) → NextIs low line more next last → IfSome last (λ last. IsLast last × IsBehind next last) → ⊥
    by_kind next last (inl (n, text, le, most, is)) fits = no_record n text le most is
    by_kind next last (inr (left, at, is, none, same)) fits =
        let f = at_left last left (λ left. IsLast left × IsBehind next left) at fits in
        no_last left f.0 (subst (λ (k : ℕ). IsBehind k left) same f.1) is

-- a last line and one more
pub not_behind : (party : Party) (name : List ℕ) (o : Opening) (came : Numbered (List ℕ)) (low : ℕ) (left : Last) (line : List ℕ) → IsHead party name o → RiseTo o.first came low → (more : List (List ℕ)) (x : Option Said) → LinesTell party ((head_onto name o (records_onto came []) ++ last_line left ∷ []) ++ line ∷ more) x → ⊥
not_behind party name o came low left line h r more x t =
    let c = comes party name o came low (last_line left) (line ∷ more) x h r (subst (λ (ls : List (List ℕ)). LinesTell party ls x) (append_assoc (head_onto name o (records_onto came [])) (last_line left ∷ []) (line ∷ more)) t) in
    by_kind c.next c.last c.is
  where
    by_kind : (next : ℕ) (last : Option Last) → NextIs low (last_line left) (line ∷ more) next last → ⊥
    by_kind next last (inl (n, text, le, most, is)) = not_record left n text most is
    by_kind next last (inr (other, at, is, none, same)) = absurd cc

-- ---- where a reader stands

pub left_of : (known rest : Option (List ℕ)) (front bytes : List ℕ) → Consumes known (prepend_known bytes rest) front → Consumes known rest (front ++ bytes)
left_of None rest front bytes c = tt
left_of (Some xs) None front bytes c = absurd c
left_of (Some xs) (Some ys) front bytes c = c ∙ sym (append_assoc front bytes ys)

pub to_left : (known rest : Option (List ℕ)) (front bytes : List ℕ) → Consumes known rest (front ++ bytes) → Consumes known (prepend_known bytes rest) front
to_left None rest front bytes c = tt
to_left (Some xs) None front bytes c = absurd c
to_left (Some xs) (Some ys) front bytes c = c ∙ append_assoc front bytes ys

-- what was said, with this last line
abbrev pub said_so_far : Standing → Numbered (List ℕ) → Option Last → Said
said_so_far s came last = record { name = s.name; opening = s.opening; records = came; last = last }

-- the lines of a head and of some records
abbrev pub lines_so_far : Standing → Numbered (List ℕ) → List (List ℕ)
lines_so_far s came = head_onto s.name s.opening (records_onto came [])

count_lines : (came : Numbered (List ℕ)) → length (records_onto came []) ≡ length came
count_lines [] = refl
count_lines (r ∷ came) = ap suc (count_lines came)

so_far : (party : Party) (name : List ℕ) (o : Opening) (came : Numbered (List ℕ)) (low : ℕ) → IsHead party name o → RiseTo o.first came low → LinesTell party (head_onto name o (records_onto came [])) (Some (record { name = name; opening = o; records = came; last = None }))
so_far party name o came low h r = record { spelled = refl; head = h; next = low; rise = r; last = tt }

with_last : (party : Party) (name : List ℕ) (o : Opening) (came : Numbered (List ℕ)) (low : ℕ) (left : Last) → IsHead party name o → RiseTo o.first came low → IsLast left → IsBehind low left → LinesTell party (head_onto name o (records_onto came []) ++ last_line left ∷ []) (Some (record { name = name; opening = o; records = came; last = Some left }))
with_last party name o came low left h r is behind = record { spelled = ap (λ (ls : List (List ℕ)). head_onto name o ls) (sym (records_append came (last_line left ∷ []))); head = h; next = low; rise = r; last = (is, behind) }

pub says_all : (party : Party) (known : Option (List ℕ)) (lines : List (List ℕ)) (said : Said) → AreAll known lines → LinesTell party lines (Some said) → Says party known (Some said)
says_all party known lines said all tells = record { bytes = all.bytes; is_known = all.is_known; says = (lines, all.whole, tells) }

pub says_nothing : (party : Party) (known : Option (List ℕ)) (lines : List (List ℕ)) → AreAll known lines → IsUnbegun lines → Says party known None
says_nothing party known lines all tells = record { bytes = all.bytes; is_known = all.is_known; says = (lines, all.whole, tells) }

pub read_so_far : (party : Party) (known rest : Option (List ℕ)) (s : Standing) (bytes : List ℕ) (came : Numbered (List ℕ)) → CameTo party known s came → s.left ≡ prepend_known bytes rest → AreRead known rest bytes (lines_so_far s came)
read_so_far party known rest s bytes came c left = record { written = c.written; consumed = left_of known rest (ended (lines_so_far s came)) bytes (subst (λ (o : Option (List ℕ)). Consumes known o (ended (lines_so_far s came))) left c.consumed) }

pub ends_so_far : (party : Party) (known : Option (List ℕ)) (s : Standing) (came : Numbered (List ℕ)) → CameTo party known s came → AreAll known (lines_so_far s came) → Says party known (Some (record { name = s.name; opening = s.opening; records = came; last = None }))
ends_so_far party known s came c all = says_all party known (lines_so_far s came) (said_so_far s came None) all (so_far party s.name s.opening came s.low c.head c.rise)

pub ends_with_last : (party : Party) (known : Option (List ℕ)) (s : Standing) (came : Numbered (List ℕ)) (left : Last) → CameTo party known s came → IsLast left → IsBehind s.low left → AreAll known (lines_so_far s came ++ last_line left ∷ []) → Says party known (Some (record { name = s.name; opening = s.opening; records = came; last = Some left }))
ends_with_last party known s came left c is behind all = says_all party known (lines_so_far s came ++ last_line left ∷ []) (said_so_far s came (Some left)) all (with_last party s.name s.opening came s.low left c.head c.rise is behind)

-- a record more came
pub came_more : (party : Party) (known rest : Option (List ℕ)) (s : Standing) (came : Numbered (List ℕ)) (bytes line text : List ℕ) (n : ℕ) → CameTo party known s came → AreRead known rest bytes (lines_so_far s came ++ line ∷ []) → line ≡ record_line n text → s.low ≤ n → n ≤ last_number → CameTo party known (record { name = s.name; opening = s.opening; low = n + 1; line = s.line + 1; text = text; last = s.last; left = prepend_known bytes rest }) (came ++ (n, text) ∷ [])
came_more party known rest s came bytes line text n c read is le most =
    let lines : lines_so_far s came ++ line ∷ [] ≡ lines_so_far s (came ++ (n, text) ∷ []) = ap (λ (l : List ℕ). lines_so_far s came ++ l ∷ []) is ∙ ap (λ (ls : List (List ℕ)). head_onto s.name s.opening ls) (sym (records_push came n text)) in
    let count = c.line in
    record {
      head = c.head;
      rise = rise_push came s.opening.first s.low n text c.rise le most;
      line = omega (arith, count, length-append came ((n, text) ∷ []));
      open_end = c.open_end;
      written = subst (AllByRecursion IsWritten) lines read.written;
      consumed = subst (λ (ls : List (List ℕ)). Consumes known (prepend_known bytes rest) (ended ls)) lines (to_left known rest (ended (lines_so_far s came ++ line ∷ [])) bytes read.consumed);
    }

-- ---- the lines of a head

pub at_start : (known : Option (List ℕ)) → AreRead known known [] []
at_start known = record { written = tt; consumed = Consumes-nil known }

pub long_fault : (party : Party) (known : Option (List ℕ)) (lines : List (List ℕ)) (number : ℕ) (said : Option Said) (fault : FileFault) → number ≡ length lines + 1 → LinesTell party lines said → IsLongAt known lines number fault → IsFault party known fault
long_fault party known lines number said (Line at) counted before (same, long) = subst (λ (k : ℕ). IsRefusedAt party known k (λ _. Unit {0})) (sym same) (long_refused party known lines number said counted long before)
long_fault party known lines number said (Order at) counted before is = absurd is
long_fault party known lines number said File counted before is = tt
long_fault party known lines number said Memory counted before is = tt

pub header_refused : (party : Party) (known rest : Option (List ℕ)) (line bytes : List ℕ) → AreRead known rest bytes (line ∷ []) → line ≢ header → IsRefusedAt party known 1 (λ _. Unit {0})
header_refused party known rest line bytes read other = line_refused party known rest [] line bytes 1 (λ _. Unit {0}) None (omega arith) read tt tt (not_header party line other)

pub name_refused : (party : Party) (known rest : Option (List ℕ)) (line bytes : List ℕ) → AreRead known rest bytes (header ∷ line ∷ []) → ((name : List ℕ) → IsName name → line ≢ recording_line name) → IsRefusedAt party known 2 (λ _. Unit {0})
name_refused party known rest line bytes read other = line_refused party known rest (header ∷ []) line bytes 2 (λ _. Unit {0}) None (omega arith) read refl tt (not_name party line other)

pub opening_refused : (party : Party) (known rest : Option (List ℕ)) (name line bytes : List ℕ) → IsName name → AreRead known rest bytes (header ∷ recording_line name ∷ line ∷ []) → ((first file : ℕ) → first ≤ last_number → file ≤ last_number → line ≢ opening_line party first file) → IsRefusedAt party known 3 (λ _. Unit {0})
opening_refused party known rest name line bytes is read other = line_refused party known rest (header ∷ recording_line name ∷ []) line bytes 3 (λ _. Unit {0}) None (omega arith) read (refl, (name, is, refl)) tt (not_opening party name line other)

-- ---- where it is refused

number_so_far : (party : Party) (known : Option (List ℕ)) (s : Standing) (came : Numbered (List ℕ)) → CameTo party known s came → s.line ≡ length (lines_so_far s came) + 1
number_so_far party known s came c = let count = c.line in omega (arith, count, count_lines came)

pub long_so_far : (party : Party) (known : Option (List ℕ)) (s : Standing) (came : Numbered (List ℕ)) (fault : FileFault) → CameTo party known s came → IsLongAt known (lines_so_far s came) s.line fault → IsFault party known fault
long_so_far party known s came fault c is = long_fault party known (lines_so_far s came) s.line (Some (said_so_far s came None)) fault (number_so_far party known s came c) (so_far party s.name s.opening came s.low c.head c.rise) is

pub out_of_order : (party : Party) (known rest : Option (List ℕ)) (s : Standing) (came : Numbered (List ℕ)) (bytes line text : List ℕ) (n : ℕ) → CameTo party known s came → AreRead known rest bytes (lines_so_far s came ++ line ∷ []) → line ≡ record_line n text → n ≤ last_number → n < s.low → IsRefusedAt party known s.line IsRecord
out_of_order party known rest s came bytes line text n c read is most lt =
    line_refused party known rest (lines_so_far s came) line bytes s.line IsRecord (Some (said_so_far s came None)) (number_so_far party known s came c) read (so_far party s.name s.opening came s.low c.head c.rise) (n, text, most, is)
    (not_next party s.name s.opening came s.low line c.head c.rise no_record (λ left l b e. not_record left n text most (sym e ∙ is)))
  where
    no_record : (m : ℕ) (u : List ℕ) → s.low ≤ m → m ≤ last_number → line ≢ record_line m u
    no_record m u le small e = let same = same_record m n u text small most (sym e ∙ is) in absurd (omega (arith, lt, le, same))

pub no_line : (party : Party) (known rest : Option (List ℕ)) (s : Standing) (came : Numbered (List ℕ)) (bytes line : List ℕ) → CameTo party known s came → AreRead known rest bytes (lines_so_far s came ++ line ∷ []) → ((n : ℕ) (text : List ℕ) → n ≤ last_number → line ≢ record_line n text) → ((left : Last) → IsLast left → IsBehind s.low left → line ≢ last_line left) → IsRefusedAt party known s.line (λ _. Unit {0})
no_line party known rest s came bytes line c read no_record no_last =
    line_refused party known rest (lines_so_far s came) line bytes s.line (λ _. Unit {0}) (Some (said_so_far s came None)) (number_so_far party known s came c) read (so_far party s.name s.opening came s.low c.head c.rise) tt
    (not_next party s.name s.opening came s.low line c.head c.rise (λ n text le most. no_record n text most) no_last)

number_behind : (party : Party) (known : Option (List ℕ)) (s : Standing) (came : Numbered (List ℕ)) (left : Last) → CameTo party known s came → s.line + 1 ≡ length (lines_so_far s came ++ last_line left ∷ []) + 1
number_behind party known s came left c = let count = c.line in omega (arith, count, count_lines came, length-append (records_onto came []) (last_line left ∷ []))

pub line_behind : (party : Party) (known rest : Option (List ℕ)) (s : Standing) (came : Numbered (List ℕ)) (bytes line : List ℕ) (left : Last) → CameTo party known s came → IsLast left → IsBehind s.low left → AreRead known rest bytes ((lines_so_far s came ++ last_line left ∷ []) ++ line ∷ []) → IsRefusedAt party known (s.line + 1) (λ _. Unit {0})
line_behind party known rest s came bytes line left c is behind read =
    line_refused party known rest (lines_so_far s came ++ last_line left ∷ []) line bytes (s.line + 1) (λ _. Unit {0}) (Some (said_so_far s came (Some left))) (number_behind party known s came left c) read (with_last party s.name s.opening came s.low left c.head c.rise is behind) tt
    (not_behind party s.name s.opening came s.low left line c.head c.rise)

pub long_behind : (party : Party) (known : Option (List ℕ)) (s : Standing) (came : Numbered (List ℕ)) (left : Last) (fault : FileFault) → CameTo party known s came → IsLast left → IsBehind s.low left → IsLongAt known (lines_so_far s came ++ last_line left ∷ []) (s.line + 1) fault → IsFault party known fault
long_behind party known s came left fault c is behind long = long_fault party known (lines_so_far s came ++ last_line left ∷ []) (s.line + 1) (Some (said_so_far s came (Some left))) fault (number_behind party known s came left c) (with_last party s.name s.opening came s.low left c.head c.rise is behind) long

-- ---- the text of a record in the buffer

pub text_is : (buffer line text : List ℕ) (start end n : ℕ) → start ≤ end → end ≤ length buffer → slice_range buffer start end ≡ line → line ≡ record_line n text → slice_range buffer (end - length text) end ≡ text
text_is buffer line text start end n order within is spelled =
    let xs = drop start buffer in
    let k = length (decimal n ++ 32 ∷ []) in
    let parts : take (end - start) xs ≡ (decimal n ++ 32 ∷ []) ++ text = is ∙ (spelled ∙ sym (append_assoc (decimal n) (32 ∷ []) text)) in
    let room : end - start ≤ length xs = omega (arith, length-drop start buffer) in
    let full : end - start ≡ k + length text = sym (length-take-le (end - start) xs room) ∙ (ap length parts ∙ length-append (decimal n ++ 32 ∷ []) text) in
    let rest : end - (end - length text) ≡ length text = omega (arith, full, order) in
    let at : end - length text ≡ start + k = omega (arith, full, order) in
    ap (λ (j : ℕ). take j (drop (end - length text) buffer)) rest ∙ (ap (λ (j : ℕ). take (length text) (drop j buffer)) at
    ∙ (ap (take (length text)) (sym (drop-drop k start buffer)) ∙ (sym (drop-take k (length text) xs) ∙ (ap (λ (j : ℕ). drop k (take j xs)) (sym full) ∙ (ap (drop k) parts ∙ drop-append_seam (decimal n ++ 32 ∷ []) text)))))

-- ---- a reader's buffer

-- what was written to it is what it holds
pub buffer_back : (len : ℕ) (new old : List ℕ) → length new ≡ len → take len (new ++ drop (length new) old) ≡ new
buffer_back len new old full = ap (λ (k : ℕ). take k (new ++ drop (length new) old)) (sym full) ∙ take-append_seam new (drop (length new) old)

pub read_here : (party : Party) (known rest : Option (List ℕ)) (s : Standing) (came : Numbered (List ℕ)) (items slice : List ℕ) (start end : ℕ) → CameTo party known s came → s.left ≡ prepend_known (slice_range items start end) rest → slice ≡ items → AreRead known rest (slice_range slice start end) (lines_so_far s came)
read_here party known rest s came items slice start end c left same = subst (λ (b : List ℕ). AreRead known rest (slice_range b start end) (lines_so_far s came)) (sym same) (read_so_far party known rest s (slice_range items start end) came c left)

pub more_fault : (party : Party) (known : Option (List ℕ)) (s : Standing) (came : Numbered (List ℕ)) (left : Last) (fault : FileFault) → CameTo party known s came → IsLast left → IsBehind s.low left → IsMoreAt known (lines_so_far s came ++ last_line left ∷ []) (s.line + 1) fault → IsFault party known fault
more_fault party known s came left (Line at) c is behind (same, inl long) = long_behind party known s came left (Line at) c is behind (same, long)
more_fault party known s came left (Line at) c is behind (same, inr (rest, bytes, line, read)) = subst (λ (k : ℕ). IsRefusedAt party known k (λ _. Unit {0})) (sym same) (line_behind party known rest s came bytes line left c is behind read)
more_fault party known s came left (Order at) c is behind m = absurd m
more_fault party known s came left File c is behind m = tt
more_fault party known s came left Memory c is behind m = tt
