-- A file's bytes say one thing, and what comes of them is a front of it.
use Rattle.std.proofs.Common.{◌≡◌, ℕ, zero, suc, ◌<◌, ◌≤◌, ◌⊎◌, inl, inr, List, [], ◌∷◌, ◌++◌, Option, Some, None, refl, sym, ap, subst, ◌∙◌, append_assoc, arith}
use Rattle.std.specs.Prelude.{IfSome, codes, slice_get}
use Rattle.std.specs.List.{AllByRecursion, Contains}
use Rattle.std.specs.Io.KnownBytes.{Consumes}
use Rattle.std.proofs.lemmas.List.{append-nil}
use Rattle.std.proofs.lemmas.List.Elements.{Contains-append_left, Contains-append_cases, Contains-push_cases}
use Rattle.std.proofs.lemmas.Option.{same_Some, slice_get-get_or}
use Rattle.text_lines.specs.Text.{ended}
use Rattle.text_lines.proofs.Cut.{ended-append}
use Rattle.recorder_files.specs.declared.lines.Party.{Party}
use Rattle.recorder_files.specs.declared.lines.Opening.{Opening}
use Rattle.recorder_files.specs.declared.lines.Last.{Last}
use Rattle.recorder_files.specs.Files.{recording_line, opening_line, record_line, last_line, IsLast}
use Rattle.recorder_files.specs.Gathered.{Numbered}
use Rattle.recorder_files.specs.Said.{HasLines, IsUnwritten, IsWritten, Said, Says, Standing, CameTo, RiseTo, IsBehind, last_lines, records_onto, head_onto, LinesSay, IsUnbegun, FileSays}
use Rattle.recorder_files.proofs.Refusing.{goes_on, not_unwritten, not_record, same_line, same_record, same_text, same_numbers, same_last, cancel, front_written}
use Rattle.recorder_files.proofs.Telling.{records_append, records_push}

no_more : (rest : List ℕ) (more : List (List ℕ)) → IsUnwritten rest → HasLines rest more → more ≡ []
no_more rest [] u has = refl
no_more rest (m ∷ more) u has = absurd (not_unwritten m (ended more ++ has.rest) u.line u.more has.written.0.inside u.written.inside u.stops (sym (append_assoc m (10 ∷ ended more) has.rest) ∙ (sym has.parts ∙ u.parts)))

one_list : (bytes : List ℕ) (xs ys : List (List ℕ)) → HasLines bytes xs → HasLines bytes ys → ys ≡ xs
one_list bytes xs ys one other =
    let on = goes_on xs one.rest bytes ys one.written other one.parts in
    on.all ∙ (ap (λ (more : List (List ℕ)). xs ++ more) (no_more one.rest on.more one.unwritten on.has) ∙ append-nil xs)

record SameTail (xs ys : Numbered (List ℕ)) (a b : Option Last) : Type 0 where
  pub records : xs ≡ ys
  pub last : a ≡ b

same_pair : (m n : ℕ) (t u : List ℕ) (xs ys : Numbered (List ℕ)) → m ≡ n → t ≡ u → xs ≡ ys → (m, t) ∷ xs ≡ (n, u) ∷ ys
same_pair m n t u xs ys p q r = cc

one_tail : (xs ys : Numbered (List ℕ)) (first m n : ℕ) (a b : Option Last) → RiseTo first xs m → RiseTo first ys n → IfSome a IsLast → IfSome b IsLast → records_onto xs (last_lines a) ≡ records_onto ys (last_lines b) → SameTail xs ys a b
one_tail [] [] first m n None None r s p q e = record { records = refl; last = refl }
one_tail [] [] first m n None (Some y) r s p q e = absurd cc
one_tail [] [] first m n (Some x) None r s p q e = absurd cc
one_tail [] [] first m n (Some x) (Some y) r s p q e = let lines : last_line x ≡ last_line y = cc in record { records = refl; last = ap Some (same_last x y p q lines) }
one_tail [] (t ∷ ys) first m n None b r s p q e = absurd cc
one_tail [] (t ∷ ys) first m n (Some x) b r s p q e = let lines : last_line x ≡ record_line t.0 t.1 = cc in absurd (not_record x t.0 t.1 s.1 lines)
one_tail (t ∷ xs) [] first m n a None r s p q e = absurd cc
one_tail (t ∷ xs) [] first m n a (Some y) r s p q e = let lines : last_line y ≡ record_line t.0 t.1 = cc in absurd (not_record y t.0 t.1 r.1 lines)
one_tail (t ∷ xs) (u ∷ ys) first m n a b r s p q e =
    let lines : record_line t.0 t.1 ≡ record_line u.0 u.1 = cc in
    let tails : records_onto xs (last_lines a) ≡ records_onto ys (last_lines b) = cc in
    let numbers = same_record t.0 u.0 t.1 u.1 r.1 s.1 lines in
    let rest = one_tail xs ys (suc t.0) m n a b r.2 (subst (λ (k : ℕ). RiseTo (suc k) ys n) (sym numbers) s.2) p q tails in
    record { records = same_pair t.0 u.0 t.1 u.1 xs ys numbers (same_text t.0 u.0 t.1 u.1 r.1 s.1 lines) rest.records; last = rest.last }

same_opening : (o p : Opening) → o.party ≡ p.party → o.first ≡ p.first → o.file ≡ p.file → o ≡ p
same_opening o p a b c =
    let by_party : Party → Opening = λ x. record { party = x; first = o.first; file = o.file } in
    let by_first : ℕ → Opening = λ x. record { party = p.party; first = x; file = o.file } in
    let by_file : ℕ → Opening = λ x. record { party = p.party; first = p.first; file = x } in
    ap by_party a ∙ (ap by_first b ∙ ap by_file c)

same_said : (s t : Said) → s.name ≡ t.name → s.opening ≡ t.opening → s.records ≡ t.records → s.last ≡ t.last → s ≡ t
same_said s t a b c d =
    let by_name : List ℕ → Said = λ x. record { name = x; opening = s.opening; records = s.records; last = s.last } in
    let by_opening : Opening → Said = λ x. record { name = t.name; opening = x; records = s.records; last = s.last } in
    let by_records : Numbered (List ℕ) → Said = λ x. record { name = t.name; opening = t.opening; records = x; last = s.last } in
    let by_last : Option Last → Said = λ x. record { name = t.name; opening = t.opening; records = t.records; last = x } in
    ap by_name a ∙ (ap by_opening b ∙ (ap by_records c ∙ ap by_last d))

last_fits : (last : Option Last) (next : ℕ) → IfSome last (λ l. IsLast l × IsBehind next l) → IfSome last IsLast
last_fits None next i = tt
last_fits (Some l) next i = i.0

one_saying : (party : Party) (lines : List (List ℕ)) (s t : Said) → LinesSay party lines s → LinesSay party lines t → s ≡ t
one_saying party lines s t a b =
    let both : head_onto s.name s.opening (records_onto s.records (last_lines s.last)) ≡ head_onto t.name t.opening (records_onto t.records (last_lines t.last)) = sym a.spelled ∙ b.spelled in
    let names : recording_line s.name ≡ recording_line t.name = cc in
    let openings : opening_line s.opening.party s.opening.first s.opening.file ≡ opening_line t.opening.party t.opening.first t.opening.file = cc in
    let tails : records_onto s.records (last_lines s.last) ≡ records_onto t.records (last_lines t.last) = cc in
    let parties = a.head.is_party ∙ sym b.head.is_party in
    let numbers = same_numbers t.opening.party s.opening.party s.opening.first t.opening.first s.opening.file t.opening.file parties a.head.first b.head.first a.head.file b.head.file openings in
    let tail = one_tail s.records t.records s.opening.first a.next b.next s.last t.last a.rise (subst (λ (k : ℕ). RiseTo k t.records b.next) (sym numbers.0) b.rise) (last_fits s.last a.next a.last) (last_fits t.last b.next b.last) tails in
    same_said s t (cancel (codes "recording ") s.name t.name names) (same_opening s.opening t.opening parties numbers.0 numbers.1) tail.records tail.last

begun : (party : Party) (lines : List (List ℕ)) (s : Said) → IsUnbegun lines → LinesSay party lines s → ⊥
begun party lines s u says = absurd (subst IsUnbegun says.spelled u)

pub one_thing : (party : Party) (bytes : List ℕ) (x y : Option Said) → FileSays party bytes x → FileSays party bytes y → x ≡ y
one_thing party bytes None None f g = refl
one_thing party bytes None (Some t) f g = absurd (begun party f.0 t f.2 (subst (λ (ls : List (List ℕ)). LinesSay party ls t) (one_list bytes f.0 g.0 f.1 g.1) g.2))
one_thing party bytes (Some s) None f g = absurd (begun party g.0 s g.2 (subst (λ (ls : List (List ℕ)). LinesSay party ls s) (one_list bytes g.0 f.0 g.1 f.1) f.2))
one_thing party bytes (Some s) (Some t) f g = ap Some (one_saying party f.0 s t f.2 (subst (λ (ls : List (List ℕ)). LinesSay party ls t) (one_list bytes f.0 g.0 f.1 g.1) g.2))

-- ---- fronts

-- of two lists of lines that begin the same bytes, one is a front of the other
lines_compare : (xs ys : List (List ℕ)) (t u : List ℕ) → AllByRecursion IsWritten xs → AllByRecursion IsWritten ys → ended xs ++ t ≡ ended ys ++ u → ((more : List (List ℕ)) × (ys ≡ xs ++ more)) ⊎ ((more : List (List ℕ)) × (xs ≡ ys ++ more))
lines_compare [] ys t u v w e = inl (ys, refl)
lines_compare (x ∷ xs) [] t u v w e = inr (x ∷ xs, refl)
lines_compare (x ∷ xs) (y ∷ ys) t u v w e = go both.0 (lines_compare xs ys t u v.1 w.1 both.1)
  where
    both : (x ≡ y) × (ended xs ++ t ≡ ended ys ++ u)
    both = same_line x y (ended xs ++ t) (ended ys ++ u) v.0.inside w.0.inside (sym (append_assoc x (10 ∷ ended xs) t) ∙ (e ∙ append_assoc y (10 ∷ ended ys) u))

    go : x ≡ y → ((more : List (List ℕ)) × (ys ≡ xs ++ more)) ⊎ ((more : List (List ℕ)) × (xs ≡ ys ++ more)) → ((more : List (List ℕ)) × (y ∷ ys ≡ (x ∷ xs) ++ more)) ⊎ ((more : List (List ℕ)) × (x ∷ xs ≡ (y ∷ ys) ++ more))
    go same (inl (more, is)) = inl (more, cc)
    go same (inr (more, is)) = inr (more, cc)

-- the bytes of a file begin with a head and the lines of these records
pub record IsFrontOf (bytes : List ℕ) (taken : Numbered (List ℕ)) : Type 0 where
  pub name : List ℕ
  pub opening : Opening
  pub next : ℕ
  pub rise : RiseTo opening.first taken next
  pub rest : List ℕ
  pub parts : bytes ≡ ended (head_onto name opening (records_onto taken [])) ++ rest
  pub written : AllByRecursion IsWritten (head_onto name opening (records_onto taken []))

pub came_front : (party : Party) (xs : List ℕ) (s : Standing) (came : Numbered (List ℕ)) → CameTo party (Some xs) s came → IsFrontOf xs came
came_front party xs s came c = go s.left c.consumed
  where
    go : (left : Option (List ℕ)) → Consumes (Some xs) left (ended (head_onto s.name s.opening (records_onto came []))) → IsFrontOf xs came
    go None none = absurd none
    go (Some rest) parts = record { name = s.name; opening = s.opening; next = s.low; rise = c.rise; rest = rest; parts = parts; written = c.written }

pub said_front : (party : Party) (xs : List ℕ) (said : Said) → Says party (Some xs) (Some said) → IsFrontOf xs said.records
said_front party xs said says =
    let has = says.says.1 in
    let say = says.says.2 in
    let front = head_onto said.name said.opening (records_onto said.records []) in
    let last = last_lines said.last in
    let split : says.says.0 ≡ front ++ last = say.spelled ∙ ap (λ (ls : List (List ℕ)). head_onto said.name said.opening ls) (records_append said.records last) in
    record {
      name = said.name;
      opening = said.opening;
      next = say.next;
      rise = say.rise;
      rest = ended last ++ has.rest;
      parts = sym says.is_known ∙ (has.parts ∙ (ap (λ (ls : List (List ℕ)). ended ls ++ has.rest) split ∙ ended-append front last has.rest));
      written = front_written IsWritten front last (subst (AllByRecursion IsWritten) split has.written);
    }

-- the numbers of records rise up to some, and of the others from there on
record Splits (xs ys : Numbered (List ℕ)) (low next : ℕ) : Type 0 where
  pub mid : ℕ
  pub front : RiseTo low xs mid
  pub behind : RiseTo mid ys next

rise_split : (xs ys : Numbered (List ℕ)) (low next : ℕ) → RiseTo low (xs ++ ys) next → Splits xs ys low next
rise_split [] ys low next r = record { mid = low; front = refl; behind = r }
rise_split (x ∷ xs) ys low next r = let s = rise_split xs ys (suc x.0) next r.2 in record { mid = s.mid; front = (r.0, r.1, s.front); behind = s.behind }

-- a front without its last record
pub shorter_front : (bytes : List ℕ) (taken : Numbered (List ℕ)) (n : ℕ) (text : List ℕ) → IsFrontOf bytes (taken ++ (n, text) ∷ []) → IsFrontOf bytes taken
shorter_front bytes taken n text f =
    let front = head_onto f.name f.opening (records_onto taken []) in
    let last = record_line n text ∷ [] in
    let split : head_onto f.name f.opening (records_onto (taken ++ (n, text) ∷ []) []) ≡ front ++ last = ap (λ (ls : List (List ℕ)). head_onto f.name f.opening ls) (records_push taken n text) in
    let rise = rise_split taken ((n, text) ∷ []) f.opening.first f.next f.rise in
    record {
      name = f.name;
      opening = f.opening;
      next = rise.mid;
      rise = rise.front;
      rest = ended last ++ f.rest;
      parts = f.parts ∙ (ap (λ (ls : List (List ℕ)). ended ls ++ f.rest) split ∙ ended-append front last f.rest);
      written = front_written IsWritten front last (subst (AllByRecursion IsWritten) split f.written);
    }

-- records whose lines begin with those of others begin with these others
prefix_of : (recs taken : Numbered (List ℕ)) (first low next end : ℕ) (last : Option Last) (more : List (List ℕ)) → RiseTo first recs next → RiseTo low taken end → records_onto recs (last_lines last) ≡ records_onto taken [] ++ more → (after : Numbered (List ℕ)) × (recs ≡ taken ++ after)
prefix_of recs [] first low next end last more r s e = (recs, refl)
prefix_of [] (t ∷ taken) first low next end None more r s e = absurd cc
prefix_of [] (t ∷ taken) first low next end (Some l) more r s e = let lines : last_line l ≡ record_line t.0 t.1 = cc in absurd (not_record l t.0 t.1 s.1 lines)
prefix_of (a ∷ recs) (t ∷ taken) first low next end last more r s e =
    let lines : record_line a.0 a.1 ≡ record_line t.0 t.1 = cc in
    let tails : records_onto recs (last_lines last) ≡ records_onto taken [] ++ more = cc in
    let rest = prefix_of recs taken (suc a.0) (suc t.0) next end last more r.2 s.2 tails in
    (rest.0, same_pair a.0 t.0 a.1 t.1 recs (taken ++ rest.0) (same_record a.0 t.0 a.1 t.1 r.1 s.1 lines) (same_text a.0 t.0 a.1 t.1 r.1 s.1 lines) rest.1)

-- Of the records of a file with these bytes, all with a number below a bound are among these.
abbrev pub HasAllBelow : List ℕ → Numbered (List ℕ) → ℕ → Type 0
HasAllBelow bytes taken bound = (other : Numbered (List ℕ)) → IsFrontOf bytes other → (r : ℕ × List ℕ) → Contains other r → r.0 < bound → Contains taken r

-- all that the file says
pub said_all : (party : Party) (xs : List ℕ) (said : Said) (bound : ℕ) → Says party (Some xs) (Some said) → HasAllBelow xs said.records bound
said_all party xs said bound says other front r there below =
    let say = says.says.2 in
    let held = head_onto front.name front.opening (records_onto other []) in
    let on = goes_on held front.rest says.bytes says.says.0 front.written says.says.1 (says.is_known ∙ front.parts) in
    let both : head_onto said.name said.opening (records_onto said.records (last_lines said.last)) ≡ held ++ on.more = sym say.spelled ∙ on.all in
    let tails : records_onto said.records (last_lines said.last) ≡ records_onto other [] ++ on.more = cc in
    let p = prefix_of said.records other said.opening.first front.opening.first say.next front.next said.last on.more say.rise front.rise tails in
    subst (λ (rs : Numbered (List ℕ)). Contains rs r) (sym p.1) (Contains-append_left other p.0 r there)

rise_at : (ys : Numbered (List ℕ)) (low next k : ℕ) (r : ℕ × List ℕ) → RiseTo low ys next → slice_get ys k ≡ Some r → low ≤ r.0
rise_at [] low next k r rise e = absurd cc
rise_at (y ∷ ys) low next zero r rise e = subst (λ (x : ℕ × List ℕ). low ≤ x.0) (same_Some y r e) rise.0
rise_at (y ∷ ys) low next (suc k) r rise e = let above = rise_at ys (suc y.0) next k r rise.2 e in let le = rise.0 in omega arith

rise_in : (ys : Numbered (List ℕ)) (low next : ℕ) (r : ℕ × List ℕ) → RiseTo low ys next → Contains ys r → low ≤ r.0
rise_in ys low next r rise there = rise_at ys low next there.0 r rise (slice_get-get_or ys there.0 r there.1 ∙ ap (λ (x : ℕ × List ℕ). Some x) there.2)

-- those in front of one with a number that is not below the bound
pub all_before : (xs : List ℕ) (taken : Numbered (List ℕ)) (n : ℕ) (text : List ℕ) (bound : ℕ) → IsFrontOf xs (taken ++ (n, text) ∷ []) → bound ≤ n → HasAllBelow xs taken bound
all_before xs taken n text bound mine le other front r there below = go (lines_compare (head_onto mine.name mine.opening (records_onto (taken ++ (n, text) ∷ []) [])) (head_onto front.name front.opening (records_onto other [])) mine.rest front.rest mine.written front.written (sym mine.parts ∙ front.parts))
  where
    in_front : Contains taken r ⊎ ((n, text) ≡ r) → Contains taken r
    in_front (inl was) = was
    in_front (inr is) = let same : n ≡ r.0 = ap (λ (x : ℕ × List ℕ). x.0) is in absurd (omega (arith, same, below, le))

    in_all : (after : Numbered (List ℕ)) → RiseTo front.opening.first ((taken ++ (n, text) ∷ []) ++ after) front.next → Contains (taken ++ (n, text) ∷ []) r ⊎ Contains after r → Contains taken r
    in_all after rise (inl was) = in_front (Contains-push_cases taken (n, text) r was)
    in_all after rise (inr behind) =
        let s = rise_split (taken ++ (n, text) ∷ []) after front.opening.first front.next rise in
        let t = rise_split taken ((n, text) ∷ []) front.opening.first s.mid s.front in
        let end : s.mid ≡ suc n = t.behind.2 in
        let above : s.mid ≤ r.0 = rise_in after s.mid front.next r s.behind behind in
        absurd (omega (arith, end, above, below, le))

    go : ((more : List (List ℕ)) × (head_onto front.name front.opening (records_onto other []) ≡ head_onto mine.name mine.opening (records_onto (taken ++ (n, text) ∷ []) []) ++ more)) ⊎ ((more : List (List ℕ)) × (head_onto mine.name mine.opening (records_onto (taken ++ (n, text) ∷ []) []) ≡ head_onto front.name front.opening (records_onto other []) ++ more)) → Contains taken r
    go (inl (more, is)) =
        let tails : records_onto other [] ≡ records_onto (taken ++ (n, text) ∷ []) [] ++ more = cc in
        let p = prefix_of other (taken ++ (n, text) ∷ []) front.opening.first mine.opening.first front.next mine.next None more front.rise mine.rise tails in
        in_all p.0 (subst (λ (rs : Numbered (List ℕ)). RiseTo front.opening.first rs front.next) p.1 front.rise) (Contains-append_cases (taken ++ (n, text) ∷ []) p.0 r (subst (λ (rs : Numbered (List ℕ)). Contains rs r) p.1 there))
    go (inr (more, is)) =
        let tails : records_onto (taken ++ (n, text) ∷ []) [] ≡ records_onto other [] ++ more = cc in
        let p = prefix_of (taken ++ (n, text) ∷ []) other mine.opening.first front.opening.first mine.next front.next None more mine.rise front.rise tails in
        in_front (Contains-push_cases taken (n, text) r (subst (λ (rs : Numbered (List ℕ)). Contains rs r) (sym p.1) (Contains-append_left other p.0 r there)))
