-- Fronts, by how far each log goes.
use Rattle.std.proofs.Common.{◌≡◌, ℕ, zero, suc, ◌+◌, ◌<◌, ◌≤◌, ◌⊎◌, inl, inr, Bool, true, false, List, [], ◌∷◌, length, map, Option, Some, None, take, refl, sym, ap, subst, ◌∙◌, arith}
use Rattle.std.specs.Prelude.{nat_lt, nat_le, ◌&&◌, min, slice_get, if◌then◌else◌}
use Rattle.std.specs.List.{AllByRecursion}
use Rattle.std.specs.Option.{option_map, IfSome}
use Rattle.std.proofs.lemmas.Bool.{cases_lt}
use Rattle.std.proofs.lemmas.Bool.Decides.{nat_tests}
use Rattle.migration_types.specs.declared.records.LogName.{LogName}
use Rattle.migration_types.specs.declared.records.LogName.TheVariants.{Guest, Source, Link, Lane, Pager}
use Rattle.migration_types.specs.declared.records.GuestRec.{GuestRec}
use Rattle.migration_types.specs.declared.records.GuestRec.TheVariants.{Read, Write, Release, Miss, Halt, Resume, See}
use Rattle.migration_types.specs.declared.records.SourceRec.{SourceRec}
use Rattle.migration_types.specs.declared.records.SourceRec.TheVariants.{Halted, State, Send, Again, Ask, Done, Back}
use Rattle.migration_types.specs.declared.records.LinkRec.{LinkRec}
use Rattle.migration_types.specs.declared.records.LinkRec.TheVariants.{Down, Up}
use Rattle.migration_types.specs.declared.records.LaneRec.{LaneRec}
use Rattle.migration_types.specs.declared.records.LaneRec.TheVariants.{Down as LaneDown}
use Rattle.migration_types.specs.declared.records.PagerRec.{PagerRec}
use Rattle.migration_types.specs.declared.records.PagerRec.TheVariants.{Got, Pull, Ready, Fault, Join, Want, Place, Zero, Skip, All}
use Rattle.migration_types.specs.declared.rows.Field.{Field}
use Rattle.migration_types.specs.Receipts.{Name}
use Rattle.migration_types.specs.Rows.{Consists, field_name, guest_row, source_row, link_row, lane_row, pager_row, row_of}
use Rattle.migration_types.specs.Sessions.{Recorded, log_length}
use Rattle.audit_model.specs.FoundOrder.{is_received}
use Rattle.audit_model.specs.Mergings.{Cursors}
use Rattle.recorder_files.specs.Fronts.{NamesThere, IsFront, IsGreatestFront, HasGreatestFront, IsWhole, cut_to}
use Rattle.recorder_files.specs.Reaches.{named_first, or_next, names_in, need}
use Rattle.recorder_files.specs.inner.Reaches.{reach, before_need}

-- ---- a log's reach, by what is needed of each log

none_needed : (a b c d e : ℕ) → true ≡ (nat_le 0 a && (nat_le 0 b && (nat_le 0 c && (nat_le 0 d && nat_le 0 e))))
none_needed a b c d e = grind (arith, nat_tests)

first_needed : (n a b c d e : ℕ) → nat_lt n a ≡ (nat_le (suc n) a && (nat_le 0 b && (nat_le 0 c && (nat_le 0 d && nat_le 0 e))))
first_needed n a b c d e = grind (arith, nat_tests)

second_needed : (n a b c d e : ℕ) → nat_lt n b ≡ (nat_le 0 a && (nat_le (suc n) b && (nat_le 0 c && (nat_le 0 d && nat_le 0 e))))
second_needed n a b c d e = grind (arith, nat_tests)

third_needed : (n a b c d e : ℕ) → nat_lt n c ≡ (nat_le 0 a && (nat_le 0 b && (nat_le (suc n) c && (nat_le 0 d && nat_le 0 e))))
third_needed n a b c d e = grind (arith, nat_tests)

fourth_needed : (n a b c d e : ℕ) → nat_lt n d ≡ (nat_le 0 a && (nat_le 0 b && (nat_le 0 c && (nat_le (suc n) d && nat_le 0 e))))
fourth_needed n a b c d e = grind (arith, nat_tests)

fifth_needed : (n a b c d e : ℕ) → nat_lt n e ≡ (nat_le 0 a && (nat_le 0 b && (nat_le 0 c && (nat_le 0 d && nat_le (suc n) e))))
fifth_needed n a b c d e = grind (arith, nat_tests)

needs_met : (c : Cursors) (named : Option Name) → is_received c named ≡ (nat_le (need Guest named) (c Guest) && (nat_le (need Source named) (c Source) && (nat_le (need Link named) (c Link) && (nat_le (need Lane named) (c Lane) && nat_le (need Pager named) (c Pager)))))
needs_met c None = none_needed (c Guest) (c Source) (c Link) (c Lane) (c Pager)
needs_met c (Some (Guest, n)) = first_needed n (c Guest) (c Source) (c Link) (c Lane) (c Pager)
needs_met c (Some (Source, n)) = second_needed n (c Guest) (c Source) (c Link) (c Lane) (c Pager)
needs_met c (Some (Link, n)) = third_needed n (c Guest) (c Source) (c Link) (c Lane) (c Pager)
needs_met c (Some (Lane, n)) = fourth_needed n (c Guest) (c Source) (c Link) (c Lane) (c Pager)
needs_met c (Some (Pager, n)) = fifth_needed n (c Guest) (c Source) (c Link) (c Lane) (c Pager)

one_more : (g s l a p : Bool) (x y z u v r : ℕ) → r ≡ min (min (min (min x y) z) u) v →
    (if (g && (s && (l && (a && p)))) then suc r else 0)
    ≡ min (min (min (min (if g then suc x else 0) (if s then suc y else 0)) (if l then suc z else 0)) (if a then suc u else 0)) (if p then suc v else 0)
one_more false s l a p x y z u v r e = omega arith
one_more true false l a p x y z u v r e = omega arith
one_more true true false a p x y z u v r e = omega arith
one_more true true true false p x y z u v r e = omega arith
one_more true true true true false x y z u v r e = omega arith
one_more true true true true true x y z u v r e = omega arith

pub reach_is : (c : Cursors) (names : List (Option Name)) → reach c names ≡ min (min (min (min (before_need Guest (c Guest) names) (before_need Source (c Source) names)) (before_need Link (c Link) names)) (before_need Lane (c Lane) names)) (before_need Pager (c Pager) names)
reach_is c [] = omega arith
reach_is c (named ∷ names) = ap (λ b. if b then suc (reach c names) else 0) (needs_met c named) ∙ one_more (nat_le (need Guest named) (c Guest)) (nat_le (need Source named) (c Source)) (nat_le (need Link named) (c Link)) (nat_le (need Lane named) (c Lane)) (nat_le (need Pager named) (c Pager)) (before_need Guest (c Guest) names) (before_need Source (c Source) names) (before_need Link (c Link) names) (before_need Lane (c Lane) names) (before_need Pager (c Pager) names) (reach c names) (reach_is c names)

-- ---- what a record names

below : (m n : ℕ) → nat_lt m n ≡ true → m < n
below m n e = grind (arith, nat_tests)

is_below : (m n : ℕ) → m < n → nat_lt m n ≡ true
is_below m n lt = grind (arith, nat_tests)

below_more : (m n k : ℕ) → nat_lt m n ≡ true → n ≤ k → nat_lt m k ≡ true
below_more m n k e le = grind (arith, nat_tests)

all_there : (c : Cursors) (fields : List Field) → AllByRecursion (NamesThere c) fields → is_received c (named_first fields) ≡ true
all_there c [] a = refl
all_there c (f ∷ fields) a = go (field_name f) a.0 (all_there c fields a.1)
  where
    go : (named : Option Name) → IfSome named (λ n. n.1 < c n.0) → is_received c (named_first fields) ≡ true → is_received c (or_next named (named_first fields)) ≡ true
    go None i r = r
    go (Some (log, n)) i r = is_below n (c log) i

guest_there : (c : Cursors) (r : GuestRec) → is_received c (named_first (guest_row r).fields) ≡ true → AllByRecursion (NamesThere c) (guest_row r).fields
guest_there c (Read v p x y) e = (tt, (tt, (tt, (tt, tt))))
guest_there c (Write v p x y) e = (tt, (tt, (tt, (tt, tt))))
guest_there c (Release v p) e = (tt, (tt, tt))
guest_there c (Miss v p) e = (tt, (tt, tt))
guest_there c Halt e = tt
guest_there c (Resume ready) e = (below ready (c Pager) e, tt)
guest_there c (See placement) e = (below placement (c Pager) e, tt)

source_there : (c : Cursors) (r : SourceRec) → is_received c (named_first (source_row r).fields) ≡ true → AllByRecursion (NamesThere c) (source_row r).fields
source_there c (Halted halt) e = (below halt (c Guest) e, tt)
source_there c State e = tt
source_there c (Send p x) e = (tt, tt)
source_there c (Again sending) e = (below sending (c Source) e, tt)
source_there c (Ask up) e = (below up (c Link) e, tt)
source_there c Done e = tt
source_there c Back e = tt

link_there : (c : Cursors) (r : LinkRec) → is_received c (named_first (link_row r).fields) ≡ true → AllByRecursion (NamesThere c) (link_row r).fields
link_there c (Down sending) e = (below sending (c Source) e, tt)
link_there c (Up asking) e = (below asking (c Pager) e, tt)

lane_there : (c : Cursors) (r : LaneRec) → is_received c (named_first (lane_row r).fields) ≡ true → AllByRecursion (NamesThere c) (lane_row r).fields
lane_there c (LaneDown sending) e = (below sending (c Source) e, tt)

pager_there : (c : Cursors) (r : PagerRec) → is_received c (named_first (pager_row r).fields) ≡ true → AllByRecursion (NamesThere c) (pager_row r).fields
pager_there c (Got down) e = (below down (c Link) e, tt)
pager_there c (Pull down) e = (below down (c Lane) e, tt)
pager_there c Ready e = tt
pager_there c (Fault miss) e = (below miss (c Guest) e, tt)
pager_there c (Join want) e = (below want (c Pager) e, tt)
pager_there c (Want p) e = (tt, tt)
pager_there c (Place p got x) e = (tt, (below got (c Pager) e, tt))
pager_there c (Zero p) e = (tt, tt)
pager_there c (Skip got) e = (below got (c Pager) e, tt)
pager_there c All e = tt

-- ---- how far a log goes

inside : (b : Bool) (n r : ℕ) → n < (if b then suc r else 0) → b ≡ true
inside true n r lt = refl
inside false n r lt = absurd (omega arith)

behind : (b : Bool) (n r : ℕ) → suc n < (if b then suc r else 0) → n < r
behind true n r lt = omega arith
behind false n r lt = absurd (omega arith)

further : (b : Bool) (k r : ℕ) → b ≡ true → k ≤ r → suc k ≤ (if b then suc r else 0)
further true k r e le = omega arith
further false k r e le = absurd (cc)

reach_at : {X : Type 0} (c : Cursors) (f : X → Option Name) (xs : List X) (n : ℕ) (x : X) → n < reach c (map f xs) → slice_get xs n ≡ Some x → is_received c (f x) ≡ true
reach_at c f [] n x lt here = absurd (omega arith)
reach_at c f (y ∷ xs) zero x lt here = let e : y ≡ x = cc in ap (λ z. is_received c (f z)) (sym e) ∙ inside (is_received c (f y)) 0 (reach c (map f xs)) lt
reach_at c f (y ∷ xs) (suc n) x lt here = reach_at c f xs n x (behind (is_received c (f y)) n (reach c (map f xs)) lt) here

reach_all : {X : Type 0} (c : Cursors) (f : X → Option Name) (xs : List X) (k : ℕ) → k ≤ length xs → ((n : ℕ) (x : X) → n < k → slice_get xs n ≡ Some x → is_received c (f x) ≡ true) → k ≤ reach c (map f xs)
reach_all c f xs zero le all = omega arith
reach_all c f [] (suc k) le all = absurd (omega arith)
reach_all c f (y ∷ xs) (suc k) le all = further (is_received c (f y)) k (reach c (map f xs)) (all 0 y (omega arith) refl) (reach_all c f xs k (omega arith) (λ n x lt here. all (suc n) x (omega arith) here))

received_more : (c d : Cursors) (named : Option Name) → ((log : LogName) → d log ≤ c log) → is_received d named ≡ true → is_received c named ≡ true
received_more c d None up e = refl
received_more c d (Some (log, n)) up e = below_more n (d log) (c log) e (up log)

pub reach_more : (c d : Cursors) (names : List (Option Name)) → ((log : LogName) → d log ≤ c log) → reach d names ≤ reach c names
reach_more c d [] up = omega arith
reach_more c d (named ∷ names) up = go (is_received d named) (is_received c named) (received_more c d named up) (reach d names) (reach c names) (reach_more c d names up)
  where
    go : (a b : Bool) → (a ≡ true → b ≡ true) → (m n : ℕ) → m ≤ n → (if a then suc m else 0) ≤ (if b then suc n else 0)
    go true true i m n le = omega arith
    go true false i m n le = let no : false ≡ true = i refl in absurd (cc)
    go false true i m n le = omega arith
    go false false i m n le = omega arith

-- ---- fronts

pub front_reaches : (s : Recorded) (d : Cursors) → IsFront s d → (log : LogName) → d log ≤ reach d (names_in s log)
front_reaches s d f Guest = reach_all d (λ r. named_first (guest_row r).fields) s.guest (d Guest) (f.within Guest) (λ n x lt here. all_there d (guest_row x).fields (f.there (Guest, n) (guest_row x) (ap (option_map guest_row) here) lt))
front_reaches s d f Source = reach_all d (λ r. named_first (source_row r).fields) s.source (d Source) (f.within Source) (λ n x lt here. all_there d (source_row x).fields (f.there (Source, n) (source_row x) (ap (option_map source_row) here) lt))
front_reaches s d f Link = reach_all d (λ r. named_first (link_row r).fields) s.link (d Link) (f.within Link) (λ n x lt here. all_there d (link_row x).fields (f.there (Link, n) (link_row x) (ap (option_map link_row) here) lt))
front_reaches s d f Lane = reach_all d (λ r. named_first (lane_row r).fields) s.lane (d Lane) (f.within Lane) (λ n x lt here. all_there d (lane_row x).fields (f.there (Lane, n) (lane_row x) (ap (option_map lane_row) here) lt))
front_reaches s d f Pager = reach_all d (λ r. named_first (pager_row r).fields) s.pager (d Pager) (f.within Pager) (λ n x lt here. all_there d (pager_row x).fields (f.there (Pager, n) (pager_row x) (ap (option_map pager_row) here) lt))

at_row : {X : Type 0} (c : Cursors) (row : X → Consists) (xs : List X) (n : ℕ) (r : Consists) → ((x : X) → is_received c (named_first (row x).fields) ≡ true → AllByRecursion (NamesThere c) (row x).fields) → option_map row (slice_get xs n) ≡ Some r → n < reach c (map (λ x. named_first (row x).fields) xs) → AllByRecursion (NamesThere c) r.fields
at_row {X} c row xs n r each here lt = go (slice_get xs n) refl here
  where
    go : (o : Option X) → slice_get xs n ≡ o → option_map row o ≡ Some r → AllByRecursion (NamesThere c) r.fields
    go None e here = absurd (cc)
    go (Some x) e here = let same : row x ≡ r = cc in subst (λ q. AllByRecursion (NamesThere c) q.fields) same (each x (reach_at c (λ y. named_first (row y).fields) xs n x lt e))

pub is_front : (s : Recorded) (c : Cursors) → ((log : LogName) → c log ≤ log_length s log) → ((log : LogName) → c log ≤ reach c (names_in s log)) → IsFront s c
is_front s c within reaches = record { within = within; there = there }
  where
    there : (name : Name) (row : Consists) → row_of s name ≡ Some row → name.1 < c name.0 → AllByRecursion (NamesThere c) row.fields
    there (Guest, n) row here lt = let h = reaches Guest in at_row c guest_row s.guest n row (guest_there c) here (omega (arith, h, lt))
    there (Source, n) row here lt = let h = reaches Source in at_row c source_row s.source n row (source_there c) here (omega (arith, h, lt))
    there (Link, n) row here lt = let h = reaches Link in at_row c link_row s.link n row (link_there c) here (omega (arith, h, lt))
    there (Lane, n) row here lt = let h = reaches Lane in at_row c lane_row s.lane n row (lane_there c) here (omega (arith, h, lt))
    there (Pager, n) row here lt = let h = reaches Pager in at_row c pager_row s.pager n row (pager_there c) here (omega (arith, h, lt))

length_of_map : {X Y : Type 0} (f : X → Y) (xs : List X) → length (map f xs) ≡ length xs
length_of_map f [] = refl
length_of_map f (x ∷ xs) = ap suc (length_of_map f xs)

pub names_length : (s : Recorded) (log : LogName) → length (names_in s log) ≡ log_length s log
names_length s Guest = length_of_map (λ r. named_first (guest_row r).fields) s.guest
names_length s Source = length_of_map (λ r. named_first (source_row r).fields) s.source
names_length s Link = length_of_map (λ r. named_first (link_row r).fields) s.link
names_length s Lane = length_of_map (λ r. named_first (lane_row r).fields) s.lane
names_length s Pager = length_of_map (λ r. named_first (pager_row r).fields) s.pager

-- each log up to the first record that names one which is not there
abbrev pub narrow : Recorded → Cursors → Cursors
narrow s c log = min (c log) (reach c (names_in s log))

abbrev IsAbove : Recorded → Cursors → Type 0
IsAbove s c = (d : Cursors) → IsFront s d → (log : LogName) → d log ≤ c log

-- a front below this one is below the next one too
pub still_below : (s : Recorded) (c d : Cursors) → IsFront s d → ((log : LogName) → d log ≤ c log) → (log : LogName) → d log ≤ min (c log) (reach c (names_in s log))
still_below s c d f below log = let b = front_reaches s d f log in let m = reach_more c d (names_in s log) below in both (d log) (c log) (reach d (names_in s log)) (reach c (names_in s log)) (below log) b m
  where
    both : (x y u v : ℕ) → x ≤ y → x ≤ u → u ≤ v → x ≤ min y v
    both x y u v a b m = omega arith

still_above : (s : Recorded) (c : Cursors) → IsAbove s c → IsAbove s (narrow s c)
still_above s c above d f = still_below s c d f (above d f)

abbrev total : Cursors → ℕ
total c = c Guest + c Source + c Link + c Lane + c Pager

no_less : (a b c d e p q r s t : ℕ) → a + b + c + d + e ≤ min a p + min b q + min c r + min d s + min e t → (a ≤ p) × (b ≤ q) × (c ≤ r) × (d ≤ s) × (e ≤ t)
no_less a b c d e p q r s t le = (omega arith, omega arith, omega arith, omega arith, omega arith)

-- where no log gets shorter, it is a front
none_shorter : (s : Recorded) (c : Cursors) → total c ≤ total (narrow s c) → (log : LogName) → c log ≤ reach c (names_in s log)
none_shorter s c le = go (no_less (c Guest) (c Source) (c Link) (c Lane) (c Pager) (reach c (names_in s Guest)) (reach c (names_in s Source)) (reach c (names_in s Link)) (reach c (names_in s Lane)) (reach c (names_in s Pager)) le)
  where
    go : (c Guest ≤ reach c (names_in s Guest)) × (c Source ≤ reach c (names_in s Source)) × (c Link ≤ reach c (names_in s Link)) × (c Lane ≤ reach c (names_in s Lane)) × (c Pager ≤ reach c (names_in s Pager)) → (log : LogName) → c log ≤ reach c (names_in s log)
    go all Guest = all.0
    go all Source = all.1
    go all Link = all.2
    go all Lane = all.3
    go all Pager = all.4

settled : (s : Recorded) (c : Cursors) → ((log : LogName) → c log ≤ log_length s log) → IsAbove s c → total c ≤ total (narrow s c) → HasGreatestFront s
settled s c within above le = record { cursors = c; greatest = record { front = is_front s c within (none_shorter s c le); greatest = above } }

none_fewer : (x y : ℕ) → x ≤ 0 → x ≤ y
none_fewer x y le = omega arith

one_fewer : (x y k : ℕ) → y ≤ suc k → x < y → x ≤ k
one_fewer x y k le lt = omega arith

still_within : (a r n : ℕ) → a ≤ n → min a r ≤ n
still_within a r n le = omega arith

no_more : (x : ℕ) → x ≤ x
no_more x = omega arith

search_for : (s : Recorded) (fuel : ℕ) (c : Cursors) → total c ≤ fuel → ((log : LogName) → c log ≤ log_length s log) → IsAbove s c → HasGreatestFront s
search_for s zero c few within above = settled s c within above (none_fewer (total c) (total (narrow s c)) few)
search_for s (suc fuel) c few within above = go (λ lt. search_for s fuel (narrow s c) (one_fewer (total (narrow s c)) (total c) fuel few lt) (λ log. still_within (c log) (reach c (names_in s log)) (log_length s log) (within log)) (still_above s c above)) (cases_lt (total (narrow s c)) (total c))
  where
    go : (total (narrow s c) < total c → HasGreatestFront s) → (total (narrow s c) < total c) ⊎ (total c ≤ total (narrow s c)) → HasGreatestFront s
    go later (inl lt) = later lt
    go later (inr le) = settled s c within above le

pub has_greatest : (s : Recorded) → HasGreatestFront s
has_greatest s = search_for s (total (log_length s)) (log_length s) (no_more (total (log_length s))) (λ log. no_more (log_length s log)) (λ d f log. f.within log)

pub is_unique : (s : Recorded) (c d : Cursors) → IsGreatestFront s c → IsGreatestFront s d → (log : LogName) → c log ≡ d log
is_unique s c d g h log = let a = g.greatest d h.front log in let b = h.greatest c g.front log in omega (arith, a, b)

-- ---- what is cut to a front

take_within : {X : Type 0} (xs : List X) (k n : ℕ) (x : X) → slice_get (take k xs) n ≡ Some x → slice_get xs n ≡ Some x
take_within [] zero n x e = e
take_within [] (suc k) n x e = e
take_within (y ∷ xs) zero n x e = absurd (cc)
take_within (y ∷ xs) (suc k) zero x e = e
take_within (y ∷ xs) (suc k) (suc n) x e = take_within xs k n x e

take_length : {X : Type 0} (xs : List X) (k : ℕ) → k ≤ length xs → length (take k xs) ≡ k
take_length xs zero le = refl
take_length [] (suc k) le = absurd (omega arith)
take_length (y ∷ xs) (suc k) le = ap suc (take_length xs k (omega arith))

take_all : {X : Type 0} (xs : List X) (k : ℕ) → k ≡ length xs → take k xs ≡ xs
take_all [] zero e = refl
take_all [] (suc k) e = absurd (omega arith)
take_all (y ∷ xs) zero e = absurd (omega arith)
take_all (y ∷ xs) (suc k) e = ap (λ ys. y ∷ ys) (take_all xs k (omega arith))

cut_length : (s : Recorded) (c : Cursors) → ((log : LogName) → c log ≤ log_length s log) → (log : LogName) → log_length (cut_to c s) log ≡ c log
cut_length s c within Guest = take_length s.guest (c Guest) (within Guest)
cut_length s c within Source = take_length s.source (c Source) (within Source)
cut_length s c within Link = take_length s.link (c Link) (within Link)
cut_length s c within Lane = take_length s.lane (c Lane) (within Lane)
cut_length s c within Pager = take_length s.pager (c Pager) (within Pager)

row_in : {X : Type 0} (row : X → Consists) (xs : List X) (k n : ℕ) (r : Consists) → option_map row (slice_get (take k xs) n) ≡ Some r → option_map row (slice_get xs n) ≡ Some r
row_in {X} row xs k n r e = go (slice_get (take k xs) n) refl e
  where
    go : (o : Option X) → slice_get (take k xs) n ≡ o → option_map row o ≡ Some r → option_map row (slice_get xs n) ≡ Some r
    go None same e = absurd (cc)
    go (Some x) same e = ap (option_map row) (take_within xs k n x same) ∙ e

row_before : (s : Recorded) (c : Cursors) (name : Name) (r : Consists) → row_of (cut_to c s) name ≡ Some r → row_of s name ≡ Some r
row_before s c (Guest, n) r e = row_in guest_row s.guest (c Guest) n r e
row_before s c (Source, n) r e = row_in source_row s.source (c Source) n r e
row_before s c (Link, n) r e = row_in link_row s.link (c Link) n r e
row_before s c (Lane, n) r e = row_in lane_row s.lane (c Lane) n r e
row_before s c (Pager, n) r e = row_in pager_row s.pager (c Pager) n r e

there_too : (c d : Cursors) (fields : List Field) → ((log : LogName) → d log ≡ c log) → AllByRecursion (NamesThere c) fields → AllByRecursion (NamesThere d) fields
there_too c d [] same a = tt
there_too c d (f ∷ fields) same a = (go (field_name f) a.0, there_too c d fields same a.1)
  where
    go : (named : Option Name) → IfSome named (λ n. n.1 < c n.0) → IfSome named (λ n. n.1 < d n.0)
    go None i = tt
    go (Some (log, n)) i = let e = same log in omega (arith, e, i)

pub cut_is_whole : (s : Recorded) (c : Cursors) → IsFront s c → IsWhole (cut_to c s)
cut_is_whole s c f = record {
  within = λ log. omega arith;
  there = λ name row here lt. let e = cut_length s c f.within name.0 in there_too c (log_length (cut_to c s)) row.fields (cut_length s c f.within) (f.there name row (row_before s c name row here) (omega (arith, e, lt)));
}

-- a session with these logs
put : Recorded → List GuestRec → List SourceRec → List LinkRec → List LaneRec → List PagerRec → Recorded
put s guest source link lane pager = record { version = s.version; geometry = s.geometry; init = s.init; guest = guest; source = source; link = link; lane = lane; pager = pager }

pub whole_is_kept : (s : Recorded) (c : Cursors) → IsWhole s → IsGreatestFront s c → cut_to c s ≡ s
unfolding put
whole_is_kept s c w g =
    ap (λ logs. put s logs (take (c Source) s.source) (take (c Link) s.link) (take (c Lane) s.lane) (take (c Pager) s.pager)) (take_all s.guest (c Guest) (all Guest))
    ∙ ap (λ logs. put s s.guest logs (take (c Link) s.link) (take (c Lane) s.lane) (take (c Pager) s.pager)) (take_all s.source (c Source) (all Source))
    ∙ ap (λ logs. put s s.guest s.source logs (take (c Lane) s.lane) (take (c Pager) s.pager)) (take_all s.link (c Link) (all Link))
    ∙ ap (λ logs. put s s.guest s.source s.link logs (take (c Pager) s.pager)) (take_all s.lane (c Lane) (all Lane))
    ∙ ap (λ logs. put s s.guest s.source s.link s.lane logs) (take_all s.pager (c Pager) (all Pager))
  where
    all : (log : LogName) → c log ≡ log_length s log
    all log = let a = g.front.within log in let b = g.greatest (log_length s) w log in omega (arith, a, b)
