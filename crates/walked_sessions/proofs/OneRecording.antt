-- The files of the logs make one recording, where their bytes are known.
use Rattle.std.proofs.Common.{◌≡◌, ℕ, zero, suc, ◌+◌, ◌<◌, ◌≤◌, Bool, true, false, cond, ◌==◌, ◌⊎◌, inl, inr, List, [], ◌∷◌, ◌++◌, length, filter, Option, Some, None, refl, sym, ap, subst, ◌∙◌, arith, eq-eqb, ne_eqb, lt-ltb, le-ltb, nat_lt, map}
use Rattle.std.specs.Prelude.{IfSome, IsSome, slice_get, sum_by}
use Rattle.std.specs.List.{AllByRecursion, Contains}
use Rattle.std.specs.Option.{option_to_list}
use Rattle.std.proofs.lemmas.Bool.{cases_eq, cases_lt}
use Rattle.std.proofs.lemmas.List.{length-map}
use Rattle.std.proofs.lemmas.List.Sorted.{Contains-permutation, IsPermutation-sym, sum_by-IsPermutation}
use Rattle.std.proofs.lemmas.List.Sums.{sum_by-append, sum_by-cons}
use Rattle.std.proofs.lemmas.Option.{get_or_from_slice_get, same_Some, slice_get-get_or, slice_get_within}
use Rattle.migration_types.specs.declared.version.Version.{Version}
use Rattle.migration_types.specs.declared.records.LogName.{LogName}
use Rattle.migration_types.specs.declared.records.LogName.TheVariants.{Guest, Source, Link, Lane, Pager}
use Rattle.migration_types.specs.declared.records.GuestRec.{GuestRec}
use Rattle.migration_types.specs.declared.records.SourceRec.{SourceRec}
use Rattle.migration_types.specs.declared.records.LinkRec.{LinkRec}
use Rattle.migration_types.specs.declared.records.LaneRec.{LaneRec}
use Rattle.migration_types.specs.declared.records.PagerRec.{PagerRec}
use Rattle.migration_types.specs.Extents.{Extent}
use Rattle.migration_types.specs.declared.pages.InitPage.{InitPage}
use Rattle.migration_types.specs.Sessions.{Recorded}
use Rattle.session_grammar.specs.Records.{guest_line, lane_line, link_line}
use Rattle.recordings.specs.Recordings.{IsGuestRecOf, IsLaneRecOf, IsLinkRecOf, IsMachine}
use Rattle.recordings.specs.Wide.{extent_of, guest_of, lane_of, link_of}
use Rattle.recordings.specs.declared.machine.WideMachine.{WideMachine}
use Rattle.recordings.specs.declared.wide.WideInit.{WideInit}
use Rattle.recordings.proofs.Tells.{guest_tell, lane_tell, link_tell}
use Rattle.recorder_files.specs.declared.delivering.Message.{Message}
use Rattle.recorder_files.specs.declared.delivering.Message.TheVariants.{Down, Up}
use Rattle.recorder_files.specs.Deliveries.{delivered, is_of_first, of_pager}
use Rattle.recorder_files.proofs.Timely.{delivered_once}
use Rattle.recorder_files.specs.declared.lines.Party.TheVariants.{Of}
use Rattle.recorder_files.specs.declared.raw.RawPager.{RawPager}
use Rattle.recorder_files.specs.declared.raw.RawPager.TheVariants.{Own as OwnPager, GotSent, PullSent}
use Rattle.recorder_files.specs.declared.raw.RawSource.{RawSource}
use Rattle.recorder_files.specs.declared.raw.RawSource.TheVariants.{Own as OwnSource, AskSent}
use Rattle.recorder_files.specs.Raw.{raw_source_line, raw_pager_line, IsRawSourceOf, IsRawPagerOf}
use Rattle.recorder_files.specs.Told.{lane_messages, lane_packet, link_messages, link_packet, numbered_pager, numbered_source, request, told_from}
use Rattle.recorder_files.proofs.Elements.{element}
use Rattle.walked_sessions.specs.Walks.{AreNumbered, Bytes, IsDown, IsNumberOf, IsRecordingOf, IsUp, lane_delivery, link_delivery}
use Rattle.walked_sessions.proofs.Refusing.{one_form, told_same}
use Rattle.walked_sessions.proofs.Raws.{pager_form, same_lane_packet, same_link_packet, same_numbered_pager, same_numbered_source, same_pager, same_request, same_source, source_form}

-- ---- a sum over some of a list

sum_at : {X : Type 0} (f : X → ℕ) (xs : List X) (k : ℕ) (x : X) → slice_get xs k ≡ Some x → f x ≤ sum_by f xs
sum_at f [] k x e = absurd cc
sum_at {X} f (y ∷ xs) zero x e = let same : f y ≡ f x = ap f (same_Some y x e) in omega (arith, same, sum_by-cons f y xs)
sum_at f (y ∷ xs) (suc k) x e = omega (arith, sum_at f xs k x e, sum_by-cons f y xs)

sum_two : {X : Type 0} (f : X → ℕ) (xs : List X) (i j : ℕ) (x : X) → i < j → slice_get xs i ≡ Some x → slice_get xs j ≡ Some x → f x + f x ≤ sum_by f xs
sum_two f [] i j x lt e g = absurd cc
sum_two f (y ∷ xs) i zero x lt e g = absurd (omega (arith, lt))
sum_two f (y ∷ xs) zero (suc j) x lt e g = let same : f y ≡ f x = ap f (same_Some y x e) in omega (arith, same, sum_at f xs j x g, sum_by-cons f y xs)
sum_two f (y ∷ xs) (suc i) (suc j) x lt e g = omega (arith, sum_two f xs i j x (omega (arith, lt)) e g, sum_by-cons f y xs)

sum_kept : {X : Type 0} (f : X → ℕ) (p : X → Bool) (xs : List X) → sum_by f (filter p xs) ≤ sum_by f xs
sum_kept f p [] = omega arith
sum_kept {X} f p (x ∷ xs) = go (p x) (sum_kept f p xs)
  where
    go : (b : Bool) → sum_by f (filter p xs) ≤ sum_by f xs → sum_by f (cond b (x ∷ filter p xs) (filter p xs)) ≤ sum_by f (x ∷ xs)
    go true rest = omega (arith, rest, sum_by-cons f x xs, sum_by-cons f x (filter p xs))
    go false rest = omega (arith, rest, sum_by-cons f x xs)

-- ---- a record takes one message

-- the record that takes a message
abbrev taken_by : Message → ℕ
taken_by (Down sent taken) = taken
taken_by (Up sent taken) = taken

-- 1 for a message of the same way that the same record takes
abbrev like : Message → Message → ℕ
like (Down sent taken) (Down other by) = cond (taken == by) 1 0
like (Down sent taken) (Up other by) = 0
like (Up sent taken) (Down other by) = 0
like (Up sent taken) (Up other by) = cond (taken == by) 1 0

one_or_none : (b : Bool) → cond b 1 0 ≤ 1
one_or_none true = omega arith
one_or_none false = omega arith

like_most : (m x : Message) → like m x ≤ 1
like_most (Down s t) (Down q u) = one_or_none (t == u)
like_most (Down s t) (Up q u) = omega arith
like_most (Up s t) (Down q u) = omega arith
like_most (Up s t) (Up q u) = one_or_none (t == u)

like_own : (m : Message) → like m m ≡ 1
like_own (Down s t) = ap (λ (b : Bool). cond b 1 0) (eq-eqb t t refl)
like_own (Up s t) = ap (λ (b : Bool). cond b 1 0) (eq-eqb t t refl)

like_other : (m x : Message) → (taken_by m ≡ taken_by x → ⊥) → like m x ≡ 0
like_other (Down s t) (Down q u) other = ap (λ (b : Bool). cond b 1 0) (ne_eqb t u other)
like_other (Down s t) (Up q u) other = refl
like_other (Up s t) (Down q u) other = refl
like_other (Up s t) (Up q u) other = ap (λ (b : Bool). cond b 1 0) (ne_eqb t u other)

-- each message that is told is taken by the record that tells it
abbrev TellsOwn : {R : Type 0} → (ℕ → R → Option Message) → Type 0
TellsOwn {R} tell = (k : ℕ) (rec : R) (x : Message) → tell k rec ≡ Some x → taken_by x ≡ k

none_behind : {R : Type 0} (tell : ℕ → R → Option Message) (m : Message) → TellsOwn tell → (n : ℕ) (log : List R) → taken_by m < n → sum_by (like m) (told_from tell n log) ≡ 0
none_behind tell m own n [] lt = refl
none_behind {R} tell m own n (rec ∷ log) lt = go (tell n rec) refl (none_behind tell m own (suc n) log (omega (arith, lt)))
  where
    go : (o : Option Message) → tell n rec ≡ o → sum_by (like m) (told_from tell (suc n) log) ≡ 0 → sum_by (like m) (option_to_list o ++ told_from tell (suc n) log) ≡ 0
    go None e rest = rest
    go (Some x) e rest =
        let by = own n rec x e in
        let none = like_other m x (λ same. omega (arith, same, by, lt)) in
        omega (arith, none, rest, sum_by-cons (like m) x (told_from tell (suc n) log))

told_once : {R : Type 0} (tell : ℕ → R → Option Message) (m : Message) → TellsOwn tell → (n : ℕ) (log : List R) → sum_by (like m) (told_from tell n log) ≤ 1
told_once tell m own n [] = omega arith
told_once {R} tell m own n (rec ∷ log) = go (tell n rec) refl (told_once tell m own (suc n) log)
  where
    here : (x : Message) → taken_by x ≡ n → (taken_by m ≡ n) ⊎ (taken_by m ≡ n → ⊥) → sum_by (like m) (told_from tell (suc n) log) ≤ 1 → sum_by (like m) (x ∷ told_from tell (suc n) log) ≤ 1
    here x by (inl same) rest = omega (arith, like_most m x, none_behind tell m own (suc n) log (omega (arith, same)), sum_by-cons (like m) x (told_from tell (suc n) log))
    here x by (inr other) rest = omega (arith, like_other m x (λ same. other (same ∙ by)), rest, sum_by-cons (like m) x (told_from tell (suc n) log))

    go : (o : Option Message) → tell n rec ≡ o → sum_by (like m) (told_from tell (suc n) log) ≤ 1 → sum_by (like m) (option_to_list o ++ told_from tell (suc n) log) ≤ 1
    go None e rest = rest
    go (Some x) e rest = here x (own n rec x e) (cases_eq (taken_by m) n) rest

none_like : {R : Type 0} (tell : ℕ → R → Option Message) (m : Message) → ((k : ℕ) (rec : R) (x : Message) → tell k rec ≡ Some x → like m x ≡ 0) → (n : ℕ) (log : List R) → sum_by (like m) (told_from tell n log) ≡ 0
none_like tell m other n [] = refl
none_like {R} tell m other n (rec ∷ log) = go (tell n rec) refl (none_like tell m other (suc n) log)
  where
    go : (o : Option Message) → tell n rec ≡ o → sum_by (like m) (told_from tell (suc n) log) ≡ 0 → sum_by (like m) (option_to_list o ++ told_from tell (suc n) log) ≡ 0
    go None e rest = rest
    go (Some x) e rest = omega (arith, other n rec x e, rest, sum_by-cons (like m) x (told_from tell (suc n) log))

link_own : TellsOwn link_packet
link_own k (OwnPager rec) x e = absurd cc
link_own k (GotSent sending) x e = ap taken_by (sym (same_Some (Down sending k) x e))
link_own k (PullSent sending) x e = absurd cc

lane_own : TellsOwn lane_packet
lane_own k (OwnPager rec) x e = absurd cc
lane_own k (GotSent sending) x e = absurd cc
lane_own k (PullSent sending) x e = ap taken_by (sym (same_Some (Down sending k) x e))

request_own : TellsOwn request
request_own k (OwnSource rec) x e = absurd cc
request_own k (AskSent asking) x e = ap taken_by (sym (same_Some (Up asking k) x e))

no_request : (s t k : ℕ) (rec : RawSource) (x : Message) → request k rec ≡ Some x → like (Down s t) x ≡ 0
no_request s t k (OwnSource rec) x e = absurd cc
no_request s t k (AskSent asking) x e = ap (like (Down s t)) (sym (same_Some (Up asking k) x e))

no_packet : (s t k : ℕ) (rec : RawPager) (x : Message) → link_packet k rec ≡ Some x → like (Up s t) x ≡ 0
no_packet s t k (OwnPager rec) x e = absurd cc
no_packet s t k (GotSent sending) x e = ap (like (Up s t)) (sym (same_Some (Down sending k) x e))
no_packet s t k (PullSent sending) x e = absurd cc

link_once : (m : Message) (pager : List RawPager) (source : List RawSource) → sum_by (like m) (link_messages pager source) ≤ 1
link_once (Down s t) pager source = omega (arith, sum_by-append (like (Down s t)) (told_from link_packet 0 pager) (told_from request 0 source), told_once link_packet (Down s t) link_own 0 pager, none_like request (Down s t) (no_request s t) 0 source)
link_once (Up s t) pager source = omega (arith, sum_by-append (like (Up s t)) (told_from link_packet 0 pager) (told_from request 0 source), told_once request (Up s t) request_own 0 source, none_like link_packet (Up s t) (no_packet s t) 0 pager)

-- ---- a message has one number

-- no message occurs twice
abbrev IsOnce : List Message → Type 0
IsOnce messages = (m : Message) → sum_by (like m) messages ≤ 1

one_place : (messages : List Message) (count : ℕ) (m : Message) (i j : ℕ) → IsOnce messages → i < j → slice_get (delivered messages count) i ≡ Some m → slice_get (delivered messages count) j ≡ Some m → ⊥
one_place messages count m i j once lt e g = omega (arith, sum_two (like m) (delivered messages count) i j m lt e g, like_own m, sum_by-IsPermutation (like m) (filter (is_of_first count) messages) (delivered messages count) (delivered_once messages count), sum_kept (like m) (is_of_first count) messages, once m)

same_place : (messages : List Message) (count : ℕ) (m : Message) (i j : ℕ) → IsOnce messages → slice_get (delivered messages count) i ≡ Some m → slice_get (delivered messages count) j ≡ Some m → i ≡ j
same_place messages count m i j once e g = go (cases_lt i j) (cases_lt j i)
  where
    go : (i < j) ⊎ (j ≤ i) → (j < i) ⊎ (i ≤ j) → i ≡ j
    go (inl lt) other = absurd (one_place messages count m i j once lt e g)
    go (inr le) (inl lt) = absurd (one_place messages count m j i once lt g e)
    go (inr le) (inr ge) = omega (arith, le, ge)

-- what is delivered has its record among the pager's
within : (count : ℕ) (messages : List Message) (m : Message) (k : ℕ) → slice_get (filter (is_of_first count) messages) k ≡ Some m → of_pager m < count
within count [] m k e = absurd cc
within count (x ∷ messages) m k e = go (cases_lt (of_pager x) count) (λ j there. within count messages m j there)
  where
    first : of_pager x < count → ((j : ℕ) → slice_get (filter (is_of_first count) messages) j ≡ Some m → of_pager m < count) → (j : ℕ) → slice_get (x ∷ filter (is_of_first count) messages) j ≡ Some m → of_pager m < count
    first lt rest zero there = subst (λ (y : Message). of_pager y < count) (same_Some x m there) lt
    first lt rest (suc j) there = rest j there

    at : (b : Bool) → nat_lt (of_pager x) count ≡ b → slice_get (cond b (x ∷ filter (is_of_first count) messages) (filter (is_of_first count) messages)) k ≡ Some m
    at b same = subst (λ (c : Bool). slice_get (cond c (x ∷ filter (is_of_first count) messages) (filter (is_of_first count) messages)) k ≡ Some m) same e

    go : (of_pager x < count) ⊎ (count ≤ of_pager x) → ((j : ℕ) → slice_get (filter (is_of_first count) messages) j ≡ Some m → of_pager m < count) → of_pager m < count
    go (inl lt) rest = first lt rest k (at true (lt-ltb (of_pager x) count lt))
    go (inr le) rest = rest k (at false (le-ltb (of_pager x) count le))

place_in : {X : Type 0} (xs : List X) (x : X) → Contains xs x → (k : ℕ) × (slice_get xs k ≡ Some x)
place_in {X} xs x there = (there.0, slice_get-get_or xs there.0 x there.1 ∙ ap (λ (y : X). Some y) there.2)

delivered_within : (messages : List Message) (count : ℕ) (m : Message) (k : ℕ) → slice_get (delivered messages count) k ≡ Some m → of_pager m < count
delivered_within messages count m k e =
    let of_first = filter (is_of_first count) messages in
    let whole = delivered messages count in
    let there : Contains of_first m = Contains-permutation whole of_first m (IsPermutation-sym of_first whole (delivered_once messages count)) (k, slice_get_within whole k m e, get_or_from_slice_get whole k m m e) in
    let place = place_in of_first m there in
    within count messages m place.0 place.1

one_number : (messages : List Message) (count : ℕ) (m : Message) (i j : ℕ) → IsOnce messages → IsNumberOf (delivered messages count) count m i → IsNumberOf (delivered messages count) count m j → i ≡ j
one_number messages count m i j once (inl e) (inl g) = same_place messages count m i j once e g
one_number messages count m i j once (inl e) (inr g) = absurd (omega (arith, delivered_within messages count m i e, g.0))
one_number messages count m i j once (inr e) (inl g) = absurd (omega (arith, delivered_within messages count m j g, e.0))
one_number messages count m i j once (inr e) (inr g) = e.1 ∙ sym g.1

-- ---- numbered records

same_list : {X : Type 0} (xs ys : List X) → length xs ≡ length ys → ((k : ℕ) (x y : X) → slice_get xs k ≡ Some x → slice_get ys k ≡ Some y → x ≡ y) → xs ≡ ys
same_list [] [] long each = refl
same_list [] (y ∷ ys) long each = absurd (omega (arith, long))
same_list (x ∷ xs) [] long each = absurd (omega (arith, long))
same_list (x ∷ xs) (y ∷ ys) long each =
    let head : x ≡ y = each 0 x y refl refl in
    let tail = same_list xs ys (omega (arith, long)) (λ k a b e g. each (suc k) a b e g) in
    cc

form_at : {X F : Type 0} (form : X → F) (xs ys : List X) (k : ℕ) (x y : X) → map form xs ≡ map form ys → slice_get xs k ≡ Some x → slice_get ys k ≡ Some y → form x ≡ form y
form_at form [] ys k x y same e g = absurd cc
form_at form (a ∷ xs) [] k x y same e g = absurd cc
form_at form (a ∷ xs) (b ∷ ys) zero x y same e g =
    let heads : form a ≡ form b = cc in
    ap form (sym (same_Some a x e)) ∙ (heads ∙ ap form (same_Some b y g))
form_at form (a ∷ xs) (b ∷ ys) (suc k) x y same e g =
    let tails : map form xs ≡ map form ys = cc in
    form_at form xs ys k x y tails e g

one_numbered : {R S F : Type 0} (numbered : ℕ → R → S) (IsNumber : ℕ → R → ℕ → Type 0) (form : R → F) (raws others : List R) (records recs : List S) → ((k n m : ℕ) (raw other : R) → form raw ≡ form other → IsNumber k raw n → IsNumber k other m → numbered n raw ≡ numbered m other) → map form raws ≡ map form others → AreNumbered numbered IsNumber raws records → AreNumbered numbered IsNumber others recs → records ≡ recs
one_numbered {R} {S} numbered IsNumber form raws others records recs one forms a b = same_list records recs (omega (arith, a.many, b.many, long)) each
  where
    long : length raws ≡ length others
    long = sym (length-map raws form) ∙ (ap length forms ∙ length-map others form)

    each : (k : ℕ) (x y : S) → slice_get records k ≡ Some x → slice_get recs k ≡ Some y → x ≡ y
    each k x y ex ey =
        let raw = element raws k (omega (arith, slice_get_within records k x ex, a.many)) in
        let other = element others k (omega (arith, slice_get_within recs k y ey, b.many)) in
        let p = a.each k raw.0 x raw.1 ex in
        let q = b.each k other.0 y other.1 ey in
        p.2 ∙ (one k p.0 q.0 raw.0 other.0 (form_at form raws others k raw.0 other.0 forms raw.1 other.1) p.1 q.1 ∙ sym q.2)

-- no message has two numbers
abbrev AreUnique : List Message → ℕ → Type 0
AreUnique log count = (m : Message) (i j : ℕ) → IsNumberOf log count m i → IsNumberOf log count m j → i ≡ j

one_up : (log : List Message) (count : ℕ) → AreUnique log count → (k n m : ℕ) (raw other : RawSource) → source_form raw ≡ source_form other → IsUp log count k raw n → IsUp log count k other m → numbered_source n raw ≡ numbered_source m other
one_up log count one k n m raw other same p q = go raw p (subst (λ o. IfSome o (λ message. IsNumberOf log count message m)) (sym (same_request k raw other same)) q) ∙ same_numbered_source m raw other same
  where
    go : (r : RawSource) → IsUp log count k r n → IsUp log count k r m → numbered_source n r ≡ numbered_source m r
    go (OwnSource rec) p q = refl
    go (AskSent asking) p q = ap (λ j. numbered_source j (AskSent asking)) (one (Up asking k) n m p q)

one_down : (link lane : List Message) (count : ℕ) → AreUnique link count → AreUnique lane count → (k n m : ℕ) (raw other : RawPager) → pager_form raw ≡ pager_form other → IsDown link lane count k raw n → IsDown link lane count k other m → numbered_pager n raw ≡ numbered_pager m other
one_down link lane count one two k n m raw other same p q = go raw p (subst (λ o. IfSome o (λ message. IsNumberOf link count message m)) (sym (same_link_packet k raw other same)) q.0, subst (λ o. IfSome o (λ message. IsNumberOf lane count message m)) (sym (same_lane_packet k raw other same)) q.1) ∙ same_numbered_pager m raw other same
  where
    go : (r : RawPager) → IsDown link lane count k r n → IsDown link lane count k r m → numbered_pager n r ≡ numbered_pager m r
    go (OwnPager rec) p q = refl
    go (GotSent sending) p q = ap (λ j. numbered_pager j (GotSent sending)) (one (Down sending k) n m p.0 q.0)
    go (PullSent sending) p q = ap (λ j. numbered_pager j (PullSent sending)) (two (Down sending k) n m p.1 q.1)

-- ---- one recording

abbrev recorded : Version → Extent → List InitPage → List GuestRec → List SourceRec → List LinkRec → List LaneRec → List PagerRec → Recorded
recorded version geometry init guest source link lane pager = record { version = version; geometry = geometry; init = init; guest = guest; source = source; link = link; lane = lane; pager = pager }

same_recorded : (s t : Recorded) → s.version ≡ t.version → s.geometry ≡ t.geometry → s.init ≡ t.init → s.guest ≡ t.guest → s.source ≡ t.source → s.link ≡ t.link → s.lane ≡ t.lane → s.pager ≡ t.pager → s ≡ t
same_recorded s t v e i g r k l p =
    ap (λ x. recorded x s.geometry s.init s.guest s.source s.link s.lane s.pager) v
    ∙ (ap (λ x. recorded t.version x s.init s.guest s.source s.link s.lane s.pager) e
    ∙ (ap (λ x. recorded t.version t.geometry x s.guest s.source s.link s.lane s.pager) i
    ∙ (ap (λ x. recorded t.version t.geometry t.init x s.source s.link s.lane s.pager) g
    ∙ (ap (λ x. recorded t.version t.geometry t.init t.guest x s.link s.lane s.pager) r
    ∙ (ap (λ x. recorded t.version t.geometry t.init t.guest t.source x s.lane s.pager) k
    ∙ (ap (λ x. recorded t.version t.geometry t.init t.guest t.source t.link x s.pager) l
    ∙ ap (λ x. recorded t.version t.geometry t.init t.guest t.source t.link t.lane x) p))))))

pub one_recording : (machine : WideMachine) (initial : List WideInit) (bytes : Bytes) (s t : Recorded) → IsMachine (extent_of machine) → ((log : LogName) → AllByRecursion IsSome (bytes log)) → IsRecordingOf machine initial bytes s → IsRecordingOf machine initial bytes t → s ≡ t
one_recording machine initial bytes s t is_machine known a b =
    let e = extent_of machine in
    let guests = one_form (λ r. guest_line (guest_of r)) (λ r. IsGuestRecOf e (guest_of r)) guest_of (λ r q x y same. guest_tell e is_machine (guest_of r) (guest_of q) x y same) (Of Guest) (bytes Guest) a.guest b.guest (known Guest) a.tell_guest b.tell_guest in
    let sources = one_form raw_source_line (IsRawSourceOf e) source_form (same_source e is_machine) (Of Source) (bytes Source) a.source b.source (known Source) a.tell_source b.tell_source in
    let links = one_form (λ r. link_line (link_of r)) (λ r. IsLinkRecOf (link_of r)) link_of (λ r q x y same. link_tell (link_of r) (link_of q) x y same) (Of Link) (bytes Link) a.link b.link (known Link) a.tell_link b.tell_link in
    let lanes = one_form (λ r. lane_line (lane_of r)) (λ r. IsLaneRecOf machine.version (lane_of r)) lane_of (λ r q x y same. lane_tell machine.version (lane_of r) (lane_of q) x y same) (Of Lane) (bytes Lane) a.lane b.lane (known Lane) a.tell_lane b.tell_lane in
    let pagers = one_form raw_pager_line (IsRawPagerOf machine.version e) pager_form (same_pager machine.version e is_machine) (Of Pager) (bytes Pager) a.pager b.pager (known Pager) a.tell_pager b.tell_pager in
    let count : length a.pager ≡ length b.pager = sym (length-map a.pager pager_form) ∙ (ap length pagers ∙ length-map b.pager pager_form) in
    let packets = told_same pager_form link_packet same_link_packet 0 a.pager b.pager pagers in
    let requests = told_same source_form request same_request 0 a.source b.source sources in
    let on_lane : lane_messages a.pager ≡ lane_messages b.pager = told_same pager_form lane_packet same_lane_packet 0 a.pager b.pager pagers in
    let on_link : link_messages a.pager a.source ≡ link_messages b.pager b.source = ap (λ (ms : List Message). ms ++ told_from request 0 a.source) packets ∙ ap (λ (ms : List Message). told_from link_packet 0 b.pager ++ ms) requests in
    let link_log : delivered (link_messages b.pager b.source) (length b.pager) ≡ delivered (link_messages a.pager a.source) (length a.pager) = ap (λ (ms : List Message). delivered ms (length b.pager)) (sym on_link) ∙ ap (λ n. delivered (link_messages a.pager a.source) n) (sym count) in
    let lane_log : delivered (lane_messages b.pager) (length b.pager) ≡ delivered (lane_messages a.pager) (length a.pager) = ap (λ (ms : List Message). delivered ms (length b.pager)) (sym on_lane) ∙ ap (λ n. delivered (lane_messages a.pager) n) (sym count) in
    let of_link = delivered (link_messages a.pager a.source) (length a.pager) in
    let of_lane = delivered (lane_messages a.pager) (length a.pager) in
    let one_link : AreUnique of_link (length a.pager) = λ m i j p q. one_number (link_messages a.pager a.source) (length a.pager) m i j (λ x. link_once x a.pager a.source) p q in
    let one_lane : AreUnique of_lane (length a.pager) = λ m i j p q. one_number (lane_messages a.pager) (length a.pager) m i j (λ x. told_once lane_packet x lane_own 0 a.pager) p q in
    let up : AreNumbered numbered_source (IsUp of_link (length a.pager)) b.source t.source = subst (λ n. AreNumbered numbered_source (IsUp of_link n) b.source t.source) (sym count) (subst (λ (log : List Message). AreNumbered numbered_source (IsUp log (length b.pager)) b.source t.source) link_log b.sources) in
    let down_link : AreNumbered numbered_pager (IsDown of_link (delivered (lane_messages b.pager) (length b.pager)) (length b.pager)) b.pager t.pager = subst (λ (log : List Message). AreNumbered numbered_pager (IsDown log (delivered (lane_messages b.pager) (length b.pager)) (length b.pager)) b.pager t.pager) link_log b.pagers in
    let down : AreNumbered numbered_pager (IsDown of_link of_lane (length a.pager)) b.pager t.pager = subst (λ n. AreNumbered numbered_pager (IsDown of_link of_lane n) b.pager t.pager) (sym count) (subst (λ (log : List Message). AreNumbered numbered_pager (IsDown of_link log (length b.pager)) b.pager t.pager) lane_log down_link) in
    same_recorded s t (a.version ∙ sym b.version) (a.geometry ∙ sym b.geometry) (a.init ∙ sym b.init) (a.guests ∙ (guests ∙ sym b.guests))
    (one_numbered numbered_source (IsUp of_link (length a.pager)) source_form a.source b.source s.source t.source (one_up of_link (length a.pager) one_link) sources a.sources up)
    (a.links ∙ (ap (λ (rs : List LinkRec). rs ++ map link_delivery of_link) links ∙ (ap (λ (ms : List Message). map link_of b.link ++ map link_delivery ms) (sym link_log) ∙ sym b.links)))
    (a.lanes ∙ (ap (λ (rs : List LaneRec). rs ++ map lane_delivery of_lane) lanes ∙ (ap (λ (ms : List Message). map lane_of b.lane ++ map lane_delivery ms) (sym lane_log) ∙ sym b.lanes)))
    (one_numbered numbered_pager (IsDown of_link of_lane (length a.pager)) pager_form a.pager b.pager s.pager t.pager (one_down of_link of_lane (length a.pager) one_link one_lane) pagers a.pagers down)
