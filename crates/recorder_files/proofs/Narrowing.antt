-- Fronts that get smaller, as a loop has them.
use Rattle.std.proofs.Common.{◌≡◌, ◌≢◌, ℕ, ◌+◌, ◌<◌, ◌≤◌, ◌⊎◌, inl, inr, Bool, true, false, refl, ap, ◌∙◌, arith}
use Rattle.std.specs.Prelude.{min, ◌==◌, ◌&&◌, not}
use Rattle.std.proofs.lemmas.Bool.Decides.{nat_tests}
use Rattle.std.proofs.lemmas.Bool.{cases_lt}
use Rattle.migration_types.specs.declared.records.LogName.{LogName}
use Rattle.migration_types.specs.declared.records.LogName.TheVariants.{Guest, Source, Link, Lane, Pager}
use Rattle.migration_types.specs.Sessions.{Recorded, log_length}
use Rattle.recorder_files.specs.declared.fronts.Front.{Front}
use Rattle.recorder_files.specs.declared.naming.Naming.{Naming}
use Rattle.recorder_files.specs.Fronts.{cursors_of, IsFront, IsGreatestFront, IsGreatestFrontWithin}
use Rattle.recorder_files.specs.Named.{IsNaming}
use Rattle.recorder_files.specs.Reaches.{names_in}
use Rattle.recorder_files.specs.inner.Reaches.{reach}
use Rattle.audit_model.specs.Mergings.{Cursors}
use Rattle.recorder_files.proofs.Cuts.{is_front, still_below}

-- no front of at most so many records has more, and the next one ends each log in front of a record that names one which is not there
pub record IsStep (s : Recorded) (most front next : Front) : Type 0 where
  pub within : (log : LogName) → cursors_of front log ≤ log_length s log
  pub few : (log : LogName) → cursors_of front log ≤ cursors_of most log
  pub above : (d : Cursors) → IsFront s d → ((log : LogName) → d log ≤ cursors_of most log) → (log : LogName) → d log ≤ cursors_of front log
  pub next_is : (log : LogName) → cursors_of next log ≡ min (cursors_of front log) (reach (cursors_of front) (names_in s log))

pub record Narrows (naming : Naming) (most front next : Front) : Type 0 where
  pub smaller : (log : LogName) → cursors_of next log ≤ cursors_of front log
  pub steps : (s : Recorded) → IsNaming naming s → ((log : LogName) → cursors_of most log ≤ log_length s log) → IsStep s most front next

abbrev pub size : Front → ℕ
size f = f.guest + f.source + f.link + f.lane + f.pager

pub begins : (naming : Naming) (most next : Front) → ((log : LogName) → cursors_of next log ≤ cursors_of most log) → ((s : Recorded) → IsNaming naming s → (log : LogName) → cursors_of next log ≡ min (cursors_of most log) (reach (cursors_of most) (names_in s log))) → Narrows naming most most next
begins naming most next smaller reaches = record {
  smaller = smaller;
  steps = λ s is within. record {
    within = within;
    few = λ log. omega arith;
    above = λ d f few log. few log;
    next_is = reaches s is;
  };
}

pub goes_on : (naming : Naming) (most old front next : Front) → Narrows naming most old front → ((log : LogName) → cursors_of next log ≤ cursors_of front log) → ((s : Recorded) → IsNaming naming s → (log : LogName) → cursors_of next log ≡ min (cursors_of front log) (reach (cursors_of front) (names_in s log))) → Narrows naming most front next
goes_on naming most old front next n smaller reaches = record {
  smaller = smaller;
  steps = λ s is within. let step = n.steps s is within in record {
    within = λ log. let e = step.within log in let w = n.smaller log in omega (arith, e, w);
    few = λ log. let e = step.few log in let w = n.smaller log in omega (arith, e, w);
    above = λ d f few log. let e = step.next_is log in let a = still_below s (cursors_of old) d f (step.above d f few) log in omega (arith, e, a);
    next_is = reaches s is;
  };
}

abbrev made : ℕ → ℕ → ℕ → ℕ → ℕ → Front
made guest source link lane pager = record { guest = guest; source = source; link = link; lane = lane; pager = pager }

joined : (a b : Front) → a.guest ≡ b.guest → a.source ≡ b.source → a.link ≡ b.link → a.lane ≡ b.lane → a.pager ≡ b.pager → a ≡ b
joined a b g s l n p =
    ap (λ x. made x a.source a.link a.lane a.pager) g
    ∙ ap (λ x. made b.guest x a.link a.lane a.pager) s
    ∙ ap (λ x. made b.guest b.source x a.lane a.pager) l
    ∙ ap (λ x. made b.guest b.source b.link x a.pager) n
    ∙ ap (λ x. made b.guest b.source b.link b.lane x) p

all_same : (a b c d e p q r s t : ℕ) → a ≤ p → b ≤ q → c ≤ r → d ≤ s → e ≤ t → p + q + r + s + t ≤ a + b + c + d + e → (a ≡ p) × (b ≡ q) × (c ≡ r) × (d ≡ s) × (e ≡ t)
all_same a b c d e p q r s t f g h i j le = (omega arith, omega arith, omega arith, omega arith, omega arith)

same_front : (a b : Front) → ((log : LogName) → cursors_of a log ≤ cursors_of b log) → size b ≤ size a → a ≡ b
same_front a b below le =
    let e = all_same a.guest a.source a.link a.lane a.pager b.guest b.source b.link b.lane b.pager (below Guest) (below Source) (below Link) (below Lane) (below Pager) le in
    joined a b e.0 e.1 e.2 e.3 e.4

pub gets_smaller : (naming : Naming) (most front next : Front) → Narrows naming most front next → next ≢ front → size next < size front
gets_smaller naming most front next n other = go (cases_lt (size next) (size front))
  where
    go : (size next < size front) ⊎ (size front ≤ size next) → size next < size front
    go (inl lt) = lt
    go (inr le) = absurd (other (same_front next front n.smaller le))

-- what a comparison of two fronts says
abbrev pub are_same : Front → Front → Bool
are_same a b = (a.guest == b.guest) && ((a.source == b.source) && ((a.link == b.link) && ((a.lane == b.lane) && (a.pager == b.pager))))

same_numbers : (a b c d e p q r s t : ℕ) → a ≡ p → b ≡ q → c ≡ r → d ≡ s → e ≡ t → true ≡ not ((a == p) && ((b == q) && ((c == r) && ((d == s) && (e == t))))) → ⊥
same_numbers a b c d e p q r s t f g h i j other = grind (arith, nat_tests)

pub unlike : (a b : Front) → true ≡ not (are_same a b) → a ≢ b
unlike a b other e = same_numbers a.guest a.source a.link a.lane a.pager b.guest b.source b.link b.lane b.pager (ap (λ f. f.guest) e) (ap (λ f. f.source) e) (ap (λ f. f.link) e) (ap (λ f. f.lane) e) (ap (λ f. f.pager) e) other

no_other : (x : Bool) → false ≡ not x → x ≡ true
no_other true e = refl
no_other false e = absurd (cc)

first_true : (x y : Bool) → (x && y) ≡ true → x ≡ true
first_true true y e = refl
first_true false y e = absurd (cc)

later_true : (x y : Bool) → (x && y) ≡ true → y ≡ true
later_true true y e = e
later_true false y e = absurd (cc)

equal : (x y : ℕ) → (x == y) ≡ true → x ≡ y
equal x y e = grind (arith, nat_tests)

pub alike : (a b : Front) → false ≡ not (are_same a b) → a ≡ b
alike a b same =
    let all : are_same a b ≡ true = no_other (are_same a b) same in
    let four : ((a.source == b.source) && ((a.link == b.link) && ((a.lane == b.lane) && (a.pager == b.pager)))) ≡ true = later_true (a.guest == b.guest) ((a.source == b.source) && ((a.link == b.link) && ((a.lane == b.lane) && (a.pager == b.pager)))) all in
    let three : ((a.link == b.link) && ((a.lane == b.lane) && (a.pager == b.pager))) ≡ true = later_true (a.source == b.source) ((a.link == b.link) && ((a.lane == b.lane) && (a.pager == b.pager))) four in
    let two : ((a.lane == b.lane) && (a.pager == b.pager)) ≡ true = later_true (a.link == b.link) ((a.lane == b.lane) && (a.pager == b.pager)) three in
    let guest : a.guest ≡ b.guest = equal a.guest b.guest (first_true (a.guest == b.guest) ((a.source == b.source) && ((a.link == b.link) && ((a.lane == b.lane) && (a.pager == b.pager)))) all) in
    let source : a.source ≡ b.source = equal a.source b.source (first_true (a.source == b.source) ((a.link == b.link) && ((a.lane == b.lane) && (a.pager == b.pager))) four) in
    let link : a.link ≡ b.link = equal a.link b.link (first_true (a.link == b.link) ((a.lane == b.lane) && (a.pager == b.pager)) three) in
    let lane : a.lane ≡ b.lane = equal a.lane b.lane (first_true (a.lane == b.lane) (a.pager == b.pager) two) in
    let pager : a.pager ≡ b.pager = equal a.pager b.pager (later_true (a.lane == b.lane) (a.pager == b.pager) two) in
    joined a b guest source link lane pager

pub ends : (naming : Naming) (most front next : Front) → Narrows naming most front next → next ≡ front → (s : Recorded) → IsNaming naming s → ((log : LogName) → cursors_of most log ≤ log_length s log) → IsGreatestFrontWithin s (cursors_of most) (cursors_of front)
ends naming most front next n same s is within = let step = n.steps s is within in record {
  front = is_front s (cursors_of front) step.within (λ log. at_reach (cursors_of next log) (cursors_of front log) (reach (cursors_of front) (names_in s log)) (step.next_is log) (ap (λ f. cursors_of f log) same));
  few = step.few;
  greatest = step.above;
}
  where
    at_reach : (x y r : ℕ) → x ≡ min y r → x ≡ y → y ≤ r
    at_reach x y r e f = omega arith

-- the greatest of all is the greatest within all records
pub greatest_of_all : (s : Recorded) (counts c : Front) → ((log : LogName) → cursors_of counts log ≡ log_length s log) → IsGreatestFrontWithin s (cursors_of counts) (cursors_of c) → IsGreatestFront s (cursors_of c)
greatest_of_all s counts c many g = record { front = g.front; greatest = λ d f log. g.greatest d f (λ at. let e = many at in let w = f.within at in omega (arith, e, w)) log }

pub no_more_than_all : (s : Recorded) (counts : Front) → ((log : LogName) → cursors_of counts log ≡ log_length s log) → (log : LogName) → cursors_of counts log ≤ log_length s log
no_more_than_all s counts many log = let e = many log in omega (arith, e)
