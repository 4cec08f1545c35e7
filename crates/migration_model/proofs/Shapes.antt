-- The shape of a session that grows.
use Rattle.audit_model.specs.Shape.{IsRightShape, earlier, guest_named, in_phase, in_phase_by, is_alone, is_first_send, is_halt, is_resume, is_send_of, keeps, lane_named, link_named, pager_named, pager_start, source_named, source_start}
use Rattle.audit_model.specs.declared.reasons.ShapeReason.TheVariants.{Both, Named, Phases, SecondSend, Start}
use Rattle.migration_types.specs.Sessions.{Recorded}
use Rattle.migration_types.specs.declared.records.GuestRec.{GuestRec}
use Rattle.migration_types.specs.declared.records.LaneRec.{LaneRec}
use Rattle.migration_types.specs.declared.records.LinkRec.{LinkRec}
use Rattle.migration_types.specs.declared.records.LogName.TheVariants.{Guest, Lane, Link, Pager, Source as FromSource}
use Rattle.migration_types.specs.declared.records.PagerRec.{PagerRec}
use Rattle.migration_types.specs.declared.records.PagerRec.TheVariants.{All, Fault, Got, Join, Place, Pull, Ready, Skip, Want, Zero}
use Rattle.migration_types.specs.declared.records.SourceRec.{SourceRec}
use Rattle.migration_types.specs.declared.records.SourceRec.TheVariants.{Again, Ask, Back, Done, Halted, Send, State}
use Rattle.migration_model.proofs.Grows.{Extends, guest_extends, guest_more, guest_named_stays, lane_named_stays, link_named_stays, links_as, pager_extends, pager_more, pager_named_stays, pager_start_stays, source_extends, source_more, source_named_stays}
use Rattle.migration_model.proofs.Lists.{AllAt, all_push, before_push, length_suc}
use Rattle.std.proofs.Common.{Bool, List, None, Option, Some, [], ap, arith, false, length, not, refl, suc, true, zero, ℕ, ◌<◌, ◌||◌, ◌∙◌, ◌∷◌, ◌≡◌, ◌≤◌}
use Rattle.std.proofs.lemmas.Bool.{lt-ltb, ltb-true}
use Rattle.std.proofs.lemmas.Option.{slice_get_within}
use Rattle.std.specs.Prelude.{nat_lt, slice_get}

-- each record is right but for the starts of the source's and the pager's logs
pub record IsNamed (s : Recorded) : Type 0 where
  pub phases : AllAt (λ n r. in_phase s n r ≡ true) s.guest
  pub guest : AllAt (λ n r. guest_named s r ≡ true) s.guest
  pub source : AllAt (λ n r. source_named s n r ≡ true) s.source
  pub link : AllAt (λ n r. link_named s r ≡ true) s.link
  pub lane : AllAt (λ n r. lane_named s r ≡ true) s.lane
  pub pager : AllAt (λ n r. pager_named s n r ≡ true) s.pager
  pub first_sends : AllAt (λ n r. is_first_send s n r ≡ true) s.source

pub record IsStarted (s : Recorded) : Type 0 where
  pub source : AllAt (λ n r. source_start s n r ≡ true) s.source
  pub pager : AllAt (λ n r. pager_start s n r ≡ true) s.pager

keeps_all : {A : Type 0} (test : ℕ → A → Bool) (log : List A) → AllAt (λ n r. test n r ≡ true) log → (n : ℕ) → keeps (test n) (slice_get log n) ≡ true
keeps_all {A} test log all n = go (slice_get log n) refl
  where
    go : (o : Option A) → slice_get log n ≡ o → keeps (test n) o ≡ true
    go None is = refl
    go (Some x) is = all n x is

-- a host's source starts no guest again
abbrev pub NoBack : Recorded → Type 0
NoBack s = AllAt (λ n r. r ≡ Back → ⊥) s.source

stays_alone : (s : Recorded) (r : SourceRec) → (r ≡ Back → ⊥) → is_alone s r ≡ true
stays_alone s (Halted k) other = refl
stays_alone s State other = refl
stays_alone s (Send p c) other = refl
stays_alone s (Again k) other = refl
stays_alone s (Ask k) other = refl
stays_alone s Done other = refl
stays_alone s Back other = absurd (other refl)

pub right_shape : (s : Recorded) → IsNamed s → IsStarted s → NoBack s → IsRightShape s
right_shape s k b none Phases (Guest, n) = keeps_all (in_phase s) s.guest k.phases n
right_shape s k b none Phases (FromSource, n) = refl
right_shape s k b none Phases (Link, n) = refl
right_shape s k b none Phases (Lane, n) = refl
right_shape s k b none Phases (Pager, n) = refl
right_shape s k b none Named (Guest, n) = keeps_all (λ n. guest_named s) s.guest k.guest n
right_shape s k b none Named (FromSource, n) = keeps_all (source_named s) s.source k.source n
right_shape s k b none Named (Link, n) = keeps_all (λ n. link_named s) s.link k.link n
right_shape s k b none Named (Lane, n) = keeps_all (λ n. lane_named s) s.lane k.lane n
right_shape s k b none Named (Pager, n) = keeps_all (pager_named s) s.pager k.pager n
right_shape s k b none Start (Guest, n) = refl
right_shape s k b none Start (FromSource, n) = keeps_all (source_start s) s.source b.source n
right_shape s k b none Start (Link, n) = refl
right_shape s k b none Start (Lane, n) = refl
right_shape s k b none Start (Pager, n) = keeps_all (pager_start s) s.pager b.pager n
right_shape s k b none SecondSend (Guest, n) = refl
right_shape s k b none SecondSend (FromSource, n) = keeps_all (is_first_send s) s.source k.first_sends n
right_shape s k b none Both (FromSource, n) = keeps_all (λ n. is_alone s) s.source (λ n r is. stays_alone s r (none n r is)) n
right_shape s k b none Both (Guest, n) = refl
right_shape s k b none Both (Link, n) = refl
right_shape s k b none Both (Lane, n) = refl
right_shape s k b none Both (Pager, n) = refl
right_shape s k b none SecondSend (Link, n) = refl
right_shape s k b none SecondSend (Lane, n) = refl
right_shape s k b none SecondSend (Pager, n) = refl

-- the phase of a record is as it was
phase_push : (r : GuestRec) (s : Recorded) (n : ℕ) (x : GuestRec) → n ≤ length s.guest → in_phase (guest_more r s) n x ≡ in_phase_by s.version (earlier is_halt s.guest n) (earlier is_resume s.guest n) x
phase_push r s n x le =
    ap (λ b. in_phase_by s.version b (earlier is_resume (guest_more r s).guest n) x) (before_push (λ y found. is_halt y || found) false s.guest (r ∷ []) n le)
    ∙ ap (λ b. in_phase_by s.version (earlier is_halt s.guest n) b x) (before_push (λ y found. is_resume y || found) false s.guest (r ∷ []) n le)

pub guest_shapes : (r : GuestRec) (s : Recorded) → IsNamed s → in_phase_by s.version (earlier is_halt s.guest (length s.guest)) (earlier is_resume s.guest (length s.guest)) r ≡ true → guest_named s r ≡ true → IsNamed (guest_more r s)
guest_shapes r s k phase named =
    let t = (guest_more r s) in
    let x = guest_extends r s in
    record {
      phases = all_push (λ n y. in_phase s n y ≡ true) (λ n y. in_phase t n y ≡ true) s.guest r k.phases
          (λ n y is e. let lt : n < length s.guest = slice_get_within s.guest n y is in phase_push r s n y (omega arith) ∙ e)
          (phase_push r s (length s.guest) r (omega arith) ∙ phase);
      guest = all_push (λ n y. guest_named s y ≡ true) (λ n y. guest_named t y ≡ true) s.guest r k.guest (λ n y is e. guest_named_stays s t x y e) (guest_named_stays s t x r named);
      source = λ n y is. source_named_stays s t x n y (k.source n y is);
      link = λ n y is. link_named_stays s t x y (k.link n y is);
      lane = λ n y is. lane_named_stays s t x y (k.lane n y is);
      pager = λ n y is. pager_named_stays s t x n y (k.pager n y is);
      first_sends = k.first_sends;
    }

pub guest_starts : (r : GuestRec) (s : Recorded) → IsStarted s → IsStarted (guest_more r s)
guest_starts r s b = record {
  source = b.source;
  pager = λ n y is. pager_start_stays s (guest_more r s) (guest_extends r s) n y (b.pager n y is);
}

pub links_starts : (link : List LinkRec) (lane : List LaneRec) (s : Recorded) → Extends s (links_as link lane s) → IsStarted s → IsStarted (links_as link lane s)
links_starts link lane s x b = record {
  source = b.source;
  pager = λ n y is. pager_start_stays s (links_as link lane s) x n y (b.pager n y is);
}

-- a record that may stand past the start
abbrev pub goes_on : SourceRec → Bool
goes_on (Halted k) = false
goes_on State = false
goes_on Back = false
goes_on _ = true

longer : (n : ℕ) → nat_lt 1 n ≡ true → nat_lt 1 (suc n) ≡ true
longer n e = let lt : 1 < n = ltb-true 1 n e in lt-ltb 1 (suc n) (omega arith)

source_start_stays : (r : SourceRec) (s : Recorded) (n : ℕ) (y : SourceRec) → (y ≡ Back → ⊥) → source_start s n y ≡ true → source_start (source_more r s) n y ≡ true
source_start_stays r s zero (Halted k) other e = ap (λ n. nat_lt 1 n) (length_suc s.source r) ∙ longer (length s.source) e
source_start_stays r s zero State other e = absurd (cc)
source_start_stays r s zero (Send p c) other e = absurd (cc)
source_start_stays r s zero (Again k) other e = absurd (cc)
source_start_stays r s zero (Ask k) other e = absurd (cc)
source_start_stays r s zero Done other e = absurd (cc)
source_start_stays r s zero Back other e = absurd (cc)
source_start_stays r s (suc zero) State other e = refl
source_start_stays r s (suc zero) (Halted k) other e = absurd (cc)
source_start_stays r s (suc zero) (Send p c) other e = absurd (cc)
source_start_stays r s (suc zero) (Again k) other e = absurd (cc)
source_start_stays r s (suc zero) (Ask k) other e = absurd (cc)
source_start_stays r s (suc zero) Done other e = absurd (cc)
source_start_stays r s (suc zero) Back other e = absurd (cc)
source_start_stays r s (suc (suc n)) (Halted k) other e = absurd (cc)
source_start_stays r s (suc (suc n)) State other e = absurd (cc)
source_start_stays r s (suc (suc n)) (Send p c) other e = refl
source_start_stays r s (suc (suc n)) (Again k) other e = refl
source_start_stays r s (suc (suc n)) (Ask k) other e = refl
source_start_stays r s (suc (suc n)) Done other e = refl
source_start_stays r s (suc (suc n)) Back other e = absurd (other refl)

start_goes_on : (s : Recorded) (n : ℕ) (r : SourceRec) → 2 ≤ n → goes_on r ≡ true → source_start s n r ≡ true
start_goes_on s zero r le e = absurd (omega arith)
start_goes_on s (suc zero) r le e = absurd (omega arith)
start_goes_on s (suc (suc n)) (Halted k) le e = absurd (cc)
start_goes_on s (suc (suc n)) State le e = absurd (cc)
start_goes_on s (suc (suc n)) (Send p c) le e = refl
start_goes_on s (suc (suc n)) (Again k) le e = refl
start_goes_on s (suc (suc n)) (Ask k) le e = refl
start_goes_on s (suc (suc n)) Done le e = refl
start_goes_on s (suc (suc n)) Back le e = absurd (cc)

pub source_starts : (r : SourceRec) (s : Recorded) → 2 ≤ length s.source → goes_on r ≡ true → NoBack s → IsStarted s → IsStarted (source_more r s)
source_starts r s le on none b = record {
  source = all_push (λ n y. source_start s n y ≡ true) (λ n y. source_start (source_more r s) n y ≡ true) s.source r b.source
      (λ n y is e. source_start_stays r s n y (none n y is) e)
      (start_goes_on (source_more r s) (length s.source) r le on);
  pager = λ n y is. pager_start_stays s (source_more r s) (source_extends r s) n y (b.pager n y is);
}

abbrev pub pager_goes_on : PagerRec → Bool
pager_goes_on Ready = false
pager_goes_on _ = true

pager_start_goes_on : (s : Recorded) (n : ℕ) (r : PagerRec) → 2 ≤ n → pager_goes_on r ≡ true → pager_start s n r ≡ true
pager_start_goes_on s zero r le e = absurd (omega arith)
pager_start_goes_on s (suc zero) r le e = absurd (omega arith)
pager_start_goes_on s (suc (suc n)) Ready le e = absurd (cc)
pager_start_goes_on s (suc (suc n)) (Got k) le e = refl
pager_start_goes_on s (suc (suc n)) (Pull k) le e = refl
pager_start_goes_on s (suc (suc n)) (Fault k) le e = refl
pager_start_goes_on s (suc (suc n)) (Join k) le e = refl
pager_start_goes_on s (suc (suc n)) (Want p) le e = refl
pager_start_goes_on s (suc (suc n)) (Place p k c) le e = refl
pager_start_goes_on s (suc (suc n)) (Zero p) le e = refl
pager_start_goes_on s (suc (suc n)) (Skip k) le e = refl
pager_start_goes_on s (suc (suc n)) All le e = refl

pub pager_starts : (r : PagerRec) (s : Recorded) → 2 ≤ length s.pager → pager_goes_on r ≡ true → IsStarted s → IsStarted (pager_more r s)
pager_starts r s le on b = record {
  source = b.source;
  pager = all_push (λ n y. pager_start s n y ≡ true) (λ n y. pager_start (pager_more r s) n y ≡ true) s.pager r b.pager
      (λ n y is e. pager_start_stays s (pager_more r s) (pager_extends r s) n y e)
      (pager_start_goes_on (pager_more r s) (length s.pager) r le on);
}

first_push : (r : SourceRec) (s : Recorded) (n : ℕ) (y : SourceRec) → n ≤ length s.source → is_first_send (source_more r s) n y ≡ is_first_send s n y
first_push r s n (Send p c) le = ap (λ b. not b) (before_push (λ z found. is_send_of p z || found) false s.source (r ∷ []) n le)
first_push r s n (Halted k) le = refl
first_push r s n State le = refl
first_push r s n (Again k) le = refl
first_push r s n (Ask k) le = refl
first_push r s n Done le = refl
first_push r s n Back le = refl

pub source_shapes : (r : SourceRec) (s : Recorded) → IsNamed s → source_named s (length s.source) r ≡ true → is_first_send s (length s.source) r ≡ true → IsNamed (source_more r s)
source_shapes r s k named first =
    let t = (source_more r s) in
    let x = source_extends r s in
    record {
      phases = k.phases;
      guest = λ n y is. guest_named_stays s t x y (k.guest n y is);
      source = all_push (λ n y. source_named s n y ≡ true) (λ n y. source_named t n y ≡ true) s.source r k.source (λ n y is e. source_named_stays s t x n y e) (source_named_stays s t x (length s.source) r named);
      link = λ n y is. link_named_stays s t x y (k.link n y is);
      lane = λ n y is. lane_named_stays s t x y (k.lane n y is);
      pager = λ n y is. pager_named_stays s t x n y (k.pager n y is);
      first_sends = all_push (λ n y. is_first_send s n y ≡ true) (λ n y. is_first_send t n y ≡ true) s.source r k.first_sends
          (λ n y is e. let lt : n < length s.source = slice_get_within s.source n y is in first_push r s n y (omega arith) ∙ e)
          (first_push r s (length s.source) r (omega arith) ∙ first);
    }

pub links_shapes : (link : List LinkRec) (lane : List LaneRec) (s : Recorded) → Extends s (links_as link lane s) → IsNamed s → AllAt (λ n y. link_named s y ≡ true) link → AllAt (λ n y. lane_named s y ≡ true) lane → IsNamed (links_as link lane s)
links_shapes link lane s x k over_link over_lane =
    let t = links_as link lane s in
    record {
      phases = k.phases;
      guest = λ n y is. guest_named_stays s t x y (k.guest n y is);
      source = λ n y is. source_named_stays s t x n y (k.source n y is);
      link = λ n y is. link_named_stays s t x y (over_link n y is);
      lane = λ n y is. lane_named_stays s t x y (over_lane n y is);
      pager = λ n y is. pager_named_stays s t x n y (k.pager n y is);
      first_sends = k.first_sends;
    }

pub pager_shapes : (r : PagerRec) (s : Recorded) → IsNamed s → pager_named s (length s.pager) r ≡ true → IsNamed (pager_more r s)
pager_shapes r s k named =
    let t = (pager_more r s) in
    let x = pager_extends r s in
    record {
      phases = k.phases;
      guest = λ n y is. guest_named_stays s t x y (k.guest n y is);
      source = λ n y is. source_named_stays s t x n y (k.source n y is);
      link = λ n y is. link_named_stays s t x y (k.link n y is);
      lane = λ n y is. lane_named_stays s t x y (k.lane n y is);
      pager = all_push (λ n y. pager_named s n y ≡ true) (λ n y. pager_named t n y ≡ true) s.pager r k.pager (λ n y is e. pager_named_stays s t x n y e) (pager_named_stays s t x (length s.pager) r named);
      first_sends = k.first_sends;
    }
