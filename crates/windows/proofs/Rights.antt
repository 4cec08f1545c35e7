-- Marks by which a pass finds the same marks again are those of the recording.
use Rattle.std.proofs.Common.{◌≡◌, ℕ, zero, suc, ◌+◌, Bool, List, [], ◌∷◌, length, map, Option, Some, None, refl, sym, ap, ◌∙◌, arith}
use Rattle.std.specs.Prelude.{slice_get, nat_lt, max, if◌then◌else◌}
use Rattle.std.specs.List.{range_with_len}
use Rattle.std.specs.Option.{option_map}
use Rattle.std.proofs.lemmas.Option.{slice_get-map}
use Rattle.migration_types.specs.declared.records.LogName.TheVariants.{Guest}
use Rattle.migration_types.specs.declared.records.GuestRec.{GuestRec}
use Rattle.migration_types.specs.declared.records.GuestRec.TheVariants.{Read, Write, Release, Miss, Halt, Resume, See}
use Rattle.migration_types.specs.declared.records.SourceRec.{SourceRec}
use Rattle.migration_types.specs.declared.records.SourceRec.TheVariants.{Halted, State, Send, Again, Ask, Done, Back}
use Rattle.migration_types.specs.declared.records.LinkRec.{LinkRec}
use Rattle.migration_types.specs.declared.records.LinkRec.TheVariants.{Down, Up}
use Rattle.migration_types.specs.declared.records.LaneRec.{LaneRec}
use Rattle.migration_types.specs.declared.records.LaneRec.TheVariants.{Down as LaneDown}
use Rattle.migration_types.specs.declared.records.PagerRec.{PagerRec}
use Rattle.migration_types.specs.declared.records.PagerRec.TheVariants.{Got, Pull, Ready, Fault, Join, Want, Place, Zero, Skip, All}
use Rattle.migration_types.specs.Sessions.{Recorded}
use Rattle.audit_model.specs.Flat.{changed}
use Rattle.audit_model.specs.Shape.{passes, is_or_repeats}
use Rattle.audit_model.specs.Windows as w
use Rattle.audit_model.specs.Windows.{Numbers, keeps_sending, keeps_asking, keeps_miss, keeps_placement, keeps_link, keeps_lane, keeps_taking, keeps_source, keeps_pager, keeps_guest, newest, reach, further, furthest, is_marked}
use Rattle.windows.specs.declared.marking.Marks.{Marks}
use Rattle.windows.specs.inner.Marks.{has_mark, is_mark}
use Rattle.windows.specs.inner.Guided.{repeats_by, source_by, link_by, lane_by, taking_by, pager_by, guest_marks, guest_by, reach_by, further_by}
use Rattle.windows.specs.inner.Met.{AreRight, Found, AreSame}

marked : {A : Type 0} (f : A → Bool) (o : Option A) → is_marked (option_map f o) ≡ passes f o
marked f None = refl
marked f (Some x) = refl

-- the mark of a record by a test is whether it passes
pub has_passes : {A : Type 0} (f : A → Bool) (xs : List A) (marks : List Bool) (n : ℕ) → marks ≡ map f xs → has_mark marks n ≡ passes f (slice_get xs n)
has_passes f xs marks n e = ap (λ m. has_mark m n) e ∙ ap is_marked (slice_get-map f xs n) ∙ marked f (slice_get xs n)

pub map_same : {A B : Type 0} (f g : A → B) (xs : List A) → ((x : A) → f x ≡ g x) → map f xs ≡ map g xs
map_same f g [] same = refl
map_same f g (x ∷ xs) same = ap (λ y. y ∷ map f xs) (same x) ∙ ap (λ ys. g x ∷ ys) (map_same f g xs same)

mark_passes : (o : Option Bool) → passes is_mark o ≡ is_marked o
mark_passes None = refl
mark_passes (Some b) = refl

newest_map : {A : Type 0} (f : A → Bool) (xs : List A) (marks : List Bool) (n : ℕ) → marks ≡ map f xs → newest is_mark marks n ≡ newest f xs n
newest_map f xs marks zero e = refl
newest_map f xs marks (suc n) e =
    ap (λ b. if b then suc n else newest is_mark marks n) (mark_passes (slice_get marks n) ∙ has_passes f xs marks n e)
    ∙ ap (λ m. if passes f (slice_get xs n) then suc n else m) (newest_map f xs marks n e)

module _ (number : Numbers) (s : Recorded) (known found : Marks) (f : Found number known found s) (same : AreSame known found) where
  sendings : known.source.sendings ≡ map (keeps_sending number) s.source
  sendings = same.sendings ∙ f.source.sendings

  askings : known.pager.askings ≡ map (keeps_asking number) s.pager
  askings = same.askings ∙ f.pager.askings

  misses : known.guest.misses ≡ map (keeps_miss number) s.guest
  misses = same.misses ∙ f.guest.misses

  placements : known.pager.placements ≡ map (keeps_placement number) s.pager
  placements = same.placements ∙ f.pager.placements

  repeat : (r : SourceRec) → repeats_by number known r ≡ is_or_repeats s (keeps_sending number) r
  repeat (Halted halt) = refl
  repeat State = refl
  repeat (Send p content) = refl
  repeat (Again sending) = has_passes (keeps_sending number) s.source known.source.sendings sending sendings
  repeat (Ask up) = refl
  repeat Done = refl
  repeat Back = refl

  repeats : found.source.repeats ≡ map (is_or_repeats s (keeps_sending number)) s.source
  repeats = f.source.repeats ∙ map_same (repeats_by number known) (is_or_repeats s (keeps_sending number)) s.source repeat

  link_rec : (r : LinkRec) → link_by known found.source.repeats r ≡ keeps_link s number r
  link_rec (Down sending) = has_passes (is_or_repeats s (keeps_sending number)) s.source found.source.repeats sending repeats
  link_rec (Up asking) = has_passes (keeps_asking number) s.pager known.pager.askings asking askings

  link_found : found.link ≡ map (keeps_link s number) s.link
  link_found = f.link ∙ map_same (link_by known found.source.repeats) (keeps_link s number) s.link link_rec

  lane_rec : (r : LaneRec) → lane_by found.source.repeats r ≡ keeps_lane s number r
  lane_rec (LaneDown sending) = has_passes (is_or_repeats s (keeps_sending number)) s.source found.source.repeats sending repeats

  lane_found : found.lane ≡ map (keeps_lane s number) s.lane
  lane_found = f.lane ∙ map_same (lane_by found.source.repeats) (keeps_lane s number) s.lane lane_rec

  taking_rec : (r : PagerRec) → taking_by found.link found.lane r ≡ keeps_taking s number r
  taking_rec (Got down) = has_passes (keeps_link s number) s.link found.link down link_found
  taking_rec (Pull down) = has_passes (keeps_lane s number) s.lane found.lane down lane_found
  taking_rec Ready = refl
  taking_rec (Fault miss) = refl
  taking_rec (Join want) = refl
  taking_rec (Want p) = refl
  taking_rec (Place p got content) = refl
  taking_rec (Zero p) = refl
  taking_rec (Skip got) = refl
  taking_rec All = refl

  takings : known.pager.takings ≡ map (keeps_taking s number) s.pager
  takings = same.takings ∙ f.pager.takings ∙ map_same (taking_by found.link found.lane) (keeps_taking s number) s.pager taking_rec

  source_rec : (r : SourceRec) → source_by number known r ≡ keeps_source s number r
  source_rec (Halted halt) = refl
  source_rec State = refl
  source_rec (Send p content) = refl
  source_rec (Again sending) = has_passes (keeps_sending number) s.source known.source.sendings sending sendings
  source_rec (Ask up) = has_passes (keeps_link s number) s.link known.link up (same.link ∙ link_found)
  source_rec Done = refl
  source_rec Back = refl

  pager_rec : (r : PagerRec) → pager_by number known r ≡ keeps_pager s number r
  pager_rec (Got down) = has_passes (keeps_link s number) s.link known.link down (same.link ∙ link_found)
  pager_rec (Pull down) = has_passes (keeps_lane s number) s.lane known.lane down (same.lane ∙ lane_found)
  pager_rec Ready = refl
  pager_rec (Fault miss) = has_passes (keeps_miss number) s.guest known.guest.misses miss misses
  pager_rec (Join want) = has_passes (keeps_asking number) s.pager known.pager.askings want askings
  pager_rec (Want p) = refl
  pager_rec (Place p got content) = refl
  pager_rec (Zero p) = refl
  pager_rec (Skip got) = has_passes (keeps_taking s number) s.pager known.pager.takings got takings
  pager_rec All = refl

  pub reach_same : (placement : ℕ) → reach_by known placement ≡ reach s number placement
  reach_same placement = newest_map (keeps_placement number) s.pager known.pager.placements (suc placement) placements

  further_same : (r : GuestRec) (far : ℕ) → further_by known r far ≡ further s number r far
  further_same (Read vcpu p c value) far = refl
  further_same (Write vcpu p c value) far = refl
  further_same (Release vcpu p) far = refl
  further_same (Miss vcpu p) far = refl
  further_same Halt far = refl
  further_same (Resume ready) far = refl
  further_same (See placement) far = ap (max far) (reach_same placement)

  guest_rec : (n : ℕ) (r : GuestRec) → guest_by number known (furthest s number n) r ≡ keeps_guest s number n r
  guest_rec n (Read vcpu p c value) = refl
  guest_rec n (Write vcpu p c value) = refl
  guest_rec n (Release vcpu p) = refl
  guest_rec n (Miss vcpu p) = refl
  guest_rec n Halt = refl
  guest_rec n (Resume ready) = refl
  guest_rec n (See placement) = ap (nat_lt (furthest s number n)) (reach_same placement)

  keeps_at : ℕ → Bool
  keeps_at n = passes (keeps_guest s number n) (slice_get s.guest n)

  far_next : (n : ℕ) (r : GuestRec) → slice_get s.guest n ≡ Some r → further_by known r (furthest s number n) ≡ furthest s number (n + 1)
  far_next n r at = let next : suc n ≡ n + 1 = omega arith in further_same r (furthest s number n) ∙ sym (ap (λ o. changed (further s number) o (furthest s number n)) at) ∙ ap (furthest s number) next

  guest_from : (n : ℕ) (log : List GuestRec) → ((k : ℕ) → slice_get s.guest (n + k) ≡ slice_get log k) → guest_marks number known (furthest s number n) log ≡ map keeps_at (range_with_len n (length log))
  unfolding keeps_at
  guest_from n [] at = refl
  guest_from n (r ∷ log) at =
      let here : slice_get s.guest n ≡ Some r = ap (slice_get s.guest) (omega arith) ∙ at 0 in
      ap (λ b. b ∷ guest_marks number known (further_by known r (furthest s number n)) log) (guest_rec n r ∙ sym (ap (passes (keeps_guest s number n)) here))
      ∙ ap (λ ms. passes (keeps_guest s number n) (slice_get s.guest n) ∷ ms) (
      ap (λ far. guest_marks number known far log) (far_next n r here)
      ∙ guest_from (n + 1) log (λ k. ap (slice_get s.guest) (omega arith) ∙ at (suc k)))

  guest_found : found.guest.kept ≡ w.marks s number Guest
  unfolding keeps_at
  guest_found = f.guest.kept ∙ guest_from 0 s.guest (λ k. ap (slice_get s.guest) (omega arith))

  pub right : AreRight number known s
  right = record {
    guest = same.guest ∙ guest_found;
    source = same.source ∙ f.source.kept ∙ map_same (source_by number known) (keeps_source s number) s.source source_rec;
    link = same.link ∙ link_found;
    lane = same.lane ∙ lane_found;
    pager = same.pager ∙ f.pager.kept ∙ map_same (pager_by number known) (keeps_pager s number) s.pager pager_rec;
  }
