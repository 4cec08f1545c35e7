-- The guest at home, and the halt.
use Rattle.audit_model.specs.Faults.{IsOver}
use Rattle.audit_model.specs.Flat.{before, cell_after, changed, flat, halt_place, home, home_after, in_ledger, released_after}
use Rattle.audit_model.specs.Mergings.{IsMerging}
use Rattle.audit_model.specs.Shape.{earlier, guest_named, in_phase_by, is_halt, is_resume, may_release, source_start}
use Rattle.audit_model.specs.declared.home.Home.TheVariants.{AtSource, AtTarget}
use Rattle.migration_types.specs.Extents.{Extent}
use Rattle.migration_types.specs.Memory.{Memory, with_cell, with_zeros}
use Rattle.migration_types.specs.PageSets.{Pages, with_page, without_page}
use Rattle.migration_types.specs.Receipts.{Name, guest_receipt}
use Rattle.migration_types.specs.Sessions.{GuestRecFits, HasLane, Recorded, log_length}
use Rattle.migration_types.specs.declared.version.Version.{Version}
use Rattle.migration_types.specs.declared.version.Version.TheVariants.{One, Two}
use Rattle.migration_types.specs.declared.records.GuestRec.{GuestRec}
use Rattle.migration_types.specs.declared.records.GuestRec.TheVariants.{Halt, Miss, Read, Release, Resume, See, Write}
use Rattle.migration_types.specs.declared.records.LogName.{LogName}
use Rattle.migration_types.specs.declared.records.LogName.TheVariants.{Guest, Lane, Link, Pager, Source as FromSource}
use Rattle.migration_types.specs.declared.records.PagerRec.TheVariants.{All}
use Rattle.migration_types.specs.declared.records.SourceRec.{SourceRec}
use Rattle.migration_types.specs.declared.records.SourceRec.TheVariants.{Done, Halted, State}
use Rattle.migration_model.proofs.Cleans.{GuestClean, IsClean, flat_push, guest_cleans, source_cleans}
use Rattle.migration_model.proofs.Facts.{AwayKept, VcpusKept}
use Rattle.migration_model.proofs.Grows.{IsThere, guest_merges, guest_more, names, names_none, source_merges, source_more}
use Rattle.migration_model.proofs.Guests.{each_get, vcpu_low, vcpus_set}
use Rattle.migration_model.proofs.Limits.{GuestWithin, IsLimited, IsWide, guest_limits, source_limits, wide_cell, wide_initial, wide_zeros}
use Rattle.migration_model.proofs.Lists.{AllAt, all_push, before_end, before_push, get_new, get_push, nothing, passes_at}
use Rattle.migration_model.proofs.Orders.{order_guest, order_halt, order_none}
use Rattle.migration_model.proofs.Pushes.{flat_end}
use Rattle.migration_model.proofs.Shapes.{IsNamed, guest_shapes, source_shapes}
use Rattle.migration_model.specs.Events.{halted, home_ops, home_step}
use Rattle.migration_model.specs.Books.{BooksBefore, IsScript, Scripted, Vcpu, VcpuFits, session_after, session_before, new_names}
use Rattle.migration_events.specs.Ops.{OpFits}
use Rattle.std.proofs.Common.{Bool, List, None, Option, Some, [], ap, arith, false, inl, inr, length, refl, subst, suc, sym, true, zero, ℕ, ◌++◌, ◌<◌, ◌||◌, ◌∙◌, ◌∷◌, ◌≡◌, ◌⊎◌}
use Rattle.std.proofs.lemmas.Option.{slice_get_within}
use Rattle.std.specs.List.{AllByRecursion, range_with_len}
use Rattle.std.specs.Prelude.{slice_get, slice_set}
use Rattle.target_side.specs.GuestPart.{guest_access, new_guest}
use Rattle.migration_events.specs.declared.ops.Op.{Op}
use Rattle.migration_events.specs.declared.ops.Op.TheVariants.{Read as ReadCell, Release as ReleasePage, Write as WriteCell}

-- what a guest may record at home
abbrev pub is_op : GuestRec → Bool
is_op (Read v p c x) = true
is_op (Write v p c x) = true
is_op (Release v p) = true
is_op _ = false

pub record HomeKept (o : List Name) (h : BooksBefore) : Type 0 where
  pub ops : AllAt (λ n r. is_op r ≡ true) h.guest.log
  pub named : IsNamed (session_before h)
  pub merges : IsMerging (session_before h) o
  pub limits : IsLimited (session_before h)
  pub reads : AllAt (GuestClean (session_before h)) h.guest.log
  pub memory_is : (p c : ℕ) → h.guest.memory p c ≡ flat (session_before h) (length h.guest.log) p c
  pub wide : IsWide h.guest.memory
  pub ledger_is : (p : ℕ) → h.guest.ledger p ≡ in_ledger (session_before h) (length h.guest.log) p
  pub unhalted : earlier is_halt h.guest.log (length h.guest.log) ≡ false
  pub unresumed : earlier is_resume h.guest.log (length h.guest.log) ≡ false
  pub is_home : home (session_before h) (length h.guest.log) ≡ AtSource
  pub vcpus : VcpusKept h.version h.guest.geometry h.vcpus
  pub lanes : h.has_lane ≡ true → HasLane h.version

-- the books after an event, with the order that it leaves
abbrev pub Stays : List Name → BooksBefore → BooksBefore → Type 0
Stays o h g = HomeKept (o ++ new_names (session_before h) (session_before g)) g

no_halt : (r : GuestRec) → is_op r ≡ true → is_halt r ≡ false
no_halt (Read v p c x) e = refl
no_halt (Write v p c x) e = refl
no_halt (Release v p) e = refl
no_halt (Miss v p) e = refl
no_halt Halt e = absurd (cc)
no_halt (Resume k) e = refl
no_halt (See k) e = refl

no_resume : (r : GuestRec) → is_op r ≡ true → is_resume r ≡ false
no_resume (Read v p c x) e = refl
no_resume (Write v p c x) e = refl
no_resume (Release v p) e = refl
no_resume (Miss v p) e = refl
no_resume Halt e = refl
no_resume (Resume k) e = absurd (cc)
no_resume (See k) e = refl

stays_home : (r : GuestRec) → is_op r ≡ true → home_after r AtSource ≡ AtSource
stays_home (Read v p c x) e = refl
stays_home (Write v p c x) e = refl
stays_home (Release v p) e = refl
stays_home (Miss v p) e = refl
stays_home Halt e = absurd (cc)
stays_home (Resume k) e = absurd (cc)
stays_home (See k) e = refl

-- in both versions a page may be released before the halt
release_phase : (version : Version) → may_release version false false ≡ true
release_phase One = refl
release_phase Two = refl

op_phase : (version : Version) (r : GuestRec) → is_op r ≡ true → in_phase_by version false false r ≡ true
op_phase version (Read v p c x) e = refl
op_phase version (Write v p c x) e = refl
op_phase version (Release v p) e = release_phase version
op_phase version (Miss v p) e = absurd (cc)
op_phase version Halt e = absurd (cc)
op_phase version (Resume k) e = absurd (cc)
op_phase version (See k) e = absurd (cc)

op_named : (s : Recorded) (r : GuestRec) → is_op r ≡ true → guest_named s r ≡ true
op_named s (Read v p c x) e = refl
op_named s (Write v p c x) e = refl
op_named s (Release v p) e = refl
op_named s (Miss v p) e = refl
op_named s Halt e = refl
op_named s (Resume k) e = absurd (cc)
op_named s (See k) e = absurd (cc)

op_receipt : (s : Recorded) (r : GuestRec) → is_op r ≡ true → IsThere s (guest_receipt r)
op_receipt s (Read v p c x) e = names_none s
op_receipt s (Write v p c x) e = names_none s
op_receipt s (Release v p) e = names_none s
op_receipt s (Miss v p) e = names_none s
op_receipt s Halt e = names_none s
op_receipt s (Resume k) e = absurd (cc)
op_receipt s (See k) e = absurd (cc)

op_within : (e : Extent) (r : GuestRec) → is_op r ≡ true → GuestRecFits e r → GuestWithin e r
op_within e (Read v p c x) is fits = fits
op_within e (Write v p c x) is fits = fits
op_within e (Release v p) is fits = fits
op_within e (Miss v p) is fits = fits
op_within e Halt is fits = tt
op_within e (Resume k) is fits = tt
op_within e (See k) is fits = tt

phase_at : {o : List Name} (h : BooksBefore) → HomeKept o h → (r : GuestRec) (b : Bool) → in_phase_by h.version false false r ≡ b → in_phase_by h.version (earlier is_halt h.guest.log (length h.guest.log)) (earlier is_resume h.guest.log (length h.guest.log)) r ≡ b
phase_at h k r b e = ap (λ x. in_phase_by h.version x (earlier is_resume h.guest.log (length h.guest.log)) r) k.unhalted ∙ ap (λ x. in_phase_by h.version false x r) k.unresumed ∙ e

pub home_clean : (h : BooksBefore) (memory : Memory) (ledger : Pages) → AllAt (GuestClean (session_before h)) h.guest.log → IsClean (session_before h) memory ledger
home_clean h memory ledger reads = record { guest = reads; source = λ n y is. nothing n y is; pager = λ n y is. nothing n y is }

-- one more record at home
home_pushed : {o : List Name} (r : GuestRec) (memory : Memory) (ledger : Pages) (h : BooksBefore) → HomeKept o h → is_op r ≡ true →
    GuestClean (session_before h) (length h.guest.log) r → GuestRecFits h.guest.geometry r →
    ((p c : ℕ) → memory p c ≡ cell_after p c r (h.guest.memory p c)) → ((p : ℕ) → ledger p ≡ released_after p r (h.guest.ledger p)) → IsWide memory →
    HomeKept (o ++ (Guest, length h.guest.log) ∷ []) (record h { guest = record h.guest { log = h.guest.log ++ r ∷ []; memory = memory; ledger = ledger } })
home_pushed {o} r memory ledger h k op clean fits cells pages wide =
    let s = session_before h in
    record {
      ops = all_push (λ n y. is_op y ≡ true) (λ n y. is_op y ≡ true) h.guest.log r k.ops (λ n y is e. e) op;
      named = guest_shapes r s k.named (phase_at h k r true (op_phase h.version r op)) (op_named s r op);
      merges = guest_merges r s o (op_receipt s r op) k.merges;
      limits = guest_limits r s (op_within h.guest.geometry r op fits) k.limits;
      reads = (guest_cleans r s memory ledger clean (home_clean h memory ledger k.reads)).guest;
      memory_is = λ p c. cells p c ∙ ap (λ x. cell_after p c r x) (k.memory_is p c) ∙ sym (flat_end r s p c);
      wide = wide;
      ledger_is = λ p. pages p ∙ ap (λ x. released_after p r x) (k.ledger_is p) ∙ sym (before_end (released_after p) false h.guest.log r);
      unhalted = before_end (λ y found. is_halt y || found) false h.guest.log r ∙ ap (λ b. b || earlier is_halt h.guest.log (length h.guest.log)) (no_halt r op) ∙ k.unhalted;
      unresumed = before_end (λ y found. is_resume y || found) false h.guest.log r ∙ ap (λ b. b || earlier is_resume h.guest.log (length h.guest.log)) (no_resume r op) ∙ k.unresumed;
      is_home = before_end home_after AtSource h.guest.log r ∙ ap (λ x. home_after r x) k.is_home ∙ stays_home r op;
      vcpus = k.vcpus;
      lanes = k.lanes;
    }

not_late : {o : List Name} (h : BooksBefore) → HomeKept o h → {A : Type 0} → home (session_before h) (length h.guest.log) ≡ AtTarget → A
not_late h k e = absurd (let f = k.is_home in cc)

-- the order at the end of an event
stay_none : (o : List Name) (h : BooksBefore) → HomeKept o h → Stays o h h
stay_none o h k = subst (λ x. HomeKept x h) (sym (order_none o (session_before h))) k

stay_one : (o : List Name) (s : Recorded) (r : GuestRec) (g : BooksBefore) → HomeKept (o ++ (Guest, length s.guest) ∷ []) g → HomeKept (o ++ new_names s (guest_more r s)) g
stay_one o s r g k = subst (λ x. HomeKept x g) (sym (order_guest o s r)) k

home_op_keeps : (o : List Name) (v : ℕ) (op : Op) (h : BooksBefore) → HomeKept o h → v < 64 → OpFits h.guest.geometry op → Stays o h (record h { guest = guest_access v op h.guest })
home_op_keeps o v (ReadCell p c) h k low fits =
    let r = Read v p c (h.guest.memory p c) in
    stay_one o (session_before h) r _ (home_pushed r h.guest.memory h.guest.ledger h k refl (k.memory_is p c, λ late. not_late h k late) (low, fits.0, fits.1, k.wide p c) (λ q d. refl) (λ q. refl) k.wide)
home_op_keeps o v (WriteCell p c x) h k low fits =
    let r = Write v p c x in
    stay_one o (session_before h) r _ (home_pushed r (with_cell p c x h.guest.memory) (without_page p h.guest.ledger) h k refl (λ late. not_late h k late) (low, fits.0, fits.1, fits.2) (λ q d. refl) (λ q. refl) (wide_cell p c x h.guest.memory fits.2 k.wide))
home_op_keeps o v (ReleasePage p) h k low fits =
    let r = Release v p in
    stay_one o (session_before h) r _ (home_pushed r (with_zeros p h.guest.memory) (with_page p h.guest.ledger) h k refl tt (low, fits) (λ q d. refl) (λ q. refl) (wide_zeros p h.guest.memory k.wide))

home_vcpus : {o : List Name} (vcpus : List Vcpu) (h : BooksBefore) → HomeKept o h → VcpusKept h.version h.guest.geometry vcpus → HomeKept o (record h { vcpus = vcpus })
home_vcpus vcpus h k new = record { ops = k.ops; named = k.named; merges = k.merges; limits = k.limits; reads = k.reads; memory_is = k.memory_is; wide = k.wide; ledger_is = k.ledger_is; unhalted = k.unhalted; unresumed = k.unresumed; is_home = k.is_home; vcpus = new; lanes = k.lanes }

home_ops_keep : (o : List Name) (v : ℕ) (vcpu : Vcpu) (ops : List Op) (h : BooksBefore) → HomeKept o h → v < 64 → AllByRecursion (OpFits h.guest.geometry) ops → VcpuFits h.version h.guest.geometry vcpu → Stays o h (home_ops v vcpu ops h)
home_ops_keep o v vcpu [] h k low fits whole = stay_none o h k
home_ops_keep o v vcpu (op ∷ ops) h k low fits whole =
    let new : Vcpu = record vcpu { before_move = ops } in
    let vcpus : List Vcpu = slice_set h.vcpus v new in
    home_op_keeps o v op (record h { vcpus = vcpus }) (home_vcpus vcpus h k (vcpus_set h.version h.guest.geometry h.vcpus v new k.vcpus (record { before_move = fits.1; after_move = whole.after_move }))) low fits.0

pub home_step_keeps : (o : List Name) (v : ℕ) (q : Option Vcpu) (h : BooksBefore) → HomeKept o h → slice_get h.vcpus v ≡ q → Stays o h (home_step v q h)
home_step_keeps o v None h k e = stay_none o h k
home_step_keeps o v (Some vcpu) h k e =
    let fits = each_get (VcpuFits h.version h.guest.geometry) h.vcpus v vcpu k.vcpus.each e in
    home_ops_keep o v vcpu vcpu.before_move h k (vcpu_low h.version h.guest.geometry h.vcpus v vcpu k.vcpus e) fits.before_move fits

pub home_stays : (o : List Name) (h : BooksBefore) → HomeKept o h → Stays o h h
home_stays o h k = stay_none o h k

-- the halt
place_of_halt : (log : List GuestRec) → AllAt (λ n r. is_op r ≡ true) log → halt_place (log ++ Halt ∷ []) ≡ length log
place_of_halt [] all = refl
place_of_halt (Read v p c x ∷ log) all = ap suc (place_of_halt log (λ n r e. all (suc n) r e))
place_of_halt (Write v p c x ∷ log) all = ap suc (place_of_halt log (λ n r e. all (suc n) r e))
place_of_halt (Release v p ∷ log) all = ap suc (place_of_halt log (λ n r e. all (suc n) r e))
place_of_halt (Miss v p ∷ log) all = absurd (let e = all 0 (Miss v p) refl in cc)
place_of_halt (Halt ∷ log) all = absurd (let e = all 0 Halt refl in cc)
place_of_halt (Resume k ∷ log) all = absurd (let e = all 0 (Resume k) refl in cc)
place_of_halt (See k ∷ log) all = absurd (let e = all 0 (See k) refl in cc)

two_records : (a b : SourceRec) (n : ℕ) (r : SourceRec) → slice_get (a ∷ b ∷ []) n ≡ Some r → ((n ≡ 0) × (a ≡ r)) ⊎ ((n ≡ 1) × (b ≡ r))
two_records a b zero r e = inl (refl, (let f = e in cc))
two_records a b (suc zero) r e = inr (refl, (let f = e in cc))
two_records a b (suc (suc n)) r e = absurd (cc)

-- at home the guest is at the source before each record
always_home : (log : List GuestRec) → AllAt (λ n r. is_op r ≡ true) log → (n : ℕ) → before home_after AtSource log n ≡ AtSource
always_home log all zero = refl
always_home log all (suc n) = go (always_home log all n) (slice_get log n) refl
  where
    go : before home_after AtSource log n ≡ AtSource → (r : Option GuestRec) → slice_get log n ≡ r → changed home_after r (before home_after AtSource log n) ≡ AtSource
    go rec None is = rec
    go rec (Some r) is = ap (λ x. home_after r x) rec ∙ stays_home r (all n r is)

-- and until the halt it released nothing at the target
none_over : {o : List Name} (h : BooksBefore) → HomeKept o h → (p : ℕ) → IsOver (session_after (halted h)) p → {A : Type 0} → A
none_over h k p over {A} = go (get_push h.guest.log Halt over.release (Release over.vcpu p) over.stands)
  where
    go : (slice_get h.guest.log over.release ≡ Some (Release over.vcpu p)) ⊎ ((over.release ≡ length h.guest.log) × (Halt ≡ Release over.vcpu p)) → A
    go (inl is) =
        let lt : over.release < length h.guest.log = slice_get_within h.guest.log over.release (Release over.vcpu p) is in
        let at : home (session_after (halted h)) over.release ≡ AtSource = before_push home_after AtSource h.guest.log (Halt ∷ []) over.release (omega arith) ∙ always_home h.guest.log k.ops over.release in
        let late = over.is_late in
        absurd (cc)
    go (inr new) = let is = new.1 in absurd (cc)

-- the orders that the halt leaves
abbrev after_halt : List Name → BooksBefore → List Name
after_halt o h = ((o ++ (Guest, length h.guest.log) ∷ []) ++ (FromSource, 0) ∷ []) ++ (FromSource, 1) ∷ []

halted_kept : (o : List Name) (h : BooksBefore) → HomeKept o h → AwayKept (after_halt o h) (halted h)
halted_kept o h k = record {
  named = source_shapes State s2 (source_shapes (Halted at) s1 (guest_shapes Halt s0 k.named (phase_at h k Halt true refl) refl) (passes_at is_halt s1.guest at Halt (get_new h.guest.log Halt) refl) refl) refl refl;
  started = record { source = λ n r is. started n r (two_records (Halted (length h.guest.log)) State n r is); pager = λ n r is. nothing n r is };
  merges = source_merges State s2 ((o ++ (Guest, at) ∷ []) ++ (FromSource, 0) ∷ []) (names_none s2) (source_merges (Halted at) s1 (o ++ (Guest, at) ∷ []) (names s1 (Guest, at) (slice_get_within s1.guest at Halt (get_new h.guest.log Halt))) (guest_merges Halt s0 o (names_none s0) k.merges));
  clean = source_cleans State s2 h.guest.memory h.guest.ledger tt (source_cleans (Halted at) s1 h.guest.memory h.guest.ledger tt (guest_cleans Halt s0 h.guest.memory h.guest.ledger tt (home_clean h h.guest.memory h.guest.ledger k.reads)));
  frozen = record {
    memory_is = λ p c. k.memory_is p c ∙ sym (flat_push Halt s0 at p c (omega arith)) ∙ ap (λ n. flat s1 n p c) (sym place);
    ledger_is = λ p. k.ledger_is p ∙ sym (before_push (released_after p) false h.guest.log (Halt ∷ []) at (omega arith)) ∙ ap (λ n. in_ledger s1 n p) (sym place);
    halt_stands = ap (λ n. slice_get s1.guest n) place ∙ get_new h.guest.log Halt;
  };
  limits = source_limits State s2 tt (source_limits (Halted at) s1 tt (guest_limits Halt s0 tt k.limits));
  phase = record {
    halted = before_end (λ y found. is_halt y || found) false h.guest.log Halt;
    resumes = before_end (λ y found. is_resume y || found) false h.guest.log Halt ∙ k.unresumed;
    home_is = before_end home_after AtSource h.guest.log Halt;
  };
  resumed_ready = λ e. absurd (cc);
  source = record {
    sends = record { found = λ p n e. absurd (cc); none = λ p e. refl };
    state = refl;
    wide = k.wide;
  };
  link = record { down = record { under_way = ((refl, inl refl), tt); come = tt }; up = record { under_way = tt; come = tt }; lane = record { under_way = tt; come = tt } };
  pager = record { geometry = refl; unready = λ e. refl; ready = λ rel e. absurd (cc); inbox = tt; outbox = tt; waiting = tt; wants = λ p n e. absurd (cc) };
  placed = λ p. refl;
  settled = λ p e. absurd (cc);
  target = record {
    places = record { found = λ p n e. absurd (cc); none = λ p e. refl };
    frontier = λ n e. absurd (cc);
    frames = λ p c e lt. absurd (cc);
    untouched = λ p c e. flat_end Halt s0 p c ∙ sym (k.memory_is p c);
    released = λ p e. absurd (cc);
    over = λ p e. none_over h k p e;
    unsettled = tt;
    misses = tt;
    wide = λ p c. omega arith;
  };
  ends = record { all = λ n e. nothing n All e; done = λ n e. not_done n (two_records (Halted (length h.guest.log)) State n Done e) };
  vcpus = k.vcpus;
  lanes = k.lanes;
}
  where
    at : ℕ
    at = length h.guest.log

    s0 : Recorded
    s0 = session_before h

    s1 : Recorded
    s1 = guest_more Halt (session_before h)

    s2 : Recorded
    s2 = source_more (Halted (length h.guest.log)) (guest_more Halt (session_before h))

    place : halt_place (h.guest.log ++ Halt ∷ []) ≡ length h.guest.log
    place = place_of_halt h.guest.log k.ops

    started : (n : ℕ) (r : SourceRec) → ((n ≡ 0) × (Halted (length h.guest.log) ≡ r)) ⊎ ((n ≡ 1) × (State ≡ r)) → source_start (session_after (halted h)) n r ≡ true
    started n r (inl e) = subst (λ m. source_start (session_after (halted h)) m r ≡ true) (sym e.0) (subst (λ x. source_start (session_after (halted h)) 0 x ≡ true) e.1 refl)
    started n r (inr e) = subst (λ m. source_start (session_after (halted h)) m r ≡ true) (sym e.0) (subst (λ x. source_start (session_after (halted h)) 1 x ≡ true) e.1 refl)

    not_done : (n : ℕ) → ((n ≡ 0) × (Halted (length h.guest.log) ≡ Done)) ⊎ ((n ≡ 1) × (State ≡ Done)) → {B : Type 0} → B
    not_done n (inl e) = absurd (let f = e.1 in cc)
    not_done n (inr e) = absurd (let f = e.1 in cc)

pub halted_keeps : (o : List Name) (h : BooksBefore) → HomeKept o h → AwayKept (o ++ new_names (session_before h) (session_after (halted h))) (halted h)
halted_keeps o h k = subst (λ x. AwayKept x (halted h)) (sym (order_halt o (session_before h) Halt (Halted (length h.guest.log)) State refl)) (halted_kept o h k)

-- the start
abbrev pub first_home : Scripted → BooksBefore
first_home script = record {
  version = script.version;
  init = script.init;
  pivots = script.pivots;
  window = script.window;
  has_lane = script.has_lane;
  vcpus = script.vcpus;
  guest = new_guest script.geometry script.init;
}

no_order : (past rest : List Name) (name : Name) → {B : Type 0} → [] ≡ past ++ name ∷ rest → B
no_order [] rest name e = absurd (cc)
no_order (x ∷ past) rest name e = absurd (cc)

no_places : (script : Scripted) → (l : LogName) → [] ≡ range_with_len 0 (log_length (session_before (first_home script)) l)
no_places script Guest = refl
no_places script FromSource = refl
no_places script Link = refl
no_places script Lane = refl
no_places script Pager = refl

pub start_keeps : (script : Scripted) → IsScript script → HomeKept [] (first_home script)
start_keeps script fits = record {
  ops = λ n r is. nothing n r is;
  named = record { phases = λ n r is. nothing n r is; guest = λ n r is. nothing n r is; source = λ n r is. nothing n r is; link = λ n r is. nothing n r is; lane = λ n r is. nothing n r is; pager = λ n r is. nothing n r is; first_sends = λ n r is. nothing n r is };
  merges = record { each_once_in_order = no_places script; receipts_after = λ past name sent stands e. no_order past stands.0 name stands.1 };
  limits = record { extent = fits.geometry; small = fits.small; init = fits.init; guest = λ n r is. nothing n r is; source = λ n r is. nothing n r is; lane = λ n r is. nothing n r is; pager = λ n r is. nothing n r is };
  reads = λ n r is. nothing n r is;
  memory_is = λ p c. refl;
  wide = wide_initial script.geometry script.init fits.init.each;
  ledger_is = λ p. refl;
  unhalted = refl;
  unresumed = refl;
  is_home = refl;
  vcpus = record { few = fits.few_vcpus; each = fits.vcpus };
  lanes = fits.lane;
}
