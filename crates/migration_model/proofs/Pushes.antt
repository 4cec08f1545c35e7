-- Records of the guest at the target, and placements.
use Rattle.audit_model.proofs.Clean.{clash, false_if_not_true}
use Rattle.audit_model.proofs.Consistent.{there}
use Rattle.audit_model.proofs.History.{earlier_true}
use Rattle.audit_model.specs.Faults.{IsOver, has_looked, looks_at}
use Rattle.audit_model.specs.Flat.{cell_after, flat, freed as was_freed, home, home_after}
use Rattle.audit_model.specs.Shape.{earlier, guest_named, in_phase_by, is_halt, is_placement, is_placement_of, is_ready, is_release, is_resume, pager_named}
use Rattle.audit_model.specs.declared.home.Home.TheVariants.{AtSource, AtTarget}
use Rattle.fault_queue.specs.Waiting.{Waiting}
use Rattle.migration_types.specs.Memory.{Memory, with_cell, with_zeros}
use Rattle.migration_types.specs.PageSets.{Pages, others, with_page}
use Rattle.migration_types.specs.Receipts.{Name, guest_receipt, pager_receipt}
use Rattle.migration_types.specs.Sessions.{Recorded}
use Rattle.migration_types.specs.declared.version.Version.{Version}
use Rattle.migration_types.specs.declared.version.Version.TheVariants.{One, Two}
use Rattle.migration_types.specs.declared.records.GuestRec.{GuestRec}
use Rattle.migration_types.specs.declared.records.GuestRec.TheVariants.{Miss, Read, Release, Resume, See, Write}
use Rattle.migration_types.specs.declared.records.LogName.TheVariants.{Guest, Pager}
use Rattle.migration_types.specs.declared.records.PagerRec.{PagerRec}
use Rattle.migration_types.specs.declared.records.PagerRec.TheVariants.{All, Fault, Got, Join, Place, Pull, Ready, Skip, Want, Zero}
use Rattle.residency.specs.Placements.{is_covered, is_resident, with_placement}
use Rattle.migration_model.proofs.Cleans.{GuestClean, IsBareRelease, PagerClean, freed_here, freed_stays, guest_cleans, guest_frozen, over_guest, over_other, over_pager, pager_cleans}
use Rattle.migration_model.proofs.Facts.{AwayKept, HasMissed, IsReady, IsWaitedFor, PhaseKept, TargetKept, VcpusKept, away_home, frontier_stays, is_there, link_stays, misses_stay, not_new, pager_stays, ready_stays, released_of, unready_goes}
use Rattle.migration_model.proofs.Grows.{IsThere, guest_extends, guest_merges, guest_more, names, names_none, pager_extends, pager_merges, pager_more}
use Rattle.migration_model.proofs.Limits.{GuestWithin, IsWide, PagerWithin, guest_limits, pager_limits, wide_cell, wide_zeros}
use Rattle.migration_model.proofs.Lists.{before_end, each_push, each_weaker, get_new, index_key, passes_at}
use Rattle.migration_model.proofs.Shapes.{guest_shapes, guest_starts, pager_goes_on, pager_shapes, pager_starts}
use Rattle.migration_model.specs.Books.{BooksAfter, Vcpu, session_after}
use Rattle.migration_events.specs.Ops.{LateOpFits, MayReleaseLate, OpFits}
use Rattle.std.proofs.Common.{Bool, List, None, Option, Some, [], ap, arith, cond, eq-eqb, false, inl, inr, length, refl, subst, suc, sym, true, ℕ, ◌&&◌, ◌++◌, ◌<◌, ◌||◌, ◌∙◌, ◌∷◌, ◌≡◌, ◌≤◌, ◌⊎◌}
use Rattle.std.proofs.lemmas.Bool.{eqb-true, leb-true}
use Rattle.std.proofs.lemmas.Option.{slice_get_within}
use Rattle.std.specs.List.{AllByRecursion}
use Rattle.std.specs.Prelude.{is_some, ◌==◌}
use Rattle.target_side.specs.TargetPart.{TargetPart}
use Rattle.target_side.specs.declared.access.UntakenMiss.{UntakenMiss}
use Rattle.migration_events.specs.declared.ops.Op.TheVariants.{Read as ReadCell, Release as ReleasePage, Write as WriteCell}

pub with_vcpus : {o : List Name} (vcpus : List Vcpu) (a : BooksAfter) → AwayKept o a → VcpusKept a.version a.source.geometry vcpus → AwayKept o (record a { vcpus = vcpus })
with_vcpus vcpus a k new = record {
  named = k.named;
  started = k.started;
  merges = k.merges;
  clean = k.clean;
  frozen = k.frozen;
  limits = k.limits;
  phase = k.phase;
  resumed_ready = k.resumed_ready;
  source = k.source;
  link = k.link;
  pager = k.pager;
  placed = k.placed;
  settled = k.settled;
  target = k.target;
  ends = k.ends;
  vcpus = new;
  lanes = k.lanes;
}

pub with_standing : {o : List Name} (standing : Pages) (a : BooksAfter) → AwayKept o a → AwayKept o (record a { target = record a.target { standing = standing } })
with_standing standing a k = record {
  named = k.named;
  started = k.started;
  merges = k.merges;
  clean = k.clean;
  frozen = k.frozen;
  limits = k.limits;
  phase = k.phase;
  resumed_ready = k.resumed_ready;
  source = k.source;
  link = k.link;
  pager = k.pager;
  placed = k.placed;
  settled = k.settled;
  target = record {
    places = k.target.places;
    frontier = k.target.frontier;
    frames = k.target.frames;
    untouched = k.target.untouched;
    released = k.target.released;
    over = k.target.over;
    unsettled = k.target.unsettled;
    misses = k.target.misses;
    wide = k.target.wide;
  };
  ends = record { all = k.ends.all; done = k.ends.done };
  vcpus = k.vcpus;
  lanes = k.lanes;
}

or_true : (b : Bool) → (b || true) ≡ true
or_true true = refl
or_true false = refl

phase_kept : (r : GuestRec) (s : Recorded) (old new : Bool) → PhaseKept s old → home_after r (away_home old) ≡ away_home new → (is_resume r || old) ≡ new → PhaseKept (guest_more r s) new
phase_kept r s old new k home resume = record {
  halted = before_end (λ y found. is_halt y || found) false s.guest r ∙ ap (λ b. is_halt r || b) k.halted ∙ or_true (is_halt r);
  resumes = before_end (λ y found. is_resume y || found) false s.guest r ∙ ap (λ b. is_resume r || b) k.resumes ∙ resume;
  home_is = before_end home_after AtSource s.guest r ∙ ap (λ h. home_after r h) k.home_is ∙ home;
}

-- the flat machine after one more record
pub flat_end : (r : GuestRec) (s : Recorded) (p c : ℕ) → flat (guest_more r s) (length (guest_more r s).guest) p c ≡ cell_after p c r (flat s (length s.guest) p c)
flat_end r s p c = before_end (cell_after p c) _ s.guest r

-- a page that was there still is: its placement is the same, and what was freed stays so
resident_stays : (old new : Option ℕ) (was is : Bool) → new ≡ old → (was ≡ true → is ≡ true) → is_resident old was ≡ true → is_resident new is ≡ true
resident_stays old new was is same stays e = ap (λ o. is_resident o is) same ∙ go old e
  where
    go : (o : Option ℕ) → is_resident o was ≡ true → is_resident o is ≡ true
    go (Some k) e = refl
    go None e = stays e

-- a record of the guest, and what the target's book keeps of it
pub guest_pushed : {o : List Name} (r : GuestRec) (resumed : Bool) (target : TargetPart) (a : BooksAfter) → AwayKept o a →
    in_phase_by a.version true a.target.is_resumed r ≡ true → guest_named (session_after a) r ≡ true →
    IsThere (session_after a) (guest_receipt r) → GuestClean (session_after a) (length a.target.log) r → GuestWithin a.source.geometry r →
    home_after r (away_home a.target.is_resumed) ≡ away_home resumed → (is_resume r || a.target.is_resumed) ≡ resumed → (resumed ≡ true → IsReady (session_after a)) →
    TargetKept (guest_more r (session_after a)) a.source.memory target →
    ((p : ℕ) → target.placed p ≡ a.target.placed p) → ((p : ℕ) → a.target.freed p ≡ true → target.freed p ≡ true) →
    AwayKept (o ++ (Guest, length a.target.log) ∷ []) (record a { target = record target { log = a.target.log ++ r ∷ []; is_resumed = resumed } })
guest_pushed {o} r resumed target a k phase named there clean within home resume ready new same stays =
    let s = session_after a in
    let t = guest_more r s in
    let x = guest_extends r s in
    let n = length s.guest in
    let is_right : in_phase_by a.version (earlier is_halt s.guest n) (earlier is_resume s.guest n) r ≡ true =
    ap (λ b. in_phase_by a.version b (earlier is_resume s.guest n) r) k.phase.halted ∙ ap (λ b. in_phase_by a.version true b r) k.phase.resumes ∙ phase in
    let more : (p : ℕ) → is_there a.target p ≡ true → is_there target p ≡ true = λ p e. resident_stays (a.target.placed p) (target.placed p) (a.target.freed p) (target.freed p) (same p) (stays p) e in
    record {
      named = guest_shapes r s k.named is_right named;
      started = guest_starts r s k.started;
      merges = guest_merges r s o there k.merges;
      clean = guest_cleans r s a.source.memory a.source.ledger clean k.clean;
      frozen = guest_frozen r s a.source.memory a.source.ledger k.frozen;
      limits = guest_limits r s within k.limits;
      phase = phase_kept r s a.target.is_resumed resumed k.phase home resume;
      resumed_ready = ready;
      source = record { sends = k.source.sends; state = k.source.state; wide = k.source.wide };
      link = link_stays s t x (released_of a) a.link k.link;
      pager = pager_stays s t x (released_of a) a.pager k.pager.unready refl k.pager;
      placed = λ p. k.placed p ∙ sym (ap is_some (same p));
      settled = λ p e. stays p (k.settled p e);
      target = record {
        places = new.places;
        frontier = new.frontier;
        frames = new.frames;
        untouched = new.untouched;
        released = new.released;
        over = new.over;
        unsettled = new.unsettled;
        misses = new.misses;
        wide = new.wide;
      };
      ends = record { all = λ m e p lt owed. more p (k.ends.all m e p lt owed); done = λ m e p lt owed. more p (k.ends.done m e p lt owed) };
      vcpus = k.vcpus;
      lanes = k.lanes;
    }

-- the freed pages stay those of the log
released_stays : {o : List Name} (r : GuestRec) (a : BooksAfter) → AwayKept o a → (p : ℕ) → a.target.freed p ≡ true → (a.target.placed p ≡ None) × (was_freed (guest_more r (session_after a)) (length (a.target.log ++ r ∷ [])) p ≡ true)
released_stays r a k p e = let h = k.target.released p e in (h.0, freed_stays r (session_after a) p h.1)

-- a record that writes no cell leaves what the target's book keeps
target_idle : {o : List Name} (r : GuestRec) (a : BooksAfter) → AwayKept o a → ((p c x : ℕ) → cell_after p c r x ≡ x) → is_release r ≡ false → TargetKept (guest_more r (session_after a)) a.source.memory a.target
target_idle r a k idle other =
    let s = session_after a in
    let t = guest_more r s in
    let x = guest_extends r s in
    record {
      places = k.target.places;
      frontier = frontier_stays s t x a.target.frontier k.target.frontier;
      frames = λ p c e lt. k.target.frames p c e lt ∙ sym (flat_end r s p c ∙ idle p c _);
      untouched = λ p c e. flat_end r s p c ∙ idle p c _ ∙ k.target.untouched p c e;
      released = released_stays r a k;
      over = λ p e. k.target.over p (over_other r s p other e);
      unsettled = k.target.unsettled;
      misses = misses_stay s t x a.target.misses k.target.misses;
      wide = k.target.wide;
    }

is_a_placement : (p : ℕ) (r : PagerRec) → is_placement_of p r ≡ true → is_placement r ≡ true
is_a_placement p (Place q g c) e = refl
is_a_placement p (Zero q) e = refl
is_a_placement p (Got k) e = absurd (cc)
is_a_placement p (Pull k) e = absurd (cc)
is_a_placement p Ready e = absurd (cc)
is_a_placement p (Fault k) e = absurd (cc)
is_a_placement p (Join k) e = absurd (cc)
is_a_placement p (Want q) e = absurd (cc)
is_a_placement p (Skip k) e = absurd (cc)
is_a_placement p All e = absurd (cc)

-- the frontier covers the page that is placed at k
abbrev pub Covers : BooksAfter → ℕ → Type 0
Covers a k = (seen : ℕ) × (a.target.frontier ≡ Some seen) × (k ≤ seen)

pub covered_by : (frontier : Option ℕ) (k : ℕ) → is_covered (Some k) frontier ≡ true → (seen : ℕ) × (frontier ≡ Some seen) × (k ≤ seen)
covered_by None k e = absurd (cc)
covered_by (Some seen) k e = (seen, refl, leb-true k seen e)

-- the books after a look
abbrev pub seen : ℕ → BooksAfter → BooksAfter
seen k a = record a { target = record a.target { log = a.target.log ++ See k ∷ []; frontier = Some k } }

pub see_pushed : {o : List Name} (p k : ℕ) (a : BooksAfter) → AwayKept o a → a.target.is_resumed ≡ true → a.target.placed p ≡ Some k →
    AwayKept (o ++ (Guest, length a.target.log) ∷ []) (seen k a)
see_pushed p k a kept on at =
    let s = session_after a in
    let w = kept.target.places.found p k at in
    let base = target_idle (See k) a kept (λ p c x. refl) refl in
    guest_pushed (See k) a.target.is_resumed (record a.target { frontier = Some k }) a kept on
    (passes_at is_placement s.pager k w.0 w.1 (is_a_placement p w.0 w.2))
    (names s (Pager, k) (slice_get_within s.pager k w.0 w.1)) tt tt refl refl kept.resumed_ready
    (record {
      places = base.places;
      frontier = λ n e. (length s.guest, get_new s.guest (See k) ∙ ap (λ j. Some (See j)) (let f : Some k ≡ Some n = e in cc));
      frames = base.frames;
      untouched = base.untouched;
      released = base.released;
      over = base.over;
      unsettled = base.unsettled;
      misses = base.misses;
      wide = base.wide;
    })
    (λ q. refl) (λ q e. e)

has_looked_at : {o : List Name} (p k : ℕ) (a : BooksAfter) → AwayKept o a → a.target.placed p ≡ Some k → Covers a k → has_looked (session_after a) p (length a.target.log) ≡ true
has_looked_at p k a kept at covers =
    let s = session_after a in
    let w = kept.target.places.found p k at in
    let see = kept.target.frontier covers.0 covers.1 in
    earlier_true (looks_at s p) s.guest see.0 (length s.guest) (See covers.0) see.1
    (earlier_true (is_placement_of p) s.pager k (suc covers.0) w.0 w.1 w.2 (omega (arith, covers.2)))
    (slice_get_within s.guest see.0 (See covers.0) see.1)

-- the page is there, and its access is covered
pub record IsOpen (a : BooksAfter) (p : ℕ) : Type 0 where
  pub there : is_there a.target p ≡ true
  pub covered : (was_freed (session_after a) (length a.target.log) p || has_looked (session_after a) p (length a.target.log)) ≡ true

pub placed_open : {o : List Name} (p k : ℕ) (a : BooksAfter) → AwayKept o a → a.target.placed p ≡ Some k → Covers a k → IsOpen a p
placed_open p k a kept at covers =
    let n = length a.target.log in
    record {
      there = ap (λ q. is_resident q (a.target.freed p)) at;
      covered = ap (λ b. was_freed (session_after a) n p || b) (has_looked_at p k a kept at covers) ∙ or_true (was_freed (session_after a) n p);
    }

pub freed_open : {o : List Name} (p : ℕ) (a : BooksAfter) → AwayKept o a → a.target.freed p ≡ true → IsOpen a p
freed_open p a kept e =
    let s = session_after a in
    let n = length a.target.log in
    let h = kept.target.released p e in
    record {
      there = ap (λ q. is_resident q (a.target.freed p)) h.0 ∙ e;
      covered = ap (λ b. b || has_looked s p n) h.1;
    }

-- a read at the target
pub read_pushed : {o : List Name} (v p c : ℕ) (a : BooksAfter) → AwayKept o a → a.target.is_resumed ≡ true → IsOpen a p → v < 64 → OpFits a.source.geometry (ReadCell p c) →
    AwayKept (o ++ (Guest, length a.target.log) ∷ []) (record a { target = record a.target { log = a.target.log ++ Read v p c (a.target.memory p c) ∷ [] } })
read_pushed v p c a kept on reached low fits =
    guest_pushed (Read v p c (a.target.memory p c)) a.target.is_resumed a.target a kept on refl (names_none (session_after a))
    (kept.target.frames p c reached.there fits.1, λ late. reached.covered) (low, fits.0, fits.1, kept.target.wide p c) refl refl kept.resumed_ready
    (target_idle (Read v p c (a.target.memory p c)) a kept (λ p c x. refl) refl) (λ q. refl) (λ q e. e)

-- a page that is there is not one that is not
other_page : (there : Pages) (p q : ℕ) → there p ≡ true → there q ≡ false → (p == q) ≡ false
other_page there p q at un = false_if_not_true (p == q) (λ e. clash (there p) at (ap there (eqb-true p q e) ∙ un))

-- a write at the target
pub write_pushed : {o : List Name} (v p c x : ℕ) (a : BooksAfter) → AwayKept o a → a.target.is_resumed ≡ true → IsOpen a p → v < 64 → OpFits a.source.geometry (WriteCell p c x) →
    AwayKept (o ++ (Guest, length a.target.log) ∷ []) (record a { target = record a.target { log = a.target.log ++ Write v p c x ∷ []; memory = with_cell p c x a.target.memory } })
write_pushed v p c x a kept on reached low fits =
    let s = session_after a in
    let r = Write v p c x in
    let t = guest_more r s in
    let e = guest_extends r s in
    guest_pushed r a.target.is_resumed (record a.target { memory = with_cell p c x a.target.memory }) a kept on refl (names_none s)
    (λ late. reached.covered) (low, fits.0, fits.1, fits.2) refl refl kept.resumed_ready
    (record {
      places = kept.target.places;
      frontier = frontier_stays s t e a.target.frontier kept.target.frontier;
      frames = λ q y is lt. ap (λ z. cond ((p == q) && (c == y)) x z) (kept.target.frames q y is lt) ∙ sym (flat_end r s q y);
      untouched = λ q y is. flat_end r s q y ∙ ap (λ b. cond (b && (c == y)) x (flat s (length s.guest) q y)) (other_page (is_there a.target) p q reached.there is) ∙ kept.target.untouched q y is;
      released = released_stays r a kept;
      over = λ q o. kept.target.over q (over_other r s q refl o);
      unsettled = kept.target.unsettled;
      misses = misses_stay s t e a.target.misses kept.target.misses;
      wide = wide_cell p c x a.target.memory fits.2 kept.target.wide;
    })
    (λ q. refl) (λ q e. e)

-- the pages that are freed after a release, and those of them that are not settled
record IsFreedBy (a : BooksAfter) (v p : ℕ) (freed : Pages) (unsettled : List ℕ) : Type 0 where
  there : is_resident (a.target.placed p) (freed p) ≡ true
  over : IsBareRelease (session_after a) p (Release v p) → freed p ≡ true
  stays : (q : ℕ) → a.target.freed q ≡ true → freed q ≡ true
  others : (q : ℕ) → (p == q) ≡ false → freed q ≡ a.target.freed q
  released : (q : ℕ) → freed q ≡ true → (a.target.placed q ≡ None) × (was_freed (guest_more (Release v p) (session_after a)) (length (a.target.log ++ Release v p ∷ [])) q ≡ true)
  to_settle : AllByRecursion (λ q. freed q ≡ true) unsettled

-- in the second version a page may be released once the guest runs at the target
release_phase : (version : Version) (v p : ℕ) → MayReleaseLate version → in_phase_by version true true (Release v p) ≡ true
release_phase One v p may = absurd may
release_phase Two v p may = refl

zeroed_pushed : {o : List Name} (v p : ℕ) (freed : Pages) (unsettled : List ℕ) (a : BooksAfter) → AwayKept o a → a.target.is_resumed ≡ true → IsFreedBy a v p freed unsettled → v < 64 → LateOpFits a.version a.source.geometry (ReleasePage p) →
    AwayKept (o ++ (Guest, length a.target.log) ∷ []) (record a { target = record a.target { log = a.target.log ++ Release v p ∷ []; memory = with_zeros p a.target.memory; freed = freed; unsettled = unsettled } })
zeroed_pushed v p freed unsettled a kept on new low fits =
    let s = session_after a in
    let r = Release v p in
    let t = guest_more r s in
    let e = guest_extends r s in
    guest_pushed r a.target.is_resumed (record a.target { memory = with_zeros p a.target.memory; freed = freed; unsettled = unsettled }) a kept
    (ap (λ b. in_phase_by a.version true b r) on ∙ release_phase a.version v p fits.0) refl (names_none s) tt (low, fits.1) refl refl kept.resumed_ready
    (record {
      places = kept.target.places;
      frontier = frontier_stays s t e a.target.frontier kept.target.frontier;
      frames = λ q y is lt. frames q y (p == q) refl is lt ∙ sym (flat_end r s q y);
      untouched = λ q y is. flat_end r s q y ∙ untouched q y is;
      released = new.released;
      over = λ q o. over q (over_guest r s q o);
      unsettled = new.to_settle;
      misses = misses_stay s t e a.target.misses kept.target.misses;
      wide = wide_zeros p a.target.memory kept.target.wide;
    })
    (λ q. refl) new.stays
  where
    old : (q : ℕ) (b : Bool) → (p == q) ≡ false → is_resident (a.target.placed q) (freed q) ≡ b → is_there a.target q ≡ b
    old q b other is = ap (λ f. is_resident (a.target.placed q) f) (sym (new.others q other)) ∙ is

    frames : (q y : ℕ) (b : Bool) → (p == q) ≡ b → is_resident (a.target.placed q) (freed q) ≡ true → y < a.source.geometry.cells → cond b 0 (a.target.memory q y) ≡ cond b 0 (flat (session_after a) (length a.target.log) q y)
    frames q y true same is lt = refl
    frames q y false other is lt = kept.target.frames q y (old q true other is) lt

    untouched : (q y : ℕ) → is_resident (a.target.placed q) (freed q) ≡ false → cond (p == q) 0 (flat (session_after a) (length a.target.log) q y) ≡ a.source.memory q y
    untouched q y is =
        let other = other_page (λ j. is_resident (a.target.placed j) (freed j)) p q new.there is in
        ap (λ b. cond b 0 (flat (session_after a) (length a.target.log) q y)) other ∙ kept.target.untouched q y (old q false other is)

    over : (q : ℕ) → IsOver (session_after a) q ⊎ IsBareRelease (session_after a) q (Release v p) → freed q ≡ true
    over q (inl o) = new.stays q (kept.target.over q o)
    over q (inr o) =
        let same : q ≡ p = let is : Release v p ≡ Release o.0 q = o.1 in cc in
        ap freed same ∙ new.over (subst (λ j. IsBareRelease (session_after a) j (Release v p)) same o)

-- the release at the target of a page that is there
pub release_pushed : {o : List Name} (v p : ℕ) (a : BooksAfter) → AwayKept o a → a.target.is_resumed ≡ true → IsOpen a p → v < 64 → LateOpFits a.version a.source.geometry (ReleasePage p) →
    AwayKept (o ++ (Guest, length a.target.log) ∷ []) (record a { target = record a.target { log = a.target.log ++ Release v p ∷ []; memory = with_zeros p a.target.memory } })
release_pushed v p a kept on reached low fits = zeroed_pushed v p a.target.freed a.target.unsettled a kept on (record {
  there = reached.there;
  over = λ o. clash (was_freed (session_after a) (length a.target.log) p || has_looked (session_after a) p (length a.target.log)) reached.covered o.2;
  stays = λ q e. e;
  others = λ q other. refl;
  released = released_stays (Release v p) a kept;
  to_settle = kept.target.unsettled;
}) low fits

-- the release at the target of a page that is absent
pub free_pushed : {o : List Name} (v p : ℕ) (a : BooksAfter) → AwayKept o a → a.target.is_resumed ≡ true → a.target.placed p ≡ None → v < 64 → LateOpFits a.version a.source.geometry (ReleasePage p) →
    AwayKept (o ++ (Guest, length a.target.log) ∷ []) (record a {
      target = record a.target {
        log = a.target.log ++ Release v p ∷ [];
        memory = with_zeros p a.target.memory;
        freed = with_page p a.target.freed;
        unsettled = a.target.unsettled ++ p ∷ [];
      };
    })
free_pushed v p a kept on none low fits = zeroed_pushed v p (with_page p a.target.freed) (a.target.unsettled ++ p ∷ []) a kept on (record {
  there = ap (λ q. is_resident q (with_page p a.target.freed p)) none ∙ here;
  over = λ o. here;
  stays = stays;
  others = λ q other. ap (λ b. cond b true (a.target.freed q)) other;
  released = λ q e. released q (p == q) refl e;
  to_settle = each_push (λ q. with_page p a.target.freed q ≡ true) a.target.unsettled p (each_weaker (λ q. a.target.freed q ≡ true) (λ q. with_page p a.target.freed q ≡ true) stays a.target.unsettled kept.target.unsettled) here;
}) low fits
  where
    here : with_page p a.target.freed p ≡ true
    here = ap (λ b. cond b true (a.target.freed p)) (eq-eqb p p refl)

    stays : (q : ℕ) → a.target.freed q ≡ true → with_page p a.target.freed q ≡ true
    stays q e = go (p == q)
      where
        go : (b : Bool) → cond b true (a.target.freed q) ≡ true
        go true = refl
        go false = e

    late : home (session_after a) (length a.target.log) ≡ AtTarget
    late = kept.phase.home_is ∙ ap away_home on

    released : (q : ℕ) (b : Bool) → (p == q) ≡ b → cond b true (a.target.freed q) ≡ true → (a.target.placed q ≡ None) × (was_freed (guest_more (Release v p) (session_after a)) (length (a.target.log ++ Release v p ∷ [])) q ≡ true)
    released q true same e = subst (λ j. (a.target.placed j ≡ None) × (was_freed (guest_more (Release v p) (session_after a)) (length (a.target.log ++ Release v p ∷ [])) j ≡ true)) (eqb-true p q same) (none, freed_here v p (session_after a) late)
    released q false other e = released_stays (Release v p) a kept q e

-- a miss
pub miss_pushed : {o : List Name} (v p : ℕ) (a : BooksAfter) → AwayKept o a → a.target.is_resumed ≡ true → v < 64 → p < a.source.geometry.pages →
    AwayKept (o ++ (Guest, length a.target.log) ∷ []) (record a { target = record a.target { log = a.target.log ++ Miss v p ∷ []; misses = a.target.misses ++ (record { number = length a.target.log; vcpu = v; page = p }) ∷ [] } })
miss_pushed v p a kept on low fits =
    let s = session_after a in
    let t = guest_more (Miss v p) s in
    let base = target_idle (Miss v p) a kept (λ p c x. refl) refl in
    let new : UntakenMiss = record { number = length s.guest; vcpu = v; page = p } in
    guest_pushed (Miss v p) a.target.is_resumed (record a.target { misses = a.target.misses ++ new ∷ [] }) a kept on refl (names_none s) tt (low, fits) refl refl kept.resumed_ready
    (record {
      places = base.places;
      frontier = base.frontier;
      frames = base.frames;
      untouched = base.untouched;
      released = base.released;
      over = base.over;
      unsettled = base.unsettled;
      misses = each_push (HasMissed t) a.target.misses new base.misses (get_new s.guest (Miss v p), kept.resumed_ready on);
      wide = base.wide;
    })
    (λ q. refl) (λ q e. e)

-- the resume
pub resume_pushed : {o : List Name} (a : BooksAfter) → AwayKept o a → a.target.is_resumed ≡ false → IsReady (session_after a) →
    AwayKept (o ++ (Guest, length a.target.log) ∷ []) (record a { target = record a.target { log = a.target.log ++ Resume 1 ∷ []; is_resumed = true } })
resume_pushed a kept off ready =
    let s = session_after a in
    guest_pushed (Resume 1) true a.target a kept
    (ap (λ b. in_phase_by a.version true b (Resume 1)) off)
    (passes_at is_ready s.pager 1 Ready ready refl)
    (names s (Pager, 1) (slice_get_within s.pager 1 Ready ready)) tt tt refl refl (λ e. ready)
    (target_idle (Resume 1) a kept (λ p c x. refl) refl) (λ q. refl) (λ q e. e)

-- a placement
pub put_pushed : {o : List Name} (r : PagerRec) (q : ℕ) (memory : Memory) (waiting : List Waiting) (a : BooksAfter) → AwayKept o a → IsReady (session_after a) →
    pager_named (session_after a) (length a.pager.log) r ≡ true → IsThere (session_after a) (pager_receipt r) → pager_goes_on r ≡ true →
    is_there a.target q ≡ false → ((p : ℕ) → is_placement_of p r ≡ (q == p)) →
    PagerClean a.source.geometry.cells a.source.memory a.source.ledger a.pager.log (length a.pager.log) r →
    PagerWithin a.version a.source.geometry r →
    (r ≡ All → ⊥) →
    ((c : ℕ) → c < a.source.geometry.cells → memory q c ≡ a.source.memory q c) →
    ((p c : ℕ) → (q == p) ≡ false → memory p c ≡ a.target.memory p c) →
    IsWide memory → AllByRecursion (IsWaitedFor (session_after a)) waiting →
    AwayKept (o ++ (Pager, length a.pager.log) ∷ []) (record a {
      pager = record a.pager { log = a.pager.log ++ r ∷ []; placed = with_page q a.pager.placed; waiting = waiting };
      target = record a.target { placed = with_placement q (length a.pager.log) a.target.placed; memory = memory };
    })
put_pushed {o} r q memory waiting a k ready named there on absent key clean within not_all here others wide waits =
    let s = session_after a in
    let t = pager_more r s in
    let x = pager_extends r s in
    let two : 1 < length s.pager = slice_get_within s.pager 1 Ready ready in
    let pager = pager_stays s t x (released_of a) a.pager (unready_goes s (released_of a) a.pager k.pager ready) refl k.pager in
    record {
      named = pager_shapes r s k.named named;
      started = pager_starts r s two on k.started;
      merges = pager_merges r s o there k.merges;
      clean = pager_cleans r s a.source.memory a.source.ledger clean k.clean;
      frozen = record { memory_is = k.frozen.memory_is; ledger_is = k.frozen.ledger_is; halt_stands = k.frozen.halt_stands };
      limits = pager_limits r s within k.limits;
      phase = record { halted = k.phase.halted; resumes = k.phase.resumes; home_is = k.phase.home_is };
      resumed_ready = λ e. ready_stays s t x ready;
      source = record { sends = k.source.sends; state = k.source.state; wide = k.source.wide };
      link = link_stays s t x (released_of a) a.link k.link;
      pager = record { geometry = pager.geometry; unready = pager.unready; ready = pager.ready; inbox = pager.inbox; outbox = pager.outbox; waiting = waits; wants = pager.wants };
      placed = λ p. placed_is p (q == p);
      settled = k.settled;
      target = record {
        places = index_key is_placement_of a.target.placed s.pager r q key k.target.places;
        frontier = k.target.frontier;
        frames = λ p c e lt. frames p c (q == p) refl e lt;
        untouched = λ p c e. untouched p c (q == p) e;
        released = λ p e. let h = k.target.released p e in (unplaced p (q == p) refl e h.0, h.1);
        over = λ p e. k.target.over p (over_pager r s p e);
        unsettled = k.target.unsettled;
        misses = misses_stay s t x a.target.misses k.target.misses;
        wide = wide;
      };
      ends = record {
        all = not_new s.pager r All (λ n e p lt owed. more p (q == p) (k.ends.all n e p lt owed)) (λ e. absurd (not_all e));
        done = λ n e p lt owed. more p (q == p) (k.ends.done n e p lt owed);
      };
      vcpus = k.vcpus;
      lanes = k.lanes;
    }
  where
    number : ℕ
    number = length a.pager.log

    placed_is : (p : ℕ) (b : Bool) → cond b true (a.pager.placed p) ≡ is_some (cond b (Some number) (a.target.placed p))
    placed_is p true = refl
    placed_is p false = k.placed p

    more : (p : ℕ) (b : Bool) → is_there a.target p ≡ true → is_resident (cond b (Some number) (a.target.placed p)) (a.target.freed p) ≡ true
    more p true e = refl
    more p false e = e

    frames : (p c : ℕ) (b : Bool) → (q == p) ≡ b → is_resident (cond b (Some number) (a.target.placed p)) (a.target.freed p) ≡ true → c < a.source.geometry.cells → memory p c ≡ flat (session_after a) (length a.target.log) p c
    frames p c true is e lt = subst (λ j. memory j c ≡ flat (session_after a) (length a.target.log) j c) (eqb-true q p is) (here c lt ∙ sym (k.target.untouched q c absent))
    frames p c false is e lt = others p c is ∙ k.target.frames p c e lt

    untouched : (p c : ℕ) (b : Bool) → is_resident (cond b (Some number) (a.target.placed p)) (a.target.freed p) ≡ false → flat (session_after a) (length a.target.log) p c ≡ a.source.memory p c
    untouched p c true e = absurd (cc)
    untouched p c false e = k.target.untouched p c e

    unplaced : (p : ℕ) (b : Bool) → (q == p) ≡ b → a.target.freed p ≡ true → a.target.placed p ≡ None → cond b (Some number) (a.target.placed p) ≡ None
    unplaced p true is e none = clash (is_there a.target p) (ap (λ o. is_resident o (a.target.freed p)) none ∙ e) (ap (is_there a.target) (sym (eqb-true q p is)) ∙ absent)
    unplaced p false is e none = none
