-- Each change of the target's part keeps its history.
use Rattle.std.proofs.Common.{◌≡◌, ℕ, ◌==◌, ◌&&◌, ◌||◌, Bool, true, false, cond, List, [], ◌∷◌, ◌++◌, length, map, Option, Some, None, refl, sym, ap, ◌∙◌, subst, arith, append_assoc}
use Rattle.std.specs.List.{AllByRecursion}
use Rattle.std.specs.Prelude.{is_some, nat_le, slice_index}
use Rattle.std.proofs.lemmas.Bool.Decides.{nat_tests}
use Rattle.std.proofs.lemmas.List.{append-nil}
use Rattle.migration_types.specs.declared.records.GuestRec.{GuestRec}
use Rattle.migration_types.specs.declared.records.GuestRec.TheVariants.{Read, Write, Release, Miss, Halt, Resume, See}
use Rattle.migration_types.specs.Extents.{Extent}
use Rattle.migration_types.specs.Memory.{zeros, with_cell, with_zeros}
use Rattle.migration_types.specs.PageSets.{Pages, no_page, with_page, without_page}
use Rattle.migration_events.specs.Ops.{page_in}
use Rattle.migration_events.specs.declared.ops.Op.{Op}
use Rattle.migration_events.specs.declared.ops.Op.TheVariants.{Read as ReadCell, Write as WriteCell, Release as ReleasePage}
use Rattle.residency.specs.Placements.{Placements, no_placement, with_placement, is_resident, raised, is_covered}
use Rattle.target_side.specs.declared.access.Access.TheVariants.{Waiting, Missed}
use Rattle.target_side.specs.declared.access.UntakenMiss.{UntakenMiss}
use Rattle.target_side.specs.TargetPart.{TargetPart, Accessed, halted_target, does, looks, frees, done_over, lacks, misses_page, accesses, target_access, resumes, with_placed, with_zeroed, settled}
use Rattle.target_side.specs.History.{Happening, Did, Placed, Target, freed_by, released_at, recorded_after, target_at, IsRecorded, Holds, IsHistoryOf, IsBeforeHalt}
use Rattle.target_side.proofs.Logs.{get_new, each_push}
use Rattle.target_side.proofs.Histories.{recorded_more, pushed}

-- what a history makes of the target, at its end
abbrev at_end : List Happening → Target
at_end h = target_at h (length h)

-- whether a book's page is covered
abbrev pub covers : TargetPart → ℕ → Bool
covers b p = is_covered (b.placed p) b.frontier || b.freed p

pub covered_resident : (o f : Option ℕ) (released : Bool) → (is_covered o f || released) ≡ true → is_resident o released ≡ true
covered_resident None f true e = refl
covered_resident None f false e = absurd (cc)
covered_resident (Some k) f released e = refl

-- the frontier that is raised to a placement above it
raised_unseen : (k : ℕ) (f : Option ℕ) → is_covered (Some k) f ≡ false → raised k f ≡ Some k
raised_unseen k None e = refl
raised_unseen k (Some f) e = ap Some (grind (arith, nat_tests, e))

seen_itself : (k : ℕ) → nat_le k k ≡ true
seen_itself k = grind (arith, nat_tests)

same_cover : (h : List Happening) (b : TargetPart) (p : ℕ) → Holds (at_end h) b → covers b p ≡ true → (is_covered ((at_end h).placed p) (at_end h).frontier || (at_end h).freed p) ≡ true
same_cover h b p holds e =
    ap (λ (all : Placements). is_covered (all p) (at_end h).frontier || (at_end h).freed p) holds.placed
    ∙ ap (λ (f : Option ℕ). is_covered (b.placed p) f || (at_end h).freed p) holds.frontier
    ∙ ap (λ (all : Pages). is_covered (b.placed p) b.frontier || all p) holds.freed
    ∙ e

-- a release, where the guest does not run at the target and where it does
released_away : (v p : ℕ) (t : Target) → t.is_resumed ≡ false → recorded_after (Release v p) t ≡ t
released_away v p t e = ap (λ runs. cond runs (released_at p t) t) e

released_there : (v p : ℕ) (t : Target) → t.is_resumed ≡ true → recorded_after (Release v p) t ≡ released_at p t
released_there v p t e = ap (λ runs. cond runs (released_at p t) t) e

-- other pages than the released one are as they were
freed_off : (o : Option ℕ) (p q : ℕ) (all : Pages) → (p == q) ≡ false → freed_by p o all q ≡ all q
freed_off None p q all e = ap (λ t. cond t true (all q)) e
freed_off (Some k) p q all e = refl

looked : (h : List Happening) (b : TargetPart) (k p : ℕ) → IsHistoryOf b h → b.placed p ≡ Some k → is_covered (Some k) b.frontier ≡ false → IsHistoryOf (record b { log = b.log ++ See k ∷ []; frontier = Some k }) (h ++ Did (See k) ∷ [])
looked h b k p was is unseen =
    pushed h (Did (See k)) b (record b { log = b.log ++ See k ∷ []; frontier = Some k }) was
    (p, ap (λ (all : Placements). all p) was.holds.placed ∙ is) refl
    (record {
      placed = was.holds.placed;
      freed = was.holds.freed;
      memory = was.holds.memory;
      frontier = ap (raised k) was.holds.frontier ∙ raised_unseen k b.frontier unseen;
      is_resumed = was.holds.is_resumed;
    })
    (recorded_more b.log (See k ∷ []) b.misses was.misses)

-- what the guest did at a source
before_halt : (e : Extent) (h : List Happening) (b : TargetPart) (r : GuestRec) → IsHistoryOf b h → b.is_resumed ≡ false → b.placed ≡ no_placement → b.freed ≡ no_page → IsBeforeHalt e r → IsHistoryOf (record b { log = b.log ++ r ∷ [] }) (h ++ Did r ∷ [])
before_halt e h b r was home none bare own = go r own
  where
    away : (at_end h).is_resumed ≡ true → ⊥
    away e = let home = home in let same = was.holds.is_resumed in absurd (cc)

    nothing : (page : ℕ) → is_resident (b.placed page) (b.freed page) ≡ true → ⊥
    nothing page e =
        let same = ap (λ (all : Placements). is_resident (all page) (b.freed page)) none in
        let gone : is_resident None (b.freed page) ≡ false = ap (λ (all : Pages). is_resident None (all page)) bare in absurd (cc)

    misses : (r : GuestRec) → AllByRecursion (IsRecorded (b.log ++ r ∷ [])) b.misses
    misses r = recorded_more b.log (r ∷ []) b.misses was.misses

    same : (r : GuestRec) → Holds (at_end h) (record b { log = b.log ++ r ∷ [] })
    same r = record { placed = was.holds.placed; freed = was.holds.freed; memory = was.holds.memory; frontier = was.holds.frontier; is_resumed = was.holds.is_resumed }

    go : (r : GuestRec) → IsBeforeHalt e r → IsHistoryOf (record b { log = b.log ++ r ∷ [] }) (h ++ Did r ∷ [])
    go (Read v p c x) own =
        pushed h (Did (Read v p c x)) b _ was (λ t. absurd (away t)) refl
        (record { placed = was.holds.placed; freed = was.holds.freed; memory = was.holds.memory; frontier = was.holds.frontier; is_resumed = was.holds.is_resumed }) (misses (Read v p c x))
    go (Write v p c x) own =
        pushed h (Did (Write v p c x)) b _ was (λ t. absurd (away t)) refl
        (record { placed = was.holds.placed; freed = was.holds.freed; memory = λ q d some. absurd (nothing q some); frontier = was.holds.frontier; is_resumed = was.holds.is_resumed }) (misses (Write v p c x))
    go (Release v p) own =
        pushed h (Did (Release v p)) b (record b { log = b.log ++ Release v p ∷ [] }) was (λ t some. absurd (away t)) refl
        (subst (λ (t : Target). Holds t (record b { log = b.log ++ Release v p ∷ [] })) (sym (released_away v p (at_end h) (was.holds.is_resumed ∙ home))) (same (Release v p))) (misses (Release v p))
    go (Miss v p) own = absurd own
    go Halt own = absurd own
    go (Resume n) own = absurd own
    go (See n) own = absurd own

halted : (h : List Happening) (b : TargetPart) → IsHistoryOf b h → IsHistoryOf (record b { log = b.log ++ Halt ∷ [] }) (h ++ Did Halt ∷ [])
halted h b was =
    pushed h (Did Halt) b (record b { log = b.log ++ Halt ∷ [] }) was tt refl
    (record { placed = was.holds.placed; freed = was.holds.freed; memory = was.holds.memory; frontier = was.holds.frontier; is_resumed = was.holds.is_resumed }) (recorded_more b.log (Halt ∷ []) b.misses was.misses)

-- a book at the source, with this log
abbrev at_home : List GuestRec → TargetPart
at_home log = record { log = log; is_resumed = false; memory = zeros; placed = no_placement; freed = no_page; frontier = None; misses = []; standing = no_page; unsettled = [] }

all_before_halt : (e : Extent) (done rest : List GuestRec) (h : List Happening) → IsHistoryOf (at_home done) h → AllByRecursion (IsBeforeHalt e) rest → IsHistoryOf (at_home (done ++ rest)) (h ++ map Did rest)
all_before_halt e done [] h was all =
    subst (λ (l : List GuestRec). IsHistoryOf (at_home l) (h ++ [])) (sym (append-nil done)) (subst (λ (g : List Happening). IsHistoryOf (at_home done) g) (sym (append-nil h)) was)
all_before_halt e done (r ∷ rest) h was all =
    let next = all_before_halt e (done ++ r ∷ []) rest (h ++ Did r ∷ []) (before_halt e h (at_home done) r was refl refl refl all.0) all.1 in
    subst (λ (l : List GuestRec). IsHistoryOf (at_home l) (h ++ map Did (r ∷ rest))) (append_assoc done (r ∷ []) rest)
    (subst (λ (g : List Happening). IsHistoryOf (at_home ((done ++ r ∷ []) ++ rest)) g) (append_assoc h (Did r ∷ []) (map Did rest)) next)

nothing_happened : IsHistoryOf (at_home []) []
nothing_happened = record {
  demands = λ n x e. absurd (cc);
  log = refl;
  holds = record { placed = refl; freed = refl; memory = λ p c some. refl; frontier = refl; is_resumed = refl };
  misses = tt;
}

pub halted_history : (e : Extent) (log : List GuestRec) → AllByRecursion (IsBeforeHalt e) log → IsHistoryOf (halted_target log) (map Did log ++ Did Halt ∷ [])
halted_history e log all = halted (map Did log) (at_home log) (all_before_halt e [] log [] nothing_happened all)

-- a release at the target, which makes an absent page resident: one record
release_kept : (v p : ℕ) (h : List Happening) (b : TargetPart) (unsettled : List ℕ) → IsHistoryOf b h → b.is_resumed ≡ true → (is_some (b.placed p) ≡ true → covers b p ≡ true) →
    IsHistoryOf (record b { log = b.log ++ Release v p ∷ []; memory = with_zeros p b.memory; freed = freed_by p (b.placed p) b.freed; unsettled = unsettled }) (h ++ Did (Release v p) ∷ [])
release_kept v p h b unsettled was runs covered =
    pushed h (Did (Release v p)) b new was
    (λ there some. same_cover h b p was.holds (covered (sym (ap (λ (all : Placements). is_some (all p)) was.holds.placed) ∙ some))) refl
    (subst (λ (t : Target). Holds t new) (sym (released_there v p (at_end h) (was.holds.is_resumed ∙ runs)))
    (record {
      placed = was.holds.placed;
      freed = ap (λ (all : Placements). freed_by p (all p) (at_end h).freed) was.holds.placed ∙ ap (λ (all : Pages). freed_by p (b.placed p) all) was.holds.freed;
      memory = λ q d some. cell q d (p == q) refl some;
      frontier = was.holds.frontier;
      is_resumed = was.holds.is_resumed;
    }))
    (recorded_more b.log (Release v p ∷ []) b.misses was.misses)
  where
    new : TargetPart
    new = record b { log = b.log ++ Release v p ∷ []; memory = with_zeros p b.memory; freed = freed_by p (b.placed p) b.freed; unsettled = unsettled }

    cell : (q d : ℕ) (s : Bool) → (p == q) ≡ s → is_resident (b.placed q) (freed_by p (b.placed p) b.freed q) ≡ true → cond s 0 ((at_end h).memory q d) ≡ cond s 0 (b.memory q d)
    cell q d true is some = refl
    cell q d false is some = was.holds.memory q d (sym (ap (λ r. is_resident (b.placed q) r) (freed_off (b.placed p) p q b.freed is)) ∙ some)

-- which changes nothing of the released pages where the page is resident
freed_still : (p : ℕ) (o : Option ℕ) (all : Pages) → is_resident o (all p) ≡ true → freed_by p o all ≡ all
freed_still p (Some k) all e = refl
freed_still p None all e = λ i q. each q (p == q) refl i
  where
    each : (q : ℕ) (s : Bool) → (p == q) ≡ s → cond s true (all q) ≡ all q
    each q true is = let same : p ≡ q = grind (arith, nat_tests, is) in sym (subst (λ n. all n ≡ true) same e)
    each q false is = refl

-- the operation itself, on a covered page: one record
op_kept : (v : ℕ) (op : Op) (h : List Happening) (b : TargetPart) → IsHistoryOf b h → b.is_resumed ≡ true → covers b (page_in op) ≡ true →
    (r : GuestRec) × ((does v op b).log ≡ b.log ++ r ∷ []) × IsHistoryOf (does v op b) (h ++ Did r ∷ [])
op_kept v (ReadCell p c) h b was runs covered =
    let r = Read v p c (b.memory p c) in
    let value = sym (was.holds.memory p c (covered_resident (b.placed p) b.frontier (b.freed p) covered)) in (
      r,
      refl,
      pushed h (Did r) b (record b { log = b.log ++ r ∷ [] }) was (λ runs. (same_cover h b p was.holds covered, value)) refl
          (record { placed = was.holds.placed; freed = was.holds.freed; memory = was.holds.memory; frontier = was.holds.frontier; is_resumed = was.holds.is_resumed }) (recorded_more b.log (r ∷ []) b.misses was.misses),
    )
op_kept v (WriteCell p c x) h b was runs covered =
    let r = Write v p c x in (
      r,
      refl,
      pushed h (Did r) b (record b { log = b.log ++ r ∷ []; memory = with_cell p c x b.memory }) was (λ runs. same_cover h b p was.holds covered) refl
          (record {
            placed = was.holds.placed;
            freed = was.holds.freed;
            memory = λ q d some. ap (λ y. cond ((p == q) && (c == d)) x y) (was.holds.memory q d some);
            frontier = was.holds.frontier;
            is_resumed = was.holds.is_resumed;
          })
          (recorded_more b.log (r ∷ []) b.misses was.misses),
    )
op_kept v (ReleasePage p) h b was runs covered =
    let still = freed_still p (b.placed p) b.freed (covered_resident (b.placed p) b.frontier (b.freed p) covered) in (
      Release v p,
      refl,
      subst (λ (all : Pages). IsHistoryOf (record b { log = b.log ++ Release v p ∷ []; memory = with_zeros p b.memory; freed = all }) (h ++ Did (Release v p) ∷ [])) still
          (release_kept v p h b b.unsettled was runs (λ some. covered)),
    )

-- the marks are no part of it
standing_kept : (h : List Happening) (b : TargetPart) (standing : Pages) → IsHistoryOf b h → IsHistoryOf (record b { standing = standing }) h
standing_kept h b standing was = record {
  demands = was.demands;
  log = was.log;
  holds = record { placed = was.holds.placed; freed = was.holds.freed; memory = was.holds.memory; frontier = was.holds.frontier; is_resumed = was.holds.is_resumed };
  misses = was.misses;
}

-- a history goes on with records of the guest alone
abbrev pub Keeps : TargetPart → TargetPart → Type 0
Keeps old new = (h : List Happening) → IsHistoryOf old h → (records : List GuestRec) × (new.log ≡ old.log ++ records) × IsHistoryOf new (h ++ map Did records)

pub keeps_same : (old new : TargetPart) → new.log ≡ old.log → ((h : List Happening) → IsHistoryOf old h → IsHistoryOf new h) → Keeps old new
keeps_same old new log kept h was = ([], log ∙ sym (append-nil old.log), subst (λ (g : List Happening). IsHistoryOf new g) (sym (append-nil h)) (kept h was))

miss_keeps : (v p : ℕ) (b : TargetPart) → Keeps b (misses_page v p b).book
miss_keeps v p b = go (b.standing v)
  where
    missing : UntakenMiss
    missing = record { number = length b.log; vcpu = v; page = p }

    missed : TargetPart
    missed = record b { log = b.log ++ Miss v p ∷ []; misses = b.misses ++ missing ∷ []; standing = with_page v b.standing }

    go : (s : Bool) → Keeps b (cond {A = Accessed} s (record { book = b; access = Waiting }) (record { book = missed; access = Missed })).book
    go true h was = keeps_same b b refl (λ h was. was) h was
    go false h was = (
      Miss v p ∷ [],
      refl,
      pushed h (Did (Miss v p)) b missed was tt refl
          (record { placed = was.holds.placed; freed = was.holds.freed; memory = was.holds.memory; frontier = was.holds.frontier; is_resumed = was.holds.is_resumed })
          (each_push (IsRecorded (b.log ++ Miss v p ∷ [])) b.misses missing (recorded_more b.log (Miss v p ∷ []) b.misses was.misses) (get_new b.log (Miss v p))),
    )

-- a book with the marks of a virtual processor whose miss no longer stands
abbrev unmarked : ℕ → TargetPart → TargetPart
unmarked v b = record b { standing = without_page v b.standing }

perform_keeps : (v : ℕ) (op : Op) (k : ℕ) (b : TargetPart) → b.is_resumed ≡ true → b.placed (page_in op) ≡ Some k → Keeps b (done_over (looks k) v op b).book
perform_keeps v op k b runs placed h was = go (is_covered (Some k) b.frontier) refl
  where
    c : TargetPart
    c = unmarked v b

    was_c : IsHistoryOf c h
    was_c = standing_kept h b (without_page v b.standing) was

    seen : TargetPart
    seen = record c { log = b.log ++ See k ∷ []; frontier = Some k }

    covered : (f : Option ℕ) → is_covered (Some k) f ≡ true → (is_covered (b.placed (page_in op)) f || b.freed (page_in op)) ≡ true
    covered f is = ap (λ (o : Option ℕ). is_covered o f || b.freed (page_in op)) placed ∙ ap (λ s. s || b.freed (page_in op)) is

    go : (s : Bool) → is_covered (Some k) b.frontier ≡ s → (records : List GuestRec) × ((does v op (cond s c seen)).log ≡ b.log ++ records) × IsHistoryOf (does v op (cond s c seen)) (h ++ map Did records)
    go true is =
        let did = op_kept v op h c was_c runs (covered b.frontier is) in
        (did.0 ∷ [], did.1, did.2)
    go false is =
        let look = looked h c k (page_in op) was_c placed is in
        let did = op_kept v op (h ++ Did (See k) ∷ []) seen look runs (covered (Some k) (seen_itself k)) in
        (See k ∷ did.0 ∷ [], did.1 ∙ append_assoc b.log (See k ∷ []) (did.0 ∷ []), subst (λ (g : List Happening). IsHistoryOf (does v op seen) g) (append_assoc h (Did (See k) ∷ []) (Did did.0 ∷ [])) did.2)

-- on a page that was absent when it was released
or_right : (s : Bool) → (s || true) ≡ true
or_right true = refl
or_right false = refl

again_keeps : (v : ℕ) (op : Op) (b : TargetPart) → b.is_resumed ≡ true → b.freed (page_in op) ≡ true → Keeps b (done_over (λ c. c) v op b).book
again_keeps v op b runs released h was =
    let covered = ap (λ s. is_covered (b.placed (page_in op)) b.frontier || s) released ∙ or_right (is_covered (b.placed (page_in op)) b.frontier) in
    let did = op_kept v op h (unmarked v b) (standing_kept h b (without_page v b.standing) was) runs covered in
    (did.0 ∷ [], did.1, did.2)

-- a release of an absent page
free_keeps : (v p : ℕ) (b : TargetPart) → b.is_resumed ≡ true → b.placed p ≡ None → Keeps b (done_over (frees p) v (ReleasePage p) b).book
free_keeps v p b runs absent h was =
    let c = unmarked v b in
    let kept = release_kept v p h c (b.unsettled ++ p ∷ []) (standing_kept h b (without_page v b.standing) was) runs (λ some. let none = ap (λ (o : Option ℕ). is_some o) absent in absurd (cc)) in (
      Release v p ∷ [],
      refl,
      subst (λ (o : Option ℕ). IsHistoryOf (record c { log = b.log ++ Release v p ∷ []; memory = with_zeros p b.memory; freed = freed_by p o b.freed; unsettled = b.unsettled ++ p ∷ [] }) (h ++ Did (Release v p) ∷ [])) absent kept,
    )

lack_keeps : (v : ℕ) (op : Op) (b : TargetPart) → b.is_resumed ≡ true → b.placed (page_in op) ≡ None → Keeps b (lacks v op b).book
lack_keeps v (ReadCell p c) b runs absent = miss_keeps v p b
lack_keeps v (WriteCell p c x) b runs absent = miss_keeps v p b
lack_keeps v (ReleasePage p) b runs absent = free_keeps v p b runs absent

pub access_keeps : (v : ℕ) (op : Op) (b : TargetPart) → Keeps b (target_access v op b).book
access_keeps v op b = run b.is_resumed refl
  where
    at : b.is_resumed ≡ true → (o : Option ℕ) → b.placed (page_in op) ≡ o → (s : Bool) → b.freed (page_in op) ≡ s → Keeps b (accesses v op o s b).book
    at runs (Some k) is s so = perform_keeps v op k b runs is
    at runs None is true so = again_keeps v op b runs so
    at runs None is false so = lack_keeps v op b runs is

    run : (s : Bool) → b.is_resumed ≡ s → Keeps b (cond {A = Accessed} s (accesses v op (b.placed (page_in op)) (b.freed (page_in op)) b) (record { book = b; access = Waiting })).book
    run true runs = at runs (b.placed (page_in op)) refl (b.freed (page_in op)) refl
    run false runs = keeps_same b b refl (λ h was. was)

-- what the pager has settled is no part of it
pub settle_keeps : (b : TargetPart) (h : List Happening) → IsHistoryOf b h → IsHistoryOf (settled b) h
settle_keeps b h was = record {
  demands = was.demands;
  log = was.log;
  holds = record { placed = was.holds.placed; freed = was.holds.freed; memory = was.holds.memory; frontier = was.holds.frontier; is_resumed = was.holds.is_resumed };
  misses = was.misses;
}

pub resume_keeps : (b : TargetPart) → Keeps b (resumes b)
resume_keeps b h was = (
  Resume 1 ∷ [],
  refl,
  pushed h (Did (Resume 1)) b (resumes b) was tt refl
      (record { placed = was.holds.placed; freed = was.holds.freed; memory = was.holds.memory; frontier = was.holds.frontier; is_resumed = refl }) (recorded_more b.log (Resume 1 ∷ []) b.misses was.misses),
)

-- an absent page is placed
pub place_kept : (p k : ℕ) (content : List ℕ) (b : TargetPart) (h : List Happening) → is_resident (b.placed p) (b.freed p) ≡ false → IsHistoryOf b h → IsHistoryOf (with_placed p k content b) (h ++ Placed p k content ∷ [])
place_kept p k content b h absent was =
    pushed h (Placed p k content) b (with_placed p k content b) was
    (ap (λ (all : Placements). is_resident (all p) ((at_end h).freed p)) was.holds.placed ∙ ap (λ (all : Pages). is_resident (b.placed p) (all p)) was.holds.freed ∙ absent) (sym (append-nil b.log))
    (record {
      placed = ap (with_placement p k) was.holds.placed;
      freed = was.holds.freed;
      memory = λ q d some. cell q d (p == q) some;
      frontier = was.holds.frontier;
      is_resumed = was.holds.is_resumed;
    })
    was.misses
  where
    cell : (q d : ℕ) (s : Bool) → is_resident (cond s (Some k) (b.placed q)) (b.freed q) ≡ true → cond s (slice_index content d) ((at_end h).memory q d) ≡ cond s (slice_index content d) (b.memory q d)
    cell q d true some = refl
    cell q d false some = was.holds.memory q d some

-- as zeros, likewise
pub zero_kept : (p k : ℕ) (b : TargetPart) (h : List Happening) → is_resident (b.placed p) (b.freed p) ≡ false → IsHistoryOf b h → IsHistoryOf (with_zeroed p k b) (h ++ Placed p k [] ∷ [])
zero_kept p k b h absent was = place_kept p k [] b h absent was
