-- The guest's steps at the target.
use Rattle.migration_types.specs.Extents.{Extent}
use Rattle.migration_types.specs.PageSets.{with_page, without_page}
use Rattle.migration_types.specs.Receipts.{Name}
use Rattle.migration_types.specs.declared.records.GuestRec.TheVariants.{Miss, Read, Release, See, Write}
use Rattle.migration_types.specs.declared.records.LogName.TheVariants.{Guest}
use Rattle.migration_types.specs.declared.version.Version.{Version}
use Rattle.residency.specs.Placements.{is_covered}
use Rattle.migration_model.proofs.Facts.{Arrives, AwayKept, VcpusKept, close_guest, close_guest_two, close_none}
use Rattle.migration_model.proofs.Lists.{each_set, length_set}
use Rattle.migration_model.proofs.Pushes.{IsOpen, covered_by, free_pushed, freed_open, miss_pushed, placed_open, read_pushed, release_pushed, see_pushed, seen, with_standing, with_vcpus, write_pushed}
use Rattle.migration_model.specs.Events.{accessed, away_ops, away_step}
use Rattle.migration_model.specs.Books.{BooksAfter, Vcpu, VcpuFits, session_after}
use Rattle.migration_events.specs.Ops.{LateOpFits}
use Rattle.std.proofs.Common.{Bool, List, None, Option, Some, [], arith, cond, false, length, refl, subst, suc, true, zero, ℕ, ◌++◌, ◌<◌, ◌∷◌, ◌≡◌}
use Rattle.std.proofs.lemmas.Option.{slice_get_within}
use Rattle.std.specs.List.{AllByRecursion}
use Rattle.std.specs.Prelude.{slice_get, slice_set}
use Rattle.migration_events.specs.Ops.{page_in}
use Rattle.target_side.specs.TargetPart.{accesses, does, lacks, misses_page}
use Rattle.target_side.specs.declared.access.Access.TheVariants.{Missed, Waiting as AccessWaiting}
use Rattle.migration_events.specs.declared.ops.Op.{Op}
use Rattle.migration_events.specs.declared.ops.Op.TheVariants.{Read as ReadCell, Release as ReleasePage, Write as WriteCell}

pub each_get : {A : Type 0} (P : A → Type 0) (xs : List A) (i : ℕ) (x : A) → AllByRecursion P xs → slice_get xs i ≡ Some x → P x
each_get P [] i x all e = absurd (cc)
each_get P (y ∷ xs) zero x all e = let same : y ≡ x = cc in subst P same all.0
each_get P (y ∷ xs) (suc i) x all e = each_get P xs i x all.1 e

-- a virtual processor that fits in place of another
pub vcpus_set : (version : Version) (e : Extent) (vcpus : List Vcpu) (v : ℕ) (vcpu : Vcpu) → VcpusKept version e vcpus → VcpuFits version e vcpu → VcpusKept version e (slice_set vcpus v vcpu)
vcpus_set version e vcpus v vcpu k fits = record { few = omega (arith, k.few, length_set vcpus v vcpu); each = each_set (VcpuFits version e) vcpus v vcpu k.each fits }

pub vcpu_low : (version : Version) (e : Extent) (vcpus : List Vcpu) (v : ℕ) (vcpu : Vcpu) → VcpusKept version e vcpus → slice_get vcpus v ≡ Some vcpu → v < 64
vcpu_low version e vcpus v vcpu k is = let lt = slice_get_within vcpus v vcpu is in omega (arith, lt, k.few)

module _ (o : List Name) (v : ℕ) (low : v < 64) where
  -- on a page that is there, and whose access is covered
  open_keeps : (op : Op) (a : BooksAfter) → AwayKept o a → a.target.is_resumed ≡ true → IsOpen a (page_in op) → LateOpFits a.version a.source.geometry op → Arrives o a (record a { target = does v op a.target })
  open_keeps (ReadCell p c) a kept on reached fits = close_guest o (session_after a) (Read v p c (a.target.memory p c)) _ (read_pushed v p c a kept on reached low fits)
  open_keeps (WriteCell p c x) a kept on reached fits = close_guest o (session_after a) (Write v p c x) _ (write_pushed v p c x a kept on reached low fits)
  open_keeps (ReleasePage p) a kept on reached fits = close_guest o (session_after a) (Release v p) _ (release_pushed v p a kept on reached low fits)

  -- after a look at the page's placement
  seen_keeps : (k : ℕ) (op : Op) (a : BooksAfter) → AwayKept o a → a.target.is_resumed ≡ true → a.target.placed (page_in op) ≡ Some k → LateOpFits a.version a.source.geometry op → Arrives o a (record a { target = does v op (seen k a).target })
  seen_keeps k op a kept on at fits = go op fits (placed_open (page_in op) k (seen k a) looked at (k, refl, omega arith))
    where
      looked : AwayKept (o ++ (Guest, length a.target.log) ∷ []) (seen k a)
      looked = see_pushed (page_in op) k a kept on at

      go : (op : Op) → LateOpFits a.version a.source.geometry op → IsOpen (seen k a) (page_in op) → Arrives o a (record a { target = does v op (seen k a).target })
      go (ReadCell p c) fits reached = close_guest_two o (session_after a) (See k) (Read v p c (a.target.memory p c)) _ (read_pushed v p c (seen k a) looked on reached low fits)
      go (WriteCell p c x) fits reached = close_guest_two o (session_after a) (See k) (Write v p c x) _ (write_pushed v p c x (seen k a) looked on reached low fits)
      go (ReleasePage p) fits reached = close_guest_two o (session_after a) (See k) (Release v p) _ (release_pushed v p (seen k a) looked on reached low fits)

  placed_keeps : (k : ℕ) (op : Op) (b : Bool) (a : BooksAfter) → AwayKept o a → a.target.is_resumed ≡ true → a.target.placed (page_in op) ≡ Some k → LateOpFits a.version a.source.geometry op → is_covered (Some k) a.target.frontier ≡ b →
      Arrives o a (record a { target = does v op (cond b a.target (seen k a).target) })
  placed_keeps k op true a kept on at fits is = open_keeps op a kept on (placed_open (page_in op) k a kept at (covered_by a.target.frontier k is)) fits
  placed_keeps k op false a kept on at fits is = seen_keeps k op a kept on at fits

  miss_keeps : (vcpu : Vcpu) (ops : List Op) (p : ℕ) (a : BooksAfter) → AwayKept o a → a.target.is_resumed ≡ true → p < a.source.geometry.pages → Arrives o a (accessed v vcpu ops (misses_page v p a.target) a)
  miss_keeps vcpu ops p a k on lt = go (a.target.standing v)
    where
      go : (b : Bool) → Arrives o a (accessed v vcpu ops (cond b (record { book = a.target; access = AccessWaiting }) (record {
        book = record a.target {
          log = a.target.log ++ Miss v p ∷ [];
          misses = a.target.misses ++ (record { number = length a.target.log; vcpu = v; page = p }) ∷ [];
          standing = with_page v a.target.standing;
        };
        access = Missed;
      })) a)
      go true = close_none o (session_after a) a k
      go false = close_guest o (session_after a) (Miss v p) _ (with_standing (with_page v a.target.standing) _ (miss_pushed v p a k on low lt))

  -- the book in which the operation is done: the virtual processor goes on, and a miss of it no longer stands
  abbrev goes : Vcpu → List Op → BooksAfter → BooksAfter
  goes vcpu ops a = record a { target = record a.target { standing = without_page v a.target.standing }; vcpus = slice_set a.vcpus v (record vcpu { after_move = ops }) }

  goes_keeps : (vcpu : Vcpu) (ops : List Op) (a : BooksAfter) → AwayKept o a → AllByRecursion (LateOpFits a.version a.source.geometry) ops → VcpuFits a.version a.source.geometry vcpu → AwayKept o (goes vcpu ops a)
  goes_keeps vcpu ops a k rest whole =
      let new : Vcpu = record vcpu { after_move = ops } in
      let vcpus : List Vcpu = slice_set a.vcpus v new in
      let b = record a { vcpus = vcpus } in
      with_standing (without_page v a.target.standing) b
      (with_vcpus vcpus a k (vcpus_set a.version a.source.geometry a.vcpus v new k.vcpus (record { before_move = whole.before_move; after_move = rest })))

  absent_keeps : (vcpu : Vcpu) (op : Op) (ops : List Op) (a : BooksAfter) → AwayKept o a → a.target.is_resumed ≡ true → a.target.placed (page_in op) ≡ None → LateOpFits a.version a.source.geometry op → AllByRecursion (LateOpFits a.version a.source.geometry) ops → VcpuFits a.version a.source.geometry vcpu →
      Arrives o a (accessed v vcpu ops (lacks v op a.target) a)
  absent_keeps vcpu (ReadCell p c) ops a k on none fits rest whole = miss_keeps vcpu ops p a k on fits.0
  absent_keeps vcpu (WriteCell p c x) ops a k on none fits rest whole = miss_keeps vcpu ops p a k on fits.0
  absent_keeps vcpu (ReleasePage p) ops a k on none fits rest whole = close_guest o (session_after a) (Release v p) _ (free_pushed v p (goes vcpu ops a) (goes_keeps vcpu ops a k rest whole) on none low fits)

  turn_keeps : (vcpu : Vcpu) (op : Op) (ops : List Op) (q : Option ℕ) (is_freed : Bool) (a : BooksAfter) → AwayKept o a → a.target.is_resumed ≡ true → a.target.placed (page_in op) ≡ q → a.target.freed (page_in op) ≡ is_freed →
      LateOpFits a.version a.source.geometry op → AllByRecursion (LateOpFits a.version a.source.geometry) ops → VcpuFits a.version a.source.geometry vcpu →
      Arrives o a (accessed v vcpu ops (accesses v op q is_freed a.target) a)
  turn_keeps vcpu op ops (Some n) is_freed a k on at e fits rest whole = placed_keeps n op (is_covered (Some n) a.target.frontier) (goes vcpu ops a) (goes_keeps vcpu ops a k rest whole) on at fits refl
  turn_keeps vcpu op ops None true a k on at e fits rest whole =
      let kept = goes_keeps vcpu ops a k rest whole in
      open_keeps op (goes vcpu ops a) kept on (freed_open (page_in op) (goes vcpu ops a) kept e) fits
  turn_keeps vcpu op ops None false a k on at e fits rest whole = absent_keeps vcpu op ops a k on at fits rest whole

  ops_keep : (vcpu : Vcpu) (ops : List Op) (a : BooksAfter) → AwayKept o a → AllByRecursion (LateOpFits a.version a.source.geometry) ops → VcpuFits a.version a.source.geometry vcpu → Arrives o a (away_ops v vcpu ops a)
  ops_keep vcpu [] a k fits whole = close_none o (session_after a) a k
  ops_keep vcpu (op ∷ ops) a k fits whole = go a.target.is_resumed refl
    where
      go : (b : Bool) → a.target.is_resumed ≡ b → Arrives o a (accessed v vcpu ops (cond b (accesses v op (a.target.placed (page_in op)) (a.target.freed (page_in op)) a.target) (record { book = a.target; access = AccessWaiting })) a)
      go true on = turn_keeps vcpu op ops (a.target.placed (page_in op)) (a.target.freed (page_in op)) a k on refl refl fits.0 fits.1 whole
      go false on = close_none o (session_after a) a k

pub away_step_keeps : (o : List Name) (v : ℕ) (q : Option Vcpu) (a : BooksAfter) → AwayKept o a → slice_get a.vcpus v ≡ q → Arrives o a (away_step v q a)
away_step_keeps o v None a k e = close_none o (session_after a) a k
away_step_keeps o v (Some vcpu) a k e =
    let fits = each_get (VcpuFits a.version a.source.geometry) a.vcpus v vcpu k.vcpus.each e in
    ops_keep o v (vcpu_low a.version a.source.geometry a.vcpus v vcpu k.vcpus e) vcpu vcpu.after_move a k fits.after_move fits
