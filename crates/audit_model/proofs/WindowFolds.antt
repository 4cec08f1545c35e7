-- Where the guest is, what is freed, placed and looked at, through a window.
use Rattle.std.proofs.Common.{◌≡◌, ℕ, zero, suc, ◌||◌, Bool, true, false, Option, Some, None, refl, sym, ap, ◌∙◌}
use Rattle.std.specs.Prelude.{slice_get, is_some}
use Rattle.migration_types.specs.declared.records.LogName.TheVariants.{Guest, Pager}
use Rattle.migration_types.specs.declared.records.GuestRec.{GuestRec}
use Rattle.migration_types.specs.declared.records.GuestRec.TheVariants.{Read, Write, Release, Miss, Halt, Resume, See}
use Rattle.migration_types.specs.declared.records.PagerRec.{PagerRec}
use Rattle.migration_types.specs.declared.records.PagerRec.TheVariants.{Got, Pull, Ready, Fault, Join, Want, Place, Zero, Skip, All}
use Rattle.migration_types.specs.Sessions.{Recorded}
use Rattle.audit_model.specs.Flat.{changed, Home, AtSource, Nowhere, AtTarget, home_after, home, marked_late, freed_after, freed}
use Rattle.audit_model.specs.Shape.{is_placement_of, earlier}
use Rattle.audit_model.specs.Windows.{Numbers, IsNumbering, tallied, keeps_pager, keeps_guest, marks, moved_to, new_guest, new_pager, window}
use Rattle.audit_model.proofs.Ranks.{new_at, fold_kept, aligned_map, mark_of}
use Rattle.audit_model.proofs.WindowCells.{guest_aligned, guest_marked, same_page, other_page}

module _ (s : Recorded) (number : Numbers) (count : ℕ) where
  kept_home : (k : ℕ) (x : GuestRec) (v : Home) → keeps_guest s number k x ≡ true → home_after (new_guest s number x) v ≡ home_after x v
  kept_home k (Read c r d y) v e = refl
  kept_home k (Write c r d y) v e = refl
  kept_home k (Release c r) v e = refl
  kept_home k (Miss c r) v e = refl
  kept_home k Halt v e = refl
  kept_home k (Resume i) v e = refl
  kept_home k (See i) v e = refl

  gone_home : (k : ℕ) (x : GuestRec) (v : Home) → keeps_guest s number k x ≡ false → v ≡ home_after x v
  gone_home k (Read c r d y) v e = refl
  gone_home k (Write c r d y) v e = refl
  gone_home k (Release c r) v e = refl
  gone_home k (Miss c r) v e = refl
  gone_home k Halt v e = absurd (cc)
  gone_home k (Resume i) v e = absurd (cc)
  gone_home k (See i) v e = refl

  -- where the guest is
  pub same_home : (n : ℕ) → home (window number count s) (moved_to s number Guest n) ≡ home s n
  same_home n =
      fold_kept (new_guest s number) (marks s number Guest) s.guest home_after home_after AtSource (guest_aligned s number)
      (λ m x v is mark. let r = guest_marked s number m x true is mark in kept_home m x v r)
      (λ m x v is mark. let r = guest_marked s number m x false is mark in gone_home m x v r)
      n

module _ (number : Numbers) (ours : IsNumbering number) (p q : ℕ) (at : number p ≡ Some q) (s : Recorded) (count : ℕ) where
  kept_freed : (h : Home) (k : ℕ) (x : GuestRec) (v : Bool) → keeps_guest s number k x ≡ true → freed_after h q (new_guest s number x) v ≡ freed_after h p x v
  kept_freed h k (Read c r d y) v e = refl
  kept_freed h k (Write c r d y) v e = refl
  kept_freed h k (Release c r) v e = ap (λ b. marked_late h b v) (same_page number ours p q at r e)
  kept_freed h k (Miss c r) v e = refl
  kept_freed h k Halt v e = refl
  kept_freed h k (Resume i) v e = refl
  kept_freed h k (See i) v e = refl

  unmarked : (h : Home) (v : Bool) → marked_late h false v ≡ v
  unmarked AtSource v = refl
  unmarked Nowhere v = refl
  unmarked AtTarget v = refl

  gone_freed : (h : Home) (k : ℕ) (x : GuestRec) (v : Bool) → keeps_guest s number k x ≡ false → v ≡ freed_after h p x v
  gone_freed h k (Read c r d y) v e = refl
  gone_freed h k (Write c r d y) v e = refl
  gone_freed h k (Release c r) v e = sym (ap (λ b. marked_late h b v) (other_page number ours p q at r e) ∙ unmarked h v)
  gone_freed h k (Miss c r) v e = refl
  gone_freed h k Halt v e = refl
  gone_freed h k (Resume i) v e = refl
  gone_freed h k (See i) v e = refl

  -- what is freed
  pub same_freed : (n : ℕ) → freed (window number count s) (moved_to s number Guest n) q ≡ freed s n p
  same_freed zero = refl
  same_freed (suc n) = go (slice_get (marks s number Guest) n) refl (slice_get s.guest n) refl (same_freed n)
    where
      go : (m : Option Bool) → slice_get (marks s number Guest) n ≡ m → (o : Option GuestRec) → slice_get s.guest n ≡ o →
          freed (window number count s) (moved_to s number Guest n) q ≡ freed s n p →
          freed (window number count s) (tallied m (moved_to s number Guest n)) q ≡ changed (freed_after (home s n) p) o (freed s n p)
      go None a None b e = e
      go None a (Some x) b e = let f : false ≡ true = sym (ap is_some a) ∙ guest_aligned s number n ∙ ap is_some b in absurd (cc)
      go (Some m) a None b e = let f : true ≡ false = sym (ap is_some a) ∙ guest_aligned s number n ∙ ap is_some b in absurd (cc)
      go (Some true) a (Some x) b e =
          let r = guest_marked s number n x true b a in
          ap (λ o. changed (freed_after (home (window number count s) (moved_to s number Guest n)) q) o (freed (window number count s) (moved_to s number Guest n) q)) (new_at (new_guest s number) (marks s number Guest) s.guest n x b a)
          ∙ ap (λ h. freed_after h q (new_guest s number x) (freed (window number count s) (moved_to s number Guest n) q)) (same_home s number count n)
          ∙ ap (freed_after (home s n) q (new_guest s number x)) e
          ∙ kept_freed (home s n) n x (freed s n p) r
      go (Some false) a (Some x) b e = let r = guest_marked s number n x false b a in e ∙ gone_freed (home s n) n x (freed s n p) r

  pub kept_placement : (x : PagerRec) → keeps_pager s number x ≡ true → is_placement_of q (new_pager s number x) ≡ is_placement_of p x
  kept_placement (Place r got content) e = same_page number ours p q at r e
  kept_placement (Zero r) e = same_page number ours p q at r e
  kept_placement (Got i) e = refl
  kept_placement (Pull i) e = refl
  kept_placement Ready e = refl
  kept_placement (Fault i) e = refl
  kept_placement (Join i) e = refl
  kept_placement (Want r) e = refl
  kept_placement (Skip i) e = refl
  kept_placement All e = refl

  pub gone_placement : (x : PagerRec) → keeps_pager s number x ≡ false → is_placement_of p x ≡ false
  gone_placement (Place r got content) e = other_page number ours p q at r e
  gone_placement (Zero r) e = other_page number ours p q at r e
  gone_placement (Got i) e = refl
  gone_placement (Pull i) e = refl
  gone_placement Ready e = refl
  gone_placement (Fault i) e = refl
  gone_placement (Join i) e = refl
  gone_placement (Want r) e = refl
  gone_placement (Skip i) e = refl
  gone_placement All e = refl

  -- what is placed
  pub same_placed : (n : ℕ) → earlier (is_placement_of q) (window number count s).pager (moved_to s number Pager n) ≡ earlier (is_placement_of p) s.pager n
  same_placed n =
      fold_kept (new_pager s number) (marks s number Pager) s.pager (λ x found. is_placement_of p x || found) (λ x found. is_placement_of q x || found) false (aligned_map (keeps_pager s number) s.pager)
      (λ m x v is mark. ap (λ b. b || v) (kept_placement x (mark_of (keeps_pager s number) s.pager m x true is mark)))
      (λ m x v is mark. sym (ap (λ b. b || v) (gone_placement x (mark_of (keeps_pager s number) s.pager m x false is mark))))
      n
