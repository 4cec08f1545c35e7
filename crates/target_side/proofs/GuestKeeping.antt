-- What an operation leaves of what the guest's book keeps.
use Rattle.std.proofs.Common.{◌≡◌, ℕ, ◌<◌, List, [], ◌∷◌, ◌++◌, length, false, refl, sym, ap, ◌∙◌, subst, arith}
use Rattle.std.specs.List.{AllByRecursion}
use Rattle.std.proofs.lemmas.List.{length_push}
use Rattle.migration_types.specs.declared.pages.InitPage.{InitPage}
use Rattle.migration_types.specs.declared.records.GuestRec.{GuestRec}
use Rattle.migration_types.specs.Extents.{Extent}
use Rattle.migration_types.specs.Limits.{most_records}
use Rattle.migration_types.specs.Memory.{Memory, initial}
use Rattle.migration_events.specs.declared.ops.Op.{Op}
use Rattle.migration_events.specs.declared.ops.Op.TheVariants.{Read as ReadCell, Write as WriteCell, Release as ReleasePage}
use Rattle.migration_events.specs.Ops.{OpFits}
use Rattle.audit_model.specs.Flat.{flat, in_ledger, cell_after, released_after}
use Rattle.page_store.specs.Frames.{memory_of}
use Rattle.flat_machine.specs.Machines.{IsAfter, memory_after, ledger_after}
use Rattle.flat_machine.specs.declared.machine.Machine.{Machine}
use Rattle.target_side.specs.History.{IsBeforeHalt}
use Rattle.target_side.proofs.Logs.{before_end, each_push}
use Rattle.target_side.specs.GuestPart.{GuestPart, guest_access}
use Rattle.target_side.specs.Guests.{GuestKept, part_of, guest_session, IsGuestBook}
use Rattle.target_side.specs.inner.Records.{record_of}

-- the part after an operation, by its record
pub access_is : (v : ℕ) (op : Op) (b : GuestPart) → guest_access v op b ≡ record b { log = b.log ++ record_of v op b.memory ∷ []; memory = memory_after (record_of v op b.memory) b.memory; ledger = ledger_after (record_of v op b.memory) b.ledger }
access_is v (ReadCell p c) b = refl
access_is v (WriteCell p c x) b = refl
access_is v (ReleasePage p) b = refl

own_is : (v : ℕ) (op : Op) (e : Extent) (memory : Memory) → OpFits e op → IsBeforeHalt e (record_of v op memory)
own_is v (ReadCell p c) e memory fits = fits
own_is v (WriteCell p c x) e memory fits = (fits.0, fits.1)
own_is v (ReleasePage p) e memory fits = fits

flat_more : (e : Extent) (init : List InitPage) (log : List GuestRec) (r : GuestRec) → memory_after r (flat (guest_session e init log) (length log)) ≡ flat (guest_session e init (log ++ r ∷ [])) (length (log ++ r ∷ []))
flat_more e init log r = λ i p c. sym (before_end (cell_after p c) (initial init p c) log r) i

ledger_more : (e : Extent) (init : List InitPage) (log : List GuestRec) (r : GuestRec) → ledger_after r (in_ledger (guest_session e init log) (length log)) ≡ in_ledger (guest_session e init (log ++ r ∷ [])) (length (log ++ r ∷ []))
ledger_more e init log r = λ i p. sym (before_end (released_after p) false log r) i

module _ (k : GuestKept) (v : ℕ) (op : Op) (new : Machine) (log : List GuestRec) (after : IsAfter (record_of v op (memory_of k.frames)) (record { frames = k.frames; ledger = k.ledger }) new) (grown : log ≡ k.log ++ record_of v op (memory_of k.frames) ∷ []) where
  rec : GuestRec
  rec = record_of v op (memory_of k.frames)

  left : GuestKept
  left = record { log = log; frames = new.frames; ledger = new.ledger }

  pub access_part : part_of (record { log = log; frames = new.frames; ledger = new.ledger }) ≡ guest_access v op (part_of k)
  access_part =
      (λ i. record { geometry = after.frames.geometry i; log = grown i; memory = after.frames.memory_is i; ledger = after.ledger.set_is i })
      ∙ sym (access_is v op (part_of k))

  pub access_keeps : OpFits k.frames.geometry op → length k.log < most_records → IsGuestBook k → IsGuestBook (record { log = log; frames = new.frames; ledger = new.ledger })
  access_keeps fits room is =
      subst (λ (xs : List GuestRec). IsGuestBook (record { log = xs; frames = new.frames; ledger = new.ledger })) (sym grown) kept
    where
      r : GuestRec
      r = record_of v op (memory_of k.frames)

      e : Extent
      e = k.frames.geometry

      kept : IsGuestBook (record { log = k.log ++ record_of v op (memory_of k.frames) ∷ []; frames = new.frames; ledger = new.ledger })
      kept = record {
        few = omega (arith, length_push k.log (record_of v op (memory_of k.frames)), room);
        own = subst (λ (g : Extent). AllByRecursion (IsBeforeHalt g) (k.log ++ record_of v op (memory_of k.frames) ∷ [])) (sym after.frames.geometry) (each_push (IsBeforeHalt k.frames.geometry) k.log _ is.own (own_is v op k.frames.geometry (memory_of k.frames) fits));
        ledger = after.ledger.geometry ∙ is.ledger ∙ sym after.frames.geometry;
        init = is.init;
        memory = after.frames.memory_is ∙ ap (memory_after (record_of v op (memory_of k.frames))) is.memory ∙ flat_more k.frames.geometry is.init k.log (record_of v op (memory_of k.frames));
        released_are = after.ledger.set_is ∙ ap (ledger_after (record_of v op (memory_of k.frames))) is.released_are ∙ ledger_more k.frames.geometry is.init k.log (record_of v op (memory_of k.frames));
      }
