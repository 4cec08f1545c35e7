-- What a book keeps, as what it holds changes.
use Rattle.std.proofs.Common.{◌≡◌, ℕ, false, List, [], ◌∷◌, ◌++◌, length, map, Result, Ok, Err, refl, sym, ap, ◌∙◌, subst, arith, length-append}
use Rattle.std.specs.List.{AllByRecursion}
use Rattle.std.specs.Result.{IfOk, OnOk, OnErr}
use Rattle.migration_types.specs.declared.records.GuestRec.{GuestRec}
use Rattle.migration_types.specs.declared.records.GuestRec.TheVariants.{Halt}
use Rattle.migration_types.specs.Extents.{Extent}
use Rattle.migration_events.specs.declared.ops.Op.{Op}
use Rattle.residency.specs.Placements.{placements, freed, is_resident}
use Rattle.target_side.specs.declared.access.Access.{Access}
use Rattle.migration_events.specs.declared.faults.EventFault.{EventFault}
use Rattle.target_side.specs.declared.target.Placement.{Placement}
use Rattle.target_side.specs.TargetPart.{TargetPart, Accessed, halted_target, target_access, resumes, with_placed, with_zeroed, settled}
use Rattle.target_side.specs.History.{Happening, Did, Placed, IsHistoryOf, IsBeforeHalt}
use Rattle.target_side.specs.Kept.{Held, part_held, IsSized, HaveGrown}
use Rattle.target_side.specs.inner.Woven.{woven, IsBook}
use Rattle.target_side.proofs.Weaves.{within_more, within_push, woven_alone, woven_records, woven_placement}
use Rattle.target_side.proofs.TargetKeeping.{Keeps, keeps_same, halted_history, access_keeps, resume_keeps, place_kept, zero_kept, settle_keeps}

woven_grown : (old new : Held) (ps : List Placement) (records : List GuestRec) → IsBook old ps → new.log ≡ old.log ++ records → woven 0 new.log ps ≡ woven 0 old.log ps ++ map Did records
woven_grown old new ps records was is = ap (λ (l : List GuestRec). woven 0 l ps) is ∙ woven_records (length old.log) 0 old.log records ps (omega arith) was.within

-- the log has grown, and the history with it
pub grown : (old new : Held) (ps : List Placement) → IsBook old ps → IsSized new.frames.geometry new → Keeps (part_held old) (part_held new) → IsBook new ps
grown old new ps was sized keeps =
    let k = keeps (woven 0 old.log ps) was.history in
    let longer = ap (λ (l : List GuestRec). length l) k.1 ∙ length-append old.log k.0 in
    record {
      sized = sized;
      within = within_more (length old.log) (length new.log) ps (omega (arith, longer)) was.within;
      history = subst (λ (h : List Happening). IsHistoryOf (part_held new) h) (sym (woven_grown old new ps k.0 was k.1)) k.2;
    }

pub have_grown : (old new : Held) (ps : List Placement) → IsBook old ps → Keeps (part_held old) (part_held new) → HaveGrown (record { held = old; history = woven 0 old.log ps }) (record { held = new; history = woven 0 new.log ps })
have_grown old new ps was keeps =
    let k = keeps (woven 0 old.log ps) was.history in
    record { records = k.0; log = k.1; history = woven_grown old new ps k.0 was k.1 }

-- a placement more
pub placed_history : (old new : Held) (ps : List Placement) (p : Placement) → new.log ≡ old.log → p.after ≡ length old.log → woven 0 new.log (ps ++ p ∷ []) ≡ woven 0 old.log ps ++ Placed p.page p.number p.contents ∷ []
placed_history old new ps p log after = ap (λ (l : List GuestRec). woven 0 l (ps ++ p ∷ [])) log ∙ woven_placement 0 old.log ps p (omega (arith, after))

pub placed_book : (old new : Held) (ps : List Placement) (p : Placement) → IsBook old ps → IsSized new.frames.geometry new → new.log ≡ old.log → p.after ≡ length old.log → IsHistoryOf (part_held new) (woven 0 old.log ps ++ Placed p.page p.number p.contents ∷ []) → IsBook new (ps ++ p ∷ [])
placed_book old new ps p was sized log after history =
    let same = ap (λ (l : List GuestRec). length l) log in
    record {
      sized = sized;
      within = within_push (length new.log) ps p (within_more (length old.log) (length new.log) ps (omega (arith, same)) was.within) (omega (arith, same, after));
      history = subst (λ (h : List Happening). IsHistoryOf (part_held new) h) (sym (placed_history old new ps p log after)) history;
    }

-- what a call that may fail keeps
unchanged_keeps : (old new : Held) → new ≡ old → Keeps (part_held old) (part_held new)
unchanged_keeps old new is =
    keeps_same (part_held old) (part_held new) (ap (λ (h : Held). h.log) is) (λ h was. subst (λ (x : Held). IsHistoryOf (part_held x) h) (sym is) was)

pub accessed : (v : ℕ) (op : Op) (old new : Held) (r : Result Access EventFault) → IfOk r (λ a. record { book = part_held new; access = a } ≡ target_access v op (part_held old)) → OnErr r (new ≡ old) → Keeps (part_held old) (part_held new)
accessed v op old new (Ok a) ok err = subst (λ (b : TargetPart). Keeps (part_held old) b) (sym (ap (λ (x : Accessed). x.book) ok)) (access_keeps v op (part_held old))
accessed v op old new (Err f) ok err = unchanged_keeps old new err

pub resumed : (old new : Held) (r : Result Unit EventFault) → OnOk r (part_held new ≡ resumes (part_held old)) → OnErr r (new ≡ old) → Keeps (part_held old) (part_held new)
resumed old new (Ok u) ok err = subst (λ (b : TargetPart). Keeps (part_held old) b) (sym ok) (resume_keeps (part_held old))
resumed old new (Err f) ok err = unchanged_keeps old new err

pub on_ok : {A B C : Type 0} (r : Result A B) → C → OnOk r C
on_ok (Ok a) c = c
on_ok (Err b) c = tt

-- at the halt
map_push : (log : List GuestRec) (r : GuestRec) → map Did log ++ Did r ∷ [] ≡ map Did (log ++ r ∷ [])
map_push [] r = refl
map_push (x ∷ log) r = ap (λ (h : List Happening). Did x ∷ h) (map_push log r)

pub halted_book : (e : Extent) (new : Held) (log : List GuestRec) → IsSized new.frames.geometry new → part_held new ≡ halted_target log → AllByRecursion (IsBeforeHalt e) log → IsBook new []
halted_book e new log sized part own = record {
  sized = sized;
  within = tt;
  history = subst (λ (b : TargetPart). IsHistoryOf b (woven 0 new.log [])) (sym part)
      (subst (λ (h : List Happening). IsHistoryOf (halted_target log) h) (map_push log Halt ∙ sym (ap (λ (b : TargetPart). woven 0 b.log []) part ∙ woven_alone 0 (log ++ Halt ∷ []))) (halted_history e log own));
}

-- the history of a book on which a page is placed
pub place_after : (old new : Held) (ps : List Placement) (p k : ℕ) (content : List ℕ) → IsBook old ps → part_held new ≡ with_placed p k content (part_held old) → is_resident (placements old.places p) (freed old.places p) ≡ false → IsHistoryOf (part_held new) (woven 0 old.log ps ++ Placed p k content ∷ [])
place_after old new ps p k content was part absent =
    subst (λ (b : TargetPart). IsHistoryOf b (woven 0 old.log ps ++ Placed p k content ∷ [])) (sym part) (place_kept p k content (part_held old) (woven 0 old.log ps) absent was.history)

pub zero_after : (old new : Held) (ps : List Placement) (p k : ℕ) → IsBook old ps → part_held new ≡ with_zeroed p k (part_held old) → is_resident (placements old.places p) (freed old.places p) ≡ false → IsHistoryOf (part_held new) (woven 0 old.log ps ++ Placed p k [] ∷ [])
zero_after old new ps p k was part absent =
    subst (λ (b : TargetPart). IsHistoryOf b (woven 0 old.log ps ++ Placed p k [] ∷ [])) (sym part) (zero_kept p k (part_held old) (woven 0 old.log ps) absent was.history)

-- the pager has settled all
pub settle_book : (old new : Held) (ps : List Placement) → IsBook old ps → IsSized new.frames.geometry new → part_held new ≡ settled (part_held old) → IsBook new ps
settle_book old new ps was sized part =
    grown old new ps was sized
    (keeps_same (part_held old) (part_held new) (ap (λ (b : TargetPart). b.log) part) (λ h was. subst (λ (b : TargetPart). IsHistoryOf b h) (sym part) (settle_keeps (part_held old) h was)))
