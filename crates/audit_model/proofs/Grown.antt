-- A session that has grown by one record, whose receipt names a record that was there, keeps its order as a merging.
use Rattle.std.proofs.Common.{◌≡◌, ℕ, suc, ◌<◌, ◌≤◌, Bool, true, false, cond, List, [], ◌∷◌, ◌++◌, length, refl, sym, ap, ◌∙◌, arith}
use Rattle.migration_types.specs.declared.records.LogName.{LogName}
use Rattle.migration_types.specs.Sessions.{Recorded}
use Rattle.migration_types.specs.Receipts.{Name}
use Rattle.audit_model.specs.Names.{log_length, same_log}
use Rattle.audit_model.specs.Mergings.{places_of, IsMerging, Cursors, at_start}
use Rattle.audit_model.specs.Walks.{next, cursors_from, MayFollow, Walks, IsGrown}
use Rattle.audit_model.proofs.Cuts.{cursors_push, same_log_itself, cursor_next, cursor_count, from_start, merging_walks}
use Rattle.audit_model.proofs.Walked.{walk_merges, length_range}

rises : (b : Bool) (k : ℕ) → k ≤ cond b (suc k) k
rises true k = omega arith
rises false k = omega arith

walks_grown : (s t : Recorded) (name : Name) → IsGrown s t name → (c : Cursors) (names : List Name) → Walks s c names → Walks t c names
walks_grown s t name grown c [] walks = tt
walks_grown s t name grown c (n ∷ names) walks = (
  record {
    is_next = walks.0.is_next;
    is_there = omega (arith, walks.0.is_there, grown.lengths n.0, rises (same_log name.0 n.0) (log_length s n.0));
    sent_before = λ sent is. walks.0.sent_before sent (sym (grown.receipts n walks.0.is_there) ∙ is);
  },
  walks_grown s t name grown (next c n.0) names walks.1,
)

pub walks_push : (s : Recorded) (c : Cursors) (names : List Name) (n : Name) → Walks s c names → MayFollow s (cursors_from c names) n → Walks s c (names ++ n ∷ [])
walks_push s c [] n walks may = (may, tt)
walks_push s c (m ∷ names) n walks may = (walks.0, walks_push s (next c m.0) names n walks.1 may)

pub grown_merges : (s t : Recorded) (name : Name) (order : List Name) → IsGrown s t name → IsMerging s order → IsMerging t (order ++ name ∷ [])
grown_merges s t name order grown merging =
    walk_merges t (order ++ name ∷ []) (walks_push t at_start order name (walks_grown s t name grown at_start order (merging_walks s order merging)) may) ends
  where
    c : Cursors
    c = cursors_from at_start order

    full : (l : LogName) → c l ≡ log_length s l
    full l = cursor_count at_start order l ∙ from_start l (length (places_of l order)) ∙ ap (λ (xs : List ℕ). length xs) (merging.each_once_in_order l) ∙ length_range 0 (log_length s l)

    may : MayFollow t c name
    may = record {
      is_next = grown.is_next ∙ sym (full name.0);
      is_there = here (same_log name.0 name.0) refl;
      sent_before = λ sent is. omega (arith, grown.sent_there sent is, full sent.0);
    }
      where
        itself : (l : LogName) → same_log l l ≡ true
        itself l = same_log_itself l

        here : (b : Bool) → same_log name.0 name.0 ≡ b → name.1 < log_length t name.0
        here b e = omega (arith, grown.is_next, grown.lengths name.0, ap (λ b. cond b (suc (log_length s name.0)) (log_length s name.0)) (itself name.0))

    ends : (l : LogName) → cursors_from at_start (order ++ name ∷ []) l ≡ log_length t l
    ends l =
        ap (λ d. d l) (cursors_push at_start order name)
        ∙ cursor_next c name.0 l
        ∙ ap (λ k. cond (same_log name.0 l) (suc k) k) (full l)
        ∙ sym (grown.lengths l)
