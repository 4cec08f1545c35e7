-- What is known of a text and its output, where a piece is written.
use Rattle.std.proofs.Common.{◌≡◌, ℕ, zero, suc, length, drop, ◌+◌, take, add-zero, List, [], ◌++◌, Option, Some, None, refl, sym, ap, subst, ◌∙◌}
use Rattle.std.proofs.lemmas.List.{append-nil, take-append-drop}
use Rattle.std.proofs.Math.Seq.{take-append_seam}
use Rattle.text_access.specs.Written.{Gains}
use Rattle.text_access.proofs.Fronts.{both_gain}
use Rattle.std.specs.Prelude.{Result, Ok, Err, OnOk, IsOk, true, false}
use Rattle.std.specs.Option.{is_some}
use Rattle.std.specs.Io.KnownBytes.{Appends}
use Rattle.std.proofs.KnownBytes.{Appends-nil, Appends-trans, Appends-kept}
use Rattle.migration_types.specs.Sessions.{Recorded}
use Rattle.recordings.specs.declared.machine.WideMachine.{WideMachine}
use Rattle.recordings.specs.Seen.{nothing_of}
use Rattle.recordings.specs.Wide.{extent_of}
use Rattle.recordings.specs.inner.Held.{SessionDraft, came_at}
use Rattle.recorder_files.specs.declared.fronts.Front.{Front}
use Rattle.recorder_files.specs.Fronts.{cursors_of}
use Rattle.walked_sessions.specs.declared.write_faults.PushFault.{PushFault}
use Rattle.walked_sessions.specs.declared.text.ListKind.TheVariants as section
use Rattle.walked_sessions.specs.declared.text.Text.{Text}
use Rattle.walked_sessions.specs.Written.{text_of, HasRecords}
use Rattle.walked_sessions.specs.inner.Made.{stage_of, draft_of, lane_count, head_text, Stands, IsSame, IsMachineSaid, IsEnded, Holds, IsKept, IsNothing, MeetsWell, Meets}
use Rattle.walked_sessions.proofs.Lines.{ok_then, ok_of, counts_kept, stands_there}
use Rattle.walked_sessions.proofs.Fronts.{whole_text, has_records}

-- the bytes were written
pub written : (start known next : Option (List ℕ)) (old new : Text) (d : SessionDraft) → IsSame old new → new.section ≡ old.section → new.left ≡ old.left → Appends known next old.bytes.items → new.bytes.items ≡ [] → Holds start known old d → Holds start next new d
written start known next old new d same at left wrote none holds =
    let s = holds.stands in
    let all = holds.before ++ old.bytes.items in
    record {
      before = all;
      written = Appends-trans start known next holds.before old.bytes.items holds.written wrote;
      stands = stands_there all new old.section d at (record {
        counts = counts_kept old new d s.counts same;
        lives = s.lives;
        came = ap (λ (n : ℕ). n + came_at (stage_of old.section) d) left ∙ s.came;
        text = ap (λ (xs : List ℕ). all ++ xs) none ∙ append-nil all ∙ s.text;
      });
    }

take_nil : {X : Type 0} (n : ℕ) → take {A = X} n [] ≡ []
take_nil zero = refl
take_nil (suc n) = refl

-- the machine is met
pub met_machine : (start known : Option (List ℕ)) (front : Front) (pages : ℕ) (old new : Text) (fault : Option PushFault) (machine : WideMachine) → IsNothing start front pages known old fault → IsMachineSaid old new machine → Holds start known new (draft_of new.init (cursors_of front) (nothing_of machine.version (extent_of machine)))
met_machine start known front pages old new fault machine nothing said =
    let d = draft_of new.init (cursors_of front) (nothing_of machine.version (extent_of machine)) in
    let same : new.front ≡ front = said.head.front ∙ nothing.front in
    let init : new.left ≡ new.init = said.left ∙ sym said.head.init in
    let bytes : new.bytes.items ≡ head_text machine.version (extent_of machine) new.init = said.head.bytes ∙ ap (λ (xs : List ℕ). xs ++ head_text machine.version (extent_of machine) old.init) nothing.bytes ∙ ap (head_text machine.version (extent_of machine)) (sym said.head.init) in
    record {
      before = [];
      written = Appends-kept start start known [] (Appends-nil start) nothing.kept;
      stands = stands_there [] new section.Init d said.section (record {
        counts = record {
          version = sym said.version;
          init = refl;
          guest = ap (λ f. f.guest) (sym same);
          source = ap (λ f. f.source) (sym same);
          link = ap (λ f. f.link) (sym same);
          lane = ap (λ v. lane_count v front.lane) (sym said.version) ∙ ap (λ f. lane_count new.version f.lane) (sym same);
          pager = ap (λ f. f.pager) (sym same);
        };
        lives = (take_nil front.guest, (take_nil front.source, (take_nil front.link, (take_nil (lane_count machine.version front.lane), take_nil front.pager))));
        came = ap (λ (n : ℕ). n + 0) init ∙ add-zero new.init;
        text = bytes;
      });
    }

-- ---- what is met after a line was appended, and perhaps a piece written

-- what settling a text ensures
pub record Settles (known next : Option (List ℕ)) (pushed : Result (Unit {0}) PushFault) (mid new : Text) (fault : Option PushFault) : Type 0 where
  pub holds : (start : Option (List ℕ)) (d : SessionDraft) → OnOk pushed (Holds start known mid d) → fault ≡ None → Holds start next new d
  pub same : IsSame mid new
  pub ok : fault ≡ None → IsOk pushed

pub meets_machine : (start known next : Option (List ℕ)) (front : Front) (pages : ℕ) (old mid new : Text) (pushed : Result (Unit {0}) PushFault) (before fault : Option PushFault) (machine : WideMachine) → IsNothing start front pages known old before → OnOk pushed (IsMachineSaid old mid machine) → Settles known next pushed mid new fault → Meets start front pages next new fault (nothing_of machine.version (extent_of machine))
meets_machine start known next front pages old mid new pushed before fault machine nothing said settles = λ none.
    let s = nothing_of machine.version (extent_of machine) in
    let was = ok_of pushed (settles.ok none) said in
    let d = draft_of mid.init (cursors_of front) s in
    let all = settles.holds start d (ok_then pushed (λ (x : IsMachineSaid old mid machine). met_machine start known front pages old mid before machine nothing x) said) none in
    record {
      front = settles.same.front ∙ was.head.front ∙ nothing.front;
      init = settles.same.init ∙ was.head.init ∙ nothing.init;
      holds = subst (λ (n : ℕ). Holds start next new (draft_of n (cursors_of front) s)) (sym settles.same.init) all;
    }

pub meets_more : (start known next : Option (List ℕ)) (front : Front) (pages : ℕ) (old mid new : Text) (pushed : Result (Unit {0}) PushFault) (fault : Option PushFault) (s more : Recorded) (e : SessionDraft) → ((before : List ℕ) → Stands before old (draft_of old.init (cursors_of front) s) → OnOk pushed (Stands before mid e)) → OnOk pushed (IsSame old mid) → Settles known next pushed mid new fault → draft_of old.init (cursors_of front) more ≡ e → MeetsWell start front pages known old s → Meets start front pages next new fault more
meets_more start known next front pages old mid new pushed fault s more e stands same settles is m = λ none.
    let was = ok_of pushed (settles.ok none) same in
    let h = m.holds in
    let there = ok_then pushed (λ (x : Stands h.before mid e). let r : Holds start known mid e = record { before = h.before; written = h.written; stands = x } in r) (stands h.before h.stands) in
    let all = settles.holds start e there none in
    let init : new.init ≡ old.init = settles.same.init ∙ was.init in
    let draft : draft_of new.init (cursors_of front) more ≡ e = ap (λ (n : ℕ). draft_of n (cursors_of front) more) init ∙ is in
    record {
      front = settles.same.front ∙ was.front ∙ m.front;
      init = init ∙ m.init;
      holds = subst (Holds start next new) (sym draft) all;
    }

-- nothing is appended, since the record has no place in the text
pub meets_past : (start known : Option (List ℕ)) (front : Front) (pages : ℕ) (t : Text) (s more : Recorded) → draft_of t.init (cursors_of front) more ≡ draft_of t.init (cursors_of front) s → MeetsWell start front pages known t s → MeetsWell start front pages known t more
meets_past start known front pages t s more is m = record { front = m.front; init = m.init; holds = subst (Holds start known t) (sym is) m.holds }

pub none_of : {A : Type 0} (o : Option A) → false ≡ is_some o → o ≡ None
none_of None e = refl
none_of (Some x) e = absurd (cc)

pub some_of : {A : Type 0} (o : Option A) → true ≡ is_some o → o ≡ None → ⊥
some_of None e is = absurd (cc)
some_of (Some x) e is = absurd (cc)

pub any_ok : {T E P : Type 0} (r : Result T E) → P → OnOk r P
any_ok (Ok x) p = p
any_ok (Err e) p = tt

-- the whole text was written
pub finished : (start known next : Option (List ℕ)) (front : Front) (pages : ℕ) (old new : Text) (s : Recorded) → MeetsWell start front pages known old s → ((before : List ℕ) (d : SessionDraft) → Stands before old d → IsEnded before new d) → Appends known next new.bytes.items → Appends start next (text_of front s) × HasRecords s front × (length s.init ≡ pages)
finished start known next front pages old new s meets ends wrote =
    let h = meets.holds in
    let e = ends h.before (draft_of old.init (cursors_of front) s) h.stands in
    let all = whole_text h.before new old.init front s e in
    (subst (Appends start next) all (Appends-trans start known next h.before new.bytes.items h.written wrote), has_records h.before new old.init front s e, e.init ∙ meets.init)

-- ---- what an output had before

pub kept_gains : (a b : Option (List ℕ)) → IsKept a b → Gains a b
kept_gains None b e = ([], tt)
kept_gains (Some xs) None e = absurd (cc)
kept_gains (Some xs) (Some ys) e =
    let front : take (length xs) ys ≡ xs = cc in
    (drop (length xs) ys, sym (take-append-drop (length xs) ys) ∙ ap (λ (zs : List ℕ). zs ++ drop (length xs) ys) front)

gains_kept : (a b : Option (List ℕ)) → Gains a b → IsKept a b
gains_kept None b g = refl
gains_kept (Some xs) None g = absurd g.1
gains_kept (Some xs) (Some ys) g = ap Some (ap (take (length xs)) g.1 ∙ take-append_seam xs g.0)

pub kept_more : (a b c : Option (List ℕ)) → IsKept a b → Gains b c → IsKept a c
kept_more a b c e g = gains_kept a c (both_gain a b c (kept_gains a b e) g)
