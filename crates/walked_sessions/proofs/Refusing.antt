-- Why the logs are not gone through.
use Rattle.std.proofs.Common.{◌≡◌, ℕ, zero, suc, ◌<◌, true, false, inl, inr, Result, Ok, Err, List, [], ◌∷◌, length, Option, None, refl, sym, ap, subst, ◌∙◌, arith, ◌+◌, ◌≤◌, ◌⊎◌, ◌++◌, take, Some, append_assoc, append-nil, length-append, map}
use Rattle.std.specs.Prelude.{◌≢◌, IfErr, IsSome, slice_get}
use Rattle.std.specs.List.{AllByRecursion}
use Rattle.std.specs.Option.{option_to_list}
use Rattle.std.proofs.lemmas.List.{length-map, length-take-le, map-append}
use Rattle.migration_types.specs.declared.records.LogName.{LogName}
use Rattle.migration_types.specs.Sessions.{Recorded}
use Rattle.recordings.specs.declared.machine.WideMachine.{WideMachine}
use Rattle.recordings.specs.declared.wide.Wide.{Wide}
use Rattle.recorder_files.specs.declared.delivering.Message.{Message}
use Rattle.recorder_files.specs.declared.lines.Party.{Party}
use Rattle.recorder_files.specs.declared.lines.Party.TheVariants.{Of}
use Rattle.recorder_files.specs.declared.noting.Delivered.{Delivered}
use Rattle.recorder_files.specs.declared.gatherers.GatherFault.{GatherFault}
use Rattle.recorder_files.specs.declared.gatherers.GatherFault.TheVariants.{File, Twice, Missing, Memory as NoMemory}
use Rattle.recorder_files.specs.declared.taking.LogFault.{LogFault}
use Rattle.recorder_files.specs.declared.taking.LogFault.TheVariants.{Files}
use Rattle.recorder_files.specs.declared.taking.TakingFault.{TakingFault}
use Rattle.recorder_files.specs.declared.taking.TakingFault.TheVariants.{Log as Taking, Unfit}
use Rattle.recorder_files.specs.Logs.{Gathering, IsGatherFault}
use Rattle.recorder_files.specs.Records.{IsLogFault, IsTakingFault, IsUnfitAt}
use Rattle.migration_types.specs.declared.records.LogName.TheVariants.{Pager, Source}
use Rattle.recordings.specs.Recordings.{IsMachine}
use Rattle.recordings.specs.Wide.{extent_of}
use Rattle.recorder_files.specs.declared.raw.RawPager.{RawPager}
use Rattle.recorder_files.specs.declared.raw.RawSource.{RawSource}
use Rattle.recorder_files.specs.Raw.{raw_source_line, raw_pager_line, IsRawSourceOf, IsRawPagerOf}
use Rattle.recorder_files.specs.Told.{lane_packet, link_packet, request, told_from}
use Rattle.recorder_files.proofs.Noted.{kept}
use Rattle.recorder_files.proofs.Elements.{all_push}
use Rattle.recorder_files.proofs.OneLog.{came_is_front, one_log}
use Rattle.walked_sessions.specs.declared.files.WalkFault.{WalkFault}
use Rattle.walked_sessions.specs.declared.files.WalkFault.TheVariants.{Log, OwnLog, Changed, Memory}
use Rattle.walked_sessions.specs.declared.takers.CarrierTaker.{CarrierTaker}
use Rattle.walked_sessions.specs.Faults.{HasFault, HasLogFault, IsOpenFault, IsWalkFault, HaveChanged}
use Rattle.walked_sessions.specs.Walks.{Bytes, HasBoth, IsOwnLog, AreMessagesOf, TellLog, TellPager, TellSource}
use Rattle.walked_sessions.specs.inner.Meeting.{MeetsCarrier, MeetsPager, MeetsSource}
use Rattle.walked_sessions.specs.inner.Refusing.{IsCarrierFault, IsFaultOf, IsPlain, IsTakeFault, IsTakingOne, Unfits}
use Rattle.walked_sessions.specs.declared.cursors.Cursor.{Cursor}
use Rattle.walked_sessions.specs.declared.takers.PagerTaker.{PagerTaker}
use Rattle.walked_sessions.specs.declared.takers.SourceTaker.{SourceTaker}
use Rattle.walked_sessions.specs.inner.Passing.{HasPassed, IsNotNext, IsOver}
use Rattle.walked_sessions.proofs.Meeting.{carrier_none, pager_none, passed_to, source_none}
use Rattle.walked_sessions.proofs.Raws.{pager_form, same_lane_packet, same_link_packet, same_pager, same_request, same_source, source_form}

-- what follows of a fault
pub on_err : {A E : Type 0} {P Q : E → Type 0} (r : Result A E) → IfErr r P → ((e : E) → P e → Q e) → IfErr r Q
on_err (Ok a) p follows = tt
on_err (Err e) p follows = follows e p

-- a record is not for the taker
pub unfits : {X T S : Type 0} (line : X → List ℕ) (IsOf : X → Type 0) (Takes : T → S → T → S → List X → Type 0) (IsUnfit : T → ℕ → X → Type 0) (party : Party) (knowns : List (Option (List ℕ))) (g : Gathering) (taker : T) (onto : S) (fault : TakingFault) (n : ℕ) → fault ≡ Unfit n → IsTakingFault line IsOf Takes IsUnfit party knowns g taker onto fault → Unfits line IsOf Takes IsUnfit party knowns taker onto
unfits line IsOf Takes IsUnfit party knowns g taker onto fault n is refused = record { gathering = g; n = n; at = subst (IsTakingFault line IsOf Takes IsUnfit party knowns g taker onto) is refused }

-- a fault of a log, as it is told
pub plain_of : {X : Type 0} (line : X → List ℕ) (IsOf : X → Type 0) (log : LogName) (party : Party) (knowns : List (Option (List ℕ))) (g : Gathering) (why : LogFault) (fault : WalkFault) → IsLogFault line IsOf party knowns g why → ((n : ℕ) → why ≢ Files (Missing n)) → IsFaultOf log why fault → IsPlain line IsOf log party knowns fault
plain_of line IsOf log party knowns g why (Log other found) is to_hole told = (told.0, subst (HasLogFault line IsOf party knowns) (sym told.1) (record { gathering = g; is = is; to_hole = to_hole; no_memory = told.2 }))
plain_of line IsOf log party knowns g why (OwnLog other by n) is to_hole told = absurd told
plain_of line IsOf log party knowns g why Changed is to_hole told = absurd told
plain_of line IsOf log party knowns g why Memory is to_hole told = tt

abbrev no_gathering : Gathering
no_gathering = record { files = []; heads = []; given = None; number = 0 }

-- a fault of a file in front of its first record
pub plain_open : {X : Type 0} (line : X → List ℕ) (IsOf : X → Type 0) (log : LogName) (party : Party) (knowns : List (Option (List ℕ))) (why : GatherFault) (fault : WalkFault) → IsOpenFault party knowns why → IsFaultOf log (Files why) fault → IsPlain line IsOf log party knowns fault
plain_open {X} line IsOf log party knowns why fault is told = plain_of line IsOf log party knowns no_gathering (Files why) fault ([], tt, gathers why is) (to_hole why is) told
  where
    gathers : (f : GatherFault) → IsOpenFault party knowns f → IsGatherFault party knowns no_gathering [] f
    gathers (File i x) found = found
    gathers (Twice i j) found = absurd found
    gathers (Missing n) found = absurd found
    gathers NoMemory found = tt

    to_hole : (f : GatherFault) → IsOpenFault party knowns f → (n : ℕ) → Files f ≢ Files (Missing n)
    to_hole (File i x) found n e = absurd cc
    to_hole (Twice i j) found n e = absurd cc
    to_hole (Missing m) found n e = absurd found
    to_hole NoMemory found n e = absurd cc

abbrev so_many : ℕ → List (List ℕ)
so_many zero = []
so_many (suc n) = [] ∷ so_many n

many : (n : ℕ) → length (so_many n) ≡ n
many zero = refl
many (suc n) = ap suc (many n)

-- a fault of a file in front of its second record
pub plain_begun : {X : Type 0} (line : X → List ℕ) (IsOf : X → Type 0) (log : LogName) (party : Party) (knowns : List (Option (List ℕ))) (why : GatherFault) (fault : WalkFault) → ((g : Gathering) (front : List (List ℕ)) → IsGatherFault party knowns g front why) → IsFaultOf log (Files why) fault → IsPlain line IsOf log party knowns fault
plain_begun {X} line IsOf log party knowns why fault is told = plain_of line IsOf log party knowns no_gathering (Files why) fault ([], tt, is no_gathering []) (to_hole why is) told
  where
    to_hole : (f : GatherFault) → ((g : Gathering) (front : List (List ℕ)) → IsGatherFault party knowns g front f) → (n : ℕ) → Files f ≢ Files (Missing n)
    to_hole (File i x) found n e = absurd cc
    to_hole (Twice i j) found n e = absurd cc
    to_hole (Missing m) found n e = let below : length (so_many m) < m = (found no_gathering (so_many m)).0 in absurd (omega (arith, below, many m))
    to_hole NoMemory found n e = absurd cc

-- a fault of the records of a log
pub plain_taking : {X T S : Type 0} (line : X → List ℕ) (IsOf : X → Type 0) (Takes : T → S → T → S → List X → Type 0) (IsUnfit : T → ℕ → X → Type 0) (log : LogName) (party : Party) (knowns : List (Option (List ℕ))) (g : Gathering) (taker : T) (onto : S) (taking : TakingFault) (why : LogFault) (fault : WalkFault) → taking ≡ Taking why → IsTakingFault line IsOf Takes IsUnfit party knowns g taker onto taking → ((n : ℕ) → taking ≢ Taking (Files (Missing n))) → IsFaultOf log why fault → IsPlain line IsOf log party knowns fault
plain_taking line IsOf Takes IsUnfit log party knowns g taker onto taking why fault same is to_hole told = plain_of line IsOf log party knowns g why fault (subst (IsTakingFault line IsOf Takes IsUnfit party knowns g taker onto) same is) (λ n e. to_hole n (same ∙ ap Taking e)) told

-- what follows of a fault of a log
pub plain_so : {X : Type 0} (line : X → List ℕ) (IsOf : X → Type 0) (log : LogName) (bytes : Bytes) (Is : WalkFault → Type 0) → ((why : LogFault) → HasLogFault line IsOf (Of log) (bytes log) why → Is (Log log why)) → Is Memory → (fault : WalkFault) → IsPlain line IsOf log (Of log) (bytes log) fault → Is fault
plain_so line IsOf log bytes Is of_log of_memory (Log other why) plain = subst (λ l. Is (Log l why)) (sym plain.0) (of_log why plain.1)
plain_so line IsOf log bytes Is of_log of_memory (OwnLog other by n) plain = absurd plain
plain_so line IsOf log bytes Is of_log of_memory Changed plain = absurd plain
plain_so line IsOf log bytes Is of_log of_memory Memory plain = of_memory

-- any record is for its taker
pub any_fault : {X T S : Type 0} (line : X → List ℕ) (IsOf : X → Type 0) (Takes : T → S → T → S → List X → Type 0) (log : LogName) (bytes : Bytes) (taker : T) (from : S) (unfit : WalkFault) (Is : WalkFault → Type 0) → ((why : LogFault) → HasLogFault line IsOf (Of log) (bytes log) why → Is (Log log why)) → Is Memory → (fault : WalkFault) → IsTakeFault line IsOf Takes (λ t n rec. ⊥) log (Of log) (bytes log) taker from unfit fault → Is fault
any_fault line IsOf Takes log bytes taker from unfit Is of_log of_memory fault (inl plain) = plain_so line IsOf log bytes Is of_log of_memory fault plain
any_fault line IsOf Takes log bytes taker from unfit Is of_log of_memory fault (inr refused) = absurd refused.1.at.unfit

-- the link or the lane has records of its own
pub own_fault : {V X : Type 0} (Met : V → Recorded → Type 0) (wide : X → Wide) (line : X → List ℕ) (IsOf : X → Type 0) (log : LogName) (bytes : Bytes) (messages : List Message) (first : CarrierTaker) (from : V) (unfit fault : WalkFault) → (messages ≡ [] → first.is_told ≡ false) → ((messages ≡ [] → ⊥) → IsTakingOne log messages unfit) → IsTakeFault line IsOf (MeetsCarrier Met wide) (λ taker n rec. taker.is_told ≡ true) log (Of log) (bytes log) first from unfit fault → IsCarrierFault line IsOf log bytes messages fault
own_fault Met wide line IsOf log bytes messages first from unfit fault empty taking (inl plain) = plain_so line IsOf log bytes (IsCarrierFault line IsOf log bytes messages) (λ why has. (refl, has)) tt fault plain
own_fault Met wide line IsOf log bytes messages first from unfit fault empty taking (inr refused) =
    let at = refused.1.at in
    let told : first.is_told ≡ true = sym (at.took first from (carrier_none Met wide first from)).told ∙ at.unfit in
    let one = taking (λ e. let both : true ≡ false = sym told ∙ empty e in cc) in
    let own : HasBoth line IsOf (Of log) (bytes log) messages one.taking.by one.taking.n = record {
      gathering = refused.1.gathering;
      records = at.records;
      rec = at.rec;
      each = at.each;
      is_of = at.is_of;
      came = at.came;
      place = one.place;
      message = one.message;
      there = one.there;
      taken = one.taking.taken;
    } in
    subst (IsCarrierFault line IsOf log bytes messages) (sym (refused.0 ∙ one.taking.is)) (refl, own)

pub carrier_fault : {X : Type 0} (line : X → List ℕ) (IsOf : X → Type 0) (log : LogName) (machine : WideMachine) (bytes : Bytes) (messages : Delivered) (some all : List Message) → some ≡ all → ((why : LogFault) → HasLogFault line IsOf (Of log) (bytes log) why → HasFault machine bytes log why) → ((by : LogName) (n : ℕ) → HasBoth line IsOf (Of log) (bytes log) all by n → IsOwnLog machine bytes messages log by n) → (fault : WalkFault) → IsCarrierFault line IsOf log bytes some fault → IsWalkFault machine bytes messages fault
carrier_fault line IsOf log machine bytes messages some all same has own (Log other why) is = subst (λ l. HasFault machine bytes l why) (sym is.0) (has why is.1)
carrier_fault line IsOf log machine bytes messages some all same has own (OwnLog other by n) is = subst (λ l. IsOwnLog machine bytes messages l by n) (sym is.0) (own by n (subst (λ ms. HasBoth line IsOf (Of log) (bytes log) ms by n) same is.1))
carrier_fault line IsOf log machine bytes messages some all same has own Changed is = absurd is
carrier_fault line IsOf log machine bytes messages some all same has own Memory is = tt

-- ---- messages that are not those that were noted

-- ---- what lines tell

-- lines tell the forms of the records
forms_front : {X F : Type 0} (line : X → List ℕ) (IsOf : X → Type 0) (form : X → F) → ((r s : X) → IsOf r → IsOf s → line r ≡ line s → form r ≡ form s) → (xs ys : List X) (more : List (List ℕ)) → AllByRecursion IsOf xs → AllByRecursion IsOf ys → map line ys ≡ map line xs ++ more → (forms : List F) × (map form ys ≡ map form xs ++ forms)
forms_front line IsOf form same [] ys more all others e = (map form ys, refl)
forms_front line IsOf form same (x ∷ xs) [] more all others e = absurd cc
forms_front line IsOf form same (x ∷ xs) (y ∷ ys) more all others e =
    let head : line y ≡ line x = cc in
    let tail : map line ys ≡ map line xs ++ more = cc in
    let first = same y x others.0 all.0 head in
    let rest = forms_front line IsOf form same xs ys more all.1 others.1 tail in
    let behind = rest.1 in
    (rest.0, cc)

pub forms_same : {X F : Type 0} (line : X → List ℕ) (IsOf : X → Type 0) (form : X → F) → ((r s : X) → IsOf r → IsOf s → line r ≡ line s → form r ≡ form s) → (xs ys : List X) → AllByRecursion IsOf xs → AllByRecursion IsOf ys → map line xs ≡ map line ys → map form xs ≡ map form ys
forms_same line IsOf form same [] [] all others e = refl
forms_same line IsOf form same [] (y ∷ ys) all others e = absurd cc
forms_same line IsOf form same (x ∷ xs) [] all others e = absurd cc
forms_same line IsOf form same (x ∷ xs) (y ∷ ys) all others e =
    let head : line x ≡ line y = cc in
    let tail : map line xs ≡ map line ys = cc in
    let first = same x y all.0 others.0 head in
    let rest = forms_same line IsOf form same xs ys all.1 others.1 tail in
    cc

-- forms tell the messages
told_front : {X F : Type 0} (form : X → F) (tell : ℕ → X → Option Message) → ((n : ℕ) (r s : X) → form r ≡ form s → tell n r ≡ tell n s) → (n : ℕ) (xs ys : List X) (forms : List F) → map form ys ≡ map form xs ++ forms → (rest : List Message) × (told_from tell n ys ≡ told_from tell n xs ++ rest)
told_front form tell same n [] ys forms e = (told_from tell n ys, refl)
told_front form tell same n (x ∷ xs) [] forms e = absurd cc
told_front form tell same n (x ∷ xs) (y ∷ ys) forms e =
    let head : form y ≡ form x = cc in
    let tail : map form ys ≡ map form xs ++ forms = cc in
    let rest = told_front form tell same (suc n) xs ys forms tail in
    (rest.0, ap (λ (o : Option Message). option_to_list o ++ told_from tell (suc n) ys) (same n y x head) ∙ (ap (λ (ms : List Message). option_to_list (tell n x) ++ ms) rest.1 ∙ sym (append_assoc (option_to_list (tell n x)) (told_from tell (suc n) xs) rest.0)))

pub told_same : {X F : Type 0} (form : X → F) (tell : ℕ → X → Option Message) → ((n : ℕ) (r s : X) → form r ≡ form s → tell n r ≡ tell n s) → (n : ℕ) (xs ys : List X) → map form xs ≡ map form ys → told_from tell n xs ≡ told_from tell n ys
told_same form tell same n [] [] e = refl
told_same form tell same n [] (y ∷ ys) e = absurd cc
told_same form tell same n (x ∷ xs) [] e = absurd cc
told_same form tell same n (x ∷ xs) (y ∷ ys) e =
    let head : form x ≡ form y = cc in
    let tail : map form xs ≡ map form ys = cc in
    ap (λ (o : Option Message). option_to_list o ++ told_from tell (suc n) xs) (same n x y head) ∙ ap (λ (ms : List Message). option_to_list (tell n y) ++ ms) (told_same form tell same (suc n) xs ys tail)

-- the files of a log tell records of one form
pub one_form : {X F : Type 0} (line : X → List ℕ) (IsOf : X → Type 0) (form : X → F) → ((r s : X) → IsOf r → IsOf s → line r ≡ line s → form r ≡ form s) → (party : Party) (knowns : List (Option (List ℕ))) (xs ys : List X) → AllByRecursion IsSome knowns → TellLog line IsOf party knowns xs → TellLog line IsOf party knowns ys → map form xs ≡ map form ys
one_form line IsOf form same party knowns xs ys known one two = forms_same line IsOf form same xs ys one.say.each two.say.each (one_log party knowns one.gathering two.gathering (map line xs) (map line ys) one.hole two.hole known one.say.log two.say.log)

-- ---- where a cursor has come

at_end : {X : Type 0} (xs ys : List X) (x : X) → slice_get (xs ++ x ∷ ys) (length xs) ≡ Some x
at_end [] ys x = refl
at_end (y ∷ xs) ys x = at_end xs ys x

-- behind the messages that it passed
comes_past : (first now : Cursor) (all : List Message) (numbers : List (Option ℕ)) (place : ℕ) (told : List Message) → IsOver first all numbers place → HasPassed first now told → place ≤ length all → now.place ≡ place + length told
comes_past first now all numbers place told over passed le =
    let le_first : first.place ≤ length first.messages.now = subst (λ (ms : List Message). first.place ≤ length ms) (sym over.messages_are) (subst (λ n. n ≤ length all) (sym over.place_is) le) in
    let within : now.place ≤ length all = subst (λ (ms : List Message). now.place ≤ length ms) over.messages_are (passed.within le_first) in
    let long = ap (λ (ms : List Message). length ms) (passed_to first now all numbers place now.place told over passed refl le) in
    omega (arith, long, length-append (take place all) told, length-take-le place all le, length-take-le now.place all within)

-- the message that it comes to
comes_to : (first now : Cursor) (all : List Message) (numbers : List (Option ℕ)) (place : ℕ) (front told rest back : List Message) (message : Message) → IsOver first all numbers place → HasPassed first now told → all ≡ front ++ ((told ++ message ∷ rest) ++ back) → place ≡ length front → slice_get now.messages.now now.place ≡ Some message
comes_to first now all numbers place front told rest back message over passed parts is =
    let long = ap (λ (ms : List Message). length ms) parts in
    let le : place ≤ length all = omega (arith, long, is, length-append front ((told ++ message ∷ rest) ++ back)) in
    let at : now.place ≡ length (front ++ told) = comes_past first now all numbers place told over passed le ∙ omega (arith, is, length-append front told) in
    let grouped : all ≡ (front ++ told) ++ message ∷ (rest ++ back) = parts ∙ (ap (λ (ms : List Message). front ++ ms) (append_assoc told (message ∷ rest) back) ∙ sym (append_assoc front told (message ∷ (rest ++ back)))) in
    let messages : now.messages.now ≡ (front ++ told) ++ message ∷ (rest ++ back) = passed.messages ∙ (over.messages_are ∙ grouped) in
    ap (λ (ms : List Message). slice_get ms now.place) messages ∙ (ap (λ n. slice_get ((front ++ told) ++ message ∷ (rest ++ back)) n) at ∙ at_end (front ++ told) (rest ++ back) message)

-- a record that came takes the next message, and so is for its taker
takes_next : {X F T S : Type 0} (line : X → List ℕ) (IsOf : X → Type 0) (form : X → F) (tell : ℕ → X → Option Message) → ((r s : X) → IsOf r → IsOf s → line r ≡ line s → form r ≡ form s) → ((n : ℕ) (r s : X) → form r ≡ form s → tell n r ≡ tell n s) → (Takes : T → S → T → S → List X → Type 0) (IsUnfit : T → ℕ → X → Type 0) (party : Party) (knowns : List (Option (List ℕ))) (g : Gathering) (taker : T) (onto : S) (n : ℕ) (at : IsUnfitAt line IsOf Takes IsUnfit party knowns g taker onto n) (ys : List X) (first now : Cursor) (all : List Message) (numbers : List (Option ℕ)) (place : ℕ) (front back : List Message) → AllByRecursion IsSome knowns → TellLog line IsOf party knowns ys → IsOver first all numbers place → HasPassed first now (told_from tell 0 at.records) → all ≡ front ++ (told_from tell 0 ys ++ back) → place ≡ length front → IsNotNext now (tell n at.rec) → ⊥
takes_next {X} line IsOf form tell same tells Takes IsUnfit party knowns g taker onto n at ys first now all numbers place front back known told over passed parts is unfit =
    let up_to : List X = at.records ++ at.rec ∷ [] in
    let mine = told_from tell 0 at.records in
    let ahead = came_is_front party knowns g told.gathering (map line at.records ++ line at.rec ∷ []) (map line ys) told.hole known at.came told.say.log in
    let lines : map line ys ≡ map line up_to ++ ahead.0 = ahead.1 ∙ ap (λ (ls : List (List ℕ)). ls ++ ahead.0) (sym (map-append line at.records (at.rec ∷ []))) in
    let forms = forms_front line IsOf form same up_to ys ahead.0 (all_push IsOf at.records at.rec at.each at.is_of) told.say.each lines in
    let rest = told_front form tell tells 0 up_to ys forms.0 forms.1 in
    let push = kept tell n at.records at.rec mine (mine ++ unfit.other ∷ []) (Some unfit.other) at.number refl (sym unfit.is) refl in
    let whole : told_from tell 0 ys ≡ mine ++ unfit.other ∷ rest.0 = rest.1 ∙ (ap (λ (ms : List Message). ms ++ rest.0) (sym push) ∙ append_assoc mine (unfit.other ∷ []) rest.0) in
    unfit.not_next (comes_to first now all numbers place front mine rest.0 back unfit.other over passed (parts ∙ ap (λ (ms : List Message). front ++ (ms ++ back)) whole) is)

-- ---- the source

pub source_fault : {V : Type 0} (Met : V → Recorded → Type 0) (machine : WideMachine) (bytes : Bytes) (messages : Delivered) (first : SourceTaker) (from : V) (fault : WalkFault) → IsMachine (extent_of machine) → IsOver first.link messages.link_messages.items messages.link.numbers.items messages.packets → IsTakeFault raw_source_line (IsRawSourceOf (extent_of machine)) (MeetsSource Met) (λ taker n rec. IsNotNext taker.link (request n rec)) Source (Of Source) (bytes Source) first from Changed fault → IsWalkFault machine bytes messages fault
source_fault Met machine bytes messages first from fault is_machine over (inl plain) = plain_so raw_source_line (IsRawSourceOf (extent_of machine)) Source bytes (IsWalkFault machine bytes messages) (λ why has. has) tt fault plain
source_fault Met machine bytes messages first from fault is_machine over (inr refused) = subst (IsWalkFault machine bytes messages) (sym refused.0) changed
  where
    changed : HaveChanged machine bytes messages
    changed known_pager known_source are =
        let at = refused.1.at in
        let front = told_from link_packet 0 are.pager in
        let parts = are.has.link ∙ ap (λ (ms : List Message). front ++ ms) (sym (append-nil (told_from request 0 are.source))) in
        takes_next _ _ source_form request (same_source (extent_of machine) is_machine) same_request _ _ _ _ _ _ _ _ at are.source first.link at.at.link messages.link_messages.items messages.link.numbers.items messages.packets front [] known_source are.tell_source over (at.took first from (source_none Met first from)).passed parts are.has.packets at.unfit

pub source_ends : {V : Type 0} (Met : V → Recorded → Type 0) (machine : WideMachine) (bytes : Bytes) (messages : Delivered) (first now : SourceTaker) (from onto : V) (records : List RawSource) → IsMachine (extent_of machine) → IsOver first.link messages.link_messages.items messages.link.numbers.items messages.packets → TellSource machine bytes records → MeetsSource Met first from now onto records → (now.link.place ≡ length now.link.messages.now → ⊥) → HaveChanged machine bytes messages
source_ends Met machine bytes messages first now from onto records is_machine over tell meets not_end known_pager known_source are =
    let e = extent_of machine in
    let all = messages.link_messages.items in
    let forms = one_form raw_source_line (IsRawSourceOf e) source_form (same_source e is_machine) (Of Source) (bytes Source) records are.source known_source tell are.tell_source in
    let told = told_same source_form request same_request 0 records are.source forms in
    let long = ap (λ (ms : List Message). length ms) are.has.link in
    let parts = length-append (told_from link_packet 0 are.pager) (told_from request 0 are.source) in
    let le : messages.packets ≤ length all = omega (arith, long, parts, are.has.packets) in
    let at = comes_past first.link now.link all messages.link.numbers.items messages.packets (told_from request 0 records) over meets.passed le in
    let same = ap (λ (ms : List Message). length ms) told in
    let messages_are = ap (λ (ms : List Message). length ms) (meets.passed.messages ∙ over.messages_are) in
    not_end (omega (arith, at, same, messages_are, long, parts, are.has.packets))

-- ---- the pager

pub pager_fault : {V : Type 0} (Met : V → Recorded → Type 0) (machine : WideMachine) (bytes : Bytes) (messages : Delivered) (first : PagerTaker) (from : V) (fault : WalkFault) → IsMachine (extent_of machine) → first.count ≡ 0 → IsOver first.link messages.link_messages.items messages.link.numbers.items 0 → IsOver first.lane messages.lane_messages.items messages.lane.numbers.items 0 → IsTakeFault raw_pager_line (IsRawPagerOf machine.version (extent_of machine)) (MeetsPager Met) (λ taker n rec. IsNotNext taker.link (link_packet n rec) ⊎ IsNotNext taker.lane (lane_packet n rec)) Pager (Of Pager) (bytes Pager) first from Changed fault → IsWalkFault machine bytes messages fault
pager_fault Met machine bytes messages first from fault is_machine none over over_lane (inl plain) = plain_so raw_pager_line (IsRawPagerOf machine.version (extent_of machine)) Pager bytes (IsWalkFault machine bytes messages) (λ why has. has) tt fault plain
pager_fault Met machine bytes messages first from fault is_machine none over over_lane (inr refused) = subst (IsWalkFault machine bytes messages) (sym refused.0) (λ known_pager known_source are. either known_pager are refused.1.at.unfit)
  where
    met : MeetsPager Met first from refused.1.at.at refused.1.at.at_onto refused.1.at.records
    met = refused.1.at.took first from (pager_none Met first from none)

    either : AllByRecursion IsSome (bytes Pager) → AreMessagesOf machine bytes messages → IsNotNext refused.1.at.at.link (link_packet refused.1.n refused.1.at.rec) ⊎ IsNotNext refused.1.at.at.lane (lane_packet refused.1.n refused.1.at.rec) → ⊥
    either known are (inl unfit) = takes_next _ _ pager_form link_packet (same_pager machine.version (extent_of machine) is_machine) same_link_packet _ _ _ _ _ _ _ _ refused.1.at are.pager first.link refused.1.at.at.link messages.link_messages.items messages.link.numbers.items 0 [] (told_from request 0 are.source) known are.tell_pager over met.link are.has.link refl unfit
    either known are (inr unfit) = takes_next _ _ pager_form lane_packet (same_pager machine.version (extent_of machine) is_machine) same_lane_packet _ _ _ _ _ _ _ _ refused.1.at are.pager first.lane refused.1.at.at.lane messages.lane_messages.items messages.lane.numbers.items 0 [] [] known are.tell_pager over_lane met.lane (are.has.lane ∙ sym (append-nil (told_from lane_packet 0 are.pager))) refl unfit

pub pager_ends : {V : Type 0} (Met : V → Recorded → Type 0) (machine : WideMachine) (bytes : Bytes) (messages : Delivered) (first now : PagerTaker) (from onto : V) (records : List RawPager) → IsMachine (extent_of machine) → IsOver first.link messages.link_messages.items messages.link.numbers.items 0 → IsOver first.lane messages.lane_messages.items messages.lane.numbers.items 0 → TellPager machine bytes records → MeetsPager Met first from now onto records → ((now.link.place ≡ messages.packets) × (now.lane.place ≡ length now.lane.messages.now) × (now.count ≡ messages.pager) → ⊥) → HaveChanged machine bytes messages
pager_ends Met machine bytes messages first now from onto records is_machine over over_lane tell meets not_passed known_pager known_source are =
    let e = extent_of machine in
    let link = messages.link_messages.items in
    let lane = messages.lane_messages.items in
    let forms = one_form raw_pager_line (IsRawPagerOf machine.version e) pager_form (same_pager machine.version e is_machine) (Of Pager) (bytes Pager) records are.pager known_pager tell are.tell_pager in
    let of_link = ap (λ (ms : List Message). length ms) (told_same pager_form link_packet same_link_packet 0 records are.pager forms) in
    let of_lane = ap (λ (ms : List Message). length ms) (told_same pager_form lane_packet same_lane_packet 0 records are.pager forms) in
    let at_link = comes_past first.link now.link link messages.link.numbers.items 0 (told_from link_packet 0 records) over meets.link (omega arith) in
    let at_lane = comes_past first.lane now.lane lane messages.lane.numbers.items 0 (told_from lane_packet 0 records) over_lane meets.lane (omega arith) in
    let lanes = ap (λ (ms : List Message). length ms) (meets.lane.messages ∙ over_lane.messages_are ∙ are.has.lane) in
    let long = sym (length-map records pager_form) ∙ (ap length forms ∙ length-map are.pager pager_form) in
    not_passed (omega (arith, at_link, of_link, are.has.packets), omega (arith, at_lane, of_lane, lanes), omega (arith, meets.count, long, are.has.count))
