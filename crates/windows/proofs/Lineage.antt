-- Where the lines of what is kept stood.
use Rattle.std.proofs.Common.{◌≡◌, ℕ, zero, suc, ◌+◌, ◌≤◌, ◌⊎◌, inl, inr, Bool, true, false, List, [], ◌∷◌, ◌++◌, length, map, refl, sym, ap, ◌∙◌, subst, arith, append_assoc}
use Rattle.std.specs.Prelude.{◌==◌, ◌||◌}
use Rattle.std.specs.List.{range_with_len}
use Rattle.std.proofs.lemmas.Bool.{cases_eq}
use Rattle.std.proofs.lemmas.Bool.Decides.{nat_tests}
use Rattle.std.proofs.lemmas.List.{length-map}
use Rattle.std.proofs.lemmas.List.FromFn.{length-map-range_with_len}
use Rattle.migration_types.specs.declared.records.LogName.TheVariants.{Guest, Source, Link, Lane, Pager}
use Rattle.migration_types.specs.declared.version.Version.{Version}
use Rattle.migration_types.specs.Sessions.{Recorded}
use Rattle.audit_model.specs.Shape.{passes}
use Rattle.audit_model.specs.Windows.{Numbers, kept_in, keeps_init, keeps_guest, keeps_source, keeps_link, keeps_lane, keeps_pager, marks}
use Rattle.std.specs.Prelude.{slice_get}
use Rattle.windows.specs.declared.marking.Marks.{Marks}
use Rattle.windows.specs.inner.Marks.{is_in, marks_of, Rises}
use Rattle.windows.specs.Origins.{list_origins, lane_origins, behind, behind_lane, origins, guest_at, source_at, link_at, lane_at, pager_at, end_at}
use Rattle.windows.specs.inner.Met.{AreRight}
use Rattle.windows.proofs.Marked.{none_below}

same_from : {A : Type 0} (f g : ℕ → A) (low count : ℕ) → ((n : ℕ) → low ≤ n → f n ≡ g n) → map f (range_with_len low count) ≡ map g (range_with_len low count)
same_from f g low zero same = refl
same_from f g low (suc count) same = ap (λ x. x ∷ map f (range_with_len (low + 1) count)) (same low (omega arith)) ∙ ap (λ xs. g low ∷ xs) (same_from f g (low + 1) count (λ n le. same n (omega arith)))

in_rest : (p : ℕ) (places : List ℕ) (n : ℕ) → p + 1 ≤ n → is_in (p ∷ places) n ≡ is_in places n
in_rest p places n le = different p n (is_in places n) le
  where
    different : (p n : ℕ) (rest : Bool) → p + 1 ≤ n → ((p == n) || rest) ≡ rest
    different p n rest le = grind (arith, nat_tests)

in_front : (p : ℕ) (places : List ℕ) → is_in (p ∷ places) p ≡ true
in_front p places = here p (is_in places p)
  where
    here : (p : ℕ) (rest : Bool) → ((p == p) || rest) ≡ true
    here p rest = grind (arith, nat_tests)

-- the numbers that are kept by marks, from a number on, are those of the places
kept_numbers : (first low count : ℕ) (places : List ℕ) → Rises low (low + count) places → kept_in (map (is_in places) (range_with_len low count)) (range_with_len (first + low) count) ≡ map (λ p. first + p) places
kept_numbers first low zero [] r = refl
kept_numbers first low zero (p ∷ places) r = absurd (omega arith)
kept_numbers first low (suc count) [] r = ap (λ n. kept_in (map (is_in []) (range_with_len (low + 1) count)) (range_with_len n count)) (omega arith) ∙ kept_numbers first (low + 1) count [] tt
kept_numbers first low (suc count) (p ∷ places) r = go (cases_eq low p) (λ q. kept_numbers first (low + 1) count places q) (λ q. kept_numbers first (low + 1) count (p ∷ places) q)
  where
    Kept : ℕ → List ℕ → Type 0
    Kept n ps = kept_in (map (is_in ps) (range_with_len n count)) (range_with_len (first + n) count) ≡ map (λ p. first + p) ps

    mark : (b c : Bool) → b ≡ c → (ms : List Bool) (n : ℕ) (ns : List ℕ) → kept_in (b ∷ ms) (n ∷ ns) ≡ kept_in (c ∷ ms) (n ∷ ns)
    mark b c e ms n ns = ap (λ d. kept_in (d ∷ ms) (n ∷ ns)) e

    next : first + low + 1 ≡ first + (low + 1)
    next = omega arith

    go : (low ≡ p) ⊎ (low ≡ p → ⊥) → (Rises (low + 1) (low + 1 + count) places → kept_in (map (is_in places) (range_with_len (low + 1) count)) (range_with_len (first + (low + 1)) count) ≡ map (λ p. first + p) places) → (Rises (low + 1) (low + 1 + count) (p ∷ places) → kept_in (map (is_in (p ∷ places)) (range_with_len (low + 1) count)) (range_with_len (first + (low + 1)) count) ≡ map (λ p. first + p) (p ∷ places)) →
        kept_in (is_in (p ∷ places) low ∷ map (is_in (p ∷ places)) (range_with_len (low + 1) count)) ((first + low) ∷ range_with_len (first + low + 1) count) ≡ map (λ p. first + p) (p ∷ places)
    go (inl e) rest all =
        let a : suc p ≡ low + 1 = omega arith in
        let b : low + suc count ≡ low + 1 + count = omega arith in
        let q : Rises (low + 1) (low + 1 + count) places = subst (λ n. Rises n (low + 1 + count) places) a (subst (λ n. Rises (suc p) n places) b r.2) in
        mark (is_in (p ∷ places) low) true (ap (is_in (p ∷ places)) e ∙ in_front p places) (map (is_in (p ∷ places)) (range_with_len (low + 1) count)) (first + low) (range_with_len (first + low + 1) count)
        ∙ ap (λ xs. (first + low) ∷ xs) (
        ap (λ n. kept_in (map (is_in (p ∷ places)) (range_with_len (low + 1) count)) (range_with_len n count)) next
        ∙ ap (λ ms. kept_in ms (range_with_len (first + (low + 1)) count)) (same_from (is_in (p ∷ places)) (is_in places) (low + 1) count (λ n le. in_rest p places n (omega arith)))
        ∙ rest q)
        ∙ ap (λ n. (first + n) ∷ map (λ p. first + p) places) e
    go (inr ne) rest all =
        let b : low + suc count ≡ low + 1 + count = omega arith in
        let q : Rises (suc p) (low + 1 + count) places = subst (λ n. Rises (suc p) n places) b r.2 in
        mark (is_in (p ∷ places) low) false (none_below p (low + suc count) (p ∷ places) low (omega arith, r.1, r.2) (omega arith)) (map (is_in (p ∷ places)) (range_with_len (low + 1) count)) (first + low) (range_with_len (first + low + 1) count)
        ∙ ap (λ n. kept_in (map (is_in (p ∷ places)) (range_with_len (low + 1) count)) (range_with_len n count)) next
        ∙ all (omega arith, omega arith, q)

pub list_is : (first item count : ℕ) (places : List ℕ) → Rises 0 count places → item ≡ first + 1 → first ∷ map (λ p. item + p) places ≡ list_origins first (marks_of places count)
list_is first item count places r e =
    ap (λ xs. first ∷ xs) (
    ap (λ n. map (λ p. n + p) places) e
    ∙ sym (kept_numbers (first + 1) 0 count places (subst (λ n. Rises 0 n places) from r))
    ∙ ap (λ n. kept_in (marks_of places count) (range_with_len n count)) zero-more
    ∙ ap (λ n. kept_in (marks_of places count) (range_with_len (first + 1) n)) (sym (length-map-range_with_len (is_in places) 0 count)))
  where
    from : count ≡ 0 + count
    from = omega arith

    zero-more : first + 1 + 0 ≡ first + 1
    zero-more = omega arith

pub marks_length : (places : List ℕ) (count : ℕ) → length (marks_of places count) ≡ count
marks_length places count = length-map-range_with_len (is_in places) 0 count

step : (old new part rest : List ℕ) → new ≡ old ++ part → new ++ rest ≡ old ++ (part ++ rest)
step old new part rest e = ap (λ xs. xs ++ rest) e ∙ append_assoc old part rest

-- the lists of lines, one behind the other
pub record AreOrigins (version : Version) (init : List Bool) (known : Marks) (guest source link lane pager end : ℕ) (l0 l1 l2 l3 l4 l5 l6 all : List ℕ) : Type 0 where
  pub guest_is : guest ≡ behind 4 (length init)
  pub source_is : source ≡ behind guest (length known.guest.kept)
  pub link_is : link ≡ behind source (length known.source.kept)
  pub lane_is : lane ≡ behind link (length known.link)
  pub pager_is : pager ≡ behind_lane version lane (length known.lane)
  pub end_is : end ≡ behind pager (length known.pager.kept)
  pub l0_is : l0 ≡ 1 ∷ 2 ∷ 3 ∷ []
  pub l1_is : l1 ≡ l0 ++ list_origins 4 init
  pub l2_is : l2 ≡ l1 ++ list_origins guest known.guest.kept
  pub l3_is : l3 ≡ l2 ++ list_origins source known.source.kept
  pub l4_is : l4 ≡ l3 ++ list_origins link known.link
  pub l5_is : l5 ≡ l4 ++ lane_origins version lane known.lane
  pub l6_is : l6 ≡ l5 ++ list_origins pager known.pager.kept
  pub all_is : all ≡ l6 ++ end ∷ []

both : (a b : ℕ) (ms ns : List Bool) → a ≡ b → ms ≡ ns → list_origins a ms ≡ list_origins b ns
both a b ms ns e f = ap (λ n. list_origins n ms) e ∙ ap (list_origins b) f

module _ (number : Numbers) (s : Recorded) (version : Version) (init : List Bool) (known : Marks) (v : version ≡ s.version) (i : init ≡ map (keeps_init number) s.init) (r : AreRight number known s) (guest source link lane pager end : ℕ) (l0 l1 l2 l3 l4 l5 l6 all : List ℕ) (p : AreOrigins version init known guest source link lane pager end l0 l1 l2 l3 l4 l5 l6 all) where
  guest_here : guest ≡ guest_at s
  guest_here = p.guest_is ∙ ap (behind 4) (ap length i ∙ length-map s.init (keeps_init number))

  source_here : source ≡ source_at s
  source_here = p.source_is ∙ ap (λ n. behind n (length known.guest.kept)) guest_here ∙ ap (behind (guest_at s)) (ap length r.guest ∙ length-map-range_with_len (λ n. passes (keeps_guest s number n) (slice_get s.guest n)) 0 (length s.guest))

  link_here : link ≡ link_at s
  link_here = p.link_is ∙ ap (λ n. behind n (length known.source.kept)) source_here ∙ ap (behind (source_at s)) (ap length r.source ∙ length-map s.source (keeps_source s number))

  lane_here : lane ≡ lane_at s
  lane_here = p.lane_is ∙ ap (λ n. behind n (length known.link)) link_here ∙ ap (behind (link_at s)) (ap length r.link ∙ length-map s.link (keeps_link s number))

  pager_here : pager ≡ pager_at s
  pager_here = p.pager_is ∙ ap (λ n. behind_lane version n (length known.lane)) lane_here ∙ ap (behind_lane version (lane_at s)) (ap length r.lane ∙ length-map s.lane (keeps_lane s number)) ∙ ap (λ w. behind_lane w (lane_at s) (length s.lane)) v

  end_here : end ≡ end_at s
  end_here = p.end_is ∙ ap (λ n. behind n (length known.pager.kept)) pager_here ∙ ap (behind (pager_at s)) (ap length r.pager ∙ length-map s.pager (keeps_pager s number))

  lane_part : lane_origins version lane known.lane ≡ lane_origins s.version (lane_at s) (marks s number Lane)
  lane_part = ap (λ w. lane_origins w lane known.lane) v ∙ ap (λ n. lane_origins s.version n known.lane) lane_here ∙ ap (lane_origins s.version (lane_at s)) r.lane

  pub lines_are : all ≡ origins number s
  lines_are =
      let E : List ℕ = end_at s ∷ [] in
      let P : List ℕ = list_origins (pager_at s) (marks s number Pager) ++ E in
      let D : List ℕ = lane_origins s.version (lane_at s) (marks s number Lane) ++ P in
      let L : List ℕ = list_origins (link_at s) (marks s number Link) ++ D in
      let S : List ℕ = list_origins (source_at s) (marks s number Source) ++ L in
      let G : List ℕ = list_origins (guest_at s) (marks s number Guest) ++ S in
      p.all_is
      ∙ ap (λ n. l6 ++ n ∷ []) end_here
      ∙ step l5 l6 (list_origins (pager_at s) (marks s number Pager)) E (p.l6_is ∙ ap (λ xs. l5 ++ xs) (both pager (pager_at s) known.pager.kept (marks s number Pager) pager_here r.pager))
      ∙ step l4 l5 (lane_origins s.version (lane_at s) (marks s number Lane)) P (p.l5_is ∙ ap (λ xs. l4 ++ xs) lane_part)
      ∙ step l3 l4 (list_origins (link_at s) (marks s number Link)) D (p.l4_is ∙ ap (λ xs. l3 ++ xs) (both link (link_at s) known.link (marks s number Link) link_here r.link))
      ∙ step l2 l3 (list_origins (source_at s) (marks s number Source)) L (p.l3_is ∙ ap (λ xs. l2 ++ xs) (both source (source_at s) known.source.kept (marks s number Source) source_here r.source))
      ∙ step l1 l2 (list_origins (guest_at s) (marks s number Guest)) S (p.l2_is ∙ ap (λ xs. l1 ++ xs) (both guest (guest_at s) known.guest.kept (marks s number Guest) guest_here r.guest))
      ∙ step l0 l1 (list_origins 4 (map (keeps_init number) s.init)) G (p.l1_is ∙ ap (λ xs. l0 ++ xs) (ap (list_origins 4) i))
      ∙ ap (λ xs. xs ++ (list_origins 4 (map (keeps_init number) s.init) ++ G)) p.l0_is
