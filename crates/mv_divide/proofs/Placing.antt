-- Joins are found by their numbers.
use Rattle.std.proofs.Common.{◌≡◌, ◌∙◌, ℕ, ◌+◌, ◌<◌, ◌⊎◌, true, ◌||◌, cond, Option, Some, None, List, [], ◌∷◌, length, get_or, take, Contains, inl, inr, refl, sym, ap, subst, arith, nat_eq}
use Rattle.std.proofs.lemmas.Bool.{cases_Bool, false≢true, or_left, or_right, or_from, false_from_ne_true, cond-true, cond-false, eqb-true, eq-eqb, cases_lt}
use Rattle.std.proofs.lemmas.List.{get_or_default, get_or-take, length-take-le}
use Rattle.std.proofs.lemmas.Option.{slice_get-get_or, slice_get_cases}
use Rattle.std.proofs.lemmas.List.Elements.{All-nil, All-more, All-contains, Contains-get_or, Contains-append_left, Contains-append_right}
use Rattle.std.proofs.lemmas.List.Folds.{Any-from_list_any, list_any_at}
use Rattle.std.specs.List.{list_any}
use Rattle.mv_cover.specs.Literal.{Lit}
use Rattle.mv_cover.specs.Cubes.{IsCube}
use Rattle.mv_kernels.proofs.Lists.{Contains-first}
use Rattle.mv_divide.specs.Numbers.{cube_number}
use Rattle.mv_divide.specs.Found.{is_join, has_join, some_join, join_at, join_at_some, and_place, ArePlaced}
use Rattle.mv_divide.proofs.Joining.{number_of_join}

-- ---- what stands at a place

-- where the cube at a place is the join there is one
join_at-has : (cover : List (List Lit)) (s d : List Lit) (p : ℕ) → join_at cover s d p ≡ true → has_join cover s d ≡ true
join_at-has cover s d p h =
    elim (slice_get_cases cover p).1 [
      | inl r ↦
          list_any_at (is_join s d) cover p r.0 r.1
          (subst (λ (x : List Lit). is_join s d x ≡ true) (sym r.3) (sym (ap (some_join s d) r.2) ∙ h))
      | inr r ↦ absurd (false≢true (sym (ap (some_join s d) r.1) ∙ h))
    ]

join_at_some-has : (cover : List (List Lit)) (s d : List Lit) (place : Option ℕ) → join_at_some cover s d place ≡ true → has_join cover s d ≡ true
join_at_some-has cover s d None h = absurd (false≢true h)
join_at_some-has cover s d (Some p) h = join_at-has cover s d p h

join_at-is : (cover : List (List Lit)) (s d : List Lit) (p : ℕ) → p < length cover → is_join s d (get_or cover p []) ≡ true → join_at cover s d p ≡ true
join_at-is cover s d p low h = ap (some_join s d) (slice_get-get_or cover p [] low) ∙ h

-- where a join stands in the cover
record Stands (cover : List (List Lit)) (s d : List Lit) : Type 0 where
  at : ℕ
  low : at < length cover
  is : is_join s d (get_or cover at []) ≡ true

stands : (cover : List (List Lit)) (s d : List Lit) → has_join cover s d ≡ true → Stands cover s d
stands cover s d h =
    let a = Any-from_list_any (is_join s d) cover h in
    let got : get_or cover a.0 [] ≡ a.1 = get_or_default cover a.0 [] a.1 a.2 ∙ a.3 in
    record { at = a.0; low = a.2; is = subst (λ (x : List Lit). is_join s d x ≡ true) (sym got) a.4 }

-- the last cube with the number of the join or an earlier one is the join, where there is one
found_there : (cover : List (List Lit)) (last : ℕ → Option ℕ) (earlier : List ℕ) (s d : List Lit) (n : ℕ) → ArePlaced cover last earlier → IsCube d → n ≡ cube_number s + cube_number d → Stands cover s d → (join_at_some cover s d (last n) || list_any (join_at cover s d) earlier) ≡ true
found_there cover last earlier s d n a fd e t =
    let cube = get_or cover t.at [] in
    let number : cube_number cube ≡ n = number_of_join s d cube fd (All-contains IsCube cover cube a.formed (Contains-get_or cover t.at [] t.low)) t.is ∙ sym e in
    let is = join_at-is cover s d t.at t.low t.is in
    elim (a.placed t.at t.low) [
      | inl l ↦
          or_left (join_at_some cover s d (last n)) (list_any (join_at cover s d) earlier)
          (ap (join_at_some cover s d) (ap last (sym number) ∙ l) ∙ is)
      | inr c ↦
          or_right (join_at_some cover s d (last n)) (list_any (join_at cover s d) earlier)
          (list_any_at (join_at cover s d) earlier c.0 t.at c.1 (subst (λ (p : ℕ). join_at cover s d p ≡ true) (sym c.2) is))
    ]

pub finds : (cover : List (List Lit)) (last : ℕ → Option ℕ) (earlier : List ℕ) (s d : List Lit) (n : ℕ) → ArePlaced cover last earlier → IsCube d → n ≡ cube_number s + cube_number d → (join_at_some cover s d (last n) || list_any (join_at cover s d) earlier) ≡ has_join cover s d
finds cover last earlier s d n a fd e =
    elim (cases_Bool (has_join cover s d)) [
      | inl t ↦ found_there cover last earlier s d n a fd e (stands cover s d t) ∙ sym t
      | inr f ↦
          or_from (join_at_some cover s d (last n)) (list_any (join_at cover s d) earlier)
          (false_from_ne_true (join_at_some cover s d (last n)) (λ h. false≢true (sym f ∙ join_at_some-has cover s d (last n) h)))
          (false_from_ne_true (list_any (join_at cover s d) earlier) (λ h.
          let at = Any-from_list_any (join_at cover s d) earlier h in
          false≢true (sym f ∙ join_at-has cover s d at.1 at.4)))
          ∙ sym f
    ]

-- ---- one cube more

and_place-keeps : (earlier : List ℕ) (place : Option ℕ) (p : ℕ) → Contains earlier p → Contains (and_place earlier place) p
and_place-keeps earlier None p h = h
and_place-keeps earlier (Some q) p h = Contains-append_left earlier (q ∷ []) p h

and_place-adds : (earlier : List ℕ) (place : Option ℕ) (p : ℕ) → place ≡ Some p → Contains (and_place earlier place) p
and_place-adds earlier place p e =
    subst (λ (o : Option ℕ). Contains (and_place earlier o) p) (sym e) (Contains-append_right earlier (p ∷ []) p (Contains-first p []))

-- what was placed stays placed when the place of a cube with the number w is noted
stays_placed : (last next : ℕ → Option ℕ) (earlier later : List ℕ) (w i m p : ℕ) → ((n : ℕ) → next n ≡ cond (nat_eq w n) (Some i) (last n)) → later ≡ and_place earlier (last w) → (last m ≡ Some p) ⊎ Contains earlier p → (next m ≡ Some p) ⊎ Contains later p
stays_placed last next earlier later w i m p f e h =
    let moved : Contains (and_place earlier (last w)) p → Contains later p = λ c. subst (λ (ps : List ℕ). Contains ps p) (sym e) c in
    elim h [
      | inr c ↦ inr (moved (and_place-keeps earlier (last w) p c))
      | inl l ↦
          elim (cases_Bool (nat_eq w m)) [
            | inl t ↦ inr (moved (and_place-adds earlier (last w) p (ap last (eqb-true w m t) ∙ l)))
            | inr n ↦ inl (f m ∙ (cond-false (nat_eq w m) (Some i) (last m) n ∙ l))
          ]
    ]

pub placed_more : (cubes : List (List Lit)) (i : ℕ) (cube : List Lit) (last next : ℕ → Option ℕ) (earlier later : List ℕ) (w : ℕ) → i < length cubes → cube ≡ get_or cubes i cube → IsCube cube → w ≡ cube_number cube → ((n : ℕ) → next n ≡ cond (nat_eq w n) (Some i) (last n)) → later ≡ and_place earlier (last w) → ArePlaced (take i cubes) last earlier → ArePlaced (take (i + 1) cubes) next later
placed_more cubes i cube last next earlier later w low is fc number f e a =
    let long : length (take (i + 1) cubes) ≡ i + 1 = length-take-le (i + 1) cubes (omega arith) in
    let short : length (take i cubes) ≡ i = length-take-le i cubes (omega arith) in
    let Placed : ℕ → ℕ → Type 0 = λ m p. (next m ≡ Some p) ⊎ Contains later p in
    record {
      formed = All-more IsCube cubes i cube low a.formed (subst IsCube is fc);
      placed = λ p within.
          elim (cases_lt p i) [
            | inl before ↦
                let same : get_or (take i cubes) p [] ≡ get_or (take (i + 1) cubes) p [] = get_or-take i cubes p [] before ∙ sym (get_or-take (i + 1) cubes p [] (omega arith)) in
                let there : p < length (take i cubes) = omega (arith, short) in
                subst (λ (q : List Lit). Placed (cube_number q) p) same
                (stays_placed last next earlier later w i (cube_number (get_or (take i cubes) p [])) p f e (a.placed p there))
            | inr past ↦
                let at : i ≡ p = omega (arith, long, within) in
                let here : w ≡ cube_number (get_or (take (i + 1) cubes) i []) = number ∙ ap cube_number (is ∙ (get_or_default cubes i cube [] low ∙ sym (get_or-take (i + 1) cubes i [] (omega arith)))) in
                let noted : next w ≡ Some i = f w ∙ cond-true (nat_eq w w) (Some i) (last w) (eq-eqb w w refl) in
                subst (λ (q : ℕ). Placed (cube_number (get_or (take (i + 1) cubes) q [])) q) at
                (inl (subst (λ (m : ℕ). next m ≡ Some i) here noted))
          ];
    }

-- nothing is placed
pub none_placed : (last : ℕ → Option ℕ) (earlier : List ℕ) → ArePlaced [] last earlier
none_placed last earlier = record { formed = All-nil IsCube; placed = λ p low. absurd (omega arith) }
