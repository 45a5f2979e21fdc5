-- Elements of lists by place, and the numbers of names.
use Rattle.std.proofs.Common.{◌≡◌, ℕ, ◌<◌, true, List, [], ◌∷◌, length, get_or, Some, sym, ap, subst, ⊎_elim}
use Rattle.std.specs.Prelude.{unwrap_or, nat_eq}
use Rattle.std.specs.List.{slice_get}
use Rattle.std.proofs.lemmas.Bool.{false≢true, or_cases, or_left, or_right, eq-eqb, eqb-true}
use Rattle.std.proofs.lemmas.Option.{get_or_from_slice_get}
use Rattle.mv_base.specs.Names.{same_word, among, place_of, IsDistinct}
use Rattle.mv_base.proofs.NameLemmas.{IsPlace-from_among, place_of-at, same_word_is, same_word_refl}
use Rattle.mv_graph.specs.Nets.{has_id}
use Rattle.mv_acyclic.specs.Numbers.{number_in, numbers_in}

-- the number of a name among others is its place
pub record IsNumber (names : List (List ℕ)) (w : List ℕ) : Type 0 where
  pub within : number_in names w < length names
  pub listed : slice_get names (number_in names w) ≡ Some w

number_some : (names : List (List ℕ)) (w : List ℕ) (k : ℕ) → place_of w names ≡ Some k → number_in names w ≡ k
unfolding number_in
number_some names w k e = ap (λ o. unwrap_or o 0) e

pub IsNumber-among : (names : List (List ℕ)) (w : List ℕ) → among w names ≡ true → IsNumber names w
IsNumber-among names w h =
    let p = IsPlace-from_among w names h in
    let e : number_in names w ≡ p.0 = number_some names w p.0 p.1.place in
    record {
      within = let P : ℕ → Type 0 = λ n. n < length names in subst P (sym e) p.1.within;
      listed = let P : ℕ → Type 0 = λ n. slice_get names n ≡ Some w in subst P (sym e) p.1.found;
    }

pub number_at : (names : List (List ℕ)) (k : ℕ) (w : List ℕ) → IsDistinct names → slice_get names k ≡ Some w → number_in names w ≡ k
number_at names k w d e = number_some names w k (place_of-at names k w d e)

pub name_at : (names : List (List ℕ)) (w : List ℕ) → among w names ≡ true → get_or names (number_in names w) [] ≡ w
name_at names w h = get_or_from_slice_get names (number_in names w) w [] (IsNumber-among names w h).listed

-- a name's number is among the numbers of names, where the name is among them
pub has_number : (names ws : List (List ℕ)) (w : List ℕ) → among w ws ≡ true → has_id (numbers_in names ws) (number_in names w) ≡ true
has_number names [] w h = absurd (false≢true h)
has_number names (u ∷ us) w h =
    ⊎_elim (λ (s : same_word w u ≡ true). or_left _ _ (eq-eqb _ _ (ap (number_in names) (sym (same_word_is w u s)))))
    (λ (r : among w us ≡ true). or_right (nat_eq (number_in names u) (number_in names w)) _ (has_number names us w r))
    (or_cases (same_word w u) (among w us) h)

-- and the other way round
pub record Numbered (names ws : List (List ℕ)) (n : ℕ) : Type 0 where
  pub name : List ℕ
  pub among_them : among name ws ≡ true
  pub number : number_in names name ≡ n

pub numbered_by : (names ws : List (List ℕ)) (n : ℕ) → has_id (numbers_in names ws) n ≡ true → Numbered names ws n
numbered_by names [] n h = absurd (false≢true h)
numbered_by names (u ∷ us) n h =
    ⊎_elim (λ (e : nat_eq (number_in names u) n ≡ true). record { name = u; among_them = or_left _ _ (same_word_refl u); number = eqb-true _ _ e })
    (λ (r : has_id (numbers_in names us) n ≡ true).
    let s = numbered_by names us n r in
    record { name = s.name; among_them = or_right (same_word s.name u) _ s.among_them; number = s.number })
    (or_cases (nat_eq (number_in names u) n) (has_id (numbers_in names us) n) h)
