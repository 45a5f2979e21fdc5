-- How many values nets have, and which of them are the numbers from 0.
use Rattle.std.proofs.Common.{◌≡◌, ℕ, ◌+◌, ◌<◌, ◌≤◌, true, ◌&&◌, List, [], ◌∷◌, length, drop, get_or, map, refl, sym, ◌∙◌, ap, arith, nat_eq, decimal, All}
use Rattle.std.specs.List.{range_with_len}
use Rattle.std.specs.Cmp.Lexicographic.{pointwise}
use Rattle.std.proofs.lemmas.Bool.{cond_both}
use Rattle.std.proofs.lemmas.List.{at_drop_more, at_drop_all}
use Rattle.std.proofs.lemmas.List.Elements.{All-head, All-tail}
use Rattle.mv_base.specs.Names.{same_word}
use Rattle.mv_base.specs.declared.limits.TheConstants.{MAX_VALUES}
use Rattle.mv_design.specs.declared.design.Decl.{Decl}
use Rattle.mv_design.specs.Values.{values_of}
use Rattle.mv_resets.specs.NetModels.{HasLawfulValues}
use Rattle.mv_flat.specs.Numbers.{are_numbers}
use Rattle.mv_flat.specs.Values.{numbers_from}

-- ---- how many values a net has

pub record AreFew (n : ℕ) : Type 0 where
  pub some : 0 < n
  pub few : n ≤ MAX_VALUES

pub values_few : (ds : List Decl) (net : List ℕ) → All HasLawfulValues ds → AreFew (length (values_of ds net))
values_few [] net all = record { some = omega arith; few = omega arith }
values_few (d ∷ ds) net all =
    let h = All-head HasLawfulValues d ds all in
    let P : List (List ℕ) → Type 0 = λ vs. AreFew (length vs) in
    cond_both (same_word net d.net) d.values (values_of ds net) P (λ _. record { some = h.some; few = h.few })
    (λ _. values_few ds net (All-tail HasLawfulValues d ds all))

-- ---- numbers as names

numbers_are : (n : ℕ) (ws : List (List ℕ)) → pointwise (pointwise nat_eq) ws (map decimal (range_with_len n (length ws))) ≡ numbers_from n ws
numbers_are n [] = refl
numbers_are n (w ∷ ws) = ap (λ b. pointwise nat_eq w (decimal n) && b) (numbers_are (n + 1) ws)

pub numbers_first : (ws : List (List ℕ)) → numbers_from 0 ws ≡ are_numbers ws
numbers_first ws = sym (numbers_are 0 ws)

pub numbers_more : (ws : List (List ℕ)) (i : ℕ) (w : List ℕ) → i < length ws → w ≡ get_or ws i w → numbers_from i (drop i ws) ≡ (pointwise nat_eq w (decimal i) && numbers_from (i + 1) (drop (i + 1) ws))
numbers_more ws i w low is = at_drop_more (numbers_from i) ws i w low ∙ ap (λ x. pointwise nat_eq x (decimal i) && numbers_from (i + 1) (drop (i + 1) ws)) (sym is)

pub numbers_none : (ws : List (List ℕ)) (i : ℕ) → length ws ≤ i → numbers_from i (drop i ws) ≡ true
numbers_none ws i high = at_drop_all (numbers_from i) ws i high

pub ruleset numbered = (numbers_first, numbers_more, numbers_none)
