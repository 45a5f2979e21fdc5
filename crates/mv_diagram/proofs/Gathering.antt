-- Places as they are gathered.
use Rattle.std.proofs.Common.{◌≡◌, ℕ, ◌+◌, ◌<◌, Bool, true, false, List, [], ◌∷◌, ◌++◌, length, Option, Some, All, count_by, get_or, sym, ap, ◌∙◌, inl, inr, true≢false, arith}
use Rattle.std.proofs.Math.ListN.{set}
use Rattle.std.proofs.lemmas.Bool.{cases_eq, cases_lt}
use Rattle.std.proofs.lemmas.List.{get_or-set_same, get_or-set_other, length-set, length-append}
use Rattle.std.proofs.lemmas.List.Elements.{All-push, All-nil, All-cons, All-head, All-tail}
use Rattle.std.proofs.lemmas.Option.{same_Some}
use Rattle.mv_pool.specs.declared.pool.Id.{Id}
use Rattle.mv_pool.specs.Walks.{mark}
use Rattle.mv_pool.proofs.Walking.{count-set, same_read}
use Rattle.mv_diagram.specs.declared.node.Dd.{Dd}
use Rattle.mv_diagram.specs.Links.{place_of}
use Rattle.mv_diagram.specs.Roots.{AreMarked, IsAdded, AreGathered}

-- the places of the first so many roots are marked
pub record AreSeen (roots : List Dd) (marks : List Bool) (count : ℕ) : Type 0 where
  pub each : (k : ℕ) (id : Id) (e : Dd) → k < count → place_of (get_or roots k e).0 ≡ Some id → mark marks id.0 ≡ true

all_split : {X : Type 0} (P : X → Type 0) (xs : List X) (x : X) → All P (xs ++ x ∷ []) → All P xs × P x
all_split P [] x h = (All-nil P, All-head P x [] h)
all_split P (y ∷ ys) x h = let rest = all_split P ys x (All-tail P y (ys ++ x ∷ []) h) in (All-cons P y ys (All-head P y (ys ++ x ∷ []) h) rest.0, rest.1)

-- a place more
pub added_new : (place : Option Id) (id : Id) (m : List Bool) (ids : List Id) → AreMarked m ids → id.0 < length m → mark m id.0 ≡ false → place ≡ Some id → IsAdded place m ids (set m id.0 true) (ids ++ id ∷ [])
added_new place id m ids are within apart is = record {
  marked = record { count = count; all = all };
  size = length-set m id.0 true;
  there = λ i e. ap (λ (j : Id). mark (set m id.0 true) j.0) (same_Some i id (sym e ∙ is)) ∙ here;
  stays = λ n h. elim (cases_eq n id.0) [
    | inl same ↦ absurd (true≢false (sym h ∙ ap (mark m) same ∙ apart))
    | inr other ↦ get_or-set_other m id.0 n true false other ∙ h
  ];
  only = λ s inside before. All-push (λ (i : Id). s i.0 ≡ true) ids id before (inside id is);
}
  where
    here : mark (set m id.0 true) id.0 ≡ true
    here = get_or-set_same m id.0 true false within

    count : length (ids ++ id ∷ []) ≡ count_by (λ b. b) (set m id.0 true)
    count = let long = length-append ids (id ∷ []) in let more = count-set m id.0 within apart in let before = are.count in omega arith

    all : (s : ℕ → Bool) → All (λ (i : Id). s i.0 ≡ true) (ids ++ id ∷ []) → (n : ℕ) → mark (set m id.0 true) n ≡ true → s n ≡ true
    all s every n h = let parts = all_split (λ (i : Id). s i.0 ≡ true) ids id every in elim (cases_eq n id.0) [
      | inl same ↦ ap s same ∙ parts.1
      | inr other ↦ are.all s parts.0 n (sym (get_or-set_other m id.0 n true false other) ∙ h)
    ]

-- a root more
module _ (roots : List Dd) (m : List Bool) (ids : List Id) (m' : List Bool) (ids' : List Id) (i : ℕ) (root : Dd) (within : i < length roots) (here : root ≡ get_or roots i root)
    (added : IsAdded (place_of root.0) m ids m' ids') where
  at_root : (k : ℕ) (id : Id) (e : Dd) → k ≡ i → place_of (get_or roots k e).0 ≡ Some id → place_of root.0 ≡ Some id
  at_root k id e same is = ap (λ (d : Dd). place_of d.0) (here ∙ same_read roots i root e within ∙ ap (λ j. get_or roots j e) (sym same)) ∙ is

  pub seen_more : AreSeen roots m i → AreSeen roots m' (i + 1)
  seen_more seen = record {
    each = λ k id e less is. elim (cases_lt k i) [
      | inl before ↦ added.stays id.0 (seen.each k id e before is)
      | inr last ↦ added.there id (at_root k id e (omega arith) is)
    ];
  }

  pub gathered_more : AreGathered roots ids i → AreSeen roots m i → AreGathered roots ids' (i + 1)
  gathered_more gathered seen = record {
    inside = λ s every. added.only s
        (λ id is. every i id root (omega arith) (ap (λ (d : Dd). place_of d.0) (sym here) ∙ is))
        (gathered.inside s (λ k id e less is. every k id e (omega arith) is));
    all = λ s every k id e less is. added.marked.all s every id.0 ((seen_more seen).each k id e less is);
  }
