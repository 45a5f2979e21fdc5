-- Names in lists: which are among them, how often they stand there, and those of reset nets, which begin as no lawful name of a
-- net does.
use Rattle.std.proofs.Common.{◌≡◌, ℕ, ◌+◌, Bool, true, false, not, ◌||◌, cond, List, [], ◌∷◌, length, get_or, map, refl, sym, ◌∙◌, ap, arith, ⊎_elim, All}
use Rattle.std.specs.Prelude.{nat_lt, count_by}
use Rattle.std.specs.List.{flat_map, list_all, list_any}
use Rattle.std.proofs.lemmas.Bool.{false≢true, false_from_ne_true, and_from, and_parts, or_cases, not-true, lt-ltb, ltb-false}
use Rattle.std.proofs.lemmas.List.Elements.{All-head, All-tail}
use Rattle.std.proofs.lemmas.List.Folds.{list_any_none}
use Rattle.mv_base.specs.Names.{same_word, among, begins_with, is_net_name, names_differ}
use Rattle.mv_base.proofs.Lists.{found}
use Rattle.mv_base.proofs.NameLemmas.{same_word_is, among-append, among-at}
use Rattle.mv_acyclic.proofs.Names.{among_counted, count_of_cons}
use Rattle.mv_resets.specs.Resets.{reset_name}

-- ---- elements that pass a test

-- an element of which this holds, and which passes the test
pub record Has {X : Type 0} (P : X → Type 0) (p : X → Bool) : Type 0 where
  pub item : X
  pub holds : P item
  pub passes : p item ≡ true

pub has : {X : Type 0} (P : X → Type 0) (p : X → Bool) (xs : List X) → All P xs → list_any p xs ≡ true → Has P p
has P p [] all h = absurd (false≢true h)
has P p (x ∷ xs) all h =
    ⊎_elim (λ (y : p x ≡ true). record { item = x; holds = All-head P x xs all; passes = y })
    (λ (y : list_any p xs ≡ true). has P p xs (All-tail P x xs all) y)
    (or_cases (p x) (list_any p xs) h)

pub any-map : {X Y : Type 0} (p : Y → Bool) (f : X → Y) (xs : List X) → list_any p (map f xs) ≡ list_any (λ x. p (f x)) xs
any-map p f [] = refl
any-map p f (x ∷ xs) = ap (λ b. p (f x) || b) (any-map p f xs)

pub among_flat : {X : Type 0} (f : X → List (List ℕ)) (w : List ℕ) (xs : List X) → among w (flat_map f xs) ≡ list_any (λ x. among w (f x)) xs
among_flat f w [] = refl
among_flat f w (x ∷ xs) = among-append w (f x) (flat_map f xs) ∙ ap (λ b. among w (f x) || b) (among_flat f w xs)

-- functions that agree on what passes a test agree on lists of such elements
pub map_alike : {X Y : Type 0} (f g : X → Y) (p : X → Bool) → ((x : X) → p x ≡ true → f x ≡ g x) → (xs : List X) → list_all p xs ≡ true → map f xs ≡ map g xs
map_alike f g p same [] h = refl
map_alike f g p same (x ∷ xs) h =
    let q = and_parts (p x) (list_all p xs) h in
    ap (λ y. y ∷ map f xs) (same x q.0) ∙ ap (λ ys. g x ∷ ys) (map_alike f g p same xs q.1)

-- ---- the names of reset nets

-- no lawful name of a net begins with a full stop
pub not_lawful : (v : List ℕ) → is_net_name (reset_name v) ≡ true → ⊥
unfolding is_net_name
not_lawful v e =
    let some : nat_lt 0 (length (46 ∷ v)) ≡ true = lt-ltb 0 (length (46 ∷ v)) (omega arith) in
    let stop = and_parts _ _ (and_parts _ _ (and_parts _ _ e).0).0 in
    false≢true (sym (not-true (begins_with 46 (46 ∷ v)) stop.1) ∙ and_from _ _ some refl)

pub other_name : (w v : List ℕ) → is_net_name w ≡ true → same_word w (reset_name v) ≡ false
other_name w v h = false_from_ne_true _ (λ e. not_lawful v (ap is_net_name (sym (same_word_is w (reset_name v) e)) ∙ h))

pub lawful_among : (w : List ℕ) (ws : List (List ℕ)) → is_net_name w ≡ true → among w (map reset_name ws) ≡ false
lawful_among w ws h =
    any-map (same_word w) reset_name ws ∙ list_any_none (λ u. same_word w (reset_name u)) ws (λ k d l. other_name w (get_or ws k d) h)

pub reset_among : (v : List ℕ) (ws : List (List ℕ)) → among (reset_name v) (map reset_name ws) ≡ among v ws
reset_among v ws = any-map (same_word (reset_name v)) reset_name ws

-- the name of a reset net, and the one of these latches that it is of
pub record IsNamed (ws : List (List ℕ)) (w : List ℕ) : Type 0 where
  pub latch : List ℕ
  pub listed : among latch ws ≡ true
  pub is : w ≡ reset_name latch

pub named : (w : List ℕ) (ws : List (List ℕ)) → among w (map reset_name ws) ≡ true → IsNamed ws w
named w ws h =
    let f = found (λ v. same_word w (reset_name v)) ws (sym (any-map (same_word w) reset_name ws) ∙ h) in
    record { latch = f.item; listed = among-at ws f.place f.item f.at; is = same_word_is w (reset_name f.item) f.passes }

-- ---- how often a name stands in a list

abbrev pub times : List ℕ → List (List ℕ) → ℕ
times w ws = count_by (same_word w) ws

pub not_counted : (w : List ℕ) (ws : List (List ℕ)) → among w ws ≡ false → times w ws ≡ 0
not_counted w ws h = let l = ltb-false 0 (times w ws) (sym (among_counted w ws) ∙ h) in omega arith

-- a name of a reset net stands among such names as often as the latch among latches
pub reset_times : (v : List ℕ) (ws : List (List ℕ)) → times (reset_name v) (map reset_name ws) ≡ times v ws
reset_times v [] = refl
reset_times v (u ∷ us) =
    count_of_cons (reset_name v) (reset_name u) (map reset_name us)
    ∙ (ap (λ n. cond (same_word v u) 1 0 + n) (reset_times v us) ∙ sym (count_of_cons v u us))

-- different names stand there once
pub counted_once : (w : List ℕ) (ws : List (List ℕ)) → names_differ ws ≡ true → among w ws ≡ true → times w ws ≡ 1
counted_once w [] d h = absurd (false≢true h)
counted_once w (u ∷ us) d h =
    let p = and_parts (not (among u us)) (names_differ us) d in
    count_of_cons w u us
    ∙ once (same_word w u) (times w us) (λ y. not_counted w us (ap (λ v. among v us) (same_word_is w u y) ∙ not-true _ p.0))
    (λ n. counted_once w us p.1 (ap (λ b. b || among w us) (sym n) ∙ h))
  where
    once : (b : Bool) (n : ℕ) → (b ≡ true → n ≡ 0) → (b ≡ false → n ≡ 1) → cond b 1 0 + n ≡ 1
    once true n none one = ap (λ k. 1 + k) (none refl)
    once false n none one = ap (λ k. 0 + k) (one refl)
