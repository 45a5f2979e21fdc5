-- Marks by number: one more mark, and when all that are seen are marked.
use Rattle.std.proofs.Common.{◌≡◌, ◌∙◌, ℕ, ◌+◌, ◌<◌, ◌≤◌, Bool, true, false, ◌||◌, nat_eq, List, length, map, get_or, set, take, Option, None, refl, sym, ap, subst, ⊎_elim, eq-eqb, eqb-true, arith}
use Rattle.std.specs.List.{list_any}
use Rattle.std.proofs.lemmas.Bool.{cases_Bool, cases_lt, eqb-false}
use Rattle.std.proofs.lemmas.List.{get_or-set_same, get_or-set_other, get_or_past, get_or-map, length-set, length-map}
use Rattle.std.proofs.lemmas.List.Folds.{list_any_more, list_any_at}
use Rattle.mv_net.specs.declared.parts.FlatNet.{FlatNet}
use Rattle.mv_net.specs.declared.parts.NetParts.{NetParts}
use Rattle.mv_net.specs.Nets.{slot}
use Rattle.mv_graph.specs.Nets.{has_id}
use Rattle.mv_graph.specs.Marks.{is_marked}
use Rattle.mv_net.specs.Index.{is_latch_input, is_reset, kind_in, is_seen}
use Rattle.mv_net.specs.Seen.{AlsoMarked, AreSeen}

-- the test that an element of the list has the number
abbrev pub has_number : {X : Type 0} → (X → ℕ) → List X → ℕ → Bool
has_number num xs n = list_any (λ y. nat_eq (num y) n) xs

-- each element's number is one of them
pub number_at : {X : Type 0} (num : X → ℕ) (xs : List X) (k i : ℕ) (d : X) → ((n : ℕ) → has_number num xs n ≡ true → n < k) → i < length xs → num (get_or xs i d) < k
number_at num xs k i d low lt =
    low (num (get_or xs i d)) (list_any_at (λ y. nat_eq (num y) (num (get_or xs i d))) xs i d lt (eq-eqb (num (get_or xs i d)) (num (get_or xs i d)) refl))

or_true : (a b : Bool) → true ≡ ((a || true) || b)
or_true true b = refl
or_true false b = refl

or_false : (a b : Bool) → (a || b) ≡ ((a || false) || b)
or_false true b = refl
or_false false b = refl

-- one mark more
pub AlsoMarked-more : {X : Type 0} (num : X → ℕ) (old mid new : List Bool) (xs : List X) (i : ℕ) (d : X) → i < length xs → num (get_or xs i d) < length mid → AlsoMarked old (has_number num (take i xs)) mid → new ≡ set mid (num (get_or xs i d)) true → AlsoMarked old (has_number num (take (i + 1) xs)) new
AlsoMarked-more num old mid new xs i d lt within before e = record {
  long = ap length e ∙ (length-set mid (num (get_or xs i d)) true ∙ before.long);
  each = λ n. ap (λ ms. is_marked ms n) e ∙ (at n ∙ ap (λ b. b || is_marked old n) (sym (list_any_more (λ y. nat_eq (num y) n) xs i d lt)));
}
  where
    at : (n : ℕ) → is_marked (set mid (num (get_or xs i d)) true) n ≡ ((has_number num (take i xs) n || nat_eq (num (get_or xs i d)) n) || is_marked old n)
    at n =
        ⊎_elim
        (λ (y : nat_eq (num (get_or xs i d)) n ≡ true).
        let P : ℕ → Type 0 = λ j. is_marked (set mid (num (get_or xs i d)) true) j ≡ true in
        let here : P n = subst P (eqb-true (num (get_or xs i d)) n y) (get_or-set_same mid (num (get_or xs i d)) true false within) in
        here ∙ (or_true (has_number num (take i xs) n) (is_marked old n) ∙ ap (λ b. (has_number num (take i xs) n || b) || is_marked old n) (sym y)))
        (λ (f : nat_eq (num (get_or xs i d)) n ≡ false).
        get_or-set_other mid (num (get_or xs i d)) n true false (λ e. eqb-false (num (get_or xs i d)) n f (sym e)) ∙ (before.each n ∙ (or_false (has_number num (take i xs) n) (is_marked old n) ∙ ap (λ b. (has_number num (take i xs) n || b) || is_marked old n) (sym f))))
        (cases_Bool (nat_eq (num (get_or xs i d)) n))

turned : (a b c : Bool) → (b || (a || c)) ≡ ((a || b) || c)
turned true true c = refl
turned true false c = refl
turned false true c = refl
turned false false c = refl

reset_mark : (nets : List (Option FlatNet)) (n : ℕ) → is_marked (map (λ (f : Option FlatNet). is_reset (kind_in f)) nets) n ≡ is_reset (kind_in (slot nets n))
reset_mark nets n =
    ⊎_elim
    (λ (l : n < length nets). get_or-map (λ (f : Option FlatNet). is_reset (kind_in f)) nets n None false l)
    (λ (g : length nets ≤ n).
    let e : slot nets n ≡ None = get_or_past nets n None g in
    get_or_past (map (λ (f : Option FlatNet). is_reset (kind_in f)) nets) n false (omega (arith, length-map nets (λ (f : Option FlatNet). is_reset (kind_in f)))) ∙ sym (ap (λ f. is_reset (kind_in f)) e))
    (cases_lt n (length nets))

-- the reset nets, then the outputs, then the latch inputs were marked
pub AreSeen-from_marks : (net : NetParts) (resets outputs all : List Bool) → resets ≡ map (λ (f : Option FlatNet). is_reset (kind_in f)) net.nets → AlsoMarked resets (has_id net.outputs) outputs → AlsoMarked outputs (is_latch_input net.latches) all → AreSeen net all
unfolding is_seen
AreSeen-from_marks net resets outputs all r o a = record {
  each = λ n.
      a.each n ∙ (ap (λ b. is_latch_input net.latches n || b) (o.each n ∙ ap (λ b. has_id net.outputs n || b) (ap (λ ms. is_marked ms n) r ∙ reset_mark net.nets n)) ∙ turned (has_id net.outputs n) (is_latch_input net.latches n) (is_reset (kind_in (slot net.nets n))));
}
