-- What std's ordered sets say of their keys, as who waits.
use Rattle.std.proofs.Common.{◌≡◌, ◌∙◌, ℕ, ◌+◌, ◌<◌, ◌≤◌, Bool, true, false, ◌&&◌, ◌||◌, not, cond, nat_eq, List, [], ◌∷◌, length, refl, sym, ap, ⊎_elim, nat_cmp, arith, eqb-true, eq-eqb}
use Rattle.std.specs.BTreeMap.{is_at}
use Rattle.std.specs.BTreeSet.{BTreeSet, IsLowerBound, Updates, contains}
use Rattle.std.specs.List.{list_any}
use Rattle.std.proofs.lemmas.Bool.{false≢true, or_cases, or_left, or_right, cases_lt}
use Rattle.std.proofs.lemmas.Map.Keys.{le_from_not_gt}
use Rattle.mv_agenda.specs.Agenda.{waits, NoneWaits, Puts, TakesLeast, WaitBelow}

-- ---- one number

same_at : (n m : ℕ) → is_at (nat_cmp n) m ≡ nat_eq n m
same_at n m = grind (arith)

-- the set has a number exactly where it waits
pub waits_is : (n : ℕ) (ns : List ℕ) → list_any (is_at (nat_cmp n)) ns ≡ waits ns n
unfolding waits
waits_is n [] = refl
waits_is n (m ∷ ns) = rw (same_at n m) (ap (λ b. nat_eq n m || b) (waits_is n ns))

-- ---- what the calls do

put_as_or : (a b : Bool) → cond b true a ≡ (a || b)
put_as_or true true = refl
put_as_or true false = refl
put_as_or false true = refl
put_as_or false false = refl

taken_as_and : (a b : Bool) → cond b false a ≡ (a && not b)
taken_as_and true true = refl
taken_as_and true false = refl
taken_as_and false true = refl
taken_as_and false false = refl

updated : (old new : BTreeSet ℕ) (n : ℕ) (b : Bool) → Updates nat_cmp old new n b → (m : ℕ) → waits new.keys m ≡ cond (nat_eq n m) b (waits old.keys m)
updated old new n b u m =
    let has = ap (λ t. cond t b (contains nat_cmp old m)) (same_at n m) ∙ ap (λ a. cond (nat_eq n m) b a) (waits_is m old.keys) in
    sym (waits_is m new.keys) ∙ (u.0 m ∙ has)

pub puts : (old new : BTreeSet ℕ) (n : ℕ) → Updates nat_cmp old new n true → Puts old.keys new.keys n
puts old new n u = record { each = λ m. updated old new n true u m ∙ put_as_or (waits old.keys m) (nat_eq n m) }

module _ (old new : BTreeSet ℕ) (n : ℕ) where
  pub takes_least : contains nat_cmp old n ≡ true → IsLowerBound nat_cmp old n → Updates nat_cmp old new n false → old.keys ≡ n ∷ new.keys → TakesLeast old.keys new.keys n
  takes_least has low u first = record {
    waiting = sym (waits_is n old.keys) ∙ has;
    least = λ m w. le_from_not_gt n m (low m (waits_is m old.keys ∙ w));
    rest = λ m. updated old new n false u m ∙ taken_as_and (waits old.keys m) (nat_eq n m);
    fewer = let e : length old.keys ≡ length (n ∷ new.keys) = ap length first in omega (arith, e);
  }

pub empty : (ns : List ℕ) → (0 < length ns → ⊥) → ns ≡ []
empty [] few = refl
empty (n ∷ ns) few = absurd (few (omega arith))

pub none_waits : (ns : List ℕ) → ns ≡ [] → NoneWaits ns
unfolding waits
none_waits ns e = record { none = λ n. ap (λ l. waits l n) e }

-- ---- the numbers below an end

pub none_below : (ns : List ℕ) → ns ≡ [] → WaitBelow ns 0
none_below ns e = record { all = λ n low. absurd (omega (arith, low)); only = λ n w. absurd (false≢true (sym ((none_waits ns e).none n) ∙ w)) }

pub one_more_below : (old new : List ℕ) (end : ℕ) → WaitBelow old end → Puts old new end → WaitBelow new (end + 1)
one_more_below old new end h p = record {
  all = λ n low.
      p.each n ∙ ⊎_elim
      (λ (l : n < end). or_left (waits old n) (nat_eq end n) (h.all n l))
      (λ (g : end ≤ n). or_right (waits old n) (nat_eq end n) (eq-eqb end n (omega arith)))
      (cases_lt n end);
  only = λ n w.
      ⊎_elim
      (λ (o : waits old n ≡ true). let low = h.only n o in omega (arith, low))
      (λ (y : nat_eq end n ≡ true). let same = eqb-true end n y in omega (arith, same))
      (or_cases (waits old n) (nat_eq end n) (sym (p.each n) ∙ w));
}
