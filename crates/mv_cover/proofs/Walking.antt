-- One walk along two cubes, for a test of both: literals that the test doesn't need are passed.
use Rattle.std.proofs.Common.{◌≡◌, ◌∙◌, ℕ, ◌+◌, ◌<◌, ◌≤◌, Bool, true, false, ◌&&◌, List, [], ◌∷◌, length, drop, get_or, nat_lt, refl, sym, ap, arith, suc, drop-cons, add-one}
use Rattle.std.proofs.lemmas.Bool.{false≢true, and_parts}
use Rattle.mv_cover.specs.Literal.{Lit}
use Rattle.mv_cover.specs.Cubes.{nets_ascend}

pub nets_ascend-tail : (l : Lit) (ls : List Lit) → nets_ascend (l ∷ ls) ≡ true → nets_ascend ls ≡ true
nets_ascend-tail l [] h = refl
nets_ascend-tail l (m ∷ ls) h = (and_parts (nat_lt l.net.0 m.net.0) (nets_ascend (m ∷ ls)) h).1

-- the rest of a list from its place
pub rest_at : (a : List Lit) (i : ℕ) (l : Lit) → i < length a → l ≡ get_or a i l → drop i a ≡ l ∷ drop (i + 1) a
rest_at a i l in_a here = rw add-one (drop-cons a i l in_a ∙ ap (λ (x : Lit). x ∷ drop (suc i) a) (sym here))

-- a part that holds drops out
pub drop_true : (p q r : Bool) → p ≡ true → q ≡ r → (p && q) ≡ r
drop_true true q r e h = h
drop_true false q r e h = absurd (false≢true e)

-- what is behind the two places passes the test as the cubes do
pub record Walked (test : List Lit → List Lit → Bool) (a b : List Lit) (i j : ℕ) : Type 0 where
  pub same : test (drop i a) (drop j b) ≡ test a b
  pub first : nets_ascend (drop i a) ≡ true
  pub second : nets_ascend (drop j b) ≡ true
  pub within : j ≤ length b

pub walked_none : (test : List Lit → List Lit → Bool) (a b : List Lit) → nets_ascend a ≡ true → nets_ascend b ≡ true → Walked test a b 0 0
walked_none test a b p q = record { same = refl; first = p; second = q; within = omega arith }

-- ---- a step, from two places at which literals stand

module _ (test : List Lit → List Lit → Bool) (a b : List Lit) (i j : ℕ) (l m : Lit) (in_a : i < length a) (in_b : j < length b) (at_i : l ≡ get_or a i l) (at_j : m ≡ get_or b j m) (w : Walked test a b i j) where
  pub ascends_first : nets_ascend (l ∷ drop (i + 1) a) ≡ true
  ascends_first = ap nets_ascend (sym (rest_at a i l in_a at_i)) ∙ w.first

  pub ascends_second : nets_ascend (m ∷ drop (j + 1) b) ≡ true
  ascends_second = ap nets_ascend (sym (rest_at b j m in_b at_j)) ∙ w.second

  -- what is tested there
  pub tested : test (l ∷ drop (i + 1) a) (m ∷ drop (j + 1) b) ≡ test a b
  tested = (λ k. test (sym (rest_at a i l in_a at_i) k) (sym (rest_at b j m in_b at_j) k)) ∙ w.same

  pub past_first : test (l ∷ drop (i + 1) a) (m ∷ drop (j + 1) b) ≡ test (drop (i + 1) a) (m ∷ drop (j + 1) b) → Walked test a b (i + 1) j
  past_first step = record {
    same = ap (λ (z : List Lit). test (drop (i + 1) a) z) (rest_at b j m in_b at_j) ∙ (sym step ∙ tested);
    first = nets_ascend-tail l (drop (i + 1) a) ascends_first;
    second = w.second;
    within = w.within;
  }

  pub past_second : test (l ∷ drop (i + 1) a) (m ∷ drop (j + 1) b) ≡ test (l ∷ drop (i + 1) a) (drop (j + 1) b) → Walked test a b i (j + 1)
  past_second step = record {
    same = ap (λ (z : List Lit). test z (drop (j + 1) b)) (rest_at a i l in_a at_i) ∙ (sym step ∙ tested);
    first = w.first;
    second = nets_ascend-tail m (drop (j + 1) b) ascends_second;
    within = let low = in_b in omega arith;
  }

  pub past_both : test (l ∷ drop (i + 1) a) (m ∷ drop (j + 1) b) ≡ test (drop (i + 1) a) (drop (j + 1) b) → Walked test a b (i + 1) (j + 1)
  past_both step = record {
    same = sym step ∙ tested;
    first = nets_ascend-tail l (drop (i + 1) a) ascends_first;
    second = nets_ascend-tail m (drop (j + 1) b) ascends_second;
    within = let low = in_b in omega arith;
  }
