-- Sets behind a merge, value by value, and which old value a new one stands for.
use Rattle.std.proofs.Common.{◌≡◌, ◌∙◌, ◌⊎◌, ℕ, zero, suc, ◌+◌, ◌-◌, ◌<◌, ◌≤◌, Bool, true, false, ◌&&◌, ◌||◌, nat_eq, nat_lt, inl, inr, refl, sym, ap, ⊎_elim, eq-eqb, arith}
use Rattle.std.proofs.lemmas.Bool.{cases_Bool, cases_eq, cases_lt, cond-true, cond-false, false≢true, ltb-true, lt-ltb, ne_eqb, or_left, or_right}
use Rattle.std.proofs.Math.Bool.{or-false}
use Rattle.mv_base.specs.Set.{has, one, full, join, Within}
use Rattle.mv_base.proofs.Sets.{has-empty, has-one, has-full, has-join}
use Rattle.mv_cover.specs.Lines.{IsOutput}
use Rattle.mv_merging.specs.declared.merging.Merging.{Merging}
use Rattle.mv_merging.specs.Values.{before, takes_place, merged_has, members_below, merged_set}

-- ---- the values below a number that pass a test

-- with the number put in where it passes
with_member : (k : ℕ) (test : ℕ → Bool) (v : ℕ) → has (join (members_below k test) (one k)) v ≡ (has (members_below k test) v || nat_eq v k)
with_member k test v = has-join (members_below k test) (one k) v ∙ ap (λ b. has (members_below k test) v || b) (has-one k v)

pub members_out : (k : ℕ) (test : ℕ → Bool) (v : ℕ) → k ≤ v → has (members_below k test) v ≡ false
members_out zero test v h = has-empty v
members_out (suc k) test v h =
    let rest = members_out k test v (omega arith) in
    ⊎_elim
    (λ (y : test k ≡ true).
    ap (λ s. has s v) (cond-true (test k) (join (members_below k test) (one k)) (members_below k test) y)
    ∙ (with_member k test v ∙ (λ i. rest i || ne_eqb v k (λ e. absurd (omega arith)) i)))
    (λ (f : test k ≡ false). ap (λ s. has s v) (cond-false (test k) (join (members_below k test) (one k)) (members_below k test) f) ∙ rest)
    (cases_Bool (test k))

pub members_in : (k : ℕ) (test : ℕ → Bool) (v : ℕ) → v < k → has (members_below k test) v ≡ test v
members_in zero test v h = absurd (omega arith)
members_in (suc k) test v h =
    ⊎_elim
    (λ (y : test k ≡ true).
    ap (λ s. has s v) (cond-true (test k) (join (members_below k test) (one k)) (members_below k test) y)
    ∙ (with_member k test v
    ∙ ⊎_elim
    (λ (e : v ≡ k). or_right (has (members_below k test) v) (nat_eq v k) (eq-eqb v k e) ∙ sym (ap test e ∙ y))
    (λ (ne : v ≡ k → ⊥). (λ i. members_in k test v (omega arith) i || ne_eqb v k ne i) ∙ or-false (test v))
    (cases_eq v k)))
    (λ (f : test k ≡ false).
    ap (λ s. has s v) (cond-false (test k) (join (members_below k test) (one k)) (members_below k test) f)
    ∙ ⊎_elim
    (λ (e : v ≡ k). members_out k test v (omega arith) ∙ sym (ap test e ∙ f))
    (λ (ne : v ≡ k → ⊥). members_in k test v (omega arith))
    (cases_eq v k))
    (cases_Bool (test k))

-- ---- a set behind a merge

pub has-merged : (m : Merging) (set v : ℕ) → v < m.left → has (merged_set m set) v ≡ merged_has m set v
unfolding merged_set
has-merged m set v low = members_in m.left (merged_has m set) v low

pub has-merged_past : (m : Merging) (set v : ℕ) → m.left ≤ v → has (merged_set m set) v ≡ false
unfolding merged_set
has-merged_past m set v past = members_out m.left (merged_has m set) v past

-- it has values that are left alone
pub merged_within : (m : Merging) (set : ℕ) → Within (merged_set m set) (full m.left)
merged_within m set v h =
    ⊎_elim
    (λ (low : v < m.left). has-full m.left v ∙ lt-ltb v m.left low)
    (λ (past : m.left ≤ v). absurd (false≢true (sym (has-merged_past m set v past) ∙ h)))
    (cases_lt v m.left)

-- ---- which value stands for which

-- the new value w stands for the old value v
pub record StandsFor (m : Merging) (v w : ℕ) : Type 0 where
  pub low : w < m.left
  pub is : (v ≡ before m w) ⊎ ((v ≡ m.gone.0) × (takes_place m.into (before m w) ≡ true))

-- the set has both of the two values or neither
pub record IsAlike (m : Merging) (set : ℕ) : Type 0 where
  pub same : (u : ℕ) → takes_place m.into u ≡ true → has set u ≡ has set m.gone.0

both_or_neither : (a b : Bool) → a ≡ b → (a || (true && b)) ≡ b
both_or_neither a true e = or_right a true refl
both_or_neither a false e = or-false a ∙ e

-- a set that doesn't tell the two apart has the new value where it had the old one
pub has-behind : (m : Merging) (set v w : ℕ) → StandsFor m v w → IsAlike m set → has (merged_set m set) w ≡ has set v
has-behind m set v w for alike =
    has-merged m set w for.low
    ∙ ⊎_elim
    (λ (e : v ≡ before m w). own (takes_place m.into (before m w)) refl ∙ ap (has set) (sym e))
    (λ (p : (v ≡ m.gone.0) × (takes_place m.into (before m w) ≡ true)).
    ap (λ b. has set (before m w) || (b && has set m.gone.0)) p.1
    ∙ (both_or_neither (has set (before m w)) (has set m.gone.0) (alike.same (before m w) p.1) ∙ ap (has set) (sym p.0)))
    for.is
  where
    own : (t : Bool) → takes_place m.into (before m w) ≡ t → (has set (before m w) || (t && has set m.gone.0)) ≡ has set (before m w)
    own true e = both_or_neither (has set (before m w)) (has set m.gone.0) (alike.same (before m w) e) ∙ sym (alike.same (before m w) e)
    own false e = or-false (has set (before m w))

-- ---- the number that a value has now

-- a value that stays has a number
pub record HasNumber (m : Merging) (v : ℕ) : Type 0 where
  pub now : ℕ
  pub low : now < m.left
  pub was : before m now ≡ v

pub has_number : (m : Merging) (v : ℕ) → m.gone.0 ≤ m.left → v ≤ m.left → (v ≡ m.gone.0 → ⊥) → HasNumber m v
has_number m v gone low ne =
    ⊎_elim
    (λ (below : v < m.gone.0). record { now = v; low = omega arith; was = cond-true (nat_lt v m.gone.0) v (v + 1) (lt-ltb v m.gone.0 below) })
    (λ (above : m.gone.0 ≤ v).
    let past : m.gone.0 ≤ v - 1 = omega arith in
    record {
      now = v - 1;
      low = omega arith;
      was = cond-false (nat_lt (v - 1) m.gone.0) (v - 1) ((v - 1) + 1) (not_less (v - 1) m.gone.0 past) ∙ omega arith;
    })
    (cases_lt v m.gone.0)
  where
    not_less : (a b : ℕ) → b ≤ a → nat_lt a b ≡ false
    not_less a b h = ⊎_elim (λ (y : nat_lt a b ≡ true). let low = ltb-true a b y in absurd (omega arith)) (λ (f : nat_lt a b ≡ false). f) (cases_Bool (nat_lt a b))

-- and what had it is below the old count
pub before_low : (m : Merging) (w : ℕ) → w < m.left → before m w < m.left + 1
before_low m w low =
    ⊎_elim
    (λ (y : nat_lt w m.gone.0 ≡ true). let e = cond-true (nat_lt w m.gone.0) w (w + 1) y in omega (arith, e))
    (λ (f : nat_lt w m.gone.0 ≡ false). let e = cond-false (nat_lt w m.gone.0) w (w + 1) f in omega (arith, e))
    (cases_Bool (nat_lt w m.gone.0))

-- ---- outputs

-- an output behind a merge is one of the values that are left, if the value that goes isn't its only one, or another takes its place
pub merged_output : (m : Merging) (set v : ℕ) → has set v ≡ true → (for : (w : ℕ) × StandsFor m v w) → IsOutput m.left (merged_set m set)
merged_output m set v member for = record {
  some = λ e. false≢true (sym (has-empty for.0) ∙ (ap (λ s. has s for.0) (sym e) ∙ (has-merged m set for.0 for.1.low ∙ there for.1.is)));
  within = merged_within m set;
}
  where
    there : (v ≡ before m for.0) ⊎ ((v ≡ m.gone.0) × (takes_place m.into (before m for.0) ≡ true)) → merged_has m set for.0 ≡ true
    there (inl e) = or_left (has set (before m for.0)) (takes_place m.into (before m for.0) && has set m.gone.0) (ap (has set) (sym e) ∙ member)
    there (inr p) =
        or_right (has set (before m for.0)) (takes_place m.into (before m for.0) && has set m.gone.0)
        (ap (λ b. b && has set m.gone.0) p.1 ∙ (ap (has set) (sym p.0) ∙ member))
