-- Sets behind a merge, made member by member: a value that stays moves, and a set is behind the merge what its members are.
use Rattle.std.proofs.Common.{◌≡◌, ◌∙◌, ℕ, ◌+◌, ◌<◌, ◌≤◌, Bool, true, false, ◌&&◌, ◌||◌, nat_eq, nat_lt, Some, None, IsTrue, refl, sym, ap, ⊎_elim, eq-eqb, arith}
use Rattle.std.proofs.lemmas.Bool.{cases_Bool, cases_eq, cases_lt, cond-true, cond-false, ltb-true, lt-ltb, ne_eqb}
use Rattle.std.proofs.Math.Bool.{or-false}
use Rattle.mv_base.specs.Set.{has, empty, one, join, minus}
use Rattle.mv_base.specs.declared.number.Value.{Value}
use Rattle.mv_base.proofs.Sets.{has-empty, has-one, has-join, same_set, join-minus}
use Rattle.mv_merging.specs.declared.merging.Merging.{Merging}
use Rattle.mv_merging.specs.Values.{before, takes_place, merged_has, merged_set}
use Rattle.mv_merging.proofs.Sets.{has-merged, has-merged_past}

-- ---- tests

-- two tests of equal numbers agree where each pair is equal with the other
same_tests : (a b c d : ℕ) → (a ≡ b → c ≡ d) → (c ≡ d → a ≡ b) → nat_eq a b ≡ nat_eq c d
same_tests a b c d to from =
    ⊎_elim
    (λ (e : a ≡ b). eq-eqb a b e ∙ sym (eq-eqb c d (to e)))
    (λ (ne : a ≡ b → ⊥). ne_eqb a b ne ∙ sym (ne_eqb c d (λ e. ne (from e))))
    (cases_eq a b)

past_false : (v k : ℕ) → k ≤ v → nat_lt v k ≡ false
past_false v k h = ⊎_elim (λ (y : nat_lt v k ≡ true). let low = ltb-true v k y in absurd (omega arith)) (λ (f : nat_lt v k ≡ false). f) (cases_Bool (nat_lt v k))

and-false : (b : Bool) → (b && false) ≡ false
and-false true = refl
and-false false = refl

-- ---- the number that a value had

before_below : (m : Merging) (v : ℕ) → v < m.gone.0 → before m v ≡ v
before_below m v low = cond-true (nat_lt v m.gone.0) v (v + 1) (lt-ltb v m.gone.0 low)

before_above : (m : Merging) (v : ℕ) → m.gone.0 ≤ v → before m v ≡ v + 1
before_above m v past = cond-false (nat_lt v m.gone.0) v (v + 1) (past_false v m.gone.0 past)

-- none had that of the one that goes
before_other : (m : Merging) (v : ℕ) → nat_eq (before m v) m.gone.0 ≡ false
before_other m v =
    ne_eqb (before m v) m.gone.0 (λ e.
    ⊎_elim
    (λ (low : v < m.gone.0). let b = before_below m v low in absurd (omega arith))
    (λ (past : m.gone.0 ≤ v). let b = before_above m v past in absurd (omega arith))
    (cases_lt v m.gone.0))

-- ---- the set of one number

-- the set of a number that isn't reached has none
pub one_reached : (s k u v : ℕ) → s ≡ one u → u < k → has s v ≡ (nat_lt v k && nat_eq v u)
one_reached s k u v is low =
    ap (λ t. has t v) is
    ∙ (has-one u v
    ∙ ⊎_elim
    (λ (e : v ≡ u). let under : v < k = omega arith in ap (λ b. b && nat_eq v u) (sym (lt-ltb v k under)))
    (λ (ne : v ≡ u → ⊥). ne_eqb v u ne ∙ sym (ap (λ b. nat_lt v k && b) (ne_eqb v u ne) ∙ and-false (nat_lt v k)))
    (cases_eq v u))

pub none_reached : (s k u v : ℕ) → s ≡ empty → k ≤ u → has s v ≡ (nat_lt v k && nat_eq v u)
none_reached s k u v is past =
    ap (λ t. has t v) is
    ∙ (has-empty v
    ∙ ⊎_elim
    (λ (e : v ≡ u). let over : k ≤ v = omega arith in ap (λ b. b && nat_eq v u) (sym (past_false v k over)))
    (λ (ne : v ≡ u → ⊥). sym (ap (λ b. nat_lt v k && b) (ne_eqb v u ne) ∙ and-false (nat_lt v k)))
    (cases_eq v u))

-- ---- a value that doesn't stay

-- the value that goes has no number
pub moved_none : (m : Merging) (s u v : ℕ) → s ≡ empty → u ≡ m.gone.0 → has s v ≡ (nat_lt v m.left && nat_eq (before m v) u)
moved_none m s u v is same =
    ap (λ t. has t v) is
    ∙ (has-empty v ∙ sym (ap (λ b. nat_lt v m.left && b) (ap (nat_eq (before m v)) same ∙ before_other m v) ∙ and-false (nat_lt v m.left)))

-- ---- the set of one value behind the merge

-- a set behind the merge, at each value
has-behind_merge : (m : Merging) (set v : ℕ) → has (merged_set m set) v ≡ (nat_lt v m.left && merged_has m set v)
has-behind_merge m set v =
    ⊎_elim
    (λ (low : v < m.left). has-merged m set v low ∙ ap (λ b. b && merged_has m set v) (sym (lt-ltb v m.left low)))
    (λ (past : m.left ≤ v). has-merged_past m set v past ∙ ap (λ b. b && merged_has m set v) (sym (past_false v m.left past)))
    (cases_lt v m.left)

-- of a value that stays
pub merged_stays : (m : Merging) (s u : ℕ) → (u ≡ m.gone.0 → ⊥) → ((v : ℕ) → has s v ≡ (nat_lt v m.left && nat_eq (before m v) u)) → s ≡ merged_set m (one u)
merged_stays m s u ne is =
    same_set s (merged_set m (one u)) (λ v.
    is v ∙ sym (has-behind_merge m (one u) v ∙ ap (λ b. nat_lt v m.left && b) (test v)))
  where
    test : (v : ℕ) → merged_has m (one u) v ≡ nat_eq (before m v) u
    test v =
        (λ i. has-one u (before m v) i || (takes_place m.into (before m v) && (has-one u m.gone.0 ∙ ne_eqb m.gone.0 u (λ e. ne (sym e))) i))
        ∙ (ap (λ b. nat_eq (before m v) u || b) (and-false (takes_place m.into (before m v))) ∙ or-false (nat_eq (before m v) u))

-- of the one that goes: none where none takes its place, else that which does
gone-test : (m : Merging) (u v : ℕ) → u ≡ m.gone.0 → merged_has m (one u) v ≡ takes_place m.into (before m v)
gone-test m u v same =
    (λ i. (has-one u (before m v) ∙ (ap (nat_eq (before m v)) same ∙ before_other m v)) i || (takes_place m.into (before m v) && (has-one u m.gone.0 ∙ eq-eqb m.gone.0 u (sym same)) i))
    ∙ and-true_right (takes_place m.into (before m v))
  where
    and-true_right : (b : Bool) → (b && true) ≡ b
    and-true_right true = refl
    and-true_right false = refl

pub merged_gone : (m : Merging) (s u : ℕ) → u ≡ m.gone.0 → m.into ≡ None → s ≡ empty → s ≡ merged_set m (one u)
merged_gone m s u same none is =
    same_set s (merged_set m (one u)) (λ v.
    ap (λ t. has t v) is
    ∙ (has-empty v
    ∙ sym (has-behind_merge m (one u) v
    ∙ (ap (λ b. nat_lt v m.left && b) (gone-test m u v same ∙ ap (λ o. takes_place o (before m v)) none) ∙ and-false (nat_lt v m.left)))))

pub merged_taken : (m : Merging) (into : Value) (s u : ℕ) → u ≡ m.gone.0 → m.into ≡ Some into → ((v : ℕ) → has s v ≡ (nat_lt v m.left && nat_eq (before m v) into.0)) → s ≡ merged_set m (one u)
merged_taken m into s u same some is =
    same_set s (merged_set m (one u)) (λ v.
    is v
    ∙ sym (has-behind_merge m (one u) v
    ∙ ap (λ b. nat_lt v m.left && b)
    (gone-test m u v same
    ∙ (ap (λ o. takes_place o (before m v)) some ∙ same_tests into.0 (before m v) (before m v) into.0 (λ e. sym e) (λ e. sym e)))))

-- ---- the members of a set, one after the other

pub merged_none : (m : Merging) → merged_set m empty ≡ empty
merged_none m =
    same_set (merged_set m empty) empty (λ v.
    has-behind_merge m empty v
    ∙ (ap (λ b. nat_lt v m.left && b)
    ((λ i. has-empty (before m v) i || (takes_place m.into (before m v) && has-empty m.gone.0 i)) ∙ and-false (takes_place m.into (before m v)))
    ∙ (and-false (nat_lt v m.left) ∙ sym (has-empty v))))

-- members of either set, further up
spread : (l t p q r s : Bool) → (l && ((p || q) || (t && (r || s)))) ≡ ((l && (p || (t && r))) || (l && (q || (t && s))))
spread false t p q r s = refl
spread true true true q r s = refl
spread true true false true true s = refl
spread true true false true false s = refl
spread true true false false r s = refl
spread true false true q r s = refl
spread true false false q r s = refl

merged-join : (m : Merging) (a b : ℕ) → merged_set m (join a b) ≡ join (merged_set m a) (merged_set m b)
merged-join m a b =
    same_set (merged_set m (join a b)) (join (merged_set m a) (merged_set m b)) (λ v.
    has-behind_merge m (join a b) v
    ∙ ((λ i. nat_lt v m.left && (has-join a b (before m v) i || (takes_place m.into (before m v) && has-join a b m.gone.0 i)))
    ∙ (spread (nat_lt v m.left) (takes_place m.into (before m v)) (has a (before m v)) (has b (before m v)) (has a m.gone.0) (has b m.gone.0)
    ∙ sym (has-join (merged_set m a) (merged_set m b) v ∙ (λ i. has-behind_merge m a v i || has-behind_merge m b v i)))))

pub join_none : (s : ℕ) → join s empty ≡ s
join_none s = same_set (join s empty) s (λ v. has-join s empty v ∙ (ap (λ b. has s v || b) (has-empty v) ∙ or-false (has s v)))

last_first : (p q r : Bool) → ((p || q) || r) ≡ (p || (r || q))
last_first true q r = refl
last_first false true true = refl
last_first false true false = refl
last_first false false true = refl
last_first false false false = refl

-- one member more is taken out of a set, and what it is behind the merge put to what is there
pub member_more : (m : Merging) (old all rest u made less more : ℕ) → IsTrue (has rest u) → join all (merged_set m rest) ≡ merged_set m old → made ≡ merged_set m (one u) → less ≡ minus rest (one u)
    → more ≡ join all made → join more (merged_set m less) ≡ merged_set m old
member_more m old all rest u made less more there so_far is without put =
    let N = merged_set m (one u) in
    let M = merged_set m (minus rest (one u)) in
    (λ i. join ((put ∙ ap (join all) is) i) (merged_set m (without i)))
    ∙ (same_set (join (join all N) M) (join all (join M N)) (λ v.
    has-join (join all N) M v
    ∙ (ap (λ b. b || has M v) (has-join all N v)
    ∙ (last_first (has all v) (has N v) (has M v) ∙ sym (has-join all (join M N) v ∙ ap (λ b. has all v || b) (has-join M N v)))))
    ∙ (ap (join all) (sym (merged-join m (minus rest (one u)) (one u)) ∙ ap (merged_set m) (join-minus rest u there)) ∙ so_far))
