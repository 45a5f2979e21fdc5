-- Marks that come and go.
use Rattle.std.proofs.Common.{◌≡◌, ◌∙◌, ℕ, ◌+◌, ◌<◌, Bool, true, false, ◌&&◌, ◌||◌, nat_eq, List, length, get_or, set, take, refl, sym, ap, subst, ⊎_elim, eq-eqb, get_or-set_same, get_or-set_other}
use Rattle.std.proofs.Math.Bool.{or-false, and-false}
use Rattle.std.proofs.lemmas.Bool.{cases_eq, and_from, or_right, false≢true, ne_eqb}
use Rattle.mv_base.specs.declared.number.NetId.{NetId}
use Rattle.mv_graph.specs.Nets.{has_id}
use Rattle.mv_graph.proofs.Nets.{has_id-more}
use Rattle.mv_solve.specs.Marks.{is_marked}

-- one mark more
pub marked_more : (marks : List Bool) (n m : ℕ) → n < length marks → is_marked (set marks n true) m ≡ (is_marked marks m || nat_eq n m)
marked_more marks n m lt =
    ⊎_elim
    (λ (e : m ≡ n).
    let P : ℕ → Type 0 = λ k. is_marked (set marks n true) k ≡ (is_marked marks k || nat_eq n k) in
    subst P (sym e) (get_or-set_same marks n true false lt ∙ sym (or_right (is_marked marks n) (nat_eq n n) (eq-eqb n n refl))))
    (λ (ne : m ≡ n → ⊥). get_or-set_other marks n m true false ne ∙ sym (ap (λ b. is_marked marks m || b) (ne_eqb n m (λ e. ne (sym e))) ∙ or-false (is_marked marks m)))
    (cases_eq m n)

-- marks of those nets so far that pass a test, and of one more
regroup : (a b c d : Bool) → ((a || (b && d)) || (c && d)) ≡ (a || ((b || c) && d))
regroup true b c d = refl
regroup false true c true = refl
regroup false true true false = refl
regroup false true false false = refl
regroup false false c d = refl

passes_too : (test : ℕ → Bool) (n m : ℕ) → test n ≡ true → nat_eq n m ≡ (nat_eq n m && test m)
passes_too test n m e =
    ⊎_elim
    (λ (here : n ≡ m).
    let yes : test m ≡ true = ap test (sym here) ∙ e in
    let same = eq-eqb n m here in
    same ∙ sym (and_from (nat_eq n m) (test m) same yes))
    (λ (ne : n ≡ m → ⊥). let off = ne_eqb n m ne in off ∙ sym (ap (λ b. b && test m) off))
    (cases_eq n m)

fails_too : (test : ℕ → Bool) (n m : ℕ) → test n ≡ false → (nat_eq n m && test m) ≡ false
fails_too test n m e =
    ⊎_elim
    (λ (here : n ≡ m). ap (λ b. nat_eq n m && b) (ap test (sym here) ∙ e) ∙ and-false (nat_eq n m))
    (λ (ne : n ≡ m → ⊥). ap (λ b. b && test m) (ne_eqb n m ne))
    (cases_eq n m)

pub all_marked : (test : ℕ → Bool) (first marks : List Bool) (nets : List NetId) (i : ℕ) (n none : NetId) (m : ℕ) → i < length nets → n ≡ get_or nets i none → n.0 < length marks → test n.0 ≡ true → is_marked marks m ≡ (is_marked first m || (has_id (take i nets) m && test m)) → is_marked (set marks n.0 true) m ≡ (is_marked first m || (has_id (take (i + 1) nets) m && test m))
all_marked test first marks nets i n none m lt is low passes was =
    marked_more marks n.0 m low ∙ ((λ j. was j || passes_too test n.0 m passes j) ∙ (regroup (is_marked first m) (has_id (take i nets) m) (nat_eq n.0 m) (test m) ∙ ap (λ b. is_marked first m || (b && test m)) (sym (has_id-more nets i n none m lt is))))

pub all_passed : (test : ℕ → Bool) (first marks : List Bool) (nets : List NetId) (i : ℕ) (n none : NetId) (m : ℕ) → i < length nets → n ≡ get_or nets i none → test n.0 ≡ false → is_marked marks m ≡ (is_marked first m || (has_id (take i nets) m && test m)) → is_marked marks m ≡ (is_marked first m || (has_id (take (i + 1) nets) m && test m))
all_passed test first marks nets i n none m lt is fails was =
    was ∙ (sym (or-false (is_marked first m || (has_id (take i nets) m && test m))) ∙ (ap (λ b. (is_marked first m || (has_id (take i nets) m && test m)) || b) (sym (fails_too test n.0 m fails)) ∙ (regroup (is_marked first m) (has_id (take i nets) m) (nat_eq n.0 m) (test m) ∙ ap (λ b. is_marked first m || (b && test m)) (sym (has_id-more nets i n none m lt is)))))

-- a mark taken away
pub unmarked : (marks : List Bool) (n m : ℕ) → n < length marks → is_marked (set marks n false) m ≡ true → (m ≡ n → ⊥) × (is_marked marks m ≡ true)
unmarked marks n m lt h =
    ⊎_elim
    (λ (e : m ≡ n). absurd (false≢true (sym (ap (is_marked (set marks n false)) e ∙ get_or-set_same marks n false false lt) ∙ h)))
    (λ (ne : m ≡ n → ⊥). (ne, sym (get_or-set_other marks n m false false ne) ∙ h))
    (cases_eq m n)
