-- Ascending lists of nets with exactly the numbers that pass a test, all below a count.
use Rattle.std.proofs.Common.{◌≡◌, ◌∙◌, ℕ, zero, suc, ◌+◌, ◌<◌, Bool, true, false, ◌&&◌, cond, nat_lt, List, [], ◌∷◌, ◌++◌, map, filter, refl, sym, ap, subst, ⊎_elim, add-one, arith}
use Rattle.std.specs.List.{range_with_len}
use Rattle.std.proofs.lemmas.Bool.{cases_Bool, lt-ltb, le-ltb}
use Rattle.std.proofs.lemmas.List.{append-nil}
use Rattle.std.proofs.lemmas.List.FromFn.{filter_of_map_range_with_len_more}
use Rattle.mv_base.specs.declared.number.NetId.{NetId}
use Rattle.mv_graph.specs.Nets.{IsAscending}
use Rattle.mv_graph.proofs.Nets.{IsAscending-push, IsAscending-skip, IsAscending-same, IsAscending-none, IsAscending-unique}
use Rattle.mv_text.specs.Text.{numbers}

abbrev id_of : ℕ → NetId
id_of n = record { 0 = n }

-- the nets below the count whose numbers pass
abbrev ids_below : (ℕ → Bool) → ℕ → List NetId
ids_below t n = filter (λ (m : NetId). t m.0) (map id_of (range_with_len 0 n))

one_more : (t : ℕ → Bool) (n : ℕ) → IsAscending (λ m. nat_lt m n && t m) (ids_below t n) → IsAscending (λ m. nat_lt m (n + 1) && t m) (ids_below t (n + 1))
one_more t n a =
    let e : ids_below t (n + 1) ≡ ids_below t n ++ cond (t n) (id_of n ∷ []) [] = filter_of_map_range_with_len_more (λ (m : NetId). t m.0) id_of 0 n n (omega arith) in
    let P : List NetId → Type 0 = λ l. IsAscending (λ m. nat_lt m (n + 1) && t m) l in
    ⊎_elim
    (λ (y : t n ≡ true). subst P (sym (e ∙ ap (λ b. ids_below t n ++ cond b (id_of n ∷ []) []) y)) (IsAscending-push t (id_of n) (ids_below t n) a y))
    (λ (f : t n ≡ false). subst P (sym (e ∙ (ap (λ b. ids_below t n ++ cond b (id_of n ∷ []) []) f ∙ append-nil (ids_below t n)))) (IsAscending-skip t n (ids_below t n) a f))
    (cases_Bool (t n))

below : (t : ℕ → Bool) (n : ℕ) → IsAscending (λ m. nat_lt m n && t m) (ids_below t n)
below t zero = IsAscending-none (λ m. nat_lt m 0 && t m) (λ m. ap (λ b. b && t m) (le-ltb m 0 (omega arith)))
below t (suc n) =
    let P : ℕ → Type 0 = λ k. IsAscending (λ m. nat_lt m k && t m) (ids_below t k) in
    subst P (add-one n) (one_more t n (below t n))

numbers_kept : (t : ℕ → Bool) (xs : List ℕ) → numbers (filter (λ (m : NetId). t m.0) (map id_of xs)) ≡ filter t xs
numbers_kept t [] = refl
numbers_kept t (x ∷ xs) =
    ⊎_elim
    (λ (y : t x ≡ true). rw y (ap (λ l. x ∷ l) (numbers_kept t xs)))
    (λ (f : t x ≡ false). rw f (numbers_kept t xs))
    (cases_Bool (t x))

within : (b c : Bool) → (c ≡ true → b ≡ true) → c ≡ (b && c)
within true c h = refl
within false true h = sym (h refl)
within false false h = refl

-- such a list is the numbers below the count that pass
pub numbers-ascending : (t : ℕ → Bool) (count : ℕ) (list : List NetId) → IsAscending t list → ((m : ℕ) → t m ≡ true → m < count) → numbers list ≡ filter t (range_with_len 0 count)
numbers-ascending t count list a low =
    let test : ℕ → Bool = λ m. nat_lt m count && t m in
    let same : (m : ℕ) → t m ≡ test m = λ m. within (nat_lt m count) (t m) (λ e. lt-ltb m count (low m e)) in
    ap numbers (IsAscending-unique test list (ids_below t count) (IsAscending-same t test list same a) (below t count)) ∙ numbers_kept t (range_with_len 0 count)
