-- What is counted over nets: of more of them, of fewer, and where one stands in the place of another.
use Rattle.std.proofs.Common.{◌≡◌, ◌∙◌, ℕ, zero, suc, ◌+◌, ◌-◌, ◌*◌, ◌^◌, ◌<◌, ◌≤◌, List, [], ◌∷◌, ◌++◌, length, map, get_or, set, take, drop, Option, None, refl, sym, ap, subst, ⊎_elim, arith}
use Rattle.std.specs.List.{sum_by}
use Rattle.std.proofs.lemmas.Bool.{cases_eq, cases_lt}
use Rattle.std.proofs.lemmas.List.Recursion.{is_sum_by}
use Rattle.std.proofs.lemmas.List.{map-append, map-set, length-take, take-append-drop, get_or-set_same, get_or-set_other, get_or_past, get_or_append_left, get_or-append_right, get_or-take, get_or_default, take-map, take_rest}
use Rattle.mv_net.specs.declared.parts.FlatNet.{FlatNet}
use Rattle.mv_net.specs.declared.tallies.Tallies.{Tallies}
use Rattle.mv_net.specs.Nets.{slot, values_in, table_in, table_literals, literals_in}
use Rattle.mv_net.specs.Tallies.{AreTallies}

-- the literals of a net
abbrev pub weight : Option FlatNet → ℕ
weight f = table_literals (table_in f)

-- each net has no more literals than memory holds
pub record AreFew (nets : List (Option FlatNet)) : Type 0 where
  pub each : (n : ℕ) → weight (slot nets n) ≤ 2 ^ 96

-- ---- sums

pub literals_in-sum : (nets : List (Option FlatNet)) → literals_in nets ≡ sum_by (λ (f : Option FlatNet). table_literals (table_in f)) nets
literals_in-sum = is_sum_by literals_in (λ (f : Option FlatNet). table_literals (table_in f)) refl (λ _ _. refl)

pub literals-append : (xs ys : List (Option FlatNet)) → literals_in (xs ++ ys) ≡ literals_in xs + literals_in ys
literals-append [] ys = omega arith
literals-append (x ∷ xs) ys = omega (arith, literals-append xs ys)

pub literals-set : (nets : List (Option FlatNet)) (n : ℕ) (f : Option FlatNet) → n < length nets → literals_in (set nets n f) + weight (slot nets n) ≡ literals_in nets + weight f
literals-set [] n f low = absurd (omega arith)
literals-set (x ∷ xs) zero f low = omega arith
literals-set (x ∷ xs) (suc n) f low = omega (arith, literals-set xs n f (omega arith))

pub literals-most : (nets : List (Option FlatNet)) → AreFew nets → literals_in nets ≤ 2 ^ 96 * length nets
literals-most [] few = omega arith
literals-most (x ∷ xs) few = omega (arith, few.each 0, literals-most xs (record { each = λ n. few.each (suc n) }))

pub weight-within : (nets : List (Option FlatNet)) (n : ℕ) → n < length nets → weight (slot nets n) ≤ literals_in nets
weight-within [] n low = absurd (omega arith)
weight-within (x ∷ xs) zero low = omega arith
weight-within (x ∷ xs) (suc n) low = omega (arith, weight-within xs n (omega arith))

-- ---- each net's literals, one after the other

pub few_next : (nets : List (Option FlatNet)) (k : ℕ) (x : Option FlatNet) → x ≡ get_or nets k x → k < length nets → weight x ≤ 2 ^ 96 → ((n : ℕ) → n < k → weight (slot nets n) ≤ 2 ^ 96) → (n : ℕ) → n < k + 1 → weight (slot nets n) ≤ 2 ^ 96
few_next nets k x is low small few n lt =
    ⊎_elim
    (λ (l : n < k). few n l)
    (λ (g : k ≤ n).
    let same : n ≡ k = omega arith in
    let P : ℕ → Type 0 = λ j. weight (slot nets j) ≤ 2 ^ 96 in
    subst P (sym same) (subst (λ (f : Option FlatNet). weight f ≤ 2 ^ 96) (is ∙ get_or_default nets k x None low) small))
    (cases_lt n k)

pub few_all : (nets : List (Option FlatNet)) (k : ℕ) → length nets ≤ k → ((n : ℕ) → n < k → weight (slot nets n) ≤ 2 ^ 96) → (n : ℕ) → weight (slot nets n) ≤ 2 ^ 96
few_all nets k all few n =
    ⊎_elim
    (λ (l : n < k). few n l)
    (λ (g : k ≤ n). subst (λ (f : Option FlatNet). weight f ≤ 2 ^ 96) (sym (get_or_past nets n None (omega arith))) (omega arith))
    (cases_lt n k)

-- ---- one net in the place of another

few_set : (nets : List (Option FlatNet)) (n : ℕ) (f : Option FlatNet) → n < length nets → weight f ≤ 2 ^ 96 → AreFew nets → (m : ℕ) → weight (slot (set nets n f) m) ≤ 2 ^ 96
few_set nets n f low small few m =
    ⊎_elim
    (λ (y : m ≡ n).
    let P : ℕ → Type 0 = λ k. weight (slot (set nets n f) k) ≤ 2 ^ 96 in
    subst P (sym y) (subst (λ (g : Option FlatNet). weight g ≤ 2 ^ 96) (sym (get_or-set_same nets n f None low)) small))
    (λ (ne : m ≡ n → ⊥). subst (λ (g : Option FlatNet). weight g ≤ 2 ^ 96) (sym (get_or-set_other nets n m f None ne)) (few.each m))
    (cases_eq m n)

pub AreTallies-set : (nets : List (Option FlatNet)) (n : ℕ) (f : Option FlatNet) (old new : Tallies) → n < length nets → weight f ≤ 2 ^ 96 → AreTallies nets old → new.counts ≡ set old.counts n (values_in f) → new.literals + weight (slot nets n) ≡ old.literals + weight f → AreTallies (set nets n f) new
AreTallies-set nets n f old new low small are counts literals = record {
  counts = counts ∙ (ap (λ ks. set ks n (values_in f)) are.counts ∙ sym (map-set values_in nets n f));
  literals = omega (arith, literals-set nets n f low, are.literals);
  few = few_set nets n f low small (record { each = are.few });
}

-- ---- more nets, and fewer

few_both : (xs ys : List (Option FlatNet)) → AreFew xs → AreFew ys → (n : ℕ) → weight (slot (xs ++ ys) n) ≤ 2 ^ 96
few_both xs ys few more n =
    ⊎_elim
    (λ (l : n < length xs). subst (λ (g : Option FlatNet). weight g ≤ 2 ^ 96) (sym (get_or_append_left xs ys None n l)) (few.each n))
    (λ (g : length xs ≤ n). subst (λ (h : Option FlatNet). weight h ≤ 2 ^ 96) (sym (get_or-append_right xs ys (length xs) n None refl g)) (more.each (n - length xs)))
    (cases_lt n (length xs))

-- the nets from k on came
pub AreTallies-more : (nets : List (Option FlatNet)) (k : ℕ) (old new : Tallies) → AreTallies (take k nets) old → AreFew (drop k nets) → new.counts ≡ old.counts ++ map values_in (drop k nets) → new.literals ≡ old.literals + literals_in (drop k nets) → AreTallies nets new
AreTallies-more nets k old new are few counts literals =
    let P : List (Option FlatNet) → Type 0 = λ ns. AreTallies ns new in
    subst P (take-append-drop k nets) (record {
      counts = counts ∙ (ap (λ ks. ks ++ map values_in (drop k nets)) are.counts ∙ sym (map-append values_in (take k nets) (drop k nets)));
      literals = literals ∙ (ap (λ n. n + literals_in (drop k nets)) are.literals ∙ sym (literals-append (take k nets) (drop k nets)));
      few = few_both (take k nets) (drop k nets) (record { each = are.few }) few;
    })

-- the same, as the nets from k on are read
pub tallies_more : (nets : List (Option FlatNet)) (k : ℕ) (old : Tallies) (counts : List ℕ) (sum : ℕ) → AreTallies (take k nets) old → ((n : ℕ) → weight (slot (take (length nets - k) (drop k nets)) n) ≤ 2 ^ 96)
    → counts ≡ old.counts ++ map values_in (take (length nets - k) (drop k nets)) → sum ≡ literals_in (take (length nets - k) (drop k nets)) → AreTallies nets (record { counts = counts; literals = old.literals + sum })
tallies_more nets k old counts sum are few c l =
    let new : Tallies = record { counts = counts; literals = old.literals + sum } in
    let rest = take_rest nets k in
    AreTallies-more nets k old new are
    (record { each = λ n. subst (λ (ns : List (Option FlatNet)). weight (slot ns n) ≤ 2 ^ 96) rest (few n) })
    (c ∙ ap (λ ns. old.counts ++ map values_in ns) rest)
    (ap (λ n. old.literals + n) (l ∙ ap literals_in rest))

-- and went again
few_take : (nets : List (Option FlatNet)) (k n : ℕ) → AreFew nets → weight (slot (take k nets) n) ≤ 2 ^ 96
few_take nets k n few =
    ⊎_elim
    (λ (l : n < k). subst (λ (g : Option FlatNet). weight g ≤ 2 ^ 96) (sym (get_or-take k nets n None l)) (few.each n))
    (λ (g : k ≤ n). subst (λ (h : Option FlatNet). weight h ≤ 2 ^ 96) (sym (get_or_past (take k nets) n None (omega (arith, length-take k nets)))) (omega arith))
    (cases_lt n k)

-- the literals are those of the first nets and of the others
pub literals-parts : (nets : List (Option FlatNet)) (k : ℕ) → literals_in nets ≡ literals_in (take k nets) + literals_in (drop k nets)
literals-parts nets k = ap literals_in (sym (take-append-drop k nets)) ∙ literals-append (take k nets) (drop k nets)

pub AreTallies-fewer : (nets : List (Option FlatNet)) (k : ℕ) (old new : Tallies) → k ≤ length nets → AreTallies nets old → new.counts ≡ take k old.counts → new.literals + literals_in (drop k nets) ≡ old.literals → AreTallies (take k nets) new
AreTallies-fewer nets k old new within are counts literals =
    record {
      counts = counts ∙ (ap (take k) are.counts ∙ take-map values_in k nets);
      literals = omega (arith, literals-parts nets k, are.literals);
      few = λ n. few_take nets k n (record { each = are.few });
    }
