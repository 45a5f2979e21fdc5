-- Fresh names, one behind the other: no two are equal, and each may be that of a new net.
use Rattle.std.proofs.Common.{◌≡◌, ◌∙◌, ℕ, zero, suc, ◌+◌, ◌-◌, ◌<◌, ◌≤◌, ◌^◌, Bool, true, false, not, cond, ◌||◌, List, [], ◌∷◌, ◌++◌, length, All, Option, count_by, refl, sym, ap, subst, ⊎_elim, arith}
use Rattle.std.specs.List.{list_any, range_with_len}
use Rattle.std.proofs.lemmas.Bool.{and_from, cases_lt, false_from_ne_true, false≢true}
use Rattle.std.proofs.lemmas.List.{length-append}
use Rattle.std.proofs.lemmas.List.Elements.{All-nil, All-push}
use Rattle.std.proofs.lemmas.List.Sums.{sum_by-append}
use Rattle.mv_base.specs.declared.limits.TheConstants.{MAX_NETS, MAX_WORD_BYTES}
use Rattle.mv_base.specs.Names.{among, is_net_name, names_differ, same_word}
use Rattle.mv_base.proofs.NameLemmas.{same_word_is}
use Rattle.mv_net.specs.declared.parts.FlatNet.{FlatNet}
use Rattle.mv_net.specs.Fresh.{IsFreshName, is_named, is_taken}
use Rattle.mv_net.proofs.FreshNames.{made_injective, named_any, never_ends}
use Rattle.mv_plans.specs.Checks.{AreNewNames, IsNewName}
use Rattle.mv_encode.specs.Encodes.{AreFreshFrom}
use Rattle.mv_encode.specs.Encoding.{AreFirst}

-- ---- the numbers of fresh names are small

count-cons : (p : ℕ → Bool) (x : ℕ) (xs : List ℕ) → count_by p (x ∷ xs) ≡ cond {A = ℕ} (p x) 1 0 + count_by p xs
count-cons p x xs = let e = sum_by-append (λ y. cond {A = ℕ} (p y) 1 0) (x ∷ []) xs in omega (arith, e)

-- of more numbers no fewer are free
count_more : (p : ℕ → Bool) (a n m : ℕ) → n ≤ m → count_by p (range_with_len a n) ≤ count_by p (range_with_len a m)
count_more p a zero m low = omega arith
count_more p a (suc n) zero low = absurd (omega (arith, low))
count_more p a (suc n) (suc m) low =
    let rest = count_more p (a + 1) n m (omega (arith, low)) in
    let few = count-cons p a (range_with_len (a + 1) n) in
    let many = count-cons p a (range_with_len (a + 1) m) in
    omega (arith, rest, few, many)

not_above : (nets : List (Option FlatNet)) (skip top number : ℕ) → length nets ≤ MAX_NETS → skip < 2 ^ 32 → top < 2 ^ 64 → 2 ^ 64 - 1 ≤ top → top ≤ number
    → count_by (λ k. not (is_taken nets k)) (range_with_len 1 (number - 1)) ≡ skip → ⊥
not_above nets skip top number few small low high above behind =
    let free : ℕ → Bool = λ k. not (is_taken nets k) in
    let fewer : count_by free (range_with_len 1 (top - 1)) ≤ count_by free (range_with_len 1 (number - 1)) = count_more free 1 (top - 1) (number - 1) (omega (arith, above)) in
    never_ends nets skip (skip - count_by free (range_with_len 1 (top - 1))) top few small low high (omega (arith, fewer, behind))

fresh_low : (nets : List (Option FlatNet)) (skip : ℕ) (name : List ℕ) → length nets ≤ MAX_NETS → skip < 2 ^ 32 → (f : IsFreshName nets skip name) → f.number < 2 ^ 64
fresh_low nets skip name few small f =
    ⊎_elim
    (λ (low : f.number < 2 ^ 64). low)
    (λ (high : 2 ^ 64 ≤ f.number). absurd (not_above nets skip (2 ^ 64 - 1) f.number few small (omega arith) (omega arith) (omega (arith, high)) f.behind))
    (cases_lt f.number (2 ^ 64))

-- ---- no two are equal

module _ (nets : List (Option FlatNet)) (few : length nets ≤ MAX_NETS) where
  -- a name is fresh behind one number of others
  one_place : (i j : ℕ) (w : List ℕ) → i < 2 ^ 32 → j < 2 ^ 32 → IsFreshName nets i w → IsFreshName nets j w → i ≡ j
  one_place i j w small low f g =
      let e : f.number ≡ g.number = made_injective f.number g.number (fresh_low nets i w few small f) (fresh_low nets j w few low g) (sym f.free.is ∙ g.free.is) in
      sym f.behind ∙ (ap (λ k. count_by (λ m. not (is_taken nets m)) (range_with_len 1 (k - 1))) e ∙ g.behind)

  not_among : (i j : ℕ) (w : List ℕ) (ws : List (List ℕ)) → i < j → j + length ws ≤ 2 ^ 32 → IsFreshName nets i w → AreFreshFrom nets j ws → among w ws ≡ false
  not_among i j w [] less fits f all = refl
  not_among i j w (v ∷ vs) less fits f all =
      let here : same_word w v ≡ false =
      false_from_ne_true _ (λ e.
      let same = one_place i j w (omega (arith, less, fits)) (omega (arith, fits)) f (subst (IsFreshName nets j) (sym (same_word_is w v e)) all.0) in
      omega (arith, same, less)) in
      ap (λ b. b || among w vs) here ∙ not_among i (j + 1) w vs (omega (arith, less)) (omega (arith, fits)) f all.1

  differ_from : (skip : ℕ) (ws : List (List ℕ)) → skip + length ws ≤ 2 ^ 32 → AreFreshFrom nets skip ws → names_differ ws ≡ true
  differ_from skip [] fits all = refl
  differ_from skip (w ∷ ws) fits all =
      and_from _ _ (ap not (not_among skip (skip + 1) w ws (omega arith) (omega (arith, fits)) all.0 all.1)) (differ_from (skip + 1) ws (omega (arith, fits)) all.1)

  pub are_new : (names : List (List ℕ)) → length names ≤ 2 ^ 32 → AreFreshFrom nets 0 names → All (IsNewName nets) names → AreNewNames nets names
  are_new names fits fresh each = record { each = each; differ = differ_from 0 names (omega (arith, fits)) fresh }

-- ---- one name more

fresh_more : (nets : List (Option FlatNet)) (skip : ℕ) (ws : List (List ℕ)) (w : List ℕ) → AreFreshFrom nets skip ws → IsFreshName nets (skip + length ws) w → AreFreshFrom nets skip (ws ++ w ∷ [])
fresh_more nets skip [] w all f = let e : skip + 0 ≡ skip = omega arith in (subst (λ k. IsFreshName nets k w) e f, tt)
fresh_more nets skip (v ∷ vs) w all f =
    let e : skip + suc (length vs) ≡ skip + 1 + length vs = omega arith in
    (all.0, fresh_more nets (skip + 1) vs w all.1 (subst (λ k. IsFreshName nets k w) e f))

pub first_none : (nets : List (Option FlatNet)) (names : List (List ℕ)) → names ≡ [] → AreFirst nets 0 names
first_none nets names none = subst (AreFirst nets 0) (sym none) (record { long = refl; fresh = tt; each = All-nil (IsNewName nets) })

pub first_more : (nets : List (Option FlatNet)) (skip : ℕ) (names now : List (List ℕ)) (w : List ℕ) → IsFreshName nets skip w → is_net_name w ≡ true → length w ≤ MAX_WORD_BYTES → now ≡ names ++ w ∷ [] → AreFirst nets skip names
    → AreFirst nets (skip + 1) now
first_more nets skip names now w fresh lawful short more first =
    let long = length-append names (w ∷ []) in
    let e : 0 + length names ≡ skip = omega (arith, first.long) in
    subst (AreFirst nets (skip + 1)) (sym more)
    (record {
      long = omega (arith, long, first.long);
      fresh = fresh_more nets 0 names w first.fresh (subst (λ k. IsFreshName nets k w) (sym e) fresh);
      each = All-push (IsNewName nets) names w first.each new;
    })
  where
    new : IsNewName nets w
    new = record {
      lawful = lawful;
      short = short;
      free = λ n named. false≢true (sym fresh.free.free ∙ (ap (λ v. list_any (is_named v) nets) (sym fresh.free.is) ∙ named_any nets n w named));
    }
