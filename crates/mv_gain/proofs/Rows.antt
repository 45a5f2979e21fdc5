-- What is kept of pairs where a row of them changes.
use Rattle.std.proofs.Common.{◌≡◌, ◌∙◌, ◌⊎◌, ℕ, zero, suc, ◌<◌, ◌≤◌, true, false, cond, nat_eq, nat_cmp, Option, Some, None, List, [], ◌∷◌, length, get_or, set, is_some}
use Rattle.std.proofs.Common.{◌+◌, ◌++◌, All, inl, inr, refl, sym, ap, subst, ⊎_elim, eqb-true, eq-eqb, arith}
use Rattle.std.specs.Prelude.{slice_get}
use Rattle.std.specs.BTreeMap.{BTreeMap, is_at, get, Updates}
use Rattle.std.specs.Map.{lookup}
use Rattle.std.proofs.lemmas.Bool.{cases_Bool, cases_eq, false≢true}
use Rattle.std.proofs.lemmas.List.{length-append, length-set}
use Rattle.std.proofs.lemmas.List.Elements.{All-get_or, All-push, All-same}
use Rattle.std.proofs.lemmas.Option.{same_Some, get_or_from_slice_get, slice_get_past, slice_get_read, slice_get_within}
use Rattle.mv_net.specs.declared.parts.FlatNet.{FlatNet}
use Rattle.mv_gain.specs.declared.kept.KeptComposites.{KeptComposites}
use Rattle.mv_gain.specs.declared.row.Pair.{Pair}
use Rattle.mv_gain.specs.declared.row.Row.{Row}
use Rattle.mv_gain.specs.Kept.{AreRight}
use Rattle.mv_gain.specs.Pairs.{in_row, kept_at, AreSummed, IsPart, KeepsMore, Stays, LacksNet, HasComing}
use Rattle.mv_gain.specs.Sums.{IsSummed, HasSame}
use Rattle.mv_gain.proofs.Summed.{same_summed}

-- ---- lists of rows

slice_get-set_same : {X : Type 0} (xs : List X) (i : ℕ) (y : X) → i < length xs → slice_get (set xs i y) i ≡ Some y
slice_get-set_same [] i y low = absurd (omega (arith, low))
slice_get-set_same (x ∷ xs) zero y low = refl
slice_get-set_same (x ∷ xs) (suc i) y low = slice_get-set_same xs i y (omega (arith, low))

slice_get-set_other : {X : Type 0} (xs : List X) (i j : ℕ) (y : X) → (j ≡ i → ⊥) → slice_get (set xs i y) j ≡ slice_get xs j
slice_get-set_other [] i j y apart = refl
slice_get-set_other (x ∷ xs) zero zero y apart = absurd (apart refl)
slice_get-set_other (x ∷ xs) zero (suc j) y apart = refl
slice_get-set_other (x ∷ xs) (suc i) zero y apart = refl
slice_get-set_other (x ∷ xs) (suc i) (suc j) y apart = slice_get-set_other xs i j y (λ e. apart (ap suc e))

-- ---- one row

same_at : (n m : ℕ) → is_at (nat_cmp n) m ≡ nat_eq n m
same_at n m = grind (arith)

-- an empty row has nothing
pub nothing_at : (row : BTreeMap ℕ Pair) (m : ℕ) → row.entries ≡ [] → get nat_cmp row m ≡ None
nothing_at row m empty = ap (λ es. lookup (is_at (nat_cmp m)) es) empty

-- what is there behind a change was there before, or it is what was put
row_cases : (old new : BTreeMap ℕ Pair) (m k : ℕ) (it : Option Pair) → Updates nat_cmp old new m it
    → ((k ≡ m → ⊥) × (get nat_cmp new k ≡ get nat_cmp old k)) ⊎ ((k ≡ m) × (get nat_cmp new k ≡ it))
row_cases old new m k it u =
    ⊎_elim
    (λ (here : is_at (nat_cmp m) k ≡ true). inr (sym (eqb-true m k (sym (same_at m k) ∙ here)), u.0 k ∙ ap (λ b. cond b it (get nat_cmp old k)) here))
    (λ (other : is_at (nat_cmp m) k ≡ false).
    inl (λ e. false≢true (sym other ∙ (same_at m k ∙ (ap (nat_eq m) e ∙ eq-eqb m m refl))), u.0 k ∙ ap (λ b. cond b it (get nat_cmp old k)) other))
    (cases_Bool (is_at (nat_cmp m) k))

-- ---- a row among the others

-- the row of n is another now
pub record WritesRow (old new : KeptComposites) (n : ℕ) (was now : Row) : Type 0 where
  pub low : n < length old.nets.items
  pub before : slice_get old.nets.items n ≡ Some was
  pub here : slice_get new.nets.items n ≡ Some now
  pub others : (j : ℕ) → (j ≡ n → ⊥) → slice_get new.nets.items j ≡ slice_get old.nets.items j
  pub long : length new.nets.items ≡ length old.nets.items

-- the place, what stood there, and that all else is as it was
pub writes_row : (old new : KeptComposites) (n : ℕ) (was now : Row) → n < length old.nets.items → was ≡ get_or old.nets.items n was
    → new.nets.items ≡ set old.nets.items n now → WritesRow old new n was now
writes_row old new n was now low is new_is = record {
  low = low;
  before = slice_get_read old.nets.items (length old.nets.items) n was refl low is;
  here = ap (λ l. slice_get l n) new_is ∙ slice_get-set_same old.nets.items n now low;
  others = λ j apart. ap (λ l. slice_get l j) new_is ∙ slice_get-set_other old.nets.items n j now apart;
  long = ap length new_is ∙ length-set old.nets.items n now;
}

module _ (old new : KeptComposites) (n : ℕ) (was now : Row) (w : WritesRow old new n was now) where
  -- what is kept of n is what the row has
  pub kept_here : (k : ℕ) → kept_at new n k ≡ get nat_cmp now.pairs k
  unfolding kept_at
  kept_here k = ap (λ r. in_row r k) w.here

  pub kept_before : (k : ℕ) → kept_at old n k ≡ get nat_cmp was.pairs k
  unfolding kept_at
  kept_before k = ap (λ r. in_row r k) w.before

  kept_others : (j k : ℕ) → (j ≡ n → ⊥) → kept_at new j k ≡ kept_at old j k
  unfolding kept_at
  kept_others j k apart = ap (λ r. in_row r k) (w.others j apart)

  -- each row that is summed stays so
  pub summed_still : IsSummed now → AreSummed old → AreSummed new
  summed_still sum all = record {
    each = λ j row h.
        ⊎_elim
        (λ (e : j ≡ n). subst IsSummed (same_Some now row (sym w.here ∙ (ap (slice_get new.nets.items) (sym e) ∙ h))) sum)
        (λ (apart : j ≡ n → ⊥). all.each j row (sym (w.others j apart) ∙ h))
        (cases_eq j n);
  }

  -- where one place of the row changed, what is kept was kept, or it is what was put there
  pub kept_cases : (m : ℕ) (it : Option Pair) → Updates nat_cmp was.pairs now.pairs m it → (j k : ℕ) (x : Pair) → kept_at new j k ≡ Some x
      → (kept_at old j k ≡ Some x) ⊎ ((j ≡ n) × ((k ≡ m) × (it ≡ Some x)))
  kept_cases m it u j k x h =
      ⊎_elim
      (λ (e : j ≡ n).
      let have : get nat_cmp now.pairs k ≡ Some x = sym (kept_here k) ∙ (ap (λ i. kept_at new i k) (sym e) ∙ h) in
      ⊎_elim
      (λ (same : (k ≡ m → ⊥) × (get nat_cmp now.pairs k ≡ get nat_cmp was.pairs k)). inl (ap (λ i. kept_at old i k) e ∙ (kept_before k ∙ (sym same.1 ∙ have))))
      (λ (put : (k ≡ m) × (get nat_cmp now.pairs k ≡ it)). inr (e, (put.0, sym put.1 ∙ have)))
      (row_cases was.pairs now.pairs m k it u))
      (λ (apart : j ≡ n → ⊥). inl (sym (kept_others j k apart) ∙ h))
      (cases_eq j n)

  -- where nothing was at that place, what was kept is kept
  pub row_more : (m : ℕ) (it : Pair) → Updates nat_cmp was.pairs now.pairs m (Some it) → kept_at old n m ≡ None → KeepsMore old new
  row_more m it u none = record {
    each = λ j k x h.
        ⊎_elim
        (λ (e : j ≡ n).
        let have : kept_at old n k ≡ Some x = ap (λ i. kept_at old i k) (sym e) ∙ h in
        ⊎_elim
        (λ (same : (k ≡ m → ⊥) × (get nat_cmp now.pairs k ≡ get nat_cmp was.pairs k)).
        ap (λ i. kept_at new i k) e ∙ (kept_here k ∙ (same.1 ∙ (sym (kept_before k) ∙ have))))
        (λ (put : (k ≡ m) × (get nat_cmp now.pairs k ≡ Some it)). absurd (false≢true (ap is_some (sym none ∙ (ap (kept_at old n) (sym put.0) ∙ have)))))
        (row_cases was.pairs now.pairs m k (Some it) u))
        (λ (apart : j ≡ n → ⊥). kept_others j k apart ∙ h)
        (cases_eq j n);
  }

  pub row_has : (m : ℕ) (it : Pair) → Updates nat_cmp was.pairs now.pairs m (Some it) → HasComing new n m it.coming
  row_has m it u = record { pair = it; has = kept_here m ∙ u.1; coming_is = refl }

  pub row_part : (m : ℕ) → Updates nat_cmp was.pairs now.pairs m None → (AreSummed old → IsSummed now) → IsPart old new
  row_part m u sum = record {
    each = λ j k x h.
        ⊎_elim
        (λ (before : kept_at old j k ≡ Some x). before)
        (λ (here : (j ≡ n) × ((k ≡ m) × (None ≡ Some x))). absurd (false≢true (ap is_some here.1.1)))
        (kept_cases m None u j k x h);
    summed = λ all. summed_still (sum all) all;
    long = w.long;
  }

  pub row_gone : (m : ℕ) → Updates nat_cmp was.pairs now.pairs m None → kept_at new n m ≡ None
  row_gone m u = kept_here m ∙ u.1

  -- where the row is empty now, nothing is kept of n
  pub row_empty : now.pairs.entries ≡ [] → LacksNet new n
  row_empty empty = record { none = λ k. kept_here k ∙ nothing_at now.pairs k empty }

  pub row_empty_part : now.pairs.entries ≡ [] → IsSummed now → IsPart old new
  row_empty_part empty sum = record {
    each = λ j k x h.
        ⊎_elim
        (λ (e : j ≡ n). absurd (false≢true (ap is_some (sym (kept_here k ∙ nothing_at now.pairs k empty) ∙ (ap (λ i. kept_at new i k) (sym e) ∙ h)))))
        (λ (apart : j ≡ n → ⊥). sym (kept_others j k apart) ∙ h)
        (cases_eq j n);
    summed = λ all. summed_still sum all;
    long = w.long;
  }

  same_kept : HasSame was now → (j k : ℕ) → kept_at new j k ≡ kept_at old j k
  same_kept same j k =
      ⊎_elim
      (λ (e : j ≡ n). ap (λ i. kept_at new i k) e ∙ (kept_here k ∙ (ap (λ (p : BTreeMap ℕ Pair). get nat_cmp p k) same.pairs ∙ (sym (kept_before k) ∙ ap (λ i. kept_at old i k) (sym e)))))
      (λ (apart : j ≡ n → ⊥). kept_others j k apart)
      (cases_eq j n)

  -- where the row has the same, so has all
  pub row_same : HasSame was now → Stays old new
  row_same same = record {
    part = record {
      each = λ j k x h. sym (same_kept same j k) ∙ h;
      summed = λ all. summed_still (same_summed was now same (all.each n was w.before)) all;
      long = w.long;
    };
    more = record { each = λ j k x h. same_kept same j k ∙ h };
  }

-- the row of a net
pub row_at : (kept : KeptComposites) (rows : List Row) (n : ℕ) (row : Row) → rows ≡ kept.nets.items → n < length rows → row ≡ get_or rows n row → slice_get kept.nets.items n ≡ Some row
row_at kept rows n row same low is = ap (λ l. slice_get l n) (sym same) ∙ slice_get_read rows (length rows) n row refl low is

-- is summed
pub summed_at : (kept : KeptComposites) (rows : List Row) (n : ℕ) (row : Row) → rows ≡ kept.nets.items → n < length rows → row ≡ get_or rows n row → AreSummed kept → IsSummed row
summed_at kept rows n row same low is all = all.each n row (row_at kept rows n row same low is)

-- nothing is kept of a number past the last row
pub past_rows : (kept : KeptComposites) (n m : ℕ) → length kept.nets.items ≤ n → kept_at kept n m ≡ None
unfolding kept_at
past_rows kept n m past = ap (λ r. in_row r m) (slice_get_past kept.nets.items n past)

pub past_lacks : (kept : KeptComposites) (n : ℕ) → length kept.nets.items ≤ n → LacksNet kept n
past_lacks kept n past = record { none = λ m. past_rows kept n m past }

-- what is found in the row, and that nothing is past the last
pub found_in : (kept : KeptComposites) (rows : List Row) (n m : ℕ) (row : Row) → rows ≡ kept.nets.items → n < length rows → row ≡ get_or rows n row
    → get nat_cmp row.pairs m ≡ kept_at kept n m
unfolding kept_at
found_in kept rows n m row same low is = sym (ap (λ l. in_row (slice_get l n) m) (sym same) ∙ ap (λ r. in_row r m) (slice_get_read rows (length rows) n row refl low is))

pub found_past : (kept : KeptComposites) (rows : List Row) (n m : ℕ) → rows ≡ kept.nets.items → length rows ≤ n → None ≡ kept_at kept n m
found_past kept rows n m same past = sym (past_rows kept n m (subst (λ l. length l ≤ n) same past))

-- ---- rows without anything

-- the row has nothing, and is summed
pub record IsNothing (row : Row) : Type 0 where
  pub empty : row.pairs.entries ≡ []
  pub summed : IsSummed row

-- such rows, one more each time
pub record HaveNothing (rows : List Row) (number : ℕ) : Type 0 where
  pub nothing : All IsNothing rows
  pub long : length rows ≡ number

pub nothing_more : (rows new : List Row) (row : Row) (number : ℕ) → HaveNothing rows number → row.pairs.entries ≡ [] → IsSummed row → new ≡ rows ++ row ∷ [] → HaveNothing new (number + 1)
nothing_more rows new row number have empty sum is = record {
  nothing = All-same IsNothing new (rows ++ row ∷ []) is (All-push IsNothing rows row have.nothing (record { empty = empty; summed = sum }));
  long = ap length is ∙ (length-append rows (row ∷ []) ∙ ap (λ k. k + 1) have.long);
}

nothing_of : (rows : List Row) (n : ℕ) (row : Row) → All IsNothing rows → slice_get rows n ≡ Some row → IsNothing row
nothing_of rows n row all is = subst IsNothing (get_or_from_slice_get rows n row row is) (All-get_or IsNothing rows n row (slice_get_within rows n row is) all)

-- so all that they have is right
pub nothing_right : (kept : KeptComposites) (number : ℕ) → HaveNothing kept.nets.items number → (nets : List (Option FlatNet)) → length nets ≤ number → AreRight nets kept
unfolding kept_at
nothing_right kept number have nets long = record {
  each = λ n m it h. absurd (false≢true (ap is_some (sym (none n m) ∙ h)));
  summed = record { each = λ n row h. (nothing_of kept.nets.items n row have.nothing h).summed };
  long = omega (arith, long, have.long);
}
  where
    in_none : (n m : ℕ) (o : Option Row) → slice_get kept.nets.items n ≡ o → in_row o m ≡ None
    in_none n m None e = refl
    in_none n m (Some row) e = nothing_at row.pairs m (nothing_of kept.nets.items n row have.nothing e).empty

    none : (n m : ℕ) → kept_at kept n m ≡ None
    none n m = in_none n m (slice_get kept.nets.items n) refl
