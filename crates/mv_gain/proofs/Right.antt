-- What is right of the pairs that are kept, and where it stays so.
use Rattle.std.proofs.Common.{◌≡◌, ◌∙◌, ℕ, ◌+◌, ◌*◌, ◌^◌, ◌<◌, ◌≤◌, true, nat_cmp, Option, Some, None, List, length, take, get_or, is_some, inl, inr, refl, sym, ap, subst, ⊎_elim, arith}
use Rattle.std.specs.Prelude.{slice_get}
use Rattle.std.specs.BTreeMap.{get, values, Updates}
use Rattle.std.specs.List.{sum_by}
use Rattle.std.proofs.lemmas.Bool.{false≢true}
use Rattle.std.proofs.lemmas.List.{take_all}
use Rattle.std.proofs.lemmas.Option.{same_Some}
use Rattle.mv_base.specs.declared.number.NetId.{NetId}
use Rattle.mv_graph.specs.Nets.{has_id, IsAscending}
use Rattle.mv_net.specs.declared.parts.FlatNet.{FlatNet}
use Rattle.mv_net.specs.Nets.{reads_in}
use Rattle.mv_gain.specs.declared.kept.KeptComposites.{KeptComposites}
use Rattle.mv_gain.specs.declared.row.Pair.{Pair}
use Rattle.mv_gain.specs.declared.row.Row.{Row}
use Rattle.mv_gain.specs.Judging.{IsFilled}
use Rattle.mv_gain.specs.Kept.{IsComposite, IsPair, AreRight}
use Rattle.mv_gain.specs.Pairs.{in_row, kept_at, IsPart, KeepsMore, HasComing, AreKept}
use Rattle.mv_gain.specs.Sums.{coming_of, wide_of, IsSummed, IsSmall}
use Rattle.mv_gain.proofs.Around.{few_readers, as_long_all, tabled_below}
use Rattle.mv_gain.proofs.Behind.{pair_reads}
use Rattle.mv_gain.proofs.Entries.{readers_of, length-readers_of, has_reader, readers_ascend, all_found, sum_few, found_wide}
use Rattle.mv_gain.proofs.Forgetting.{one_of_more}
use Rattle.mv_gain.proofs.Rows.{WritesRow, kept_cases, summed_still}

-- ---- what stays right

pub part_right : (nets : List (Option FlatNet)) (old new : KeptComposites) → IsPart old new → AreRight nets old → AreRight nets new
part_right nets old new part right = record {
  each = λ n m it h. right.each n m it (part.each n m it h);
  summed = part.summed right.summed;
  long = omega (arith, part.long, right.long);
}

is_some_more : (old new : KeptComposites) (n m : ℕ) → KeepsMore old new → is_some (kept_at old n m) ≡ true → is_some (kept_at new n m) ≡ true
is_some_more old new n m more h = by (kept_at old n m) refl h
  where
    by : (o : Option Pair) → kept_at old n m ≡ o → is_some o ≡ true → is_some (kept_at new n m) ≡ true
    by None e h = absurd (false≢true h)
    by (Some it) e h = ap is_some (more.each n m it e)

-- the first so many readers, and one more
pub kept_more : (old new : KeptComposites) (n : ℕ) (list : List NetId) (i : ℕ) (d : NetId) (coming : Option ℕ) → i < length list → KeepsMore old new → HasComing new n (get_or list i d).0 coming
    → AreKept old n (take i list) → AreKept new n (take (i + 1) list)
kept_more old new n list i d coming low more here kept = record {
  each = λ m h.
      ⊎_elim
      (λ (before : has_id (take i list) m ≡ true). is_some_more old new n m more (kept.each m before))
      (λ (e : (get_or list i d).0 ≡ m). subst (λ k. is_some (kept_at new n k) ≡ true) e (ap is_some here.has))
      (one_of_more list i d m low h);
}

pub kept_all : (nets : List (Option FlatNet)) (old new : KeptComposites) (n i : ℕ) (list : List NetId) → length list ≤ i → IsAscending (λ m. reads_in nets m n) list → KeepsMore old new
    → AreKept old n (take i list) → IsFilled nets n new
kept_all nets old new n i list past are more kept =
    let all = subst (AreKept old n) (take_all i list past) kept in
    inr (record { each = λ m reads. is_some_more old new n m more (all.each m (are.members m ∙ reads)) })

-- ---- the row of a net

-- its pairs are right, and so are its sums
pub record RightRow (nets : List (Option FlatNet)) (n : ℕ) (row : Row) : Type 0 where
  pub each : (m : ℕ) (it : Pair) → get nat_cmp row.pairs m ≡ Some it → IsPair nets n m it
  pub summed : IsSummed row

pub has_at : (kept : KeptComposites) (n m : ℕ) (row : Row) → slice_get kept.nets.items n ≡ Some row → kept_at kept n m ≡ get nat_cmp row.pairs m
unfolding kept_at
has_at kept n m row is = ap (λ r. in_row r m) is

pub row_right : (nets : List (Option FlatNet)) (kept : KeptComposites) (n : ℕ) (row : Row) → slice_get kept.nets.items n ≡ Some row → AreRight nets kept → RightRow nets n row
row_right nets kept n row is right = record {
  each = λ m it h. right.each n m it (has_at kept n m row is ∙ h);
  summed = right.summed.each n row is;
}

module _ (nets : List (Option FlatNet)) (n : ℕ) (row : Row) (right : RightRow nets n row) where
  some_reads : (m : ℕ) → is_some (get nat_cmp row.pairs m) ≡ true → reads_in nets m n ≡ true
  some_reads m h = by (get nat_cmp row.pairs m) refl h
    where
      by : (o : Option Pair) → get nat_cmp row.pairs m ≡ o → is_some o ≡ true → reads_in nets m n ≡ true
      by None e h = absurd (false≢true h)
      by (Some it) e h = pair_reads nets n m it (right.each m it e)

  -- its readers read the net
  pub row_reads : (m : ℕ) → has_id (readers_of row.pairs.entries) m ≡ true → reads_in nets m n ≡ true
  row_reads m h = some_reads m (sym (has_reader row.pairs.entries m) ∙ h)

  few_pairs : length row.pairs.entries ≤ length nets
  few_pairs =
      let few = few_readers nets n (readers_of row.pairs.entries) (readers_ascend row.pairs.entries right.summed.ordered) row_reads in
      omega (arith, few, length-readers_of row.pairs.entries)

  sum_small : (f : Pair → ℕ) (top : ℕ) → ((m : ℕ) (it : Pair) → get nat_cmp row.pairs m ≡ Some it → f it ≤ top) → sum_by f (values row.pairs) ≤ length row.pairs.entries * top
  sum_small f top each = sum_few f top row.pairs.entries (all_found (λ (e : ℕ × Pair). f e.1 ≤ top) row.pairs.entries right.summed.ordered each)

  wide_one : (it : Pair) → wide_of it ≤ 1
  wide_one it = grind arith

  -- so its sums are small
  pub row_small : length nets ≤ 16000000 → IsSmall row
  row_small few = record {
    coming = omega (arith, few, few_pairs, right.summed.coming, sum_small coming_of (2 ^ 96) (λ m it h. (right.each m it h).small.coming));
    going = omega (arith, few, few_pairs, right.summed.going, sum_small (λ (p : Pair). p.going) (2 ^ 96) (λ m it h. (right.each m it h).small.going));
    wide = omega (arith, few, few_pairs, right.summed.wide, sum_small wide_of 1 (λ m it h. wide_one it));
  }

-- ---- room for each net

composite_below : (nets : List (Option FlatNet)) (n m : ℕ) (it : Option ℕ) → IsComposite nets n m it → n < length nets
composite_below nets n m None pair = subst (λ k. k < length nets) pair.of_net (tabled_below nets pair.inner.net.0 (ap is_some pair.known.table))
composite_below nets n m (Some count) pair = subst (λ k. k < length nets) pair.of_net (tabled_below nets pair.inner.net.0 (ap is_some pair.known.table))

-- no pair is of a net past the last row
pub no_pair_past : (nets : List (Option FlatNet)) (kept : KeptComposites) (n m : ℕ) (it : Pair) → AreRight nets kept → length kept.nets.items ≤ n → IsPair nets n m it → ⊥
no_pair_past nets kept n m it right past pair = omega (arith, right.long, past, composite_below nets n m it.coming pair.coming)

-- ---- a pair more

pub put_right : (nets : List (Option FlatNet)) (old new : KeptComposites) (n m : ℕ) (it : Pair) (was now : Row) → WritesRow old new n was now
    → Updates nat_cmp was.pairs now.pairs m (Some it) → IsSummed now → IsPair nets n m it → AreRight nets old → AreRight nets new
put_right nets old new n m it was now w u sum pair right = record {
  each = λ j k x h.
      ⊎_elim
      (λ (before : kept_at old j k ≡ Some x). right.each j k x before)
      (λ (here : (j ≡ n) × ((k ≡ m) × (Some it ≡ Some x))).
      subst (λ i. IsPair nets i k x) (sym here.0) (subst (λ i. IsPair nets n i x) (sym here.1.0) (subst (IsPair nets n m) (same_Some it x here.1.1) pair)))
      (kept_cases old new n was now w m (Some it) u j k x h);
  summed = summed_still old new n was now w sum right.summed;
  long = omega (arith, w.long, right.long);
}

-- ---- enough is kept

-- where some pairs are too wide
pub filled_wide : (nets : List (Option FlatNet)) (kept : KeptComposites) (n : ℕ) (row : Row) → slice_get kept.nets.items n ≡ Some row → AreRight nets kept → 0 < row.wide → IsFilled nets n kept
filled_wide nets kept n row is right many =
    let sum = right.summed.each n row is in
    let w = found_wide row.pairs.entries sum.ordered (omega (arith, many, sum.wide)) in
    inl (record { reader = w.0; wide = record { pair = w.1.0; has = has_at kept n w.0 row is ∙ w.1.1.0; coming_is = w.1.1.1 } })

-- or there are as many as readers
pub filled_all : (nets : List (Option FlatNet)) (kept : KeptComposites) (n : ℕ) (row : Row) (readers : List NetId) → slice_get kept.nets.items n ≡ Some row → AreRight nets kept
    → IsAscending (λ m. reads_in nets m n) readers → length row.pairs.entries ≡ length readers → IsFilled nets n kept
filled_all nets kept n row readers is right are same =
    let one = row_right nets kept n row is right in
    let up = readers_ascend row.pairs.entries one.summed.ordered in
    let all = as_long_all (readers_of row.pairs.entries) readers up are.ascending (λ m h. are.members m ∙ row_reads nets n row one m h) (length-readers_of row.pairs.entries ∙ same) in
    inr (record { each = λ m reads. ap is_some (has_at kept n m row is) ∙ (sym (has_reader row.pairs.entries m) ∙ all m (are.members m ∙ reads)) })
