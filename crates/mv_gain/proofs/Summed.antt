-- Sums over the pairs of a row, where one comes or goes.
use Rattle.std.proofs.Common.{◌≡◌, ◌∙◌, ℕ, ◌+◌, ◌≤◌, nat_cmp, Some, None, sym, ap, subst, arith}
use Rattle.std.specs.BTreeMap.{BTreeMap, is_at, get, values, insert_entry, IsOrdered}
use Rattle.std.specs.List.{sum_by}
use Rattle.std.specs.Map.{values_of, remove_entry}
use Rattle.std.specs.Option.{option_map, unwrap_or}
use Rattle.std.proofs.lemmas.Cmp.{nat_cmp_total}
use Rattle.std.proofs.lemmas.Map.Entries.{sum_by-insert_entry, sum_by-remove_entry}
use Rattle.mv_gain.specs.declared.row.Pair.{Pair}
use Rattle.mv_gain.specs.declared.row.Row.{Row}
use Rattle.mv_gain.specs.Sums.{coming_of, wide_of, IsSummed, HasSame}

-- ---- one sum

-- a pair comes, of whose reader nothing was there
sum_put : (f : Pair → ℕ) (old new : BTreeMap ℕ Pair) (k : ℕ) (pair : Pair) → IsOrdered nat_cmp old → new.entries ≡ insert_entry nat_cmp old.entries k pair → get nat_cmp old k ≡ None
    → sum_by f (values new) ≡ sum_by f (values old) + f pair
sum_put f old new k pair ordered is none =
    let more = sum_by-insert_entry f nat_cmp_total old.entries k pair ordered in
    let nothing = ap (λ o. unwrap_or (option_map f o) 0) none in
    ap (λ es. sum_by f (values_of es)) is ∙ omega (arith, more, nothing)

-- a pair goes
sum_gone : (f : Pair → ℕ) (old new : BTreeMap ℕ Pair) (k : ℕ) (pair : Pair) → new.entries ≡ remove_entry (is_at (nat_cmp k)) old.entries → get nat_cmp old k ≡ Some pair
    → sum_by f (values new) + f pair ≡ sum_by f (values old)
sum_gone f old new k pair is some =
    let less = sum_by-remove_entry f (is_at (nat_cmp k)) old.entries in
    let it = ap (λ o. unwrap_or (option_map f o) 0) some in
    let now = ap (λ es. sum_by f (values_of es)) is in
    omega (arith, less, it, now)

-- ---- all three

pub same_summed : (old new : Row) → HasSame old new → IsSummed old → IsSummed new
same_summed old new same sum = record {
  coming = same.coming ∙ (sum.coming ∙ ap (λ m. sum_by coming_of (values m)) (sym same.pairs));
  going = same.going ∙ (sum.going ∙ ap (λ m. sum_by (λ (pair : Pair). pair.going) (values m)) (sym same.pairs));
  wide = same.wide ∙ (sum.wide ∙ ap (λ m. sum_by wide_of (values m)) (sym same.pairs));
  ordered = subst (IsOrdered nat_cmp) (sym same.pairs) sum.ordered;
}

-- each sum has that of the pair more
pub record Adds (old new : Row) (pair : Pair) : Type 0 where
  pub coming : new.coming ≡ old.coming + coming_of pair
  pub going : new.going ≡ old.going + pair.going
  pub wide : new.wide ≡ old.wide + wide_of pair

pub put_summed : (old new : Row) (k : ℕ) (pair : Pair) → IsSummed old → IsOrdered nat_cmp new.pairs → new.pairs.entries ≡ insert_entry nat_cmp old.pairs.entries k pair
    → get nat_cmp old.pairs k ≡ None → Adds old new pair → IsSummed new
put_summed old new k pair sum ordered is none adds = record {
  coming = adds.coming ∙ (ap (λ s. s + coming_of pair) sum.coming ∙ sym (sum_put coming_of old.pairs new.pairs k pair sum.ordered is none));
  going = adds.going ∙ (ap (λ s. s + pair.going) sum.going ∙ sym (sum_put (λ (p : Pair). p.going) old.pairs new.pairs k pair sum.ordered is none));
  wide = adds.wide ∙ (ap (λ s. s + wide_of pair) sum.wide ∙ sym (sum_put wide_of old.pairs new.pairs k pair sum.ordered is none));
  ordered = ordered;
}

pub gone_summed : (old new : Row) (k : ℕ) (pair : Pair) → IsSummed old → IsOrdered nat_cmp new.pairs → new.pairs.entries ≡ remove_entry (is_at (nat_cmp k)) old.pairs.entries
    → get nat_cmp old.pairs k ≡ Some pair → Adds new old pair → IsSummed new
gone_summed old new k pair sum ordered is some adds = record {
  coming = omega (arith, adds.coming, sum.coming, sum_gone coming_of old.pairs new.pairs k pair is some);
  going = omega (arith, adds.going, sum.going, sum_gone (λ (p : Pair). p.going) old.pairs new.pairs k pair is some);
  wide = omega (arith, adds.wide, sum.wide, sum_gone wide_of old.pairs new.pairs k pair is some);
  ordered = ordered;
}

-- a pair that is there is within the sums
pub record IsWithin (row : Row) (pair : Pair) : Type 0 where
  pub coming : coming_of pair ≤ row.coming
  pub going : pair.going ≤ row.going
  pub wide : wide_of pair ≤ row.wide

pub within_sums : (row : Row) (new : BTreeMap ℕ Pair) (k : ℕ) (pair : Pair) → IsSummed row → new.entries ≡ remove_entry (is_at (nat_cmp k)) row.pairs.entries
    → get nat_cmp row.pairs k ≡ Some pair → IsWithin row pair
within_sums row new k pair sum is some = record {
  coming = omega (arith, sum.coming, sum_gone coming_of row.pairs new k pair is some);
  going = omega (arith, sum.going, sum_gone (λ (p : Pair). p.going) row.pairs new k pair is some);
  wide = omega (arith, sum.wide, sum_gone wide_of row.pairs new k pair is some);
}
