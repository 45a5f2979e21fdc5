-- When a body needs the default 0 besides: what is looked at to tell.
use Rattle.std.proofs.Common.{◌≡◌, ◌∙◌, ℕ, ◌<◌, Bool, true, false, not, List, map, Option, Some, None, is_some, refl, sym, ap, subst}
use Rattle.std.specs.Prelude.{MatchBool}
use Rattle.std.proofs.lemmas.Bool.{false≢true}
use Rattle.std.proofs.lemmas.Option.{same_Some}
use Rattle.mv_cover.specs.declared.cover.Cover.{Cover}
use Rattle.mv_cover.specs.Covering.{AreWithin, CoversAll, MissesSome}
use Rattle.mv_net.specs.declared.parts.FlatNet.{FlatNet}
use Rattle.mv_net.specs.declared.parts.NetParts.{NetParts}
use Rattle.mv_net.specs.Formed.{IsCover, WellFormed}
use Rattle.mv_net.specs.Nets.{slot, values_in, table_in}
use Rattle.mv_net.specs.Total.{IsTotal, IsTotalNet}
use Rattle.mv_net.proofs.Known.{counts_at, lines_readable, values_few, values_some}
use Rattle.mv_net.proofs.Totals.{IsTotal-covered, IsTotal-default, not_total}
use Rattle.mv_plans.specs.Completing.{IsLess, IsLessThan, IsCompletedAt, with_zero}

-- ---- the nets that a cover reads

-- each has values
pub within_nets : (net : NetParts) (values : ℕ) (c : Cover) → WellFormed net → IsCover net.nets values c → AreWithin (map values_in net.nets) c.lines
within_nets net values c formed is = record {
  valued = λ m r.
      let readable = lines_readable net.nets values c.lines m is.lines r in
      subst (λ k. 0 < k) (sym (counts_at net.nets m)) (values_some net m formed (ap (λ f. is_some f) readable.held));
}

-- ---- a body in place of the table of a net

module _ (net : NetParts) (n : ℕ) (body : Cover) (formed : WellFormed net) (cover : IsCover net.nets (values_in (slot net.nets n)) body) where
  -- with a default it is total
  pub default_not_less : is_some body.default ≡ true → IsLessThan net.nets n body → ⊥
  default_not_less some less = by body.default refl some
    where
      by : (o : Option ℕ) → body.default ≡ o → is_some o ≡ true → ⊥
      by None e s = false≢true s
      by (Some out) e s = less.partial (IsTotal-default net.nets (values_in (slot net.nets n)) out body (values_few net n formed) cover e)

  -- and else where its lines match every point
  covered_less : (all : Bool) → is_some body.default ≡ false → IsTotalNet net.nets n → MatchBool all (CoversAll (map values_in net.nets) body.lines) (MissesSome (map values_in net.nets) body.lines)
      → MatchBool (not all) (IsLessThan net.nets n body) (IsLessThan net.nets n body → ⊥)
  covered_less true none total covers = λ less. less.partial (IsTotal-covered net.nets (values_in (slot net.nets n)) body (values_few net n formed) cover covers)
  covered_less false none total misses = record { total = total; partial = by body.default refl none }
    where
      by : (o : Option ℕ) → body.default ≡ o → is_some o ≡ false → IsTotal net.nets body → ⊥
      by None e s = not_total net.nets body e misses
      by (Some out) e s = absurd (false≢true (sym s))

  -- told over the counts that are kept
  pub less_answer : (all : Bool) (counts : List ℕ) → counts ≡ map values_in net.nets → is_some body.default ≡ false → IsTotalNet net.nets n → MatchBool all (CoversAll counts body.lines) (MissesSome counts body.lines)
      → MatchBool (not all) (IsLessThan net.nets n body) (IsLessThan net.nets n body → ⊥)
  less_answer all counts same none total covers = covered_less all none total (subst (λ (ks : List ℕ). MatchBool all (CoversAll ks body.lines) (MissesSome ks body.lines)) same covers)

-- ---- of that table

total_table : (nets : List (Option FlatNet)) (n : ℕ) (c : Cover) → table_in (slot nets n) ≡ Some c → IsTotalNet nets n → IsTotal nets c
total_table nets n c e is = subst (IsTotal nets) (same_Some is.cover c (sym (ap table_in is.held ∙ is.table) ∙ e)) is.total

total_net : (nets : List (Option FlatNet)) (n : ℕ) (c : Cover) → table_in (slot nets n) ≡ Some c → IsTotal nets c → IsTotalNet nets n
total_net nets n c e is = by (slot nets n) refl e
  where
    by : (f : Option FlatNet) → slot nets n ≡ f → table_in f ≡ Some c → IsTotalNet nets n
    by None held t = absurd cc
    by (Some f) held t = record { net = f; held = held; cover = c; table = t; total = is }

less_at : (nets : List (Option FlatNet)) (n : ℕ) (old body : Cover) (less : Bool) → table_in (slot nets n) ≡ Some old → MatchBool less (IsLessThan nets n body) (IsLessThan nets n body → ⊥) → MatchBool less (IsLess nets old body) (IsLess nets old body → ⊥)
less_at nets n old body true e h = record { total = total_table nets n old e h.total; partial = h.partial }
less_at nets n old body false e h = λ is. h (record { total = total_net nets n old e is.total; partial = is.partial })

pub completed_at : (nets : List (Option FlatNet)) (n : ℕ) (body new : Cover) (less : Bool) → MatchBool less (IsLessThan nets n body) (IsLessThan nets n body → ⊥) → new ≡ with_zero less body → IsCompletedAt nets n body new
completed_at nets n body new less h is = record { completed = λ old e. record { less = less; needed = less_at nets n old body less e h; new_is = is } }
