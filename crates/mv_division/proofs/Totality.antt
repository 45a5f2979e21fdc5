-- Whether cubes match each point is decided by going over the values of the nets that they read; so it is decided whether a
-- table is total, and what a body becomes in place of one.
use Rattle.std.proofs.Common.{◌≡◌, ◌∙◌, ◌⊎◌, ℕ, zero, suc, ◌+◌, ◌<◌, ◌≤◌, Bool, true, false, nat_eq, List, [], ◌∷◌, map, get_or, is_some, Option, Some, None, inl, inr, refl, sym, ap, subst, arith, add-one}
use Rattle.std.proofs.lemmas.Bool.{or_left, eq-eqb}
use Rattle.mv_base.specs.declared.limits.TheConstants.{MAX_VALUES}
use Rattle.mv_cover.specs.Literal.{Lit}
use Rattle.mv_cover.specs.Cofactors.{cubes_read, AreCubesWithin, CubesCover, CubesMiss, cofactor_of, cubes_of}
use Rattle.mv_cover.specs.Covers.{cube_reads}
use Rattle.mv_cover.specs.declared.cover.Cover.{Cover}
use Rattle.mv_cover.proofs.Covering.{literals_of_cubes, cofactor-within, cofactor-shorter, cofactor-missed, missed_by_none, CoverBelow, cover_start, cover_more, cubes_read-lines, lines_cover, lines_miss}
use Rattle.mv_net.specs.declared.parts.FlatNet.{FlatNet}
use Rattle.mv_net.specs.declared.parts.NetParts.{NetParts}
use Rattle.mv_net.specs.Formed.{IsCover, WellFormed}
use Rattle.mv_net.specs.Nets.{values_in}
use Rattle.mv_net.specs.Total.{IsTotal}
use Rattle.mv_net.proofs.Known.{counts_at, lines_readable, values_some}
use Rattle.mv_net.proofs.Totals.{IsTotal-covered, IsTotal-default, not_total}
use Rattle.mv_plans.specs.Completing.{IsCompleted, with_zero}

-- ---- cubes

module _ (counts : List ℕ) where
  -- at each value of a net below k
  values_below : (n : ℕ) (cs : List (List Lit)) → ((v : ℕ) → CubesCover counts (cofactor_of n v cs) ⊎ CubesMiss counts (cofactor_of n v cs)) → (k : ℕ) → k ≤ get_or counts n 0
      → CoverBelow counts cs n k ⊎ CubesMiss counts cs
  values_below n cs each zero low = inl (cover_start counts cs n)
  values_below n cs each (suc k) low =
      elim (values_below n cs each k (omega arith)) [
        | inr m ↦ inr m
        | inl b ↦
            elim (each k) [
              | inl c ↦ inl (subst (CoverBelow counts cs n) (add-one k) (cover_more counts cs n k b c))
              | inr m ↦ inr (cofactor-missed counts n k cs (omega arith) m)
            ]
      ]

  -- each value of a net is below its count
  at_each_value : (n : ℕ) (cs : List (List Lit)) → 0 < get_or counts n 0 → CoverBelow counts cs n (get_or counts n 0) ⊎ CubesMiss counts cs → CubesCover counts cs ⊎ CubesMiss counts cs
  at_each_value n cs some (inl b) = inl (record { each = λ at p. b.each at p (p.below n some) })
  at_each_value n cs some (inr m) = inr m

  -- cubes of fewer literals than so many
  covers_or_misses : (more : ℕ) (cs : List (List Lit)) → literals_of_cubes cs < more → AreCubesWithin counts cs → CubesCover counts cs ⊎ CubesMiss counts cs
  covers_or_misses zero cs low within = absurd (omega arith)
  covers_or_misses (suc more) [] low within = inr (missed_by_none counts [] refl)
  covers_or_misses (suc more) ([] ∷ cs) low within = inl (record { each = λ at p. refl })
  covers_or_misses (suc more) ((l ∷ ls) ∷ cs) low within =
      let n = l.net.0 in
      let all = (l ∷ ls) ∷ cs in
      let reads : cubes_read all n ≡ true = or_left (cube_reads (l ∷ ls) n) (cubes_read cs n) (or_left (nat_eq n n) (cube_reads ls n) (eq-eqb n n refl)) in
      let part : (v : ℕ) → CubesCover counts (cofactor_of n v all) ⊎ CubesMiss counts (cofactor_of n v all) =
      λ v. covers_or_misses more (cofactor_of n v all) (let fewer = cofactor-shorter n v all reads in omega (arith, low, fewer)) (cofactor-within counts n v all within) in
      at_each_value n all (within.valued n reads) (values_below n all part (get_or counts n 0) (omega arith))

-- ---- tables

module _ (net : NetParts) (values : ℕ) (formed : WellFormed net) (few : values ≤ MAX_VALUES) where
  -- each net that the table reads has values
  within_nets : (c : Cover) → IsCover net.nets values c → AreCubesWithin (map values_in net.nets) (cubes_of c.lines)
  within_nets c is = record {
    valued = λ m h.
        let readable = lines_readable net.nets values c.lines m is.lines (sym (cubes_read-lines m c.lines) ∙ h) in
        subst (λ (k : ℕ). 0 < k) (sym (counts_at net.nets m)) (values_some net m formed (ap is_some readable.held));
  }

  total_or_not : (c : Cover) → IsCover net.nets values c → IsTotal net.nets c ⊎ (IsTotal net.nets c → ⊥)
  total_or_not c is = by c.default refl
    where
      by_lines : c.default ≡ None → CubesCover (map values_in net.nets) (cubes_of c.lines) ⊎ CubesMiss (map values_in net.nets) (cubes_of c.lines) → IsTotal net.nets c ⊎ (IsTotal net.nets c → ⊥)
      by_lines e (inl covers) = inl (IsTotal-covered net.nets values c few is (lines_cover (map values_in net.nets) c.lines covers))
      by_lines e (inr misses) = inr (not_total net.nets c e (lines_miss (map values_in net.nets) c.lines misses))

      by : (o : Option ℕ) → c.default ≡ o → IsTotal net.nets c ⊎ (IsTotal net.nets c → ⊥)
      by (Some out) e = inl (IsTotal-default net.nets values out c few is e)
      by None e =
          by_lines e
          (covers_or_misses (map values_in net.nets) (literals_of_cubes (cubes_of c.lines) + 1) (cubes_of c.lines) (omega arith) (within_nets c is))

  -- there is a table that the body becomes
  pub completed_some : (old body : Cover) → IsCover net.nets values old → IsCover net.nets values body → (table : Cover) × IsCompleted net.nets old body table
  completed_some old body is it = by (total_or_not old is) (total_or_not body it)
    where
      by : IsTotal net.nets old ⊎ (IsTotal net.nets old → ⊥) → IsTotal net.nets body ⊎ (IsTotal net.nets body → ⊥) → (table : Cover) × IsCompleted net.nets old body table
      by (inr no_old) b = (body, record { less = false; needed = λ less. no_old less.total; new_is = refl })
      by (inl total) (inl t) = (body, record { less = false; needed = λ less. less.partial t; new_is = refl })
      by (inl total) (inr partial) = (with_zero true body, record { less = true; needed = record { total = total; partial = partial }; new_is = refl })

-- the default alone may come besides
pub completed_lines : (nets : List (Option FlatNet)) (old body new : Cover) → IsCompleted nets old body new → new.lines ≡ body.lines
completed_lines nets old body new is = ap (λ (c : Cover). c.lines) is.new_is ∙ by is.less
  where
    by : (less : Bool) → (with_zero less body).lines ≡ body.lines
    by false = refl
    by true = refl
