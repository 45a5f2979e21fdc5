-- A graph behind a change, and as it was where one fails.
use Rattle.std.proofs.Common.{◌≡◌, ◌∙◌, ℕ, ◌+◌, ◌≤◌, true, List, [], ◌++◌, length, take, replicate, sym, ap, subst, arith}
use Rattle.std.proofs.lemmas.List.{length-append, length-replicate}
use Rattle.mv_base.specs.declared.number.NetId.{NetId}
use Rattle.mv_base.specs.declared.limits.TheConstants.{MAX_NETS}
use Rattle.mv_graph.specs.Nets.{ids_ascend, row, AllBelow}
use Rattle.mv_graph.specs.Transpose.{IsTranspose}
use Rattle.mv_dag.specs.declared.new_rows.NewRow.{NewRow}
use Rattle.mv_dag.specs.Ordered.{IsOrdered}
use Rattle.mv_dag.specs.Rows.{rows_from, changed_rows}
use Rattle.mv_dag.specs.Dag.{IsDag}
use Rattle.mv_dag.specs.Changing.{MayChange}
use Rattle.mv_dag.specs.Growing.{AreAdded}
use Rattle.mv_dag.proofs.Exchanged.{length-rows_from}
use Rattle.mv_dag.proofs.Fronts.{front-more}
use Rattle.mv_dag.proofs.Linked.{none_of, below-grown, transpose-grown, transpose-front}

module _ (fanins readers more readers_more : List (List NetId)) (labels labels_more : List ℕ) (added : ℕ) (dag : IsDag fanins readers labels) (a : AreAdded added fanins more readers readers_more labels labels_more) where
  pub more_below : AllBelow more
  more_below = let P : List (List NetId) → Type 0 = AllBelow in subst P (sym a.fanins_are) (below-grown fanins added dag.below)

  pub more_turned : IsTranspose more readers_more
  more_turned =
      let P : List (List NetId) → Type 0 = λ l. IsTranspose l readers_more in
      let Q : List (List NetId) → Type 0 = λ l. IsTranspose (fanins ++ none_of added) l in
      subst P (sym a.fanins_are) (subst Q (sym a.readers_are) (transpose-grown fanins readers added dag.turned))

  pub more_may : (rows : List NewRow) → MayChange rows (fanins ++ replicate added []) → MayChange rows more
  more_may rows may = let P : List (List NetId) → Type 0 = MayChange rows in subst P (sym a.fanins_are) may

  pub changed_is : (rows : List NewRow) (new : List (List NetId)) → new ≡ rows_from rows 0 more → new ≡ changed_rows rows added fanins
  changed_is rows new e = e ∙ ap (rows_from rows 0) a.fanins_are

  pub changed_dag : (rows : List NewRow) (new readers_new : List (List NetId)) (labels_new : List ℕ) → length fanins + added ≤ MAX_NETS → MayChange rows (fanins ++ replicate added [])
      → ((n : ℕ) → ids_ascend (row (changed_rows rows added fanins) n) ≡ true)
      → new ≡ rows_from rows 0 more → IsTranspose new readers_new → IsOrdered new labels_new → IsDag new readers_new labels_new
  changed_dag rows new readers_new labels_new few may ascend e turned ordered =
      let is = changed_is rows new e in
      let P : List (List NetId) → Type 0 = AllBelow in
      let b = length-rows_from rows 0 (fanins ++ none_of added) in
      let c = length-append fanins (none_of added) in
      let d : length (none_of added) ≡ added = length-replicate added [] in
      let f = ap length is in
      record {
        ascend = λ n. ap (λ l. ids_ascend (row l n)) is ∙ ascend n;
        below = subst P (sym is) may.below;
        turned = turned;
        ordered = ordered;
        few = omega arith;
      }

  pub fanins_back : (new : List (List NetId)) → new ≡ more → take (length fanins) new ≡ fanins
  fanins_back new e = front-more fanins (none_of added) new (e ∙ a.fanins_are)

  pub labels_back : (new : List ℕ) → new ≡ labels_more → take (length fanins) new ≡ labels
  labels_back new e = ap (λ l. take (length fanins) l) e ∙ (ap (λ n. take n labels_more) (sym (dag.ordered).long) ∙ a.front)

  pub readers_back : (new : List (List NetId)) → IsTranspose more new → IsTranspose fanins (take (length fanins) new)
  readers_back new t =
      let P : List (List NetId) → Type 0 = λ l. IsTranspose l new in
      transpose-front fanins new added dag.below (subst P a.fanins_are t)
