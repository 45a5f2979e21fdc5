-- Numbers that come one by one.
use Rattle.std.proofs.Common.{◌≡◌, ◌∙◌, ℕ, ◌+◌, List, [], ◌∷◌, ◌++◌, length, take, replicate, refl, sym, ap, subst}
use Rattle.std.proofs.lemmas.List.{append-nil, append_assoc, replicate_more, length-append, length-replicate}
use Rattle.mv_base.specs.declared.number.NetId.{NetId}
use Rattle.mv_graph.specs.Nets.{AllBelow}
use Rattle.mv_dag.specs.Ordered.{IsOrdered}
use Rattle.mv_dag.specs.Growing.{AreAdded}
use Rattle.mv_dag.proofs.Fronts.{front-same, front-more, front-then}
use Rattle.mv_dag.proofs.Linked.{none_of, below-grown}

pub added-none : (fanins readers : List (List NetId)) (labels : List ℕ) → IsOrdered fanins labels → AreAdded 0 fanins fanins readers readers labels labels
added-none fanins readers labels o = record {
  fanins_are = sym (append-nil fanins);
  readers_are = sym (append-nil readers);
  front = front-same labels labels refl;
  ordered = o;
}

module _ (k : ℕ) (fanins more readers readers_more : List (List NetId)) (labels labels_more : List ℕ) (a : AreAdded k fanins more readers readers_more labels labels_more) where
  pub added-long : length more ≡ length fanins + k
  added-long =
      let e : length (none_of k) ≡ k = length-replicate k [] in
      ap length a.fanins_are ∙ (length-append fanins (none_of k) ∙ ap (λ n. length fanins + n) e)

  pub added-below : AllBelow fanins → AllBelow more
  added-below below = let P : List (List NetId) → Type 0 = AllBelow in subst P (sym a.fanins_are) (below-grown fanins k below)

  one_more : (lists lists_more new : List (List NetId)) → lists_more ≡ lists ++ replicate k [] → new ≡ lists_more ++ [] ∷ [] → new ≡ lists ++ replicate (k + 1) []
  one_more lists lists_more new e f =
      f ∙ (ap (λ l. l ++ [] ∷ []) e ∙ (append_assoc lists (none_of k) ([] ∷ []) ∙ ap (λ l. lists ++ l) (replicate_more k [])))

  pub added-more : (new readers_new : List (List NetId)) (labels_new : List ℕ) → new ≡ more ++ [] ∷ [] → readers_new ≡ readers_more ++ [] ∷ [] → take (length labels_more) labels_new ≡ labels_more → IsOrdered new labels_new
      → AreAdded (k + 1) fanins new readers readers_new labels labels_new
  added-more new readers_new labels_new e f g o = record {
    fanins_are = one_more fanins more new a.fanins_are e;
    readers_are = one_more readers readers_more readers_new a.readers_are f;
    front = front-then labels labels_more labels_new a.front g;
    ordered = o;
  }

  pub added-fanins_front : take (length fanins) more ≡ fanins
  added-fanins_front = front-more fanins (none_of k) more a.fanins_are

  pub added-readers_front : take (length readers) readers_more ≡ readers
  added-readers_front = front-more readers (none_of k) readers_more a.readers_are
