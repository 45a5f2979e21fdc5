-- What is kept goes with the kind of divisors.
use Rattle.std.proofs.Common.{◌≡◌, ◌∙◌, ℕ, ◌<◌, true, false, IsTrue, nat_eq, is_some, Option, None, List, [], ◌∷◌, ◌++◌, length, map, All, Contains, inl, inr, refl, sym, ap, subst}
use Rattle.std.proofs.lemmas.Bool.{cases_lt, eq-eqb, false≢true}
use Rattle.std.proofs.lemmas.List.{get_or_past}
use Rattle.std.proofs.lemmas.List.Elements.{All-contains_itself, All-push, All-weaker}
use Rattle.std.specs.Option.{MatchOption}
use Rattle.mv_base.specs.declared.number.NetId.{NetId}
use Rattle.mv_cover.specs.Literal.{Lit}
use Rattle.mv_cover.proofs.Absorbing.{any_at}
use Rattle.mv_graph.specs.Nets.{has_id, IsAscending}
use Rattle.mv_divide.specs.declared.part.Part.{Part}
use Rattle.mv_gains.specs.Candidates.{IsBest, IsCubeCandidate, IsKernelCandidate, NoneSaves}
use Rattle.mv_gains.specs.Gains.{covers_at, cubes_at}
use Rattle.mv_net.specs.declared.parts.FlatNet.{FlatNet}
use Rattle.mv_net.specs.declared.parts.NetParts.{NetParts}
use Rattle.mv_net.specs.Index.{is_held}
use Rattle.mv_net.specs.Nets.{slot, net_reads}
use Rattle.mv_extract.specs.declared.kind.Divisors.{Divisors}
use Rattle.mv_extract.specs.declared.kind.Divisors.TheVariants as kinds
use Rattle.mv_extract.specs.declared.kind.Search.{Search}
use Rattle.mv_extract.specs.declared.kind.Search.TheVariants as kept
use Rattle.mv_extract.specs.Dividing.{candidates_of}
use Rattle.mv_extract.specs.Keeping.{AreBehind, IsBehind, IsSearch}
use Rattle.mv_extract.specs.Steps.{next_net}
use Rattle.mv_extract.proofs.Behind.{Stepped, tables_behind}

module _ (kind : Divisors) (nets : List (Option FlatNet)) where
  pub kernels_kept : (gains : List (List Part)) → IsSearch kind nets (kept.Kernels gains) → gains ≡ map covers_at nets
  kernels_kept gains s = by kind s
    where
      by : (k : Divisors) → IsSearch k nets (kept.Kernels gains) → gains ≡ map covers_at nets
      by kinds.Kernels s = s
      by kinds.Cubes s = absurd s

  pub cubes_kept : (gains : List (List (List Lit))) → IsSearch kind nets (kept.Cubes gains) → gains ≡ map cubes_at nets
  cubes_kept gains s = by kind s
    where
      by : (k : Divisors) → IsSearch k nets (kept.Cubes gains) → gains ≡ map cubes_at nets
      by kinds.Kernels s = absurd s
      by kinds.Cubes s = s

  pub kernels_again : (old new : List (List Part)) → IsSearch kind nets (kept.Kernels old) → new ≡ old → IsSearch kind nets (kept.Kernels new)
  kernels_again old new s same = subst (λ gains. IsSearch kind nets (kept.Kernels gains)) (sym same) s

  pub cubes_again : (old new : List (List (List Lit))) → IsSearch kind nets (kept.Cubes old) → new ≡ old → IsSearch kind nets (kept.Cubes new)
  cubes_again old new s same = subst (λ gains. IsSearch kind nets (kept.Cubes gains)) (sym same) s

  pub best_kernel : (gains : List (List Part)) (best : Option (List (List Lit))) → IsSearch kind nets (kept.Kernels gains) → MatchOption best (NoneSaves IsKernelCandidate nets) (IsBest IsKernelCandidate nets) → MatchOption best (NoneSaves (candidates_of kind) nets) (IsBest (candidates_of kind) nets)
  best_kernel gains best s b = by kind s
    where
      by : (k : Divisors) → IsSearch k nets (kept.Kernels gains) → MatchOption best (NoneSaves (candidates_of k) nets) (IsBest (candidates_of k) nets)
      by kinds.Kernels s = b
      by kinds.Cubes s = absurd s

  pub best_cube : (gains : List (List (List Lit))) (best : Option (List (List Lit))) → IsSearch kind nets (kept.Cubes gains) → MatchOption best (NoneSaves IsCubeCandidate nets) (IsBest IsCubeCandidate nets) → MatchOption best (NoneSaves (candidates_of kind) nets) (IsBest (candidates_of kind) nets)
  best_cube gains best s b = by kind s
    where
      by : (k : Divisors) → IsSearch k nets (kept.Cubes gains) → MatchOption best (NoneSaves (candidates_of k) nets) (IsBest (candidates_of k) nets)
      by kinds.Kernels s = absurd s
      by kinds.Cubes s = b

  pub kernels_behind : (d : NetId) (gains : List (List Part)) → IsBehind kind nets d (kept.Kernels gains) → AreBehind covers_at nets d gains
  kernels_behind d gains b = by kind b
    where
      by : (k : Divisors) → IsBehind k nets d (kept.Kernels gains) → AreBehind covers_at nets d gains
      by kinds.Kernels b = b
      by kinds.Cubes b = absurd b

  pub cubes_behind : (d : NetId) (gains : List (List (List Lit))) → IsBehind kind nets d (kept.Cubes gains) → AreBehind cubes_at nets d gains
  cubes_behind d gains b = by kind b
    where
      by : (k : Divisors) → IsBehind k nets d (kept.Cubes gains) → AreBehind cubes_at nets d gains
      by kinds.Kernels b = absurd b
      by kinds.Cubes b = b

  pub kernels_follow : (d : NetId) (old new : List (List Part)) → IsBehind kind nets d (kept.Kernels old) → new ≡ map covers_at nets → IsSearch kind nets (kept.Kernels new)
  kernels_follow d old new b are = by kind b
    where
      by : (k : Divisors) → IsBehind k nets d (kept.Kernels old) → IsSearch k nets (kept.Kernels new)
      by kinds.Kernels b = are
      by kinds.Cubes b = absurd b

  pub cubes_follow : (d : NetId) (old new : List (List (List Lit))) → IsBehind kind nets d (kept.Cubes old) → new ≡ map cubes_at nets → IsSearch kind nets (kept.Cubes new)
  cubes_follow d old new b are = by kind b
    where
      by : (k : Divisors) → IsBehind k nets d (kept.Cubes old) → IsSearch k nets (kept.Cubes new)
      by kinds.Kernels b = absurd b
      by kinds.Cubes b = are

-- behind a step it is of the nets before it
pub search_behind : (kind : Divisors) (a b : NetParts) (search : Search) → IsSearch kind a.nets search → Stepped a b → IsBehind kind b.nets (next_net a) search
search_behind kinds.Kernels a b (kept.Kernels gains) s step = subst (AreBehind covers_at b.nets (next_net a)) (sym s) (tables_behind covers_at a b refl step)
search_behind kinds.Kernels a b (kept.Cubes gains) s step = absurd s
search_behind kinds.Cubes a b (kept.Kernels gains) s step = absurd s
search_behind kinds.Cubes a b (kept.Cubes gains) s step = subst (AreBehind cubes_at b.nets (next_net a)) (sym s) (tables_behind cubes_at a b refl step)

-- ---- the nets whose tables a step changes

pub readers_below : (nets : List (Option FlatNet)) (key : ℕ) (readers : List NetId) → IsAscending (λ m. net_reads (slot nets m) key) readers → All (λ (n : NetId). n.0 < length nets) readers
readers_below nets key readers a =
    All-weaker (Contains readers) (λ (n : NetId). n.0 < length nets)
    (λ n i.
    elim (cases_lt n.0 (length nets)) [
      | inl low ↦ low
      | inr past ↦
          let here : has_id readers n.0 ≡ true = any_at (λ (m : NetId). nat_eq m.0 n.0) readers n i (eq-eqb n.0 n.0 refl) in
          let none : net_reads (slot nets n.0) key ≡ false = ap (λ f. net_reads f key) (get_or_past nets n.0 None past) in
          absurd (false≢true (sym none ∙ (sym (a.members n.0) ∙ here)))
    ]) readers (All-contains_itself readers)

pub held_below : (nets : List (Option FlatNet)) (d : NetId) → IsTrue (is_held nets d.0) → d.0 < length nets
held_below nets d held =
    elim (cases_lt d.0 (length nets)) [
      | inl low ↦ low
      | inr past ↦ absurd (false≢true (ap is_some (sym (get_or_past nets d.0 None past)) ∙ held))
    ]

pub changed_below : (nets : List (Option FlatNet)) (d : NetId) (readers list new : List NetId) → IsTrue (is_held nets d.0) → IsAscending (λ m. net_reads (slot nets m) d.0) readers → list ≡ readers → new ≡ list ++ d ∷ [] → All (λ (n : NetId). n.0 < length nets) new
changed_below nets d readers list new held a same are =
    subst (All (λ (n : NetId). n.0 < length nets)) (sym (are ∙ ap (λ (ns : List NetId). ns ++ d ∷ []) same))
    (All-push (λ (n : NetId). n.0 < length nets) readers d (readers_below nets d.0 readers a) (held_below nets d held))
