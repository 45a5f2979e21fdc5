-- Pairs are forgotten one after the other.
use Rattle.std.proofs.Common.{◌≡◌, ◌∙◌, ◌⊎◌, ℕ, ◌+◌, ◌<◌, true, nat_eq, Option, Some, None, List, length, take, get_or, is_some, refl, sym, ap, subst, ⊎_elim, eqb-true, inl, inr}
use Rattle.std.proofs.lemmas.Bool.{false≢true, or_cases}
use Rattle.mv_base.specs.declared.number.NetId.{NetId}
use Rattle.mv_graph.specs.Nets.{has_id}
use Rattle.mv_graph.proofs.Nets.{has_id-more}
use Rattle.mv_net.specs.declared.parts.FlatNet.{FlatNet}
use Rattle.mv_gain.specs.declared.kept.KeptComposites.{KeptComposites}
use Rattle.mv_gain.specs.declared.row.Pair.{Pair}
use Rattle.mv_gain.specs.Pairs.{kept_at, IsPart, IsForgotten, Forgets, ForgetsEach}

-- ---- what is forgotten stays so

pub part_of_part : (old mid new : KeptComposites) → IsPart old mid → IsPart mid new → IsPart old new
part_of_part old mid new p q = record { each = λ n m it h. p.each n m it (q.each n m it h); summed = λ all. q.summed (p.summed all); long = q.long ∙ p.long }

none_stays : (old new : KeptComposites) (n m : ℕ) → IsPart old new → kept_at old n m ≡ None → kept_at new n m ≡ None
none_stays old new n m part none = by (kept_at new n m) refl
  where
    by : (it : Option Pair) → kept_at new n m ≡ it → kept_at new n m ≡ None
    by None e = e
    by (Some it) e = absurd (false≢true (ap is_some (sym none ∙ part.each n m it e)))

pub forgotten_stays : (nets : List (Option FlatNet)) (n : ℕ) (old new : KeptComposites) → IsPart old new → IsForgotten nets n old → IsForgotten nets n new
forgotten_stays nets n old new part gone = record {
  itself = record { none = λ m. none_stays old new n m part (gone.itself.none m) };
  fanins = λ m reads. none_stays old new m n part (gone.fanins m reads);
}

-- ---- one more of a list

-- a member of the first so many and one more is one of the first, or that one
pub one_of_more : (list : List NetId) (i : ℕ) (d : NetId) (n : ℕ) → i < length list → has_id (take (i + 1) list) n ≡ true → (has_id (take i list) n ≡ true) ⊎ ((get_or list i d).0 ≡ n)
one_of_more list i d n low h =
    ⊎_elim
    (λ (before : has_id (take i list) n ≡ true). inl before)
    (λ (here : nat_eq (get_or list i d).0 n ≡ true). inr (eqb-true (get_or list i d).0 n here))
    (or_cases (has_id (take i list) n) (nat_eq (get_or list i d).0 n) (sym (has_id-more list i (get_or list i d) d n low refl) ∙ h))

-- ---- a net, and then each reader

-- what is kept of the others is no matter
pub part_forgets : (nets : List (Option FlatNet)) (n : ℕ) (old mid new : KeptComposites) → Forgets nets n old mid → IsPart mid new → Forgets nets n old new
part_forgets nets n old mid new before part = record { part = part_of_part old mid new before.part part; gone = forgotten_stays nets n mid new part before.gone }

pub forgets_more : (nets : List (Option FlatNet)) (n : ℕ) (list : List NetId) (i : ℕ) (d : NetId) (old mid new : KeptComposites) → i < length list
    → ForgetsEach nets n (take i list) old mid → Forgets nets (get_or list i d).0 mid new → ForgetsEach nets n (take (i + 1) list) old new
forgets_more nets n list i d old mid new low before now = record {
  first = record { part = part_of_part old mid new before.first.part now.part; gone = forgotten_stays nets n mid new now.part before.first.gone };
  each = λ m h.
      ⊎_elim
      (λ (earlier : has_id (take i list) m ≡ true). forgotten_stays nets m mid new now.part (before.each m earlier))
      (λ (here : (get_or list i d).0 ≡ m). subst (λ k. IsForgotten nets k new) here now.gone)
      (one_of_more list i d m low h);
}
