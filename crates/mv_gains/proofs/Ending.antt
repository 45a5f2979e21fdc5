-- The best of the list of all candidates is the best candidate.
use Rattle.std.proofs.Common.{◌≡◌, ◌∙◌, ℕ, ◌<◌, Option, Some, None, List, [], map, All, Contains, refl, sym, ap, subst, arith}
use Rattle.std.proofs.lemmas.List.Elements.{All-weaker, All-contains, All-contains_itself}
use Rattle.std.specs.Option.{MatchOption}
use Rattle.mv_cover.specs.Literal.{Lit}
use Rattle.mv_net.specs.declared.parts.FlatNet.{FlatNet}
use Rattle.mv_net.specs.Nets.{slot}
use Rattle.mv_kernels.specs.declared.kernel.Kernel.{Kernel}
use Rattle.mv_kernels.specs.Kernels.{IsKernelOf, HasFew}
use Rattle.mv_kernels.proofs.Lists.{Contains-map, Contains-from_map}
use Rattle.mv_divide.specs.declared.part.Part.{Part}
use Rattle.mv_gains.specs.Gains.{lines_at, covers_at, IsTableSaving, Saves}
use Rattle.mv_gains.specs.Candidates.{IsKernelCandidate, IsCubeCandidate, IsDivisorFor, IsBest, NoneSaves}
use Rattle.mv_gains.specs.Tables.{HasLines, IsDivisor, IsPartsSaving}
use Rattle.mv_gains.specs.Best.{IsSaved, IsNoBetter, IsChosen, SavesNothing}
use Rattle.mv_gains.specs.declared.kernels.Candidate.{Candidate}
use Rattle.mv_gains.specs.declared.leader.Offer.{Offer}
use Rattle.mv_gains.specs.Kernels.{AreCandidates, IsKernelOfTable}
use Rattle.mv_gains.specs.Leading.{offer}
use Rattle.mv_gains.specs.Cubes.{AreCubeCandidates}
use Rattle.mv_gains.proofs.Divisors.{kernel_divisor, cube_divisor, divisor_of}
use Rattle.mv_gains.proofs.Readers.{table_at}
use Rattle.mv_gains.proofs.Sums.{sum_weaker, sum_of_map, sum_to_map}

saves_is : (nets : List (Option FlatNet)) (d : List (List Lit)) (s : ℕ) → Saves nets d s → IsSaved (map covers_at nets) d s
saves_is nets d s h = record {
  gain = h.gain;
  is =
      sum_to_map covers_at (IsPartsSaving d) nets h.gain
      (sum_weaker (λ (f : Option FlatNet) (n : ℕ). IsTableSaving (lines_at f) d n) (λ (f : Option FlatNet) (n : ℕ). IsPartsSaving d (covers_at f) n) nets h.gain (λ f n i t. t.sum) h.is.sum);
  less = omega (arith, h.less);
}

is_saves : (nets : List (Option FlatNet)) (d : List (List Lit)) (s : ℕ) → 0 < s → IsSaved (map covers_at nets) d s → Saves nets d s
is_saves nets d s some h = record {
  gain = h.gain;
  is = record {
    sum =
        sum_weaker (λ (f : Option FlatNet) (n : ℕ). IsPartsSaving d (covers_at f) n) (λ (f : Option FlatNet) (n : ℕ). IsTableSaving (lines_at f) d n) nets h.gain (λ f n i t. record { sum = t })
        (sum_of_map covers_at (IsPartsSaving d) nets h.gain h.is);
  };
  some = some;
  less = omega (arith, h.less, some);
}

-- the list has the candidates, and no others
pub record AreAll (Candidate : List (Option FlatNet) → List (List Lit) → Type 0) (nets : List (Option FlatNet)) (list : List (List (List Lit))) : Type 0 where
  pub each : (d : List (List Lit)) → Contains list d → Candidate nets d
  pub all : (d : List (List Lit)) → Candidate nets d → Contains list d

module _ (Candidate : List (Option FlatNet) → List (List Lit) → Type 0) (nets : List (Option FlatNet)) (tables : List (List Part)) (list : List (List (List Lit))) (are : tables ≡ map covers_at nets) (a : AreAll Candidate nets list) where
  saved_of : (d : List (List Lit)) (s : ℕ) → Saves nets d s → IsSaved tables d s
  saved_of d s h = subst (λ (ts : List (List Part)). IsSaved ts d s) (sym are) (saves_is nets d s h)

  best_is : (d : List (List Lit)) → IsChosen tables list d → IsBest Candidate nets d
  best_is d c = record {
    candidate = a.each d c.there;
    saved = c.saved;
    saves = is_saves nets d c.saved c.some (subst (λ (ts : List (List Part)). IsSaved ts d c.saved) are c.is);
    most = λ e s candidate h. (All-contains (IsNoBetter tables d c.saved) list e c.each (a.all e candidate)).most s (saved_of e s h);
    least = λ e candidate h. (All-contains (IsNoBetter tables d c.saved) list e c.each (a.all e candidate)).least (saved_of e c.saved h);
  }

  none_is : All (SavesNothing tables) list → NoneSaves Candidate nets
  none_is n = record {
    none = λ d s candidate h.
        let zero = (All-contains (SavesNothing tables) list d n (a.all d candidate)).none s (saved_of d s h) in
        absurd (omega (arith, zero, h.some));
  }

  pub found_is : (best : Option (List (List Lit))) → MatchOption best (All (SavesNothing tables) list) (IsChosen tables list) → MatchOption best (NoneSaves Candidate nets) (IsBest Candidate nets)
  found_is None n = none_is n
  found_is (Some d) c = best_is d c

-- ---- kernels

kernel_to : (nets : List (Option FlatNet)) (k : List (List Lit)) (c : IsKernelCandidate nets k) → IsKernelOfTable (covers_at (slot nets c.net)) (record { cubes = k })
kernel_to nets k c =
    let same = c.there.is in
    record {
      from = c.there.part;
      there = c.there.there;
      is = record {
        few = subst HasFew (sym same) c.few;
        is = subst (λ (cover : List (List Lit)). IsKernelOf cover k) (sym same) c.is;
        symbols = c.symbols;
      };
    }

kernel_from : (nets : List (Option FlatNet)) (n : ℕ) (k : Kernel) → IsKernelOfTable (covers_at (slot nets n)) k → IsKernelCandidate nets k.cubes
kernel_from nets n k c = record {
  net = n;
  cover = c.from.cover;
  there = record { part = c.from; there = c.there; is = refl };
  few = c.is.few;
  is = c.is.is;
  symbols = c.is.symbols;
}

-- a candidate that is kept is one of the network
pub candidate_is : (nets : List (Option FlatNet)) (tables : List (List Part)) (list : List Candidate) (c : Candidate) → tables ≡ map covers_at nets → AreCandidates tables [] list → Contains list c → IsKernelCandidate nets c.kernel.cubes
candidate_is nets tables list c are a i =
    kernel_from nets c.table.0 c.kernel (subst (λ (ps : List Part). IsKernelOfTable ps c.kernel) (table_at covers_at refl nets tables are c.table.0) (a.each c i))

pub kernels_divide : (nets : List (Option FlatNet)) (tables : List (List Part)) (list : List Candidate) → tables ≡ map covers_at nets → All HasLines nets → AreCandidates tables [] list → All (λ (c : Candidate). IsDivisorFor nets c.kernel.cubes) list
kernels_divide nets tables list are good a =
    All-weaker (Contains list) (λ (c : Candidate). IsDivisorFor nets c.kernel.cubes) (λ c i. kernel_divisor nets c.kernel.cubes good (candidate_is nets tables list c are a i)) list (All-contains_itself list)

pub kernels_all : (nets : List (Option FlatNet)) (tables : List (List Part)) (list : List Candidate) → tables ≡ map covers_at nets → AreCandidates tables [] list → AreAll IsKernelCandidate nets (map (λ (o : Offer). o.divisor) (map offer list))
kernels_all nets tables list are a = record {
  each = λ d i.
      let m = Contains-from_map (λ (o : Offer). o.divisor) (map offer list) d i in
      let n = Contains-from_map offer list m.0 m.1 in
      subst (IsKernelCandidate nets) (sym (m.2 ∙ ap (λ (o : Offer). o.divisor) n.2)) (candidate_is nets tables list n.0 are a n.1);
  all = λ d c.
      let h = a.all c.net (record { cubes = d }) refl (subst (λ (ps : List Part). IsKernelOfTable ps (record { cubes = d })) (sym (table_at covers_at refl nets tables are c.net)) (kernel_to nets d c)) in
      subst (Contains (map (λ (o : Offer). o.divisor) (map offer list))) (ap (λ (k : Kernel). k.cubes) h.is)
      (Contains-map (λ (o : Offer). o.divisor) (map offer list) (offer h.candidate) (Contains-map offer list h.candidate h.there));
}

-- ---- cubes

pub cubes_all : (nets : List (Option FlatNet)) (list : List (List (List Lit))) → AreCubeCandidates nets list → AreAll IsCubeCandidate nets list
cubes_all nets list a = record { each = a.each; all = a.all }

pub cubes_divide : (nets : List (Option FlatNet)) (list : List (List (List Lit))) → All HasLines nets → AreCubeCandidates nets list → All IsDivisor list
cubes_divide nets list good a =
    All-weaker (Contains list) IsDivisor (λ d i. divisor_of nets d (cube_divisor nets d good (a.each d i))) list (All-contains_itself list)
