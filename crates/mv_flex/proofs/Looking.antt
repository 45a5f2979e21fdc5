-- A table's truth, looked up by the number of values, is what the table says.
use Rattle.std.proofs.Common.{◌≡◌, ◌∙◌, ℕ, zero, suc, ◌+◌, ◌<◌, ◌≤◌, Bool, true, false, ◌&&◌, nat_eq, List, [], ◌∷◌, ◌++◌, map, length, get_or, take, All, Option, IfSome, refl, sym, ap, subst, ⊎_elim, arith}
use Rattle.std.proofs.lemmas.Bool.{or_cases, or_left, or_right, eqb-true, eq-eqb, cases_lt}
use Rattle.std.proofs.lemmas.List.{get_or_append_left, get_or_push, length_push, length-map, map_push, take_more}
use Rattle.std.proofs.lemmas.List.Elements.{All-push}
use Rattle.mv_base.specs.declared.number.NetId.{NetId}
use Rattle.mv_graph.specs.Nets.{has_id, IsAscending}
use Rattle.mv_net.specs.declared.parts.FlatNet.{FlatNet}
use Rattle.mv_net.specs.Nets.{slot, values_in, reads_in}
use Rattle.mv_net.specs.Allowed.{net_allows}
use Rattle.mv_net.proofs.Local.{net_allows-local}
use Rattle.mv_flex.specs.declared.truth.Truth.{Truth}
use Rattle.mv_flex.specs.Spaces.{value_at, placed, digits, code, AreBelow, NetSpace}
use Rattle.mv_flex.specs.Plans.{counts_of, values_of, IsSpace, IsPart, IsInside, agrees_at, all_agree}
use Rattle.mv_flex.specs.Truths.{Tells, IsTruth, truths_agree, AreTruths}
use Rattle.mv_flex.proofs.Numbering.{value_at-map, below-length, digits-code}
use Rattle.mv_flex.proofs.Assigning.{below_from, value_at-below}
use Rattle.mv_flex.proofs.Held.{has_head}

-- the values of all nets are as many as the nets
long_point : (nets : List (Option FlatNet)) (ns : List NetId) (vs : List ℕ) → AreBelow (counts_of nets ns) vs → length vs ≡ length ns
long_point nets ns vs below = below-length (counts_of nets ns) vs below ∙ length-map ns (λ (m : NetId). values_in (slot nets m.0))

-- where each net has one of its values, so have some of them
pub part_below : (nets : List (Option FlatNet)) (ns : List NetId) (s : NetSpace) (places vs : List ℕ) → IsPart nets ns s places → AreBelow (counts_of nets ns) vs → AreBelow s.counts (placed places vs)
part_below nets ns s places vs part below =
    subst (λ l. AreBelow s.counts l) (sym (part.seen vs (long_point nets ns vs below)))
    (subst (λ l. AreBelow l (values_of (value_at ns vs) s.nets)) (sym part.space.counts)
    (below_from (λ m. values_in (slot nets m)) (value_at ns vs) s.nets (λ m h. value_at-below (λ k. values_in (slot nets k)) ns vs m below (part.within m h))))

-- the number of the values of some nets
pub part_code : (nets : List (Option FlatNet)) (ns : List NetId) (s : NetSpace) (places vs : List ℕ) → IsPart nets ns s places → AreBelow (counts_of nets ns) vs → code s.counts (placed places vs) ≡ code s.counts (values_of (value_at ns vs) s.nets)
part_code nets ns s places vs part below = ap (code s.counts) (part.seen vs (long_point nets ns vs below))

-- what is told by the number of the values is what the table says at these
pub looked_up : (nets : List (Option FlatNet)) (ns : List NetId) (t : Truth) (vs : List ℕ) (marks : List Bool) (number : ℕ) → IsTruth nets ns t → AreBelow (counts_of nets ns) vs → Tells nets t.net.0 t.space t.space.size marks → number ≡ code t.space.counts (placed t.places vs) → number < t.space.size → get_or marks number false ≡ agrees_at nets ns vs t.net.0
looked_up nets ns t vs marks number truth below tells is low =
    tells.each number low
    ∙ ap (λ l. agrees_at nets t.space.nets l t.net.0) values
    ∙ net_allows-local (slot nets t.net.0) (value_at t.space.nets (values_of (value_at ns vs) t.space.nets)) (value_at ns vs) (value_at t.space.nets (values_of (value_at ns vs) t.space.nets) t.net.0) (λ k r. there k (truth.reads k r))
    ∙ ap (net_allows (slot nets t.net.0) (value_at ns vs)) (there t.net.0 truth.here)
  where
    values : digits t.space.counts number ≡ values_of (value_at ns vs) t.space.nets
    values =
        ap (digits t.space.counts) is
        ∙ digits-code t.space.counts (placed t.places vs) (part_below nets ns t.space t.places vs truth.part below)
        ∙ truth.part.seen vs (long_point nets ns vs below)

    there : (k : ℕ) → has_id t.space.nets k ≡ true → value_at t.space.nets (values_of (value_at ns vs) t.space.nets) k ≡ value_at ns vs k
    there k h = value_at-map (value_at ns vs) t.space.nets k h

-- ---- making it

-- one number of values more
pub tells_more : (nets : List (Option FlatNet)) (m : ℕ) (s : NetSpace) (k : ℕ) (marks new : List Bool) (b : Bool) → Tells nets m s k marks → b ≡ agrees_at nets s.nets (digits s.counts k) m → new ≡ marks ++ b ∷ [] → Tells nets m s (k + 1) new
tells_more nets m s k marks new b tells e n = record {
  long = ap length n ∙ length_push marks b ∙ ap (λ j. j + 1) tells.long;
  each = λ i low.
      ap (λ l. get_or l i false) n
      ∙ ⊎_elim
      (λ (less : i < k). get_or_append_left marks (b ∷ []) false i (subst (λ j. i < j) (sym tells.long) less) ∙ tells.each i less)
      (λ (last : k ≤ i).
      let same : i ≡ k = omega (arith, last, low) in
      get_or_push marks b false i (tells.long ∙ sym same) ∙ e ∙ ap (λ j. agrees_at nets s.nets (digits s.counts j) m) (sym same))
      (cases_lt i k);
}

-- the truth of a net's table with the space of the net and its fanins
pub truth_made : (nets : List (Option FlatNet)) (ns : List NetId) (n : NetId) (fs list some : List NetId) (s : NetSpace) (places : List ℕ) (marks : Option (List Bool)) → IsInside nets ns n.0 → IsAscending (λ k. reads_in nets n.0 k) fs → IsSpace nets list s → list ≡ n ∷ fs → some ≡ s.nets → ((vs : List ℕ) → length vs ≡ length ns → placed places vs ≡ values_of (value_at ns vs) some) → IfSome marks (Tells nets n.0 s s.size) → IsTruth nets ns (record { net = n; space = s; places = places; marks = marks })
truth_made nets ns n fs list some s places marks inside reads space is all seen told = record {
  part = record {
    space = record { list = refl; counts = space.counts ∙ ap (counts_of nets) (sym space.list); counted = space.counted };
    within = λ m h.
        ⊎_elim
        (λ (y : nat_eq n.0 m ≡ true). ap (has_id ns) (sym (eqb-true n.0 m y)) ∙ inside.here)
        (λ (f : has_id fs m ≡ true). inside.reads m (sym (reads.members m) ∙ f))
        (or_cases (nat_eq n.0 m) (has_id fs m) (sym (of_list m) ∙ h));
    seen = λ vs e. seen vs e ∙ ap (values_of (value_at ns vs)) all;
  };
  held = inside.held;
  here = of_list n.0 ∙ has_head n fs;
  reads = λ k r. of_list k ∙ or_right (nat_eq n.0 k) (has_id fs k) (reads.members k ∙ r);
  marks = told;
}
  where
    of_list : (m : ℕ) → has_id s.nets m ≡ has_id (n ∷ fs) m
    of_list m = ap (λ l. has_id l m) (space.list ∙ is)

-- ---- several tables

-- a net of a list is one of its nets
pub has_at : (ns : List NetId) (i : ℕ) (d : NetId) → i < length ns → has_id ns (get_or ns i d).0 ≡ true
has_at [] i d low = absurd (omega (arith, low))
has_at (n ∷ ns) zero d low = has_head n ns
has_at (n ∷ ns) (suc i) d low = or_right (nat_eq n.0 (get_or ns i d).0) (has_id ns (get_or ns i d).0) (has_at ns i d (omega (arith, low)))

-- one table more
pub truths_more : (nets : List (Option FlatNet)) (ns others : List NetId) (truths new : List Truth) (i : ℕ) (d : NetId) (t : Truth) → AreTruths nets ns (take i others) truths → i < length others → t.net ≡ get_or others i d → IsTruth nets ns t → new ≡ truths ++ t ∷ [] → AreTruths nets ns (take (i + 1) others) new
truths_more nets ns others truths new i d t are low e truth n = record {
  of =
      ap (map (λ (k : Truth). k.net)) n
      ∙ map_push (λ (k : Truth). k.net) truths t
      ∙ (λ j. are.of j ++ e j ∷ [])
      ∙ sym (take_more others i d low);
  each = subst (λ l. All (IsTruth nets ns) l) (sym n) (All-push (IsTruth nets ns) truths t are.each truth);
}

-- the truths agree where the tables do
pub truths_say : (nets : List (Option FlatNet)) (ns tables : List NetId) (truths : List Truth) (vs : List ℕ) → map (λ (t : Truth). t.net) truths ≡ tables → truths_agree nets truths ns vs ≡ all_agree nets tables ns vs
truths_say nets ns tables truths vs e = each truths ∙ ap (λ l. all_agree nets l ns vs) e
  where
    each : (ts : List Truth) → truths_agree nets ts ns vs ≡ all_agree nets (map (λ (t : Truth). t.net) ts) ns vs
    each [] = refl
    each (t ∷ ts) = ap (λ b. agrees_at nets ns vs t.net.0 && b) (each ts)
