-- Reset values and the latches above them, by name and by number.
use Rattle.std.proofs.Common.{◌≡◌, ℕ, suc, ◌+◌, ◌<◌, true, List, [], ◌∷◌, ◌++◌, length, get_or, take, drop, Option, Some, None, refl, sym, ◌∙◌, ap, subst}
use Rattle.std.proofs.Common.{arith, ⊎_elim, inl, inr, All}
use Rattle.std.specs.List.{slice_get, Contains}
use Rattle.std.proofs.Math.Seq.{drop-cons}
use Rattle.std.proofs.lemmas.List.{length-take, length-map, take-append-drop}
use Rattle.std.proofs.lemmas.Option.{slice_get_within, get_or_from_slice_get}
use Rattle.mv_base.specs.Names.{among}
use Rattle.mv_base.specs.declared.number.NetId.{NetId}
use Rattle.mv_base.proofs.Lists.{get_front}
use Rattle.mv_base.proofs.NameLemmas.{IsPlace-from_among}
use Rattle.mv_design.specs.declared.design.FileModel.{FileModel}
use Rattle.mv_design.specs.declared.table.FileTable.{FileTable}
use Rattle.mv_design.specs.Nets.{drivers, latch_outputs, output_of}
use Rattle.mv_fault.specs.declared.flat.FlatFault.{FlatFault}
use Rattle.mv_fault.specs.declared.flat.FlatFault.TheVariants.{ResetReadsLatch, Memory}
use Rattle.mv_graph.specs.Above.{IsAbove, reads_by}
use Rattle.mv_graph.specs.Nets.{has_id}
use Rattle.mv_graph.proofs.Nets.{has_id-at}
use Rattle.mv_acyclic.specs.Alone.{IsBetween, IsFound, IsNumberAbove, IsLeast, AreLatchesAbove, IsReading, TellsAlone, TellsReading, least_from}
use Rattle.mv_acyclic.specs.Columns.{columns_by_net}
use Rattle.mv_acyclic.specs.Numbers.{number_in, numbers_in}
use Rattle.mv_acyclic.specs.Sound.{reads, IsAboveReset, IsDrivenOnce, IsFirstReading, StandsAlone}
use Rattle.mv_acyclic.proofs.Commands.{named_is_net, reset_named}
use Rattle.mv_acyclic.proofs.Distinct.{net_is_driven}
use Rattle.mv_acyclic.proofs.Latches.{latch_listed, latch_number}
use Rattle.mv_acyclic.proofs.Least.{IsLeast-same, least_from-least}
use Rattle.mv_acyclic.proofs.Listed.{IsNumber-among, has_number, name_at, numbered_by}
use Rattle.mv_acyclic.proofs.Soundness.{in_left}
use Rattle.mv_acyclic.proofs.Turns.{name, above_by_name, above_by_number, model_length}

abbrev columns_of : FileModel → List (List NetId)
columns_of m = columns_by_net (drivers m) m

abbrev end_of : FileModel → ℕ
end_of m = length m.inputs + length m.latches

-- ---- by name and by number

latch_within : (m : FileModel) (w : List ℕ) → IsDrivenOnce m → among w (latch_outputs m) ≡ true
    → IsBetween (length m.inputs) (end_of m) (number_in (drivers m) w)
latch_within m w d h =
    let p = IsPlace-from_among w (latch_outputs m) h in
    let e = latch_number m p.0 w d p.1.found in
    let l = p.1.within in
    let s = length-map m.latches (λ x. x.output) in
    record { from = omega arith; below = omega arith }

found_by_number : (m : FileModel) (reset : FileTable) (w : List ℕ) → IsDrivenOnce m → among w (latch_outputs m) ≡ true → IsAboveReset m reset w
    → IsNumberAbove m reset (number_in (drivers m) w)
found_by_number m reset w d l a = record {
  net = number_in (drivers m) a.column;
  listed = has_number (drivers m) reset.inputs a.column a.listed;
  found = record {
    within = latch_within m w d l;
    above =
        ⊎_elim (λ (e : w ≡ a.column). inl (ap (number_in (drivers m)) e))
        (λ (b : IsAbove (reads m) w a.column). inr (above_by_number m (columns_of m) w a.column d refl b)) a.above;
  };
}

input_driven : (m : FileModel) (reset : FileTable) (w : List ℕ) → IsDrivenOnce m → Contains m.resets reset → among w reset.inputs ≡ true
    → among w (drivers m) ≡ true
input_driven m reset w d c h = net_is_driven m w d (named_is_net m w (reset_named m reset w c (in_left w reset.inputs reset.outputs h)))

found_by_name : (m : FileModel) (reset : FileTable) (k : ℕ) → IsDrivenOnce m → Contains m.resets reset → IsNumberAbove m reset k
    → IsAboveReset m reset (name m k)
found_by_name m reset k d c f =
    let n = numbered_by (drivers m) reset.inputs f.net f.listed in
    let is : name m f.net ≡ n.name = ap (name m) (sym n.number) ∙ name_at (drivers m) n.name (input_driven m reset n.name d c n.among_them) in
    record {
      column = n.name;
      listed = n.among_them;
      above =
          ⊎_elim (λ (e : k ≡ f.net). inl (ap (name m) e ∙ is))
          (λ (a : IsAbove (reads_by (columns_of m)) k f.net). inr (subst (IsAbove (reads m) (name m k)) is (above_by_name m (columns_of m) k f.net d refl a)))
          f.found.above;
    }

-- ---- the least

-- the numbers of what a reset table reads are those of driven nets
inputs_below : (m : FileModel) (reset : FileTable) (n : ℕ) → IsDrivenOnce m → Contains m.resets reset → has_id (numbers_in (drivers m) reset.inputs) n ≡ true
    → n < length (columns_of m)
inputs_below m reset n d c h =
    let b = numbered_by (drivers m) reset.inputs n h in
    let l = (IsNumber-among (drivers m) b.name (input_driven m reset b.name d c b.among_them)).within in
    let s = model_length m (columns_of m) d refl in
    let e = b.number in
    omega arith

pub inputs_small : (m : FileModel) (reset : FileTable) → IsDrivenOnce m → Contains m.resets reset
    → All (λ (n : NetId). n.0 < length (columns_of m)) (numbers_in (drivers m) reset.inputs)
inputs_small m reset d c k e lt =
    inputs_below m reset (get_or (numbers_in (drivers m) reset.inputs) k e).0 d c (has_id-at (numbers_in (drivers m) reset.inputs) k e lt)

-- what stands at them has the first latch output above the reset value
least_at : (m : FileModel) (reset : FileTable) (above : List (Option NetId)) → IsDrivenOnce m → Contains m.resets reset → AreLatchesAbove m above
    → IsLeast (IsNumberAbove m reset) (least_from above None (numbers_in (drivers m) reset.inputs))
least_at m reset above d c a =
    let P : ℕ → Type 0 = λ k. ⊥ in
    let none : IsLeast P None = record { some = tt; least = tt; none = λ k p. p } in
    IsLeast-same _ (IsNumberAbove m reset) _ (λ k h. ⊎_elim (λ (p : ⊥). absurd p) (λ (f : IsNumberAbove m reset k). f) h) (λ k f. inr f)
    (least_from-least P (IsFound (columns_of m) (length m.inputs) (end_of m)) above None (numbers_in (drivers m) reset.inputs) none
    (λ n h. a.each n (inputs_below m reset n d c h)))

pub least_read : (m : FileModel) (reset : FileTable) (above : List (Option NetId)) (inputs : List NetId) (o : Option NetId) → IsDrivenOnce m
    → Contains m.resets reset → AreLatchesAbove m above → inputs ≡ numbers_in (drivers m) reset.inputs
    → o ≡ least_from above None inputs → IsLeast (IsNumberAbove m reset) o
least_read m reset above inputs o d c a e f = subst (IsLeast (IsNumberAbove m reset)) (sym (f ∙ ap (least_from above None) e)) (least_at m reset above d c a)

-- where there is none, the reset value stands apart from the latches
pub alone_from_none : (m : FileModel) (reset : FileTable) → IsDrivenOnce m → IsLeast (IsNumberAbove m reset) None → StandsAlone m reset
alone_from_none m reset d l latch h a = l.none (number_in (drivers m) latch) (found_by_number m reset latch d h a)

-- the place of a latch output that is above a reset value
pub least_within : (m : FileModel) (reset : FileTable) (net : NetId) → IsLeast (IsNumberAbove m reset) (Some net) → IsBetween (length m.inputs) (end_of m) net.0
least_within m reset net l = l.some.found.within

taken_place : (ws : List (List ℕ)) (place : ℕ) (w : List ℕ) → among w (take place ws) ≡ true → (j : ℕ) × (j < place) × (slice_get ws j ≡ Some w)
taken_place ws place w h =
    let p = IsPlace-from_among w (take place ws) h in
    let l = p.1.within in
    let s = length-take place ws in
    (p.0, omega arith, ap (λ us. slice_get us p.0) (sym (take-append-drop place ws)) ∙ (get_front (take place ws) (drop place ws) p.0 p.1.within ∙ p.1.found))

taken_among : (ws : List (List ℕ)) (place : ℕ) (w : List ℕ) → among w (take place ws) ≡ true → among w ws ≡ true
taken_among ws place w h = ap (among w) (sym (take-append-drop place ws)) ∙ in_left w (take place ws) (drop place ws) h

-- a list with an element at a place
split_at : {X : Type 0} (xs : List X) (place : ℕ) (x : X) → place < length xs → get_or xs place x ≡ x → xs ≡ take place xs ++ x ∷ drop (suc place) xs
split_at xs place x lt is = sym (take-append-drop place xs) ∙ ap (λ ys. take place xs ++ ys) (drop-cons xs place x lt ∙ ap (λ y. y ∷ drop (suc place) xs) is)

-- else the least is the number of the first latch output above it
pub reading : (m : FileModel) (reset : FileTable) (net : NetId) (place : ℕ) (latch reached : List ℕ) → IsDrivenOnce m → Contains m.resets reset
    → IsLeast (IsNumberAbove m reset) (Some net)
    → net.0 ≡ length m.inputs + place → latch ≡ output_of reset → slice_get (latch_outputs m) place ≡ Some reached → IsReading m reset latch reached
reading m reset net place latch reached d c l e is at = record {
  is = is;
  lower = take place (latch_outputs m);
  higher = drop (suc place) (latch_outputs m);
  listed = split_at (latch_outputs m) place reached (slice_get_within (latch_outputs m) place reached at)
      (get_or_from_slice_get (latch_outputs m) place reached reached at);
  above =
      subst (IsAboveReset m reset) (ap (name m) e ∙ get_or_from_slice_get (drivers m) (length m.inputs + place) reached [] (latch_listed m place reached at))
      (found_by_name m reset net.0 d c l.some);
  least = λ w h a.
      let j = taken_place (latch_outputs m) place w h in
      let n = latch_number m j.0 w d j.2 in
      let low = l.least (number_in (drivers m) w) (found_by_number m reset w d (taken_among (latch_outputs m) place w h) a) in
      let less = j.1 in
      absurd (omega arith);
}

-- ---- reset table by reset table

first_reading : (m : FileModel) (i : ℕ) (reset : FileTable) (latch reached : List ℕ) → i < length m.resets → reset ≡ get_or m.resets i reset
    → All (StandsAlone m) (take i m.resets) → IsReading m reset latch reached → IsFirstReading m latch reached
first_reading m i reset latch reached lt is all r = record {
  reset = reset;
  before = take i m.resets;
  after = drop (suc i) m.resets;
  place = split_at m.resets i reset lt (sym is);
  is = r.is;
  earlier = all;
  lower = r.lower;
  higher = r.higher;
  listed = r.listed;
  above = r.above;
  least = r.least;
}

told_at : (m : FileModel) (i : ℕ) (reset : FileTable) (f : FlatFault) → i < length m.resets → reset ≡ get_or m.resets i reset
    → All (StandsAlone m) (take i m.resets) → TellsReading m reset f → TellsAlone m f
told_at m i reset (ResetReadsLatch latch reached) lt is all t = first_reading m i reset latch reached lt is all t
told_at m i reset Memory lt is all t = tt
told_at m i reset _ lt is all t = absurd t

-- what the first reset table with a latch above its reset value reads is told of the model
pub reading_told : (m : FileModel) (resets : List FileTable) (i : ℕ) (reset : FileTable) (f : FlatFault) → resets ≡ m.resets → i < length resets
    → reset ≡ get_or resets i reset → All (StandsAlone m) (take i resets) → TellsReading m reset f → TellsAlone m f
reading_told m resets i reset f e lt is all t =
    let P : List FileTable → Type 0 = λ rs. i < length rs → reset ≡ get_or rs i reset → All (StandsAlone m) (take i rs) → TellsAlone m f in
    subst P (sym e) (λ l r s. told_at m i reset f l r s t) lt is all
