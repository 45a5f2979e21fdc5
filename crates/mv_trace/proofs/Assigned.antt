-- A step is allowed where some assignment has the values that it gives.
use Rattle.std.proofs.Common.{◌≡◌, ◌∙◌, ℕ, zero, suc, ◌+◌, ◌<◌, true, Option, Some, None, IsTrue, List, [], ◌∷◌, ◌++◌, length, map, get_or, refl, sym, ap, subst, arith}
use Rattle.std.specs.Prelude.{slice_get, nat_lt}
use Rattle.std.specs.List.{All, AllByRecursion, zip}
use Rattle.std.proofs.lemmas.Bool.{and_parts, ltb-true}
use Rattle.std.proofs.lemmas.List.{length-map}
use Rattle.std.proofs.lemmas.Slice.Zip.{AllZip-long}
use Rattle.std.proofs.lemmas.List.Elements.{All-from_recursion, recursion_from_All, All-get_or}
use Rattle.std.proofs.lemmas.Option.{slice_get_within, slice_get-get_or, get_or_from_slice_get}
use Rattle.mv_base.specs.declared.number.NetId.{NetId}
use Rattle.mv_net.specs.declared.parts.FlatNet.{FlatNet}
use Rattle.mv_net.specs.declared.parts.FlatLatch.{FlatLatch}
use Rattle.mv_net.specs.declared.parts.NetParts.{NetParts}
use Rattle.mv_net.specs.Nets.{slot, values_in}
use Rattle.mv_net.specs.Formed.{AllLatches, WellFormed, latch_outputs}
use Rattle.mv_net.specs.Allowed.{Agrees, Allows, net_allows, net_table_allows, reset_gives, resets_give, of_net}
use Rattle.mv_trace.specs.declared.run.RunStep.{RunStep}
use Rattle.mv_trace.specs.Allowed.{StepAllowed}
use Rattle.mv_trace.specs.Given.{IsValueOf, IsStepOf, column_values, reset_value, reset_values, first_values, own_values, next_values, given_values, Shows, IsShown}

-- the assignment has these values
abbrev Has : (ℕ → ℕ) → List (ℕ × ℕ) → Type 0
Has at given = AllByRecursion (λ (p : ℕ × ℕ). at p.0 ≡ p.1) given

has-both : (at : ℕ → ℕ) (a b : List (ℕ × ℕ)) → Has at a → Has at b → Has at (a ++ b)
has-both at [] b h k = k
has-both at (p ∷ a) b h k = (h.0, has-both at a b h.1 k)

has-left : (at : ℕ → ℕ) (a b : List (ℕ × ℕ)) → Has at (a ++ b) → Has at a
has-left at [] b h = tt
has-left at (p ∷ a) b h = (h.0, has-left at a b h.1)

has-right : (at : ℕ → ℕ) (a b : List (ℕ × ℕ)) → Has at (a ++ b) → Has at b
has-right at [] b h = h
has-right at (p ∷ a) b h = has-right at a b h.1

-- ---- values of numbers

has-own : {X : Type 0} (number : X → ℕ) (at : ℕ → ℕ) (xs : List X) → Has at (zip (map number xs) (map (λ (x : X). at (number x)) xs))
has-own number at [] = tt
has-own number at (x ∷ xs) = (refl, has-own number at xs)

-- values that an assignment has
has-from_map : {X : Type 0} (number : X → ℕ) (at : ℕ → ℕ) (xs : List X) (vs : List ℕ) → map (λ (x : X). at (number x)) xs ≡ vs → Has at (zip (map number xs) vs)
has-from_map number at xs vs e =
    let P : List ℕ → Type 0 = λ ws. Has at (zip (map number xs) ws) in
    subst P e (has-own number at xs)

-- and the other way round, where there are as many
map-from_has : {X : Type 0} (number : X → ℕ) (at : ℕ → ℕ) (xs : List X) (vs : List ℕ) → length vs ≡ length xs → Has at (zip (map number xs) vs) → map (λ (x : X). at (number x)) xs ≡ vs
map-from_has number at [] [] e h = refl
map-from_has number at [] (v ∷ vs) e h = absurd (omega arith)
map-from_has number at (x ∷ xs) [] e h = absurd (omega arith)
map-from_has number at (x ∷ xs) (v ∷ vs) e h =
    let rest = map-from_has number at xs vs (omega arith) h.1 in
    λ i. h.0 i ∷ rest i

-- ---- resets

has-reset : (nets : List (Option FlatNet)) (at : ℕ → ℕ) (output : NetId) (r : Option NetId) (v : ℕ) → reset_gives nets at output r v → Has at (reset_value r v)
has-reset nets at output None v g = tt
has-reset nets at output (Some n) v g = (sym g, tt)

has-resets : (nets : List (Option FlatNet)) (at : ℕ → ℕ) (ls : List FlatLatch) (vs : List ℕ) → resets_give nets at ls vs → Has at (reset_values ls vs)
has-resets nets at [] vs g = tt
has-resets nets at (l ∷ ls) [] g = tt
has-resets nets at (l ∷ ls) (v ∷ vs) g =
    has-both at (reset_value l.reset v) (reset_values ls vs) (has-reset nets at l.output l.reset v g.0) (has-resets nets at ls vs g.1)

-- the value of a held net is one of its values
value_below : (nets : List (Option FlatNet)) (at : ℕ → ℕ) (n : ℕ) (f : FlatNet) → Agrees nets at → slot nets n ≡ Some f → at n < values_in (slot nets n)
value_below nets at n f agrees held =
    let P : Option FlatNet → Type 0 = λ g. IsTrue (net_allows g at (at n)) in
    let yes : net_allows (Some f) at (at n) ≡ true = subst P held (agrees.each n) in
    let low : at n < f.values = ltb-true (at n) f.values (and_parts (nat_lt (at n) f.values) (net_table_allows f.table at (at n)) yes).0 in
    let same : values_in (slot nets n) ≡ f.values = ap values_in held in
    omega arith

gives-reset : (nets : List (Option FlatNet)) (at : ℕ → ℕ) (output : NetId) (r : Option NetId) (v : ℕ) → at output.0 < values_in (slot nets output.0) → at output.0 ≡ v → Has at (reset_value r v) → reset_gives nets at output r v
gives-reset nets at output None v low e h = omega arith
gives-reset nets at output (Some n) v low e h = sym h.0

gives-resets : (nets : List (Option FlatNet)) (at : ℕ → ℕ) (ls : List FlatLatch) (vs : List ℕ) → Agrees nets at → AllLatches nets ls → map (λ (l : FlatLatch). at l.output.0) ls ≡ vs → Has at (reset_values ls vs) → resets_give nets at ls vs
gives-resets nets at [] [] agrees all e h = tt
gives-resets nets at [] (v ∷ vs) agrees all e h = cc
gives-resets nets at (l ∷ ls) [] agrees all e h = cc
gives-resets nets at (l ∷ ls) (v ∷ vs) agrees all e h =
    let here : at l.output.0 ≡ v = cc in
    let rest : map (λ (m : FlatLatch). at m.output.0) ls ≡ vs = cc in
    let low = value_below nets at l.output.0 all.0.output.net agrees all.0.output.held in (
      gives-reset nets at l.output l.reset v low here (has-left at (reset_value l.reset v) (reset_values ls vs) h),
      gives-resets nets at ls vs agrees all.1 rest (has-right at (reset_value l.reset v) (reset_values ls vs) h),
    )

-- the reset values of an assignment
abbrev reset_at : (ℕ → ℕ) → NetId → Option NetId → ℕ
reset_at at output None = at output.0
reset_at at output (Some n) = at n.0

abbrev resets_at : (ℕ → ℕ) → List FlatLatch → List ℕ
resets_at at ls = map (λ (l : FlatLatch). reset_at at l.output l.reset) ls

own-reset : (nets : List (Option FlatNet)) (at : ℕ → ℕ) (output : NetId) (r : Option NetId) → at output.0 < values_in (slot nets output.0) → reset_gives nets at output r (reset_at at output r)
own-reset nets at output None low = low
own-reset nets at output (Some n) low = refl

own-resets : (nets : List (Option FlatNet)) (at : ℕ → ℕ) (ls : List FlatLatch) → Agrees nets at → AllLatches nets ls → resets_give nets at ls (resets_at at ls)
own-resets nets at [] agrees all = tt
own-resets nets at (l ∷ ls) agrees all =
    let low = value_below nets at l.output.0 all.0.output.net agrees all.0.output.held in
    (own-reset nets at l.output l.reset low, own-resets nets at ls agrees all.1)

-- reset values of an assignment, which are these values at the first step
record Resets (nets : List (Option FlatNet)) (at : ℕ → ℕ) (ls : List FlatLatch) (k : ℕ) (values : List ℕ) : Type 0 where
  resets : List ℕ
  give : resets_give nets at ls resets
  begins : k ≡ 0 → resets ≡ values

resets_of : (net : NetParts) (at : ℕ → ℕ) (k : ℕ) (s : RunStep) → WellFormed net → Agrees net.nets at → map (λ (l : FlatLatch). at l.output.0) net.latches ≡ s.latches → Has at (first_values net k s) → Resets net.nets at net.latches k s.latches
resets_of net at zero s formed agrees e h = record {
  resets = s.latches;
  give = gives-resets net.nets at net.latches s.latches agrees formed.latches e h;
  begins = λ _. refl;
}
resets_of net at (suc k) s formed agrees e h = record {
  resets = resets_at at net.latches;
  give = own-resets net.nets at net.latches agrees formed.latches;
  begins = λ zero_is. absurd (omega arith);
}

-- ---- a step

first-has : (net : NetParts) (at : ℕ → ℕ) (k : ℕ) (s : RunStep) (resets : List ℕ) → resets_give net.nets at net.latches resets → (k ≡ 0 → resets ≡ s.latches) → Has at (first_values net k s)
first-has net at zero s resets give begins =
    let P : List ℕ → Type 0 = λ vs. Has at (reset_values net.latches vs) in
    subst P (begins refl) (has-resets net.nets at net.latches resets give)
first-has net at (suc k) s resets give begins = tt

abbrev number : NetId → ℕ
number n = n.0

abbrev output_number : FlatLatch → ℕ
output_number l = l.output.0

abbrev input_number : FlatLatch → ℕ
input_number l = l.input.0

columns-has : (net : NetParts) (s : RunStep) (n r : List ℕ) (a : Allows net s.inputs s.latches s.outputs n r) → Has a.at (column_values net s)
columns-has net s n r a =
    let latches = zip (map output_number net.latches) s.latches in
    let outputs = zip (map number net.outputs) s.outputs in
    has-both a.at (zip (map number net.inputs) s.inputs) (latches ++ outputs) (has-from_map number a.at net.inputs s.inputs a.inputs)
    (has-both a.at latches outputs (has-from_map output_number a.at net.latches s.latches a.states) (has-from_map number a.at net.outputs s.outputs a.outputs))

-- a step has as many values as there are nets
record Sizes (net : NetParts) (s : RunStep) : Type 0 where
  inputs : length s.inputs ≡ length net.inputs
  latches : length s.latches ≡ length net.latches
  outputs : length s.outputs ≡ length net.outputs

sizes : (net : NetParts) (s : RunStep) → IsStepOf net s → Sizes net s
sizes net s is = record {
  inputs = AllZip-long (IsValueOf net.nets) net.inputs s.inputs is.inputs;
  latches = AllZip-long (IsValueOf net.nets) (latch_outputs net.latches) s.latches is.latches ∙ length-map net.latches (λ (l : FlatLatch). l.output);
  outputs = AllZip-long (IsValueOf net.nets) net.outputs s.outputs is.outputs;
}

-- an allowed step has an assignment
pub assigned : (net : NetParts) (run : List RunStep) (k : ℕ) → StepAllowed (of_net net) run k → IsShown net (given_values net run k)
unfolding of_net given_values
assigned net run k allowed =
    let a : Allows net allowed.step.inputs allowed.step.latches allowed.step.outputs allowed.next allowed.resets = allowed.allowed in
    let P : Option RunStep → Type 0 = λ o. Has a.at (own_values net k o) in
    let own : Has a.at (own_values net k (slice_get run k)) = subst P (sym allowed.at)
    (has-both a.at (column_values net allowed.step) (first_values net k allowed.step) (columns-has net allowed.step allowed.next allowed.resets a) (first-has net a.at k allowed.step allowed.resets a.resets allowed.begins)) in
    record {
      at = a.at;
      shows = record { agrees = a.agrees; has = All-from_recursion (λ (p : ℕ × ℕ). a.at p.0 ≡ p.1) _ (has-both a.at (own_values net k (slice_get run k)) (next_values net (slice_get run (k + 1))) own (by_next a (slice_get run (k + 1)) refl)) };
    }
  where
    by_next : (a : Allows net allowed.step.inputs allowed.step.latches allowed.step.outputs allowed.next allowed.resets) (o : Option RunStep) → slice_get run (k + 1) ≡ o → Has a.at (next_values net o)
    by_next a None e = tt
    by_next a (Some after) e = has-from_map input_number a.at net.latches after.latches (a.next ∙ allowed.goes_on after e)

-- a step without values
abbrev empty_step : RunStep
empty_step = record { inputs = []; latches = []; outputs = [] }

-- and a step with an assignment is allowed
pub allowed : (net : NetParts) (run : List RunStep) (k : ℕ) → WellFormed net → All (IsStepOf net) run → k < length run → (at : ℕ → ℕ) → Shows net (given_values net run k) at → StepAllowed (of_net net) run k
unfolding of_net given_values
allowed net run k formed all low f h =
    let step : RunStep = get_or run k empty_step in
    let there : slice_get run k ≡ Some step = slice_get-get_or run k empty_step low in
    let is : Sizes net step = sizes net step (All-get_or (IsStepOf net) run k empty_step low all) in
    let has = recursion_from_All (λ (p : ℕ × ℕ). f p.0 ≡ p.1) (own_values net k (slice_get run k) ++ next_values net (slice_get run (k + 1))) h.has in
    let own : Has f (own_values net k (slice_get run k)) = has-left f (own_values net k (slice_get run k)) (next_values net (slice_get run (k + 1))) has in
    let next : Has f (next_values net (slice_get run (k + 1))) = has-right f (own_values net k (slice_get run k)) (next_values net (slice_get run (k + 1))) has in
    let P : Option RunStep → Type 0 = λ o. Has f (own_values net k o) in
    let mine : Has f (column_values net step ++ first_values net k step) = subst P there own in
    let columns : Has f (column_values net step) = has-left f (column_values net step) (first_values net k step) mine in
    let first : Has f (first_values net k step) = has-right f (column_values net step) (first_values net k step) mine in
    let ins = zip (map number net.inputs) step.inputs in
    let latches = zip (map output_number net.latches) step.latches in
    let outs = zip (map number net.outputs) step.outputs in
    let inner : Has f (latches ++ outs) = has-right f ins (latches ++ outs) columns in
    let states = map-from_has output_number f net.latches step.latches is.latches (has-left f latches outs inner) in
    let r = resets_of net f k step formed h.agrees states first in
    record {
      step = step;
      at = there;
      next = map (λ (l : FlatLatch). f l.input.0) net.latches;
      resets = r.resets;
      allowed =
          record {
            at = f;
            agrees = h.agrees;
            inputs = map-from_has number f net.inputs step.inputs is.inputs (has-left f ins (latches ++ outs) columns);
            states = states;
            outputs = map-from_has number f net.outputs step.outputs is.outputs (has-right f latches outs inner);
            next = refl;
            resets = r.give;
          };
      goes_on = by_next next;
      begins = r.begins;
    }
  where
    by_next : Has f (next_values net (slice_get run (k + 1))) → (after : RunStep) → slice_get run (k + 1) ≡ Some after → map (λ (l : FlatLatch). f l.input.0) net.latches ≡ after.latches
    by_next next after e =
        let Q : Option RunStep → Type 0 = λ o. Has f (next_values net o) in
        let within : k + 1 < length run = slice_get_within run (k + 1) after e in
        let same : get_or run (k + 1) empty_step ≡ after = get_or_from_slice_get run (k + 1) after empty_step e in
        let is : Sizes net after = sizes net after (subst (IsStepOf net) same (All-get_or (IsStepOf net) run (k + 1) empty_step within all)) in
        map-from_has input_number f net.latches after.latches is.latches (subst Q e next)
