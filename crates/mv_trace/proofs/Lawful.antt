-- The values that a step gives are values of nets that are held.
use Rattle.std.proofs.Common.{◌≡◌, ℕ, zero, suc, ◌+◌, ◌<◌, true, Option, Some, None, List, [], ◌∷◌, ◌++◌, map, is_some, refl, ap, subst, arith}
use Rattle.std.specs.Prelude.{slice_get}
use Rattle.std.specs.List.{All, AllZip, AllByRecursion, zip}
use Rattle.std.proofs.lemmas.List.Elements.{All-from_recursion, All-get_or}
use Rattle.std.proofs.lemmas.Option.{slice_get_within, get_or_from_slice_get}
use Rattle.mv_base.specs.declared.number.NetId.{NetId}
use Rattle.mv_net.specs.declared.parts.FlatNet.{FlatNet}
use Rattle.mv_net.specs.declared.parts.FlatLatch.{FlatLatch}
use Rattle.mv_net.specs.declared.parts.NetParts.{NetParts}
use Rattle.mv_net.specs.Nets.{slot, values_in}
use Rattle.mv_net.specs.Formed.{AllLatches, WellFormed, latch_outputs}
use Rattle.mv_trace.specs.declared.run.RunStep.{RunStep}
use Rattle.mv_trace.specs.Given.{IsValueOf, IsStepOf, IsGiven, column_values, reset_value, reset_values, first_values, own_values, next_values, given_values}

-- each of these is a value of a held net
abbrev Lawful : List (Option FlatNet) → List (ℕ × ℕ) → Type 0
Lawful nets given = AllByRecursion (IsGiven nets) given

both : (nets : List (Option FlatNet)) (a b : List (ℕ × ℕ)) → Lawful nets a → Lawful nets b → Lawful nets (a ++ b)
both nets [] b h k = k
both nets (p ∷ a) b h k = (h.0, both nets a b h.1 k)

-- a net that has values is held
one : (nets : List (Option FlatNet)) (n v : ℕ) → v < values_in (slot nets n) → IsGiven nets (n, v)
one nets n v low = record { held = by_slot (slot nets n) low; below = low }
  where
    by_slot : (f : Option FlatNet) → v < values_in f → is_some f ≡ true
    by_slot None low = absurd (omega arith)
    by_slot (Some f) low = refl

columns : (nets : List (Option FlatNet)) (ns : List NetId) (vs : List ℕ) → AllZip (IsValueOf nets) ns vs → Lawful nets (zip (map (λ (n : NetId). n.0) ns) vs)
columns nets [] [] h = tt
columns nets [] (v ∷ vs) h = absurd h
columns nets (n ∷ ns) [] h = absurd h
columns nets (n ∷ ns) (v ∷ vs) h = (one nets n.0 v h.0, columns nets ns vs h.1)

outputs : (nets : List (Option FlatNet)) (ls : List FlatLatch) (vs : List ℕ) → AllZip (IsValueOf nets) (latch_outputs ls) vs → Lawful nets (zip (map (λ (l : FlatLatch). l.output.0) ls) vs)
outputs nets [] [] h = tt
outputs nets [] (v ∷ vs) h = absurd h
outputs nets (l ∷ ls) [] h = absurd h
outputs nets (l ∷ ls) (v ∷ vs) h = (one nets l.output.0 v h.0, outputs nets ls vs h.1)

inputs : (nets : List (Option FlatNet)) (ls : List FlatLatch) (vs : List ℕ) → AllLatches nets ls → AllZip (IsValueOf nets) (latch_outputs ls) vs → Lawful nets (zip (map (λ (l : FlatLatch). l.input.0) ls) vs)
inputs nets [] [] all h = tt
inputs nets [] (v ∷ vs) all h = absurd h
inputs nets (l ∷ ls) [] all h = absurd h
inputs nets (l ∷ ls) (v ∷ vs) all h =
    let same = all.0.values in
    let low = h.0 in
    (one nets l.input.0 v (omega arith), inputs nets ls vs all.1 h.1)

resets : (nets : List (Option FlatNet)) (ls : List FlatLatch) (vs : List ℕ) → AllLatches nets ls → AllZip (IsValueOf nets) (latch_outputs ls) vs → Lawful nets (reset_values ls vs)
resets nets [] [] all h = tt
resets nets [] (v ∷ vs) all h = absurd h
resets nets (l ∷ ls) [] all h = absurd h
resets nets (l ∷ ls) (v ∷ vs) all h =
    both nets (reset_value l.reset v) (reset_values ls vs) (by_reset l.reset refl) (resets nets ls vs all.1 h.1)
  where
    by_reset : (o : Option NetId) → l.reset ≡ o → Lawful nets (reset_value o v)
    by_reset None e = tt
    by_reset (Some n) e =
        let is = all.0.reset n e in
        let low = h.0 in
        let at_reset = ap values_in is.kind.held in
        let at_output = ap values_in is.held in
        let same = is.values in
        (one nets n.0 v (omega arith), tt)

first : (net : NetParts) (k : ℕ) (s : RunStep) → WellFormed net → IsStepOf net s → Lawful net.nets (first_values net k s)
first net zero s formed is = resets net.nets net.latches s.latches formed.latches is.latches
first net (suc k) s formed is = tt

own : (net : NetParts) (k : ℕ) (s : RunStep) → WellFormed net → IsStepOf net s → Lawful net.nets (column_values net s ++ first_values net k s)
own net k s formed is =
    let ins = zip (map (λ (n : NetId). n.0) net.inputs) s.inputs in
    let states = zip (map (λ (l : FlatLatch). l.output.0) net.latches) s.latches in
    let outs = zip (map (λ (n : NetId). n.0) net.outputs) s.outputs in
    both net.nets (column_values net s) (first_values net k s)
    (both net.nets ins (states ++ outs) (columns net.nets net.inputs s.inputs is.inputs)
    (both net.nets states outs (outputs net.nets net.latches s.latches is.latches) (columns net.nets net.outputs s.outputs is.outputs)))
    (first net k s formed is)

-- a step of a run
step_at : (net : NetParts) (run : List RunStep) (k : ℕ) (s : RunStep) → All (IsStepOf net) run → slice_get run k ≡ Some s → IsStepOf net s
step_at net run k s all e =
    subst (IsStepOf net) (get_or_from_slice_get run k s s e) (All-get_or (IsStepOf net) run k s (slice_get_within run k s e) all)

pub given_lawful : (net : NetParts) (run : List RunStep) (k : ℕ) → WellFormed net → All (IsStepOf net) run → All (IsGiven net.nets) (given_values net run k)
unfolding given_values
given_lawful net run k formed all =
    All-from_recursion (IsGiven net.nets) _
    (both net.nets (own_values net k (slice_get run k)) (next_values net (slice_get run (k + 1))) (by_own (slice_get run k) refl) (by_next (slice_get run (k + 1)) refl))
  where
    by_own : (o : Option RunStep) → slice_get run k ≡ o → Lawful net.nets (own_values net k o)
    by_own None e = tt
    by_own (Some s) e = own net k s formed (step_at net run k s all e)

    by_next : (o : Option RunStep) → slice_get run (k + 1) ≡ o → Lawful net.nets (next_values net o)
    by_next None e = tt
    by_next (Some s) e = inputs net.nets net.latches s.latches formed.latches (step_at net run (k + 1) s all e).latches
