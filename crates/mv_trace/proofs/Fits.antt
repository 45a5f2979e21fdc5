-- The steps of a run that is read have a value of each net.
use Rattle.std.proofs.Common.{◌≡◌, ℕ, ◌+◌, ◌<◌, true, not, ◌==◌, Option, Some, None, List, [], ◌∷◌, ◌++◌, length, map, take, drop, decimal, refl, subst, arith}
use Rattle.std.specs.Prelude.{nat_le}
use Rattle.std.specs.List.{All, AllZip, flat_map, enumerate_from}
use Rattle.std.proofs.lemmas.Bool.{not-false, eqb-true}
use Rattle.std.proofs.lemmas.List.{length-map}
use Rattle.std.proofs.lemmas.List.Elements.{All-nil, All-cons}
use Rattle.std.proofs.lemmas.List.FromFn.{length-map-range_with_len}
use Rattle.mv_base.proofs.NameLemmas.{IsPlace-from_place}
use Rattle.mv_base.specs.declared.number.NetId.{NetId}
use Rattle.mv_lex.specs.declared.lines.LexLine.{LexLine}
use Rattle.mv_fault.specs.Tells.{when}
use Rattle.mv_fault.proofs.Nothing.{left-nothing, right-nothing, when-nothing}
use Rattle.mv_net.specs.declared.parts.FlatNet.{FlatNet}
use Rattle.mv_net.specs.declared.parts.FlatLatch.{FlatLatch}
use Rattle.mv_net.specs.declared.parts.NetParts.{NetParts}
use Rattle.mv_net.specs.Nets.{slot, values_in, spelled_values, spelled_in}
use Rattle.mv_net.specs.Formed.{WellFormed, latch_outputs}
use Rattle.mv_trace.specs.declared.run.TheConstants.{MAX_STEPS}
use Rattle.mv_trace.specs.declared.fault.TraceFault.TheVariants.{Steps}
use Rattle.mv_trace.specs.Runs.{columns_of, value_said, row_said, step_of, step_said, run_said, word_faults, width_faults, step_faults, run_faults}
use Rattle.mv_trace.specs.Given.{IsValueOf, IsStepOf}

-- ---- a word

-- as many names as values
spelled_size : (values : ℕ) (names : List (List ℕ)) → (0 < length names → length names ≡ values) → length (spelled_values values names) ≡ values
spelled_size values [] each = length-map-range_with_len decimal 0 values
spelled_size values (w ∷ ws) each = each (omega arith)

spelled : (net : NetParts) (n : ℕ) → WellFormed net → length (spelled_in (slot net.nets n)) ≡ values_in (slot net.nets n)
spelled net n formed = by_slot (slot net.nets n) refl
  where
    by_slot : (f : Option FlatNet) → slot net.nets n ≡ f → length (spelled_in f) ≡ values_in f
    by_slot None e = refl
    by_slot (Some f) e = spelled_size f.values f.value_names (formed.nets n f e).named.each

said_within : (net : NetParts) (n : NetId) (w : List ℕ) (v : ℕ) → WellFormed net → value_said net.nets n w ≡ Some v → IsValueOf net.nets n v
said_within net n w v formed e =
    let within = (IsPlace-from_place w (spelled_in (slot net.nets n.0)) v e).within in
    let size = spelled net n.0 formed in
    omega arith

-- ---- a row

row_fits : (net : NetParts) (line : ℕ) → WellFormed net → (columns : List NetId) (words : List (List ℕ)) → length words ≡ length columns → word_faults net.nets columns line words ≡ [] → AllZip (IsValueOf net.nets) columns (row_said net.nets columns words)
row_fits net line formed [] [] size none = tt
row_fits net line formed [] (w ∷ ws) size none = absurd (omega arith)
row_fits net line formed (n ∷ ns) [] size none = absurd (omega arith)
row_fits net line formed (n ∷ ns) (w ∷ ws) size none = by_said (row_fits net line formed ns ws (omega arith)) (value_said net.nets n w) refl
  where
    by_said : (word_faults net.nets ns line ws ≡ [] → AllZip (IsValueOf net.nets) ns (row_said net.nets ns ws)) → (o : Option ℕ) → value_said net.nets n w ≡ o → AllZip (IsValueOf net.nets) (n ∷ ns) (row_said net.nets (n ∷ ns) (w ∷ ws))
    by_said others None e = let some = rw e at none in cc
    by_said others (Some v) e = let rest = rw e at none in rw e (said_within net n w v formed e, others rest)

-- ---- a step

-- values of two lists, one behind the other
cut : {A B : Type 0} (R : A → B → Type 0) (xs ys : List A) (vs : List B) → AllZip R (xs ++ ys) vs → AllZip R xs (take (length xs) vs) × AllZip R ys (drop (length xs) vs)
cut R [] ys vs h = (tt, h)
cut R (x ∷ xs) ys [] h = absurd h
cut R (x ∷ xs) ys (v ∷ vs) h = let rest = cut R xs ys vs h.1 in ((h.0, rest.0), rest.1)

step_fits : (net : NetParts) (row : List ℕ) → AllZip (IsValueOf net.nets) (columns_of net) row → IsStepOf net (step_of net row)
step_fits net row h =
    let R = IsValueOf net.nets in
    let ls = latch_outputs net.latches in
    let behind = drop (length net.inputs) row in
    let a = cut R net.inputs (ls ++ net.outputs) row h in
    let b = cut R ls net.outputs behind a.1 in
    let same : length ls ≡ length net.latches = length-map net.latches (λ (l : FlatLatch). l.output) in
    let P : ℕ → Type 0 = λ n. AllZip R ls (take n behind) in
    let Q : ℕ → Type 0 = λ n. AllZip R net.outputs (drop n behind) in
    record { inputs = a.0; latches = subst P same b.0; outputs = subst Q same b.1 }

-- a line without faults has as many words as there are columns, and each names a value
pub record IsRow (net : NetParts) (l : LexLine) : Type 0 where
  pub width : length l.words ≡ length (columns_of net)
  pub none : word_faults net.nets (columns_of net) l.number l.words ≡ []

pub row_of_line : (net : NetParts) (k : ℕ) (l : LexLine) → step_faults net (k, l) ≡ [] → IsRow net l
unfolding step_faults
row_of_line net k l none =
    let words = word_faults net.nets (columns_of net) l.number l.words in
    let steps = when (nat_le MAX_STEPS k) (Steps l.number) in
    let front : steps ++ width_faults (columns_of net) l ≡ [] = left-nothing (steps ++ width_faults (columns_of net) l) words none in
    let width : width_faults (columns_of net) l ≡ [] = right-nothing steps (width_faults (columns_of net) l) front in
    let same : (length l.words == length (columns_of net)) ≡ true = not-false (length l.words == length (columns_of net)) (when-nothing (not (length l.words == length (columns_of net))) _ width) in
    record {
      width = eqb-true (length l.words) (length (columns_of net)) same;
      none = right-nothing (steps ++ width_faults (columns_of net) l) words none;
    }

-- it says such a step
pub line_fits : (net : NetParts) (k : ℕ) (l : LexLine) → WellFormed net → step_faults net (k, l) ≡ [] → IsStepOf net (step_said net l)
line_fits net k l formed none =
    let row = row_of_line net k l none in
    step_fits net (row_said net.nets (columns_of net) l.words) (row_fits net l.number formed (columns_of net) l.words row.width row.none)

-- ---- a run

lines_fit : (net : NetParts) (k : ℕ) (lines : List LexLine) → WellFormed net → flat_map (step_faults net) (enumerate_from k lines) ≡ [] → All (IsStepOf net) (map (step_said net) lines)
lines_fit net k [] formed none = All-nil (IsStepOf net)
lines_fit net k (l ∷ ls) formed none =
    let rest = flat_map (step_faults net) (enumerate_from (k + 1) ls) in
    All-cons (IsStepOf net) (step_said net l) (map (step_said net) ls) (line_fits net k l formed (left-nothing (step_faults net (k, l)) rest none))
    (lines_fit net (k + 1) ls formed (right-nothing (step_faults net (k, l)) rest none))

pub run_fits : (net : NetParts) (lines : List LexLine) → WellFormed net → run_faults net lines ≡ [] → All (IsStepOf net) (run_said net lines)
unfolding run_said run_faults
run_fits net lines formed none = lines_fit net 0 lines formed none
