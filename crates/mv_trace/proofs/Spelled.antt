-- Steps as words: the words of a line are the names of the values of the step that it says, and the words of a step say it.
use Rattle.std.proofs.Common.{◌≡◌, ◌∙◌, ℕ, ◌+◌, ◌<◌, ◌≤◌, true, false, ◌==◌, Option, Some, None, List, [], ◌∷◌, ◌++◌, length, map, take, drop, decimal, refl, sym, ap, subst, arith}
use Rattle.std.specs.Prelude.{nat_le, slice_index_or}
use Rattle.std.specs.List.{All, AllZip, flat_map, enumerate_from}
use Rattle.std.proofs.lemmas.Bool.{eq-eqb}
use Rattle.std.proofs.lemmas.Bool.Decides.{nat_tests}
use Rattle.std.proofs.lemmas.List.{length-map, take-append-drop}
use Rattle.std.proofs.lemmas.List.Elements.{All-head, All-tail}
use Rattle.std.proofs.lemmas.List.FromFn.{get_or-map-range_with_len}
use Rattle.std.proofs.lemmas.Option.{slice_get-get_or, get_or_from_slice_get}
use Rattle.mv_base.specs.Names.{place_of}
use Rattle.mv_base.specs.declared.limits.TheConstants.{MAX_VALUES}
use Rattle.mv_base.specs.declared.number.NetId.{NetId}
use Rattle.mv_base.proofs.NameLemmas.{IsPlace-from_place, place_of-at, IsDistinct-from_differ}
use Rattle.mv_lex.specs.declared.lines.LexLine.{LexLine}
use Rattle.mv_net.specs.declared.parts.FlatNet.{FlatNet}
use Rattle.mv_net.specs.declared.parts.FlatLatch.{FlatLatch}
use Rattle.mv_net.specs.declared.parts.NetParts.{NetParts}
use Rattle.mv_net.specs.Nets.{slot, values_in, spelled_values, spelled_in}
use Rattle.mv_net.specs.Formed.{IsNamed, WellFormed, latch_outputs}
use Rattle.mv_trace.specs.declared.run.RunStep.{RunStep}
use Rattle.mv_trace.specs.declared.run.TheConstants.{MAX_STEPS}
use Rattle.mv_trace.specs.Runs.{columns_of, value_said, row_said, step_of, step_said, run_said, value_name, words_of, step_words, word_faults, step_faults, run_faults}
use Rattle.mv_trace.specs.Given.{IsValueOf, IsStepOf}
use Rattle.mv_trace.proofs.Numbers.{place-from_number}
use Rattle.mv_trace.proofs.Fits.{row_of_line, line_fits}
use Rattle.mv_fault.proofs.Nothing.{left-nothing, right-nothing}

-- ---- a value and its name

named_value : (net : NetParts) (n : NetId) (w : List ℕ) (v : ℕ) → value_said net.nets n w ≡ Some v → value_name net.nets n v ≡ w
named_value net n w v e =
    get_or_from_slice_get (spelled_in (slot net.nets n.0)) v w [] (IsPlace-from_place w (spelled_in (slot net.nets n.0)) v e).found

by_names : (values v : ℕ) (names : List (List ℕ)) → values ≤ MAX_VALUES → IsNamed values names → v < values → place_of (slice_index_or (spelled_values values names) v []) (spelled_values values names) ≡ Some v
by_names values v [] few is low =
    sym (place-from_number values v (slice_index_or (spelled_values values []) v []) (omega arith) (record { below = low; spelled = get_or-map-range_with_len decimal 0 values v v [] low (omega arith) }))
by_names values v (w ∷ ws) few is low =
    let size = is.each (omega arith) in
    place_of-at (w ∷ ws) v (slice_index_or (w ∷ ws) v []) (IsDistinct-from_differ (w ∷ ws) is.differ) (slice_get-get_or (w ∷ ws) v [] (omega arith))

value_named : (net : NetParts) (n : NetId) (v : ℕ) → WellFormed net → IsValueOf net.nets n v → value_said net.nets n (value_name net.nets n v) ≡ Some v
value_named net n v formed low = by_slot (slot net.nets n.0) refl low
  where
    by_slot : (f : Option FlatNet) → slot net.nets n.0 ≡ f → v < values_in f → place_of (slice_index_or (spelled_in f) v []) (spelled_in f) ≡ Some v
    by_slot None e low = absurd (omega arith)
    by_slot (Some f) e low = by_names f.values v f.value_names (formed.nets n.0 f e).few (formed.nets n.0 f e).named low

-- ---- a row

-- words that name values are the names of these
row_spelled : (net : NetParts) (line : ℕ) (columns : List NetId) (words : List (List ℕ)) → length words ≡ length columns → word_faults net.nets columns line words ≡ [] → words_of net.nets columns (row_said net.nets columns words) ≡ words
row_spelled net line [] [] size none = refl
row_spelled net line [] (w ∷ ws) size none = absurd (omega arith)
row_spelled net line (n ∷ ns) [] size none = absurd (omega arith)
row_spelled net line (n ∷ ns) (w ∷ ws) size none = by_said (row_spelled net line ns ws (omega arith)) (value_said net.nets n w) refl
  where
    by_said : (word_faults net.nets ns line ws ≡ [] → words_of net.nets ns (row_said net.nets ns ws) ≡ ws) → (o : Option ℕ) → value_said net.nets n w ≡ o → words_of net.nets (n ∷ ns) (row_said net.nets (n ∷ ns) (w ∷ ws)) ≡ w ∷ ws
    by_said others None e = let some = rw e at none in cc
    by_said others (Some v) e =
        let rest = others (rw e at none) in
        let here = named_value net n w v e in
        rw e (λ i. here i ∷ rest i)

-- the names of values name these
record IsSaid (net : NetParts) (columns : List NetId) (line : ℕ) (words : List (List ℕ)) (vs : List ℕ) : Type 0 where
  said : row_said net.nets columns words ≡ vs
  none : word_faults net.nets columns line words ≡ []
  size : length words ≡ length columns

spelled_row : (net : NetParts) (line : ℕ) → WellFormed net → (columns : List NetId) (vs : List ℕ) → AllZip (IsValueOf net.nets) columns vs → IsSaid net columns line (words_of net.nets columns vs) vs
spelled_row net line formed [] [] h = record { said = refl; none = refl; size = refl }
spelled_row net line formed [] (v ∷ vs) h = absurd h
spelled_row net line formed (n ∷ ns) [] h = absurd h
spelled_row net line formed (n ∷ ns) (v ∷ vs) h =
    let e = value_named net n v formed h.0 in
    let rest = spelled_row net line formed ns vs h.1 in
    let size : length (words_of net.nets ns vs) ≡ length ns = rest.size in
    record { said = rw e (ap (λ us. v ∷ us) rest.said); none = rw e rest.none; size = omega arith }

-- ---- rows in parts

all_append : {A B : Type 0} (R : A → B → Type 0) (xs ys : List A) (us vs : List B) → AllZip R xs us → AllZip R ys vs → AllZip R (xs ++ ys) (us ++ vs)
all_append R [] ys [] vs h k = k
all_append R [] ys (u ∷ us) vs h k = absurd h
all_append R (x ∷ xs) ys [] vs h k = absurd h
all_append R (x ∷ xs) ys (u ∷ us) vs h k = (h.0, all_append R xs ys us vs h.1 k)

words_append : (nets : List (Option FlatNet)) (xs ys : List NetId) (us vs : List ℕ) → AllZip (IsValueOf nets) xs us → words_of nets (xs ++ ys) (us ++ vs) ≡ words_of nets xs us ++ words_of nets ys vs
words_append nets [] ys [] vs h = refl
words_append nets [] ys (u ∷ us) vs h = absurd h
words_append nets (x ∷ xs) ys [] vs h = absurd h
words_append nets (x ∷ xs) ys (u ∷ us) vs h = ap (λ ws. value_name nets x u ∷ ws) (words_append nets xs ys us vs h.1)

-- two parts, and the first and the second of them again
record AreParts (size : ℕ) (us vs : List ℕ) : Type 0 where
  first : take size (us ++ vs) ≡ us
  second : drop size (us ++ vs) ≡ vs

parts : {A : Type 0} (R : A → ℕ → Type 0) (xs : List A) (us vs : List ℕ) → AllZip R xs us → AreParts (length xs) us vs
parts R [] [] vs h = record { first = refl; second = refl }
parts R [] (u ∷ us) vs h = absurd h
parts R (x ∷ xs) [] vs h = absurd h
parts R (x ∷ xs) (u ∷ us) vs h = let rest = parts R xs us vs h.1 in record { first = ap (λ ws. u ∷ ws) rest.first; second = rest.second }

-- ---- a step

abbrev row_of : RunStep → List ℕ
row_of s = s.inputs ++ (s.latches ++ s.outputs)

row_values : (net : NetParts) (s : RunStep) → IsStepOf net s → AllZip (IsValueOf net.nets) (columns_of net) (row_of s)
row_values net s is =
    all_append (IsValueOf net.nets) net.inputs (latch_outputs net.latches ++ net.outputs) s.inputs (s.latches ++ s.outputs) is.inputs
    (all_append (IsValueOf net.nets) (latch_outputs net.latches) net.outputs s.latches s.outputs is.latches is.outputs)

row_words : (net : NetParts) (s : RunStep) → IsStepOf net s → words_of net.nets (columns_of net) (row_of s) ≡ step_words net s
row_words net s is =
    words_append net.nets net.inputs (latch_outputs net.latches ++ net.outputs) s.inputs (s.latches ++ s.outputs) is.inputs
    ∙ ap (λ ws. words_of net.nets net.inputs s.inputs ++ ws) (words_append net.nets (latch_outputs net.latches) net.outputs s.latches s.outputs is.latches)

step_row : (net : NetParts) (s : RunStep) → IsStepOf net s → step_of net (row_of s) ≡ s
step_row net s is =
    let ls = latch_outputs net.latches in
    let outer = parts (IsValueOf net.nets) net.inputs s.inputs (s.latches ++ s.outputs) is.inputs in
    let same : length ls ≡ length net.latches = length-map net.latches (λ (l : FlatLatch). l.output) in
    let P : ℕ → Type 0 = λ n. AreParts n s.latches s.outputs in
    let inner = subst P same (parts (IsValueOf net.nets) ls s.latches s.outputs is.latches) in
    let latches : take (length net.latches) (drop (length net.inputs) (row_of s)) ≡ s.latches = ap (take (length net.latches)) outer.second ∙ inner.first in
    let outputs : drop (length net.latches) (drop (length net.inputs) (row_of s)) ≡ s.outputs = ap (drop (length net.latches)) outer.second ∙ inner.second in
    λ i. record { inputs = outer.first i; latches = latches i; outputs = outputs i }

row_back : (net : NetParts) (row : List ℕ) → row_of (step_of net row) ≡ row
row_back net row =
    ap (λ vs. take (length net.inputs) row ++ vs) (take-append-drop (length net.latches) (drop (length net.inputs) row)) ∙ take-append-drop (length net.inputs) row

-- ---- a line

line_spelled : (net : NetParts) (k : ℕ) (l : LexLine) → WellFormed net → step_faults net (k, l) ≡ [] → l.words ≡ step_words net (step_said net l)
line_spelled net k l formed none =
    let is = row_of_line net k l none in
    let row = row_said net.nets (columns_of net) l.words in
    sym (row_spelled net l.number (columns_of net) l.words is.width is.none) ∙ ap (words_of net.nets (columns_of net)) (sym (row_back net row)) ∙ row_words net (step_of net row) (line_fits net k l formed none)

-- the line says the step, and has no fault
record Reads (net : NetParts) (k : ℕ) (l : LexLine) (s : RunStep) : Type 0 where
  none : step_faults net (k, l) ≡ []
  said : step_said net l ≡ s

spelled_line : (net : NetParts) (k : ℕ) (l : LexLine) (s : RunStep) → WellFormed net → k < MAX_STEPS → IsStepOf net s → l.words ≡ step_words net s → Reads net k l s
unfolding step_faults
spelled_line net k l s formed few is e =
    let P : List (List ℕ) → Type 0 = λ ws. IsSaid net (columns_of net) l.number ws (row_of s) in
    let r = subst P (row_words net s is ∙ sym e) (spelled_row net l.number formed (columns_of net) (row_of s) (row_values net s is)) in
    let early : nat_le MAX_STEPS k ≡ false = grind (arith, nat_tests) in
    let width : (length l.words == length (columns_of net)) ≡ true = eq-eqb (length l.words) (length (columns_of net)) r.size in
    record {
      none = rw (early, width, r.none) refl;
      said = ap (step_of net) r.said ∙ step_row net s is;
    }

-- ---- a run

abbrev words_in : List LexLine → List (List (List ℕ))
words_in lines = map (λ (l : LexLine). l.words) lines

lines_spelled : (net : NetParts) (k : ℕ) (lines : List LexLine) → WellFormed net → flat_map (step_faults net) (enumerate_from k lines) ≡ [] → words_in lines ≡ map (step_words net) (map (step_said net) lines)
lines_spelled net k [] formed none = refl
lines_spelled net k (l ∷ ls) formed none =
    let others = flat_map (step_faults net) (enumerate_from (k + 1) ls) in
    let here = line_spelled net k l formed (left-nothing (step_faults net (k, l)) others none) in
    let rest = lines_spelled net (k + 1) ls formed (right-nothing (step_faults net (k, l)) others none) in
    λ i. here i ∷ rest i

-- the words of lines without faults are those of the steps that they say
pub run_spelled : (net : NetParts) (lines : List LexLine) → WellFormed net → run_faults net lines ≡ [] → words_in lines ≡ map (step_words net) (run_said net lines)
unfolding run_said run_faults
run_spelled net lines formed none = lines_spelled net 0 lines formed none

record AreRead (net : NetParts) (k : ℕ) (lines : List LexLine) (run : List RunStep) : Type 0 where
  none : flat_map (step_faults net) (enumerate_from k lines) ≡ []
  said : map (step_said net) lines ≡ run

spelled_lines : (net : NetParts) (k : ℕ) (lines : List LexLine) (run : List RunStep) → WellFormed net → k + length run ≤ MAX_STEPS → All (IsStepOf net) run → words_in lines ≡ map (step_words net) run → AreRead net k lines run
spelled_lines net k [] [] formed few all e = record { none = refl; said = refl }
spelled_lines net k [] (s ∷ ss) formed few all e = cc
spelled_lines net k (l ∷ ls) [] formed few all e = cc
spelled_lines net k (l ∷ ls) (s ∷ ss) formed few all e =
    let first : l.words ≡ step_words net s = cc in
    let others : words_in ls ≡ map (step_words net) ss = cc in
    let here = spelled_line net k l s formed (omega arith) (All-head (IsStepOf net) s ss all) first in
    let rest = spelled_lines net (k + 1) ls ss formed (omega arith) (All-tail (IsStepOf net) s ss all) others in
    let one = here.said in
    let more = rest.said in
    record {
      none = rw (here.none, rest.none) refl;
      said = λ i. one i ∷ more i;
    }

-- lines with the words of the steps of a run say this run
pub spelled_run : (net : NetParts) (lines : List LexLine) (run : List RunStep) → WellFormed net → length run ≤ MAX_STEPS → All (IsStepOf net) run → words_in lines ≡ map (step_words net) run → (run_faults net lines ≡ []) × (run_said net lines ≡ run)
unfolding run_said run_faults
spelled_run net lines run formed few all e =
    let r = spelled_lines net 0 lines run formed (omega arith) all e in
    (r.none, r.said)
