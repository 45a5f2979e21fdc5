-- What the lines of a run file say, and their faults.
use Rattle.std.specs.Prelude.{ℕ, not, ◌==◌, nat_le, Option, is_some, List, [], ◌++◌}
use Rattle.std.specs.Prelude.{length, map, filter, take, drop, slice_index_or}
use Rattle.std.specs.List.{zip, flat_map, enumerate_from}
use Rattle.std.specs.Option.{unwrap_or}
use Rattle.mv_base.specs.Names.{place_of}
use Rattle.mv_base.specs.declared.number.NetId.{NetId}
use Rattle.mv_lex.specs.declared.lines.LexLine.{LexLine}
use Rattle.mv_fault.specs.Tells.{when}
use Rattle.mv_net.specs.declared.parts.FlatNet.{FlatNet}
use Rattle.mv_net.specs.declared.parts.NetParts.{NetParts}
use Rattle.mv_net.specs.Nets.{slot, spelled_in}
use Rattle.mv_net.specs.Formed.{latch_outputs}
use Rattle.mv_trace.specs.declared.run.RunStep.{RunStep}
use Rattle.mv_trace.specs.declared.run.TheConstants.{MAX_STEPS}
use Rattle.mv_trace.specs.declared.fault.TraceFault.{TraceFault}
use Rattle.mv_trace.specs.declared.fault.TraceFault.TheVariants.{Steps, Columns, UnknownValue}

-- the nets of the columns of a run file: the inputs, then the outputs of the latches, then the
-- outputs
abbrev pub columns_of : NetParts → List NetId
columns_of net = net.inputs ++ (latch_outputs net.latches ++ net.outputs)

-- the value of a net that a word names, if it names one: values are named as a network file has it
abbrev pub value_said : List (Option FlatNet) → NetId → List ℕ → Option ℕ
value_said nets n word = place_of word (spelled_in (slot nets n.0))

-- the values that words name, one a column. (Where one names none, the line has a fault.)
abbrev pub row_said : List (Option FlatNet) → List NetId → List (List ℕ) → List ℕ
row_said nets columns words =
    map (λ (e : NetId × List ℕ). unwrap_or (value_said nets e.0 e.1) 0) (zip columns words)

-- the step whose values these are, from left to right
abbrev pub step_of : NetParts → List ℕ → RunStep
step_of net row =
    record {
      inputs = take (length net.inputs) row;
      latches = take (length net.latches) (drop (length net.inputs) row);
      outputs = drop (length net.latches) (drop (length net.inputs) row);
    }

-- the step that a line says
abbrev pub step_said : NetParts → LexLine → RunStep
step_said net l = step_of net (row_said net.nets (columns_of net) l.words)

-- the run that lines say: one step a line
unfoldable pub run_said : NetParts → List LexLine → List RunStep
run_said net lines = map (step_said net) lines

-- the name of a value of a net, as a network file has it
abbrev pub value_name : List (Option FlatNet) → NetId → ℕ → List ℕ
value_name nets n v = slice_index_or (spelled_in (slot nets n.0)) v []

-- the names of values of nets
abbrev pub words_of : List (Option FlatNet) → List NetId → List ℕ → List (List ℕ)
words_of nets ns vs = map (λ (e : NetId × ℕ). value_name nets e.0 e.1) (zip ns vs)

-- the words of a step: the names of the values of its inputs, latches and outputs
abbrev pub step_words : NetParts → RunStep → List (List ℕ)
step_words net s = words_of net.nets net.inputs s.inputs
    ++ (words_of net.nets (latch_outputs net.latches) s.latches
    ++ words_of net.nets net.outputs s.outputs)

-- ---- faults

-- the words of a line that name no value of their columns
abbrev pub word_faults : List (Option FlatNet) → List NetId → ℕ → List (List ℕ)
    → List TraceFault
word_faults nets columns line words =
    map (λ (e : NetId × List ℕ). UnknownValue line e.1)
    (filter (λ (e : NetId × List ℕ). not (is_some (value_said nets e.0 e.1))) (zip columns words))

-- another number of words than of columns
abbrev pub width_faults : List NetId → LexLine → List TraceFault
width_faults columns l = when (not (length l.words == length columns))
    (Columns l.number (length columns) (length l.words))

-- the faults of a line before which so many others stand: a step too many, more or fewer words than
-- columns, and words that name no value, from left to right
unfoldable pub step_faults : NetParts → ℕ × LexLine → List TraceFault
step_faults net e =
    when (nat_le MAX_STEPS e.0) (Steps e.1.number) ++ width_faults (columns_of net) e.1
    ++ word_faults net.nets (columns_of net) e.1.number e.1.words

-- the faults of all lines, in order
unfoldable pub run_faults : NetParts → List LexLine → List TraceFault
run_faults net lines = flat_map (step_faults net) (enumerate_from 0 lines)
