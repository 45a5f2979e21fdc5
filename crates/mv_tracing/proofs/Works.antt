-- The work on a network and the lines of a run file.
use Rattle.std.proofs.Common.{◌≡◌, ℕ, ◌+◌, ◌<◌, ◌≤◌, false, List, [], ◌∷◌, ◌++◌, length, map, refl, subst, arith}
use Rattle.std.specs.Prelude.{All, nat_le}
use Rattle.std.specs.List.{flat_map, enumerate_from}
use Rattle.std.proofs.lemmas.Bool.{leb-false}
use Rattle.std.proofs.lemmas.List.{length-map}
use Rattle.mv_fault.specs.Tells.{when}
use Rattle.mv_fault.proofs.Nothing.{left-nothing, right-nothing, when-nothing}
use Rattle.mv_lex.specs.declared.lines.LexLine.{LexLine}
use Rattle.mv_net.specs.Allowed.{of_net}
use Rattle.mv_net.specs.declared.parts.NetParts.{NetParts}
use Rattle.mv_net.specs.Formed.{WellFormed}
use Rattle.mv_trace.specs.Allowed.{RunAllowed}
use Rattle.mv_trace.specs.Answer.{no_text, yes_text}
use Rattle.mv_trace.specs.declared.run.RunStep.{RunStep}
use Rattle.mv_trace.specs.declared.run.TheConstants.{MAX_STEPS}
use Rattle.mv_trace.specs.declared.fault.TraceFault.TheVariants.{Steps}
use Rattle.mv_trace.specs.Given.{IsStepOf}
use Rattle.mv_trace.specs.Runs.{columns_of, run_faults, run_said, step_faults, step_said, width_faults, word_faults}
use Rattle.mv_trace.proofs.Assigned.{allowed, assigned}
use Rattle.mv_tracing.specs.Steps.{AllShown, IsFirstUnshown}
use Rattle.mv_tracing.specs.Traced.{AreShownFrom, IsFirstRefused, IsNo, IsYes}

module _ (net : NetParts) (run : List RunStep) (formed : WellFormed net) (fits : All (IsStepOf net) run) where
  all_allowed : AllShown net run → RunAllowed (of_net net) run
  all_allowed all = λ k low. let s = all.each k low in allowed net run k formed fits low s.at s.shows

  first_refused : (k : ℕ) → IsFirstUnshown net run k → IsFirstRefused net run k
  first_refused k f = record {
    within = f.within;
    before = λ j low. let s = f.before j low in let within = f.within in allowed net run j formed fits (omega arith) s.at s.shows;
    refused = λ a. f.unshown (assigned net run k a);
  }

-- the answers for the run that the lines say
module _ (net : NetParts) (lines : List LexLine) (run : List RunStep) (formed : WellFormed net) (fits : All (IsStepOf net) run) (none : run_faults net lines ≡ []) (is : run ≡ run_said net lines) where
  pub yes_said : (ats : List (ℕ → ℕ)) → AllShown net run → AreShownFrom net run 0 ats → IsYes net lines [] (yes_text net.nets ats)
  yes_said ats all shown =
      let P : List RunStep → Type 0 = λ r. RunAllowed (of_net net) r in
      let Q : List RunStep → Type 0 = λ r. AreShownFrom net r 0 ats in
      record { faultless = none; allowed = subst P is (all_allowed net run formed fits all); ats = ats; shown = subst Q is shown; noted_is = refl; written_is = refl }

  pub no_said : (k : ℕ) → IsFirstUnshown net run k → IsNo net lines (no_text k)
  no_said k f =
      let P : List RunStep → Type 0 = λ r. IsFirstRefused net r k in
      record { faultless = none; step = k; first = subst P is (first_refused net run formed fits k f); written_is = refl }

-- ---- lines without faults are few

-- a line without faults isn't a step too many
step_within : (net : NetParts) (n : ℕ) (l : LexLine) → step_faults net (n, l) ≡ [] → n < MAX_STEPS
unfolding step_faults
step_within net n l none =
    let steps = when (nat_le MAX_STEPS n) (Steps l.number) in
    let width = width_faults (columns_of net) l in
    let words = word_faults net.nets (columns_of net) l.number l.words in
    let not : nat_le MAX_STEPS n ≡ false = when-nothing (nat_le MAX_STEPS n) (Steps l.number) (left-nothing steps width (left-nothing (steps ++ width) words none)) in
    omega (arith, leb-false MAX_STEPS n not)

few_left : (net : NetParts) (lines : List LexLine) (n : ℕ) → n ≤ MAX_STEPS → flat_map (step_faults net) (enumerate_from n lines) ≡ [] → n + length lines ≤ MAX_STEPS
few_left net [] n low none = omega arith
few_left net (l ∷ lines) n low none =
    let others = flat_map (step_faults net) (enumerate_from (n + 1) lines) in
    let here = step_within net n l (left-nothing (step_faults net (n, l)) others none) in
    let rest = few_left net lines (n + 1) (omega arith) (right-nothing (step_faults net (n, l)) others none) in
    omega arith

pub few_steps : (net : NetParts) (lines : List LexLine) → run_faults net lines ≡ [] → length (run_said net lines) ≤ MAX_STEPS
unfolding run_faults run_said
few_steps net lines none =
    let few : 0 + length lines ≤ MAX_STEPS = few_left net lines 0 (omega arith) none in
    let same : length (map (step_said net) lines) ≡ length lines = length-map lines (step_said net) in
    omega arith
