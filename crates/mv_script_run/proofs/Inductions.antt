-- What holds of nothing, of each command, and of one part behind another, holds of a script.
use Rattle.std.proofs.Common.{◌≡◌, ℕ, Bool, true, List, [], ◌++◌, refl}
use Rattle.std.proofs.lemmas.Bool.{and_parts, and_from}
use Rattle.mv_entry.specs.Entries.{Entry}
use Rattle.mv_net.specs.declared.parts.NetParts.{NetParts}
use Rattle.mv_rules.specs.declared.terms.Terms.{Terms}
use Rattle.mv_script.specs.Commands.{all_commands}
use Rattle.mv_entry.specs.declared.note.Command.{Command}
use Rattle.mv_script.specs.Scripts.{Items, End, Do, Repeat, Better}
use Rattle.mv_script_run.specs.Commands.{DoesCommand, BegunCommand}
use Rattle.mv_pass.proofs.Turns.{Implies, of_nothing, of_turn, of_rounds}
use Rattle.mv_pass.specs.Courses.{Course, Rounds}
use Rattle.mv_script_run.specs.Runs.{Gains, GainsNot, RunsBetter, StopsRepeat, StopsBetter, Runs, RunsTo, StopsAt, Unbegun, Within, Later}

module _ (terms : Terms) (Holds : Course) (none : (a : NetParts) → Holds a [] a) (then : (a b c : NetParts) (xs ys : List Entry) → Holds a xs b → Holds b ys c → Holds a (xs ++ ys) c) where
  of_gains : (Round : Course) → Implies Round Holds → (n : ℕ) → Implies (Rounds n (Gains Round)) Holds
  of_gains Round each n = of_rounds Holds none then (Gains Round) (λ a es b g. each a es b g.0) n

  of_better : (Round : Course) → Implies Round Holds → Implies (RunsBetter Round) Holds
  of_better Round each a es b r =
      of_turn Holds none then (Rounds r.gained (Gains Round)) (GainsNot Round) (of_gains Round each r.gained) (λ a es b g. each a es b g.0) a es b r.rounds

  module _ (test : Command → Bool) (command : (c : Command) → test c ≡ true → Implies (DoesCommand terms c) Holds) where
    pub of_items : (items : Items) → all_commands test items ≡ true → Implies (Runs terms items) Holds
    of_items End all = of_nothing Holds none then
    of_items (Do c rest) all =
        let both = and_parts (test c) (all_commands test rest) all in
        of_turn Holds none then (DoesCommand terms c) (Runs terms rest) (command c both.0) (of_items rest both.1)
    of_items (Repeat times inside rest) all =
        let both = and_parts (all_commands test inside) (all_commands test rest) all in
        of_turn Holds none then (Rounds times (Runs terms inside)) (Runs terms rest) (of_rounds Holds none then (Runs terms inside) (of_items inside both.0) times) (of_items rest both.1)
    of_items (Better inside rest) all =
        let both = and_parts (all_commands test inside) (all_commands test rest) all in
        of_turn Holds none then (RunsBetter (Runs terms inside)) (Runs terms rest) (of_better (Runs terms inside) (of_items inside both.0)) (of_items rest both.1)

    of_stop : (Stops Whole Behind : Course) → Implies Stops Holds → Implies Whole Holds → Implies Behind Holds → Implies (StopsAt Stops Whole Behind) Holds
    of_stop Stops Whole Behind stops whole behind a es b (Unbegun nothing) = of_nothing Holds none then a es b nothing
    of_stop Stops Whole Behind stops whole behind a es b (Within p) = stops a es b p
    of_stop Stops Whole Behind stops whole behind a es b (Later p) = of_turn Holds none then Whole Behind whole behind a es b p

    module _ (begun : (c : Command) → test c ≡ true → Implies (BegunCommand terms c) Holds) where
      pub of_stopped : (items : Items) → all_commands test items ≡ true → Implies (RunsTo terms items) Holds
      of_stopped End all = of_nothing Holds none then
      of_stopped (Do c rest) all =
          let both = and_parts (test c) (all_commands test rest) all in
          of_stop (BegunCommand terms c) (DoesCommand terms c) (RunsTo terms rest) (begun c both.0) (command c both.0) (of_stopped rest both.1)
      of_stopped (Repeat times inside rest) all =
          let both = and_parts (all_commands test inside) (all_commands test rest) all in
          let whole = of_items inside both.0 in
          let stops = of_stopped inside both.0 in
          of_stop (StopsRepeat times (Runs terms inside) (RunsTo terms inside)) (Rounds times (Runs terms inside)) (RunsTo terms rest)
          (λ a es b p. of_turn Holds none then (Rounds p.whole (Runs terms inside)) (RunsTo terms inside) (of_rounds Holds none then (Runs terms inside) whole p.whole) stops a es b p.rounds)
          (of_rounds Holds none then (Runs terms inside) whole times) (of_stopped rest both.1)
      of_stopped (Better inside rest) all =
          let both = and_parts (all_commands test inside) (all_commands test rest) all in
          let whole = of_items inside both.0 in
          let stops = of_stopped inside both.0 in
          of_stop (StopsBetter (Runs terms inside) (RunsTo terms inside)) (RunsBetter (Runs terms inside)) (RunsTo terms rest)
          (λ a es b p. of_turn Holds none then (Rounds p.gained (Gains (Runs terms inside))) (RunsTo terms inside) (of_gains (Runs terms inside) whole p.gained) stops a es b p.rounds)
          (of_better (Runs terms inside) whole) (of_stopped rest both.1)

-- all commands are such as each one is
pub any_commands : (items : Items) → all_commands (λ c. true) items ≡ true
any_commands End = refl
any_commands (Do c rest) = any_commands rest
any_commands (Repeat times inside rest) = and_from (all_commands (λ c. true) inside) (all_commands (λ c. true) rest) (any_commands inside) (any_commands rest)
any_commands (Better inside rest) = and_from (all_commands (λ c. true) inside) (all_commands (λ c. true) rest) (any_commands inside) (any_commands rest)
