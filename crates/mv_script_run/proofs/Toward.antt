-- What the items that are left do is, behind what was done, what the script does.
use Rattle.std.proofs.Common.{◌≡◌, ℕ, List, [], ◌++◌, refl, sym, subst, append_assoc}
use Rattle.std.proofs.lemmas.List.{append-nil}
use Rattle.mv_entry.specs.Entries.{Entry}
use Rattle.mv_net.specs.declared.parts.NetParts.{NetParts}
use Rattle.mv_entry.specs.declared.note.Command.{Command}
use Rattle.mv_rules.specs.declared.terms.Terms.{Terms}
use Rattle.mv_script.specs.Scripts.{Items, End, Do, Repeat, Better}
use Rattle.mv_script_run.specs.Commands.{DoesCommand, BegunCommand}
use Rattle.mv_pass.specs.Courses.{Course, InTurn, Rounds}
use Rattle.mv_script_run.specs.Runs.{RunsBetter, StopsRepeat, StopsBetter, Runs, RunsTo, Within, Later}

-- these entries led here, and the items that are left lead on from here as the script does
pub record Toward (terms : Terms) (script items : Items) (start : NetParts) (front : List Entry) (here : NetParts) : Type 0 where
  pub runs : (es : List Entry) (new : NetParts) → Runs terms items here es new → Runs terms script start (front ++ es) new
  pub stops : (es : List Entry) (new : NetParts) → RunsTo terms items here es new → RunsTo terms script start (front ++ es) new

-- the first of these items runs as the one course and stops as the other
pub record IsFirst (terms : Terms) (items rest : Items) (Whole Stops : Course) : Type 0 where
  pub whole : (a : NetParts) (es : List Entry) (b : NetParts) → InTurn Whole (Runs terms rest) a es b → Runs terms items a es b
  pub later : (a : NetParts) (es : List Entry) (b : NetParts) → InTurn Whole (RunsTo terms rest) a es b → RunsTo terms items a es b
  pub within : (a : NetParts) (es : List Entry) (b : NetParts) → Stops a es b → RunsTo terms items a es b

pub first_command : (terms : Terms) (items rest : Items) (c : Command) → items ≡ Do c rest → IsFirst terms items rest (DoesCommand terms c) (BegunCommand terms c)
first_command terms items rest c is =
    subst (λ i. IsFirst terms i rest (DoesCommand terms c) (BegunCommand terms c)) (sym is)
    (record { whole = λ a es b p. p; later = λ a es b p. Later p; within = λ a es b p. Within p })

pub first_repeat : (terms : Terms) (items inside rest : Items) (times : ℕ) → items ≡ Repeat times inside rest → IsFirst terms items rest (Rounds times (Runs terms inside)) (StopsRepeat times (Runs terms inside) (RunsTo terms inside))
first_repeat terms items inside rest times is =
    subst (λ i. IsFirst terms i rest (Rounds times (Runs terms inside)) (StopsRepeat times (Runs terms inside) (RunsTo terms inside))) (sym is)
    (record { whole = λ a es b p. p; later = λ a es b p. Later p; within = λ a es b p. Within p })

pub first_better : (terms : Terms) (items inside rest : Items) → items ≡ Better inside rest → IsFirst terms items rest (RunsBetter (Runs terms inside)) (StopsBetter (Runs terms inside) (RunsTo terms inside))
first_better terms items inside rest is =
    subst (λ i. IsFirst terms i rest (RunsBetter (Runs terms inside)) (StopsBetter (Runs terms inside) (RunsTo terms inside))) (sym is)
    (record { whole = λ a es b p. p; later = λ a es b p. Later p; within = λ a es b p. Within p })

pub toward_none : (terms : Terms) (script : Items) (start : NetParts) → Toward terms script script start [] start
toward_none terms script start = record { runs = λ es new r. r; stops = λ es new r. r }

module _ (terms : Terms) (script items rest : Items) (Whole Stops : Course) (first : IsFirst terms items rest Whole Stops) (start here new : NetParts) (xs ys : List Entry) (toward : Toward terms script items start xs here) where
  pub toward_more : Whole here ys new → Toward terms script rest start (xs ++ ys) new
  toward_more p = record {
    runs = λ es end r.
        subst (λ z. Runs terms script start z end) (sym (append_assoc xs ys es))
        (toward.runs (ys ++ es) end (first.whole here (ys ++ es) end (record { mid = new; front = ys; rest = es; first = p; second = r; entries_are = refl })));
    stops = λ es end r.
        subst (λ z. RunsTo terms script start z end) (sym (append_assoc xs ys es))
        (toward.stops (ys ++ es) end (first.later here (ys ++ es) end (record { mid = new; front = ys; rest = es; first = p; second = r; entries_are = refl })));
  }

  pub toward_stop : Stops here ys new → RunsTo terms script start (xs ++ ys) new
  toward_stop p = toward.stops ys new (first.within here ys new p)

-- no item is left
pub toward_end : (terms : Terms) (script items : Items) (start : NetParts) (xs : List Entry) (here : NetParts) → items ≡ End → Toward terms script items start xs here → Runs terms script start xs here
toward_end terms script items start xs here is toward =
    let last : Runs terms items here [] here = subst (λ i. Runs terms i here [] here) (sym is) (refl, refl) in
    subst (λ z. Runs terms script start z here) (append-nil xs) (toward.runs [] here last)
