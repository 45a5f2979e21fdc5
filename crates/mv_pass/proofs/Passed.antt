-- How a command answers, from what its beginning, its steps and its end answered.
use Rattle.std.proofs.Common.{Bool, ◌≡◌, [], Result, Ok, Err, refl, sym, subst}
use Rattle.mv_base.specs.declared.outside.Failed.{Failed}
use Rattle.mv_base.proofs.Meanings.{Refines-refl}
use Rattle.mv_base.proofs.OutsideLemmas.{Rose-earlier}
use Rattle.mv_entry.specs.declared.note.Command.{Command}
use Rattle.mv_entry.specs.declared.note.Note.TheVariants.{Begin}
use Rattle.mv_entry.specs.Entries.{Noted}
use Rattle.mv_entry.specs.Tallies.{Journaled, Takes}
use Rattle.mv_net.specs.declared.parts.NetParts.{NetParts}
use Rattle.mv_net.specs.Allowed.{of_net}
use Rattle.mv_net.specs.Nets.{literals_in}
use Rattle.mv_pass.specs.declared.stop.Stop.{Stop}
use Rattle.mv_pass.specs.declared.stop.Stop.TheVariants.{Note, Memory}
use Rattle.mv_pass.specs.Courses.{Course}
use Rattle.mv_pass.specs.Ending.{Ends, end_of}
use Rattle.mv_pass.specs.Going.{Does, Begun, Before}
use Rattle.mv_pass.specs.Passing.{Passes}
use Rattle.mv_pass.proofs.Commands.{begin_cut, stopped, cut_short, did, end_cut}
use Rattle.mv_pass.proofs.Taken.{Took-none, GoesOn-none, GoesOn-then, GoesOn-took}

-- an answer is of one kind
not_memory : (r : Result (Unit {0}) Stop) → r ≡ Err Note → r ≡ Err Memory → ⊥
not_memory r n m = cc

module _ (free : Bool) (Steps Part : Course) (command : Command) (a : NetParts) (j k : Journaled) where
  -- the journal couldn't take the beginning
  pub unbegun : (f : Failed) → Part a [] a → Takes j k (Noted (Begin command)) (Err f) → Passes free (Does Steps command) (Begun Steps Part command) a a j k (Err Note)
  unbegun f start begins = record {
    ok = tt;
    memory = λ e. absurd (not_memory (Err Note) (λ _. Err Note) e);
    note = λ e. begin_cut Steps Part command a j k f start begins;
    cause = λ e. begins.text.cause.failed;
    refines = Refines-refl free (of_net a);
    goes_on = GoesOn-took j k (Noted (Begin command)) (Err f) begins;
  }

  -- memory was short before it began
  pub unstarted : Passes free (Does Steps command) (Begun Steps Part command) a a j j (Err Memory)
  unstarted = record {
    ok = tt;
    memory = λ e. Took-none j (Before refl refl);
    note = λ e. absurd (not_memory (Err Memory) e refl);
    cause = λ e. absurd (not_memory (Err Memory) e refl);
    refines = Refines-refl free (of_net a);
    goes_on = GoesOn-none j;
  }

  module _ (begins : Takes j k (Noted (Begin command)) (Ok tt)) (b : NetParts) (l : Journaled) where
    -- it stopped within its steps
    pub halted : (stop : Stop) → Passes free Steps Part a b k l (Err stop) → Passes free (Does Steps command) (Begun Steps Part command) a b j l (Err stop)
    halted stop p = record {
      ok = tt;
      memory = λ e. stopped Steps Part command a j k begins b l (p.memory e);
      note = λ e. cut_short Steps Part command a j k begins b l (p.note e);
      cause = λ e. Rose-earlier j.written.faults k.written.faults l.written.faults begins.text.cause.later (p.cause e);
      refines = p.refines;
      goes_on = GoesOn-then j k l (GoesOn-took j k (Noted (Begin command)) (Ok tt) begins) p.goes_on;
    }

    -- it came to its end, which the journal took, or couldn't
    pub ended : Passes free Steps Part a b k l (Ok tt) → (m : Journaled) (result : Result (Unit {0}) Stop) → Ends b l m result → Passes free (Does Steps command) (Begun Steps Part command) a b j m result
    ended p m (Ok u) e = record {
      ok = did Steps Part command a j k begins b l m p.ok (literals_in b.nets) refl e.few e.puts;
      memory = λ e. let bad : Ok u ≡ Err Memory = e in absurd cc;
      note = λ e. let bad : Ok u ≡ Err Note = e in absurd cc;
      cause = λ e. let bad : Ok u ≡ Err Note = e in absurd cc;
      refines = p.refines;
      goes_on =
          let on = GoesOn-then j k l (GoesOn-took j k (Noted (Begin command)) (Ok tt) begins) p.goes_on in
          GoesOn-then j l m on (GoesOn-took l m (end_of b) (Ok tt) e.puts);
    }
    ended p m (Err stop) e =
        subst (λ s. Passes free (Does Steps command) (Begun Steps Part command) a b j m (Err s)) (sym e.puts.0) (cut_off e.puts.1.0 e.puts.1.1)
      where
        cut_off : (f : Failed) → Takes l m (end_of b) (Err f) → Passes free (Does Steps command) (Begun Steps Part command) a b j m (Err Note)
        cut_off f takes =
            let on = GoesOn-then j k l (GoesOn-took j k (Noted (Begin command)) (Ok tt) begins) p.goes_on in
            record {
              ok = tt;
              memory = λ e. absurd (not_memory (Err Note) (λ _. Err Note) e);
              note = λ _. end_cut Steps Part command a j k begins b l m p.ok (literals_in b.nets) refl e.few f takes;
              cause = λ _. Rose-earlier j.written.faults l.written.faults m.written.faults on.later takes.text.cause.failed;
              refines = p.refines;
              goes_on = GoesOn-then j l m on (GoesOn-took l m (end_of b) (Err f) takes);
            }
