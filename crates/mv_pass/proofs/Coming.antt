-- What came of a run so far, and what comes of one part more.
use Rattle.std.proofs.Common.{Bool, List, [], ◌++◌, Ok, Err}
use Rattle.mv_base.specs.Meaning.{Refines}
use Rattle.mv_base.proofs.Meanings.{Refines-refl, Refines-then}
use Rattle.mv_base.proofs.OutsideLemmas.{Rose-earlier}
use Rattle.mv_entry.specs.Entries.{Entry}
use Rattle.mv_entry.specs.Tallies.{Journaled}
use Rattle.mv_net.specs.declared.parts.NetParts.{NetParts}
use Rattle.mv_net.specs.Allowed.{of_net}
use Rattle.mv_pass.specs.declared.stop.Stop.{Stop}
use Rattle.mv_pass.specs.declared.stop.Stop.TheVariants.{Note, Memory}
use Rattle.mv_pass.specs.Courses.{Course}
use Rattle.mv_pass.specs.Taking.{Took, GoesOn}
use Rattle.mv_pass.proofs.Taken.{Took-none, Took-as, Took-then, TookPart-then, GoesOn-none, GoesOn-then}
use Rattle.mv_pass.specs.Passing.{Passes}
use Rattle.mv_pass.proofs.Stepped.{Is}

-- such a course came from the one network to the other, and the journal took its entries
pub record Came (free : Bool) (Reached : Course) (start here : NetParts) (journal journal' : Journaled) : Type 0 where
  pub took : Took (λ entries. Reached start entries here) journal journal'
  pub refines : Refines free (of_net here) (of_net start)
  pub goes_on : GoesOn journal journal'

-- two courses, one behind the other, are a third
abbrev pub Joins : Course → Course → Course → NetParts → NetParts → NetParts → Type 0
Joins First Second Both a b c = (xs ys : List Entry) → First a xs b → Second b ys c → Both a (xs ++ ys) c

pub came_none : (free : Bool) (Reached : Course) (start : NetParts) (j : Journaled) → Reached start [] start → Came free Reached start start j j
came_none free Reached start j reached =
    record { took = Took-none j reached; refines = Refines-refl free (of_net start); goes_on = GoesOn-none j }

module _ (free : Bool) (Reached Whole Stops : Course) (start here new : NetParts) (j k l : Journaled) (came : Came free Reached start here j k) where
  pub came_more : (Reached' : Course) → Joins Reached Whole Reached' start here new → Passes free Whole Stops here new k l (Ok tt) → Came free Reached' start new j l
  came_more Reached' join p = record {
    took = Took-then join j k l came.took p.ok;
    refines = Refines-then free (of_net new) (of_net here) (of_net start) p.refines came.refines;
    goes_on = GoesOn-then j k l came.goes_on p.goes_on;
  }

  pub came_stop : (Whole' Stops' : Course) (stop : Stop) → Joins Reached Stops Stops' start here new → Passes free Whole Stops here new k l (Err stop) → Passes free Whole' Stops' start new j l (Err stop)
  came_stop Whole' Stops' stop join p = record {
    ok = tt;
    memory = λ e. Took-then join j k l came.took (p.memory e);
    note = λ e. TookPart-then join j k l came.took (p.note e);
    cause = λ e. Rose-earlier j.written.faults k.written.faults l.written.faults came.goes_on.later (p.cause e);
    refines = Refines-then free (of_net new) (of_net here) (of_net start) p.refines came.refines;
    goes_on = GoesOn-then j k l came.goes_on p.goes_on;
  }

-- the same course is of another kind too
pub came_as : (free : Bool) (Reached Also : Course) (start here : NetParts) (j k : Journaled) → ((es : List Entry) → Reached start es here → Also start es here) → Came free Reached start here j k → Came free Also start here j k
came_as free Reached Also start here j k also came =
    record { took = Took-as j k also came.took; refines = came.refines; goes_on = came.goes_on }

pub came_whole : (free : Bool) (Whole Stops : Course) (start here : NetParts) (j k : Journaled) → Came free Whole start here j k → Passes free Whole Stops start here j k (Ok tt)
came_whole free Whole Stops start here j k came = record {
  ok = came.took;
  memory = λ e. absurd cc;
  note = λ e. absurd cc;
  cause = λ e. absurd cc;
  refines = came.refines;
  goes_on = came.goes_on;
}

-- it stopped between two parts, for want of memory
pub came_stuck : (free : Bool) (Whole Stops : Course) (start here : NetParts) (j k : Journaled) → Came free Stops start here j k → Passes free Whole Stops start here j k (Err Memory)
came_stuck free Whole Stops start here j k came = record {
  ok = tt;
  memory = λ e. came.took;
  note = λ e. let bad : Is (Err Memory) Note = e in absurd cc;
  cause = λ e. let bad : Is (Err Memory) Note = e in absurd cc;
  refines = came.refines;
  goes_on = came.goes_on;
}
