-- How a step answers, from what its note or its rule answered.
use Rattle.std.proofs.Common.{◌≡◌, Bool, List, [], ◌∷◌, Result, Ok, Err, sym, subst}
use Rattle.mv_base.specs.declared.outside.Failed.{Failed}
use Rattle.mv_base.specs.Meaning.{Refines}
use Rattle.mv_base.specs.Outside.{Rose, Gained, GainedPart}
use Rattle.mv_base.proofs.Meanings.{Refines-refl}
use Rattle.mv_entry.specs.declared.rule.Rule.{Rule}
use Rattle.mv_entry.specs.Entries.{Entry, Applied}
use Rattle.mv_entry.specs.Tallies.{Journaled, Takes}
use Rattle.mv_entry.proofs.Printing.{print-one}
use Rattle.mv_net.specs.declared.parts.NetParts.{NetParts}
use Rattle.mv_net.specs.Allowed.{of_net}
use Rattle.mv_pass.specs.declared.stop.Stop.{Stop}
use Rattle.mv_pass.specs.declared.stop.Stop.TheVariants.{Note, Memory}
use Rattle.mv_pass.specs.Courses.{Course}
use Rattle.mv_pass.specs.Passing.{Passes}
use Rattle.mv_pass.specs.Taking.{Took, TookPart, GoesOn, TookRule, TookRulePart}
use Rattle.mv_pass.proofs.Taken.{Took-as, TookPart-as, Took-none, Took-one, TookPart-one, GoesOn-none, GoesOn-took}
use Rattle.mv_rules.specs.Applies.{Applies}

-- the answer is this stop
abbrev pub Is : Result (Unit {0}) Stop → Stop → Type 0
Is r stop = r ≡ Err stop

module _ (free : Bool) (Whole Part : Course) (a : NetParts) (j : Journaled) where
  -- nothing came, for want of memory
  pub stuck : Part a [] a → Passes free Whole Part a a j j (Err Memory)
  stuck part = record {
    ok = tt;
    memory = λ e. Took-none j part;
    note = λ e. let bad : Is (Err Memory) Note = e in absurd cc;
    cause = λ e. let bad : Is (Err Memory) Note = e in absurd cc;
    refines = Refines-refl free (of_net a);
    goes_on = GoesOn-none j;
  }

  -- nothing was to be done
  pub idle : Whole a [] a → Passes free Whole Part a a j j (Ok tt)
  idle whole = record {
    ok = Took-none j whole;
    memory = λ e. let bad : Is (Ok tt) Memory = e in absurd cc;
    note = λ e. let bad : Is (Ok tt) Note = e in absurd cc;
    cause = λ e. let bad : Is (Ok tt) Note = e in absurd cc;
    refines = Refines-refl free (of_net a);
    goes_on = GoesOn-none j;
  }

  module _ (k : Journaled) (entry : Entry) where
    -- a note
    pub told : Whole a (entry ∷ []) a → Takes j k entry (Ok tt) → Passes free Whole Part a a j k (Ok tt)
    told whole t = record {
      ok = Took-one j k entry whole t;
      memory = λ e. let bad : Is (Ok tt) Memory = e in absurd cc;
      note = λ e. let bad : Is (Ok tt) Note = e in absurd cc;
      cause = λ e. let bad : Is (Ok tt) Note = e in absurd cc;
      refines = Refines-refl free (of_net a);
      goes_on = GoesOn-took j k entry (Ok tt) t;
    }

    -- a note that the journal couldn't take
    pub cut : (f : Failed) → Part a (entry ∷ []) a → Takes j k entry (Err f) → Passes free Whole Part a a j k (Err Note)
    cut f part t = record {
      ok = tt;
      memory = λ e. let bad : Is (Err Note) Memory = e in absurd cc;
      note = λ e. TookPart-one j k entry f part t;
      cause = λ e. t.text.cause.failed;
      refines = Refines-refl free (of_net a);
      goes_on = GoesOn-took j k entry (Err f) t;
    }

  module _ (b : NetParts) (k : Journaled) (rule : Rule) (refines : Refines free (of_net b) (of_net a)) (on : GoesOn j k) where
    -- a rule
    pub applied : (Applies free rule a b → Whole a (Applied rule ∷ []) b) → TookRule free rule a b j k → Passes free Whole Part a b j k (Ok tt)
    applied whole t = record {
      ok = record {
        entries = Applied rule ∷ [];
        are = whole t.applies;
        gained = subst (λ z. Gained j.written k.written z) (sym (print-one (Applied rule))) t.gained;
        counted = t.counted;
      };
      memory = λ e. let bad : Is (Ok tt) Memory = e in absurd cc;
      note = λ e. let bad : Is (Ok tt) Note = e in absurd cc;
      cause = λ e. let bad : Is (Ok tt) Note = e in absurd cc;
      refines = refines;
      goes_on = on;
    }

    -- a rule that wasn't applied, or whose note the journal couldn't take
    pub unapplied : (stop : Stop) → Part a [] a → (Applies free rule a b → Part a (Applied rule ∷ []) b) → (Is (Err stop) Note → TookRulePart free rule a b j k)
        → (Is (Err stop) Note → Rose j.written.faults k.written.faults) → (Is (Err stop) Memory → b ≡ a) → (Is (Err stop) Memory → k ≡ j) → Passes free Whole Part a b j k (Err stop)
    unapplied stop none part note rose net journal = record {
      ok = tt;
      memory = λ e. subst (λ n. Took (λ es. Part a es n) j k) (sym (net e)) (subst (λ l. Took (λ es. Part a es a) j l) (sym (journal e)) (Took-none j none));
      note = λ e. taken (note e);
      cause = rose;
      refines = refines;
      goes_on = on;
    }
      where
        taken : TookRulePart free rule a b j k → TookPart (λ es. Part a es b) j k
        taken t = record {
          entries = Applied rule ∷ [];
          are = part t.applies;
          gained = subst (λ z. GainedPart j.written k.written z) (sym (print-one (Applied rule))) t.gained;
        }

module _ (free : Bool) (Whole Part Whole' Part' : Course) (a b : NetParts) (j k : Journaled) where
  -- what stops by one course stops by another
  pub stops_as : (stop : Stop) → ((es : List Entry) → Part a es b → Part' a es b) → Passes free Whole Part a b j k (Err stop) → Passes free Whole' Part' a b j k (Err stop)
  stops_as stop part p = record {
    ok = tt;
    memory = λ e. Took-as j k part (p.memory e);
    note = λ e. TookPart-as j k part (p.note e);
    cause = p.cause;
    refines = p.refines;
    goes_on = p.goes_on;
  }

  -- what answers by some courses answers by others
  pub passes_as : (result : Result (Unit {0}) Stop) → ((es : List Entry) → Whole a es b → Whole' a es b) → ((es : List Entry) → Part a es b → Part' a es b)
      → Passes free Whole Part a b j k result → Passes free Whole' Part' a b j k result
  passes_as (Ok u) whole part p = record {
    ok = Took-as j k whole p.ok;
    memory = λ e. let bad : Is (Ok u) Memory = e in absurd cc;
    note = λ e. let bad : Is (Ok u) Note = e in absurd cc;
    cause = λ e. let bad : Is (Ok u) Note = e in absurd cc;
    refines = p.refines;
    goes_on = p.goes_on;
  }
  passes_as (Err stop) whole part p = stops_as stop part p
