-- Steps of one kind, one after the other, up to where none is left.
use Rattle.std.proofs.Common.{◌≡◌, Bool, [], ◌∷◌, Ok, Err, refl}
use Rattle.mv_base.specs.Meaning.{Refines}
use Rattle.mv_base.specs.Outside.{Rose}
use Rattle.mv_entry.specs.declared.rule.Rule.{Rule}
use Rattle.mv_entry.specs.Entries.{Entry, Applied}
use Rattle.mv_entry.specs.Tallies.{Journaled}
use Rattle.mv_net.specs.declared.parts.NetParts.{NetParts}
use Rattle.mv_net.specs.Allowed.{of_net}
use Rattle.mv_pass.specs.declared.stop.Stop.{Stop}
use Rattle.mv_pass.specs.declared.stop.Stop.TheVariants.{Note, Memory}
use Rattle.mv_pass.specs.Courses.{Until}
use Rattle.mv_pass.specs.Going.{Goes}
use Rattle.mv_pass.specs.Passing.{Passes}
use Rattle.mv_pass.specs.Taking.{GoesOn, TookRule, TookRulePart}
use Rattle.mv_pass.proofs.Coming.{Came, came_more, came_stop, came_as, came_whole, came_stuck}
use Rattle.mv_pass.proofs.Going.{Goes-append}
use Rattle.mv_pass.proofs.Stepped.{Is, applied, unapplied}
use Rattle.mv_rules.specs.Applies.{Applies}

-- a step is a rule that is lawful
module _ (free : Bool) (Lawful : NetParts → Entry → Type 0) (a b : NetParts) (rule : Rule) (j k : Journaled) (lawful : Lawful a (Applied rule)) (refines : Refines free (of_net b) (of_net a)) (on : GoesOn j k) where
  one_step : Applies free rule a b → Goes free Lawful a (Applied rule ∷ []) b
  one_step applies = (lawful, (b, (applies, refl)))

  pub step_applied : TookRule free rule a b j k → Passes free (Goes free Lawful) (Goes free Lawful) a b j k (Ok tt)
  step_applied took = applied free (Goes free Lawful) (Goes free Lawful) a j b k rule refines on one_step took

  -- it wasn't applied, or the journal couldn't take its note
  pub step_unapplied : (stop : Stop) → (Is (Err stop) Note → TookRulePart free rule a b j k) → (Is (Err stop) Note → Rose j.written.faults k.written.faults)
      → (Is (Err stop) Memory → b ≡ a) → (Is (Err stop) Memory → k ≡ j) → Passes free (Goes free Lawful) (Goes free Lawful) a b j k (Err stop)
  step_unapplied stop note rose net journal =
      unapplied free (Goes free Lawful) (Goes free Lawful) a j b k rule refines on stop refl one_step note rose net journal

module _ (free : Bool) (Lawful : NetParts → Entry → Type 0) (start here : NetParts) (j k : Journaled) (came : Came free (Goes free Lawful) start here j k) where
  -- one step more
  pub steps_more : (new : NetParts) (l : Journaled) → Passes free (Goes free Lawful) (Goes free Lawful) here new k l (Ok tt) → Came free (Goes free Lawful) start new j l
  steps_more new l p =
      came_more free (Goes free Lawful) (Goes free Lawful) (Goes free Lawful) start here new j k l came (Goes free Lawful)
      (λ xs ys f s. Goes-append free Lawful start here new xs ys f s) p

  module _ (Left : NetParts → Type 0) where
    -- none is left
    pub steps_end : Left here → Passes free (Until (Goes free Lawful) Left) (Goes free Lawful) start here j k (Ok tt)
    steps_end left =
        came_whole free (Until (Goes free Lawful) Left) (Goes free Lawful) start here j k
        (came_as free (Goes free Lawful) (Until (Goes free Lawful) Left) start here j k (λ es g. record { steps = g; left = left }) came)

    -- a step stopped
    pub steps_stop : (new : NetParts) (l : Journaled) (stop : Stop) → Passes free (Goes free Lawful) (Goes free Lawful) here new k l (Err stop) → Passes free (Until (Goes free Lawful) Left) (Goes free Lawful) start new j l (Err stop)
    steps_stop new l stop p =
        came_stop free (Goes free Lawful) (Goes free Lawful) (Goes free Lawful) start here new j k l came (Until (Goes free Lawful) Left) (Goes free Lawful) stop
        (λ xs ys f s. Goes-append free Lawful start here new xs ys f s) p

    -- memory was short between two steps
    pub steps_stuck : Passes free (Until (Goes free Lawful) Left) (Goes free Lawful) start here j k (Err Memory)
    steps_stuck = came_stuck free (Until (Goes free Lawful) Left) (Goes free Lawful) start here j k came
