-- A visit of a net, and the visits of all: what they come to, and how they answer.
use Rattle.std.proofs.Common.{◌≡◌, ◌∙◌, ℕ, ◌<◌, Bool, false, List, [], ◌∷◌, ◌++◌, length, Option, Result, Ok, Err, refl, sym, ap, subst, arith}
use Rattle.std.proofs.lemmas.List.{append-nil}
use Rattle.mv_base.specs.Meaning.{Refines}
use Rattle.mv_base.specs.Outside.{Rose}
use Rattle.mv_entry.specs.declared.fault.RuleFault.{RuleFault}
use Rattle.mv_entry.specs.declared.note.Why.{Why}
use Rattle.mv_entry.specs.declared.rule.Rule.{Rule}
use Rattle.mv_entry.specs.Entries.{Entry, Applied, rules_of}
use Rattle.mv_entry.specs.Tallies.{Journaled}
use Rattle.mv_net.specs.declared.parts.NetParts.{NetParts}
use Rattle.mv_net.specs.Allowed.{of_net}
use Rattle.mv_net.specs.Formed.{WellFormed}
use Rattle.mv_pass.specs.declared.stop.Stop.{Stop}
use Rattle.mv_pass.specs.declared.stop.Stop.TheVariants.{Memory, Note}
use Rattle.mv_pass.specs.Courses.{Perhaps, Still, Through, Visits, VisitsAll, VisitsSome}
use Rattle.mv_pass.specs.Passing.{Passes}
use Rattle.mv_pass.specs.Taking.{GoesOn, TookRulePart}
use Rattle.mv_pass.proofs.Coming.{Came, came_more, came_stop, came_whole}
use Rattle.mv_pass.proofs.Going.{ReplaysRules, replays_then}
use Rattle.mv_pass.proofs.Stepped.{Is, passes_as, stops_as, unapplied}
use Rattle.mv_pass.proofs.Turns.{Implies, of_turn, of_visits}
use Rattle.mv_pass.proofs.Visiting.{all_visits, visited_all, visited_stop}
use Rattle.mv_rules.specs.Applies.{Applies}
use Rattle.mv_rules.specs.Replaying.{Replays}
use Rattle.mv_rules.proofs.Replayed.{replayed_refines}
use Rattle.mv_visit.specs.Visits.{IsNoted}
use Rattle.mv_visit.proofs.Visited.{step_as}
use Rattle.mv_encode.specs.Encodes.{Early, Encoded, EncodesAll, EncodesNet, EncodesSome, EndsEarly, IsToEncode, LetBe, RunsOut, Stays, StaysFor, Whole}
use Rattle.mv_encode.specs.Encoding.{Answers, IsRuleFor}

-- ---- one visit

-- a note with a reason
pub noted_so : (free : Bool) (net : NetParts) (n : ℕ) (why : Why) (j k : Journaled) (result : Result (Unit {0}) Stop) → IsToEncode net n → StaysFor net n why
    → Passes free (IsNoted n why) (Perhaps (IsNoted n why)) net net j k result → Passes free (EncodesNet n) (Perhaps (EncodesNet n)) net net j k result
noted_so free net n why j k result to stays p = step_as free (IsNoted n why) (EncodesNet n) net net j k result (λ es noted. Stays why to stays noted) p

-- the rule
pub encoded_so : (free : Bool) (net : NetParts) (n : ℕ) (rule : Rule) (new : NetParts) → IsToEncode net n → IsRuleFor net n rule → Applies free rule net new → EncodesNet n net (Applied rule ∷ []) new
encoded_so free net n rule new to is applies = Encoded is.names to is.are (subst (λ r. Applies free r net new) is.rule_is applies) (ap (λ r. Applied r ∷ []) is.rule_is)

-- the answer of an attempt that stopped
abbrev Attempted : Stop → Stop → Type 0
Attempted stop other = ◌≡◌ {A = Result (Option RuleFault) Stop} (Err stop) (Err other)

attempted : (stop other : Stop) → Is (Err stop) other → Attempted stop other
attempted stop other e = let same : stop ≡ other = cc in subst (Attempted stop) same refl

-- the rule stopped
pub encode_stopped : (free : Bool) (net : NetParts) (n : ℕ) (rule : Rule) (new : NetParts) (j k : Journaled) (stop : Stop) → IsToEncode net n → IsRuleFor net n rule → Refines free (of_net new) (of_net net) → GoesOn j k
    → (Attempted stop Note → TookRulePart free rule net new j k) → (Attempted stop Note → Rose j.written.faults k.written.faults) → (Attempted stop Memory → new ≡ net) → (Attempted stop Memory → k ≡ j)
    → Passes free (EncodesNet n) (Perhaps (EncodesNet n)) net new j k (Err stop)
encode_stopped free net n rule new j k stop to is refines on note rose same still =
    unapplied free (EncodesNet n) (Perhaps (EncodesNet n)) net j new k rule refines on stop (Still (refl, refl)) (λ applies. Through (encoded_so free net n rule new to is applies))
    (λ e. note (attempted stop Note e)) (λ e. rose (attempted stop Note e)) (λ e. same (attempted stop Memory e)) (λ e. still (attempted stop Memory e))

-- where nothing came before, a visit answers as from the beginning
pub from_there : (free : Bool) (n : ℕ) (a b there : NetParts) (j k l : Journaled) (result : Result (Option (List ℕ)) Stop) → there ≡ a → k ≡ j → Answers free n there b k l result → Answers free n a b j l result
from_there free n a b there j k l result same still answers = subst (λ (q : NetParts). Answers free n q b j l result) same (subst (λ m. Answers free n there b m l result) still answers)

-- ---- all visits

-- no step is some way of the course
pub not_begun : (net : NetParts) → EncodesSome net [] net
not_begun net = Whole (record { end = 0; within = omega arith; visits = (refl, refl) })

-- all of the course is some way of it
pub all_some : (a b : NetParts) (es : List Entry) → EncodesAll a es b → EncodesSome a es b
all_some a b es (Whole visits) = Whole (all_visits EncodesNet a b es visits)
all_some a b es (Early early) = Early early

module _ (free : Bool) (start here : NetParts) (j k : Journaled) (n : ℕ) (came : Came free (Visits EncodesNet n) start here j k) where
  -- a visit stopped
  pub stopped_at : n < length start.nets → (new : NetParts) (l : Journaled) (stop : Stop) → Passes free (EncodesNet n) (Perhaps (EncodesNet n)) here new k l (Err stop) → Passes free EncodesAll EncodesSome start new j l (Err stop)
  stopped_at low new l stop p =
      stops_as free (VisitsAll EncodesNet) (VisitsSome EncodesNet) EncodesAll EncodesSome start new j l stop (λ es v. Whole v)
      (visited_stop free EncodesNet start here j k n came low new l stop p)

  -- all nets were visited
  pub came_through : n ≡ length start.nets → Passes free EncodesAll EncodesSome start here j k (Ok tt)
  came_through all =
      passes_as free (VisitsAll EncodesNet) (VisitsSome EncodesNet) EncodesAll EncodesSome start here j k (Ok tt) (λ es v. Whole v) (λ es v. Whole v)
      (visited_all free EncodesNet start here j k n came all)

  -- the numbers ran out at this visit
  early : n < length start.nets → (new : NetParts) (xs ys : List Entry) → Visits EncodesNet n start xs here → RunsOut n here ys new → EndsEarly start (xs ++ ys) new
  early low new xs ys visits out = record { end = n; within = low; course = record { mid = here; front = xs; rest = ys; first = visits; second = out; entries_are = refl } }

  some_early : n < length start.nets → (new : NetParts) (xs ys : List Entry) → Visits EncodesNet n start xs here → Perhaps (RunsOut n) here ys new → EncodesSome start (xs ++ ys) new
  some_early low new xs ys visits (Still still) =
      Whole (record {
        end = n;
        within = omega (arith, low);
        visits = subst (λ z. Visits EncodesNet n start z new) (sym (ap (λ z. xs ++ z) still.0 ∙ append-nil xs)) (subst (Visits EncodesNet n start xs) (sym still.1) visits);
      })
  some_early low new xs ys visits (Through out) = Early (early low new xs ys visits out)

  ran_out : n < length start.nets → (new : NetParts) (l : Journaled) (result : Result (Unit {0}) Stop) → Passes free (RunsOut n) (Perhaps (RunsOut n)) here new k l result → Passes free EncodesAll EncodesSome start new j l result
  ran_out low new l (Ok u) p =
      came_whole free EncodesAll EncodesSome start new j l
      (came_more free (Visits EncodesNet n) (RunsOut n) (Perhaps (RunsOut n)) start here new j k l came EncodesAll (λ xs ys v out. Early (early low new xs ys v out)) p)
  ran_out low new l (Err stop) p =
      came_stop free (Visits EncodesNet n) (RunsOut n) (Perhaps (RunsOut n)) start here new j k l came EncodesAll EncodesSome stop (λ xs ys v out. some_early low new xs ys v out) p

  -- the same, where the visit itself did nothing
  pub ran_out_there : n < length start.nets → (there : NetParts) (m l : Journaled) (result : Result (Unit {0}) Stop) → there ≡ here → m ≡ k → Passes free (RunsOut n) (Perhaps (RunsOut n)) there there m l result
      → Passes free EncodesAll EncodesSome start there j l result
  ran_out_there low there m l result same still p =
      ran_out low there l result
      (subst (λ q. Passes free (RunsOut n) (Perhaps (RunsOut n)) q there k l result) same (subst (λ s. Passes free (RunsOut n) (Perhaps (RunsOut n)) there there s l result) still p))

-- ---- the rules

visit_replays : (free : Bool) (n : ℕ) → Implies (EncodesNet n) (ReplaysRules free)
visit_replays free n a es b (LetBe not still) = subst (λ z. Replays free (rules_of z) a b) (sym still.0) still.1
visit_replays free n a es b (Stays why to stays noted) = subst (λ z. Replays free (rules_of z) a b) (sym noted.entries_are) noted.same
visit_replays free n a es b (Encoded names to are applies is) = subst (λ z. Replays free (rules_of z) a b) (sym is) (b, (applies, refl))

visits_replay : (free : Bool) (n : ℕ) → Implies (Visits EncodesNet n) (ReplaysRules free)
visits_replay free n = of_visits (ReplaysRules free) (λ net. refl) (replays_then free) EncodesNet (visit_replays free) n

out_replays : (free : Bool) (n : ℕ) → Implies (RunsOut n) (ReplaysRules free)
out_replays free n a es b out = subst (λ z. Replays free (rules_of z) a b) (sym out.entries_are) out.same

-- they apply in turn
pub encodes_replay : (free : Bool) (a b : NetParts) (es : List Entry) → EncodesSome a es b → Replays free (rules_of es) a b
encodes_replay free a b es (Whole some) = visits_replay free some.end a es b some.visits
encodes_replay free a b es (Early early) =
    of_turn (ReplaysRules free) (λ net. refl) (replays_then free) (Visits EncodesNet early.end) (RunsOut early.end) (visits_replay free early.end) (out_replays free early.end) a es b early.course

-- whatever is free, the network that is left may take the place of the old one
some_refines : (a b : NetParts) (es : List Entry) → WellFormed a → EncodesSome a es b → Refines false (of_net b) (of_net a)
some_refines a b es formed some = replayed_refines false (rules_of es) a b formed (encodes_replay false a b es some)

pub passes_refines : (free : Bool) (a b : NetParts) (j k : Journaled) (result : Result (Unit {0}) Stop) → WellFormed a → Passes free EncodesAll EncodesSome a b j k result → Refines false (of_net b) (of_net a)
passes_refines free a b j k (Ok u) formed p = some_refines a b p.ok.entries formed (all_some a b p.ok.entries p.ok.are)
passes_refines free a b j k (Err Note) formed p = let part = p.note refl in some_refines a b part.entries formed part.are
passes_refines free a b j k (Err Memory) formed p = let part = p.memory refl in some_refines a b part.entries formed part.are
