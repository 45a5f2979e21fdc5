-- A divisor comes as a net, and then the tables are divided by it.
use Rattle.std.proofs.Common.{◌≡◌, ℕ, ◌+◌, Bool, List, [], ◌∷◌, All, Result, Ok, length, refl, sym, ap, subst, Option, Some, None, arith}
use Rattle.std.proofs.lemmas.List.{append-nil}
use Rattle.std.proofs.lemmas.List.Elements.{All-weaker}
use Rattle.std.specs.Prelude.{Contains}
use Rattle.mv_cover.specs.Literal.{Lit}
use Rattle.mv_cover.specs.declared.cover.Cover.{Cover}
use Rattle.mv_division.specs.Divisors.{IsDivisorOver, add_rule}
use Rattle.mv_division.proofs.Adding.{standing_literals}
use Rattle.mv_entry.specs.declared.rule.Rule.{Rule}
use Rattle.mv_entry.specs.Entries.{Entry, Applied}
use Rattle.mv_entry.specs.Tallies.{Journaled}
use Rattle.mv_gains.specs.Gains.{lines_in}
use Rattle.mv_gains.specs.Candidates.{Candidates, IsBest, IsDivisorFor, StandsIn}
use Rattle.mv_kernels.proofs.Lists.{Contains-none}
use Rattle.mv_net.specs.declared.parts.NetParts.{NetParts}
use Rattle.mv_net.specs.Formed.{WellFormed, IsLiteral}
use Rattle.mv_net.specs.Fresh.{IsFreshName}
use Rattle.mv_net.specs.Nets.{slot, table_in}
use Rattle.mv_pass.specs.declared.stop.Stop.{Stop}
use Rattle.mv_pass.specs.Courses.{InTurn, Perhaps, Still, Through, Repeated, VisitsAll, VisitsSome, Onward, Short, Past}
use Rattle.mv_pass.specs.Passing.{Passes}
use Rattle.mv_pass.proofs.Coming.{Came, came_none, came_more}
use Rattle.mv_pass.proofs.Stepped.{passes_as}
use Rattle.mv_pass.proofs.Turns.{visits_more}
use Rattle.mv_pass.proofs.Visiting.{followed}
use Rattle.mv_rules.specs.Applies.{Applies}
use Rattle.mv_extract.specs.Steps.{AddsDivisor, DividesNet, TakesDivisor, TakesDivisorSome, TakesBest, next_net}

-- ---- a net comes

pub adds_so : (free : Bool) (net : NetParts) (divisor : List (List Lit)) (name : List ℕ) (new : NetParts) (rule : Rule) → IsFreshName net.nets 0 name → rule ≡ add_rule net.nets name divisor → Applies free rule net new
    → AddsDivisor free divisor net (Applied rule ∷ []) new
adds_so free net divisor name new rule fresh is applies = record {
  name = name;
  fresh = fresh;
  applies = subst (λ r. Applies free r net new) is applies;
  entries_are = ap (λ r. Applied r ∷ []) is;
}

-- ---- a candidate is a divisor over the nets

stands_over : (net : NetParts) (cube : List Lit) → WellFormed net → StandsIn net.nets cube → All (IsLiteral net.nets) cube
stands_over net cube formed stands = by (table_in (slot net.nets stands.net)) refl
  where
    by : (t : Option Cover) → table_in (slot net.nets stands.net) ≡ t → All (IsLiteral net.nets) cube
    by None e = absurd (Contains-none stands.line (subst (λ t. Contains (lines_in t) stands.line) e stands.there))
    by (Some c) e = standing_literals net stands.net c stands.line cube formed e (subst (λ t. Contains (lines_in t) stands.line) e stands.there) stands.each

pub over_of : (net : NetParts) (divisor : List (List Lit)) → WellFormed net → IsDivisorFor net.nets divisor → IsDivisorOver net.nets divisor
over_of net divisor formed is = record {
  some = is.some;
  ascending = is.ascending;
  formed = is.formed;
  literals = is.literals;
  over = All-weaker (StandsIn net.nets) (λ (c : List Lit). All (IsLiteral net.nets) c) (λ c stands. stands_over net c formed stands) divisor is.stand;
}

-- ---- a step

module _ (free : Bool) (divisor : List (List Lit)) (a : NetParts) where
  -- it stopped where the net comes
  pub add_part : (b : NetParts) (es : List Entry) → Perhaps (AddsDivisor free divisor) a es b → TakesDivisorSome free divisor a es b
  add_part b es (Still still) = Short still
  add_part b es (Through adds) = Past (record {
    mid = b;
    front = es;
    rest = [];
    first = adds;
    second = record { end = 0; within = omega arith; visits = (refl, refl) };
    entries_are = sym (append-nil es);
  })

  divide_part : (c : NetParts) (es : List Entry) → Onward (Perhaps (AddsDivisor free divisor)) (AddsDivisor free divisor) (VisitsSome (DividesNet free divisor (next_net a))) a es c → TakesDivisorSome free divisor a es c
  divide_part c es (Short adds) = add_part c es adds
  divide_part c es (Past turn) = Past turn

  pub taken : (b : NetParts) (j k : Journaled) → Passes free (AddsDivisor free divisor) (Perhaps (AddsDivisor free divisor)) a b j k (Ok tt) → (d : ℕ) → d ≡ length a.nets → (c : NetParts) (l : Journaled) (result : Result (Unit {0}) Stop)
      → Passes free (VisitsAll (DividesNet free divisor (record { 0 = d }))) (VisitsSome (DividesNet free divisor (record { 0 = d }))) b c k l result → Passes free (TakesDivisor free divisor) (TakesDivisorSome free divisor) a c j l result
  taken b j k p d last c l result q =
      let q' = subst (λ n. Passes free (VisitsAll (DividesNet free divisor (record { 0 = n }))) (VisitsSome (DividesNet free divisor (record { 0 = n }))) b c k l result) last q in
      passes_as free (InTurn (AddsDivisor free divisor) (VisitsAll (DividesNet free divisor (next_net a)))) (Onward (Perhaps (AddsDivisor free divisor)) (AddsDivisor free divisor) (VisitsSome (DividesNet free divisor (next_net a)))) (TakesDivisor free divisor) (TakesDivisorSome free divisor) a c j l result
      (λ es turn. turn) (λ es part. divide_part c es part)
      (followed free (AddsDivisor free divisor) (Perhaps (AddsDivisor free divisor)) (VisitsAll (DividesNet free divisor (next_net a))) (VisitsSome (DividesNet free divisor (next_net a))) a b j k p c l result q')

-- ---- steps

module _ (free : Bool) (Candidate : Candidates) (start here : NetParts) (j k : Journaled) (came : Came free (Repeated (TakesBest Candidate free)) start here j k) where
  -- one step more
  pub steps_more : (divisor : List (List Lit)) → IsBest Candidate here.nets divisor → (new : NetParts) (l : Journaled) → Passes free (TakesDivisor free divisor) (TakesDivisorSome free divisor) here new k l (Ok tt)
      → Came free (Repeated (TakesBest Candidate free)) start new j l
  steps_more divisor best new l p =
      came_more free (Repeated (TakesBest Candidate free)) (TakesDivisor free divisor) (TakesDivisorSome free divisor) start here new j k l came (Repeated (TakesBest Candidate free))
      (λ xs ys r t. record { times = r.times + 1; rounds = visits_more (λ m. TakesBest Candidate free) r.times start here new xs ys r.rounds (record { divisor = divisor; best = best; course = t }) }) p

pub steps_none : (free : Bool) (Candidate : Candidates) (start : NetParts) (j : Journaled) → Came free (Repeated (TakesBest Candidate free)) start start j j
steps_none free Candidate start j = came_none free (Repeated (TakesBest Candidate free)) start j (record { times = 0; rounds = (refl, refl) })
