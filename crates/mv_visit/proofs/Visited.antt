-- Visits as courses: what answers by one kind of step answers by another, their rules apply in turn, and they leave no more literals.
use Rattle.std.proofs.Common.{◌≡◌, ◌∙◌, ℕ, ◌<◌, ◌≤◌, Bool, true, false, List, [], ◌++◌, length, Option, Some, None, is_some, Result, Ok, Err, refl, sym, ap, subst, ⊎_elim, arith}
use Rattle.std.specs.Prelude.{OnOk}
use Rattle.std.proofs.lemmas.Bool.{cases_lt}
use Rattle.std.proofs.lemmas.List.{get_or_past}
use Rattle.std.proofs.lemmas.Option.{same_Some}
use Rattle.mv_base.specs.Meaning.{Refines}
use Rattle.mv_body.specs.Bodies.{cover_said}
use Rattle.mv_cover.specs.declared.cover.Cover.{Cover}
use Rattle.mv_cover.specs.Covers.{literal_count}
use Rattle.mv_entry.specs.declared.note.Why.{Why}
use Rattle.mv_entry.specs.declared.note.Why.TheVariants.{Window as IsWide}
use Rattle.mv_entry.specs.Entries.{Entry, rules_of}
use Rattle.mv_entry.specs.Tallies.{Journaled}
use Rattle.mv_flex.specs.Flex.{TooWide}
use Rattle.mv_meaning.specs.Rewriting.{given_table, with_net_table}
use Rattle.mv_narrow.specs.Verdicts.{HasWindow}
use Rattle.mv_net.specs.declared.parts.FlatNet.{FlatNet}
use Rattle.mv_net.specs.declared.parts.NetParts.{NetParts}
use Rattle.mv_net.specs.Allowed.{of_net}
use Rattle.mv_net.specs.Changes.{with_nets}
use Rattle.mv_net.specs.Formed.{WellFormed}
use Rattle.mv_net.specs.Nets.{slot, name_in, table_in, table_literals, literals_in}
use Rattle.mv_net.proofs.Tallied.{literals-set}
use Rattle.mv_pass.specs.declared.stop.Stop.{Stop}
use Rattle.mv_pass.specs.declared.stop.Stop.TheVariants.{Memory, Note}
use Rattle.mv_pass.specs.Courses.{Course, Perhaps, Still, Through, VisitsAll, VisitsSome}
use Rattle.mv_pass.specs.Passing.{Passes}
use Rattle.mv_pass.proofs.Coming.{came_as, came_stuck}
use Rattle.mv_pass.proofs.Going.{ReplaysRules, replays_then}
use Rattle.mv_pass.proofs.Stepped.{passes_as}
use Rattle.mv_pass.proofs.Turns.{Implies, of_visits}
use Rattle.mv_pass.proofs.Visiting.{all_visits}
use Rattle.mv_plans.specs.Narrowing.{Narrows}
use Rattle.mv_rules.specs.Replaying.{Replays}
use Rattle.mv_rules.proofs.Kept.{kept_formed}
use Rattle.mv_plans.proofs.Named.{one_tabled}
use Rattle.mv_rules.proofs.Replayed.{replayed_refines}
use Rattle.mv_visit.specs.Visits.{Cannot, Does, GivesWay, HasNone, IsLet, IsNoted, IsNotedWide, Lessens, MayLessen, StaysFor, Treatment, Treats, rule_of}
use Rattle.mv_visit.proofs.Tabled.{its_table}

-- what holds anyhow
pub always : (result : Result (Unit {0}) Stop) (P : Type 0) → P → OnOk result P
always (Ok u) P p = p
always (Err stop) P p = tt

-- ---- one step as another

perhaps_as : (First Second : Course) (a b : NetParts) → ((es : List Entry) → First a es b → Second a es b) → (es : List Entry) → Perhaps First a es b → Perhaps Second a es b
perhaps_as First Second a b also es (Still still) = Still still
perhaps_as First Second a b also es (Through through) = Through (also es through)

-- what answers by one kind of step answers by another
pub step_as : (free : Bool) (First Second : Course) (a b : NetParts) (j k : Journaled) (result : Result (Unit {0}) Stop) → ((es : List Entry) → First a es b → Second a es b)
    → Passes free First (Perhaps First) a b j k result → Passes free Second (Perhaps Second) a b j k result
step_as free First Second a b j k result also p =
    passes_as free First (Perhaps First) Second (Perhaps Second) a b j k result also (perhaps_as First Second a b also) p

pub noted_wide : (free : Bool) (n : ℕ) (c : Cover) (a : NetParts) (j k : Journaled) (result : Result (Unit {0}) Stop) → HasWindow a n 0 0 (TooWide a)
    → Passes free (IsNoted n IsWide) (Perhaps (IsNoted n IsWide)) a a j k result → Passes free (MayLessen n c) (Perhaps (MayLessen n c)) a a j k result
noted_wide free n c a j k result wide p =
    step_as free (IsNoted n IsWide) (MayLessen n c) a a j k result (λ es noted. Cannot (record { window = wide; noted = noted })) p

pub may_give : (free : Bool) (n : ℕ) (c : Cover) (a b : NetParts) (j k : Journaled) (result : Result (Unit {0}) Stop)
    → Passes free (Lessens n c) (Perhaps (Lessens n c)) a b j k result → Passes free (MayLessen n c) (Perhaps (MayLessen n c)) a b j k result
may_give free n c a b j k result p = step_as free (Lessens n c) (MayLessen n c) a b j k result (λ es less. Does less) p

-- behind a step memory may be short
pub spent : (free : Bool) (Step : Course) (a b : NetParts) (j k : Journaled) → Passes free Step (Perhaps Step) a b j k (Ok tt) → Passes free Step (Perhaps Step) a b j k (Err Memory)
spent free Step a b j k p =
    came_stuck free Step (Perhaps Step) a b j k
    (came_as free Step (Perhaps Step) a b j k (λ es v. Through v) (record { took = p.ok; refines = p.refines; goes_on = p.goes_on }))

-- ---- visits

module _ (t : Treatment) where
  -- no step is some way of the course
  pub not_begun : (net : NetParts) → VisitsSome (Treats t) net [] net
  not_begun net = record { end = 0; within = omega arith; visits = (refl, refl) }

  noted_replays : (free : Bool) (n : ℕ) (why : Why) → Implies (IsNoted n why) (ReplaysRules free)
  noted_replays free n why a es b noted = subst (λ z. Replays free (rules_of z) a b) (sym noted.entries_are) noted.same

  visit_replays : (free : Bool) (n : ℕ) → Implies (Treats t n) (ReplaysRules free)
  visit_replays free n a es b (HasNone none still) = subst (λ z. Replays free (rules_of z) a b) (sym still.0) still.1
  visit_replays free n a es b (IsLet table is lets still) = subst (λ z. Replays free (rules_of z) a b) (sym still.0) still.1
  visit_replays free n a es b (StaysFor why table is notes noted) = noted_replays free n why a es b noted
  visit_replays free n a es b (GivesWay table less is gives lessens) = subst (λ z. Replays free (rules_of z) a b) (sym lessens.entries_are) (b, (lessens.applies, refl))

  pub some_replays : (free : Bool) (a b : NetParts) (es : List Entry) → VisitsSome (Treats t) a es b → Replays free (rules_of es) a b
  some_replays free a b es v = of_visits (ReplaysRules free) (λ n. refl) (replays_then free) (Treats t) (visit_replays free) v.end a es b v.visits

  -- whatever is free, the network that is left may take the place of the old one
  some_refines : (a b : NetParts) (es : List Entry) → WellFormed a → VisitsSome (Treats t) a es b → Refines false (of_net b) (of_net a)
  some_refines a b es formed v = replayed_refines false (rules_of es) a b formed (some_replays false a b es v)

  pub passes_refines : (free : Bool) (a b : NetParts) (j k : Journaled) (result : Result (Unit {0}) Stop) → WellFormed a
      → Passes free (VisitsAll (Treats t)) (VisitsSome (Treats t)) a b j k result → Refines false (of_net b) (of_net a)
  passes_refines free a b j k (Ok u) formed p = some_refines a b p.ok.entries formed (all_visits (Treats t) a b p.ok.entries p.ok.are)
  passes_refines free a b j k (Err Note) formed p = let part = p.note refl in some_refines a b part.entries formed part.are
  passes_refines free a b j k (Err Memory) formed p = let part = p.memory refl in some_refines a b part.entries formed part.are

-- ---- what a narrowing changes

module _ (a b : NetParts) (n : ℕ) (table less : Cover) (es : List Entry) (formed : WellFormed a) (is : table_in (slot a.nets n) ≡ Some table) (l : Lessens n less a es b) where
  narrows : Narrows a (name_in (slot a.nets n)) 0 0 l.body b
  narrows = l.applies

  number_is : narrows.number ≡ n
  number_is = one_tabled a (name_in (slot a.nets n)) narrows.number n formed narrows.net (its_table a.nets n (ap (λ o. is_some o) is))

  -- the net has the new table, and nothing else is changed
  pub lessened_nets : b.nets ≡ with_net_table a.nets n less
  unfolding with_nets
  lessened_nets =
      ap (λ (q : NetParts). q.nets) narrows.new_is
      ∙ (ap (λ k. with_net_table a.nets k (cover_said a.nets l.body)) number_is ∙ ap (λ k. with_net_table a.nets n k) l.says)

  pub lessened_formed : WellFormed b
  lessened_formed = kept_formed false (rule_of a n 0 0 l.body) a b formed l.applies

given_literals : (f : Option FlatNet) (old new : Cover) → table_in f ≡ Some old → table_literals (table_in (given_table new f)) ≡ literal_count new.lines
given_literals None old new e = absurd cc
given_literals (Some f) old new e = refl

-- where the new table has no more literals, neither has the network
given_fewer : (nets : List (Option FlatNet)) (n : ℕ) (old new : Cover) → table_in (slot nets n) ≡ Some old → literal_count new.lines ≤ literal_count old.lines → literals_in (with_net_table nets n new) ≤ literals_in nets
unfolding with_net_table
given_fewer nets n old new is fewer =
    ⊎_elim
    (λ (low : n < length nets).
    let e = literals-set nets n (given_table new (slot nets n)) low in
    let here = given_literals (slot nets n) old new is in
    let was = ap table_literals is in
    omega (arith, e, here, was, fewer))
    (λ (past : length nets ≤ n). absurd (none past))
    (cases_lt n (length nets))
  where
    none : length nets ≤ n → ⊥
    none past = let e : None ≡ Some old = ap table_in (sym (get_or_past nets n None past)) ∙ is in absurd cc

-- ---- literals

-- a well formed network stays so, and has no more literals then
abbrev StaysFew : Course
StaysFew a es b = WellFormed a → WellFormed b × (literals_in b.nets ≤ literals_in a.nets)

stayed_few : (a b : NetParts) → b ≡ a → WellFormed a → WellFormed b × (literals_in b.nets ≤ literals_in a.nets)
stayed_few a b same formed = let e = ap (λ (q : NetParts). literals_in q.nets) same in (subst WellFormed (sym same) formed, omega (arith, e))

few_then : (a b c : NetParts) (xs ys : List Entry) → StaysFew a xs b → StaysFew b ys c → StaysFew a (xs ++ ys) c
few_then a b c xs ys p q formed =
    let first = p formed in
    let second = q first.0 in
    (second.0, omega (arith, first.1, second.1))

-- a treatment under which no table gets more literals
pub record GivesFewer (t : Treatment) : Type 0 where
  pub each : (net : NetParts) (n : ℕ) (table less : Cover) → t.Gives net n table less → literal_count less.lines ≤ literal_count table.lines

visit_few : (t : Treatment) → GivesFewer t → (n : ℕ) → Implies (Treats t n) StaysFew
visit_few t fewer n a es b (HasNone none still) formed = stayed_few a b still.1 formed
visit_few t fewer n a es b (IsLet table is lets still) formed = stayed_few a b still.1 formed
visit_few t fewer n a es b (StaysFor why table is notes noted) formed = stayed_few a b noted.same formed
visit_few t fewer n a es b (GivesWay table less is gives lessens) formed = (
  lessened_formed a b n table less es formed is lessens,
  let e = ap literals_in (lessened_nets a b n table less es formed is lessens) in
      let few = given_fewer a.nets n table less is (fewer.each a n table less gives) in
      omega (arith, e, few),
)

pub some_no_more : (t : Treatment) → GivesFewer t → (a b : NetParts) (es : List Entry) → WellFormed a → VisitsSome (Treats t) a es b → literals_in b.nets ≤ literals_in a.nets
some_no_more t fewer a b es formed v =
    (of_visits StaysFew (λ n f. (f, omega arith)) few_then (Treats t) (visit_few t fewer) v.end a es b v.visits formed).1
