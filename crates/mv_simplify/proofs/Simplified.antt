-- The course of `simplify`: its rules apply in turn, and it leaves no more literals than there were.
use Rattle.std.proofs.Common.{◌≡◌, ◌∙◌, ℕ, ◌<◌, ◌≤◌, Bool, true, false, List, [], ◌++◌, length, Option, Some, None, is_some, Result, Ok, Err, refl, sym, ap, subst, ⊎_elim, arith}
use Rattle.std.proofs.lemmas.Bool.{cases_lt, false≢true}
use Rattle.std.proofs.lemmas.List.{get_or_past}
use Rattle.std.proofs.lemmas.Option.{same_Some}
use Rattle.mv_base.specs.Meaning.{Refines}
use Rattle.mv_body.specs.Bodies.{cover_said}
use Rattle.mv_cover.specs.declared.cover.Cover.{Cover}
use Rattle.mv_cover.specs.Covers.{literal_count}
use Rattle.mv_entry.specs.declared.rule.Body.{Body}
use Rattle.mv_entry.specs.Entries.{Entry, rules_of}
use Rattle.mv_entry.specs.Tallies.{Journaled}
use Rattle.mv_locality.proofs.Steps.{names_itself}
use Rattle.mv_meaning.specs.Rewriting.{given_table, with_net_table}
use Rattle.mv_net.specs.declared.parts.FlatNet.{FlatNet}
use Rattle.mv_net.specs.declared.parts.NetParts.{NetParts}
use Rattle.mv_net.specs.Allowed.{of_net}
use Rattle.mv_net.specs.Changes.{with_nets}
use Rattle.mv_net.specs.Formed.{WellFormed}
use Rattle.mv_net.specs.Nets.{slot, name_in, table_in, table_literals, literals_in}
use Rattle.mv_net.proofs.Tallied.{literals-set}
use Rattle.mv_pass.specs.declared.stop.Stop.{Stop}
use Rattle.mv_pass.specs.declared.stop.Stop.TheVariants.{Memory, Note}
use Rattle.mv_pass.specs.Courses.{Course}
use Rattle.mv_pass.specs.Passing.{Passes}
use Rattle.mv_pass.proofs.Going.{ReplaysRules, replays_then}
use Rattle.mv_pass.proofs.Turns.{Implies, of_visits}
use Rattle.mv_pass.proofs.Visiting.{all_visits}
use Rattle.mv_rules.specs.declared.terms.Terms.{Terms}
use Rattle.mv_plans.specs.Narrowing.{Narrows}
use Rattle.mv_rules.specs.Replaying.{Replays}
use Rattle.mv_rules.proofs.Kept.{kept_formed}
use Rattle.mv_rules.proofs.Replayed.{replayed_refines}
use Rattle.mv_simplify.specs.Simplifies.{IsTightNow, LetBe, Narrowed, SimplifiesAll, SimplifiesNet, SimplifiesSome, Stays, rule_of}
use Rattle.mv_tight.specs.Tight.{IsGrown}
use Rattle.mv_tight.proofs.Some.{lines_fewer}

-- no step is some way of the course
pub not_begun : (terms : Terms) (d u : ℕ) (net : NetParts) → SimplifiesSome terms d u net [] net
not_begun terms d u net = record { end = 0; within = omega arith; visits = (refl, refl) }

-- ---- its rules

visit_replays : (free : Bool) (terms : Terms) (d u n : ℕ) → Implies (SimplifiesNet terms d u n) (ReplaysRules free)
visit_replays free terms d u n a es b (LetBe none still) = subst (λ z. Replays free (rules_of z) a b) (sym still.0) still.1
visit_replays free terms d u n a es b (Stays why tabled keeps is same) = subst (λ z. Replays free (rules_of z) a b) (sym is) same
visit_replays free terms d u n a es b (IsTightNow table table_is below tight still) = subst (λ z. Replays free (rules_of z) a b) (sym still.0) still.1
visit_replays free terms d u n a es b (Narrowed table body table_is applies tight grown changed is) = subst (λ z. Replays free (rules_of z) a b) (sym is) (b, (applies, refl))

pub some_replays : (free : Bool) (terms : Terms) (d u : ℕ) (a b : NetParts) (es : List Entry) → SimplifiesSome terms d u a es b → Replays free (rules_of es) a b
some_replays free terms d u a b es t =
    of_visits (ReplaysRules free) (λ n. refl) (replays_then free) (SimplifiesNet terms d u) (visit_replays free terms d u) t.end a es b t.visits

-- whatever is free, the network that is left may take the place of the old one
some_refines : (terms : Terms) (d u : ℕ) (a b : NetParts) (es : List Entry) → WellFormed a → SimplifiesSome terms d u a es b → Refines false (of_net b) (of_net a)
some_refines terms d u a b es formed t = replayed_refines false (rules_of es) a b formed (some_replays false terms d u a b es t)

pub passes_refines : (terms : Terms) (d u : ℕ) (a b : NetParts) (j k : Journaled) (result : Result (Unit {0}) Stop) → WellFormed a
    → Passes terms.free (SimplifiesAll terms d u) (SimplifiesSome terms d u) a b j k result → Refines false (of_net b) (of_net a)
passes_refines terms d u a b j k (Ok t) formed p = some_refines terms d u a b p.ok.entries formed (all_visits (SimplifiesNet terms d u) a b p.ok.entries p.ok.are)
passes_refines terms d u a b j k (Err Note) formed p = let part = p.note refl in some_refines terms d u a b part.entries formed part.are
passes_refines terms d u a b j k (Err Memory) formed p = let part = p.memory refl in some_refines terms d u a b part.entries formed part.are

-- ---- its literals

given_literals : (f : Option FlatNet) (old new : Cover) → table_in f ≡ Some old → table_literals (table_in (given_table new f)) ≡ literal_count new.lines
given_literals None old new e = absurd cc
given_literals (Some f) old new e = refl

-- a table that has no more literals
narrow_literals : (a b : NetParts) (name : List ℕ) (d u : ℕ) (body : Body) → (p : Narrows a name d u body b) → IsGrown p.table (cover_said a.nets body) → literals_in b.nets ≤ literals_in a.nets
unfolding with_nets with_net_table
narrow_literals a b name d u body p grown =
    let new = cover_said a.nets body in
    ⊎_elim
    (λ (low : p.number < length a.nets).
    let e = literals-set a.nets p.number (given_table new (slot a.nets p.number)) low in
    let here = given_literals (slot a.nets p.number) p.table new p.table_is in
    let was = ap table_literals p.table_is in
    let fewer = lines_fewer p.table.lines new.lines grown.lines in
    let now = ap (λ (q : NetParts). literals_in q.nets) p.new_is in
    omega (arith, e, here, was, fewer, now))
    (λ (past : length a.nets ≤ p.number). absurd (past_tabled past))
    (cases_lt p.number (length a.nets))
  where
    past_tabled : length a.nets ≤ p.number → ⊥
    past_tabled past = let e : None ≡ Some p.table = ap table_in (sym (get_or_past a.nets p.number None past)) ∙ p.table_is in absurd cc

-- a net with a table is held
tabled_held : (f : Option FlatNet) → is_some (table_in f) ≡ true → is_some f ≡ true
tabled_held None h = absurd (false≢true h)
tabled_held (Some f) h = refl

-- a narrowing of the net n is of that net's table
pub narrows_number : (a b : NetParts) (d u n : ℕ) (table : Cover) (body : Body) → WellFormed a → table_in (slot a.nets n) ≡ Some table → (p : Narrows a (name_in (slot a.nets n)) d u body b) → p.number ≡ n
narrows_number a b d u n table body formed is p =
    names_itself a (name_in (slot a.nets n)) n p.number formed p.net (tabled_held (slot a.nets n) (ap (λ t. is_some t) is)) refl

narrows_table : (a b : NetParts) (d u n : ℕ) (table : Cover) (body : Body) → WellFormed a → table_in (slot a.nets n) ≡ Some table → (p : Narrows a (name_in (slot a.nets n)) d u body b) → p.table ≡ table
narrows_table a b d u n table body formed is p =
    same_Some p.table table (sym p.table_is ∙ (ap (λ k. table_in (slot a.nets k)) (narrows_number a b d u n table body formed is p) ∙ is))

-- a well formed network stays so, and has no more literals then
abbrev StaysFew : Course
StaysFew a es b = WellFormed a → WellFormed b × (literals_in b.nets ≤ literals_in a.nets)

stayed_few : (a b : NetParts) → b ≡ a → WellFormed a → WellFormed b × (literals_in b.nets ≤ literals_in a.nets)
stayed_few a b same formed = let e = ap (λ (q : NetParts). literals_in q.nets) same in (subst WellFormed (sym same) formed, omega (arith, e))

few_then : (a b c : NetParts) (xs ys : List Entry) → StaysFew a xs b → StaysFew b ys c → StaysFew a (xs ++ ys) c
few_then a b c xs ys p q formed =
    let first = p formed in
    let second = q first.0 in
    (second.0, omega (arith, first.1, second.1))

visit_few : (terms : Terms) (d u n : ℕ) → Implies (SimplifiesNet terms d u n) StaysFew
visit_few terms d u n a es b (LetBe none still) formed = stayed_few a b still.1 formed
visit_few terms d u n a es b (Stays why tabled keeps is same) formed = stayed_few a b same formed
visit_few terms d u n a es b (IsTightNow table table_is below tight still) formed = stayed_few a b still.1 formed
visit_few terms d u n a es b (Narrowed table body table_is applies tight grown changed is) formed =
    (kept_formed terms.free (rule_of a n d u body) a b formed applies, narrow_literals a b (name_in (slot a.nets n)) d u body applies (subst (λ t. IsGrown t (cover_said a.nets body)) (sym (narrows_table a b d u n table body formed table_is applies)) grown))

pub some_no_more : (terms : Terms) (d u : ℕ) (a b : NetParts) (es : List Entry) → WellFormed a → SimplifiesSome terms d u a es b → literals_in b.nets ≤ literals_in a.nets
some_no_more terms d u a b es formed t =
    (of_visits StaysFew (λ n f. (f, omega arith)) few_then (SimplifiesNet terms d u) (visit_few terms d u) t.end a es b t.visits formed).1
