-- Nets visited one after the other, and what goes on behind something.
use Rattle.std.proofs.Common.{◌≡◌, ◌∙◌, ℕ, ◌+◌, ◌<◌, Bool, List, ◌++◌, length, Result, Ok, Err, refl, sym, ap, subst, arith}
use Rattle.std.proofs.lemmas.List.{append-nil}
use Rattle.mv_entry.specs.Entries.{Entry}
use Rattle.mv_entry.specs.Tallies.{Journaled}
use Rattle.mv_net.specs.declared.parts.NetParts.{NetParts}
use Rattle.mv_pass.specs.declared.stop.Stop.{Stop}
use Rattle.mv_pass.specs.Courses.{Course, InTurn, Perhaps, Still, Through, Visits, VisitsAll, VisitsSome, Onward, Short, Past}
use Rattle.mv_pass.specs.Passing.{Passes}
use Rattle.mv_pass.proofs.Coming.{Came, came_none, came_more, came_stop, came_as, came_whole}
use Rattle.mv_pass.proofs.Stepped.{stops_as}
use Rattle.mv_pass.proofs.Turns.{visits_more}

-- ---- visits

pub visited_none : (free : Bool) (Visit : ℕ → Course) (start : NetParts) (j : Journaled) → Came free (Visits Visit 0) start start j j
visited_none free Visit start j = came_none free (Visits Visit 0) start j (refl, refl)

-- visits, and one more that came as far as it did
pub some_more : (Visit : ℕ → Course) (n : ℕ) (a b c : NetParts) (xs ys : List Entry) → n < length a.nets → Visits Visit n a xs b → Perhaps (Visit n) b ys c → VisitsSome Visit a (xs ++ ys) c
some_more Visit n a b c xs ys low before (Still still) = record {
  end = n;
  within = omega arith;
  visits = subst (λ z. Visits Visit n a z c) (sym (ap (λ z. xs ++ z) still.0 ∙ append-nil xs)) (subst (Visits Visit n a xs) (sym still.1) before);
}
some_more Visit n a b c xs ys low before (Through visit) =
    record { end = n + 1; within = omega arith; visits = visits_more Visit n a b c xs ys before visit }

module _ (free : Bool) (Visit : ℕ → Course) (start here : NetParts) (j k : Journaled) (number : ℕ) (came : Came free (Visits Visit number) start here j k) where
  -- one visit more
  pub visited_more : (new : NetParts) (l : Journaled) → Passes free (Visit number) (Perhaps (Visit number)) here new k l (Ok tt) → Came free (Visits Visit (number + 1)) start new j l
  visited_more new l p =
      came_more free (Visits Visit number) (Visit number) (Perhaps (Visit number)) start here new j k l came (Visits Visit (number + 1))
      (λ xs ys v w. visits_more Visit number start here new xs ys v w) p

  -- it stopped at this visit
  pub visited_stop : number < length start.nets → (new : NetParts) (l : Journaled) (stop : Stop) → Passes free (Visit number) (Perhaps (Visit number)) here new k l (Err stop)
      → Passes free (VisitsAll Visit) (VisitsSome Visit) start new j l (Err stop)
  visited_stop low new l stop p =
      came_stop free (Visits Visit number) (Visit number) (Perhaps (Visit number)) start here new j k l came (VisitsAll Visit) (VisitsSome Visit) stop
      (λ xs ys v w. some_more Visit number start here new xs ys low v w) p

  -- all nets were visited
  pub visited_all : number ≡ length start.nets → Passes free (VisitsAll Visit) (VisitsSome Visit) start here j k (Ok tt)
  visited_all is =
      came_whole free (VisitsAll Visit) (VisitsSome Visit) start here j k
      (came_as free (Visits Visit number) (VisitsAll Visit) start here j k (λ es v. subst (λ n. Visits Visit n start es here) is v) came)

-- all visits are some
pub all_visits : (Visit : ℕ → Course) (a b : NetParts) (es : List Entry) → VisitsAll Visit a es b → VisitsSome Visit a es b
all_visits Visit a b es v = record { end = length a.nets; within = omega arith; visits = v }

-- ---- one behind the other

module _ (First Second : Course) (a b c : NetParts) (xs ys : List Entry) (first : First a xs b) (second : Second b ys c) where
  in_turn : InTurn First Second a (xs ++ ys) c
  in_turn = record { mid = b; front = xs; rest = ys; first = first; second = second; entries_are = refl }

module _ (free : Bool) (First Some Second Part : Course) (a b : NetParts) (j k : Journaled) where
  -- the first didn't come to its end
  pub stopped_short : (stop : Stop) → Passes free First Some a b j k (Err stop) → Passes free (InTurn First Second) (Onward Some First Part) a b j k (Err stop)
  stopped_short stop p = stops_as free First Some (InTurn First Second) (Onward Some First Part) a b j k stop (λ es some. Short some) p

  -- the second answered behind it
  pub followed : Passes free First Some a b j k (Ok tt) → (c : NetParts) (l : Journaled) (result : Result (Unit {0}) Stop) → Passes free Second Part b c k l result
      → Passes free (InTurn First Second) (Onward Some First Part) a c j l result
  followed p c l (Ok u) q =
      came_whole free (InTurn First Second) (Onward Some First Part) a c j l
      (came_more free First Second Part a b c j k l came (InTurn First Second) (λ xs ys f s. in_turn First Second a b c xs ys f s) q)
    where
      came : Came free First a b j k
      came = record { took = p.ok; refines = p.refines; goes_on = p.goes_on }
  followed p c l (Err stop) q =
      came_stop free First Second Part a b c j k l (record { took = p.ok; refines = p.refines; goes_on = p.goes_on }) (InTurn First Second) (Onward Some First Part) stop
      (λ xs ys f s. Past (in_turn First Part a b c xs ys f s)) q
