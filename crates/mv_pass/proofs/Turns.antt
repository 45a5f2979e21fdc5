-- What holds of nothing, and of one part behind another, holds of parts in turn, of rounds and of visits; and one visit more.
use Rattle.std.proofs.Common.{ℕ, zero, suc, ◌+◌, List, [], ◌++◌, refl, sym, subst, add-one}
use Rattle.mv_entry.specs.Entries.{Entry}
use Rattle.mv_net.specs.declared.parts.NetParts.{NetParts}
use Rattle.mv_pass.specs.Courses.{Course, Nothing, InTurn, Rounds, Visits}

-- a course of one kind is of another
abbrev pub Implies : Course → Course → Type 0
Implies First Second = (a : NetParts) (es : List Entry) (b : NetParts) → First a es b → Second a es b

module _ (Holds : Course) (none : (a : NetParts) → Holds a [] a) (then : (a b c : NetParts) (xs ys : List Entry) → Holds a xs b → Holds b ys c → Holds a (xs ++ ys) c) where
  pub of_nothing : Implies Nothing Holds
  of_nothing a es b (empty, same) = subst (λ n. Holds a es n) (sym same) (subst (λ xs. Holds a xs a) (sym empty) (none a))

  pub of_turn : (First Second : Course) → Implies First Holds → Implies Second Holds → Implies (InTurn First Second) Holds
  of_turn First Second first second a es b t =
      subst (λ xs. Holds a xs b) (sym t.entries_are) (then a t.mid b t.front t.rest (first a t.front t.mid t.first) (second t.mid t.rest b t.second))

  pub of_rounds : (Round : Course) → Implies Round Holds → (n : ℕ) → Implies (Rounds n Round) Holds
  of_rounds Round each zero = of_nothing
  of_rounds Round each (suc n) = of_turn Round (Rounds n Round) each (of_rounds Round each n)

  pub of_visits : (Visit : ℕ → Course) → ((n : ℕ) → Implies (Visit n) Holds) → (n : ℕ) → Implies (Visits Visit n) Holds
  of_visits Visit each zero = of_nothing
  of_visits Visit each (suc n) = of_turn (Visits Visit n) (Visit n) (of_visits Visit each n) (each n)

push : (Visit : ℕ → Course) (n : ℕ) (a b c : NetParts) (xs ys : List Entry) → Visits Visit n a xs b → Visit n b ys c → Visits Visit (suc n) a (xs ++ ys) c
push Visit n a b c xs ys p q = record { mid = b; front = xs; rest = ys; first = p; second = q; entries_are = refl }

-- one visit behind those before it
pub visits_more : (Visit : ℕ → Course) (n : ℕ) (a b c : NetParts) (xs ys : List Entry) → Visits Visit n a xs b → Visit n b ys c → Visits Visit (n + 1) a (xs ++ ys) c
visits_more Visit n a b c xs ys p q =
    subst (λ m. Visits Visit m a (xs ++ ys) c) (sym (add-one n)) (push Visit n a b c xs ys p q)
