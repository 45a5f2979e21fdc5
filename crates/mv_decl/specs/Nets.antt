-- Declarations as they are gathered, line by line.
use Rattle.std.specs.Prelude.{◌≡◌, ℕ, ◌<◌, ◌≤◌, nat_eq, List, [], ◌∷◌, ◌++◌, length, if◌then◌else◌}
use Rattle.std.specs.List.{AllByRecursion}
use Rattle.std.specs.Cmp.Lexicographic.{pointwise}
use Rattle.indexmap.specs.IndexMap.{IndexMap, get}
use Rattle.mv_base.specs.Names.{among, place_of}
use Rattle.mv_base.specs.declared.limits.TheConstants.{MAX_VALUES}
use Rattle.mv_design.specs.declared.design.Decl.{Decl}
use Rattle.mv_design.specs.Values.{two_values, declared_of}

-- the declarations with one more, unless its net is declared already
unfoldable pub with_decl : List Decl → Decl → List Decl
with_decl ds d = if among d.net (declared_of ds) then ds else ds ++ d ∷ []

-- the same with more of them: each net keeps its first declaration
abbrev pub with_decls : List Decl → List Decl → List Decl
with_decls ds [] = ds
with_decls ds (d ∷ more) = with_decls (with_decl ds d) more

-- a declaration has values, and no more than a net may have
abbrev pub HasValues : Decl → Type 0
HasValues d = (0 < length d.values) × (length d.values ≤ MAX_VALUES)

-- what is found for each net is the place of its first declaration
pub record AreFirst {S : Type 0} (places : IndexMap (List ℕ) ℕ S) (list : List Decl) : Type 0 where
  pub place : (net : List ℕ) → get (pointwise nat_eq) places net ≡ place_of net (declared_of list)

-- the declared nets, the declaration of each at the same place, and the values of a net without one
pub record AreListed (nets : List (List ℕ)) (list : List Decl) (two : List (List ℕ)) : Type 0 where
  pub listed : nets ≡ declared_of list
  pub plain : two ≡ two_values
  pub counts : AllByRecursion HasValues list

-- the places of the declared nets, their declarations, and the values of a net without one
pub record AreIndexed {S : Type 0} (places : IndexMap (List ℕ) ℕ S) (list : List Decl)
    (two : List (List ℕ)) : Type 0 where
  pub first : AreFirst places list
  pub plain : two ≡ two_values
  pub counts : AllByRecursion HasValues list
