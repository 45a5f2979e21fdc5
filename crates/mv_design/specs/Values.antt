-- The values of nets: what a model declares, and what a net without a declaration has.
use Rattle.std.specs.Prelude.{ℕ, List, [], ◌∷◌, length, map, codes, if◌then◌else◌}
use Rattle.mv_base.specs.Names.{same_word}
use Rattle.mv_design.specs.declared.design.Decl.{Decl}

-- the values of a net without a declaration
abbrev pub two_values : List (List ℕ)
two_values = codes "0" ∷ codes "1" ∷ []

-- the names of a net's values, in declared order
abbrev pub values_of : List Decl → List ℕ → List (List ℕ)
values_of [] net = two_values
values_of (d ∷ ds) net = if same_word net d.net then d.values else values_of ds net

-- how many values a net has
abbrev pub count_of : List Decl → List ℕ → ℕ
count_of ds net = length (values_of ds net)

-- the nets that are declared
abbrev pub declared_of : List Decl → List (List ℕ)
declared_of ds = map (λ d. d.net) ds
