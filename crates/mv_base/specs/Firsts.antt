-- Lists whose items each stand once.
use Rattle.std.specs.Prelude.{Bool, not, List, [], ◌∷◌, filter}

-- the items without those that are equal to an earlier one
abbrev pub firsts_by : {T : Type 0} → (T → T → Bool) → List T → List T
firsts_by eq [] = []
firsts_by eq (x ∷ xs) = x ∷ filter (λ y. not (eq y x)) (firsts_by eq xs)
