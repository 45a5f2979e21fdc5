-- Lists of values of a list of nets. What private functions alone cite, and of the public
-- definitions `IsFlex`.
use Rattle.std.specs.Prelude.{◌≡◌, ℕ, ◌+◌, ◌*◌, ◌/◌, ◌%◌, ◌<◌, ◌≤◌, if◌then◌else◌, nat_eq, nat_lt, List, [], ◌∷◌, map, slice_index_or, All}
use Rattle.mv_base.specs.declared.limits.TheConstants.{MAX_VALUES}
use Rattle.mv_base.specs.declared.number.NetId.{NetId}

-- the value of the net m where these nets have these values
abbrev pub value_at : List NetId → List ℕ → ℕ → ℕ
value_at [] vs m = 0
value_at (n ∷ ns) [] m = 0
value_at (n ∷ ns) (v ∷ vs) m = if nat_eq n.0 m then v else value_at ns vs m

-- the values at these places, and 0 past the last
abbrev pub placed : List ℕ → List ℕ → List ℕ
placed places vs = map (λ (i : ℕ). slice_index_or vs i 0) places

-- in how many ways nets of these numbers of values can have values
abbrev pub ways : List ℕ → ℕ
ways [] = 1
ways (c ∷ cs) = c * ways cs

-- the values with this number: each is what is left of the number when it is divided by the net's
-- number of values
abbrev pub digits : List ℕ → ℕ → List ℕ
digits [] k = []
digits (c ∷ cs) k = (k % c) ∷ digits cs (k / c)

-- the values with the next number: the first that is not its net's last becomes one more, and those
-- before it 0
abbrev pub next : List ℕ → List ℕ → List ℕ
next [] vs = vs
next (c ∷ cs) [] = []
next (c ∷ cs) (v ∷ vs) = if nat_lt (v + 1) c then (v + 1) ∷ vs else 0 ∷ next cs vs

-- the number of these values
abbrev pub code : List ℕ → List ℕ → ℕ
code [] vs = 0
code (c ∷ cs) [] = 0
code (c ∷ cs) (v ∷ vs) = code cs vs * c + v

-- as many values as numbers of values, each below its number
abbrev pub AreBelow : List ℕ → List ℕ → Type 0
AreBelow [] [] = Unit {0}
AreBelow [] (v ∷ vs) = ⊥
AreBelow (c ∷ cs) [] = ⊥
AreBelow (c ∷ cs) (v ∷ vs) = (v < c) × AreBelow cs vs

-- nets, their numbers of values, and in how many ways they can have values
pub record NetSpace : Type 0 where
  pub nets : List NetId
  pub counts : List ℕ
  pub size : ℕ

-- each of the numbers is positive and one that a net may have, and the ways are counted
pub record IsCounted (counts : List ℕ) (size : ℕ) : Type 0 where
  pub some : All (λ c. 0 < c) counts
  pub few : All (λ c. c ≤ MAX_VALUES) counts
  pub all : size ≡ ways counts
