-- What two cubes share, net by net.
use Rattle.std.specs.Prelude.{◌≡◌, ℕ, not, nat_eq, nat_lt, Option, Some, None, List, [], ◌∷◌, if◌then◌else◌}
use Rattle.std.specs.List.{list_all}
use Rattle.mv_base.specs.Set.{meet, empty}
use Rattle.mv_cover.specs.Literal.{Lit}
use Rattle.mv_cover.specs.declared.meet.Step.{Step}
use Rattle.mv_cover.specs.Cubes.{IsCube}

-- the set of the first literal on the net
abbrev pub literal_at : List Lit → ℕ → Option ℕ
literal_at [] n = None
literal_at (l ∷ ls) n = if nat_eq l.net.0 n then Some l.set else literal_at ls n

-- the meet of two sets, or the one that is there
abbrev pub both : Option ℕ → Option ℕ → Option ℕ
both None t = t
both (Some s) None = Some s
both (Some s) (Some t) = Some (meet s t)

-- c is a cube that asks of each net what a and b ask of it
pub record IsMet (a b c : List Lit) : Type 0 where
  pub cube : IsCube c
  pub sets : (n : ℕ) → literal_at c n ≡ both (literal_at a n) (literal_at b n)

-- the list with a literal put in, where `rest` merges what is behind it
unfoldable pub put_in : Lit → (List Lit → List Lit) → List Lit → List Lit
put_in l rest [] = l ∷ rest []
put_in l rest (m ∷ ms) =
    if nat_lt l.net.0 m.net.0 then l ∷ rest (m ∷ ms)
    else if nat_lt m.net.0 l.net.0 then m ∷ put_in l rest ms
    else record { net = l.net; set = meet l.set m.set } ∷ rest ms

-- the literals of both lists by ascending net, with the meet where both have one
unfoldable pub merged : List Lit → List Lit → List Lit
merged [] b = b
merged (l ∷ ls) b = put_in l (λ c. merged ls c) b

-- the cube in which two cubes meet, as a list: none where some net would be left no value
unfoldable pub met : List Lit → List Lit → List (List Lit)
met a b = if list_all (λ l. not (nat_eq l.set empty)) (merged a b) then merged a b ∷ [] else []

-- ---- what private functions alone cite

-- the literal of the lesser net, or the meet of two on one net, and how many literals it takes of
-- each list
abbrev pub next_of : Lit → Lit → Step
next_of l m =
    if nat_lt l.net.0 m.net.0 then record { lit = l; left = 1; right = 0 }
    else if nat_lt m.net.0 l.net.0 then record { lit = m; left = 0; right = 1 }
    else record { lit = record { net = l.net; set = meet l.set m.set }; left = 1; right = 1 }
