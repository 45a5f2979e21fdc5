-- A cube stays one with a literal on a net behind its own.
use Rattle.std.proofs.Common.{◌≡◌, ◌∙◌, ◌<◌, true, false, List, [], ◌∷◌, ◌++◌, refl, ap, nat_lt, nat_eq}
use Rattle.std.proofs.lemmas.Bool.{and_from, lt-ltb}
use Rattle.std.proofs.lemmas.List.Elements.{All-head, All-tail}
use Rattle.std.specs.List.{list_all}
use Rattle.mv_base.specs.Set.{one, empty}
use Rattle.mv_base.specs.declared.number.NetId.{NetId}
use Rattle.mv_cover.specs.Literal.{Lit}
use Rattle.mv_cover.specs.Cubes.{IsCube}
use Rattle.mv_cover.proofs.Building.{built_more}
use Rattle.mv_divide.specs.Grouped.{AreBelow}

all_below : (n : NetId) (cube : List Lit) → AreBelow n cube → list_all (λ (l : Lit). nat_lt l.net.0 n.0) cube ≡ true
all_below n [] a = refl
all_below n (l ∷ ls) a =
    let P : Lit → Type 0 = λ m. m.net.0 < n.0 in
    and_from (nat_lt l.net.0 n.0) (list_all (λ (m : Lit). nat_lt m.net.0 n.0) ls) (lt-ltb l.net.0 n.0 (All-head P l ls a)) (all_below n ls (All-tail P l ls a))

one_is_some : nat_eq (one 1) empty ≡ false
unfolding one empty
one_is_some = refl

pub standing : (n : NetId) (cube : List Lit) (l : Lit) → IsCube cube → AreBelow n cube → l.net ≡ n → l.set ≡ one 1 → IsCube (cube ++ l ∷ [])
standing n cube l formed below at one_is =
    (built_more cube n.0 l (ap (λ (m : NetId). m.0) at) (ap (λ s. nat_eq s empty) one_is ∙ one_is_some)
    (record { cube = formed; below = all_below n cube below })).cube
