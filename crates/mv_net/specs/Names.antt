-- The names of nets and their numbers.
use Rattle.std.specs.Prelude.{◌≡◌, ℕ, Bool, false, Option, Some, None, List, [], ◌∷◌, map, if◌then◌else◌}
use Rattle.std.specs.declared.vec.Vec.{Vec}
use Rattle.std.specs.declared.alloc.Global.{Global}
use Rattle.mv_base.specs.Names.{same_word}
use Rattle.mv_net.specs.declared.parts.FlatNet.{FlatNet}
use Rattle.mv_net.specs.Nets.{slot}
use Rattle.mv_net.specs.Index.{HasName}

-- a pair that a map holds, without its memory
abbrev pub pair_of : Vec ℕ Global × ℕ → List ℕ × ℕ
pair_of e = (e.0.items, e.1)

-- all pairs that a map holds, without their memory
abbrev pub pairs_of : List (Vec ℕ Global × ℕ) → List (List ℕ × ℕ)
pairs_of es = map pair_of es

-- the number that the first pair with this name gives
abbrev pub number_of : List (List ℕ × ℕ) → List ℕ → Option ℕ
number_of [] name = None
number_of (e ∷ es) name = if same_word name e.0 then Some e.1 else number_of es name

-- each name of a held net leads to its number, and nothing else leads to one
pub record AreNames (nets : List (Option FlatNet)) (names : List (List ℕ × ℕ)) : Type 0 where
  pub some : (w : List ℕ) (n : ℕ) → number_of names w ≡ Some n → HasName nets n w
  pub found : (w : List ℕ) (n : ℕ) → HasName nets n w → number_of names w ≡ Some n

-- ---- what private functions alone cite

-- a net's name and number, if it is held
abbrev pub named_at : ℕ → Option FlatNet → List (List ℕ × ℕ)
named_at k None = []
named_at k (Some f) = (f.name, k) ∷ []

-- the net is held and has this name
abbrev pub is_named : Option FlatNet → List ℕ → Bool
is_named None w = false
is_named (Some f) w = same_word f.name w

-- a held net's name is not among these
abbrev pub IsFresh : List (List ℕ × ℕ) → Option FlatNet → Type 0
IsFresh es None = Unit {0}
IsFresh es (Some f) = number_of es f.name ≡ None

-- no two nets have one name
pub record AreNamed (nets : List (Option FlatNet)) : Type 0 where
  pub apart : (n m : ℕ) (f g : FlatNet) → slot nets n ≡ Some f → slot nets m ≡ Some g
      → f.name ≡ g.name → n ≡ m
