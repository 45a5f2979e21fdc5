-- A binding of an instance, `F=A`: what stands on both sides of its first `=`, and its faults.
use Rattle.std.specs.Prelude.{ℕ, ◌+◌, Bool, not, ◌||◌, ◌==◌, List, [], ◌∷◌, ◌++◌, length, take, drop}
use Rattle.std.specs.List.{position_or_len}
use Rattle.mv_base.specs.Names.{among, is_net_name}
use Rattle.mv_design.specs.declared.design.Bind.{Bind}
use Rattle.mv_fault.specs.declared.fault.ParseFault.{ParseFault}
use Rattle.mv_fault.specs.declared.fault.ParseFault.TheVariants.{Missing, BadName, Repeated}
use Rattle.mv_fault.specs.Tells.{when}

-- the byte that parts the two sides
abbrev pub is_equal : ℕ → Bool
is_equal b = b == 61

-- the place of the first `=` of a word, or its length where there is none
abbrev pub equal_at : List ℕ → ℕ
equal_at w = position_or_len is_equal w

-- what stands before the first `=` of a word: all of it where there is none
unfoldable pub before_equal : List ℕ → List ℕ
before_equal w = take (equal_at w) w

-- what stands behind the first `=` of a word: nothing where there is none
unfoldable pub behind_equal : List ℕ → List ℕ
behind_equal w = drop (equal_at w + 1) w

-- the binding that a word says: the formal before its first `=` and the actual behind it
abbrev pub binding_of : List ℕ → Bind
binding_of w = record { formal = before_equal w; actual = behind_equal w }

-- a side of a binding is lacking
abbrev pub lacks_side : Bind → Bool
lacks_side b = (length b.formal == 0) || (length b.actual == 0)

-- the faults of a binding behind the command `word`, where these formals are bound already
unfoldable pub binding_faults : ℕ → List ℕ → List (List ℕ) → Bind → List ParseFault
binding_faults n word bound b =
    when (lacks_side b) (Missing n word) ++ when (not (is_net_name b.formal)) (BadName n b.formal)
    ++ when (among b.formal bound) (Repeated n b.formal)
    ++ when (not (is_net_name b.actual)) (BadName n b.actual)

-- the faults of bindings, one by one
abbrev pub bindings_faults : ℕ → List ℕ → List (List ℕ) → List (List ℕ) → List ParseFault
bindings_faults n word bound [] = []
bindings_faults n word bound (w ∷ words) =
    binding_faults n word bound (binding_of w)
    ++ bindings_faults n word (bound ++ before_equal w ∷ []) words
