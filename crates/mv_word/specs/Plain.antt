-- Bytes of names of nets. What private functions alone cite.
use Rattle.std.specs.Prelude.{ℕ, ◌==◌, ◌&&◌, Bool, not}
use Rattle.mv_base.specs.Names.{is_visible}

-- the byte can be seen, and is no `#` and no comma
abbrev pub is_plain : ℕ → Bool
is_plain b = is_visible b && not (b == 35) && not (b == 44)
