-- Sets as lists keep them.
use Rattle.std.specs.Prelude.{ℕ}
use Rattle.mv_base.specs.declared.packed_set.Form.{Form}
use Rattle.mv_base.specs.declared.packed_set.Form.TheVariants.{Few, Many}

-- the set that stands there
abbrev pub members_of : Form → ℕ
members_of (Few bits) = bits
members_of (Many wide) = wide.value
