-- How a literal is kept. No public clause cites this module.
use Rattle.mv_cover.specs.Literal.{Lit}
use Rattle.mv_cover.specs.declared.literal.Form.{Form}
use Rattle.mv_cover.specs.declared.literal.Form.TheVariants.{Few, Many}

-- the literal that is kept
abbrev pub lit_of : Form → Lit
lit_of (Few net bits) = record { net = net; set = bits }
lit_of (Many net wide) = record { net = net; set = wide.value }
