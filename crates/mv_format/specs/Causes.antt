-- Why lines give no network. Private functions alone cite this.
use Rattle.std.specs.Prelude.{List}
use Rattle.mv_lex.specs.declared.lines.LexLine.{LexLine}
use Rattle.mv_task.specs.declared.stop.Stop.{Stop}
use Rattle.mv_task.specs.declared.stop.Stop.TheVariants.{Refused, Read, Memory}
use Rattle.mv_format.specs.declared.fault.FileFault.{FileFault}
use Rattle.mv_format.specs.Texts.{LineFormat}

-- why no network comes of some lines
abbrev pub IsLinesCause : LineFormat → List LexLine → Stop FileFault → Type 0
IsLinesCause format lines (Refused f) = format.Refuses lines f
IsLinesCause format lines Read = ⊥
IsLinesCause format lines Memory = Unit {0}
