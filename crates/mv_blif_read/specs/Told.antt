-- The line that tells a fault of a BLIF file's lines.
use Rattle.std.specs.Prelude.{ℕ, List, [], ◌∷◌, codes}
use Rattle.mv_blif_line.specs.declared.fault.BlifFault.{BlifFault}
use Rattle.mv_blif_line.specs.declared.fault.BlifFault.TheVariants.{Line, SecondModel, MixedRows, BadLatch, Memory}
use Rattle.mv_fault.specs.Told.{parse_line, told}

-- the line of each fault: as BLIF-MV's, where its lines can have it too. (Want of memory is none: no
-- lines have it.)
abbrev pub blif_line : BlifFault → List ℕ
blif_line (Line f) = parse_line f
blif_line (SecondModel line name) = told (codes "40 SecondModel") line (name ∷ [])
blif_line (MixedRows line) = told (codes "41 MixedRows") line []
blif_line (BadLatch line word) = told (codes "42 BadLatch") line (word ∷ [])
blif_line Memory = codes "# fault memory\n"
