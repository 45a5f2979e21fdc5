-- The front of a line, word by word.
use Rattle.std.proofs.Common.{Bool, true, false, List, ℕ}
use Rattle.mv_decl.specs.Line.{Front, front_of, behind_name}

-- what is left of a front, where a name has to stand and where one has stood
abbrev pub front_left : Bool → List (List ℕ) → Front
front_left true ws = front_of ws
front_left false ws = behind_name ws
