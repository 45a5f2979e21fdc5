-- A table as the body of a rule, which names nets.
use Rattle.std.specs.Prelude.{List, Option, IsTrue, map, All}
use Rattle.mv_cover.specs.Literal.{Lit}
use Rattle.mv_cover.specs.declared.line.Line.{Line}
use Rattle.mv_cover.specs.declared.cover.Cover.{Cover}
use Rattle.mv_entry.specs.declared.rule.BodyLit.{BodyLit}
use Rattle.mv_entry.specs.declared.rule.BodyLine.{BodyLine}
use Rattle.mv_entry.specs.declared.rule.Body.{Body}
use Rattle.mv_net.specs.declared.parts.FlatNet.{FlatNet}
use Rattle.mv_net.specs.Index.{is_held}
use Rattle.mv_net.specs.Nets.{slot, name_in}

-- the literal, by the name of its net
abbrev pub literal_named : List (Option FlatNet) → Lit → BodyLit
literal_named nets l = record { net = name_in (slot nets l.net.0); set = l.set }

-- the literals, as they stand
abbrev pub literals_named : List (Option FlatNet) → List Lit → List BodyLit
literals_named nets lits = map (literal_named nets) lits

-- the line, with its output as it is
abbrev pub line_named : List (Option FlatNet) → Line → BodyLine
line_named nets l = record { lits = literals_named nets l.cube; out = l.out }

-- the cover by names of nets: its lines as they stand, and its default
unfoldable pub body_of : List (Option FlatNet) → Cover → Body
body_of nets c = record { lines = map (line_named nets) c.lines; default = c.default }

-- each literal of a line is on a net that is held
abbrev pub IsLineHeld : List (Option FlatNet) → Line → Type 0
IsLineHeld nets l = All (λ (m : Lit). IsTrue (is_held nets m.net.0)) l.cube

-- each literal of the cover is on a net that is held
pub record AreHeld (nets : List (Option FlatNet)) (c : Cover) : Type 0 where
  pub each : All (IsLineHeld nets) c.lines
