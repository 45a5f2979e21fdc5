-- What is found out of a cover in a table's place. What private functions alone cite.
use Rattle.std.specs.Prelude.{Bool, not, List}
use Rattle.std.specs.List.{list_all}
use Rattle.mv_base.specs.declared.number.NetId.{NetId}
use Rattle.mv_cover.specs.Literal.{Lit}
use Rattle.mv_cover.specs.declared.line.Line.{Line}
use Rattle.mv_cover.specs.declared.cover.Cover.{Cover}
use Rattle.mv_cover.specs.Covers.{allowed}
use Rattle.mv_diagram.specs.Sets.{Point}
use Rattle.mv_factors.specs.Families.{Family, set_at}
use Rattle.mv_flex.specs.declared.verdict.Verdict.{Verdict}
use Rattle.mv_flex.specs.declared.verdict.Verdict.TheVariants.{Outside, Lost, Lawful}
use Rattle.mv_graph.specs.Nets.{has_id}
use Rattle.mv_relation.specs.Relations.{assigned, chooses}
use Rattle.mv_wide.specs.declared.frame.Frame.{Frame}
use Rattle.mv_wide.specs.Choosing.{Hits}

-- each literal of the cover is on one of these nets
abbrev pub reads_among : List NetId → Cover → Bool
reads_among nets c =
    list_all (λ (l : Line). list_all (λ (k : Lit). has_id nets k.net.0) l.cube) c.lines

-- whether the cover allows the value of the net
abbrev pub gives : Frame → Cover → Point → Bool
gives f c p = allowed c (assigned f.vars.items p) (p f.own)

-- whether it allows some value
abbrev pub gives_some : Frame → Cover → Point → Bool
gives_some f c p = chooses c (assigned f.vars.items p)

-- whether it allows none
abbrev pub gives_none : Frame → Cover → Point → Bool
gives_none f c p = not (gives_some f c p)

-- the cover allows a point of the first set
abbrev pub AllowsOutside : Family → Frame → Cover → Type 0
AllowsOutside s f c = Hits f.counts.items (λ p. set_at s 0 p) (gives f c)

-- at some point the old table allows some value, and the cover none
abbrev pub LosesChoice : Frame → Cover → Type 0
LosesChoice f c = Hits f.counts.items (gives_some f f.table) (gives_none f c)

-- what is said of the cover: the first that holds
abbrev pub IsJudged : Family → Frame → Cover → Verdict → Type 0
IsJudged s f c Outside = (AllowsOutside s f c → ⊥) → ⊥
IsJudged s f c Lost = (AllowsOutside s f c → ⊥) × ((LosesChoice f c → ⊥) → ⊥)
IsJudged s f c Lawful = (AllowsOutside s f c → ⊥) × (LosesChoice f c → ⊥)
