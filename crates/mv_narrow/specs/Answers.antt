-- The verdicts by what flexibilities answer. What private functions alone cite.
use Rattle.std.specs.Prelude.{◌≡◌}
use Rattle.mv_flex.specs.declared.stop.FlexStop.{FlexStop}
use Rattle.mv_flex.specs.declared.stop.FlexStop.TheVariants.{Window, Nodes, Memory}
use Rattle.mv_flex.specs.declared.verdict.Verdict.{Verdict}
use Rattle.mv_flex.specs.declared.verdict.Verdict.TheVariants.{Outside, Lost, Lawful}
use Rattle.mv_narrow.specs.declared.verdict.NarrowVerdict.{NarrowVerdict}
use Rattle.mv_narrow.specs.declared.verdict.NarrowVerdict.TheVariants.{TooWide, NoNodes, Outside as is_outside, Lost as is_lost, Lawful as is_lawful}

-- the verdict for what a flexibility says of a cover
abbrev pub verdict_of : Verdict → NarrowVerdict
verdict_of Outside = is_outside
verdict_of Lost = is_lost
verdict_of Lawful = is_lawful

-- the verdict for why there is no flexibility; want of memory gives none
abbrev pub IsStopVerdict : FlexStop → NarrowVerdict → Type 0
IsStopVerdict (Window levels) verdict = verdict ≡ TooWide
IsStopVerdict (Nodes cap) verdict = verdict ≡ NoNodes
IsStopVerdict Memory verdict = ⊥
