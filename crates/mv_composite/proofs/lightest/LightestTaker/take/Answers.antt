-- A line that isn't lighter than the cap goes; else it is put, and the cap may be lowered.
use Rattle.std.proofs.Common.{[], ◌∷◌}
use Rattle.std.proofs.lemmas.Bool.{MatchBool-at_true, MatchBool-at_false}
use Rattle.mv_composite.specs.Takers.{IsHeavy, IsLight}
use Rattle.mv_composite.specs.TakerLaws.{keeps_more}
use Rattle.mv_composite.proofs.Sifting.{keeps_heavy, keeps_light}
use Rattle.mv_composite.proofs.lightest.LightestTaker.take.Goals as goal

pub returns-then-is_heavy : goal.returns-then-is_heavy
returns-then-is_heavy c =
    keeps_heavy c.args.self.now.left c.args.self.now.cap c.args.line (MatchBool-at_true (IsHeavy c.args.self.now.cap c.args.line) (IsLight c.args.self.now.cap c.args.line) c.if-is_heavy.true c.is_heavy.ensures)

pub returns-then-len-self : goal.returns-then-len-self
returns-then-len-self c =
    keeps_light c.args.self.now.left c.put.new.self c.args.self.now.cap c.args.line (MatchBool-at_false (IsHeavy c.args.self.now.cap c.args.line) (IsLight c.args.self.now.cap c.args.line) c.if-is_heavy.false c.is_heavy.ensures)
    c.in_ok-put.ensures.ok

pub returns : goal.returns
returns c =
    keeps_more c.args.self.now.left c.put.new.self c.lower.new.self.left c.args.self.now.cap c.args.self.now.cap c.lower.new.self.cap (c.args.line ∷ []) []
    (keeps_light c.args.self.now.left c.put.new.self c.args.self.now.cap c.args.line (MatchBool-at_false (IsHeavy c.args.self.now.cap c.args.line) (IsLight c.args.self.now.cap c.args.line) c.if-is_heavy.false c.is_heavy.ensures)
    c.in_ok-put.ensures.ok)
    c.in_ok-lower.ensures
