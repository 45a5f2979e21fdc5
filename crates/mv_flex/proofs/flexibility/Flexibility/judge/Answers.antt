-- The three verdicts.
use Rattle.std.proofs.Common.{◌∙◌, sym, subst}
use Rattle.std.proofs.lemmas.Bool.{MatchBool-at_true, MatchBool-at_false}
use Rattle.mv_cover.specs.declared.cover.Cover.{Cover}
use Rattle.mv_flex.specs.Checks.{CoverOutside, LosesSome}
use Rattle.mv_flex.specs.Flex.{KeepsChoice}
use Rattle.mv_flex.proofs.Checking.{cover_in, cover_out, keeps, keeps_not, same_table}
use Rattle.mv_flex.proofs.flexibility.Flexibility.judge.Goals as goal

pub returns-then-branch-clause-ok : goal.returns-then-branch-clause-ok
returns-then-branch-clause-ok c =
    λ net w n budget flex over old table.
    cover_out net w n budget c.args.self.now flex c.args.new.now over
    (MatchBool-at_true (CoverOutside c.args.self.now c.args.new.now) (CoverOutside c.args.self.now c.args.new.now → ⊥) c.if-branch.true c.in_ok-is_cover_outside.ensures)

pub returns-then-branch-2-clause-ok : goal.returns-then-branch-2-clause-ok
returns-then-branch-2-clause-ok c =
    λ net w n budget flex over old table. (
      cover_in net w n budget c.args.self.now flex c.args.new.now over
          (MatchBool-at_false (CoverOutside c.args.self.now c.args.new.now) (CoverOutside c.args.self.now c.args.new.now → ⊥) c.if-branch.false c.in_ok-is_cover_outside.ensures),
      λ keep.
          keeps_not net w n budget c.args.self.now flex c.args.new.now
          (MatchBool-at_true (LosesSome c.args.self.now c.args.new.now) (LosesSome c.args.self.now c.args.new.now → ⊥) c.if-branch-2.true c.in_ok-is_lost.ensures)
          (subst (λ (o : Cover). KeepsChoice net.nets n o c.args.new.now) (same_table old c.args.self.now.old (sym table ∙ flex.table)) keep),
    )

pub returns-clause-ok : goal.returns-clause-ok
returns-clause-ok c =
    λ net w n budget flex over old table. (
      cover_in net w n budget c.args.self.now flex c.args.new.now over
          (MatchBool-at_false (CoverOutside c.args.self.now c.args.new.now) (CoverOutside c.args.self.now c.args.new.now → ⊥) c.if-branch.false c.in_ok-is_cover_outside.ensures),
      subst (λ (o : Cover). KeepsChoice net.nets n o c.args.new.now) (sym (same_table old c.args.self.now.old (sym table ∙ flex.table)))
          (keeps net w n budget c.args.self.now flex c.args.new.now over
          (MatchBool-at_false (LosesSome c.args.self.now c.args.new.now) (LosesSome c.args.self.now c.args.new.now → ⊥) c.if-branch-2.false c.in_ok-is_lost.ensures)),
    )
