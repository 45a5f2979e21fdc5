-- A rule that keeps all choices leaves what the network means.
use Rattle.mv_pass.proofs.taking.attempt.Goals as goal

pub returns-in-Ok-note_rule-clause-means : goal.returns-in-Ok-note_rule-clause-means
returns-in-Ok-note_rule-clause-means g c =
    λ keeps. c.same_meaning.ensures.one c.args.terms.free c.args.rule.now c.args.net.now c.apply_on.new.net c.well_formed-2.ensures keeps c.in-Ok.ensures.applies

pub returns-in-Err-note_rule-clause-means : goal.returns-in-Err-note_rule-clause-means
returns-in-Err-note_rule-clause-means g c =
    λ keeps. c.same_meaning.ensures.one c.args.terms.free c.args.rule.now c.args.net.now c.apply_on.new.net c.well_formed-2.ensures keeps c.in-Ok.ensures.applies
