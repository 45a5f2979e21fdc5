-- The first word names the task.
use Rattle.std.proofs.Common.{subst}
use Rattle.mv_command_line.specs.Answers.{Answers}
use Rattle.mv_command_line.specs.Given.{rest_parts}
use Rattle.mv_command_line.proofs.Named.{opt_asked, check_asked, work_asked, trace_asked, none_asked}
use Rattle.mv_command_line.proofs.reading.task_named.Goals as goal

pub returns-then-is_text : goal.returns-then-is_text
returns-then-is_text c = subst (λ o. Answers o c.opt.result) (opt_asked c.args.name.now (rest_parts c.args.words.now) c.if-is_text.ensures) c.opt.ensures

pub returns-then-is_text-2 : goal.returns-then-is_text-2
returns-then-is_text-2 c =
    subst (λ o. Answers o c.check.result) (check_asked c.args.name.now (rest_parts c.args.words.now) c.if-is_text.ensures c.if-is_text-2.ensures) c.check.ensures

pub returns-then-is_text-3 : goal.returns-then-is_text-3
returns-then-is_text-3 c =
    subst (λ o. Answers o c.work.result) (work_asked c.args.name.now (rest_parts c.args.words.now) c.if-is_text.ensures c.if-is_text-2.ensures c.if-is_text-3.ensures) c.work.ensures

pub returns-then-is_text-4 : goal.returns-then-is_text-4
returns-then-is_text-4 c =
    subst (λ o. Answers o c.trace.result) (trace_asked c.args.name.now (rest_parts c.args.words.now) c.if-is_text.ensures c.if-is_text-2.ensures c.if-is_text-3.ensures c.if-is_text-4.ensures) c.trace.ensures

pub returns : goal.returns
returns c =
    none_asked c.args.name.now (rest_parts c.args.words.now) c.if-is_text.ensures c.if-is_text-2.ensures c.if-is_text-3.ensures c.if-is_text-4.ensures
