use Rattle.std.proofs.Common.{◌∙◌, ap, subst}
use Rattle.mv_joint.specs.Joint.{choice_count, AreOutputs}
use Rattle.mv_joint.proofs.Tables.{split_lawful}
use Rattle.mv_joint.proofs.Parts.{HasOutputs, joint_of, marks_many, choice_many}
use Rattle.mv_joint.proofs.joint.covers_of.Goals as goal

pub choice_cover-requires : goal.choice_cover-requires
choice_cover-requires c = record {
  found =
      split_lawful c.args.columns.now c.args.table.now c.args.mark c.args.found c.requires.columns c.requires.with_mark c.requires.table c.requires.found c.requires.few;
}

pub returns-in-Err-clause-stop : goal.returns-in-Err-clause-stop
returns-in-Err-clause-stop c =
    let h : HasOutputs c.args.columns.now c.args.table.now c.args.mark c.args.choice c.args.found c.choice_count-values.result c.in_ok-outputs.outputs = record {
      columns = c.requires.columns;
      with = c.requires.with_mark;
      file = c.requires.table;
      choices = c.requires.found;
      few = c.requires.few;
      values = c.choice_count-values.ensures ∙ ap choice_count c.as_slice-all.ensures.keys;
      many = c.in_ok-outputs.ensures.many ∙ c.len.ensures;
      each = subst (λ all. AreOutputs all c.args.mark c.args.choice 0 c.in_ok-outputs.outputs) c.as_slice-all.ensures.keys c.in_ok-outputs.ensures.each;
    } in
    marks_many c.args.columns.now c.args.table.now c.args.mark c.args.choice c.args.found c.choice_count-values.result c.in_ok-outputs.outputs c.args.most c.in-Err.stop h c.in-Err.ensures.stop

pub returns-in-Err-choice_cover-clause-stop : goal.returns-in-Err-choice_cover-clause-stop
returns-in-Err-choice_cover-clause-stop c =
    let h : HasOutputs c.args.columns.now c.args.table.now c.args.mark c.args.choice c.args.found c.choice_count-values.result c.in_ok-outputs.outputs = record {
      columns = c.requires.columns;
      with = c.requires.with_mark;
      file = c.requires.table;
      choices = c.requires.found;
      few = c.requires.few;
      values = c.choice_count-values.ensures ∙ ap choice_count c.as_slice-all.ensures.keys;
      many = c.in_ok-outputs.ensures.many ∙ c.len.ensures;
      each = subst (λ all. AreOutputs all c.args.mark c.args.choice 0 c.in_ok-outputs.outputs) c.as_slice-all.ensures.keys c.in_ok-outputs.ensures.each;
    } in
    choice_many c.args.columns.now c.args.table.now c.args.mark c.args.choice c.args.found c.choice_count-values.result c.in_ok-outputs.outputs c.in-Ok.marks c.args.most c.in-Err-choice_cover.stop h c.in-Ok.ensures.cover c.in-Err-choice_cover.ensures.stop

pub returns-clause-made : goal.returns-clause-made
returns-clause-made c =
    let h : HasOutputs c.args.columns.now c.args.table.now c.args.mark c.args.choice c.args.found c.choice_count-values.result c.in_ok-outputs.outputs = record {
      columns = c.requires.columns;
      with = c.requires.with_mark;
      file = c.requires.table;
      choices = c.requires.found;
      few = c.requires.few;
      values = c.choice_count-values.ensures ∙ ap choice_count c.as_slice-all.ensures.keys;
      many = c.in_ok-outputs.ensures.many ∙ c.len.ensures;
      each = subst (λ all. AreOutputs all c.args.mark c.args.choice 0 c.in_ok-outputs.outputs) c.as_slice-all.ensures.keys c.in_ok-outputs.ensures.each;
    } in
    joint_of c.args.columns.now c.args.table.now c.args.mark c.args.choice c.args.found c.choice_count-values.result c.in_ok-outputs.outputs c.in-Ok.marks c.in-Ok-choice_cover.chosen h c.in-Ok.ensures.cover c.in-Ok-choice_cover.ensures.cover
