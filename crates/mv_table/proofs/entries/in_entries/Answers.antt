use Rattle.std.proofs.Common.{◌≡◌, ◌∙◌, None, [], ◌∷◌, ◌+◌, drop, append_assoc, inl, inr, ⊎_elim, arith}
use Rattle.std.proofs.lemmas.List.{append-nil}
use Rattle.mv_fault.proofs.Firsts.{first-append}
use Rattle.mv_table.specs.Entries.{ins_said}
use Rattle.mv_table.proofs.Ended.{ins_said-ended, values_at-place, ins_faults-split, ins_said-split}
use Rattle.mv_table.proofs.entries.in_entries.Goals as goal

pub returns-clause-ok : goal.returns-clause-ok
returns-clause-ok c =
    let rest : ins_said c.args.decls.now (drop c.loop-at.at c.args.columns.now.ins.now) (drop c.loop-at.at c.args.words.now) ≡ [] = ins_said-ended c.args.decls.now c.args.columns.now.ins.now c.args.words.now c.loop-at.at (omega arith) in
    cc (append-nil c.loop-at.sets, c.loop-at.invariant.said)

pub returns-in-Err-clause-fault : goal.returns-in-Err-clause-fault
returns-in-Err-clause-fault c =
    let values = values_at-place c.args.decls.now c.args.columns.now.ins.now c.values_at-values.result.now c.as_slice-places.result.now c.loop-at.at None (c.as_slice-places.ensures ∙ c.requires.inputs) (omega arith) c.values_at-values.ensures.value in
    rw (← c.loop-at.invariant.fault, ins_faults-split c.args.number c.args.decls.now c.args.columns.now.ins.now c.args.words.now c.loop-at.at c.values_at-values.result.now c.bytes-word.result.now (omega arith) (omega arith) values (rw (← c.bytes-word.ensures) at c.index-words-at.is))
    (⊎_elim inl (λ e. inr (first-append _ _ _ e)) c.in-Err.ensures.fault)

pub loop-at-preserved : goal.loop-at-preserved
loop-at-preserved c =
    let values = values_at-place c.args.decls.now c.args.columns.now.ins.now c.values_at-values.result.now c.as_slice-places.result.now c.loop-at.at None (c.as_slice-places.ensures ∙ c.requires.inputs) (omega arith) c.values_at-values.ensures.value in
    let word = rw (← c.bytes-word.ensures) at c.index-words-at.is in
    let said = rw c.in-Ok.ensures.ok at (ins_said-split c.args.decls.now c.args.columns.now.ins.now c.args.words.now c.loop-at.at c.values_at-values.result.now c.bytes-word.result.now (omega arith) (omega arith) values word) in
    let faults = rw c.in-Ok.ensures.ok at (ins_faults-split c.args.number c.args.decls.now c.args.columns.now.ins.now c.args.words.now c.loop-at.at c.values_at-values.result.now c.bytes-word.result.now (omega arith) (omega arith) values word) in
    record {
      said = cc (c.in_ok-push-in-Ok.ensures, said, c.loop-at.invariant.said, append_assoc c.loop-at.sets (c.in-Ok.set ∷ []) (ins_said c.args.decls.now (drop (c.loop-at.at + 1) c.args.columns.now.ins.now) (drop (c.loop-at.at + 1) c.args.words.now)));
      fault = cc (faults, c.loop-at.invariant.fault);
    }
