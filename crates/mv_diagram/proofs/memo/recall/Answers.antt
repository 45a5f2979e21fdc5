use Rattle.std.proofs.Common.{◌∙◌, sym}
use Rattle.mv_diagram.proofs.Remembering.{found, key_from}
use Rattle.mv_diagram.proofs.memo.recall.Goals as goal

pub returns : goal.returns
returns c = found _ c.args.key (λ k e. sym (key_from c.args.key k e)) c.args.memo.now.entries c.copied.result (c.copied.ensures ∙ c.peek.ensures)
