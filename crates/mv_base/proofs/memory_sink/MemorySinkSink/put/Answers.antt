use Rattle.std.proofs.Common.{◌≡◌, ◌++◌, Some, rules, sym, ap, take, drop}
use Rattle.std.proofs.lemmas.List.{take-append-drop}
use Rattle.mv_base.proofs.memory_sink.MemorySinkSink.put.Goals as goal

-- what was taken is a first part of the piece
pub returns-clause-appends : goal.returns-clause-appends
returns-clause-appends c =
    let piece = c.args.piece.now in
    let count = c.min-count.result in
    let items : c.extend_from_slice.new.self.items ≡ c.args.self.now.bytes ++ take count piece = search rules in
    record {
      ok = tt;
      part = record {
        front = take count piece;
        back = drop count piece;
        whole = sym (take-append-drop count piece);
        gained = ap Some items;
      };
      cause = search rules;
    }
