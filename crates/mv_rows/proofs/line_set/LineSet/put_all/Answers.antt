-- A line that stops them does so with those behind it too.
use Rattle.std.proofs.Common.{◌≡◌, ◌+◌, ◌++◌, ◌∷◌, [], List, length, take, drop, ◌∙◌, sym, ap, subst}
use Rattle.std.proofs.lemmas.Iterator.Adapters.{YieldsList-from_vec}
use Rattle.std.proofs.lemmas.Iterator.Consumers.{YieldsList-turn, YieldsList-so_far}
use Rattle.std.proofs.lemmas.List.{map-id, take-append-drop, drop_more}
use Rattle.mv_cover.specs.declared.line.Line.{Line}
use Rattle.mv_rows.specs.Once.{StopsPut}
use Rattle.mv_rows.proofs.LineSets.{stops_more}
use Rattle.mv_rows.proofs.line_set.LineSet.put_all.Goals as goal

pub returns-in-Err-clause-stop : goal.returns-in-Err-clause-stop
returns-in-Err-clause-stop c =
    let gives = c.into_iter-line-iterator.ensures.into_iter_gives in
    let road = YieldsList-from_vec {s = c.into_iter-line-iterator.result} _ gives.0 (gives.1 ∙ c.args.lines.ok.0) in
    let turn = YieldsList-turn road c.loop-line.yielded c.loop-line.line-iterator c.loop-line.yielded_by c.next.result c.next.new.self c.in-Some.line c.in-Some.is c.next.ensures.steps in
    let before = YieldsList-so_far road c.loop-line.yielded c.loop-line.line-iterator c.loop-line.yielded_by in
    let lines = c.args.lines.items in
    let i = length c.loop-line.yielded in
    let front : c.loop-line.yielded ≡ take i lines = sym (map-id c.loop-line.yielded) ∙ before in
    let behind : drop i lines ≡ c.in-Some.line ∷ drop (i + 1) lines = drop_more lines i c.in-Some.line turn.0 ∙ ap (λ l. l ∷ drop (i + 1) lines) (sym turn.1) in
    let all : c.loop-line.yielded ++ (c.in-Some.line ∷ drop (i + 1) lines) ≡ lines =
    ap (λ (ls : List Line). ls ++ (c.in-Some.line ∷ drop (i + 1) lines)) front ∙ (ap (λ (ls : List Line). take i lines ++ ls) (sym behind) ∙ take-append-drop i lines) in
    subst (λ (ls : List Line). StopsPut ls c.args.self.now c.in-Err.stop) all
    (stops_more c.loop-line.yielded (c.in-Some.line ∷ []) (drop (i + 1) lines) c.args.self.now c.loop-line.self c.in-Err.stop c.loop-line.invariant c.in-Err.ensures.stop)
