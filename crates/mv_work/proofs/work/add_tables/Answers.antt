use Rattle.std.proofs.Common.{[], ◌∷◌, ◌++◌, ◌<◌, ◌∙◌, length, refl, sym, ap, arith}
use Rattle.std.proofs.lemmas.List.{append-nil, length_push}
use Rattle.std.proofs.lemmas.List.Elements.{All-replicate, All-push, All-same}
use Rattle.mv_work.specs.Work.{tables_drawn}
use Rattle.mv_work.proofs.TableSteps.{tables-counts, tables-text, tables-rest}
use Rattle.mv_work.proofs.work.add_tables.Goals as goal

pub tables-init : goal.tables-init
unfolding tables_drawn
tables-init c = record {
  size = ap length c.in_ok-counts.ensures.items;
  positive = All-same (λ n. 0 < n) _ _ c.in_ok-counts.ensures.items (All-replicate (λ n. 0 < n) 16 2 (omega arith));
  counts = c.in_ok-counts.ensures.items;
  text = sym (append-nil c.args.text.now.items);
  rest = refl;
}

pub tables-preserved : goal.tables-preserved
tables-preserved c =
    let counts = c.deref.ensures.value ∙ c.tables.invariant.counts in
    let rest = c.tables.invariant.rest in
    record {
      size = ap length c.in_ok-push.ensures.items ∙ length_push c.tables.counts.items c.in_ok-values.values ∙ omega (arith, c.tables.invariant.size);
      positive = All-same (λ n. 0 < n) _ _ c.in_ok-push.ensures.items (All-push (λ n. 0 < n) _ _ c.tables.invariant.positive c.in_ok-values.ensures.positive);
      counts = c.in_ok-push.ensures.items ∙ ap (λ ns. ns ++ c.in_ok-values.values ∷ []) (sym c.deref.ensures.value) ∙ tables-counts c.tables.counter _ _ _ _ counts rest c.in_ok-values.ensures.values;
      text = tables-text c.tables.counter _ _ _ _ _ _ counts rest c.tables.invariant.text c.in_ok-values.ensures.text;
      rest = tables-rest c.tables.counter _ _ _ _ counts rest c.in_ok-values.ensures.rest;
    }
