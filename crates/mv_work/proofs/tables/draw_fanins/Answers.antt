use Rattle.std.proofs.Common.{◌<◌, ◌∙◌, refl}
use Rattle.std.proofs.lemmas.List.Elements.{All-nil, All-push, All-same}
use Rattle.mv_work.specs.Drawing.{several}
use Rattle.mv_work.proofs.TableSteps.{fanins-kept, fanins-more, fanins-rest}
use Rattle.mv_work.proofs.tables.draw_fanins.Goals as goal

pub fanins-init : goal.fanins-init
unfolding several
fanins-init c = record {
  below = All-same (λ p. p < c.args.nets) _ _ c.new-fanins.ensures.items (All-nil (λ p. p < c.args.nets));
  value = c.new-fanins.ensures.items;
  rest = refl;
}

pub fanins-preserved-then-contains : goal.fanins-preserved-then-contains
fanins-preserved-then-contains c = record {
  below = c.fanins.invariant.below;
  value = fanins-kept c.args.nets c.fanins.counter _ _ c.draw_fanin-place.result _ c.fanins.invariant.value c.fanins.invariant.rest c.draw_fanin-place.ensures.value (cc);
  rest = fanins-rest c.args.nets c.fanins.counter _ _ _ c.fanins.invariant.rest c.draw_fanin-place.ensures.rest;
}

pub fanins-preserved : goal.fanins-preserved
fanins-preserved c = record {
  below = All-same (λ p. p < c.args.nets) _ _ c.in_ok-push.ensures.items (All-push (λ p. p < c.args.nets) _ _ c.fanins.invariant.below c.draw_fanin-place.ensures.below);
  value = c.in_ok-push.ensures.items ∙ fanins-more c.args.nets c.fanins.counter _ _ c.draw_fanin-place.result _ c.fanins.invariant.value c.fanins.invariant.rest c.draw_fanin-place.ensures.value (cc);
  rest = fanins-rest c.args.nets c.fanins.counter _ _ _ c.fanins.invariant.rest c.draw_fanin-place.ensures.rest;
}
