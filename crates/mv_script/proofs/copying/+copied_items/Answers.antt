-- Each item left is copied and put at the end.
use Rattle.std.proofs.Common.{rules, ◌≡◌, ap}
use Rattle.mv_script.specs.declared.script.Script.{the_lemmas}
use Rattle.mv_script.specs.Scripts.{Do, Repeat, Better, items_of}
use Rattle.mv_script.proofs.Copies.{chained-more}
use Rattle.mv_script.proofs.copying.+copied_items.Goals as goal

pub loop-items-preserved-in-Do : goal.loop-items-preserved-in-Do
loop-items-preserved-in-Do t c =
    let is : items_of c.loop-items.items.now ≡ Do c.in_ok-copy-in-Do.field-0 (items_of c.deref-items.result.now) = rw (c.in_ok-copy-in-Do.ensures, c.deref-items.ensures) (ap items_of c.in-Do.is) in
    record {
      all = chained-more c.loop-items.list c.push.new.self _ _ _ _ c.loop-items.invariant.all is c.in_ok-push-in-Do.ensures.ok;
      no_deeper = search (rules, the_lemmas);
    }

pub loop-items-preserved-in-Repeat : goal.loop-items-preserved-in-Repeat
loop-items-preserved-in-Repeat t c =
    let is : items_of c.loop-items.items.now ≡ Repeat c.in-Repeat.times (items_of c.in_ok-inside-in-Repeat.inside) (items_of c.deref-items-in-Repeat.result.now) =
    rw (c.in_ok-inside-in-Repeat.ensures, c.in_ok-copied_items-in-Repeat.ensures, c.deref.ensures, c.deref-items-in-Repeat.ensures) (ap items_of c.in-Repeat.is) in
    record {
      all = chained-more c.loop-items.list c.push-in-Repeat.new.self _ _ _ _ c.loop-items.invariant.all is c.in_ok-push-in-Repeat.ensures.ok;
      no_deeper = search (rules, the_lemmas);
    }

pub loop-items-preserved : goal.loop-items-preserved
loop-items-preserved t c =
    let is : items_of c.loop-items.items.now ≡ Better (items_of c.in_ok-inside-in-Better.inside) (items_of c.deref-items-in-Better.result.now) =
    rw (c.in_ok-inside-in-Better.ensures, c.in_ok-copied_items-in-Better.ensures, c.deref-in-Better.ensures, c.deref-items-in-Better.ensures) (ap items_of c.in-Better.is) in
    record {
      all = chained-more c.loop-items.list c.push-in-Better.new.self _ _ _ _ c.loop-items.invariant.all is c.in_ok-push-in-Better.ensures.ok;
      no_deeper = search (rules, the_lemmas);
    }
