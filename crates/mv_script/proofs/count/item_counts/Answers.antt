-- The number of an item that runs its inside so many times.
use Rattle.std.proofs.Common.{◌≡◌, ◌∙◌, ◌*◌, ◌+◌, ◌∷◌, ap, min}
use Rattle.mv_base.specs.declared.limits.TheConstants.{MAX_SCRIPT_COMMANDS}
use Rattle.mv_script.specs.Scripts.{items_of, commands_in, item_counts}
use Rattle.mv_script.proofs.Counts.{counts_more, times_capped}
use Rattle.mv_script.proofs.count.item_counts.Goals as goal

pub loop-items-preserved-in-Repeat : goal.loop-items-preserved-in-Repeat
loop-items-preserved-in-Repeat c =
    let inside = commands_in (items_of c.deref.result.now) in
    let is : item_counts (items_of c.loop-items.items.now) ≡ (c.in-Repeat.times * inside) ∷ item_counts (items_of c.deref-items-in-Repeat.result.now) = rw (c.deref.ensures, c.deref-items-in-Repeat.ensures) (ap (λ s. item_counts (items_of s)) c.in-Repeat.is) in
    counts_more c.loop-items.counts c.push-in-Repeat.new.self _ _ _ c.capped.result (c.in-Repeat.times * inside) c.loop-items.invariant is (c.capped.ensures ∙ ap (λ m. min (c.in-Repeat.times * m) (MAX_SCRIPT_COMMANDS + 1)) c.commands.ensures ∙ times_capped c.in-Repeat.times inside) c.in_ok-push-in-Repeat.ensures.ok
