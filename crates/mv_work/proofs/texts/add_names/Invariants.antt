use Rattle.std.proofs.Common.{◌≡◌, ◌++◌, take}
use Rattle.mv_work.specs.Work.{names_text}
use Rattle.mv_work.proofs.texts.add_names.Given as goal

abbrev pub invariant-loop-place : goal.invariant-loop-place
invariant-loop-place l = l.text.items ≡ l.fn.text.items ++ names_text (take l.place-index l.places)
