use Rattle.std.proofs.Common.{◌≡◌, map, not, vec_capacity}
use Rattle.std.proofs.lemmas.List.Filters.{FiltersInPlace}
use Rattle.mv_cover.specs.Absorb.{line_lies}
use Rattle.mv_cover.specs.Marks.{line_marks}
use Rattle.mv_cover.proofs.left.keep_outside.Given as goal

abbrev pub invariant-loop-place : goal.invariant-loop-place
invariant-loop-place l = record {
  filters : FiltersInPlace (λ m. not (line_lies m l.line)) l.initial.lines.items l.lines.items l.kept l.place;
  marked : l.marks.items ≡ map line_marks l.lines.items;
  line_room : vec_capacity l.lines ≡ vec_capacity l.initial.lines;
  mark_room : vec_capacity l.marks ≡ vec_capacity l.initial.marks;
}
