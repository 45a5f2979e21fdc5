-- What is drawn.
use Rattle.std.specs.Prelude.{ℕ, Bool, nat_lt, List}
use Rattle.std.specs.List.{list_all}
use Rattle.mv_cover.specs.declared.line.Line.{Line}

-- each line's literals are on nets below k
abbrev pub lines_below : ℕ → List Line → Bool
lines_below k ls = list_all (λ l. list_all (λ m. nat_lt m.net.0 k) l.cube) ls
