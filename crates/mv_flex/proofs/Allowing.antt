-- A cover's relation by tests of its lines.
use Rattle.std.proofs.Common.{◌≡◌, ℕ, ◌&&◌, ◌||◌, not}
use Rattle.std.specs.List.{list_any}
use Rattle.mv_base.specs.Set.{has}
use Rattle.mv_cover.specs.declared.line.Line.{Line}
use Rattle.mv_cover.specs.declared.cover.Cover.{Cover}
use Rattle.mv_cover.specs.Cubes.{matches}
use Rattle.mv_cover.specs.Covers.{default_gives, allowed}
use Rattle.mv_cover.proofs.Absorbing.{matches-any, gives-any}

-- some line gives the value, or none holds and the default gives it
pub allowed_by : (c : Cover) (at : ℕ → ℕ) (v : ℕ) → allowed c at v ≡ (list_any (λ (l : Line). matches at l.cube && has l.out v) c.lines || (not (list_any (λ (l : Line). matches at l.cube) c.lines) && default_gives c.default v))
unfolding allowed
allowed_by c at v =
    let gives = gives-any at v c.lines in
    let met = matches-any at c.lines in
    λ i. gives i || (not (met i) && default_gives c.default v)
