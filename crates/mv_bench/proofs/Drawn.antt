-- Drawn lines are over nets that have values.
use Rattle.std.proofs.Common.{◌≡◌, ℕ, ◌<◌, true, List, [], ◌∷◌, nat_lt, arith, get_or, inl, inr, replicate}
use Rattle.std.specs.List.{list_all}
use Rattle.std.proofs.lemmas.Bool.{cases_Bool, false≢true, and_parts}
use Rattle.std.proofs.lemmas.List.{get_or-replicate}
use Rattle.mv_cover.specs.Literal.{Lit}
use Rattle.mv_cover.specs.declared.line.Line.{Line}
use Rattle.mv_cover.specs.Covers.{cube_reads, lines_read}
use Rattle.mv_cover.specs.Covering.{AreWithin}
use Rattle.mv_cover.proofs.Covering.{below-read}
use Rattle.mv_bench.specs.Drawn.{lines_below}

lines_below-read : (k : ℕ) (ls : List Line) (n : ℕ) → lines_below k ls ≡ true → lines_read ls n ≡ true → n < k
lines_below-read k [] n low h = absurd (false≢true h)
lines_below-read k (l ∷ ls) n low h =
    let p = and_parts (list_all (λ (m : Lit). nat_lt m.net.0 k) l.cube) (lines_below k ls) low in
    elim (cases_Bool (cube_reads l.cube n)) [
      | inl t ↦ below-read k l.cube n p.0 t
      | inr f ↦ lines_below-read k ls n p.1 (rw f at h)
    ]

-- nets with one number of values each
all_four : (n : ℕ) → n < 20 → 0 < get_or (replicate 20 4) n 0
all_four n low = rw (get_or-replicate {A = ℕ} 20 n 4 0 low) (omega arith)

-- lines over the first twenty nets, each of which has four values
pub drawn_within : (ls : List Line) → lines_below 20 ls ≡ true → AreWithin (replicate 20 4) ls
drawn_within ls low = record { valued = λ n h. all_four n (lines_below-read 20 ls n low h) }
