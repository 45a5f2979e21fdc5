-- A table that doesn't read each net of the divisor's first cube is let be.
use Rattle.std.proofs.Common.{◌≡◌, ◌∙◌, ℕ, false, Option, List, [], ◌∷◌, Contains, inl, inr, sym}
use Rattle.std.proofs.lemmas.Bool.{cases_Bool, false≢true}
use Rattle.std.specs.List.{list_all}
use Rattle.mv_base.specs.declared.number.NetId.{NetId}
use Rattle.mv_cover.specs.Literal.{Lit}
use Rattle.mv_graph.specs.Nets.{has_id, IsAscending}
use Rattle.mv_divide.specs.Tables.{IsUndivided}
use Rattle.mv_gains.specs.Gains.{lines_at}
use Rattle.mv_gains.proofs.Readers.{parts_read}
use Rattle.mv_gains.proofs.Savings.{undivided_at}
use Rattle.mv_kernels.proofs.Lists.{Contains-first, Contains-behind}
use Rattle.mv_net.specs.declared.parts.FlatNet.{FlatNet}
use Rattle.mv_net.specs.Nets.{slot, net_reads}

record Unread (fanins : List NetId) (literals : List Lit) : Type 0 where
  literal : Lit
  there : Contains literals literal
  off : has_id fanins literal.net.0 ≡ false

some_unread : (fanins : List NetId) (literals : List Lit) → list_all (λ (l : Lit). has_id fanins l.net.0) literals ≡ false → Unread fanins literals
some_unread fanins [] f = absurd (false≢true (sym f))
some_unread fanins (l ∷ ls) f =
    elim (cases_Bool (has_id fanins l.net.0)) [
      | inl t ↦ let r = some_unread fanins ls (rw t at f) in record { literal = r.literal; there = Contains-behind r.literal l ls r.there; off = r.off }
      | inr off ↦ record { literal = l; there = Contains-first l ls; off = off }
    ]

pub let_be : (nets : List (Option FlatNet)) (n : ℕ) (fanins : List NetId) (divisor : List (List Lit)) (first : List Lit) → IsAscending (λ m. net_reads (slot nets n) m) fanins → Contains divisor first → list_all (λ (l : Lit). has_id fanins l.net.0) first ≡ false → IsUndivided (lines_at (slot nets n)) divisor
let_be nets n fanins divisor first a there f =
    let u = some_unread fanins first f in
    undivided_at (lines_at (slot nets n)) divisor first u.literal there u.there
    (λ has. false≢true (sym u.off ∙ (a.members u.literal.net.0 ∙ parts_read (slot nets n) u.literal has)))
