-- The divided table keeps the order of the nets: it reads nothing that the old one didn't, but the net that stands for the
-- divisor, and that one reads nothing else either.
use Rattle.std.proofs.Common.{◌≡◌, ◌∙◌, ◌⊎◌, ℕ, Bool, true, List, [], ◌∷◌, get_or, Option, Some, Contains, inl, inr, refl, sym, ap, subst, ⊎_elim}
use Rattle.std.proofs.lemmas.Bool.{or_left, or_right}
use Rattle.std.proofs.lemmas.List.Elements.{Contains-append_cases, Contains-get_or}
use Rattle.std.proofs.lemmas.Option.{same_Some}
use Rattle.mv_base.specs.Set.{one}
use Rattle.mv_base.specs.declared.number.NetId.{NetId}
use Rattle.mv_cover.specs.Literal.{Lit}
use Rattle.mv_cover.specs.Covers.{cube_reads, cover_reads}
use Rattle.mv_cover.specs.declared.line.Line.{Line}
use Rattle.mv_cover.specs.declared.cover.Cover.{Cover}
use Rattle.mv_graph.specs.Above.{GoesOn, IsAbove}
use Rattle.mv_graph.proofs.Paths.{above_first}
use Rattle.mv_kernels.specs.Symbols.{has_symbol}
use Rattle.mv_kernels.proofs.Lists.{Contains-from_map}
use Rattle.mv_kernels.proofs.Quotients.{symbol_in, in_symbol}
use Rattle.mv_divide.specs.Tables.{with_one}
use Rattle.mv_meaning.specs.Rewriting.{IsOverTable, PutsAbove}
use Rattle.mv_meaning.proofs.Following.{above_then}
use Rattle.mv_net.specs.declared.parts.FlatNet.{FlatNet}
use Rattle.mv_net.specs.declared.parts.NetParts.{NetParts}
use Rattle.mv_net.specs.declared.parts.Kind.TheVariants.{Table, Latch}
use Rattle.mv_net.specs.Formed.{IsKind, WellFormed}
use Rattle.mv_net.specs.Index.{kind_in}
use Rattle.mv_net.specs.Nets.{slot, table_in, table_reads, reads_in}
use Rattle.mv_plans.specs.Orders.{KeepsOrder}
use Rattle.mv_division.specs.Divisors.{divisor_cover, HasDivisor}
use Rattle.mv_division.specs.Divided.{IsDivision, divided_cover}
use Rattle.mv_division.proofs.Lists.{only_one}
use Rattle.mv_division.proofs.Parts.{joined, some_cube, line_from}
use Rattle.mv_division.proofs.Tables.{reads_from, reads_at, line_reading, lines_reading}

-- ---- steps up

-- the first net that it reads on the way up
first_step : (reads : ℕ → ℕ → Bool) (above n : ℕ) → IsAbove reads above n → (m : ℕ) × (reads n m ≡ true) × ((above ≡ m) ⊎ IsAbove reads above m)
first_step reads above n a = by a.path a.goes
  where
    by : (path : List ℕ) → GoesOn reads above n path → (m : ℕ) × (reads n m ≡ true) × ((above ≡ m) ⊎ IsAbove reads above m)
    by [] g = (above, g, inl refl)
    by (m ∷ path) g = (m, g.0, inr (record { path = path; goes = g.1 }))

one_step : (reads : ℕ → ℕ → Bool) (above n m : ℕ) → reads n m ≡ true → (above ≡ m) ⊎ IsAbove reads above m → IsAbove reads above n
one_step reads above n m h (inl e) = record { path = []; goes = subst (λ (k : ℕ). reads n k ≡ true) (sym e) h }
one_step reads above n m h (inr a) = above_first reads n m above h a

-- ---- what is read

reads_table : (nets : List (Option FlatNet)) (n : ℕ) (c : Cover) → table_in (slot nets n) ≡ Some c → (m : ℕ) → reads_in nets n m ≡ cover_reads c m
reads_table nets n c e m = ap (λ t. table_reads t m) e

module _ (nets : List (Option FlatNet)) (n d : NetId) (by : List ℕ) (divisor : List (List Lit)) (old : Cover) (lines : List Line) (is : IsDivision nets n d by divisor old lines) where
  -- what the divisor reads was read by the table
  divisor_reads : (m : ℕ) → cover_reads (divisor_cover divisor) m ≡ true → cover_reads old m ≡ true
  divisor_reads m h =
      let x = line_reading (divisor_cover divisor).lines m h in
      let c = Contains-from_map (λ (k : List Lit). record { cube = k; out = one 1 }) divisor x.0 x.1 in
      let l = reads_from c.0 m (ap (λ (k : Line). cube_reads k.cube m) (sym c.2) ∙ x.2) in
      let q = some_cube is.divided.quotients is.divided.some in
      let o = joined old.lines divisor is.divided.quotients is.divided.are q.quotient q.there q.cube q.cube_in c.0 c.1 in
      let there : Contains o.cube l.0 = symbol_in o.cube l.0 (o.join.each l.0 ∙ or_right (has_symbol q.cube l.0) (has_symbol c.0 l.0) (in_symbol c.0 l.0 l.1)) in
      lines_reading old.lines (record { cube = o.cube; out = q.quotient.out }) m o.line (ap (cube_reads o.cube) (sym l.2) ∙ reads_at o.cube l.0 there)

  -- what the divided table reads was read, or is the net d
  divided_reads : (m : ℕ) → cover_reads (divided_cover old lines) m ≡ true → (cover_reads old m ≡ true) ⊎ (m ≡ d.0)
  divided_reads m h =
      let x = line_reading lines m h in
      elim (line_from old.lines divisor d lines is.divided x.0 x.1) [
        | inl t ↦ inl (lines_reading old.lines x.0 m t.0 x.2)
        | inr new ↦
            let l = reads_from x.0.cube m x.2 in
            let there : Contains (with_one d new.cube) l.0 = subst (λ (k : Line). Contains k.cube l.0) new.is l.1 in
            elim (Contains-append_cases new.cube (record { net = d; set = one 1 } ∷ []) l.0 there) [
              | inl i ↦
                  let c = get_or divisor 0 [] in
                  let o = joined old.lines divisor is.divided.quotients is.divided.are new.quotient new.there new.cube new.cube_in c (Contains-get_or divisor 0 [] is.some) in
                  let held : Contains o.cube l.0 = symbol_in o.cube l.0 (o.join.each l.0 ∙ or_left (has_symbol new.cube l.0) (has_symbol c l.0) (in_symbol new.cube l.0 i)) in
                  inl (lines_reading old.lines (record { cube = o.cube; out = new.quotient.out }) m o.line (ap (cube_reads o.cube) (sym l.2) ∙ reads_at o.cube l.0 held))
              | inr i ↦ inr (sym l.2 ∙ ap (λ (k : Lit). k.net.0) (sym (only_one (record { net = d; set = one 1 }) l.0 i)))
            ]
      ]

  -- what is above d is above n
  above_d : (m : ℕ) → IsAbove (reads_in nets) m d.0 → IsAbove (reads_in nets) m n.0
  above_d m a =
      let f = first_step (reads_in nets) m d.0 a in
      let read = divisor_reads f.0 (sym (reads_table nets d.0 (divisor_cover divisor) (ap table_in is.divides.held) f.0) ∙ f.1) in
      one_step (reads_in nets) m n.0 f.0 (reads_table nets n.0 old is.table f.0 ∙ read) f.2

  -- what the divided table reads, or is above that, is above n, or is d
  over_divided : (m : ℕ) → IsOverTable nets (divided_cover old lines) m → IsAbove (reads_in nets) m n.0 ⊎ (m ≡ d.0)
  over_divided m over =
      elim (divided_reads over.first over.reads) [
        | inl t ↦ inl (one_step (reads_in nets) m n.0 over.first (reads_table nets n.0 old is.table over.first ∙ t) over.up)
        | inr e ↦
            elim over.up [
              | inl s ↦ inr (s ∙ e)
              | inr a ↦ inl (above_d m (subst (IsAbove (reads_in nets) m) e a))
            ]
      ]

-- ---- the order

-- a latch output isn't a net with a table
not_latch : (nets : List (Option FlatNet)) (d : ℕ) (by : List ℕ) (divisor : List (List Lit)) → HasDivisor nets d by divisor → IsKind nets d Latch → ⊥
not_latch nets d by divisor h k =
    let kinds : Some Table ≡ Some k.net.kind = sym (ap kind_in h.held) ∙ ap kind_in k.held in
    let same : Table ≡ Latch = same_Some Table k.net.kind kinds ∙ k.is in
    absurd cc

module _ (net : NetParts) (n d : NetId) (by : List ℕ) (divisor : List (List Lit)) (old : Cover) (lines : List Line) (formed : WellFormed net) (is : IsDivision net.nets n d by divisor old lines) where
  not_itself : IsAbove (reads_in net.nets) n.0 n.0 → ⊥
  not_itself a = formed.acyclic.none n.0 a

  free : IsOverTable net.nets (divided_cover old lines) n.0 → ⊥
  free over =
      elim (over_divided net.nets n d by divisor old lines is n.0 over) [
        | inl a ↦ not_itself a
        | inr e ↦ is.other e
      ]

  -- a latch output that came above a reset net was above it
  alone : (latch reset : ℕ) → PutsAbove net.nets n.0 (divided_cover old lines) latch reset → ⊥
  alone latch reset puts =
      elim (over_divided net.nets n d by divisor old lines is latch puts.up) [
        | inl a ↦
            let up : IsAbove (reads_in net.nets) latch reset =
            ⊎_elim
            (λ (e : reset ≡ n.0). subst (IsAbove (reads_in net.nets) latch) (sym e) a)
            (λ (b : IsAbove (reads_in net.nets) n.0 reset). above_then (reads_in net.nets) reset n.0 latch b a)
            puts.down in
            formed.alone.none latch reset puts.output puts.reset_net up
        | inr e ↦ not_latch net.nets d.0 by divisor is.divides (subst (λ (k : ℕ). IsKind net.nets k Latch) e puts.output)
      ]

  pub order_kept : KeepsOrder net.nets n.0 d.0 (divided_cover old lines)
  order_kept = record {
    other = is.other;
    not_above = λ a. not_itself (above_d net.nets n d by divisor old lines is n.0 a);
    free = free;
    alone = alone;
  }
