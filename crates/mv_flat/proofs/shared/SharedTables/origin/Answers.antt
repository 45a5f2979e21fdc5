-- The table at the place is the one that this comes from by its line.
use Rattle.std.proofs.Common.{◌≡◌, ◌∙◌, ◌<◌, ℕ, List, Some, length, refl, sym, ap, arith}
use Rattle.std.specs.List.{slice_get}
use Rattle.std.specs.Prelude.{slice_index_or}
use Rattle.std.proofs.lemmas.Bool.{ltb-true}
use Rattle.std.proofs.lemmas.Option.{slice_get-get_or, slice_get_read}
use Rattle.mv_flat.proofs.shared.SharedTables.origin.Goals as goal

pub returns-then-origin-len-clause-rows : goal.returns-then-origin-len-clause-rows
returns-then-origin-len-clause-rows c = λ d.
    let s = c.args.self.now in
    let k = c.in_ok-origin.field-0.now in
    let line = c.args.table.now.line in
    let origins = c.deref.result.now in
    let found = c.in_ok-origin.ensures.lookup in
    let low : k < length s.tables.items = omega (arith, c.len.ensures, c.if-origin-len.true) in
    let read : slice_get origins line ≡ Some k = slice_get_read origins (length origins) line k refl (ltb-true line (length origins) (sym found.0)) found.1 in
    let there : slice_get s.origins.items line ≡ Some k = ap (λ (os : List ℕ). slice_get os line) (sym c.deref.ensures.value) ∙ read in
    c.requires.from (sym c.gives_reset.ensures ∙ c.if-gives_reset.false) k (slice_index_or s.tables.items k d) there (slice_get-get_or s.tables.items k d low)
