-- The nets of one table more have their places, and each table that comes from another still does.
use Rattle.std.proofs.Common.{◌≡◌, ℕ, ◌+◌, ◌<◌, List, ◌∷◌, length, drop, get_or, sym, ◌∙◌, ap, subst}
use Rattle.std.proofs.lemmas.List.{at_drop_more}
use Rattle.mv_design.specs.declared.design.Decl.{Decl}
use Rattle.mv_design.specs.declared.table.FileTable.{FileTable}
use Rattle.mv_acyclic.specs.Driving.{with_names}
use Rattle.mv_flat.specs.Gathered.{with_places}
use Rattle.mv_flat.specs.Places.{made_places}
use Rattle.mv_flat.specs.Shared.{IsFrom}
use Rattle.mv_flat.proofs.numbers.add_places.Goals as goal

places_more : (ds : List Decl) (ts : List FileTable) (i : ℕ) (t : FileTable) (names all : List (List ℕ)) → i < length ts → t ≡ get_or ts i t
    → with_places ds names (drop i ts) ≡ all → with_places ds (with_names (with_names names (made_places ds t)) t.outputs) (drop (i + 1) ts) ≡ all
places_more ds ts i t names all low is behind =
    let rest = drop (i + 1) ts in
    ap (λ u. with_places ds names (u ∷ rest)) is ∙ (sym (at_drop_more (with_places ds names) ts i t low) ∙ behind)

pub add_made-requires-clause-from : goal.add_made-requires-clause-from
add_made-requires-clause-from c =
    let t = c.table-item.result in
    let P : FileTable → Type 0 = λ u. IsFrom c.args.shared.now u in
    c.loop-table.invariant.kept t (subst P (sym c.table-item.is) (c.requires.shared c.loop-table.table-index t c.loop-table-test.true))

pub loop-table-preserved : goal.loop-table-preserved
loop-table-preserved c =
    let t = c.table-item.result in
    let ds = c.args.decls.now in
    let rest = drop (c.loop-table.table-index + 1) c.args.tables.now in
    let made : List (List ℕ) = with_names c.loop-table.names (made_places ds t) in
    record {
      names =
          ap (λ ns. with_places ds ns rest)
          (c.in_ok-add_names.ensures ∙ (ap (with_names c.add_made.new.names) c.as_slice.ensures ∙ ap (λ ns. with_names ns t.outputs) c.in_ok-add_made.ensures.names))
          ∙ places_more ds c.args.tables.now c.loop-table.table-index t c.loop-table.names _ c.loop-table-test.true c.table-item.is c.loop-table.invariant.names;
      kept = λ u from. c.in_ok-add_made.ensures.kept u (c.loop-table.invariant.kept u from);
    }
