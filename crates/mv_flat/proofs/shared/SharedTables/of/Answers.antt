-- Each table comes from the one whose number stands at its line, and from none where no numbers are known.
use Rattle.std.proofs.Common.{◌∙◌, ap, sym}
use Rattle.std.specs.List.{flat_map}
use Rattle.std.proofs.lemmas.Bool.{false≢true}
use Rattle.mv_design.specs.declared.design.FileModel.{FileModel}
use Rattle.mv_flat.proofs.Origins.{all_known, none_known}
use Rattle.mv_flat.proofs.shared.SharedTables.of.Goals as goal

pub returns-then-may_share-clause-known : goal.returns-then-may_share-clause-known
returns-then-may_share-clause-known c =
    all_known c.args.design.now c.args.opened.now
    (record { origins = c.in_ok-origins.origins; tables = c.in_ok-tables.tables }) c.requires.rooted c.requires.opened
    c.in_ok-origins.ensures
    (c.in_ok-tables.ensures ∙ ap (flat_map (λ (m : FileModel). m.tables)) c.as_slice-models.ensures)

pub returns-then-may_share-clause-none : goal.returns-then-may_share-clause-none
returns-then-may_share-clause-none c = λ e. absurd (false≢true (sym (c.may_share.ensures e) ∙ c.if-may_share.true))

pub returns-clause-known : goal.returns-clause-known
returns-clause-known c = none_known c.none.result _ c.none.ensures
