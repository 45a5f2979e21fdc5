use Rattle.std.proofs.Common.{◌≡◌, ◌∙◌, refl, sym, ap}
use Rattle.std.proofs.lemmas.Bool.{eqb-true, eqb-false}
use Rattle.mv_diagram.specs.Sets.{holds}
use Rattle.mv_diagram.proofs.Points.{split_before}
use Rattle.mv_diagram.proofs.Making.{IsNode-made, lacking_made, put_adds, put_ascends, put_longer, put_set, set_reads}
use Rattle.mv_diagram.specs.declared.node.Node.{Node}
use Rattle.mv_diagram.specs.Sound.{order}
use Rattle.mv_diagram.proofs.Adding.{parts_none, parts_put}
use Rattle.mv_diagram.proofs.table.make.Goals as goal

pub returns-then-eq-clause-set : goal.returns-then-eq-clause-set
returns-then-eq-clause-set c p =
    let counts = c.args.table.now.counts.items in
    let ns = c.args.table.now.pool.places in
    let same : c.otherwise.result.0 ≡ c.args.yes.0 = eqb-true _ _ (sym c.if-eq.ensures) in
    split_before counts ns c.requires.sound c.args.no.0 c.args.yes.0 c.args.test p c.requires.no_later (ap (λ d. holds counts ns d p) (sym same) ∙ c.otherwise.ensures.set p)

pub returns-in-Ok-clause-adds : goal.returns-in-Ok-clause-adds
returns-in-Ok-clause-adds c =
    let counts = c.args.table.now.counts.items in
    let ns = c.args.table.now.pool.places in
    let is = IsNode-made counts ns c.requires.sound (record { test = c.args.test; yes = c.args.yes; no = c.args.no }) c.otherwise.result c.requires.test c.requires.yes_held c.requires.no_held c.requires.yes_later c.requires.no_later c.otherwise.ensures.held c.otherwise.ensures.set (eqb-false _ _ (sym c.if-eq.ensures)) in
    let both = put_adds counts c.args.table.now.pool c.put.new.pool (record { test = c.args.test; yes = c.args.yes; no = c.args.no }) c.in-Ok.d.0 c.requires.sound is c.in-Ok.ensures.ok in
    record { counts = refl; cap = c.in-Ok.ensures.ok.cap; grows = both.0; sound = both.1; ascends = put_ascends counts c.args.table.now.pool c.put.new.pool (record { test = c.args.test; yes = c.args.yes; no = c.args.no }) c.in-Ok.d.0 c.requires.sound is c.in-Ok.ensures.ok; longer = put_longer counts c.args.table.now.pool c.put.new.pool (record { test = c.args.test; yes = c.args.yes; no = c.args.no }) c.in-Ok.d.0 c.requires.sound is c.in-Ok.ensures.ok }

pub returns-in-Ok-clause-set : goal.returns-in-Ok-clause-set
returns-in-Ok-clause-set c =
    let counts = c.args.table.now.counts.items in
    let ns = c.args.table.now.pool.places in
    let is = IsNode-made counts ns c.requires.sound (record { test = c.args.test; yes = c.args.yes; no = c.args.no }) c.otherwise.result c.requires.test c.requires.yes_held c.requires.no_held c.requires.yes_later c.requires.no_later c.otherwise.ensures.held c.otherwise.ensures.set (eqb-false _ _ (sym c.if-eq.ensures)) in
    put_set counts c.args.table.now.pool c.put.new.pool (record { test = c.args.test; yes = c.args.yes; no = c.args.no }) c.in-Ok.d.0 c.requires.sound is c.in-Ok.ensures.ok

pub returns-in-Err-clause-lacking : goal.returns-in-Err-clause-lacking
returns-in-Err-clause-lacking c =
    let counts = c.args.table.now.counts.items in
    let ns = c.args.table.now.pool.places in
    rw c.in-Err.ensures.same
    (lacking_made counts ns c.requires.sound (record { test = c.args.test; yes = c.args.yes; no = c.args.no }) c.otherwise.result c.requires.test c.requires.yes_held c.requires.no_held c.requires.yes_later c.requires.no_later c.otherwise.ensures.held c.otherwise.ensures.set (eqb-false _ _ (sym c.if-eq.ensures)) c.in-Err.ensures.absent)

pub returns-in-Ok-clause-added : goal.returns-in-Ok-clause-added
returns-in-Ok-clause-added c =
    let counts = c.args.table.now.counts.items in
    let ns = c.args.table.now.pool.places in
    let n : Node = record { test = c.args.test; yes = c.args.yes; no = c.args.no } in
    let is = IsNode-made counts ns c.requires.sound n c.otherwise.result c.requires.test c.requires.yes_held c.requires.no_held c.requires.yes_later c.requires.no_later c.otherwise.ensures.held c.otherwise.ensures.set (eqb-false _ _ (sym c.if-eq.ensures)) in
    parts_put counts c.args.table.now.pool c.put.new.pool n c.in-Ok.d.0 (order c.args.test.var c.args.test.value) c.requires.sound is c.in-Ok.ensures.ok
    (set_reads counts ns c.requires.sound n c.otherwise.result c.requires.test c.requires.yes_held c.requires.no_held c.requires.yes_later c.requires.no_later c.otherwise.ensures.held c.otherwise.ensures.set (eqb-false _ _ (sym c.if-eq.ensures)))

pub returns-in-Err-clause-added : goal.returns-in-Err-clause-added
returns-in-Err-clause-added c = rw c.in-Err.ensures.same (parts_none c.args.table.now.counts.items c.args.table.now.pool.places _)

pub returns-then-eq-clause-added : goal.returns-then-eq-clause-added
returns-then-eq-clause-added c = parts_none c.args.table.now.counts.items c.args.table.now.pool.places _
