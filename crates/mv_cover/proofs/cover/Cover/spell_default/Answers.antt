-- The complement's cubes become lines behind the others, and the default goes.
use Rattle.std.proofs.Common.{◌≡◌, ◌∙◌, ap, None}
use Rattle.mv_cover.specs.declared.cover.Cover.{Cover}
use Rattle.mv_cover.specs.Complement.{spelled_of}
use Rattle.mv_cover.proofs.Spelling.{spelled-none, spelled-some, suits-spelled, same-made}
use Rattle.mv_cover.proofs.cover.Cover.spell_default.Goals as goal

pub returns-in_default-clause-cover : goal.returns-in_default-clause-cover
returns-in_default-clause-cover c =
    c.in_ok-copy.ensures ∙ spelled-none c.args.counts.now c.args.self.now c.in_default.is

pub returns-clause-cover : goal.returns-clause-cover
returns-clause-cover c =
    spelled-some c.args.counts.now c.args.self.now c.in_ok-spelled.spelled.lines c.put_lines.new.lines c.in-Ok.cubes.items c.in-Some.out c.in-Some.is (ap (λ (x : Cover). x.lines) c.in_ok-spelled.ensures) c.in-Ok.ensures.list c.in_ok-put_lines.ensures

pub returns-clause-relation : goal.returns-clause-relation
returns-clause-relation c =
    let made : record { lines = c.put_lines.new.lines; default = None } ≡ spelled_of c.args.counts.now c.args.self.now = spelled-some c.args.counts.now c.args.self.now c.in_ok-spelled.spelled.lines c.put_lines.new.lines c.in-Ok.cubes.items c.in-Some.out c.in-Some.is (ap (λ (x : Cover). x.lines) c.in_ok-spelled.ensures) c.in-Ok.ensures.list c.in_ok-put_lines.ensures in
    same-made c.args.counts.now c.args.self.now (record { lines = c.put_lines.new.lines; default = None }) c.in-Ok.cubes.items made c.in-Ok.ensures.list c.in-Ok.ensures.points

pub returns-clause-suited : goal.returns-clause-suited
returns-clause-suited c =
    suits-spelled c.args.counts.now c.args.self.now.lines c.in_ok-spelled.spelled.lines c.put_lines.new.lines c.in-Ok.cubes.items c.in-Some.out (ap (λ (x : Cover). x.lines) c.in_ok-spelled.ensures) c.in_ok-put_lines.ensures c.requires c.in-Ok.ensures.suited
