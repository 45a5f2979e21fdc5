use Rattle.std.proofs.Common.{◌≡◌, ◌<◌, true, false, length, rules, arith, ◌∙◌}
use Rattle.std.proofs.lemmas.List.{length-map}
use Rattle.std.specs.Prelude.{string_bytes}
use Rattle.mv_base.specs.Names.{same_word}
use Rattle.mv_base.specs.Entries.{entry_of}
use Rattle.mv_base.proofs.FileLemmas.{entry_read, named_behind, IsFirstNamed-here}
use Rattle.mv_base.proofs.memory_files.place_of.Goals as goal

pub returns-then-eq-clause-some : goal.returns-then-eq-clause-some
returns-then-eq-clause-some c =
    let files = c.args.files.now in
    let place = c.loop-place.place in
    let within : place < length files = omega arith in
    let entry = entry_read files place _ within c.index-files-place.is in
    let same : same_word c.args.name.now (string_bytes c.index-files-place.result.0) ≡ true = search rules in
    IsFirstNamed-here _ _ place (rw (length-map files entry_of) within) (rw entry same) c.loop-place.invariant

pub loop-place-preserved : goal.loop-place-preserved
loop-place-preserved c =
    let files = c.args.files.now in
    let place = c.loop-place.place in
    let within : place < length files = omega arith in
    let entry = entry_read files place _ within c.index-files-place.is in
    let other : same_word c.args.name.now (string_bytes c.index-files-place.result.0) ≡ false = search rules in
    named_behind _ _ place (rw (length-map files entry_of) within) (rw entry other) ∙ c.loop-place.invariant
