use Rattle.std.proofs.Common.{◌≡◌, Some, true, rules, arith, ap}
use Rattle.std.specs.Prelude.{◌==◌}
use Rattle.std.specs.List.{list_any}
use Rattle.mv_base.proofs.FileLemmas.{begins_failed, begins_file, still_sound, not_listed}
use Rattle.mv_base.proofs.memory_files.MemoryFilesFiles.start.Goals as goal

-- a listed call, over files that aren't sound then
pub returns-then-listed-clause-begun : goal.returns-then-listed-clause-begun
returns-then-listed-clause-begun c =
    let fails = c.self.inside.fails.items in
    let listed : list_any (λ n. n == c.self.inside.calls) fails ≡ true = search rules in
    rw (← c.self.view_is)
    (begins_failed _ _ _ _ (λ sound. absurd (not_listed fails _ listed sound)) (λ sound. still_sound fails _ _ (omega arith) sound))

-- no file has the name
pub returns-in_default-clause-begun : goal.returns-in_default-clause-begun
returns-in_default-clause-begun c =
    let fails = c.self.inside.fails.items in
    let missing = rw c.as_slice-2.ensures.value at c.in_default.ensures.none in
    rw (← c.self.view_is)
    (begins_failed _ _ _ _ (λ _. missing) (λ sound. still_sound fails _ _ (omega arith) sound))

-- the file is begun
pub returns-clause-begun : goal.returns-clause-begun
returns-clause-begun c =
    let fails = c.self.inside.fails.items in
    let named = rw c.as_slice-2.ensures.value at c.in-Some.ensures.some in
    rw (← c.self.view_is)
    (begins_file _ _ _ _ _ (ap Some named.name_is) named.content (λ sound. still_sound fails _ _ (omega arith) sound))
