use Rattle.std.proofs.Common.{◌≡◌, ◌+◌, ◌-◌, ◌<◌, ◌≤◌, ◌++◌, [], true, length, map, take, drop, refl, sym, ◌∙◌, ap, rules, arith}
use Rattle.std.proofs.lemmas.List.{length-map}
use Rattle.std.specs.Prelude.{◌==◌}
use Rattle.std.specs.List.{list_any}
use Rattle.mv_base.specs.Entries.{entry_of, file_at, rest_at}
use Rattle.mv_base.proofs.FileLemmas.{continues_failed, continues_with, still_sound, not_listed, entry_read, piece_read, piece_ended}
use Rattle.mv_base.proofs.memory_files.MemoryFilesFiles.next.Goals as goal

-- a listed call, over files that aren't sound then
pub returns-then-listed-clause-given : goal.returns-then-listed-clause-given
returns-then-listed-clause-given c =
    let fails = c.self.inside.fails.items in
    let listed : list_any (λ n. n == c.self.inside.calls) fails ≡ true = search rules in
    rw (← c.self.view_is) (continues_failed _ _ _ _ (λ sound. not_listed fails _ listed sound))

-- no file is begun, and nothing is left
pub returns-in_default-clause-given : goal.returns-in_default-clause-given
returns-in_default-clause-given c =
    let fails = c.self.inside.fails.items in
    let files = map entry_of c.self.inside.files.items in
    let nothing : rest_at files c.self.inside.current c.self.inside.at ≡ [] = ap (λ p. rest_at files p c.self.inside.at) c.in_default.is in
    rw (← c.self.view_is)
    (continues_with _ _ _ _ 0 refl (λ _ _. nothing) (λ sound. still_sound fails _ _ (omega arith) sound))

-- the file is read no further than its end
pub invariant_of-self-2 : goal.invariant_of-self-2
invariant_of-self-2 c =
    let files = c.self.inside.files.items in
    let place = c.in-Some.place in
    let kept = rw c.in-Some.is at c.self.invariant in
    let within : place < length files = rw (← length-map files entry_of) kept.0 in
    let entry = entry_read files place _ within c.index.ensures in
    let content_is : c.as_slice-2.result.now ≡ (file_at (map entry_of files) place).1 = c.as_slice-2.ensures.value ∙ sym (ap (λ e. e.1) entry) in
    let count = rw content_is at c.give-count.ensures.count in
    let behind : c.self.inside.at + c.give-count.result ≤ length (file_at (map entry_of files) place).1 = omega (arith, count, kept.1) in
    rw c.in-Some.is (kept.0, behind)

-- a piece of the file is given
pub returns-clause-given : goal.returns-clause-given
returns-clause-given c =
    let fails = c.self.inside.fails.items in
    let files = c.self.inside.files.items in
    let place = c.in-Some.place in
    let here = c.self.inside.at in
    let n = c.give-count.result in
    let content = c.as_slice-2.result.now in
    let got = c.give-count.new.room in
    let kept = rw c.in-Some.is at c.self.invariant in
    let within : place < length files = rw (← length-map files entry_of) kept.0 in
    let entry = entry_read files place _ within c.index.ensures in
    let content_is : (file_at (map entry_of files) place).1 ≡ content = ap (λ e. e.1) entry ∙ sym c.as_slice-2.ensures.value in
    let before : rest_at (map entry_of files) c.self.inside.current here ≡ drop here content = ap (λ p. rest_at (map entry_of files) p here) c.in-Some.is ∙ ap (drop here) content_is in
    let after : rest_at (map entry_of files) c.self.inside.current (here + n) ≡ drop (here + n) content = ap (λ p. rest_at (map entry_of files) p (here + n)) c.in-Some.is ∙ ap (drop (here + n)) content_is in
    let fits : n ≤ length content - here = omega (arith, c.give-count.ensures.count) in
    rw (← c.self.view_is)
    (continues_with _ _ _ _ n
    (before ∙ (piece_read content _ got here n fits c.give-count.ensures.room ∙ ap (λ r. take n got ++ r) (sym after)))
    (λ none some. before ∙ piece_ended content _ here n c.give-count.ensures.count none (omega (arith, some)))
    (λ sound. still_sound fails _ _ (omega arith) sound))
