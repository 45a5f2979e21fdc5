use Rattle.std.proofs.Common.{◌≡◌, true, refl, sym, ◌∙◌, List, ℕ, drop}
use Rattle.mv_base.specs.Names.{begins_with, place_of}
use Rattle.mv_design.specs.declared.design.Decl.{Decl}
use Rattle.mv_table.specs.Entries.{out_word, same_at}
use Rattle.mv_table.proofs.entries.out_entry.Goals as goal

said_equal : (ds : List Decl) (ins values : List (List ℕ)) (word : List ℕ) → begins_with 61 word ≡ true → out_word ds ins values word ≡ same_at ds values (drop 1 word) (place_of (drop 1 word) ins)
unfolding out_word
said_equal ds ins values word e = rw e refl

pub returns-then-begins_with-clause-ok : goal.returns-then-begins_with-clause-ok
returns-then-begins_with-clause-ok c =
    rw (said_equal c.args.decls.now c.args.ins.now c.args.values.now c.args.word.now (sym c.begins_with.ensures ∙ c.if-begins_with.true))
    (rw c.split_at.ensures.back at c.same_entry.ensures.ok)
