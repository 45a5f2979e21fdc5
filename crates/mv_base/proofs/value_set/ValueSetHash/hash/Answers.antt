use Rattle.std.proofs.Common.{◌≡◌, ℕ, ap, sym, ◌∙◌, get_or, refl}
use Rattle.mv_base.specs.Words.{word_of}
use Rattle.mv_base.specs.SetInside.{words, word_of-number}
use Rattle.mv_base.proofs.value_set.ValueSetHash.hash.Goals as goal

pub returns : goal.returns
returns g c =
    let word : (k : ℕ) → word_of c.args.self.now k ≡ get_or (words c.self.inside) k 0 = λ k. ap (λ n. word_of n k) (sym c.self.view_is) ∙ word_of-number (words c.self.inside) c.self.invariant k in
    rw (word 0, word 1, word 2, word 3, word 4, word 5, word 6, word 7, c.hash-8.ensures, c.hash-7.ensures, c.hash-6.ensures, c.hash-5.ensures, c.hash-4.ensures, c.hash-3.ensures, c.hash-2.ensures, c.hash.ensures) refl
