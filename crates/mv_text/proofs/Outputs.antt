-- All values of a net as the set of an output.
use Rattle.std.proofs.Common.{◌∙◌, ℕ, ◌<◌, sym, ap}
use Rattle.std.proofs.lemmas.Bool.{false≢true, lt-ltb}
use Rattle.mv_base.specs.Set.{has, full}
use Rattle.mv_base.proofs.Sets.{has-empty, has-full}
use Rattle.mv_cover.specs.Lines.{IsOutput}

pub full_output : (count : ℕ) → 0 < count → IsOutput count (full count)
full_output count low = record {
  some = λ e. false≢true (sym (has-empty 0) ∙ (ap (λ s. has s 0) (sym e) ∙ (has-full count 0 ∙ lt-ltb 0 count low)));
  within = λ v h. h;
}
