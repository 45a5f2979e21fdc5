-- Rows of outputs, a set for each output, as keys: their equality as a test, and its laws.
use Rattle.std.proofs.Common.{◌≡◌, ℕ, Bool, true, List, ap, nat_eq, Decides}
use Rattle.std.specs.Cmp.{IsEquivalence, IsPartialEquivalence, partial_equiv_from_equiv, decided, unsigned_Decides}
use Rattle.std.specs.Cmp.Lexicographic.{pointwise, pointwise_decides}
use Rattle.std.specs.Hash as fed
use Rattle.std.specs.Hash.{HashWrites}
use Rattle.mv_base.specs.Words.{kept_fed}

-- the same sets, one by one
abbrev pub same_outs : List ℕ → List ℕ → Bool
same_outs a b = pointwise nat_eq a b

-- what a hash is fed with: the number of sets, then each of them
abbrev pub outs_fed : List ℕ → HashWrites
outs_fed a = fed.slice kept_fed a

pub same_outs-Decides : (a b : List ℕ) → Decides (same_outs a b) (a ≡ b)
same_outs-Decides = pointwise_decides unsigned_Decides

pub same_outs-equiv : IsEquivalence same_outs
same_outs-equiv = decided same_outs same_outs-Decides

pub same_outs-partial_equiv : IsPartialEquivalence same_outs
same_outs-partial_equiv = partial_equiv_from_equiv same_outs-equiv

-- equal rows feed a hash alike
pub outs_fed-same : (a b : List ℕ) → same_outs a b ≡ true → outs_fed a ≡ outs_fed b
outs_fed-same a b h = ap outs_fed ((same_outs-Decides a b).0 h)
