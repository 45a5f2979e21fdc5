-- Nets that are put on the way of a search. For private functions.
use Rattle.std.specs.Prelude.{◌≡◌, ℕ, ◌<◌, ◌≤◌, Bool, true, false, ◌&&◌, nat_eq, nat_le, nat_lt, Option, List, length, slice_index}
use Rattle.mv_base.specs.declared.number.NetId.{NetId}
use Rattle.mv_graph.specs.Sorting.{net_at}
use Rattle.mv_net.specs.declared.parts.FlatNet.{FlatNet}
use Rattle.mv_net.specs.Nets.{reads_in}
use Rattle.mv_net.specs.Index.{is_held}
use Rattle.mv_solve.specs.declared.asked.Asked.{Asked}
use Rattle.mv_solve.specs.Asked.{asked_of}
use Rattle.mv_solve.specs.Known.{is_only}

-- the net stands at the place that is noted of it, from `start` on and below `end`
abbrev pub stands : List NetId → List ℕ → ℕ → ℕ → ℕ → Bool
stands way places start end n = nat_le start (slice_index places n)
    && (nat_lt (slice_index places n) end && nat_eq (net_at way (slice_index places n)) n)

-- the net stands at some place from `start` on and below `end`
pub record StandsAt (way : List NetId) (start end n : ℕ) : Type 0 where
  pub place : ℕ
  pub from : start ≤ place
  pub to : place < end
  pub is : net_at way place ≡ n

-- at the first places stand held nets, at the places that are noted of them. At each is the start of
-- its part, the same at all places of the part; and what a net reads stands before it in its part, or
-- one value of it is known
pub record ArePut (nets : List (Option FlatNet)) (known : List Asked) (way : List NetId)
    (starts places : List ℕ) (end : ℕ) : Type 0 where
  pub inside : end ≤ length way
  pub long : length starts ≡ length way
  pub held : (q : ℕ) → q < end → is_held nets (net_at way q) ≡ true
  pub placed : (q : ℕ) → q < end → slice_index places (net_at way q) ≡ q
  pub low : (q : ℕ) → q < end → slice_index starts q ≤ q
  pub same : (p q : ℕ) → slice_index starts q ≤ p → p ≤ q → q < end
      → slice_index starts p ≡ slice_index starts q
  pub behind : (q m : ℕ) → q < end → reads_in nets (net_at way q) m ≡ true
      → is_only (asked_of known m) ≡ false → StandsAt way (slice_index starts q) q m
