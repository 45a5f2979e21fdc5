-- Paths from a net to those above it: one step more, and paths through another graph.
use Rattle.std.proofs.Common.{◌≡◌, Bool, true, List, [], ◌∷◌, ◌++◌, map}
use Rattle.mv_graph.specs.Above.{GoesOn, IsAbove, IsAcyclic}

-- ---- one step more

pub goes_more : {N : Type 0} (reads : N → N → Bool) (n above m : N) (path : List N) → GoesOn reads above n path → reads above m ≡ true → GoesOn reads m n (path ++ above ∷ [])
goes_more reads n above m [] g h = (g, h)
goes_more reads n above m (k ∷ path) g h = (g.0, goes_more reads k above m path g.1 h)

-- what a net above n reads is above n
pub above_more : {N : Type 0} (reads : N → N → Bool) (n above m : N) → IsAbove reads above n → reads above m ≡ true → IsAbove reads m n
above_more reads n above m a h = record { path = a.path ++ above ∷ []; goes = goes_more reads n above m a.path a.goes h }

-- what is above a net that n reads is above n
pub above_first : {N : Type 0} (reads : N → N → Bool) (n m above : N) → reads n m ≡ true → IsAbove reads above m → IsAbove reads above n
above_first reads n m above h a = record { path = m ∷ a.path; goes = (h, a.goes) }

-- ---- each step of one graph as a step of another

goes_mapped : {N M : Type 0} (reads : N → N → Bool) (others : M → M → Bool) (f : N → M) → ((n m : N) → reads n m ≡ true → others (f n) (f m) ≡ true)
    → (last n : N) (path : List N) → GoesOn reads last n path → GoesOn others (f last) (f n) (map f path)
goes_mapped reads others f steps last n [] g = steps n last g
goes_mapped reads others f steps last n (m ∷ path) g = (steps n m g.0, goes_mapped reads others f steps last m path g.1)

pub above_mapped : {N M : Type 0} (reads : N → N → Bool) (others : M → M → Bool) (f : N → M) → ((n m : N) → reads n m ≡ true → others (f n) (f m) ≡ true)
    → (above n : N) → IsAbove reads above n → IsAbove others (f above) (f n)
above_mapped reads others f steps above n a = record { path = map f a.path; goes = goes_mapped reads others f steps above n a.path a.goes }

pub acyclic_mapped : {N M : Type 0} (reads : N → N → Bool) (others : M → M → Bool) (f : N → M) → ((n m : N) → reads n m ≡ true → others (f n) (f m) ≡ true)
    → IsAcyclic others → IsAcyclic reads
acyclic_mapped reads others f steps is = record { none = λ n a. is.none (f n) (above_mapped reads others f steps n n a) }
