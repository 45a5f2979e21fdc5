-- Nets that read along what the old ones read: each step is a path of the old ones, so that none is above another that wasn't.
use Rattle.std.proofs.Common.{◌≡◌, Bool, true, List, [], ◌∷◌, ◌++◌, Option}
use Rattle.mv_graph.specs.Above.{GoesOn, IsAbove, IsAcyclic}
use Rattle.mv_net.specs.declared.parts.Kind.TheVariants.{Latch, Reset}
use Rattle.mv_net.specs.declared.parts.FlatNet.{FlatNet}
use Rattle.mv_net.specs.declared.parts.NetParts.{NetParts}
use Rattle.mv_net.specs.Nets.{reads_in}
use Rattle.mv_net.specs.Formed.{ResetsStandAlone, WellFormed}
use Rattle.mv_net.specs.Changes.{with_nets}
use Rattle.mv_meaning.specs.Rewriting.{IsReformed, AreCovers, ReadsAlong}
use Rattle.mv_meaning.proofs.Reformed.{kind_kept, IsReformed-back, reformed_formed}

-- ---- paths put together

goes_then : {N : Type 0} (reads : N → N → Bool) (last n m : N) (path others : List N) → GoesOn reads m n path → GoesOn reads last m others → GoesOn reads last n (path ++ m ∷ others)
goes_then reads last n m [] others g h = (g, h)
goes_then reads last n m (k ∷ path) others g h = (g.0, goes_then reads last k m path others g.1 h)

-- what is above a net that is above n is above n
pub above_then : {N : Type 0} (reads : N → N → Bool) (n m above : N) → IsAbove reads m n → IsAbove reads above m → IsAbove reads above n
above_then reads n m above a b = record { path = a.path ++ m ∷ b.path; goes = goes_then reads above n m a.path b.path a.goes b.goes }

-- a path whose steps are paths of another graph is a path there
goes_along : {N : Type 0} (reads others : N → N → Bool) → ((n m : N) → reads n m ≡ true → IsAbove others m n) → (last n : N) (path : List N) → GoesOn reads last n path → IsAbove others last n
goes_along reads others steps last n [] g = steps n last g
goes_along reads others steps last n (m ∷ path) g = above_then others n m last (steps n m g.0) (goes_along reads others steps last m path g.1)

pub above_along : {N : Type 0} (reads others : N → N → Bool) → ((n m : N) → reads n m ≡ true → IsAbove others m n) → (above n : N) → IsAbove reads above n → IsAbove others above n
above_along reads others steps above n a = goes_along reads others steps above n a.path a.goes

-- ---- nets that read along

pub acyclic_along : (old new : List (Option FlatNet)) → ReadsAlong old new → IsAcyclic (reads_in old) → IsAcyclic (reads_in new)
acyclic_along old new along is = record { none = λ n a. is.none n (above_along (reads_in new) (reads_in old) along.along n n a) }

pub alone_along : (old new : List (Option FlatNet)) → IsReformed old new → ReadsAlong old new → ResetsStandAlone old → ResetsStandAlone new
alone_along old new reformed along is =
    let back = IsReformed-back old new reformed in
    record { none = λ n m latch reset a. is.none n m (kind_kept new old back n Latch latch) (kind_kept new old back m Reset reset) (above_along (reads_in new) (reads_in old) along.along n m a) }

-- the network with other tables that are covers and read along is well formed
pub along_formed : (net : NetParts) (nets : List (Option FlatNet)) → WellFormed net → IsReformed net.nets nets → AreCovers net.nets nets → ReadsAlong net.nets nets → WellFormed (with_nets net nets)
along_formed net nets formed reformed covers along =
    reformed_formed net nets formed reformed covers (acyclic_along net.nets nets along formed.acyclic) (alone_along net.nets nets reformed along formed.alone)
