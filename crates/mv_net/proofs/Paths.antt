-- What steps down or up find is what is below or above by paths.
use Rattle.std.proofs.Common.{◌≡◌, ◌∙◌, ℕ, zero, suc, ◌+◌, ◌<◌, true, false, List, [], ◌∷◌, ◌++◌, length, Option, is_some, refl, sym, ap, subst, ⊎_elim, inl, inr, eq-eqb, eqb-true, arith, Bool}
use Rattle.std.specs.Prelude.{nat_eq}
use Rattle.std.proofs.lemmas.Bool.{false≢true, or_cases, or_left}
use Rattle.std.proofs.lemmas.List.{length-append}
use Rattle.mv_base.specs.declared.number.NetId.{NetId}
use Rattle.mv_graph.specs.Above.{GoesOn, IsAbove}
use Rattle.mv_graph.specs.Nets.{has_id, IsAscending}
use Rattle.mv_graph.proofs.Paths.{goes_more, above_more, above_first}
use Rattle.mv_net.specs.declared.parts.FlatNet.{FlatNet}
use Rattle.mv_net.specs.declared.parts.NetParts.{NetParts}
use Rattle.mv_net.specs.declared.search.Way.{Way}
use Rattle.mv_net.specs.declared.search.Way.TheVariants.{Down, Up}
use Rattle.mv_net.specs.Nets.{slot, reads_in}
use Rattle.mv_net.specs.Formed.{WellFormed}
use Rattle.mv_net.specs.Index.{is_held}
use Rattle.mv_net.specs.Window.{Lists, IsStepsAbove, IsAtMostAbove, IsAround}
use Rattle.mv_net.specs.Searching.{leads, LedFrom, Reached, HasExactly, HasAdded, HasAll}
use Rattle.mv_net.proofs.Known.{reads_readable}
use Rattle.mv_net.proofs.Reaching.{reached_up, reader_held}

-- ---- a list of found nets, sorted

pub lists_sorted : (Claim : ℕ → Type 0) (ns list : List NetId) → HasExactly Claim ns → IsAscending (has_id ns) list → Lists Claim list
lists_sorted Claim ns list h is = record {
  ascending = is.ascending;
  members = λ m. (λ e. (h.members m).0 (sym (is.members m) ∙ e), λ p. is.members m ∙ (h.members m).1 p);
}

-- ---- all nets below a net, and all above one

-- steps lead on to where a step leads
led_more : (nets : List (Option FlatNet)) (way : Way) (n k m : ℕ) → leads nets way k m ≡ true → LedFrom nets way n k → LedFrom nets way n m
led_more nets Down n k m h l = above_first (reads_in nets) m k n h l
led_more nets Up n k m h l = above_more (reads_in nets) n k m l h

led_once : (nets : List (Option FlatNet)) (way : Way) (n m : ℕ) → leads nets way n m ≡ true → LedFrom nets way n m
led_once nets Down n m h = record { path = []; goes = h }
led_once nets Up n m h = record { path = []; goes = h }

led_only : (nets : List (Option FlatNet)) (way : Way) (n : ℕ) (first : List NetId) → ((m : ℕ) → has_id first m ≡ true → leads nets way n m ≡ true) → (steps m : ℕ) → Reached nets way first steps m → LedFrom nets way n m
unfolding Reached
led_only nets way n first read zero m r = led_once nets way n m (read m r)
led_only nets way n first read (suc steps) m r =
    ⊎_elim
    (λ y. led_only nets way n first read steps m y)
    (λ w. led_more nets way n w.0 m w.2 (led_only nets way n first read steps w.0 w.1))
    r

below_all : (nets : List (Option FlatNet)) (n : ℕ) (first : List NetId) → ((m : ℕ) → reads_in nets m n ≡ true → has_id first m ≡ true) → (path : List ℕ) (m : ℕ) → GoesOn (reads_in nets) n m path → Reached nets Down first (length path) m
unfolding Reached
below_all nets n first has [] m g = has m g
below_all nets n first has (x ∷ path) m g = inr (x, below_all nets n first has path x g.1, g.0)

above_on : (nets : List (Option FlatNet)) (first : List NetId) (m : ℕ) (path : List ℕ) (k n : ℕ) → Reached nets Up first k n → GoesOn (reads_in nets) m n path → (steps : ℕ) × Reached nets Up first steps m
unfolding Reached
above_on nets first m [] k n r g = (suc k, inr (n, r, g))
above_on nets first m (x ∷ path) k n r g = above_on nets first m path (suc k) x (inr (n, r, g.0)) g.1

above_all : (nets : List (Option FlatNet)) (n : ℕ) (first : List NetId) → ((m : ℕ) → reads_in nets n m ≡ true → has_id first m ≡ true) → (path : List ℕ) (m : ℕ) → GoesOn (reads_in nets) m n path → (steps : ℕ) × Reached nets Up first steps m
unfolding Reached
above_all nets n first has [] m g = (0, has m g)
above_all nets n first has (x ∷ path) m g = above_on nets first m path 0 x (has x g.0) g.1

led_all : (nets : List (Option FlatNet)) (way : Way) (n : ℕ) (first : List NetId) → ((m : ℕ) → leads nets way n m ≡ true → has_id first m ≡ true) → (m : ℕ) → LedFrom nets way n m → (steps : ℕ) × Reached nets way first steps m
led_all nets Down n first has m p = (length p.path, below_all nets n first has p.path m p.goes)
led_all nets Up n first has m p = above_all nets n first has p.path m p.goes

pub led_exactly : (nets : List (Option FlatNet)) (way : Way) (n : ℕ) (next first list : List NetId) → IsAscending (leads nets way n) next → HasAdded [] next first → HasAll nets way first list → HasExactly (LedFrom nets way n) list
led_exactly nets way n next first list is a h =
    record {
      members = λ m. (
        λ e. let r = h.only m e in led_only nets way n first (λ k y. sym (is.members k) ∙ a.only k (ap (λ l. has_id l k) (sym a.listed) ∙ y)) r.0 m r.1,
        λ p. let r = led_all nets way n first (λ k y. a.all k (is.members k ∙ y)) m p in h.all r.0 m r.1,
      );
    }

last_read : (net : NetParts) (n : ℕ) → WellFormed net → (path : List ℕ) (m : ℕ) → GoesOn (reads_in net.nets) n m path → is_held net.nets n ≡ true
last_read net n formed [] m g = ap is_some (reads_readable net m n formed g).held
last_read net n formed (x ∷ path) m g = last_read net n formed path x g.1

-- below a number that isn't held there is nothing
pub below_none : (net : NetParts) (n : ℕ) → WellFormed net → is_held net.nets n ≡ false → Lists (IsAbove (reads_in net.nets) n) []
below_none net n formed none = record {
  ascending = refl;
  members = λ m. (λ e. absurd (false≢true e), λ p. absurd (false≢true (sym none ∙ last_read net n formed p.path m p.goes)));
}

first_reads : (nets : List (Option FlatNet)) (n m : ℕ) (path : List ℕ) → GoesOn (reads_in nets) m n path → is_held nets n ≡ true
first_reads nets n m [] g = reader_held (slot nets n) m g
first_reads nets n m (x ∷ path) g = reader_held (slot nets n) x g.0

-- above a number that isn't held there is nothing
pub above_none : (nets : List (Option FlatNet)) (n : ℕ) → is_held nets n ≡ false → Lists (λ m. IsAbove (reads_in nets) m n) []
above_none nets n none = record {
  ascending = refl;
  members = λ m. (λ e. absurd (false≢true e), λ p. absurd (false≢true (sym none ∙ first_reads nets n m p.path p.goes)));
}

-- ---- so many steps down

within_more : {N : Type 0} (reads : N → N → Bool) (steps : ℕ) (above n : N) → IsAtMostAbove reads steps above n → IsAtMostAbove reads (suc steps) above n
within_more reads steps above n w =
    ⊎_elim (λ (e : above ≡ n). inl e) (λ (p : IsStepsAbove reads steps above n). let s = p.short in inr (record { path = p.path; short = omega arith; goes = p.goes })) w

-- one step more at the near end
within_first : (reads : ℕ → ℕ → Bool) (steps above n m : ℕ) → reads n m ≡ true → IsAtMostAbove reads steps above m → IsAtMostAbove reads (suc steps) above n
within_first reads steps above n m h w =
    ⊎_elim
    (λ (e : above ≡ m). inr (record { path = []; short = omega arith; goes = ap (reads n) e ∙ h }))
    (λ (p : IsStepsAbove reads steps above m). let s = p.short in inr (record { path = m ∷ p.path; short = omega arith; goes = (h, p.goes) }))
    w

within_down : (nets : List (Option FlatNet)) (n : NetId) (steps m : ℕ) → Reached nets Down (n ∷ []) steps m → IsAtMostAbove (reads_in nets) steps n.0 m
unfolding Reached
within_down nets n zero m r =
    ⊎_elim (λ (y : nat_eq n.0 m ≡ true). inl (eqb-true n.0 m y)) (λ (y : false ≡ true). absurd (false≢true y)) (or_cases (nat_eq n.0 m) false r)
within_down nets n (suc steps) m r =
    ⊎_elim
    (λ y. within_more (reads_in nets) steps n.0 m (within_down nets n steps m y))
    (λ w. within_first (reads_in nets) steps n.0 m w.0 w.2 (within_down nets n steps w.0 w.1))
    r

first_down : (nets : List (Option FlatNet)) (n : NetId) → Reached nets Down (n ∷ []) 0 n.0
unfolding Reached
first_down nets n = or_left (nat_eq n.0 n.0) false (eq-eqb n.0 n.0 refl)

down_path : (nets : List (Option FlatNet)) (n : NetId) (path : List ℕ) (m : ℕ) → GoesOn (reads_in nets) n.0 m path → Reached nets Down (n ∷ []) (suc (length path)) m
unfolding Reached
down_path nets n [] m g = inr (n.0, first_down nets n, g)
down_path nets n (x ∷ path) m g = inr (x, down_path nets n path x g.1, g.0)

down_within : (nets : List (Option FlatNet)) (n : NetId) (steps m : ℕ) → IsAtMostAbove (reads_in nets) steps n.0 m → Reached nets Down (n ∷ []) steps m
down_within nets n steps m w =
    ⊎_elim
    (λ (e : n.0 ≡ m). subst (Reached nets Down (n ∷ []) steps) e (reached_up nets Down (n ∷ []) 0 steps n.0 (omega arith) (first_down nets n)))
    (λ (p : IsStepsAbove (reads_in nets) steps n.0 m). let s = p.short in reached_up nets Down (n ∷ []) (suc (length p.path)) steps m (omega arith) (down_path nets n p.path m p.goes))
    w

-- ---- so many steps up

-- one step more at the far end
within_last : (reads : ℕ → ℕ → Bool) (steps above n m : ℕ) → reads above m ≡ true → IsAtMostAbove reads steps above n → IsAtMostAbove reads (suc steps) m n
within_last reads steps above n m h w =
    ⊎_elim
    (λ (e : above ≡ n). inr (record { path = []; short = omega arith; goes = ap (λ k. reads k m) (sym e) ∙ h }))
    (λ (p : IsStepsAbove reads steps above n).
    let s = p.short in
    inr (record { path = p.path ++ above ∷ []; short = omega (arith, length-append p.path (above ∷ [])); goes = goes_more reads n above m p.path p.goes h }))
    w

-- m is within so many steps above one of these nets
record IsOver (nets : List (Option FlatNet)) (first : List NetId) (steps m : ℕ) : Type 0 where
  net : ℕ
  has : has_id first net ≡ true
  within : IsAtMostAbove (reads_in nets) steps m net

within_up : (nets : List (Option FlatNet)) (first : List NetId) (steps m : ℕ) → Reached nets Up first steps m → IsOver nets first steps m
unfolding Reached
within_up nets first zero m r = record { net = m; has = r; within = inl refl }
within_up nets first (suc steps) m r =
    ⊎_elim
    (λ y. let o = within_up nets first steps m y in record { net = o.net; has = o.has; within = within_more (reads_in nets) steps m o.net o.within })
    (λ w. let o = within_up nets first steps w.0 w.1 in record { net = o.net; has = o.has; within = within_last (reads_in nets) steps w.0 o.net m w.2 o.within })
    r

up_step : (nets : List (Option FlatNet)) (first : List NetId) (k n m : ℕ) → Reached nets Up first k n → reads_in nets n m ≡ true → Reached nets Up first (suc k) m
unfolding Reached
up_step nets first k n m r h = inr (n, r, h)

up_path : (nets : List (Option FlatNet)) (first : List NetId) (m : ℕ) (path : List ℕ) (k steps n : ℕ) → k + length path < steps → Reached nets Up first k n → GoesOn (reads_in nets) m n path → Reached nets Up first steps m
up_path nets first m [] k steps n low r g = reached_up nets Up first (suc k) steps m (omega arith) (up_step nets first k n m r g)
up_path nets first m (x ∷ path) k steps n low r g = up_path nets first m path (suc k) steps x (omega arith) (up_step nets first k n x r g.0) g.1

first_up : (nets : List (Option FlatNet)) (first : List NetId) (n : ℕ) → has_id first n ≡ true → Reached nets Up first 0 n
unfolding Reached
first_up nets first n h = h

up_within : (nets : List (Option FlatNet)) (first : List NetId) (steps n m : ℕ) → has_id first n ≡ true → IsAtMostAbove (reads_in nets) steps m n → Reached nets Up first steps m
up_within nets first steps n m h w =
    ⊎_elim
    (λ (e : m ≡ n). subst (Reached nets Up first steps) (sym e) (reached_up nets Up first 0 steps n (omega arith) (first_up nets first n h)))
    (λ (p : IsStepsAbove (reads_in nets) steps m n). let s = p.short in up_path nets first m p.path 0 steps n (omega arith) (first_up nets first n h) p.goes)
    w

-- ---- first down, then up

pub around_exactly : (nets : List (Option FlatNet)) (n : NetId) (d u : ℕ) (low list : List NetId) → HasExactly (Reached nets Down (n ∷ []) d) low → HasExactly (Reached nets Up low u) list → HasExactly (IsAround nets n.0 d u) list
around_exactly nets n d u low list down up = record {
  members = λ m. (
    λ e.
        let o = within_up nets low u m ((up.members m).0 e) in
        record { net = o.net; below = within_down nets n d o.net ((down.members o.net).0 o.has); above = o.within },
    λ a. (up.members m).1 (up_within nets low u a.net m ((down.members a.net).1 (down_within nets n d a.net a.below)) a.above),
  );
}
