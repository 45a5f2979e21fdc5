-- What is known of a well-formed network.
use Rattle.std.proofs.Common.{◌≤◌, ◌≡◌, ◌∙◌, ℕ, ◌<◌, true, nat_eq, List, [], ◌∷◌, length, Option, Some, None, IsTrue, get_or, is_some, refl, sym, subst, ⊎_elim, eqb-true, arith, zero, suc, map}
use Rattle.std.proofs.lemmas.Bool.{or_cases, false≢true}
use Rattle.std.proofs.lemmas.List.{get_or_default}
use Rattle.mv_base.specs.declared.limits.TheConstants.{MAX_VALUES}
use Rattle.mv_base.specs.declared.number.NetId.{NetId}
use Rattle.mv_cover.specs.declared.cover.Cover.{Cover}
use Rattle.mv_cover.specs.Literal.{Lit}
use Rattle.mv_cover.specs.declared.line.Line.{Line}
use Rattle.mv_cover.specs.Covers.{cube_reads, lines_read}
use Rattle.mv_net.specs.declared.parts.FlatNet.{FlatNet}
use Rattle.mv_net.specs.declared.parts.FlatLatch.{FlatLatch}
use Rattle.mv_net.specs.declared.parts.NetParts.{NetParts}
use Rattle.mv_net.specs.Nets.{slot, values_in, net_reads, table_reads}
use Rattle.mv_net.specs.Formed.{IsReadable, AllLiterals, AllLines, AllLatches, IsNet, WellFormed}
use Rattle.mv_graph.specs.Nets.{has_id, row, AllBelow}
use Rattle.mv_net.specs.Index.{is_held, is_latch_input, AreFanins}
use Rattle.mv_net.specs.Names.{AreNamed}
use Rattle.mv_graph.proofs.Nets.{has_id-at}
use Rattle.mv_net.specs.Seen.{SeenAreHeld}
use Rattle.mv_net.proofs.Named.{held_below}

-- ---- what is read is held, and is no reset net

cube_readable : (nets : List (Option FlatNet)) (cube : List Lit) (n : ℕ) → AllLiterals nets cube → cube_reads cube n ≡ true → IsReadable nets n
cube_readable nets [] n all r = absurd (false≢true r)
cube_readable nets (l ∷ ls) n all r =
    ⊎_elim
    (λ (y : nat_eq l.net.0 n ≡ true). subst (IsReadable nets) (eqb-true l.net.0 n y) all.0.readable)
    (λ (rest : cube_reads ls n ≡ true). cube_readable nets ls n all.1 rest)
    (or_cases (nat_eq l.net.0 n) (cube_reads ls n) r)

pub lines_readable : (nets : List (Option FlatNet)) (values : ℕ) (ls : List Line) (n : ℕ) → AllLines nets values ls → lines_read ls n ≡ true → IsReadable nets n
lines_readable nets values [] n all r = absurd (false≢true r)
lines_readable nets values (l ∷ ls) n all r =
    ⊎_elim
    (λ (y : cube_reads l.cube n ≡ true). cube_readable nets l.cube n all.0 y)
    (λ (rest : lines_read ls n ≡ true). lines_readable nets values ls n all.2 rest)
    (or_cases (cube_reads l.cube n) (lines_read ls n) r)

pub reads_readable : (net : NetParts) (n m : ℕ) → WellFormed net → net_reads (slot net.nets n) m ≡ true → IsReadable net.nets m
reads_readable net n m formed r = by_slot (slot net.nets n) refl r
  where
    by_table : (f : FlatNet) (t : Option Cover) → IsNet net.nets f → f.table ≡ t → table_reads t m ≡ true → IsReadable net.nets m
    by_table f None is e reads = absurd (false≢true reads)
    by_table f (Some c) is e reads = lines_readable net.nets f.values c.lines m (is.cover c e).lines reads

    by_slot : (f : Option FlatNet) → slot net.nets n ≡ f → net_reads f m ≡ true → IsReadable net.nets m
    by_slot None e reads = absurd (false≢true reads)
    by_slot (Some f) e reads = by_table f f.table (formed.nets n f e) refl reads

-- a net that can be read is one of the numbers
pub readable_below : (nets : List (Option FlatNet)) (n : ℕ) → IsReadable nets n → n < length nets
readable_below nets n r = held_below nets n r.net r.held

held_some : (o : Option FlatNet) → IsTrue (is_some o) → (f : FlatNet) × (o ≡ Some f)
held_some None h = absurd (false≢true h)
held_some (Some f) h = (f, refl)

-- a held number is one of the numbers
pub is_held_below : (nets : List (Option FlatNet)) (n : ℕ) → IsTrue (is_held nets n) → n < length nets
is_held_below nets n h = let f = held_some (slot nets n) h in held_below nets n f.0 f.1

-- ---- what the kept lists need

-- each fanin is one of the numbers
pub fanins_below : (net : NetParts) (fanins : List (List NetId)) → WellFormed net → AreFanins net.nets fanins → AllBelow fanins
fanins_below net fanins formed f k d i j e l =
    let same : get_or fanins k d ≡ row fanins k = get_or_default fanins k d [] i in
    let n = (get_or (get_or fanins k d) j e).0 in
    let named : has_id (row fanins k) n ≡ true = rw (← same) (has_id-at (get_or fanins k d) j e l) in
    omega (arith, f.long, readable_below net.nets n (reads_readable net k n formed (sym ((f.each k).members n) ∙ named)))

pub are_named : (net : NetParts) → WellFormed net → AreNamed net.nets
are_named net formed = record { apart = formed.names }

inputs_readable : (nets : List (Option FlatNet)) (ls : List FlatLatch) (n : ℕ) → AllLatches nets ls → is_latch_input ls n ≡ true → IsReadable nets n
inputs_readable nets [] n all r = absurd (false≢true r)
inputs_readable nets (l ∷ ls) n all r =
    ⊎_elim
    (λ (y : nat_eq l.input.0 n ≡ true). subst (IsReadable nets) (eqb-true l.input.0 n y) all.0.input)
    (λ (rest : is_latch_input ls n ≡ true). inputs_readable nets ls n all.1 rest)
    (or_cases (nat_eq l.input.0 n) (is_latch_input ls n) r)

pub seen_are_held : (net : NetParts) → WellFormed net → SeenAreHeld net
seen_are_held net formed = record {
  outputs = λ n h. readable_below net.nets n (formed.outputs (record { 0 = n }) h);
  inputs = λ n h. readable_below net.nets n (inputs_readable net.nets net.latches n formed.latches h);
}

pub ruleset known = (are_named, seen_are_held)

-- ---- values

-- the number of values that is kept at a number
pub counts_at : (nets : List (Option FlatNet)) (n : ℕ) → get_or (map values_in nets) n 0 ≡ values_in (slot nets n)
counts_at [] n = refl
counts_at (f ∷ fs) zero = refl
counts_at (f ∷ fs) (suc n) = counts_at fs n

-- a net has at most so many values, and a held one has some
pub values_few : (net : NetParts) (n : ℕ) → WellFormed net → values_in (slot net.nets n) ≤ MAX_VALUES
values_few net n formed = by_slot (slot net.nets n) refl
  where
    by_slot : (f : Option FlatNet) → slot net.nets n ≡ f → values_in f ≤ MAX_VALUES
    by_slot None e = omega arith
    by_slot (Some f) e = (formed.nets n f e).few

pub values_some : (net : NetParts) (n : ℕ) → WellFormed net → IsTrue (is_held net.nets n) → 0 < values_in (slot net.nets n)
values_some net n formed held =
    let f = held_some (slot net.nets n) held in
    subst (λ (o : Option FlatNet). 0 < values_in o) (sym f.1) (formed.nets n f.0 f.1).some
