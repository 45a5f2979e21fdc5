-- Nets of a well-formed network that are held, and the fanins of its tables.
use Rattle.std.proofs.Common.{◌≡◌, ◌∙◌, ℕ, zero, suc, ◌<◌, true, nat_eq, Some, List, [], ◌∷◌, length, get_or, is_some, IsTrue, refl, sym, ap, subst, eq-eqb, arith}
use Rattle.std.proofs.lemmas.Bool.{or_left, or_right}
use Rattle.mv_base.specs.declared.number.NetId.{NetId}
use Rattle.mv_cover.specs.declared.line.Line.{Line}
use Rattle.mv_cover.specs.declared.cover.Cover.{Cover}
use Rattle.mv_cover.specs.Covers.{cube_reads, lines_read, cover_reads}
use Rattle.mv_net.specs.declared.parts.FlatLatch.{FlatLatch}
use Rattle.mv_net.specs.declared.parts.NetParts.{NetParts}
use Rattle.mv_net.specs.Nets.{slot, table_in, table_reads, net_reads}
use Rattle.mv_net.specs.Formed.{AllLatches, WellFormed}
use Rattle.mv_net.specs.Index.{is_held}
use Rattle.mv_graph.specs.Nets.{has_id, IsAscending}
use Rattle.mv_graph.proofs.Nets.{IsAscending-same}
use Rattle.mv_net.proofs.Known.{reads_readable, readable_below}
use Rattle.mv_text.specs.Text.{fanins_of, numbers}
use Rattle.mv_write.specs.Walk.{AreFaninsOf, AreHeld}
use Rattle.mv_text.proofs.Resets.{latch-at}
use Rattle.mv_write.proofs.Ascending.{numbers-ascending}

-- each element of a list stands in it
pub has-at : (list : List NetId) (i : ℕ) → i < length list → has_id list (get_or list i (record { 0 = 0 })).0 ≡ true
has-at [] i low = absurd (omega arith)
has-at (n ∷ ns) zero low = or_left (nat_eq n.0 n.0) (has_id ns n.0) (eq-eqb n.0 n.0 refl)
has-at (n ∷ ns) (suc i) low =
    or_right (nat_eq n.0 (get_or ns i (record { 0 = 0 })).0) (has_id ns (get_or ns i (record { 0 = 0 })).0) (has-at ns i (omega arith))

pub inputs-held : (net : NetParts) (list : List NetId) → WellFormed net → list ≡ net.inputs → AreHeld net.nets list
inputs-held net list formed e =
    let P : List NetId → Type 0 = λ l. AreHeld net.nets l in
    subst P (sym e) (record { each = λ m h. ap is_some (formed.inputs.only (record { 0 = m }) h).held })

pub outputs-held : (net : NetParts) (list : List NetId) → WellFormed net → list ≡ net.outputs → AreHeld net.nets list
outputs-held net list formed e =
    let P : List NetId → Type 0 = λ l. AreHeld net.nets l in
    subst P (sym e) (record { each = λ m h. ap is_some (formed.outputs (record { 0 = m }) h).held })

pub fanins-held : (net : NetParts) (n : ℕ) (fanins : List NetId) → WellFormed net → IsAscending (λ m. net_reads (slot net.nets n) m) fanins → AreHeld net.nets fanins
fanins-held net n fanins formed a = record {
  each = λ m h. ap is_some (reads_readable net n m formed (sym (a.members m) ∙ h)).held;
}

-- the input and the output of each latch
pub latch-ends-held : (net : NetParts) (ls : List FlatLatch) (i : ℕ) (d : FlatLatch) → WellFormed net → ls ≡ net.latches → i < length ls → IsTrue (is_held net.nets (get_or ls i d).input.0) × IsTrue (is_held net.nets (get_or ls i d).output.0)
latch-ends-held net ls i d formed e low =
    let all : AllLatches net.nets ls = subst (AllLatches net.nets) (sym e) formed.latches in
    let is = latch-at net.nets ls i d low all in
    (ap is_some is.input.held, ap is_some is.output.held)

-- the fanins of a net are those of its table
pub fanins-table : (net : NetParts) (n : ℕ) (fanins : List NetId) (c : Cover) (lines : List Line) → table_in (slot net.nets n) ≡ Some c → lines ≡ c.lines → IsAscending (λ m. net_reads (slot net.nets n) m) fanins → IsAscending (lines_read lines) fanins
fanins-table net n fanins c lines e same a =
    IsAscending-same (λ m. net_reads (slot net.nets n) m) (lines_read lines) fanins (λ m. ap (λ t. table_reads t m) e ∙ ap (λ ls. lines_read ls m) (sym same)) a

pub fanins-are : (net : NetParts) (n : ℕ) (fanins : List NetId) (c : Cover) → WellFormed net → table_in (slot net.nets n) ≡ Some c → IsAscending (λ m. net_reads (slot net.nets n) m) fanins → numbers fanins ≡ fanins_of (length net.nets) c
fanins-are net n fanins c formed e a =
    numbers-ascending (λ m. cover_reads c m) (length net.nets) fanins (fanins-table net n fanins c c.lines e refl a) (λ m h. readable_below net.nets m (reads_readable net n m formed (ap (λ t. table_reads t m) e ∙ h)))

-- the nets of one line are among the fanins of all
line-reads : (lines : List Line) (i : ℕ) (x : Line) (m : ℕ) → i < length lines → x ≡ get_or lines i x → cube_reads x.cube m ≡ true → lines_read lines m ≡ true
line-reads [] i x m low is h = absurd (omega arith)
line-reads (l ∷ ls) zero x m low is h =
    let P : Line → Type 0 = λ y. cube_reads y.cube m ≡ true in
    or_left (cube_reads l.cube m) (lines_read ls m) (subst P is h)
line-reads (l ∷ ls) (suc i) x m low is h =
    or_right (cube_reads l.cube m) (lines_read ls m) (line-reads ls i x m (omega arith) is h)

pub line-fanins : (lines : List Line) (i : ℕ) (x : Line) (fanins : List NetId) → i < length lines → x ≡ get_or lines i x → IsAscending (lines_read lines) fanins → AreFaninsOf x.cube fanins
line-fanins lines i x fanins low is a = record {
  ascending = a.ascending;
  among = λ m h. a.members m ∙ line-reads lines i x m low is h;
}
