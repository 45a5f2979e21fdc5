-- The nets of a network, by number.
use Rattle.std.specs.Prelude.{ℕ, ◌+◌, Bool, true, false, Option, Some, None, List, [], ◌∷◌, slice_index_or, decimal, map}
use Rattle.std.specs.List.{range_with_len}
use Rattle.mv_base.specs.Meaning.{Port, LatchPort, Interface}
use Rattle.mv_base.specs.declared.number.NetId.{NetId}
use Rattle.mv_cover.specs.declared.cover.Cover.{Cover}
use Rattle.mv_cover.specs.Covers.{cover_reads, literal_count}
use Rattle.mv_net.specs.declared.parts.FlatNet.{FlatNet}
use Rattle.mv_net.specs.declared.parts.FlatLatch.{FlatLatch}
use Rattle.mv_net.specs.declared.parts.NetParts.{NetParts}

-- the net at a number, where one is held
abbrev pub slot : List (Option FlatNet) → ℕ → Option FlatNet
slot nets n = slice_index_or nets n None

-- the number of values of a net, and 0 where none is held
abbrev pub values_in : Option FlatNet → ℕ
values_in None = 0
values_in (Some f) = f.values

-- the name of a net
abbrev pub name_in : Option FlatNet → List ℕ
name_in None = []
name_in (Some f) = f.name

-- the table of a net
abbrev pub table_in : Option FlatNet → Option Cover
table_in None = None
table_in (Some f) = f.table

-- the table has a literal on n
abbrev pub table_reads : Option Cover → ℕ → Bool
table_reads None n = false
table_reads (Some c) n = cover_reads c n

-- the net reads n: its table has a literal on it
abbrev pub net_reads : Option FlatNet → ℕ → Bool
net_reads f n = table_reads (table_in f) n

-- of these nets, the one at n reads the one at m
abbrev pub reads_in : List (Option FlatNet) → ℕ → ℕ → Bool
reads_in nets n m = net_reads (slot nets n) m

-- the literals of all lines of a table
abbrev pub table_literals : Option Cover → ℕ
table_literals None = 0
table_literals (Some c) = literal_count c.lines

-- the literals of a network: those of all tables
abbrev pub literals_in : List (Option FlatNet) → ℕ
literals_in [] = 0
literals_in (f ∷ fs) = table_literals (table_in f) + literals_in fs

-- so many values as a file spells them: their names, or the numbers from 0
abbrev pub spelled_values : ℕ → List (List ℕ) → List (List ℕ)
spelled_values values [] = map decimal (range_with_len 0 values)
spelled_values values (w ∷ ws) = w ∷ ws

-- the values of a net as a file spells them
abbrev pub spelled_in : Option FlatNet → List (List ℕ)
spelled_in None = []
spelled_in (Some f) = spelled_values f.values f.value_names

-- what is seen from outside of an input or an output
abbrev pub port_of : List (Option FlatNet) → NetId → Port
port_of nets n = record { name = name_in (slot nets n.0); values = spelled_in (slot nets n.0) }

-- the latch has a reset net
abbrev pub has_reset : Option NetId → Bool
has_reset None = false
has_reset (Some n) = true

-- what is seen from outside of a latch
abbrev pub latch_port_of : List (Option FlatNet) → FlatLatch → LatchPort
latch_port_of nets l =
    record {
      name = name_in (slot nets l.output.0);
      values = spelled_in (slot nets l.output.0);
      has_reset = has_reset l.reset;
    }

-- what is seen of a network from outside
unfoldable pub interface_of : NetParts → Interface
interface_of net =
    record {
      inputs = map (port_of net.nets) net.inputs;
      outputs = map (port_of net.nets) net.outputs;
      latches = map (latch_port_of net.nets) net.latches;
    }
