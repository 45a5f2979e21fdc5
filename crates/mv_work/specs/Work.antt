-- The work network: what is drawn for its tables, and its text.
use Rattle.std.specs.Prelude.{ℕ, zero, suc, ◌+◌, ◌-◌, min, List, [], ◌∷◌, ◌++◌, length, map, replicate, fold, flat_map, slice_index}
use Rattle.std.specs.Prelude.{Option, Some, None, if◌then◌else◌, ◌==◌, nat_eq, nat_lt, codes, decimal}
use Rattle.std.specs.List.{list_any, range_with_len}
use Rattle.rand_pcg.specs.Lcg.{Lcg}
use Rattle.mv_work.specs.Drawing.{Drawn, given, generator, draw, several, each}

-- The nets stand at places: 16 inputs from place 0 on, and then a net for each table.

-- a row: for each fanin a value, or none where each fits; a value of the output, and a second one
-- or none
pub record Row : Type 0 where
  pub entries : List (Option ℕ)
  pub value : ℕ
  pub second : Option ℕ

-- a table: the place of its net and how many values that has, the places of its fanins, its
-- default, its rows
pub record Table : Type 0 where
  pub place : ℕ
  pub values : ℕ
  pub fanins : List ℕ
  pub default : ℕ
  pub rows : List Row

-- ---- what is drawn

-- one of the last 32 of so many nets, or of them all if they are fewer
unfoldable pub fanin_drawn : ℕ → Lcg → Drawn ℕ
fanin_drawn nets g =
    let back = draw (min nets 32) g in
    record { value = nets - 1 - back.value; rest = back.rest }

-- these, and the place if it isn't among them
abbrev pub with_place : List ℕ → ℕ → List ℕ
with_place places p = if list_any (λ q. nat_eq q p) places then places else places ++ p ∷ []

-- three fanins, of which one that repeats an earlier one is left out
unfoldable pub fanins_drawn : ℕ → Lcg → Drawn (List ℕ)
fanins_drawn nets g =
    let places = several (fanin_drawn nets) 3 g in
    record { value = fold with_place [] places.value; rest = places.rest }

-- one of so many values, or none, at equal odds
unfoldable pub entry_drawn : ℕ → Lcg → Drawn (Option ℕ)
entry_drawn values g =
    let coin = draw 2 g in
    let entry = draw values coin.rest in
    if coin.value == 0 then record { value = Some entry.value; rest = entry.rest }
    else given None coin.rest

-- one time in sixteen one of so many values, but none where it is the first value again
unfoldable pub second_drawn : ℕ → ℕ → Lcg → Drawn (Option ℕ)
second_drawn values first g =
    let chance = draw 16 g in
    let second = draw values chance.rest in
    if chance.value == 0
    then record {
      value = if second.value == first then None
          else Some second.value;
      rest = second.rest;
    }
    else given None chance.rest

-- a row: entries for fanins with these numbers of values, and one or two of so many values of the
-- output
unfoldable pub row_drawn : List ℕ → ℕ → Lcg → Drawn Row
row_drawn counts values g =
    let entries = each entry_drawn counts g in
    let value = draw values entries.rest in
    let second = second_drawn values value.value value.rest in
    record {
      value =
          record { entries = entries.value; value = value.value; second = second.value };
      rest = second.rest;
    }

-- a table behind nets that have these numbers of values: it has two to four values and two to four
-- rows
unfoldable pub table_drawn : List ℕ → Lcg → Drawn Table
table_drawn counts g =
    let more = draw 3 g in
    let values = 2 + more.value in
    let fanins = fanins_drawn (length counts) more.rest in
    let default = draw values fanins.rest in
    let size = draw 3 default.rest in
    let rows = several (row_drawn (map (slice_index counts) fanins.value) values)
    (2 + size.value) size.rest in
    record {
      value = record {
        place = length counts;
        values = values;
        fanins = fanins.value;
        default = default.value;
        rows = rows.value;
      };
      rest = rows.rest;
    }

-- how many values each net has: the inputs two, the others as their tables say
abbrev pub counts_of : List Table → List ℕ
counts_of tables = replicate 16 2 ++ map (λ t. t.values) tables

-- so many tables: all but the last, and then the last
unfoldable pub tables_drawn : ℕ → Lcg → Drawn (List Table)
tables_drawn zero g = given [] g
tables_drawn (suc n) g =
    let before = tables_drawn n g in
    let last = table_drawn (counts_of before.value) before.rest in
    record { value = before.value ++ last.value ∷ []; rest = last.rest }

-- ---- their text

-- i0 to i15 for the inputs, and then g0, g1 and so on
unfoldable pub net_name : ℕ → List ℕ
net_name place = if nat_lt place 16 then codes "i" ++ decimal place
    else codes "g" ++ decimal (place - 16)

-- the names of the nets at these places, each behind a blank
abbrev pub names_text : List ℕ → List ℕ
names_text places = flat_map (λ p. 32 ∷ net_name p) places

-- an entry of a row, before a blank
unfoldable pub entry_text : Option ℕ → List ℕ
entry_text None = codes "- "
entry_text (Some v) = decimal v ++ codes " "

-- the output of a row: the value, or both in brackets
unfoldable pub output_text : ℕ → Option ℕ → List ℕ
output_text v None = decimal v
output_text v (Some w) = codes "(" ++ decimal v ++ codes "," ++ decimal w ++ codes ")"

-- the line of a row
unfoldable pub row_text : Row → List ℕ
row_text r = flat_map entry_text r.entries ++ output_text r.value r.second ++ codes "\n"

-- the line that says how many values a net has, if they aren't two
unfoldable pub count_text : ℕ → ℕ → List ℕ
count_text place values =
    if values == 2 then []
    else codes ".mv " ++ net_name place ++ codes " " ++ decimal values ++ codes "\n"

-- the line of a table's columns
unfoldable pub columns_text : ℕ → List ℕ → List ℕ
columns_text place fanins = codes ".table" ++ names_text fanins ++ codes " -> " ++ net_name place
    ++ codes "\n"

-- the line of a table's default
unfoldable pub default_text : ℕ → List ℕ
default_text value = codes ".default " ++ decimal value ++ codes "\n"

-- the lines of a table
unfoldable pub table_text : Table → List ℕ
table_text t =
    count_text t.place t.values ++ columns_text t.place t.fanins ++ default_text t.default
    ++ flat_map row_text t.rows

-- the first lines: the inputs, and as outputs the last eight of so many tables, or all of them if
-- they are fewer
unfoldable pub head_text : ℕ → List ℕ
head_text size =
    codes ".model work\n.inputs" ++ names_text (range_with_len 0 16)
    ++ codes "\n.outputs" ++ names_text (range_with_len (16 + (size - 8)) (min size 8))
    ++ codes "\n"

-- the text of the work network of so many tables that is drawn from a seed
unfoldable pub work_text : ℕ → ℕ → List ℕ
work_text size seed =
    head_text size ++ flat_map table_text (tables_drawn size (generator seed)).value
    ++ codes ".end\n"
