-- Tables of a simple form: one value at most, always the same value, and the value of another net.
use Rattle.std.specs.Prelude.{◌≡◌, ℕ, ◌<◌, ◌≤◌, nat_lt, Bool, Option, Some, None, List, [], ◌∷◌, All, Contains}
use Rattle.std.specs.List.{list_any}
use Rattle.mv_base.specs.Set.{one, has}
use Rattle.mv_base.specs.declared.number.NetId.{NetId}
use Rattle.mv_cover.specs.declared.line.Line.{Line}
use Rattle.mv_cover.specs.declared.cover.Cover.{Cover}
use Rattle.mv_cover.specs.Literal.{Lit}
use Rattle.mv_cover.specs.Plain.{IsPlainlyDeterministic}
use Rattle.mv_net.specs.declared.parts.FlatNet.{FlatNet}
use Rattle.mv_net.specs.Nets.{slot, values_in, table_in}

-- the net has a table that is plainly deterministic
pub record IsPlainNet (nets : List (Option FlatNet)) (n : ℕ) : Type 0 where
  pub cover : Cover
  pub table : table_in (slot nets n) ≡ Some cover
  pub plain : IsPlainlyDeterministic cover

-- the set that a line without literals gives
abbrev pub bare_set : List Lit → ℕ → Option ℕ
bare_set [] out = Some out
bare_set (l ∷ ls) out = None

-- the set that the lines and the default give everywhere: that of the only line, if it has no
-- literal, or the default where there is no line
abbrev pub steady_set : List Line → Option ℕ → Option ℕ
steady_set [] default = default
steady_set (l ∷ []) default = bare_set l.cube l.out
steady_set (l ∷ m ∷ ls) default = None

-- the net's table gives the value v alone: by its only line, which has no literal, or by its
-- default, and there is no line
pub record IsPlainConstant (nets : List (Option FlatNet)) (n v : ℕ) : Type 0 where
  pub cover : Cover
  pub table : table_in (slot nets n) ≡ Some cover
  pub gives : steady_set cover.lines cover.default ≡ Some (one v)

-- the line that gives the value v where the net m has it
abbrev pub copy_line : ℕ → ℕ → Line
copy_line m v = record { cube = record { net = record { 0 = m }; set = one v } ∷ []; out = one v }

-- a line that gives a value where the net m has it
pub record IsCopy (m : ℕ) (l : Line) : Type 0 where
  pub value : ℕ
  pub is : l ≡ copy_line m value

-- the net's table gives the value of the net m: it has no default, and a line for each of the
-- values, which both nets have, and at least two
pub record IsPlainBuffer (nets : List (Option FlatNet)) (n m : ℕ) : Type 0 where
  pub cover : Cover
  pub table : table_in (slot nets n) ≡ Some cover
  pub bare : cover.default ≡ None
  pub some : 2 ≤ values_in (slot nets n)
  pub same : values_in (slot nets m) ≡ values_in (slot nets n)
  pub only : All (IsCopy m) cover.lines
  pub every : (v : ℕ) → v < values_in (slot nets n) → Contains cover.lines (copy_line m v)

-- ---- what private functions alone cite

-- the net of the first literal
abbrev pub first_literal : List Lit → Option NetId
first_literal [] = None
first_literal (l ∷ ls) = Some l.net

-- the net of the first literal of the first line
abbrev pub first_net : List Line → Option NetId
first_net [] = None
first_net (l ∷ ls) = first_literal l.cube

-- some line gives the value
abbrev pub some_has : List Line → ℕ → Bool
some_has ls v = list_any (λ (l : Line). has l.out v) ls

-- the lines give the values of the net m: each gives one, and together they give the values below
-- the number
pub record AreCopies (values m : ℕ) (ls : List Line) : Type 0 where
  pub some : 2 ≤ values
  pub only : All (IsCopy m) ls
  pub every : (v : ℕ) → some_has ls v ≡ nat_lt v values
