-- The parts of a script, one after the other.
use Rattle.std.specs.Prelude.{◌≡◌, ℕ, ◌<◌, ◌+◌, ◌-◌, ◌==◌, if◌then◌else◌, List, [], ◌∷◌, ◌++◌, map, flat_map, reverse}
use Rattle.mv_base.specs.declared.limits.TheConstants.{MAX_SCRIPT_BRACES}
use Rattle.mv_script.specs.declared.part.Braces.{Braces}
use Rattle.mv_script.specs.declared.part.Braces.TheVariants.{Repeat as RepeatBraces, Better as BetterBraces}
use Rattle.mv_script.specs.declared.part.Part.{Part}
use Rattle.mv_script.specs.declared.part.PartKind.{PartKind}
use Rattle.mv_script.specs.declared.part.PartKind.TheVariants.{Do as DoPart, Open, Close}
use Rattle.mv_script.specs.declared.script.Script.{Script}
use Rattle.mv_script.specs.Scripts.{Items, End, Do, Repeat, Better, items_of}

-- the parts of items, in order
abbrev pub parts_of : Items → List PartKind
parts_of End = []
parts_of (Do command rest) = DoPart command ∷ parts_of rest
parts_of (Repeat times inside rest) = Open (RepeatBraces times) ∷ parts_of inside ++ Close
    ∷ parts_of rest
parts_of (Better inside rest) = Open BetterBraces ∷ parts_of inside ++ Close ∷ parts_of rest

-- what parts are, wherever they stand
abbrev pub kinds : List Part → List PartKind
kinds parts = map (λ (p : Part). p.kind) parts

-- ---- the items that stand in no braces

-- how many braces are open behind a part
abbrev pub depth_behind : PartKind → ℕ → ℕ
depth_behind (DoPart command) depth = depth
depth_behind (Open braces) depth = depth + 1
depth_behind Close depth = depth - 1

-- a part where no brace is open begins an item that stands in no braces
abbrev pub outside : Part → ℕ → List ℕ
outside p depth = if depth == 0 then p.place ∷ [] else []

-- the places of the items that stand in no braces, where so many braces are open before the parts
abbrev pub outermost : List Part → ℕ → List ℕ
outermost [] depth = []
outermost (p ∷ ps) depth = outside p depth ++ outermost ps (depth_behind p.kind depth)

-- ---- what private functions alone cite

-- the item with these braces, before others
abbrev pub braced : Braces → Items → Items → Items
braced (RepeatBraces times) inside rest = Repeat times inside rest
braced BetterBraces inside rest = Better inside rest

-- the parts of scripts of which each but the first stands behind a closing brace, the last one of
-- these first
abbrev pub spread : Items → List Script → List PartKind
spread inner outer = parts_of inner ++ flat_map (λ s. Close ∷ parts_of (items_of s)) (reverse outer)

-- a part may stand where so many braces are open: not too many, or at least one
abbrev pub MayStand : PartKind → ℕ → Type 0
MayStand (DoPart command) depth = Unit {0}
MayStand (Open braces) depth = depth < MAX_SCRIPT_BRACES
MayStand Close depth = 0 < depth

-- each closing brace closes one that is open, never are too many open, and none is at the end
abbrev pub IsBalanced : List PartKind → ℕ → Type 0
IsBalanced [] depth = depth ≡ 0
IsBalanced (k ∷ ks) depth = MayStand k depth × IsBalanced ks (depth_behind k depth)

-- a part may stand before others that close so many braces
abbrev pub CanStand : PartKind → ℕ → Type 0
CanStand (DoPart command) height = Unit {0}
CanStand (Open braces) height = 0 < height
CanStand Close height = Unit {0}

-- how many braces a part and those behind it close, where the latter close so many
abbrev pub height_before : PartKind → ℕ → ℕ
height_before (DoPart command) height = height
height_before (Open braces) height = height - 1
height_before Close height = height + 1
