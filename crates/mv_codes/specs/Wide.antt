-- Tables that are too wide.
use Rattle.mv_cover.specs.declared.cover.Cover.{Cover}
use Rattle.mv_composite.specs.Wide.{HasManyLines, HasManyFanins}

-- the table has more lines or fanins than one that a rule encodes may have
pub data IsTooWide (c : Cover) : Type 0 where
  ByLines : HasManyLines c.lines → IsTooWide c
  ByFanins : HasManyFanins c.lines → IsTooWide c
