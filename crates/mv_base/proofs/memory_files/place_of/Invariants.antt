use Rattle.std.proofs.Common.{◌≡◌, map, drop}
use Rattle.mv_base.specs.Outside.{file_named}
use Rattle.mv_base.specs.Entries.{entry_of}
use Rattle.mv_base.proofs.memory_files.place_of.Given as goal

abbrev pub invariant-loop-place : goal.invariant-loop-place
invariant-loop-place l = file_named l.name (drop l.place (map entry_of l.files)) ≡ file_named l.name (map entry_of l.files)
