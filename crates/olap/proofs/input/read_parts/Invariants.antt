use Rattle.std.proofs.Common.{◌≡◌, ◌≤◌, length, map, take}
use Rattle.std.specs.List.{AllByRecursion}
use Rattle.std.specs.Prelude.{vec_capacity, vec_len}
use Rattle.olap.specs.Folders.{AreTold}
use Rattle.olap.proofs.input.read_parts.Given as goal

abbrev pub invariant-loop-name : goal.invariant-loop-name
invariant-loop-name g l = record {
  told : AreTold (g.F.Folder.file l.folder) (take l.name-index l.names) (map (λ p. p.items) l.parts.items);
  read : AllByRecursion (g.F.Folder.was_read l.folder) (take l.name-index l.names);
  count : vec_len l.parts ≡ l.name-index;
  room : length l.names ≤ vec_capacity l.parts;
}
