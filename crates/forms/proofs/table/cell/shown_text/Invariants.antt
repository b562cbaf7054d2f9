use Rattle.std.proofs.Common.{◌≡◌, ◌++◌}
use Rattle.std.specs.List.{flat_map}
use Rattle.std.specs.Str.{encode_utf8_all}
use Rattle.forms.specs.Escapes.{plain_char}
use Rattle.forms.proofs.table.cell.shown_text.Given as goal

abbrev pub invariant-loop-letter : goal.invariant-loop-letter
invariant-loop-letter l = record {
  read : encode_utf8_all l.yielded ++ l.letter-iterator.rest.now ≡ l.text;
  made : l.shown.items ≡ flat_map plain_char l.yielded;
}
