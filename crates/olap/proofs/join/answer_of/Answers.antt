use Rattle.std.proofs.Common.{rules}
use Rattle.olap.proofs.join.answer_of.Goals as goal

pub returns-in-Ok-read : goal.returns-in-Ok-read
returns-in-Ok-read g c = record {
  text = c.in-Ok.text.items;
  told = search rules;
  is = λ held is_text. c.in-Ok-read.ensures held (rw c.as_slice.ensures.value is_text);
}
