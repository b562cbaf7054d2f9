use Rattle.std.proofs.Common.{ap, sym, ◌∙◌}
use Rattle.csv.specs.declared.parser.State.TheVariants as st
use Rattle.loader.specs.Cuts.{state_after}
use Rattle.loader.proofs.EndsLemmas.{marked_front, three_after}
use Rattle.loader.proofs.cutting.state_behind_mark.Goals as goal

pub returns-then-is_mark : goal.returns-then-is_mark
returns-then-is_mark c = ap (state_after st.StartRecord) (sym (marked_front c.args.bytes.now c.requires (sym c.is_mark.ensures ∙ c.if-is_mark.true)))

pub returns : goal.returns
returns c = three_after c.args.bytes.now _ _ _ c.requires (sym c.is_mark.ensures ∙ c.if-is_mark.false) c.after.ensures c.after-2.ensures c.after-3.ensures
