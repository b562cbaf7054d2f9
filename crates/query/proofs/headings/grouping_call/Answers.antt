use Rattle.std.proofs.Common.{◌++◌, ap, ◌∙◌, [], ◌∷◌, refl}
use Rattle.std.specs.Prelude.{codes}
use Rattle.query.proofs.HeadingsLemmas.{heading_begins, heading_step, names_behind}
use Rattle.query.proofs.headings.grouping_call.Goals as goal

pub loop-name-init : goal.loop-name-init
loop-name-init c = record {
  text = ([], (refl, refl));
  written = ap (λ b. b ++ names_behind [] c.args.names.now ++ codes ")") c.in_ok-text.ensures.ok ∙ heading_begins c.args.names.now;
}

pub loop-name-preserved : goal.loop-name-preserved
unfolding lib.Utf8.encode
loop-name-preserved c = record {
  text = (44 ∷ 32 ∷ [], (refl, refl));
  written =
      heading_step c.args.names.now c.loop-name.name-index c.name-item.result _ c.loop-name.between.now _ _ c.as_str.result.now _ c.loop-name-test.true c.name-item.is
      c.in_ok-push_str.ensures.bytes c.in_ok-push_str-2.ensures.bytes c.as_str.ensures c.loop-name.invariant.written;
}
