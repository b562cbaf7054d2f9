use Rattle.std.proofs.Common.{ap, ◌∙◌}
use Rattle.std.proofs.lemmas.Result.{IfOk-weaker}
use Rattle.serde_json.specs.View.{view}
use Rattle.shards.specs.Frames.{framed}
use Rattle.shards.proofs.DepthLemmas.{document_within}
use Rattle.shards.proofs.document.write.Goals as goal

pub returns : goal.returns
returns c = IfOk-weaker c.framed.result _ _
    (λ text is. record {
      body = c.in_ok-body.body.items;
      value = view c.in_ok-value.value;
      is = is ∙ ap framed c.as_slice.ensures.value;
      utf8 = c.in_ok-body.ensures.utf8;
      reads = c.in_ok-body.ensures.reads_back (document_within _ _ c.in_ok-value.ensures);
      spells = c.in_ok-value.ensures;
    })
    c.framed.ensures
