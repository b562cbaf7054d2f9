use Rattle.std.proofs.Common.{ap, subst, ◌∙◌}
use Rattle.std.proofs.lemmas.Result.{IfOk-weaker}
use Rattle.serde_json.specs.Data.{string}
use Rattle.serde_json.specs.View.{view}
use Rattle.partials.specs.Spelling.{SpellsCount, SpellsList}
use Rattle.shards.specs.Documents.{DocumentValue, SpellsBehind, SpellsLine, division_word}
use Rattle.shards.proofs.DocumentsLemmas.{object_spells}
use Rattle.shards.proofs.document.value_of.Goals as goal

pub returns : goal.returns
returns c = IfOk-weaker c.object_of.result _ _
    (λ v is. object_spells c.args.document.now (view v) _ _ _ _
    (subst (λ (d : DocumentValue). SpellsBehind (division_word d.division) (SpellsCount d.count) (view c.in_ok-dividing.dividing)) c.document.view_is c.in_ok-dividing.ensures)
    (c.in_ok-script.ensures ∙ ap string c.as_str.ensures.value ∙ ap (λ (d : DocumentValue). string d.script) c.document.view_is)
    (subst (λ ns. SpellsList SpellsCount ns (view c.in_ok-shards.shards)) (c.as_slice.ensures.value ∙ ap (λ (d : DocumentValue). d.numbers) c.document.view_is) c.in_ok-shards.ensures)
    (subst (λ ls. SpellsList SpellsLine ls (view c.in_ok-told.told)) (c.as_slice-2.ensures.value ∙ ap (λ (d : DocumentValue). d.lines) c.document.view_is) c.in_ok-told.ensures) is)
    c.object_of.ensures
