use Rattle.std.proofs.Common.{◌∙◌, Some, ap, sym, subst}
use Rattle.std.specs.Prelude.{codes}
use Rattle.serde_json.specs.Find.{get}
use Rattle.serde_json.specs.View.{view}
use Rattle.partials.specs.Spelling.{SpellsCount, SpellsList}
use Rattle.shards.specs.Documents.{SpellsBehind, SpellsLine, division_word}
use Rattle.shards.proofs.DocumentsLemmas.{all_is, divided, member_is, text_is}
use Rattle.shards.proofs.ListsLemmas.{list_found, list_missed}
use Rattle.shards.proofs.document.document_of.Goals as goal

pub returns-in_default-division_in : goal.returns-in_default-division_in
returns-in_default-division_in c = λ it spells.
    let dividing = member_is (codes "of") (view c.args.value.now) spells.dividing c.get.result c.in-Some-Some-Some-Some.dividing c.get.ensures (ap (get (codes "of")) spells.is) c.in-Some-Some-Some-Some.is-0 in
    let read = c.division_in.ensures it.division it.count (subst (SpellsBehind (division_word it.division) (SpellsCount it.count)) (sym dividing) spells.is_dividing) in
    absurd (let never = sym c.in_default-division_in.is ∙ read in cc)

pub returns-in_default-2 : goal.returns-in_default-2
returns-in_default-2 c = λ it spells.
    let shards = member_is (codes "shards") (view c.args.value.now) spells.shards c.get-3.result c.in-Some-Some-Some-Some.shards c.get-3.ensures (ap (get (codes "shards")) spells.is) c.in-Some-Some-Some-Some.is-2 in
    absurd (list_missed c.in_ok-numbers.field-0 it.numbers (c.in_ok-numbers.ensures it.numbers (subst (SpellsList SpellsCount it.numbers) (sym shards) spells.is_shards)) c.in_default-2.is)

pub returns-in_default-3 : goal.returns-in_default-3
returns-in_default-3 c = λ it spells.
    let told = member_is (codes "told") (view c.args.value.now) spells.told c.get-4.result c.in-Some-Some-Some-Some.told c.get-4.ensures (ap (get (codes "told")) spells.is) c.in-Some-Some-Some-Some.is-3 in
    absurd (list_missed c.in_ok-lines.field-0 it.lines (c.in_ok-lines.ensures it.lines (subst (SpellsList SpellsLine it.lines) (sym told) spells.is_told)) c.in_default-3.is)

pub returns : goal.returns
returns c = λ it spells.
    let dividing = member_is (codes "of") (view c.args.value.now) spells.dividing c.get.result c.in-Some-Some-Some-Some.dividing c.get.ensures (ap (get (codes "of")) spells.is) c.in-Some-Some-Some-Some.is-0 in
    let both = divided c.division_in.result c.in-Some.division it.division c.in-Some.count it.count c.in-Some.is
    (c.division_in.ensures it.division it.count (subst (SpellsBehind (division_word it.division) (SpellsCount it.count)) (sym dividing) spells.is_dividing)) in
    let script = member_is (codes "script") (view c.args.value.now) _ c.get-2.result c.in-Some-Some-Some-Some.script c.get-2.ensures (ap (get (codes "script")) spells.is) c.in-Some-Some-Some-Some.is-1 in
    let shards = member_is (codes "shards") (view c.args.value.now) spells.shards c.get-3.result c.in-Some-Some-Some-Some.shards c.get-3.ensures (ap (get (codes "shards")) spells.is) c.in-Some-Some-Some-Some.is-2 in
    let told = member_is (codes "told") (view c.args.value.now) spells.told c.get-4.result c.in-Some-Some-Some-Some.told c.get-4.ensures (ap (get (codes "told")) spells.is) c.in-Some-Some-Some-Some.is-3 in
    let numbers = list_found c.in_ok-numbers.field-0 c.in-Some-2.numbers it.numbers (c.in_ok-numbers.ensures it.numbers (subst (SpellsList SpellsCount it.numbers) (sym shards) spells.is_shards)) c.in-Some-2.is in
    let lines = list_found c.in_ok-lines.field-0 c.in-Some-3.lines it.lines (c.in_ok-lines.ensures it.lines (subst (SpellsList SpellsLine it.lines) (sym told) spells.is_told)) c.in-Some-3.is in
    ap Some (all_is it _ _ _ _ _ (c.in_ok-script.ensures.ok ∙ text_is (view c.in-Some-Some-Some-Some.script.now) it.script c.as_str.result c.in-Some-as_str.script c.as_str.ensures script c.in-Some-as_str.is)
    both.0 both.1 numbers lines)
