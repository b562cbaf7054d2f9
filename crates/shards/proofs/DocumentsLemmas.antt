-- Partial answers as objects.
use Rattle.std.proofs.Common.{Bor, ◌≡◌, ◌∙◌, ℕ, List, Option, Some, ap, refl, sym}
use Rattle.std.proofs.lemmas.Option.{same_Some}
use Rattle.std.specs.Option.{option_map}
use Rattle.std.specs.Prelude.{codes}
use Rattle.serde_json.specs.Data.{Data, no_members, object, put, string}
use Rattle.serde_json.specs.Find.{as_str, get}
use Rattle.serde_json.specs.View.{view}
use Rattle.serde_json.specs.declared.value.Value.{Value}
use Rattle.partials.specs.Spelling.{SpellsCount, SpellsList}
use Rattle.shards.specs.Documents.{DocumentValue, LineValue, SpellsBehind, SpellsDocument, SpellsLine, division_word}
use Rattle.shards.specs.declared.division.Division.{Division}

-- a member that is found
pub member_is : (name : List ℕ) (d e : Data) (r : Option (Bor Value)) (x : Bor Value) → option_map (λ v. view v.now) r ≡ get name d → get name d ≡ Some e → r ≡ Some x → view x.now ≡ e
member_is name d e r x found there some = same_Some _ _ (sym (ap (option_map (λ v. view v.now)) some) ∙ found ∙ there)

-- a division that is read
pub divided : (r : Option (Division × ℕ)) (division other : Division) (count n : ℕ) → r ≡ Some (division, count) → r ≡ Some (other, n) → (division ≡ other) × (count ≡ n)
divided r division other count n is some = (let same = same_Some _ _ (sym is ∙ some) in ap (λ p. p.0) same, let same = same_Some _ _ (sym is ∙ some) in ap (λ p. p.1) same)

-- a text
pub text_is : (d : Data) (s : List ℕ) (r : Option (Bor (List ℕ))) (x : Bor (List ℕ)) → option_map (λ t. t.now) r ≡ as_str d → d ≡ string s → r ≡ Some x → x.now ≡ s
text_is d s r x found is some = same_Some _ _ (sym (ap (option_map (λ t. t.now)) some) ∙ found ∙ ap as_str is)

-- all of it
pub all_is : (it : DocumentValue) (script numbers : List ℕ) (division : Division) (count : ℕ) (lines : List LineValue) → script ≡ it.script → division ≡ it.division → count ≡ it.count → numbers ≡ it.numbers → lines ≡ it.lines →
    ◌≡◌ {A = DocumentValue} (record { script = script; division = division; count = count; numbers = numbers; lines = lines }) it
all_is it script numbers division count lines a b c d e = rw (a, b, c, d, e) refl

-- the object that spells it
pub object_spells : (it : DocumentValue) (v : Data) (dividing script shards told : Data) → SpellsBehind (division_word it.division) (SpellsCount it.count) dividing → script ≡ string it.script →
    SpellsList SpellsCount it.numbers shards → SpellsList SpellsLine it.lines told →
    v ≡ object (put (codes "told") told (put (codes "shards") shards (put (codes "script") script (put (codes "of") dividing no_members)))) → SpellsDocument it v
object_spells it v dividing script shards told a b c d is = record { dividing = dividing; shards = shards; told = told; is = is ∙ rw b refl; is_dividing = a; is_shards = c; is_told = d }
