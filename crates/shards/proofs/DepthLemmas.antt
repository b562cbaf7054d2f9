-- How deep partial answers nest.
use Rattle.std.proofs.Common.{◌≤◌, ◌≡◌, ℕ, suc, List, [], ◌∷◌, None, Some, arith}
use Rattle.std.specs.List.{AllZip}
use Rattle.std.specs.Option.{option_to_list}
use Rattle.std.specs.Prelude.{Ok, Err}
use Rattle.serde_json.specs.Data.{Data, depth, items_depth, string}
use Rattle.serde_json.specs.Read.{max_depth}
use Rattle.serde_json.specs.View.{items_of}
use Rattle.aggs.specs.declared.kept.Kept.{Kept}
use Rattle.aggs.specs.declared.kept.Kept.TheVariants as kept
use Rattle.cells.specs.declared.cell.Cell.{Cell}
use Rattle.cells.specs.declared.cell.Cell.TheVariants.{Int, Null, Text}
use Rattle.groups.specs.Told.{GroupValue}
use Rattle.partials.specs.Spelling.{SpellsCell, SpellsCount, SpellsGroup, SpellsKept, SpellsKeptBehind, SpellsList, SpellsPair, SpellsSet, SpellsSum, word_of}
use Rattle.script.specs.declared.fault.Fault.{Fault}
use Rattle.script.specs.declared.fault.Fault.TheVariants.{Line, Part}
use Rattle.shards.specs.Documents.{DocumentValue, LineValue, SpellsDocument, SpellsFault, SpellsLine}

-- no value of this kind nests deeper
abbrev IsWithin : ℕ → (Data → Type 0) → Type 0
IsWithin k Spells = (d : Data) → Spells d → depth d ≤ k

items_within : {X : Type 0} (R : X → Data → Type 0) (k : ℕ) → ((x : X) → IsWithin k (R x)) → (xs : List X) (ds : List Data) → AllZip R xs ds → items_depth (items_of ds) ≤ k
items_within R k each [] [] zip = omega arith
items_within R k each [] (d ∷ ds) zip = absurd zip
items_within R k each (x ∷ xs) [] zip = absurd zip
items_within R k each (x ∷ xs) (d ∷ ds) zip = let one = each x d zip.0 in let more = items_within R k each xs ds zip.1 in omega (arith, one, more)

list_within : {X : Type 0} (R : X → Data → Type 0) (k : ℕ) → ((x : X) → IsWithin k (R x)) → (xs : List X) → IsWithin (suc k) (SpellsList R xs)
list_within R k each xs d spells = rw spells.is (let all = items_within R k each xs spells.items spells.each in omega (arith, all))

pair_within : (A B : Data → Type 0) (k : ℕ) → IsWithin k A → IsWithin k B → IsWithin (suc k) (SpellsPair A B)
pair_within A B k a b d spells = rw spells.is (let one = a spells.first spells.is_first in let two = b spells.second spells.is_second in omega (arith, one, two))

word_within : (k : ℕ) (word : List ℕ) → IsWithin k (λ d. d ≡ string word)
word_within k word d is = rw is (omega arith)

count_within : (k n : ℕ) → IsWithin k (SpellsCount n)
count_within k n d is = rw is (omega arith)

cell_within : (k : ℕ) (c : Cell) → IsWithin k (SpellsCell c)
cell_within k Null d is = rw is (omega arith)
cell_within k (Int n) d is = rw is.0 (omega arith)
cell_within k (Text t) d is = rw is (omega arith)

behind_within : (e : Kept) → IsWithin 1 (SpellsKeptBehind e)
behind_within (kept.Count n) d spells = count_within 1 n d spells
behind_within (kept.Different cells) d spells = list_within SpellsCell 0 (cell_within 0) cells d spells
behind_within (kept.Sum sum integers) d spells = pair_within (SpellsSum sum) (SpellsCount integers) 0 (λ d is. rw is.0 (omega arith)) (count_within 0 integers) d spells
behind_within (kept.Extreme cell) d spells = list_within SpellsCell 0 (cell_within 0) (option_to_list cell) d spells

kept_within : (e : Kept) → IsWithin 2 (SpellsKept e)
kept_within e d spells = pair_within _ (SpellsKeptBehind e) 1 (word_within 1 (word_of e)) (behind_within e) d spells

group_within : (g : GroupValue) → IsWithin 4 (SpellsGroup g)
group_within g d spells = pair_within (SpellsList SpellsCell g.tuple) (SpellsList SpellsKept g.kept) 3 (list_within SpellsCell 2 (cell_within 2) g.tuple) (list_within SpellsKept 2 kept_within g.kept) d spells

fault_within : (fault : Fault) → IsWithin 6 (SpellsFault fault)
fault_within (Line rule) d spells = pair_within _ (SpellsCount _) 5 (word_within 5 _) (count_within 5 _) d spells
fault_within (Part part entry) d spells = pair_within _ (SpellsPair (SpellsCount part) (SpellsCount entry)) 5 (word_within 5 _) (pair_within (SpellsCount part) (SpellsCount entry) 4 (count_within 4 part) (count_within 4 entry)) d spells

line_within : (line : LineValue) → IsWithin 7 (SpellsLine line)
line_within None d is = rw is (omega arith)
line_within (Some (Err fault)) d spells = pair_within _ (SpellsFault fault) 6 (word_within 6 _) (fault_within fault) d spells
line_within (Some (Ok sets)) d spells = pair_within _ (SpellsList SpellsSet sets) 6 (word_within 6 _) (list_within SpellsSet 5 (λ groups. list_within SpellsGroup 4 group_within groups) sets) d spells

pub document_within : (it : DocumentValue) (d : Data) → SpellsDocument it d → depth d ≤ max_depth
document_within it d spells =
    let shards = list_within SpellsCount 0 (count_within 0) it.numbers spells.shards spells.is_shards in
    let told = list_within SpellsLine 7 line_within it.lines spells.told spells.is_told in
    let dividing = pair_within _ (SpellsCount it.count) 0 (word_within 0 _) (count_within 0 it.count) spells.dividing spells.is_dividing in
    rw spells.is (omega (arith, shards, told, dividing))
