-- The blocks of lines, one after another: there are some, and no others.
use Rattle.std.proofs.Common.{◌≡◌, ◌⊎◌, ◌<◌, ◌≤◌, ℕ, Result, Ok, Err, List, [], ◌∷◌, ◌++◌, inl, inr, length, reverse, refl, sym, ap, ap₂, subst, ◌∙◌, append_assoc, arith}
use Rattle.std.proofs.lemmas.Bool.{cases_lt}
use Rattle.std.proofs.lemmas.Grind.{reverse_onto}
use Rattle.std.specs.Str.Lines.{lines}
use Rattle.cells.specs.declared.cell.Cell.{Cell}
use Rattle.cells.specs.declared.refused.Refused.TheVariants.{Limit}
use Rattle.script.specs.Deeds.{Declares, Deed, Loads, Nothing, Publishes, Reports, Shapes, Updates}
use Rattle.script.specs.Givens.{Givens}
use Rattle.script.specs.Limits.{part_limit, script_limit}
use Rattle.script.specs.Output.{AreBlocks, InThree, IsAnswer, IsBlock, IsOutput, IsTooMuch, Lines, deed_behind, line_first, no_line, of_lines, too_much}
use Rattle.script.specs.Spelling.{refusal}
use Rattle.script.specs.declared.fault.Fault.{Fault}
use Rattle.script.specs.declared.fault.Fault.TheVariants.{Line}
use Rattle.script.proofs.SaysLemmas.{EachAnswered, OneAnswer, one_report, some_report}

-- ---- each line has a block, and so each script an output

module _ (each : EachAnswered) (hash : Cell → ℕ) (givens : Givens) where
  pub some_answer : (before : Lines) (r : Result Deed Fault) → (bytes : List ℕ) × IsAnswer hash givens before r bytes
  some_answer before (Ok Nothing) = (_, refl)
  some_answer before (Ok (Declares t)) = (_, refl)
  some_answer before (Ok (Loads t listing)) = (_, refl)
  some_answer before (Ok (Updates us)) = (_, refl)
  some_answer before (Ok Publishes) = (_, refl)
  some_answer before (Ok (Reports t query)) = some_report each _ _ _ t _ query
  some_answer before (Ok Shapes) = (_, refl)
  some_answer before (Err fault) = (_, refl)

  pub some_blocks : (later before : Lines) → (bytes : List ℕ) × AreBlocks hash givens before later bytes
  some_blocks [] before = ([], no_line)
  some_blocks (line ∷ later) before =
      let (bytes, is) = some_answer before (deed_behind givens before line) in
      let (rest, are) = some_blocks later (line ∷ before) in
      (bytes ++ rest, line_first bytes rest is are)

  pub some_output : (script : List ℕ) → (bytes : List ℕ) × IsOutput hash givens script bytes
  some_output script = go (cases_lt script_limit (length script)) (cases_lt part_limit (length givens.parts)) where
    go : (script_limit < length script) ⊎ (length script ≤ script_limit) → (part_limit < length givens.parts) ⊎ (length givens.parts ≤ part_limit) → (bytes : List ℕ) × IsOutput hash givens script bytes
    go (inl long) few = (refusal givens.manner.form 0 (Line Limit), too_much (inl long))
    go (inr short) (inl many) = (refusal givens.manner.form 0 (Line Limit), too_much (inr many))
    go (inr short) (inr few) = let (bytes, are) = some_blocks (lines script) [] in (bytes, of_lines short few are)

-- ---- and no other

beyond : (givens : Givens) (script : List ℕ) → IsTooMuch givens script → length script ≤ script_limit → length givens.parts ≤ part_limit → ⊥
beyond givens script (inl long) short few = omega arith
beyond givens script (inr many) short few = omega arith

module _ (law : OneAnswer) where
  one_answer : (hash : Cell → ℕ) (givens : Givens) (before : Lines) (r : Result Deed Fault) (a b : List ℕ) → IsAnswer hash givens before r a → IsAnswer hash givens before r b → a ≡ b
  one_answer hash givens before (Ok Nothing) a b h k = h ∙ sym k
  one_answer hash givens before (Ok (Declares t)) a b h k = h ∙ sym k
  one_answer hash givens before (Ok (Loads t listing)) a b h k = h ∙ sym k
  one_answer hash givens before (Ok (Updates us)) a b h k = h ∙ sym k
  one_answer hash givens before (Ok Publishes) a b h k = h ∙ sym k
  one_answer hash givens before (Ok (Reports t query)) a b h k = one_report law _ _ _ t _ query a b h k
  one_answer hash givens before (Ok Shapes) a b h k = h ∙ sym k
  one_answer hash givens before (Err fault) a b h k = h ∙ sym k

  one_blocks : {hash : Cell → ℕ} {givens : Givens} {before later : Lines} {a b : List ℕ} → AreBlocks hash givens before later a → AreBlocks hash givens before later b → a ≡ b
  one_blocks no_line no_line = refl
  one_blocks {hash = hash} {givens = givens} (line_first {before = before} {line = line} x xs h hs) (line_first y ys k ks) =
      ap₂ (λ u v. u ++ v) (one_answer hash givens before (deed_behind givens before line) x y h k) (one_blocks hs ks)

  one_of : {hash : Cell → ℕ} {givens : Givens} {script a b : List ℕ} → IsOutput hash givens script a → IsOutput hash givens script b → a ≡ b
  one_of (too_much h) (too_much k) = refl
  one_of {givens = givens} {script = script} (too_much h) (of_lines short few ks) = absurd (beyond givens script h short few)
  one_of {givens = givens} {script = script} (of_lines short few hs) (too_much k) = absurd (beyond givens script k short few)
  one_of (of_lines s f hs) (of_lines t g ks) = one_blocks hs ks

  pub one_output : (hash : Cell → ℕ) (givens : Givens) (script bytes others : List ℕ) → IsOutput hash givens script bytes → IsOutput hash givens script others → bytes ≡ others
  one_output hash givens script bytes others h k = one_of h k

-- ---- the blocks of two lists of lines, one after the other

pub reversed_onto : (x : List ℕ) (xs before : Lines) → reverse xs ++ x ∷ before ≡ reverse (x ∷ xs) ++ before
reversed_onto x xs before = sym (rw (reverse_onto xs x []) (append_assoc (reverse xs) (x ∷ []) before))

-- the block of the first line, and those of the rest
record FirstApart (hash : Cell → ℕ) (givens : Givens) (before : Lines) (line : List ℕ) (later : Lines) (bytes : List ℕ) : Type 0 where
  block : List ℕ
  rest : List ℕ
  is : IsBlock hash givens before line block
  are : AreBlocks hash givens (line ∷ before) later rest
  joined : bytes ≡ block ++ rest

first_apart : {hash : Cell → ℕ} {givens : Givens} {before later : Lines} {line bytes : List ℕ} → AreBlocks hash givens before (line ∷ later) bytes → FirstApart hash givens before line later bytes
first_apart (line_first x rest h hs) = record { block = x; rest = rest; is = h; are = hs; joined = refl }

pub in_three : (earlier : Lines) (hash : Cell → ℕ) (givens : Givens) (before : Lines) (line : List ℕ) (later : Lines) (bytes : List ℕ) → AreBlocks hash givens before (earlier ++ line ∷ later) bytes →
    InThree (AreBlocks hash givens before earlier) (IsBlock hash givens (reverse earlier ++ before) line) (AreBlocks hash givens (line ∷ reverse earlier ++ before) later) bytes
in_three [] hash givens before line later bytes are =
    let p = first_apart are in
    record { first = []; second = p.block; third = p.rest; is_first = no_line; is_second = p.is; is_third = p.are; joined = p.joined }
in_three (x ∷ xs) hash givens before line later bytes are =
    let p = first_apart are in
    let q = in_three xs hash givens (x ∷ before) line later p.rest p.are in
    record {
      first = p.block ++ q.first;
      second = q.second;
      third = q.third;
      is_first = line_first p.block q.first p.is q.is_first;
      is_second = subst (λ ls. IsBlock hash givens ls line q.second) (reversed_onto x xs before) q.is_second;
      is_third = subst (λ ls. AreBlocks hash givens (line ∷ ls) later q.third) (reversed_onto x xs before) q.is_third;
      joined = p.joined ∙ ap (λ bs. p.block ++ bs) q.joined ∙ sym (append_assoc p.block q.first (q.second ++ q.third));
    }

-- only a shape's block tells hashes apart
pub answer_alike : (hash other : Cell → ℕ) (givens : Givens) (before : Lines) (r : Result Deed Fault) (bytes : List ℕ) → (r ≡ Ok Shapes → ⊥) → IsAnswer hash givens before r bytes → IsAnswer other givens before r bytes
answer_alike hash other givens before (Ok Nothing) bytes unlike is = is
answer_alike hash other givens before (Ok (Declares t)) bytes unlike is = is
answer_alike hash other givens before (Ok (Loads t listing)) bytes unlike is = is
answer_alike hash other givens before (Ok (Updates us)) bytes unlike is = is
answer_alike hash other givens before (Ok Publishes) bytes unlike is = is
answer_alike hash other givens before (Ok (Reports t query)) bytes unlike is = is
answer_alike hash other givens before (Ok Shapes) bytes unlike is = absurd (unlike refl)
answer_alike hash other givens before (Err fault) bytes unlike is = is
