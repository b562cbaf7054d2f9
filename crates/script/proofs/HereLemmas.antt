-- How far the output of a script is made, and the text of a report.
use Rattle.std.proofs.Common.{◌≡◌, ◌∙◌, ◌⊎◌, ℕ, ◌+◌, ◌<◌, ◌≤◌, Option, None, List, [], ◌∷◌, ◌++◌, inl, inr, length, refl, sym, ap, subst, append_assoc, arith}
use Rattle.std.proofs.lemmas.List.{append-nil, length-map}
use Rattle.std.specs.List.{AllByRecursion}
use Rattle.std.specs.Prelude.{Vec}
use Rattle.std.specs.Str.Lines.{lines}
use Rattle.std.specs.declared.alloc.Global.{Global}
use Rattle.board.specs.Editions.{Edition, Editions}
use Rattle.cells.specs.declared.cell.Cell.{Cell}
use Rattle.cells.specs.declared.refused.Refused.TheVariants.{Limit}
use Rattle.report.specs.Waiting.{Heads, IsReportText}
use Rattle.report.specs.declared.question.Question.{Question}
use Rattle.script.specs.Blocks.{Steps, WillBe}
use Rattle.script.specs.Desks.{IsBehind}
use Rattle.script.specs.Givens.{Givens, givens_in}
use Rattle.script.specs.Limits.{part_limit, script_limit}
use Rattle.script.specs.Output.{AreBlocks, IsOutput, Lines, line_first, no_line, of_lines, too_much}
use Rattle.script.specs.Spelling.{refusal}
use Rattle.script.specs.declared.block.Block.{Block}
use Rattle.script.specs.declared.fault.Fault.TheVariants.{Line}
use Rattle.script.specs.declared.manner.Manner.{Manner}

-- the lines before have this text: behind it, any blocks of the rest are the script's
pub record Made (hash : Cell → ℕ) (givens : Givens) (before rest script : Lines) (text : List ℕ) (desk : Option Editions) (number : ℕ) : Type 0 where
  pub blocks : (bytes : List ℕ) → AreBlocks hash givens before rest bytes → AreBlocks hash givens [] script (text ++ bytes)
  pub stands : IsBehind givens before desk
  pub number_is : number ≡ length before
  pub short : length before + length rest ≤ script_limit + 1
  pub narrow : AllByRecursion (λ line. length line ≤ script_limit) rest

pub made_start : (hash : Cell → ℕ) (givens : Givens) (script : Lines) (text : List ℕ) → text ≡ [] → length script ≤ script_limit + 1 → AllByRecursion (λ line. length line ≤ script_limit) script → Made hash givens [] script script text None 0
made_start hash givens script text none short narrow = record {
  blocks = λ bytes are. subst (λ t. AreBlocks hash givens [] script (t ++ bytes)) (sym none) are;
  stands = refl;
  number_is = refl;
  short = omega arith;
  narrow = narrow;
}

module _ (hash : Cell → ℕ) (givens : Givens) (before left script : Lines) (text : List ℕ) (desk : Option Editions) (number : ℕ) (made : Made hash givens before left script text desk number) where
  -- no line that is left is longer than a script may be
  pub narrow_left : (line : List ℕ) (rest : Lines) → left ≡ line ∷ rest → (length line ≤ script_limit) × AllByRecursion (λ l. length l ≤ script_limit) rest
  narrow_left line rest is = subst (AllByRecursion (λ l. length l ≤ script_limit)) is made.narrow

  -- one line more
  pub made_more : {H : Type 0} (line : List ℕ) (rest : Lines) (after : Option Editions) (block : Block H) (said new : List ℕ) → left ≡ line ∷ rest → Steps hash givens line (number + 1) desk after block →
      ((t : List ℕ) → WillBe block t → said ≡ t) → new ≡ text ++ said → Made hash givens (line ∷ before) rest script new after (number + 1)
  made_more line rest after block said new is steps says joined =
      let told = steps.foretells before made.stands (ap (λ n. n + 1) made.number_is) in
      let whole : new ≡ text ++ told.text = joined ∙ ap (λ t. text ++ t) (says told.text told.will) in
      record {
        blocks = λ bytes are.
            subst (AreBlocks hash givens [] script) (sym (append_assoc text told.text bytes) ∙ ap (λ t. t ++ bytes) (sym whole))
            (made.blocks (told.text ++ bytes) (subst (λ ls. AreBlocks hash givens before ls (told.text ++ bytes)) (sym is) (line_first told.text bytes told.is are)));
        stands = steps.stands before made.stands;
        number_is = omega (arith, made.number_is);
        short = omega (arith, made.short, ap length is);
        narrow = (narrow_left line rest is).1;
      }

  -- no line is left
  pub made_all : left ≡ [] → AreBlocks hash givens [] script text
  made_all is = subst (AreBlocks hash givens [] script) (append-nil text) (made.blocks [] (subst (λ ls. AreBlocks hash givens before ls []) (sym is) no_line))

-- the text of a report that begins so is the one that it will be
pub heads_so : (heading : List ℕ) (edition : Edition) (question : Question) (answer said text : List ℕ) → IsReportText edition.rows question answer → said ≡ heading ++ answer → Heads heading edition question text → said ≡ text
heads_so heading edition question answer said text is joined heads = joined ∙ ap (λ t. heading ++ t) (heads.has answer is) ∙ sym heads.joined

-- the output of a script with too many bytes, or of too many parts
pub too_much_here : (hash : Cell → ℕ) (manner : Manner) (limit : ℕ) (parts : List (Vec ℕ Global)) (script text : List ℕ) → (script_limit < length script) ⊎ (part_limit < length parts) →
    text ≡ refusal manner.form 0 (Line Limit) → IsOutput hash (givens_in manner limit parts) script text
too_much_here hash manner limit parts script text much is = subst (IsOutput hash (givens_in manner limit parts) script) (sym is) (too_much (
    elim much [ inl long ↦ inl long | inr many ↦ inr (omega (arith, many, length-map parts (λ (p : Vec ℕ Global). p.items))) ]
    ))

-- that of one which keeps the limits
pub within_here : (hash : Cell → ℕ) (manner : Manner) (limit : ℕ) (parts : List (Vec ℕ Global)) (script text : List ℕ) → length script ≤ script_limit → length parts ≤ part_limit →
    AreBlocks hash (givens_in manner limit parts) [] (lines script) text → IsOutput hash (givens_in manner limit parts) script text
within_here hash manner limit parts script text short few are = of_lines short (omega (arith, few, length-map parts (λ (p : Vec ℕ Global). p.items))) are
