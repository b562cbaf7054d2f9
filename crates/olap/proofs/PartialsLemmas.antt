-- Partial answers in files, joined one after another.
use Rattle.std.proofs.Common.{◌≡◌, ◌<◌, ◌+◌, ◌∙◌, ◌∷◌, ◌++◌, ℕ, List, [], Option, ap, ap₂, append-nil, append_assoc, length, refl, slice_index_or, subst, sym, take}
use Rattle.std.proofs.lemmas.List.{take_more}
use Rattle.std.specs.List.{AllByRecursion}
use Rattle.clap.specs.Words.{Text}
use Rattle.forms.specs.declared.form.Form.{Form}
use Rattle.script.specs.Givens.{Givens}
use Rattle.shards.specs.Answers.{IsPartialAnswer, Sharding}
use Rattle.shards.specs.Documents.{DocumentValue, IsTextOf}
use Rattle.olap.proofs.FoldersLemmas.{told_more}
use Rattle.olap.specs.Partials.{AreTextsOf, IsAnswerIn, IsJointOf, IsJointOutput, IsOutputOfTold, IsPartialText, IsToldOf, IsWrittenAs, IsWrittenJoint, OfText, OfTexts, numbers_of}

-- what is told of a text's answer is told of the one that was read
told_in : (sharding : Sharding) (givens : Givens) (script text : Text) (it : DocumentValue) → IsAnswerIn text it → IsPartialText sharding givens script text → IsToldOf sharding givens script it
told_in sharding givens script text it is p = subst (IsToldOf sharding givens script) (sym (is p.it p.is_text)) p.told

-- the numbers of one are those of the partial answer that its text is of
numbers_alone : (all : List DocumentValue) (text : Text) (it : DocumentValue) → IsAnswerIn text it → AreTextsOf all (text ∷ []) → it.numbers ≡ numbers_of all
numbers_alone [] text it is are = absurd are
numbers_alone (d ∷ []) text it is are = ap (λ (v : DocumentValue). v.numbers) (is d are.0) ∙ sym (append-nil d.numbers)
numbers_alone (d ∷ e ∷ all) text it is are = absurd are.1

-- the first file
pub joint_first : (file : Text → Option (List ℕ)) (name : Text) (it : DocumentValue) → OfText (file name) (λ text. IsAnswerIn text it) →
    OfTexts file (name ∷ []) (λ texts. IsJointOf texts it)
joint_first file name it one = record {
  texts = one.text ∷ [];
  told = (one.told, tt);
  is = record {
    numbers = λ all are. numbers_alone all one.text it one.is are;
    told = λ sharding givens script all. told_in sharding givens script one.text it one.is all.0;
  };
}

-- the partial answers of some texts and then of one more
record AreBefore (all : List DocumentValue) (texts : List Text) (text : Text) : Type 0 where
  front : List DocumentValue
  last : DocumentValue
  parted : all ≡ front ++ last ∷ []
  are : AreTextsOf front texts
  is_last : IsTextOf last text

are_before : (all : List DocumentValue) (texts : List Text) (text : Text) → AreTextsOf all (texts ++ text ∷ []) → AreBefore all texts text
are_before [] [] text are = absurd are
are_before [] (t ∷ texts) text are = absurd are
are_before (d ∷ []) [] text are = record { front = []; last = d; parted = refl; are = tt; is_last = are.0 }
are_before (d ∷ e ∷ all) [] text are = absurd are.1
are_before (d ∷ all) (t ∷ texts) text are =
    let p = are_before all texts text are.1 in
    record { front = d ∷ p.front; last = p.last; parted = ap (λ l. d ∷ l) p.parted; are = (are.0, p.are); is_last = p.is_last }

numbers_more : (front : List DocumentValue) (last : DocumentValue) → numbers_of (front ++ last ∷ []) ≡ numbers_of front ++ last.numbers
numbers_more [] last = append-nil last.numbers
numbers_more (d ∷ front) last = ap (λ l. d.numbers ++ l) (numbers_more front last) ∙ sym (append_assoc d.numbers (numbers_of front) last.numbers)

all_before : (P : Text → Type 0) (texts : List Text) (text : Text) → AllByRecursion P (texts ++ text ∷ []) → AllByRecursion P texts × P text
all_before P [] text all = (tt, all.0)
all_before P (t ∷ texts) text all = let p = all_before P texts text all.1 in ((all.0, p.0), p.1)

-- two partial answers were joined
pub record Joins (first second it : DocumentValue) : Type 0 where
  pub told : (sharding : Sharding) (givens : Givens) → IsPartialAnswer sharding givens first → IsPartialAnswer sharding givens second → IsPartialAnswer sharding givens it
  pub script : it.script ≡ first.script
  pub numbers : it.numbers ≡ first.numbers ++ second.numbers

-- the next file
pub joint_more : (file : Text → Option (List ℕ)) (names : List Text) (name : Text) (old next it : DocumentValue) → OfTexts file names (λ texts. IsJointOf texts old) →
    OfText (file name) (λ text. IsAnswerIn text next) → Joins old next it → OfTexts file (names ++ name ∷ []) (λ texts. IsJointOf texts it)
joint_more file names name old next it before one joins = record {
  texts = before.texts ++ one.text ∷ [];
  told = told_more file names before.texts name one.text before.told one.told;
  is = record {
    numbers = λ all are.
        let p = are_before all before.texts one.text are in
        joins.numbers ∙ ap₂ (λ a b. a ++ b) (before.is.numbers p.front p.are) (ap (λ (v : DocumentValue). v.numbers) (one.is p.last p.is_last)) ∙ sym (ap numbers_of p.parted ∙ numbers_more p.front p.last);
    told = λ sharding givens script all.
        let p = all_before (IsPartialText sharding givens script) before.texts one.text all in
        let first = before.is.told sharding givens script p.0 in
        let second = told_in sharding givens script one.text next one.is p.1 in
        record { is_script = joins.script ∙ first.is_script; told = joins.told sharding givens first.told second.told };
  };
}

pub joint_next : (file : Text → Option (List ℕ)) (first : Text) (others : List Text) (i : ℕ) (item name : Text) (old next it : DocumentValue) →
    OfTexts file (first ∷ take i others) (λ texts. IsJointOf texts old) → i < length others → item ≡ slice_index_or others i item → name ≡ item →
    OfText (file name) (λ text. IsAnswerIn text next) → Joins old next it → OfTexts file (first ∷ take (i + 1) others) (λ texts. IsJointOf texts it)
joint_next file first others i item name old next it before within here same one joins =
    let longer : take (i + 1) others ≡ take i others ++ (name ∷ []) = take_more others i item within ∙ ap (λ n. take i others ++ (n ∷ [])) (sym here ∙ sym same) in
    rw longer (joint_more file (first ∷ take i others) name old next it before one joins)

-- what was joined was written
pub written_joint : (file : Text → Option (List ℕ)) (WasWritten : Text → Text → Type 0) (names : List Text) (name : Text) (it : DocumentValue) → OfTexts file names (λ texts. IsJointOf texts it) →
    IsWrittenAs (WasWritten name) it → OfTexts file names (IsWrittenJoint WasWritten name)
written_joint file WasWritten names name it joint wrote = record {
  texts = joint.texts;
  told = joint.told;
  is = record { it = it; text = wrote.text; is_text = wrote.is_text; joint = joint.is; written = wrote.written };
}

-- and its output
pub output_of_joint : (file : Text → Option (List ℕ)) (form : Form) (names : List Text) (it : DocumentValue) → OfTexts file names (λ texts. IsJointOf texts it) → (whole : List ℕ) →
    IsOutputOfTold form it whole → OfTexts file names (λ texts. IsJointOutput form texts whole)
output_of_joint file form names it joint whole is = record {
  texts = joint.texts;
  told = joint.told;
  is = λ hash sharding givens script manner parts fit all.
      let t = joint.is.told sharding givens script all in
      rw (← t.is_script) (is hash sharding givens manner parts (rw t.is_script fit) t.told);
}
