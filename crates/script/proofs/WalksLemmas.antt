-- How far the lines of a script are gone over.
use Rattle.std.proofs.Common.{◌∙◌, ℕ, ◌+◌, ◌^◌, ◌<◌, ◌≤◌, IfOk, IfSome, cond, Option, Some, None, Result, Ok, Err, List, [], ◌∷◌, length, sym, ap, subst, arith}
use Rattle.forms.specs.declared.form.Form.TheVariants.{Classic}
use Rattle.script.specs.Deeds.{deed}
use Rattle.script.specs.Givens.{Givens, givens_in}
use Rattle.script.specs.Limits.{script_limit}
use Rattle.script.specs.Manners.{in_form}
use Rattle.script.specs.Output.{Lines, declared, declared_by, edition, is_publish}
use Rattle.script.specs.Walks.{GoesOver, IsDoing, StandsBehind}
use Rattle.script.specs.declared.walk.Doing.{Doing}
use Rattle.script.specs.declared.walk.Walk.{Walk}
use Rattle.script.proofs.ProgressLemmas.{edition-le}

-- what is given, in other words
pub given_so : {X E : Type 0} (result : Result (Option X) E) (P Q : X → Type 0) → ((x : X) → P x → Q x) → IfOk result (λ o. IfSome o P) → IfOk result (λ o. IfSome o Q)
given_so (Ok (Some x)) P Q f p = f x p
given_so (Ok None) P Q f p = tt
given_so (Err e) P Q f p = tt

-- one line more
pub stands_more : (before : List (List ℕ)) (line : List ℕ) (old new : Walk) (doing : Doing) → StandsBehind before old → GoesOver line old new doing → StandsBehind (line ∷ before) new
stands_more before line old new doing stands goes = record {
  same_schema = λ givens. ap (λ d. declared_by d (deed d line)) (stands.same_schema givens) ∙ sym goes.takes.declares;
  same_edition = λ givens.
      goes.takes.publishes
      ∙ ap (λ e. cond (is_publish (deed old.schema line)) (e + 1) e) (stands.same_edition givens)
      ∙ ap (λ d. cond (is_publish (deed d line)) (edition givens before + 1) (edition givens before)) (sym (stands.same_schema givens));
  same_number = goes.counts ∙ ap (λ n. n + 1) stands.same_number ∙ omega arith;
}

-- what the line does behind those before
pub does_behind : (givens : Givens) (before : List (List ℕ)) (line : List ℕ) (old new : Walk) (doing : Doing) → StandsBehind before old → GoesOver line old new doing →
    IsDoing new.schema (deed (declared givens before) line) doing
does_behind givens before line old new doing stands goes = subst (λ d. IsDoing new.schema (deed d line) doing) (sym (stands.same_schema givens)) goes.takes.does

-- numbers stay small
pub walk_small : (before : Lines) (walk : Walk) → StandsBehind before walk → length before ≤ script_limit + 1 → (walk.edition + 1 < 2 ^ 64) × (walk.number + 1 < 2 ^ 64)
walk_small before walk stands short =
    let given = givens_in (in_form Classic) 0 [] in
    (omega (arith, stands.same_edition given, edition-le given before, short), omega (arith, stands.same_number, short))
