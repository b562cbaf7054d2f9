use Rattle.std.proofs.Common.{◌≡◌, List, ◌∷◌, ◌++◌, ◌∙◌, ap, arith, length, map, subst, sym, true}
use Rattle.std.proofs.Math.Seq.{get_or-append_seam}
use Rattle.std.proofs.lemmas.List.{length-append}
use Rattle.std.specs.List.{Any}
use Rattle.std.specs.Prelude.{Ok}
use Rattle.std.specs.Result.{is_err}
use Rattle.std.specs.Vec.Iter.{into_iter_items}
use Rattle.crew.proofs.sharing.all_given.Goals as goal

-- the first of what is left is one of all
any_left : {X : Type 0} (P : X → Type 0) (all front left rest : List X) (x : X) → front ++ left ≡ all → left ≡ x ∷ rest → P x → Any P all
any_left P all front left rest x whole is holds =
    subst (Any P) (ap (λ l. front ++ l) (sym is) ∙ whole) (length front, x, omega (arith, length-append front (x ∷ rest)), get_or-append_seam front x rest x, holds)

pub returns-in_default-clause-memory : goal.returns-in_default-clause-memory
returns-in_default-clause-memory g c = λ refused.
    any_left (λ one. is_err one ≡ true) c.args.given.items (map Ok c.loop-one.all.items) (into_iter_items c.loop-one.one-iterator) (into_iter_items c.next.new.self)
    c.in-Some.one (c.loop-one.invariant.given ∙ c.into_iter-one-iterator.ensures.into_iter_gives.0) c.in-Some.ensures.steps.0 (ap is_err c.in_default.is)
