use Rattle.std.proofs.Common.{◌≡◌, None, refl, rules, subst, sym}
use Rattle.std.proofs.lemmas.Result.{IfOk-weaker}
use Rattle.script.specs.Walks.{Takes}
use Rattle.script.proofs.walk.Walk.go_over.Goals as goal

pub returns-in_default : goal.returns-in_default
returns-in_default c =
    let none : c.args.self.now.schema ≡ None = search rules in
    IfOk-weaker c.declare.result _ _
    (λ doing takes. record {
      takes = subst (λ old. Takes c.args.line.now old c.declare.new.schema c.args.self.now.edition c.args.self.now.edition doing) (sym none) takes;
      counts = refl;
    })
    (c.declare.ensures c.args.self.now.edition)
