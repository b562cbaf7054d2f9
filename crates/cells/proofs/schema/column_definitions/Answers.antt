use Rattle.std.proofs.Common.{rules, arith, ◌≢◌, ◌∷◌, [], ap, inl, inr, length, sym, ◌∙◌}
use Rattle.cells.specs.declared.token.Token.TheVariants.{Mark}
use Rattle.cells.specs.declared.token.Mark.TheVariants.{RightParen}
use Rattle.cells.proofs.ColumnsLemmas.{behind_shorter, kept_first, kept_found, kept_more, kept_none, kept_only, kept_other}
use Rattle.cells.proofs.schema.column_definitions.Goals as goal

pub loop-found-init : goal.loop-found-init
loop-found-init c = rw c.new-found.ensures.items (kept_first c.args.tokens.now)

pub returns-in_err-definition-clause-only : goal.returns-in_err-definition-clause-only
returns-in_err-definition-clause-only c ds spells =
    elim c.in_err-definition.ensures [
      | inl memory ↦ search rules
      | inr fault ↦ absurd (kept_none c.args.tokens.now c.loop-found.rest.now c.loop-found.found.items c.loop-found.invariant fault.1 ds spells)
    ]

pub returns-then-is_end-clause-found : goal.returns-then-is_end-clause-found
returns-then-is_end-clause-found c =
    kept_found c.args.tokens.now c.loop-found.rest.now c.loop-found.found.items c.loop-found.invariant
    c.in_ok-definition.definition c.in_ok-definition.behind.now c.push.new.self.items c.in_ok-definition.ensures c.in_ok-push.ensures.items
    (c.is_end.ensures.0 c.if-is_end.true)

pub returns-then-is_end-clause-only : goal.returns-then-is_end-clause-only
returns-then-is_end-clause-only c =
    kept_only c.args.tokens.now c.loop-found.rest.now c.loop-found.found.items c.loop-found.invariant
    c.in_ok-definition.definition c.in_ok-definition.behind.now c.push.new.self.items c.in_ok-definition.ensures c.in_ok-push.ensures.items
    (c.is_end.ensures.0 c.if-is_end.true)

pub returns-in_default-clause-only : goal.returns-in_default-clause-only
returns-in_default-clause-only c ds spells =
    let no_end : c.in_ok-definition.behind.now ≢ Mark RightParen ∷ [] = λ end. let both = sym c.if-is_end.false ∙ c.is_end.ensures.1 end in cc in
    absurd (kept_other c.args.tokens.now c.loop-found.rest.now c.loop-found.found.items c.loop-found.invariant
    c.in_ok-definition.definition c.in_ok-definition.behind.now c.push.new.self.items c.in_ok-definition.ensures c.in_ok-push.ensures.items
    c.in_default.ensures no_end ds spells)

pub loop-found-smaller : goal.loop-found-smaller
loop-found-smaller c =
    let shorter = behind_shorter c.loop-found.rest.now c.in_ok-definition.definition c.in_ok-definition.behind.now c.in_ok-definition.ensures in
    let more = ap length c.in-Some.ensures in
    omega arith

pub loop-found-preserved : goal.loop-found-preserved
loop-found-preserved c =
    kept_more c.args.tokens.now c.loop-found.rest.now c.loop-found.found.items c.loop-found.invariant
    c.in_ok-definition.definition c.in_ok-definition.behind.now c.push.new.self.items c.in_ok-definition.ensures c.in_ok-push.ensures.items
    c.in-Some.more.now c.in-Some.ensures
