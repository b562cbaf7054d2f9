use Rattle.std.proofs.Common.{◌++◌, ◌∙◌, None, Some, ap, lit<, rules, subst}
use Rattle.std.specs.Prelude.{string_bytes}
use Rattle.std.proofs.lemmas.Str.Pattern.{split_parts}
use Rattle.script.specs.Parameters.{PutsMark, filled, is_quoted}
use Rattle.script.proofs.ParametersLemmas.{ends_empty, ends_left, filled_last, filled_more, filled_not}
use Rattle.script.proofs.parameters.filled.Goals as goal

pub returns-in_default-2-clause-filled : goal.returns-in_default-2-clause-filled
returns-in_default-2-clause-filled c =
    let parts = split_parts 63 c.loop-part.rest.now (Some (c.in-Some.part, c.in-Some.behind)) c.in-Some.ensures.cases (lit< tt) in
    let turns = c.is_quoted-quoted.ensures ∙ ap (is_quoted c.loop-part.quoted) c.as_bytes.ensures.value in
    filled_not (filled c.args.cells.now c.args.query.now) (string_bytes c.loop-part.full) c.in-Some.part.now c.in-Some.behind.now c.loop-part.rest.now c.loop-part.quoted c.loop-part.left.now parts.0 parts.1 c.loop-part.invariant.same
    c.is_quoted-quoted.result turns (rw c.in_default-2.is at c.in_ok-more.ensures.left)

pub loop-part-preserved : goal.loop-part-preserved
loop-part-preserved c =
    let parts = split_parts 63 c.loop-part.rest.now (Some (c.in-Some.part, c.in-Some.behind)) c.in-Some.ensures.cases (lit< tt) in
    let turns = c.is_quoted-quoted.ensures ∙ ap (is_quoted c.loop-part.quoted) c.as_bytes.ensures.value in
    let puts = rw c.in-Some-2.is at c.in_ok-more.ensures.left in
    record {
      text = search rules;
      same =
          filled_more (filled c.args.cells.now c.args.query.now) (string_bytes c.loop-part.full) c.in-Some.part.now c.in-Some.behind.now c.loop-part.rest.now c.loop-part.quoted c.loop-part.left.now parts.0 parts.1 c.loop-part.invariant.same
          c.is_quoted-quoted.result turns (string_bytes c.push_mark.new.full) c.in-Some-2.more.now
          (subst (λ old. PutsMark c.is_quoted-quoted.result c.loop-part.left.now old (string_bytes c.push_mark.new.full) c.in-Some-2.more.now) c.in_ok-push_str.ensures.bytes puts);
    }

pub returns-then-is_empty-clause-filled : goal.returns-then-is_empty-clause-filled
returns-then-is_empty-clause-filled c =
    let none = split_parts 63 c.loop-part.rest.now None c.in_default.ensures.cases (lit< tt) in
    let last = filled_last (filled c.args.cells.now c.args.query.now) (string_bytes c.loop-part.full) c.loop-part.rest.now c.loop-part.quoted c.loop-part.left.now none c.loop-part.invariant.same in
    ends_empty c.loop-part.left.now (string_bytes c.push_str-2.new.self) (string_bytes c.loop-part.full ++ c.loop-part.rest.now) (filled c.args.cells.now c.args.query.now) c.if-is_empty.ensures c.in_ok-push_str-2.ensures.bytes last

pub returns-clause-filled : goal.returns-clause-filled
returns-clause-filled c =
    let none = split_parts 63 c.loop-part.rest.now None c.in_default.ensures.cases (lit< tt) in
    let last = filled_last (filled c.args.cells.now c.args.query.now) (string_bytes c.loop-part.full) c.loop-part.rest.now c.loop-part.quoted c.loop-part.left.now none c.loop-part.invariant.same in
    ends_left c.loop-part.left.now (string_bytes c.loop-part.full ++ c.loop-part.rest.now) (filled c.args.cells.now c.args.query.now) c.if-is_empty.ensures last
