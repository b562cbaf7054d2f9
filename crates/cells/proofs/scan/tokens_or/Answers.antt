use Rattle.std.proofs.Common.{Err, inl, inr, refl}
use Rattle.cells.proofs.ReadingLemmas.{none_where_bad, spelt_tokens, tokens_answer}
use Rattle.cells.proofs.scan.tokens_or.Goals as goal

pub returns-in-Ok-clause-exact : goal.returns-in-Ok-clause-exact
returns-in-Ok-clause-exact c = spelt_tokens c.args.text.now c.in-Ok.found.items c.in-Ok.ensures.found

-- a bad text spells no tokens
pub returns-in-Err-Bad-clause-exact : goal.returns-in-Err-Bad-clause-exact
returns-in-Err-Bad-clause-exact c = tokens_answer (λ ts. ts) c.args.bad c.args.text.now (Err c.args.bad) tt (λ ts spells. inr (refl, none_where_bad _ (rw c.in-Err-Bad.field-0-is at (c.in-Err-Bad.ensures.only ts spells)))) (inl refl)
