use Rattle.std.proofs.Common.{ap, ◌∙◌, sym, subst}
use Rattle.std.proofs.lemmas.Result.{IfOk-weaker}
use Rattle.std.specs.List.{AllByRecursion, flat_map}
use Rattle.trie.specs.Cuts.{IsPart}
use Rattle.report.proofs.PiecesLemmas.{are_pieces}
use Rattle.report.proofs.pieces.pieces_of.Goals as goal

pub returns-clause-rows : goal.returns-clause-rows
returns-clause-rows g c =
    let hash = g.H.KeyHash.hash_of in
    let es = c.rows.result.now in
    let once = c.entries_are_a_map.ensures.len es c.rows.ensures.rise in
    let joined = c.pieces_are_parts.ensures.joined es c.args.cutting.now.depth c.args.cutting.now.small c.rows.ensures.rise in
    let parts = c.pieces_are_parts.ensures.parts es c.args.cutting.now.depth c.args.cutting.now.small in
    IfOk-weaker c.split.result _ _ (λ pieces e. are_pieces c.a_map_has_its_entries.ensures c.args.root.now es c.rows.ensures.map once hash pieces.items
    (subst (AllByRecursion (IsPart hash es)) (sym e) parts) (ap (flat_map (λ piece. piece)) e ∙ joined)) c.split.ensures

pub returns-clause-cut : goal.returns-clause-cut
returns-clause-cut g c =
    IfOk-weaker c.split.result _ _ (λ pieces e. record { entries = c.rows.result.now; map = c.rows.ensures.map; rise = c.rows.ensures.rise; made = e }) c.split.ensures
