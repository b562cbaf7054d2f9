use Rattle.crew.proofs.ListingLemmas.{list_meets, took_list}
use Rattle.crew.proofs.listing.Listing.with_list.Goals as goal

pub join-requires : goal.join-requires
join-requires g c =
    let it = c.rows_are_few.ensures.held in
    list_meets c.args.self.now c.rows_are_few.ensures.dealt c.args.before c.in_ok-list.list c.args.place it c.requires (c.in_ok-list.ensures it.rows it.held)

pub returns : goal.returns
returns g c = λ places firsts.
    let listed = c.args.self.now in
    took_list listed c.rows_are_few.ensures.dealt c.args.before c.in_ok-list.list c.in_ok-join.field-0 places c.args.place firsts c.in_ok-list.ensures (c.in_ok-join.ensures listed.plan)
