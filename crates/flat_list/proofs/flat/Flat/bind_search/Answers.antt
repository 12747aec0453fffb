use Rattle.std.proofs.Common.{Some, sym, ◌∙◌}
use Rattle.flat_list.proofs.Searches.{bind_search_is}
use Rattle.flat_list.proofs.flat.Flat.bind_search.Goals as goal

pub returns-in-Some : goal.returns-in-Some
returns-in-Some c =
    bind_search_is c.args.self.now c.args.section c.draw-offset.result c.draw-offset.new.self c.args.socket c.args.addr (Some c.in-Some.port) (record { is = c.draw-offset.ensures }) (sym c.free_port.ensures ∙ c.in-Some.is)
    ∙ rw c.at_port.ensures at c.put.ensures
