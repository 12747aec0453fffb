use Rattle.std.proofs.Common.{Some, None, sym, ◌∙◌}
use Rattle.flat_list.proofs.Searches.{connect_unbound_is, connect_search_is}
use Rattle.flat_list.proofs.flat.Flat.connect_unbound.Goals as goal

pub returns-in-None : goal.returns-in-None
returns-in-None c =
    connect_unbound_is c.args.self.now c.args.section c.args.socket c.args.from c.args.to c.in-Some.source (sym c.is_no_end.ensures ∙ c.if-is_no_end.false) (sym c.source_of.ensures ∙ c.in-Some.is)
    ∙ connect_search_is c.args.self.now c.args.section c.draw-offset.result c.draw-offset.new.self c.args.socket c.in-Some.source c.args.to None (record { is = c.draw-offset.ensures }) (sym c.shared_port.ensures ∙ c.in-None.is)

pub returns-in-Some-shared_port : goal.returns-in-Some-shared_port
returns-in-Some-shared_port c =
    connect_unbound_is c.args.self.now c.args.section c.args.socket c.args.from c.args.to c.in-Some.source (sym c.is_no_end.ensures ∙ c.if-is_no_end.false) (sym c.source_of.ensures ∙ c.in-Some.is)
    ∙ connect_search_is c.args.self.now c.args.section c.draw-offset.result c.draw-offset.new.self c.args.socket c.in-Some.source c.args.to (Some c.in-Some-shared_port.port) (record { is = c.draw-offset.ensures }) (sym c.shared_port.ensures ∙ c.in-Some-shared_port.is)
    ∙ rw c.connected_by_search.ensures at c.connect_as.ensures
