use Rattle.flat_list.proofs.SocketStep.{socket_is}
use Rattle.flat_list.proofs.flat.Flat.socket.Goals as goal

pub returns-clause-step : goal.returns-clause-step
returns-clause-step c =
    rw (← c.self.view_is)
    (socket_is _ _ _ c.args.options _ _ c.in_ok-name.name c.in_ok-name.ensures.given
    (rw (c.in_ok-reserve.ensures.items, c.new_socket.ensures) at c.in_ok-push.ensures.items))
