-- In which chains a packet is sought: inet_ehash_bucket and inet_lhash2_bucket of include/net/inet_hashtables.h.
use Rattle.std.specs.Prelude.{◌≡◌, ℕ, ◌+◌, ◌^◌, ◌<◌}
use Rattle.sock_card.specs.declared.card.Packet.{Packet}
use Rattle.chain_book.specs.Homes.{packet_home, listen_home}
use Rattle.table_rule.specs.Calls.{layout_of}
use Rattle.table_rule.specs.declared.table.Chains.{Chains}
use Rattle.table_rule.specs.declared.view.Layout.{Layout}

-- these are the table's numbers of chains, with a seed, and there are chains of both kinds
pub record IsLaidOut (layout : Layout) (t : Chains) : Type 0 where
  pub shape : layout.shape ≡ (layout_of t).shape
  pub hash : 0 < layout.shape.hash
  pub listen : 0 < layout.shape.listen
  pub fits : layout.shape.hash + layout.shape.listen < 2 ^ 32

-- the chain of the sockets that are connected as the packet goes
abbrev pub full_home : Layout → Packet → ℕ
full_home layout packet = packet_home layout.shape layout.seed packet

-- that of the listeners at the packet's address
abbrev pub exact_home : Layout → Packet → ℕ
exact_home layout packet = listen_home layout.shape layout.seed packet.dst packet.dport packet.net

-- that of the listeners at any address
abbrev pub any_home : Layout → Packet → ℕ
any_home layout packet = listen_home layout.shape layout.seed 0 packet.dport packet.net
