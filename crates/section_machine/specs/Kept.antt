-- What a section's parts keep of themselves. Our own; no public contract cites this file, but the invariant of `Labels`
-- does.
use Rattle.std.specs.Prelude.{◌≡◌, ℕ, ◌<◌, ◌≤◌, ◌^◌, List, length, Option}
use Rattle.flat_list.specs.Sections.{name_at}
use Rattle.sock_ops.specs.declared.sock.Sock.{Sock}
use Rattle.section_machine.specs.Places.{HaveNames, mines}

-- names fit, and each label has a place, where its socket has its name
pub record AreLabels (number : ℕ) (labels : List (List ℕ)) (sockets : List (Option Sock)) : Type 0 where
  pub section : number ≤ 255
  pub few : length labels < 2 ^ 56
  pub count : length sockets ≡ length labels
  pub names : HaveNames (name_at number) (mines sockets)
