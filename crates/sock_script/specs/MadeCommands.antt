-- The commands of generated scripts, as the code makes them. Our own; no public contract cites this file.
use Rattle.std.specs.Prelude.{ℕ, ◌+◌, ◌*◌, ◌%◌, ◌^◌, List, [], ◌∷◌, ◌++◌, Bool, true, false, Some, None}
use Rattle.std.specs.List.{slice_index_or}
use Rattle.flat_list.specs.declared.command.End.{End}
use Rattle.flat_list.specs.declared.command.Command.{Command}
use Rattle.flat_list.specs.declared.command.Command.TheVariants as commands
use Rattle.flat_list.specs.declared.header.Header.{Header}
use Rattle.flat_list.specs.Script.{Script}
use Rattle.sock_script.specs.Grammar.{default_range}
use Rattle.sock_script.specs.Make.{step_words, step_label, last_number, step_port, chosen_step, remote_port}

-- an address and a port
abbrev pub end_at : ℕ → ℕ → End
end_at addr port = record { addr = addr; port = port }

-- the address 10.0.0.0 plus a number: 257 gives 10.0.1.1, 258 gives 10.0.1.2
abbrev pub local_addr : ℕ → ℕ
local_addr host = 10 * 2 ^ 24 + host

-- a socket without a network namespace, a user or a device, which takes its port at once
abbrev pub new_socket : ℕ → Bool → Bool → Command
new_socket i reuseaddr reuseport =
    commands.Socket (step_label i)
    (record { net = None; uid = None; dev = None; reuseaddr = reuseaddr; reuseport = reuseport; noport = false })

-- a lookup without a device or a network namespace
abbrev pub plain_look : End → End → Command
plain_look from to = commands.Look (record { from = from; to = to; dev = None; net = None })

-- the commands of a step, for each remainder of w modulo 8
abbrev pub commands_by_remainder : ℕ → ℕ → List (List Command)
commands_by_remainder i w =
    let label : List ℕ = step_label i in
    let chosen : List ℕ = step_label (chosen_step i w) in
    let addr : ℕ = local_addr (last_number w) in
    let here : End = end_at addr (step_port w) in
    let remote : End = end_at (local_addr 258) (remote_port i) in
    (new_socket i true false ∷ commands.Bind label (end_at 0 (step_port w)) ∷ [])
    ∷ (new_socket i false true ∷ commands.Bind label here ∷ commands.Listen label ∷ [])
    ∷ (new_socket i false false ∷ commands.Bind label (end_at addr 0) ∷ commands.Listen label ∷ [])
    ∷ (new_socket i false false ∷ commands.Connect label (Some addr) (end_at (local_addr 257) (step_port w)) ∷ [])
    ∷ (commands.Accept chosen label remote here ∷ [])
    ∷ (commands.Close chosen ∷ [])
    ∷ (plain_look remote here ∷ [])
    ∷ (commands.At i ∷ commands.Reap ∷ []) ∷ []

-- the commands of step i, whose word is w
abbrev pub step_commands : ℕ → ℕ → List Command
step_commands i w = slice_index_or (commands_by_remainder i w) (w % 8) []

-- the commands of the steps from step i on, whose words are these
abbrev pub commands_from : ℕ → List ℕ → List Command
commands_from i [] = []
commands_from i (w ∷ ws) = step_commands i w ++ commands_from (i + 1) ws

-- what the lines before the steps say
abbrev pub made_header : ℕ → Header
made_header seed =
    record {
      shape = record { slots = 4096; bind = 16; hash = 1024; listen = 16 };
      range = default_range;
      seed = seed;
      offset = None;
      twreuse = true;
    }

-- the script of a seed and so many steps
abbrev pub made_script : ℕ → ℕ → Script
made_script seed count =
    record { header = made_header seed; sections = commands_from 1 (step_words seed count) ∷ []; capture = None }
