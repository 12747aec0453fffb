-- A generated text, line by line: what the definitions must give. Our own.
use Rattle.std.specs.Prelude.{◌≡◌, ◌++◌, List, ℕ, codes}
use Rattle.sock_script.specs.Make.{made_text}

-- the lines of seed 7 and sixteen steps, among which are steps of each kind
abbrev pub sixteen_steps : List ℕ
sixteen_steps =
    codes "table slots 4096 bind 16 hash 1024 listen 16\n"
    ++ codes "seed 7\n"
    ++ codes "twreuse 1\n"
    ++ codes "script 1\n"
    ++ codes "socket s1\n"
    ++ codes "bind s1 10.0.0.4:0\n"
    ++ codes "listen s1\n"
    ++ codes "close s2\n"
    ++ codes "at 3\n"
    ++ codes "reap\n"
    ++ codes "at 4\n"
    ++ codes "reap\n"
    ++ codes "look 10.0.1.2:1005 10.0.0.3:8051\n"
    ++ codes "look 10.0.1.2:1006 10.0.0.2:8018\n"
    ++ codes "close s3\n"
    ++ codes "socket s8 reuseport\n"
    ++ codes "bind s8 10.0.0.1:8004\n"
    ++ codes "listen s8\n"
    ++ codes "socket s9\n"
    ++ codes "connect s9 from 10.0.0.2 to 10.0.1.1:8009\n"
    ++ codes "socket s10 reuseport\n"
    ++ codes "bind s10 10.0.0.2:8055\n"
    ++ codes "listen s10\n"
    ++ codes "socket s11 reuseport\n"
    ++ codes "bind s11 10.0.0.3:8008\n"
    ++ codes "listen s11\n"
    ++ codes "accept s11 s12 from 10.0.1.2:1012 at 10.0.0.1:8039\n"
    ++ codes "accept s2 s13 from 10.0.1.2:1013 at 10.0.0.1:8020\n"
    ++ codes "socket s14 reuseaddr\n"
    ++ codes "bind s14 0.0.0.0:8045\n"
    ++ codes "close s11\n"
    ++ codes "socket s16 reuseport\n"
    ++ codes "bind s16 10.0.0.4:8052\n"
    ++ codes "listen s16\n"

-- they are its text
abbrev pub IsSixteenSteps : Type 0
IsSixteenSteps = made_text 7 16 ≡ sixteen_steps
