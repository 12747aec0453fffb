-- Worked examples: the texts of the worked records of race_record. Our own.
use Rattle.std.specs.Prelude.{ℕ, List, ◌++◌, codes}

-- one listener by itself
abbrev pub first_text : List ℕ
first_text =
    codes "race lookers 1 passes 1\n"
    ++ codes "shape 2 1 1 1 seed 0\n"
    ++ codes "1 socket a ok\n"
    ++ codes "1 bind a ok 80\n"
    ++ codes "1 listen a ok 80\n"
    ++ codes "journal 0 3\n"
    ++ codes "life 1 0 listen 1.a 10.0.0.1:80 0.0.0.0:0 dev 0 hash 0 1 unhash -\n"
    ++ codes "clock 2\n"

-- the same listener, and then a dump
abbrev pub dump_text : List ℕ
dump_text =
    codes "race lookers 1 passes 1\n"
    ++ codes "shape 2 1 1 1 seed 0\n"
    ++ codes "1 socket a ok\n"
    ++ codes "1 bind a ok 80\n"
    ++ codes "1 listen a ok 80\n"
    ++ codes "1 dump 1 t0 2 t1 2\n"
    ++ codes "1 item listen 1.a 10.0.0.1:80 0.0.0.0:0 dev 0\n"
    ++ codes "journal 0 3\n"
    ++ codes "life 1 0 listen 1.a 10.0.0.1:80 0.0.0.0:0 dev 0 hash 0 1 unhash -\n"
    ++ codes "clock 2\n"

-- two sections beside each other
abbrev pub second_text : List ℕ
second_text =
    codes "race lookers 5 passes 1\n"
    ++ codes "shape 4 1 1 1 seed 0\n"
    ++ codes "1 socket a ok\n"
    ++ codes "1 bind a ok 80\n"
    ++ codes "1 listen a ok 80\n"
    ++ codes "1 accept b ok\n"
    ++ codes "1 close b ok time-wait\n"
    ++ codes "1 accept d ok\n"
    ++ codes "1 at 60 ok\n"
    ++ codes "1 reap ok 0\n"
    ++ codes "2 socket e ok\n"
    ++ codes "2 bind e ok 90\n"
    ++ codes "2 listen e ok 90\n"
    ++ codes "journal 0 10\n"
    ++ codes "life 1 0 listen 1.a 10.0.0.1:80 0.0.0.0:0 dev 0 hash 0 1 unhash -\n"
    ++ codes "life 0 1 full 1.b 10.0.0.1:80 10.0.0.2:1000 dev 0 hash 2 4 unhash 8 9\n"
    ++ codes "life 1 2 listen 2.e 0.0.0.0:90 0.0.0.0:0 dev 0 hash 3 5 unhash -\n"
    ++ codes "life 0 3 time-wait 1.b 10.0.0.1:80 10.0.0.2:1000 dev 0 hash 6 7 unhash 12 13\n"
    ++ codes "life 0 1 full 1.d 10.0.0.1:80 10.0.0.2:1000 dev 0 hash 10 11 unhash -\n"
    ++ codes "packet 1 full 1.d t0 9 t1 11 from 10.0.0.2:1000 to 10.0.0.1:80 dev 0\n"
    ++ codes "packet 2 none t0 4 t1 6 from 10.0.0.2:1000 to 10.0.0.9:90 dev 0\n"
    ++ codes "packet 3 again changed 1 in 0 t0 8 t1 11 from 10.0.0.2:1000 to 10.0.0.1:80 dev 0\n"
    ++ codes "packet 4 again foreign 1 in 0 t0 4 t1 11 from 10.0.0.2:1000 to 10.0.0.1:80 dev 0\n"
    ++ codes "packet 5 again long 5 in 0 t0 8 t1 11 from 10.0.0.2:1000 to 10.0.0.1:80 dev 0\n"
    ++ codes "packet 6 skip\n"
    ++ codes "cut\n"
    ++ codes "clock 14\n"

-- a handshake
abbrev pub handshake_text : List ℕ
handshake_text =
    codes "race lookers 1 passes 1\n"
    ++ codes "shape 4 1 1 1 seed 0\n"
    ++ codes "1 socket a ok\n"
    ++ codes "1 bind a ok 80\n"
    ++ codes "1 listen a ok 80\n"
    ++ codes "1 syn r ok\n"
    ++ codes "1 ack d ok\n"
    ++ codes "journal 0 4\n"
    ++ codes "life 1 0 listen 1.a 10.0.0.1:80 0.0.0.0:0 dev 0 hash 0 1 unhash -\n"
    ++ codes "life 0 1 request 1.r 10.0.0.1:80 10.0.0.2:1000 dev 0 hash 2 3 unhash 6 7\n"
    ++ codes "life 0 2 full 1.d 10.0.0.1:80 10.0.0.2:1000 dev 0 hash 4 5 unhash -\n"
    ++ codes "packet 1 request 1.r t0 4 t1 6 from 10.0.0.2:1000 to 10.0.0.1:80 dev 0\n"
    ++ codes "packet 2 full 1.d t0 6 t1 8 from 10.0.0.2:1000 to 10.0.0.1:80 dev 0\n"
    ++ codes "clock 8\n"

-- refusals
abbrev pub refused_text : List ℕ
refused_text =
    codes "race lookers 1 passes 1\n"
    ++ codes "shape 2 1 1 1 seed 0\n"
    ++ codes "1 socket a ok\n"
    ++ codes "1 bind a ok 90\n"
    ++ codes "1 connect a ok 10.0.0.1:90\n"
    ++ codes "1 socket d ok\n"
    ++ codes "1 bind d ok 92\n"
    ++ codes "1 connect d ok 10.0.0.1:92\n"
    ++ codes "1 drop d ok\n"
    ++ codes "2 socket b ok\n"
    ++ codes "2 bind b ok 90\n"
    ++ codes "2 connect b EADDRNOTAVAIL\n"
    ++ codes "2 socket c ok\n"
    ++ codes "2 bind c ok 91\n"
    ++ codes "2 connect c ENFILE 1 1\n"
    ++ codes "journal 0 7\n"
    ++ codes "life 0 0 full 1.a 10.0.0.1:90 10.0.0.2:80 dev 0 hash 0 1 unhash -\n"
    ++ codes "life 0 1 full 1.d 10.0.0.1:92 10.0.0.2:80 dev 0 hash 2 3 unhash 4 5\n"
    ++ codes "packet 1 again dead 1 in 0 t0 4 t1 5 from 10.0.0.2:80 to 10.0.0.1:92 dev 0\n"
    ++ codes "packet 2 short\n"
    ++ codes "clock 7\n"
