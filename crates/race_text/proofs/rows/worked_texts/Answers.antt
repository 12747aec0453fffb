use Rattle.std.proofs.Common.{◌≡◌}
use Rattle.race_record.specs.Refused.{refused_race}
use Rattle.race_record.specs.Worked.{dump_race, first_race, handshake_race, second_race}
use Rattle.race_text.specs.Render.{render}
use Rattle.race_text.specs.Texts.{dump_text, first_text, handshake_text, refused_text, second_text}
use Rattle.race_text.proofs.Numbers.{d0, d1, d2, d3, d4, d5, d6, d7, d8, d9, d10, d11, d12, d13, d14, d60, d80, d90, d91, d92, d1000}
use Rattle.race_text.proofs.rows.worked_texts.Goals as goal

one : render first_race ≡ first_text
unfolding render
one = simp (d0, d1, d2, d3, d10, d80)

pub returns-clause-one : goal.returns-clause-one
returns-clause-one c = one

dump : render dump_race ≡ dump_text
unfolding render
dump = simp (d0, d1, d2, d3, d10, d80)

pub returns-clause-dump : goal.returns-clause-dump
returns-clause-dump c = dump

two : render second_race ≡ second_text
unfolding render
two = simp (d0, d1, d2, d3, d4, d5, d6, d7, d8, d9, d10, d11, d12, d13, d14, d60, d80, d90, d1000)

pub returns-clause-two : goal.returns-clause-two
returns-clause-two c = two

handshake : render handshake_race ≡ handshake_text
unfolding render
handshake = simp (d0, d1, d2, d3, d4, d5, d6, d7, d8, d10, d80, d1000)

pub returns-clause-handshake : goal.returns-clause-handshake
returns-clause-handshake c = handshake

refused : render refused_race ≡ refused_text
unfolding render
refused = simp (d0, d1, d2, d3, d4, d5, d7, d10, d80, d90, d91, d92)

pub returns-clause-refused : goal.returns-clause-refused
returns-clause-refused c = refused
