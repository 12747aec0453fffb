use Rattle.record_reader.proofs.Verbs.{none_to, life_alone, packet_alone, race_alone, shape_alone, journal_alone, clock_alone}
use Rattle.record_reader.proofs.form.line_of.Goals as goal

pub returns-in-Some-clause-none : goal.returns-in-Some-clause-none
returns-in-Some-clause-none c = none_to _ c.life_line_of.ensures.none (life_alone _ _ c.in-Some.ensures.some)

pub returns-in-Some-after-clause-none : goal.returns-in-Some-after-clause-none
returns-in-Some-after-clause-none c = none_to _ c.packet_line_of.ensures.none (packet_alone _ _ c.in-Some-after.ensures.some)

pub returns-in-Some-after-2-clause-none : goal.returns-in-Some-after-2-clause-none
returns-in-Some-after-2-clause-none c = none_to _ c.race_of.ensures.none (race_alone _ _ c.in-Some-after-2.ensures.some)

pub returns-in-Some-after-3-clause-none : goal.returns-in-Some-after-3-clause-none
returns-in-Some-after-3-clause-none c = none_to _ c.shape_of.ensures.none (shape_alone _ _ c.in-Some-after-3.ensures.some)

pub returns-in-Some-after-4-clause-none : goal.returns-in-Some-after-4-clause-none
returns-in-Some-after-4-clause-none c = none_to _ c.journal_of.ensures.none (journal_alone _ _ c.in-Some-after-4.ensures.some)

pub returns-in-Some-after-5-clause-none : goal.returns-in-Some-after-5-clause-none
returns-in-Some-after-5-clause-none c = none_to _ c.clock_of.ensures.none (clock_alone _ _ c.in-Some-after-5.ensures.some)
