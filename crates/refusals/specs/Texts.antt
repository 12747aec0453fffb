-- What is written of a line that is refused: our own.
--
-- To be read from the end: `refusal_text` is the whole, of three lines, and each stands on those above it.
use Rattle.std.specs.Prelude.{ℕ, List, ◌++◌, codes, decimal}
use Rattle.line_forms.specs.declared.kind.Kind.{Kind}
use Rattle.line_forms.specs.declared.kind.Kind.TheVariants as kinds
use Rattle.line_forms.specs.declared.misfit.Misfit.{Misfit}
use Rattle.line_forms.specs.declared.misfit.Misfit.TheVariants as misfits
use Rattle.line_forms.specs.declared.verb.Verb.{Verb}
use Rattle.line_forms.specs.declared.verb.Verb.TheVariants as verbs
use Rattle.line_forms.specs.Kinds.{a_port, keyword_text}
use Rattle.refusals.specs.declared.place.Misplace.{Misplace}
use Rattle.refusals.specs.declared.place.Misplace.TheVariants as misplaces
use Rattle.refusals.specs.declared.ports.PortsFault.{PortsFault}
use Rattle.refusals.specs.declared.ports.PortsFault.TheVariants as faults
use Rattle.refusals.specs.declared.reason.Reason.{Reason}
use Rattle.refusals.specs.declared.reason.Reason.TheVariants as reasons

-- what a word has to be
unfoldable pub kind_text : Kind → List ℕ
kind_text kinds.Label = codes "a label: 1 to 16 letters, digits, _ and -"
kind_text (kinds.Number least most) =
    codes "a number from " ++ decimal least ++ codes " to " ++ decimal most
    ++ codes ", in digits, without a sign or a leading zero"
kind_text (kinds.Power most) = codes "a power of two, from 1 to " ++ decimal most
kind_text kinds.End = codes "an address, a colon and a port, as 10.0.0.1:80"
kind_text kinds.Address = codes "an address, as 10.0.0.1"
kind_text (kinds.Word keyword) = codes "the word " ++ keyword_text keyword

-- a word by its place in the line, from 1, and a text behind it
abbrev pub at_word : ℕ → List ℕ → List ℕ
at_word place text = codes "word " ++ decimal place ++ text

unfoldable pub misfit_text : Misfit → List ℕ
misfit_text (misfits.Unfit place kind) = at_word place (codes " isn't ") ++ kind_text kind
misfit_text (misfits.Missing place kind) = at_word place (codes " is missing, which must be ") ++ kind_text kind
misfit_text (misfits.Surplus place) = at_word place (codes " is one too many")

-- what is wrong with ports
unfoldable pub ports_text : PortsFault → List ℕ
ports_text faults.NotAbove = codes "the second port isn't above the first"
ports_text faults.NotOdd = codes "the difference of the two ports isn't odd: a range has an even number of ports"
ports_text faults.Missing = codes "no port stands behind it: 1 to 64 must"
ports_text faults.Many = codes "more than 64 ports stand behind it"
ports_text (faults.NotPort place) = at_word place (codes " isn't ") ++ kind_text a_port
ports_text faults.NotAscending = codes "its ports don't ascend: each must be above the one before"

-- a text, the number of a line, and a text
abbrev pub at_line : List ℕ → ℕ → List ℕ → List ℕ
at_line front line behind = front ++ decimal line ++ behind

-- why a line can't stand where it does
unfoldable pub place_text : Misplace → List ℕ
place_text (misplaces.Again line) = at_line (codes "a line of its kind stands before it, line ") line (codes ": each kind stands once")
place_text (misplaces.Late line) = at_line (codes "a section begins before it, in line ") line (codes ": it must stand before the first line script")
place_text (misplaces.NotNext line) = at_line (codes "its number isn't the next: it must be one more than that of line ") line (codes ", which begins the section before")
place_text misplaces.NotFirst = codes "its number isn't 1, which is that of the first section"
place_text misplaces.Outside = codes "no line script stands before it: a command belongs to the section that such a line begins"
place_text misplaces.InRace = codes "a race has no such line: all packets that it looks up are those of a capture"
place_text (misplaces.Given line) = at_line (codes "its section has given its label before, in line ") line (codes ": a label is given once in a section")
place_text misplaces.Other = codes "it can't stand there"

unfoldable pub reason_text : Reason → List ℕ
reason_text reasons.NoVerb = codes "no line begins with its first word"
reason_text reasons.Strange = codes "its first word has a byte that no line's first word has: where a capture begins there, a line capture must stand before it, with its line feed"
reason_text (reasons.Misfit verb misfit) = misfit_text misfit
reason_text (reasons.Untimely verb place) = at_word place (codes " names an option that stands there twice, or late: each stands once, in the order of the form")
reason_text (reasons.Ports verb fault) = ports_text fault
reason_text (reasons.Place verb misplace) = place_text misplace

-- the form of a verb's line
unfoldable pub form_text : Verb → List ℕ
form_text verbs.Table = codes "table slots N bind B hash E listen L"
form_text verbs.Range = codes "range LO HI"
form_text verbs.Reserved = codes "reserved P1 .. Pk"
form_text verbs.Seed = codes "seed N"
form_text verbs.Offset = codes "offset N"
form_text verbs.TimeWaitReuse = codes "twreuse 0|1"
form_text verbs.Script = codes "script N"
form_text verbs.Capture = codes "capture [dev D] [net N]"
form_text verbs.Socket = codes "socket S [net N] [uid U] [dev D] [reuseaddr] [reuseport] [noport]"
form_text verbs.Bind = codes "bind S A:P"
form_text verbs.Listen = codes "listen S"
form_text verbs.Connect = codes "connect S [from A] to B:Q"
form_text verbs.Accept = codes "accept L C from B:Q at A:P"
form_text verbs.Syn = codes "syn L R from B:Q at A:P"
form_text verbs.Ack = codes "ack R C"
form_text verbs.Close = codes "close S"
form_text verbs.Drop = codes "drop S"
form_text verbs.At = codes "at T"
form_text verbs.Reap = codes "reap"
form_text verbs.Look = codes "look B:Q A:P [dev D] [net N]"
form_text verbs.Packets = codes "packets N"
form_text verbs.Dump = codes "dump"

abbrev pub form_line : Verb → List ℕ
form_line verb = codes "form: " ++ form_text verb

-- the verbs, or the form of the verb
unfoldable pub verbs_line : List ℕ
verbs_line =
    codes "first words: table range reserved seed offset twreuse script capture socket bind listen connect accept syn ack close drop at reap look packets dump; or # before a comment"

unfoldable pub help_text : Reason → List ℕ
help_text reasons.NoVerb = verbs_line
help_text reasons.Strange = verbs_line
help_text (reasons.Misfit verb misfit) = form_line verb
help_text (reasons.Untimely verb place) = form_line verb
help_text (reasons.Ports verb fault) = form_line verb
help_text (reasons.Place verb misplace) = form_line verb

-- the line's number and its text
unfoldable pub line_text : ℕ → List ℕ → List ℕ
line_text n line = codes "bad script line " ++ decimal n ++ codes ": " ++ line ++ codes "\n"

-- the line, the reason, and what may stand there
abbrev pub refusal_text : ℕ → List ℕ → Reason → List ℕ
refusal_text n line reason = line_text n line ++ reason_text reason ++ codes "\n" ++ help_text reason ++ codes "\n"
