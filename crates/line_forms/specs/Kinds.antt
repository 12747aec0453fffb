-- Which words are of a kind, and which kinds of words a line wants behind its first: a grammar of our own, word by
-- word. It is meant to be that of `sock_script`; that it is isn't proved here.
use Rattle.std.specs.Prelude.{◌≡◌, ℕ, ◌^◌, ◌<◌, ◌≤◌, IsTrue, List, [], ◌∷◌, codes, decimal}
use Rattle.inet_io.specs.Texts.{addr_text, end_text}
use Rattle.inet_io.specs.Labels.{is_label}
use Rattle.chain_book.specs.Shapes.{IsPowerTo}
use Rattle.line_forms.specs.declared.kind.Keyword.{Keyword}
use Rattle.line_forms.specs.declared.kind.Keyword.TheVariants as keywords
use Rattle.line_forms.specs.declared.kind.Kind.{Kind}
use Rattle.line_forms.specs.declared.kind.Kind.TheVariants as kinds
use Rattle.line_forms.specs.declared.verb.Verb.{Verb}
use Rattle.line_forms.specs.declared.verb.Verb.TheVariants as verbs
use Rattle.line_forms.specs.declared.verb.Part.{Part}
use Rattle.line_forms.specs.declared.verb.Part.TheVariants.{Must, May, Flag}

-- how a word is spelled that stands behind the first
abbrev pub keyword_text : Keyword → List ℕ
keyword_text keywords.Slots = codes "slots"
keyword_text keywords.Bind = codes "bind"
keyword_text keywords.Hash = codes "hash"
keyword_text keywords.Listen = codes "listen"
keyword_text keywords.From = codes "from"
keyword_text keywords.To = codes "to"
keyword_text keywords.At = codes "at"
keyword_text keywords.Net = codes "net"
keyword_text keywords.Uid = codes "uid"
keyword_text keywords.Dev = codes "dev"
keyword_text keywords.ReuseAddr = codes "reuseaddr"
keyword_text keywords.ReusePort = codes "reuseport"
keyword_text keywords.NoPort = codes "noport"

-- the word is of that kind
abbrev pub IsOf : Kind → List ℕ → Type 0
IsOf kinds.Label word = IsTrue (is_label word)
IsOf (kinds.Number least most) word = (n : ℕ) × (word ≡ decimal n) × (least ≤ n) × (n ≤ most)
IsOf (kinds.Power most) word = (n : ℕ) × (word ≡ decimal n) × IsPowerTo most n
IsOf kinds.End word = (addr port : ℕ) × (word ≡ end_text addr port) × (addr < 2 ^ 32) × (port < 2 ^ 16)
IsOf kinds.Address word = (addr : ℕ) × (word ≡ addr_text addr) × (addr < 2 ^ 32)
IsOf (kinds.Word keyword) word = word ≡ keyword_text keyword

-- how the first word of a line is spelled
abbrev pub verb_text : Verb → List ℕ
verb_text verbs.Table = codes "table"
verb_text verbs.Range = codes "range"
verb_text verbs.Reserved = codes "reserved"
verb_text verbs.Seed = codes "seed"
verb_text verbs.Offset = codes "offset"
verb_text verbs.TimeWaitReuse = codes "twreuse"
verb_text verbs.Script = codes "script"
verb_text verbs.Capture = codes "capture"
verb_text verbs.Socket = codes "socket"
verb_text verbs.Bind = codes "bind"
verb_text verbs.Listen = codes "listen"
verb_text verbs.Connect = codes "connect"
verb_text verbs.Accept = codes "accept"
verb_text verbs.Syn = codes "syn"
verb_text verbs.Ack = codes "ack"
verb_text verbs.Close = codes "close"
verb_text verbs.Drop = codes "drop"
verb_text verbs.At = codes "at"
verb_text verbs.Reap = codes "reap"
verb_text verbs.Look = codes "look"
verb_text verbs.Packets = codes "packets"
verb_text verbs.Dump = codes "dump"

-- a port that can be chosen or kept
abbrev pub a_port : Kind
a_port = kinds.Number 1 65535

-- a network namespace
abbrev pub a_namespace : Kind
a_namespace = kinds.Number 0 15

-- any number of 32 bits
abbrev pub any_number : Kind
any_number = kinds.Number 0 4294967295

-- a listener, a new label, and the newcomer's two ends
abbrev pub newcomer_parts : List Part
newcomer_parts =
    Must kinds.Label ∷ Must kinds.Label ∷ Must (kinds.Word keywords.From) ∷ Must kinds.End
    ∷ Must (kinds.Word keywords.At) ∷ Must kinds.End ∷ []

-- What stands behind the first word, part by part. More is asked of the two ports behind `range` than stands here; and
-- of the ports behind `reserved`, whose ranges depend on each other, nothing is said.
abbrev pub parts_of : Verb → List Part
parts_of verbs.Table =
    Must (kinds.Word keywords.Slots) ∷ Must (kinds.Number 1 65536) ∷ Must (kinds.Word keywords.Bind)
    ∷ Must (kinds.Power 256) ∷ Must (kinds.Word keywords.Hash) ∷ Must (kinds.Power 65536)
    ∷ Must (kinds.Word keywords.Listen) ∷ Must (kinds.Power 4096) ∷ []
parts_of verbs.Range = Must a_port ∷ Must a_port ∷ []
parts_of verbs.Reserved = []
parts_of verbs.Seed = Must any_number ∷ []
parts_of verbs.Offset = Must (kinds.Number 0 65535) ∷ []
parts_of verbs.TimeWaitReuse = Must (kinds.Number 0 1) ∷ []
parts_of verbs.Script = Must (kinds.Number 1 64) ∷ []
parts_of verbs.Capture = May keywords.Dev a_port ∷ May keywords.Net a_namespace ∷ []
parts_of verbs.Socket =
    Must kinds.Label ∷ May keywords.Net a_namespace ∷ May keywords.Uid any_number ∷ May keywords.Dev a_port
    ∷ Flag keywords.ReuseAddr ∷ Flag keywords.ReusePort ∷ Flag keywords.NoPort ∷ []
parts_of verbs.Bind = Must kinds.Label ∷ Must kinds.End ∷ []
parts_of verbs.Listen = Must kinds.Label ∷ []
parts_of verbs.Connect =
    Must kinds.Label ∷ May keywords.From kinds.Address ∷ Must (kinds.Word keywords.To) ∷ Must kinds.End ∷ []
parts_of verbs.Accept = newcomer_parts
parts_of verbs.Syn = newcomer_parts
parts_of verbs.Ack = Must kinds.Label ∷ Must kinds.Label ∷ []
parts_of verbs.Close = Must kinds.Label ∷ []
parts_of verbs.Drop = Must kinds.Label ∷ []
parts_of verbs.At = Must any_number ∷ []
parts_of verbs.Reap = []
parts_of verbs.Look =
    Must kinds.End ∷ Must kinds.End ∷ May keywords.Dev a_port ∷ May keywords.Net a_namespace ∷ []
parts_of verbs.Packets = Must (kinds.Number 0 1000000) ∷ []
parts_of verbs.Dump = []
