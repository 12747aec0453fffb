-- Words that fit what their verb wants have a form, unless the verb wants ports.
use Rattle.std.proofs.Common.{◌≡◌, ℕ, ◌≤◌, ◌⊎◌, ⊎_elim, inl, inr, List, [], ◌∷◌, ◌++◌, codes, decimal, refl, ap, sym, ◌∙◌, append-nil, ◌==◌, arith}
use Rattle.inet_io.specs.Texts.{end_text}
use Rattle.flat_list.specs.declared.command.End.{End}
use Rattle.flat_list.specs.declared.command.Query.{Query}
use Rattle.flat_list.specs.declared.owned.Options.{Options}
use Rattle.flat_list.specs.declared.command.Command.TheVariants as commands
use Rattle.line_forms.specs.declared.kind.Keyword.TheVariants as keywords
use Rattle.line_forms.specs.declared.kind.Kind.TheVariants as kinds
use Rattle.line_forms.specs.declared.verb.Verb.{Verb}
use Rattle.line_forms.specs.declared.verb.Verb.TheVariants as verbs
use Rattle.line_forms.specs.declared.verb.Part.{Part}
use Rattle.line_forms.specs.declared.verb.Part.TheVariants.{Must, May, Flag}
use Rattle.line_forms.specs.Kinds.{IsOf, parts_of, newcomer_parts, verb_text, a_port, a_namespace, any_number}
use Rattle.line_forms.specs.Wants.{Fit, wants}
use Rattle.sock_script.specs.declared.line.Line.TheVariants as lines
use Rattle.sock_script.specs.Forms.{EndFits, ends_words, option_words, namespace_words, user_words, device_words, source_words, flag_words}
use Rattle.sock_script.proofs.Words.{switch_of, options_of, flag-last, from_noport, from_reuseport, from_reuseaddr, from_device, from_user}
use Rattle.refusals.specs.Ports.{IsForm}
use Rattle.refusals.proofs.Options.{net_of, uid_of, dev_of, from_of, flag_of}

-- what stands behind a verb fits
abbrev Fits : Verb → List (List ℕ) → Type 0
Fits verb rest = Fit (wants (parts_of verb) rest) rest

-- what may stand behind a socket's label, from each part on
abbrev late_parts : List Part
late_parts = Flag keywords.NoPort ∷ []

abbrev port_parts : List Part
port_parts = Flag keywords.ReusePort ∷ late_parts

abbrev flag_parts : List Part
flag_parts = Flag keywords.ReuseAddr ∷ port_parts

abbrev dev_parts : List Part
dev_parts = May keywords.Dev a_port ∷ flag_parts

abbrev uid_parts : List Part
uid_parts = May keywords.Uid any_number ∷ dev_parts

-- two lists of the same words
cons_eq : (x y : List ℕ) (xs ys : List (List ℕ)) → x ≡ y → xs ≡ ys → x ∷ xs ≡ y ∷ ys
cons_eq x y xs ys e f = cc

-- an end, of a word that is one
end_of : (word : List ℕ) → IsOf kinds.End word → (end : End) × (word ≡ end_text end.addr end.port) × EndFits end
end_of word is = (record { addr = is.0; port = is.1 }, is.2, (is.3, is.4))

no_more : (words : List (List ℕ)) → Fit [] words → words ≡ []
no_more [] fit = refl
no_more (w ∷ ws) fit = absurd fit

label_alone : (rest : List (List ℕ)) → Fit (kinds.Label ∷ []) rest → (label : List ℕ) × (rest ≡ label ∷ []) × IsOf kinds.Label label
label_alone [] fit = absurd fit
label_alone (label ∷ []) fit = (label, refl, fit.0)
label_alone (label ∷ w ∷ ws) fit = absurd fit.1

number_alone : (least most : ℕ) (rest : List (List ℕ)) → Fit (kinds.Number least most ∷ []) rest
    → (n : ℕ) × (rest ≡ decimal n ∷ []) × (least ≤ n) × (n ≤ most)
number_alone least most [] fit = absurd fit
number_alone least most (w ∷ []) fit = (fit.0.0, ap (λ (x : List ℕ). x ∷ []) fit.0.1, fit.0.2, fit.0.3)
number_alone least most (w ∷ v ∷ ws) fit = absurd fit.1

-- the words behind `accept` and `syn`
newcomer_of : (rest : List (List ℕ)) → Fit (wants newcomer_parts rest) rest
    → (listener label : List ℕ) × (from at : End) × (rest ≡ listener ∷ label ∷ ends_words from at)
    × IsOf kinds.Label listener × IsOf kinds.Label label × EndFits from × EndFits at
newcomer_of [] fit = absurd fit
newcomer_of (a ∷ []) fit = absurd fit.1
newcomer_of (a ∷ b ∷ []) fit = absurd fit.1.1
newcomer_of (a ∷ b ∷ c ∷ []) fit = absurd fit.1.1.1
newcomer_of (a ∷ b ∷ c ∷ d ∷ []) fit = absurd fit.1.1.1.1
newcomer_of (a ∷ b ∷ c ∷ d ∷ e ∷ []) fit = absurd fit.1.1.1.1.1
newcomer_of (a ∷ b ∷ c ∷ d ∷ e ∷ f ∷ []) fit =
    let from = end_of d fit.1.1.1.0 in
    let at = end_of f fit.1.1.1.1.1.0 in (
      a,
      b,
      from.0,
      at.0,
      ap (λ (x : List ℕ). a ∷ b ∷ x ∷ d ∷ e ∷ f ∷ []) fit.1.1.0 ∙ ap (λ (x : List ℕ). a ∷ b ∷ codes "from" ∷ x ∷ e ∷ f ∷ []) from.1
          ∙ ap (λ (x : List ℕ). a ∷ b ∷ codes "from" ∷ end_text from.0.addr from.0.port ∷ x ∷ f ∷ []) fit.1.1.1.1.0
          ∙ ap (λ (x : List ℕ). a ∷ b ∷ codes "from" ∷ end_text from.0.addr from.0.port ∷ codes "at" ∷ x ∷ []) at.1,
      fit.0,
      fit.1.0,
      from.2,
      at.2,
    )
newcomer_of (a ∷ b ∷ c ∷ d ∷ e ∷ f ∷ g ∷ ws) fit = absurd fit.1.1.1.1.1.1

-- the words behind `table`
table_of : (rest : List (List ℕ)) → Fits verbs.Table rest → IsForm (codes "table" ∷ rest)
table_of (a ∷ n ∷ b ∷ m ∷ c ∷ k ∷ d ∷ l ∷ []) fit =
    let slots = fit.1.0 in
    let bind = fit.1.1.1.0 in
    let hash = fit.1.1.1.1.1.0 in
    let listen = fit.1.1.1.1.1.1.1.0 in
    let words =
    cons_eq (codes "table") (codes "table") _ _ refl (cons_eq a (codes "slots") _ _ fit.0 (cons_eq n (decimal slots.0) _ _ slots.1
    (cons_eq b (codes "bind") _ _ fit.1.1.0 (cons_eq m (decimal bind.0) _ _ bind.1 (cons_eq c (codes "hash") _ _ fit.1.1.1.1.0
    (cons_eq k (decimal hash.0) _ _ hash.1 (cons_eq d (codes "listen") _ _ fit.1.1.1.1.1.1.0 (ap (λ (x : List ℕ). x ∷ []) listen.1)))))))) in (
      lines.Table (record { slots = slots.0; bind = bind.0; hash = hash.0; listen = listen.0 }),
      (words, record { slots = (slots.2, slots.3); bind = bind.2; hash = hash.2; listen = listen.2 }),
    )
table_of [] fit = absurd fit
table_of (a ∷ []) fit = absurd fit.1
table_of (a ∷ b ∷ []) fit = absurd fit.1.1
table_of (a ∷ b ∷ c ∷ []) fit = absurd fit.1.1.1
table_of (a ∷ b ∷ c ∷ d ∷ []) fit = absurd fit.1.1.1.1
table_of (a ∷ b ∷ c ∷ d ∷ e ∷ []) fit = absurd fit.1.1.1.1.1
table_of (a ∷ b ∷ c ∷ d ∷ e ∷ f ∷ []) fit = absurd fit.1.1.1.1.1.1
table_of (a ∷ b ∷ c ∷ d ∷ e ∷ f ∷ g ∷ []) fit = absurd fit.1.1.1.1.1.1.1
table_of (a ∷ b ∷ c ∷ d ∷ e ∷ f ∷ g ∷ h ∷ i ∷ ws) fit = absurd fit.1.1.1.1.1.1.1.1

-- a socket's line, whose options are taken part by part until no word is left
module _ (label : List ℕ) (options : Options) (words uids devs addrs ports lates last : List (List ℕ)) where
  options_taken : words ≡ namespace_words options.net ++ uids → uids ≡ user_words options.uid ++ devs
      → devs ≡ device_words options.dev ++ addrs → addrs ≡ flag_words (codes "reuseaddr") options.reuseaddr ++ ports
      → ports ≡ flag_words (codes "reuseport") options.reuseport ++ lates → lates ≡ flag_words (codes "noport") options.noport ++ last
      → last ≡ [] → codes "socket" ∷ label ∷ words ≡ codes "socket" ∷ label ∷ option_words options
  options_taken net uid dev addr port late none =
      let late_is : lates ≡ from_noport options =
      late ∙ ap (λ (x : List (List ℕ)). flag_words (codes "noport") options.noport ++ x) none ∙ sym (flag-last (codes "noport") options.noport) in
      let port_is : ports ≡ from_reuseport options =
      port ∙ ap (λ (x : List (List ℕ)). flag_words (codes "reuseport") options.reuseport ++ x) late_is in
      let addr_is : addrs ≡ from_reuseaddr options =
      addr ∙ ap (λ (x : List (List ℕ)). flag_words (codes "reuseaddr") options.reuseaddr ++ x) port_is in
      let dev_is : devs ≡ from_device options = dev ∙ ap (λ (x : List (List ℕ)). device_words options.dev ++ x) addr_is in
      let uid_is : uids ≡ from_user options = uid ∙ ap (λ (x : List (List ℕ)). user_words options.uid ++ x) dev_is in
      ap (λ (x : List (List ℕ)). codes "socket" ∷ label ∷ x)
      (net ∙ ap (λ (x : List (List ℕ)). namespace_words options.net ++ x) uid_is ∙ sym (options_of options))

socket_of : (rest : List (List ℕ)) → Fits verbs.Socket rest → IsForm (codes "socket" ∷ rest)
socket_of [] fit = absurd fit
socket_of (label ∷ words) fit =
    let net = net_of uid_parts words fit.1 in
    let uid = uid_of dev_parts net.1 net.4 in
    let dev = dev_of flag_parts uid.1 uid.4 in
    let addr = flag_of port_parts keywords.ReuseAddr dev.1 dev.4 in
    let port = flag_of late_parts keywords.ReusePort addr.1 addr.3 in
    let late = flag_of [] keywords.NoPort port.1 port.3 in
    let options : Options =
    record { net = net.0; uid = uid.0; dev = dev.0; reuseaddr = addr.0; reuseport = port.0; noport = late.0 } in
    let line =
    options_taken label options words net.1 uid.1 dev.1 addr.1 port.1 late.1 net.2 uid.2 dev.2 addr.2 port.2 late.2 (no_more late.1 late.3) in
    (lines.Command (commands.Socket label options), (line, (fit.0, net.3, uid.3, dev.3)))

to_of : (rest : List (List ℕ)) → Fit (kinds.Word keywords.To ∷ kinds.End ∷ []) rest
    → (end : End) × (rest ≡ codes "to" ∷ end_text end.addr end.port ∷ []) × EndFits end
to_of [] fit = absurd fit
to_of (a ∷ []) fit = absurd fit.1
to_of (a ∷ b ∷ []) fit =
    let end = end_of b fit.1.0 in
    (end.0, ap (λ (x : List ℕ). x ∷ b ∷ []) fit.0 ∙ ap (λ (x : List ℕ). codes "to" ∷ x ∷ []) end.1, end.2)
to_of (a ∷ b ∷ c ∷ ws) fit = absurd fit.1.1

connect_of : (rest : List (List ℕ)) → Fits verbs.Connect rest → IsForm (codes "connect" ∷ rest)
connect_of [] fit = absurd fit
connect_of (label ∷ words) fit =
    let from = from_of (Must (kinds.Word keywords.To) ∷ Must kinds.End ∷ []) words fit.1 in
    let to = to_of from.1 from.4 in (
      lines.Command (commands.Connect label from.0 to.0),
      (
        ap (λ (x : List (List ℕ)). codes "connect" ∷ label ∷ x) (from.2 ∙ ap (λ (x : List (List ℕ)). source_words from.0 ++ x) to.1),
        (fit.0, from.3, to.2),
      ),
    )

look_of : (rest : List (List ℕ)) → Fits verbs.Look rest → IsForm (codes "look" ∷ rest)
look_of [] fit = absurd fit
look_of (a ∷ []) fit = absurd fit.1
look_of (a ∷ b ∷ words) fit =
    let from = end_of a fit.0 in
    let to = end_of b fit.1.0 in
    let dev = dev_of (May keywords.Net a_namespace ∷ []) words fit.1.1 in
    let net = net_of [] dev.1 dev.4 in
    let nets : dev.1 ≡ namespace_words net.0 =
    net.2 ∙ ap (λ (x : List (List ℕ)). namespace_words net.0 ++ x) (no_more net.1 net.4) ∙ append-nil (namespace_words net.0) in
    let all : words ≡ device_words dev.0 ++ namespace_words net.0 = dev.2 ∙ ap (λ (x : List (List ℕ)). device_words dev.0 ++ x) nets in
    let query : Query = record { from = from.0; to = to.0; dev = dev.0; net = net.0 } in (
      lines.Command (commands.Look query),
      (
        ap (λ (x : List ℕ). codes "look" ∷ x ∷ b ∷ words) from.1
            ∙ ap (λ (x : List ℕ). codes "look" ∷ end_text from.0.addr from.0.port ∷ x ∷ words) to.1
            ∙ ap (λ (x : List (List ℕ)). codes "look" ∷ end_text from.0.addr from.0.port ∷ end_text to.0.addr to.0.port ∷ x) all,
        (from.2, to.2, dev.3, net.3),
      ),
    )

capture_of : (rest : List (List ℕ)) → Fits verbs.Capture rest → IsForm (codes "capture" ∷ rest)
capture_of rest fit =
    let dev = dev_of (May keywords.Net a_namespace ∷ []) rest fit in
    let net = net_of [] dev.1 dev.4 in
    let nets : dev.1 ≡ namespace_words net.0 =
    net.2 ∙ ap (λ (x : List (List ℕ)). namespace_words net.0 ++ x) (no_more net.1 net.4) ∙ append-nil (namespace_words net.0) in
    let all : rest ≡ device_words dev.0 ++ namespace_words net.0 = dev.2 ∙ ap (λ (x : List (List ℕ)). device_words dev.0 ++ x) nets in
    (lines.Capture dev.0 net.0, (ap (λ (x : List (List ℕ)). codes "capture" ∷ x) all, dev.3, net.3))

bind_of : (rest : List (List ℕ)) → Fits verbs.Bind rest → IsForm (codes "bind" ∷ rest)
bind_of [] fit = absurd fit
bind_of (a ∷ []) fit = absurd fit.1
bind_of (label ∷ word ∷ []) fit =
    let end = end_of word fit.1.0 in
    (lines.Command (commands.Bind label end.0), (ap (λ (x : List ℕ). codes "bind" ∷ label ∷ x ∷ []) end.1, (fit.0, end.2)))
bind_of (a ∷ b ∷ c ∷ ws) fit = absurd fit.1.1

ack_of : (rest : List (List ℕ)) → Fits verbs.Ack rest → IsForm (codes "ack" ∷ rest)
ack_of [] fit = absurd fit
ack_of (a ∷ []) fit = absurd fit.1
ack_of (request ∷ label ∷ []) fit = (lines.Command (commands.Ack request label), (refl, (fit.0, fit.1.0)))
ack_of (a ∷ b ∷ c ∷ ws) fit = absurd fit.1.1

-- The words behind the verb are ports of which more is asked than a range: two behind `range`, and any behind
-- `reserved`.
abbrev pub HasPorts : Verb → List (List ℕ) → Type 0
HasPorts verbs.Range rest = Fit (wants (parts_of verbs.Range) rest) rest
HasPorts verbs.Reserved rest = Unit {0}
HasPorts _ rest = ⊥

-- words that fit have a form, or the verb wants ports
pub fits-form : (verb : Verb) (rest : List (List ℕ)) → Fits verb rest → HasPorts verb rest ⊎ IsForm (verb_text verb ∷ rest)
fits-form verbs.Table rest fit = inr (table_of rest fit)
fits-form verbs.Range rest fit = inl fit
fits-form verbs.Reserved rest fit = inl tt
fits-form verbs.Seed rest fit =
    let n = number_alone 0 4294967295 rest fit in inr (lines.Seed n.0, (ap (λ (x : List (List ℕ)). codes "seed" ∷ x) n.1, omega (arith, n.3)))
fits-form verbs.Offset rest fit =
    let n = number_alone 0 65535 rest fit in inr (lines.Offset n.0, (ap (λ (x : List (List ℕ)). codes "offset" ∷ x) n.1, omega (arith, n.3)))
fits-form verbs.TimeWaitReuse rest fit =
    let n = number_alone 0 1 rest fit in
    inr (lines.TimeWaitReuse (n.0 == 1), ap (λ (x : List (List ℕ)). codes "twreuse" ∷ x) n.1 ∙ ap (λ (x : List ℕ). codes "twreuse" ∷ x ∷ []) (switch_of n.0 n.3))
fits-form verbs.Script rest fit =
    let n = number_alone 1 64 rest fit in inr (lines.Section n.0, (ap (λ (x : List (List ℕ)). codes "script" ∷ x) n.1, n.2, n.3))
fits-form verbs.Capture rest fit = inr (capture_of rest fit)
fits-form verbs.Socket rest fit = inr (socket_of rest fit)
fits-form verbs.Bind rest fit = inr (bind_of rest fit)
fits-form verbs.Listen rest fit =
    let l = label_alone rest fit in inr (lines.Command (commands.Listen l.0), (ap (λ (x : List (List ℕ)). codes "listen" ∷ x) l.1, l.2))
fits-form verbs.Connect rest fit = inr (connect_of rest fit)
fits-form verbs.Accept rest fit =
    let n = newcomer_of rest fit in
    inr (lines.Command (commands.Accept n.0 n.1 n.2 n.3), (ap (λ (x : List (List ℕ)). codes "accept" ∷ x) n.4, (n.5, n.6, n.7, n.8)))
fits-form verbs.Syn rest fit =
    let n = newcomer_of rest fit in
    inr (lines.Command (commands.Syn n.0 n.1 n.2 n.3), (ap (λ (x : List (List ℕ)). codes "syn" ∷ x) n.4, (n.5, n.6, n.7, n.8)))
fits-form verbs.Ack rest fit = inr (ack_of rest fit)
fits-form verbs.Close rest fit =
    let l = label_alone rest fit in inr (lines.Command (commands.Close l.0), (ap (λ (x : List (List ℕ)). codes "close" ∷ x) l.1, l.2))
fits-form verbs.Drop rest fit =
    let l = label_alone rest fit in inr (lines.Command (commands.Drop l.0), (ap (λ (x : List (List ℕ)). codes "drop" ∷ x) l.1, l.2))
fits-form verbs.At rest fit =
    let n = number_alone 0 4294967295 rest fit in
    inr (lines.Command (commands.At n.0), (ap (λ (x : List (List ℕ)). codes "at" ∷ x) n.1, omega (arith, n.3)))
fits-form verbs.Reap rest fit = inr (lines.Command commands.Reap, (ap (λ (x : List (List ℕ)). codes "reap" ∷ x) (no_more rest fit), tt))
fits-form verbs.Look rest fit = inr (look_of rest fit)
fits-form verbs.Packets rest fit =
    let n = number_alone 0 1000000 rest fit in
    inr (lines.Command (commands.Packets n.0), (ap (λ (x : List (List ℕ)). codes "packets" ∷ x) n.1, n.3))
fits-form verbs.Dump rest fit = inr (lines.Command commands.Dump, (ap (λ (x : List (List ℕ)). codes "dump" ∷ x) (no_more rest fit), tt))

-- a verb that wants ports, and isn't `reserved`
range_of : (verb : Verb) (rest : List (List ℕ)) → HasPorts verb rest → (verb ≡ verbs.Reserved → ⊥) → verb ≡ verbs.Range
range_of verbs.Range rest ports not = refl
range_of verbs.Reserved rest ports not = absurd (not refl)
range_of verbs.Table rest ports not = absurd ports
range_of verbs.Seed rest ports not = absurd ports
range_of verbs.Offset rest ports not = absurd ports
range_of verbs.TimeWaitReuse rest ports not = absurd ports
range_of verbs.Script rest ports not = absurd ports
range_of verbs.Capture rest ports not = absurd ports
range_of verbs.Socket rest ports not = absurd ports
range_of verbs.Bind rest ports not = absurd ports
range_of verbs.Listen rest ports not = absurd ports
range_of verbs.Connect rest ports not = absurd ports
range_of verbs.Accept rest ports not = absurd ports
range_of verbs.Syn rest ports not = absurd ports
range_of verbs.Ack rest ports not = absurd ports
range_of verbs.Close rest ports not = absurd ports
range_of verbs.Drop rest ports not = absurd ports
range_of verbs.At rest ports not = absurd ports
range_of verbs.Reap rest ports not = absurd ports
range_of verbs.Look rest ports not = absurd ports
range_of verbs.Packets rest ports not = absurd ports
range_of verbs.Dump rest ports not = absurd ports

-- words without a form that fit are behind `range`, unless they are behind `reserved`
pub only_range : (verb : Verb) (rest : List (List ℕ)) → Fits verb rest → (verb ≡ verbs.Reserved → ⊥) → (IsForm (verb_text verb ∷ rest) → ⊥)
    → verb ≡ verbs.Range
only_range verb rest fit not formless =
    range_of verb rest (⊎_elim (λ ports. ports) (λ form. absurd (formless form)) (fits-form verb rest fit)) not
